-- The names of searches, and which words stand for them.
use Rattle.std.specs.Prelude.{ℕ, List, [], ◌∷◌, filter, Option, Some, None, ◌==◌, Bool, codes}
use Rattle.std.specs.List.{starts_with}
use Rattle.lsv_search.specs.declared.name.Name.{Name}
use Rattle.lsv_search.specs.declared.name.Name.TheVariants.{Command, Cwd, FromDate, Group, Host, Runas, ToDate, Tty, User}

-- the text of a name
abbrev pub text_of : Name → List ℕ
text_of Command = codes "command"
text_of Cwd = codes "cwd"
text_of FromDate = codes "fromdate"
text_of Group = codes "group"
text_of Host = codes "host"
text_of Runas = codes "runas"
text_of ToDate = codes "todate"
text_of Tty = codes "tty"
text_of User = codes "user"

abbrev pub all_names : List Name
all_names = Command ∷ Cwd ∷ FromDate ∷ Group ∷ Host ∷ Runas ∷ ToDate ∷ Tty ∷ User ∷ []

-- the one that there is, if there is just one
abbrev pub only : List Name → Option Name
only [] = None
only (name ∷ []) = Some name
only (name ∷ another ∷ more) = None

-- a name begins with this word
abbrev pub begins_with : List ℕ → Name → Bool
begins_with word name = starts_with (◌==◌) (text_of name) word

-- the name that a word stands for: the only one that begins with it
unfoldable pub name_in : List ℕ → Option Name
name_in word = only (filter (begins_with word) all_names)
