-- Why a word of a search isn't taken, by what is due at its place.
use Rattle.std.specs.Prelude.{◌≡◌, ℕ, List, Option, Some, None, fold, slice_get, take}
use Rattle.lsv_search.specs.declared.bad.BadWord.{BadWord}
use Rattle.lsv_search.specs.declared.bad.BadWord.TheVariants.{NeedsSearch, NoName, TooDeep, NotOpen, NotClosed, NoDate, NoPattern, NeedsArgument}
use Rattle.lsv_search.specs.declared.bad.Due.{Due}
use Rattle.lsv_search.specs.declared.bad.Due.TheVariants.{Search, Argument, Operator}
use Rattle.lsv_search.specs.declared.name.Name.{Name}
use Rattle.lsv_search.specs.declared.name.Name.TheVariants.{Command, Cwd, FromDate, Group, Host, Runas, ToDate, Tty, User}
use Rattle.lsv_search.specs.declared.token.Token.{Token}
use Rattle.lsv_search.specs.declared.token.Token.TheVariants.{Exclamation, Opening, Closing, And, Or, Word}
use Rattle.lsv_search.specs.Places as places
use Rattle.lsv_search.specs.Places.{FailsAt, IsUnfinished, Refuses, token_of}

-- what is due after a word that begins a search, or follows one
abbrev pub after_token : Token → Due
after_token Exclamation = Search
after_token Opening = Search
after_token Closing = Operator
after_token And = Search
after_token Or = Search
after_token (Word None) = Search
after_token (Word (Some name)) = Argument name

-- what is due after a word that is taken
abbrev pub due_after : Due → List ℕ → Due
due_after Search word = after_token (token_of word)
due_after (Argument name) word = Operator
due_after Operator word = after_token (token_of word)

-- what is due after these words
abbrev pub due_after_all : List (List ℕ) → Due
due_after_all words = fold due_after Search words

-- why this token isn't taken if a search is due
abbrev pub no_start : Token → BadWord
no_start Exclamation = TooDeep
no_start Opening = TooDeep
no_start Closing = NeedsSearch
no_start And = NeedsSearch
no_start Or = NeedsSearch
no_start (Word name) = NoName

-- why it isn't taken after a search
abbrev pub no_operator : Token → BadWord
no_operator Exclamation = TooDeep
no_operator Opening = TooDeep
no_operator Closing = NotOpen
no_operator And = NeedsSearch
no_operator Or = NeedsSearch
no_operator (Word name) = NoName

-- why a word isn't taken as the argument of a name
abbrev pub no_argument : Name → BadWord
no_argument Command = NoPattern
no_argument FromDate = NoDate
no_argument ToDate = NoDate
no_argument Cwd = NeedsArgument Cwd
no_argument Group = NeedsArgument Group
no_argument Host = NeedsArgument Host
no_argument Runas = NeedsArgument Runas
no_argument Tty = NeedsArgument Tty
no_argument User = NeedsArgument User

-- why a word isn't taken, or why one is missing, if this is due
abbrev pub reason : Due → Option (List ℕ) → BadWord
reason Search None = NeedsSearch
reason (Argument name) None = NeedsArgument name
reason Operator None = NotClosed
reason Search (Some word) = no_start (token_of word)
reason (Argument name) (Some word) = no_argument name
reason Operator (Some word) = no_operator (token_of word)

-- the same of a place among words
abbrev pub bad_word : List (List ℕ) → ℕ → BadWord
bad_word words at = reason (due_after_all (take at words)) (slice_get words at)

-- ---- By what the grammar takes

-- what is due, without what is open
abbrev pub kind_of : places.Due → Due
kind_of (places.Factor outer) = Search
kind_of (places.Argument name outer) = Argument name
kind_of (places.Operator outer) = Operator

-- a word isn't taken, or one is missing, if this is due
abbrev pub Fails : places.Due → Option (List ℕ) → Type 0
Fails due None = IsUnfinished due
Fails due (Some word) = Refuses due word

-- at this place the grammar fails, and the reason is by what is due there
pub record IsReasonAt (words : List (List ℕ)) (at : ℕ) : Type 0 where
  pub due : places.Due
  pub fails : Fails due (slice_get words at)
  pub same : bad_word words at ≡ reason (kind_of due) (slice_get words at)
