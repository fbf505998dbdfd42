-- The place of the first word that no expression can take.
use Rattle.std.specs.Prelude.{◌≡◌, ◌≢◌, ℕ, zero, suc, ◌-◌, ◌^◌, min, List, [], ◌∷◌, length, nat_lt, Option, Some, None, if◌then◌else◌, codes}
use Rattle.std.specs.Str.{bytes_eq}
use Rattle.lsv_search.specs.declared.name.Name.{Name}
use Rattle.lsv_search.specs.declared.name.Name.TheVariants.{Command, Cwd, FromDate, Group, Host, Runas, ToDate, Tty, User}
use Rattle.lsv_search.specs.declared.token.Token.{Token}
use Rattle.lsv_search.specs.declared.token.Token.TheVariants.{Exclamation, Opening, Closing, And, Or, Word}
use Rattle.lsv_search.specs.Names.{name_in}
use Rattle.lsv_search.specs.Dates.{date_in}
use Rattle.lsv_search.specs.Patterns.{IsRefusedPattern}
use Rattle.lsv_search.specs.Grammar.{IsArgument, most_depth}

-- what a word is, if no argument is due
abbrev pub token_of : List ℕ → Token
token_of word =
    if bytes_eq word (codes "!") then Exclamation
    else if bytes_eq word (codes "(") then Opening
    else if bytes_eq word (codes ")") then Closing
    else if bytes_eq word (codes "and") then And
    else if bytes_eq word (codes "or") then Or
    else Word (name_in word)

-- what is open at a place, the innermost first
pub data Opened : Type 0 where
  Negation : Opened
  Parenthesis : Opened

-- what is due at a place, and what is open there: a factor, the argument of a name, or what may follow a factor
pub data Due : Type 0 where
  Factor : List Opened → Due
  Argument : Name → List Opened → Due
  Operator : List Opened → Due

-- a factor is complete, and with it each negation that it is the factor of
abbrev pub complete : List Opened → Due
complete [] = Operator []
complete (Negation ∷ outer) = complete outer
complete (Parenthesis ∷ outer) = Operator (Parenthesis ∷ outer)

-- one more is open, if it may be
abbrev pub deeper : Opened → List Opened → Option Due
deeper opened outer = if nat_lt (length outer) most_depth then Some (Factor (opened ∷ outer)) else None

-- what is due after a word that begins a factor
abbrev pub begin : List Opened → Token → Option Due
begin outer Exclamation = deeper Negation outer
begin outer Opening = deeper Parenthesis outer
begin outer Closing = None
begin outer And = None
begin outer Or = None
begin outer (Word None) = None
begin outer (Word (Some name)) = Some (Argument name outer)

-- what is due after a closing parenthesis, if one is open
abbrev pub close : List Opened → Option Due
close [] = None
close (Negation ∷ outer) = None
close (Parenthesis ∷ outer) = Some (complete outer)

-- what is due after a word that follows a factor
abbrev pub follow : List Opened → Token → Option Due
follow outer Exclamation = begin outer Exclamation
follow outer Opening = begin outer Opening
follow outer Closing = close outer
follow outer And = Some (Factor outer)
follow outer Or = Some (Factor outer)
follow outer (Word name) = begin outer (Word name)

-- a word is refused as the argument of a name
abbrev pub IsRefusedArgument : Name → List ℕ → Type 0
IsRefusedArgument Command word = IsRefusedPattern word
IsRefusedArgument FromDate word = date_in word ≡ None
IsRefusedArgument ToDate word = date_in word ≡ None
IsRefusedArgument Cwd word = ⊥
IsRefusedArgument Group word = ⊥
IsRefusedArgument Host word = ⊥
IsRefusedArgument Runas word = ⊥
IsRefusedArgument Tty word = ⊥
IsRefusedArgument User word = ⊥

-- a word is taken, and then this is due
abbrev pub Takes : Due → List ℕ → Due → Type 0
Takes (Factor outer) word next = begin outer (token_of word) ≡ Some next
Takes (Argument name outer) word next = IsArgument name word × (next ≡ complete outer)
Takes (Operator outer) word next = follow outer (token_of word) ≡ Some next

-- a word isn't taken
abbrev pub Refuses : Due → List ℕ → Type 0
Refuses (Factor outer) word = begin outer (token_of word) ≡ None
Refuses (Argument name outer) word = IsRefusedArgument name word
Refuses (Operator outer) word = follow outer (token_of word) ≡ None

-- the words may not end here
abbrev pub IsUnfinished : Due → Type 0
IsUnfinished (Factor outer) = Unit {0}
IsUnfinished (Argument name outer) = Unit {0}
IsUnfinished (Operator []) = ⊥
IsUnfinished (Operator (opened ∷ outer)) = Unit {0}

-- the word at that place, counted from where this is due, is the first that isn't taken, or there a word is missing
abbrev pub FailsAt : Due → List (List ℕ) → ℕ → Type 0
FailsAt due [] zero = IsUnfinished due
FailsAt due [] (suc at) = ⊥
FailsAt due (word ∷ words) zero = Refuses due word
FailsAt due (word ∷ words) (suc at) = (next : Due) × Takes due word next × FailsAt next words at

-- a place is given as 2 ^ 32 - 1 if it is greater
abbrev pub told : ℕ → ℕ
told place = min place (2 ^ 32 - 1)

-- there are words, and this is the place of the first that no expression takes, or the number of words if one is missing
abbrev pub IsFirstBad : List (List ℕ) → ℕ → Type 0
IsFirstBad words at = (words ≢ []) × ((place : ℕ) × FailsAt (Factor []) words place × (at ≡ told place))
