-- The lines of a text, as they are read.
use Rattle.std.specs.Prelude.{◌≡◌, ◌≢◌, ◌⊎◌, ◌<◌, ◌≤◌, ◌++◌, ℕ, List, [], ◌∷◌, true, false, length, All}
use Rattle.std.specs.List.{flat_map}
use Rattle.lsv_tally.specs.Events.{reads}
use Rattle.lsv_tally.specs.declared.reading.Ending.{Ending}
use Rattle.lsv_tally.specs.declared.reading.Ending.TheVariants.{Whole, Torn, Bad}

-- a line with its line feed
abbrev pub ended : List ℕ → List ℕ
ended line = line ++ 10 ∷ []

-- lines, each with its line feed
abbrev pub text_of : List (List ℕ) → List ℕ
text_of lines = flat_map ended lines

-- no line feed stands in it
abbrev pub IsUnbroken : List ℕ → Type 0
IsUnbroken bytes = All (λ byte. byte ≢ 10) bytes

-- a line without its line feed, which is an event
pub record IsEventLine (line : List ℕ) : Type 0 where
  pub unbroken : IsUnbroken line
  pub event : reads line ≡ true

-- a text goes on with a line that is no event: its line feed comes, or more than 2 ^ 24 bytes before any
pub record IsBadNext (rest : List ℕ) : Type 0 where
  pub line : List ℕ
  pub more : List ℕ
  pub unbroken : IsUnbroken line
  pub bad : ((rest ≡ line ++ 10 ∷ more) × (reads line ≡ false)) ⊎ ((rest ≡ line ++ more) × (16777216 < length line))

-- what stands after the lines that were read
abbrev pub EndsSo : Ending → List ℕ → Type 0
EndsSo Whole rest = rest ≡ []
EndsSo Torn rest = (rest ≢ []) × IsUnbroken rest × (length rest ≤ 16777216)
EndsSo Bad rest = IsBadNext rest

-- a text begins with this many lines that are events, and then ends so
pub record IsReadTo (count : ℕ) (ending : Ending) (text : List ℕ) : Type 0 where
  pub lines : List (List ℕ)
  pub events : All IsEventLine lines
  pub count_is : count ≡ length lines
  pub rest : List ℕ
  pub whole : text ≡ text_of lines ++ rest
  pub ends : EndsSo ending rest

-- ---- For private clauses

-- a text was read: so many lines that are events, and these bytes after the last line feed
pub record IsAt (count : ℕ) (line text : List ℕ) : Type 0 where
  pub lines : List (List ℕ)
  pub events : All IsEventLine lines
  pub count_is : count ≡ length lines
  pub whole : text ≡ text_of lines ++ line
  pub unbroken : IsUnbroken line
  pub short : length line ≤ 16777216
