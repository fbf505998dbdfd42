-- The lines of a settings file, each judged by itself and by the section that it stands in.
use Rattle.std.specs.Prelude.{ℕ, ◌+◌, ◌-◌, List, [], ◌∷◌, Option, Some, None, Bool, true, false, ◌&&◌, ◌||◌, ◌==◌, not, length, take, drop, find, slice_index, if◌then◌else◌, option_map}
use Rattle.std.specs.Option.{option_map_or}
use Rattle.std.specs.Str.{is_utf8}
use Rattle.lsv_conf.specs.Table.{row_of}
use Rattle.lsv_conf.specs.Texts.{before, behind, is_empty, pieces, trimmed}
use Rattle.lsv_conf.specs.Values.{takes}

-- what a line is
pub data Line : Type 0 where
  Empty : Line
  -- a section with this name
  Section : List ℕ → Line
  -- a key and its value
  Setting : List ℕ → List ℕ → Line
  -- none of these
  Bad : Line

-- a key and what stands after the first `=`
abbrev pub setting_of : List ℕ → Option (List ℕ) → Line
setting_of key None = Bad
setting_of key (Some value) = if is_empty key then Bad else Setting key value

-- whether a text begins with `[` and ends with `]`
abbrev pub is_section : List ℕ → Bool
is_section text = slice_index text 0 == 91 && slice_index text (length text - 1) == 93

-- what a text without comment, and without blanks at its ends, is
abbrev pub form_of : List ℕ → Line
form_of text =
    if is_empty text || slice_index text 0 == 59 then Empty
    else if is_section text then Section (take (length text - 2) (drop 1 text))
    else setting_of (trimmed (before 61 text)) (option_map trimmed (behind 61 text))

-- what a line's bytes are: from `#` on they are comment
abbrev pub line_of : List ℕ → Line
line_of bytes = if is_utf8 bytes then form_of (trimmed (before 35 bytes)) else Bad

-- a line with its number and the name of its section, if it has one
pub record Placed : Type 0 where
  pub number : ℕ
  pub section : Option (List ℕ)
  pub line : Line

-- the section after a line
abbrev pub section_behind : Option (List ℕ) → Line → Option (List ℕ)
section_behind section (Section name) = Some name
section_behind section Empty = section
section_behind section (Setting key value) = section
section_behind section Bad = section

-- these lines, the first of which has this number and stands in this section
abbrev pub placed : ℕ → Option (List ℕ) → List (List ℕ) → List Placed
placed number section [] = []
placed number section (bytes ∷ more) =
    record { number = number; section = section; line = line_of bytes }
    ∷ placed (number + 1) (section_behind section (line_of bytes)) more

-- the lines of a text, counted from 1
abbrev pub lines_of : List ℕ → List Placed
lines_of text = placed 1 None (pieces 10 text)

-- whether a line in this section is refused: it is bad, stands before the first section, or gives a known key a value that it doesn't take
abbrev pub refuses : Option (List ℕ) → Line → Bool
refuses section Empty = false
refuses section (Section name) = false
refuses section Bad = true
refuses None (Setting key value) = true
refuses (Some name) (Setting key value) = option_map_or (λ r. not (takes r.values value)) (row_of name key) false

abbrev pub is_refused : Placed → Bool
is_refused p = refuses p.section p.line

-- the number of the first refused line, if one is refused
abbrev pub first_refused : List Placed → Option ℕ
first_refused lines = option_map (λ p. p.number) (find is_refused lines)
