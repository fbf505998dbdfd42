-- Why lines of a settings file are refused, each by itself and by the section that it stands in.
use Rattle.std.specs.Prelude.{ℕ, ◌+◌, List, [], ◌∷◌, Option, Some, None, if◌then◌else◌}
use Rattle.std.specs.Option.{option_and_then}
use Rattle.std.specs.Str.{is_utf8}
use Rattle.lsv_conf.specs.Lines.{Line, Empty, Section, Setting, Bad, line_of, section_behind}
use Rattle.lsv_conf.specs.Settings.{told}
use Rattle.lsv_conf.specs.Table.{Row, row_of}
use Rattle.lsv_conf.specs.Texts.{pieces}
use Rattle.lsv_conf.specs.Values.{takes}
use Rattle.lsv_conf.specs.declared.refused.Refused.{Refused}
use Rattle.lsv_conf.specs.declared.refused.Refused.TheVariants.{NotUtf8, NoForm, NoSection, Value}
use Rattle.lsv_conf.specs.declared.refused.Refusals.{Refusals}
use Rattle.lsv_conf.specs.declared.refused.RefusedLine.{RefusedLine}

-- a known key doesn't take this value
abbrev pub wrong_value : List ℕ → List ℕ → Row → Option Refused
wrong_value key value r = if takes r.values value then None else Some (Value (record { key = key; value = value; takes = r.values }))

-- why a line of text in this section is refused, if it is
abbrev pub refusal_of : Option (List ℕ) → Line → Option Refused
refusal_of section Empty = None
refusal_of section (Section name) = None
refusal_of section Bad = Some NoForm
refusal_of None (Setting key value) = Some NoSection
refusal_of (Some name) (Setting key value) = option_and_then (wrong_value key value) (row_of name key)

-- why a line with these bytes is
abbrev pub refusal : Option (List ℕ) → List ℕ → Option Refused
refusal section bytes = if is_utf8 bytes then refusal_of section (line_of bytes) else Some NotUtf8

-- a line of this number is in front of others, if it is refused
abbrev pub onto : ℕ → Option Refused → List RefusedLine → List RefusedLine
onto number None more = more
onto number (Some why) more = (record { line = number; why = why }) ∷ more

-- those of these lines that are refused; the first of them has this number and stands in this section
abbrev pub refused_from : ℕ → Option (List ℕ) → List (List ℕ) → List RefusedLine
refused_from number section [] = []
refused_from number section (bytes ∷ more) =
    onto (told number) (refusal section bytes) (refused_from (number + 1) (section_behind section (line_of bytes)) more)

-- those of a text
abbrev pub refused_lines : List ℕ → List RefusedLine
refused_lines text = refused_from 1 None (pieces 10 text)

-- the refused lines that are answered
abbrev pub lines_in : Refusals → List RefusedLine
lines_in refused = refused.first ∷ refused.more

-- the refused lines so far
abbrev pub found_in : Option Refusals → List RefusedLine
found_in None = []
found_in (Some refused) = lines_in refused
