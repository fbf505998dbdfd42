-- The lines of event logs as text.
use Rattle.std.specs.Prelude.{ℕ, List, [], ◌∷◌, ◌++◌, decimal, codes, Option, Some, None}
use Rattle.lsv_tally.specs.declared.tally.Tally.{Tally}
use Rattle.lsv_tally.specs.declared.tally.Tally.TheVariants.{Nowhere, Unlisted, Short, Bad, Torn, Miscounted, Sound}
use Rattle.lsv_tally.specs.declared.verdict.EventVerdict.{EventVerdict}

-- the start of a line: the state, and the lane of the event log
abbrev pub numbered : List ℕ → ℕ → List ℕ
numbered state lane = state ++ codes "event log " ++ decimal lane ++ codes " ; "

-- a line with a text
abbrev pub said : List ℕ → ℕ → List ℕ → List ℕ
said state lane text = numbered state lane ++ text ++ 10 ∷ []

-- a damaged one, with a number and a text
abbrev pub one_number : ℕ → ℕ → List ℕ → List ℕ
one_number lane n text = numbered (codes "damaged     ") lane ++ decimal n ++ text ++ 10 ∷ []

-- one with two numbers, and a text after each
abbrev pub two_numbers : List ℕ → ℕ → ℕ → List ℕ → ℕ → List ℕ → List ℕ
two_numbers state lane n text m more = numbered state lane ++ decimal n ++ text ++ decimal m ++ more ++ 10 ∷ []

-- what was found
abbrev pub found_text : ℕ → Tally → List ℕ
found_text lane Nowhere = said (codes "absent      ") lane (codes "no file and no journal")
found_text lane Unlisted = said (codes "damaged     ") lane (codes "no entry in its journal, but it has bytes")
found_text lane Short = said (codes "damaged     ") lane (codes "missing, or shorter than its journal says")
found_text lane (Bad lines) = one_number lane lines (codes " lines, and the next one is no event")
found_text lane (Torn lines) = one_number lane lines (codes " lines, and the end of the next one is missing")
found_text lane (Miscounted lines counted) = two_numbers (codes "damaged     ") lane lines (codes " lines, but its journal counts ") counted []
found_text lane (Sound lines bytes) = two_numbers (codes "sound       ") lane lines (codes " lines, ") bytes (codes " bytes")

abbrev pub text_in : ℕ → Option Tally → List ℕ
text_in lane None = said (codes "unread      ") lane (codes "a read of its files failed")
text_in lane (Some found) = found_text lane found

-- the line of an event log
unfoldable pub text_of : EventVerdict → List ℕ
text_of v = text_in v.lane v.found
