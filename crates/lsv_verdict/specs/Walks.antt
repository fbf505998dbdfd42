-- What is put of numbers that are judged one after another.
use Rattle.std.specs.Prelude.{◌≡◌, ◌==◌, ◌⊎◌, ℕ, zero, suc, ◌<◌, ◌≤◌, Bool, true, false, not, ◌&&◌, is_some, List, [], ◌∷◌, ◌++◌, length, take, Option, Some, None, Result, Ok, Err, if◌then◌else◌}
use Rattle.std.specs.List.{flat_map}
use Rattle.lsv_defs.specs.Pieces.{IsPrefix}
use Rattle.lsv_disk.specs.View.{Image}
use Rattle.lsv_check_args.specs.declared.request.Form.{Form}
use Rattle.lsv_finding.specs.declared.checked.Checked.{Checked}
use Rattle.lsv_finding.specs.declared.checked.Checked.TheVariants as kept
use Rattle.lsv_verdict.specs.Json.{json_of, json_of_sums}
use Rattle.lsv_verdict.specs.Sums.{counted, sums_of}
use Rattle.lsv_verdict.specs.Text.{text_of, text_of_sums}
use Rattle.lsv_verdict.specs.Verdicts.{Counts, IsJudged}
use Rattle.lsv_verdict.specs.declared.status.CheckStatus.{CheckStatus}
use Rattle.lsv_verdict.specs.declared.status.CheckStatus.TheVariants.{WriteFault, NoMem}
use Rattle.lsv_verdict.specs.declared.sums.Sums.{Sums}
use Rattle.lsv_verdict.specs.declared.verdict.Verdict.{Verdict}
use Rattle.lsv_verdict.specs.declared.walk.Stop.{Stop}
use Rattle.lsv_verdict.specs.declared.walk.Stop.TheVariants as stops

-- ---- Which numbers

-- the numbers from 1 to this one
abbrev pub numbers_to : ℕ → List ℕ
numbers_to zero = []
numbers_to (suc n) = numbers_to n ++ suc n ∷ []

-- no log is named, so that the whole store is checked
abbrev pub is_whole : List ℕ → Bool
is_whole ids = length ids == 0

-- the first numbers that are asked for: those that are named, or from 1 on if none is
abbrev pub first_numbers : List ℕ → ℕ → List ℕ
first_numbers [] count = numbers_to count
first_numbers (id ∷ ids) count = take count (id ∷ ids)

-- there are so many numbers: as many are named, or no number has more than six digits
abbrev pub IsFew : List ℕ → ℕ → Type 0
IsFew [] count = count ≤ 2176782335
IsFew (id ∷ ids) count = count ≤ length (id ∷ ids)

-- this came of each of these numbers, in order
abbrev pub AreJudged : Form → Bool → Image → Counts → List ℕ → List (Option Verdict) → Type 0
AreJudged form whole image counts [] [] = Unit {0}
AreJudged form whole image counts [] (v ∷ verdicts) = ⊥
AreJudged form whole image counts (n ∷ numbers) [] = ⊥
AreJudged form whole image counts (n ∷ numbers) (v ∷ verdicts) = IsJudged form whole image counts n v × AreJudged form whole image counts numbers verdicts

-- ---- What is put

-- what was found needs no look: a number without a log, and a complete log whose exit reads
abbrev pub is_plain_found : Checked → Bool
is_plain_found kept.Nowhere = true
is_plain_found (kept.Unlisted part) = false
is_plain_found (kept.Closed part) = false
is_plain_found (kept.Broken head body count elapsed part) = false
is_plain_found (kept.Sound head body exit) = (body.kind == 3) && is_some exit

-- a verdict needs no look
abbrev pub is_plain : Option Checked → Bool
is_plain None = false
is_plain (Some found) = is_plain_found found

-- whether a verdict is shown: each, or those alone that need a look
abbrev pub is_shown : Form → Verdict → Bool
is_shown form v = not (form.quiet && is_plain v.found)

-- the line of a verdict
abbrev pub line_of : Form → Verdict → List ℕ
line_of form v = if form.json then json_of v else text_of v

-- the line of a verdict that is shown
abbrev pub shown_line : Form → Verdict → List ℕ
shown_line form v = if is_shown form v then line_of form v else []

-- what is put of a number
abbrev pub put_of : Form → Option Verdict → List ℕ
put_of form None = []
put_of form (Some v) = shown_line form v

-- what is put of numbers
abbrev pub put_all : Form → List (Option Verdict) → List ℕ
put_all form verdicts = flat_map (put_of form) verdicts

-- the line of the sums
abbrev pub line_of_sums : Form → Sums → List ℕ
line_of_sums form sums = if form.json then json_of_sums sums else text_of_sums sums

-- what is put of one number: its line, or at a stop a first part of it or nothing
abbrev pub PutsOne : Form → Bool → Image → Counts → ℕ → Sums → Result Sums Stop → List ℕ → Type 0
PutsOne form whole image counts n before (Ok sums) put = (v : Option Verdict) × IsJudged form whole image counts n v × (put ≡ put_of form v) × (sums ≡ counted before v)
PutsOne form whole image counts n before (Err stop) put = (put ≡ []) ⊎ ((v : Option Verdict) × IsJudged form whole image counts n v × IsPrefix put (put_of form v))

-- a read failed, by these sums
abbrev pub HasUnread : Sums → Type 0
HasUnread sums = 0 < sums.unread

-- how a run ends that stopped so
abbrev pub status_at : Stop → CheckStatus
status_at stops.Sink = WriteFault
status_at stops.NoMem = NoMem

-- these numbers were judged, and this is put of them
pub record Walked (form : Form) (ids : List ℕ) (image : Image) (counts : Counts) (count : ℕ) (sums : Sums) (put : List ℕ) : Type 0 where
  pub verdicts : List (Option Verdict)
  pub are : AreJudged form (is_whole ids) image counts (first_numbers ids count) verdicts
  pub put_is : put ≡ put_all form verdicts
  pub sums_are : sums ≡ sums_of verdicts

-- up to this many of the numbers were judged, and a first part of this is put
pub record WalkedPart (form : Form) (ids : List ℕ) (image : Image) (counts : Counts) (all : ℕ) (put : List ℕ) : Type 0 where
  pub count : ℕ
  pub within : count ≤ all
  pub verdicts : List (Option Verdict)
  pub are : AreJudged form (is_whole ids) image counts (first_numbers ids count) verdicts
  pub part : IsPrefix put (put_all form verdicts)

-- what a walk over this many numbers puts
abbrev pub Walks : Form → List ℕ → Image → Counts → ℕ → Result Sums Stop → List ℕ → Type 0
Walks form ids image counts count (Ok sums) put = Walked form ids image counts count sums put
Walks form ids image counts count (Err stop) put = WalkedPart form ids image counts count put
