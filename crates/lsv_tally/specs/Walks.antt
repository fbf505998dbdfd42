-- What is put of the event logs of all lanes, one after another.
use Rattle.std.specs.Prelude.{◌≡◌, ◌⊎◌, ◌<◌, ◌≤◌, ◌+◌, ◌-◌, ◌^◌, ◌++◌, min, ℕ, zero, suc, Bool, true, not, List, [], ◌∷◌, fold, Option, Some, None, Result, Ok, Err, if◌then◌else◌}
use Rattle.std.specs.List.{flat_map}
use Rattle.lsv_defs.specs.Pieces.{IsPrefix}
use Rattle.lsv_disk.specs.declared.file.FileId.{FileId}
use Rattle.lsv_disk.specs.View.{Image}
use Rattle.lsv_check_args.specs.declared.request.Form.{Form}
use Rattle.lsv_eventlog.specs.Recovered.{IsOfEventLog}
use Rattle.lsv_verdict.specs.Verdicts.{Counts, HasFailed}
use Rattle.lsv_verdict.specs.declared.walk.Stop.{Stop}
use Rattle.lsv_tally.specs.Json.{json_of}
use Rattle.lsv_tally.specs.Tallies.{IsTally}
use Rattle.lsv_tally.specs.Text.{text_of}
use Rattle.lsv_tally.specs.declared.tally.Tally.{Tally}
use Rattle.lsv_tally.specs.declared.tally.Tally.TheVariants as tallies
use Rattle.lsv_tally.specs.declared.verdict.EventVerdict.{EventVerdict}
use Rattle.lsv_tally.specs.declared.walk.EventSums.{EventSums}

-- the file is one of some event log
abbrev pub IsOfEvents : FileId → Type 0
IsOfEvents file = (lane : ℕ) × IsOfEventLog lane file

-- ---- What is said of one

-- what was found is so; nothing was only if a read of its files failed
abbrev pub IsSoFound : Image → Counts → ℕ → Option Tally → Type 0
IsSoFound image counts lane None = HasFailed (IsOfEventLog lane) counts
IsSoFound image counts lane (Some found) = IsTally image lane found

-- the verdict of the event log of a lane is by what this image has, and by these counts of faults
pub record IsVerdict (image : Image) (counts : Counts) (lane : ℕ) (v : EventVerdict) : Type 0 where
  pub lane_is : v.lane ≡ lane
  pub found : IsSoFound image counts lane v.found

-- this is said of the event logs of the first lanes, in order
abbrev pub AreVerdicts : Image → Counts → ℕ → List EventVerdict → Type 0
AreVerdicts image counts zero verdicts = verdicts ≡ []
AreVerdicts image counts (suc lanes) verdicts = (before : List EventVerdict) × (v : EventVerdict) × (verdicts ≡ before ++ v ∷ []) × AreVerdicts image counts lanes before × IsVerdict image counts lanes v

-- ---- How many are not sound

-- none yet
abbrev pub no_sums : EventSums
no_sums = record { damaged = 0; unread = 0 }

-- one more, up to the last number of 32 bits
abbrev pub one_more : ℕ → ℕ
one_more n = min (n + 1) (2 ^ 32 - 1)

-- with one event log more: each that is neither sound nor unread counts as damaged
abbrev pub counted : EventSums → Option Tally → EventSums
counted sums None = record sums { unread = one_more sums.unread }
counted sums (Some tallies.Nowhere) = record sums { damaged = one_more sums.damaged }
counted sums (Some tallies.Unlisted) = record sums { damaged = one_more sums.damaged }
counted sums (Some tallies.Short) = record sums { damaged = one_more sums.damaged }
counted sums (Some (tallies.Bad lines)) = record sums { damaged = one_more sums.damaged }
counted sums (Some (tallies.Torn lines)) = record sums { damaged = one_more sums.damaged }
counted sums (Some (tallies.Miscounted lines n)) = record sums { damaged = one_more sums.damaged }
counted sums (Some (tallies.Sound lines bytes)) = sums

-- how many of these are not sound
abbrev pub sums_of : List EventVerdict → EventSums
sums_of verdicts = fold (λ sums v. counted sums v.found) no_sums verdicts

-- a read failed, by these sums
abbrev pub HasUnread : EventSums → Type 0
HasUnread sums = 0 < sums.unread

-- ---- What is put

-- whether the line of what was found is shown: each, or those alone that need a look
abbrev pub shows : Bool → Option Tally → Bool
shows quiet None = true
shows quiet (Some tallies.Nowhere) = true
shows quiet (Some tallies.Unlisted) = true
shows quiet (Some tallies.Short) = true
shows quiet (Some (tallies.Bad lines)) = true
shows quiet (Some (tallies.Torn lines)) = true
shows quiet (Some (tallies.Miscounted lines n)) = true
shows quiet (Some (tallies.Sound lines bytes)) = not quiet

abbrev pub is_shown : Form → EventVerdict → Bool
is_shown form v = shows form.quiet v.found

-- the line of an event log
abbrev pub line_of : Form → EventVerdict → List ℕ
line_of form v = if form.json then json_of v else text_of v

-- its line, if it is shown
abbrev pub shown_line : Form → EventVerdict → List ℕ
shown_line form v = if is_shown form v then line_of form v else []

-- what is put of event logs
abbrev pub put_all : Form → List EventVerdict → List ℕ
put_all form verdicts = flat_map (shown_line form) verdicts

-- what is put of one: its line, or at a stop a first part of it or nothing
abbrev pub PutsOne : Form → Image → Counts → ℕ → EventSums → Result EventSums Stop → List ℕ → Type 0
PutsOne form image counts lane before (Ok sums) put = (v : EventVerdict) × IsVerdict image counts lane v × (put ≡ shown_line form v) × (sums ≡ counted before v.found)
PutsOne form image counts lane before (Err stop) put = (put ≡ []) ⊎ ((v : EventVerdict) × IsVerdict image counts lane v × IsPrefix put (shown_line form v))

-- the event logs of the first lanes were read, and this is put of them
pub record Walked (form : Form) (image : Image) (counts : Counts) (lanes : ℕ) (sums : EventSums) (put : List ℕ) : Type 0 where
  pub verdicts : List EventVerdict
  pub are : AreVerdicts image counts lanes verdicts
  pub put_is : put ≡ put_all form verdicts
  pub sums_are : sums ≡ sums_of verdicts

-- up to this many of them were read, and a first part of this is put
pub record WalkedPart (form : Form) (image : Image) (counts : Counts) (all : ℕ) (put : List ℕ) : Type 0 where
  pub lanes : ℕ
  pub within : lanes ≤ all
  pub verdicts : List EventVerdict
  pub are : AreVerdicts image counts lanes verdicts
  pub part : IsPrefix put (put_all form verdicts)

-- what a walk over this many lanes puts
abbrev pub Walks : Form → Image → Counts → ℕ → Result EventSums Stop → List ℕ → Type 0
Walks form image counts lanes (Ok sums) put = Walked form image counts lanes sums put
Walks form image counts lanes (Err stop) put = WalkedPart form image counts lanes put
