-- The lines of verdicts as text.
use Rattle.std.specs.Prelude.{◌==◌, ℕ, Bool, ◌+◌, ◌-◌, ◌^◌, List, [], ◌∷◌, ◌++◌, min, decimal, codes, Option, Some, None, if◌then◌else◌}
use Rattle.std.specs.Fmt.{signed_decimal}
use Rattle.hex.specs.Hex.{encode_lower}
use Rattle.lsv_base.specs.LogNo.{digits_of}
use Rattle.lsv_disk.specs.declared.file.Part.{Part}
use Rattle.lsv_disk.specs.declared.file.Part.TheVariants as parts
use Rattle.lsv_bundle.specs.declared.body.Body.{Body}
use Rattle.lsv_bundle.specs.Body.{length_of}
use Rattle.lsv_info.specs.declared.times.Exit.{Exit}
use Rattle.lsv_info.specs.declared.times.Head.{Head}
use Rattle.lsv_record.specs.Records.{seconds}
use Rattle.lsv_event.specs.declared.event.Event.TheVariants.{Accept}
use Rattle.lsv_event.specs.SudoLine.{sudo_line}
use Rattle.lsv_finding.specs.declared.checked.Checked.{Checked}
use Rattle.lsv_finding.specs.declared.checked.Checked.TheVariants as kept
use Rattle.lsv_verdict.specs.declared.sums.Sums.{Sums}
use Rattle.lsv_verdict.specs.declared.verdict.Verdict.{Verdict}

-- the name of a part's file
abbrev pub name_of : Part → List ℕ
name_of parts.Head = codes "log.json"
name_of parts.Exit = codes "exit.json"
name_of parts.Timing = codes "timing"
name_of parts.Stdin = codes "stdin"
name_of parts.Stdout = codes "stdout"
name_of parts.Stderr = codes "stderr"
name_of parts.Ttyin = codes "ttyin"
name_of parts.Ttyout = codes "ttyout"
name_of parts.Lines = codes "slots"
name_of parts.Id = codes "slots"
name_of parts.Commit = codes "slots"
name_of parts.Slots = codes "slots"

-- the line of a log in a listing: that of the event by which it was accepted, without a connection
unfoldable pub listing_line : ℕ → Head → List ℕ
listing_line n head = sudo_line (Accept head.submit (record { worker = 0; seq = 0 }) (Some n) head)

-- the committed bytes of the first four files of a log, and of the last four
abbrev pub first_bytes : Body → ℕ
first_bytes body = length_of body parts.Head + length_of body parts.Exit + length_of body parts.Timing + length_of body parts.Stdin

abbrev pub more_bytes : Body → ℕ
more_bytes body = length_of body parts.Stdout + length_of body parts.Stderr + length_of body parts.Ttyin + length_of body parts.Ttyout

-- the committed bytes of all files of a log, at most 2 ^ 64 - 1
abbrev pub bytes_in : Body → ℕ
bytes_in body = min (first_bytes body + more_bytes body) (2 ^ 64 - 1)

-- the start of a line: the state, and the identifier
abbrev pub started : List ℕ → ℕ → List ℕ
started state n = state ++ digits_of n

-- a line of a state, an identifier and a text
abbrev pub said : List ℕ → ℕ → List ℕ → List ℕ
said state n text = started state n ++ text ++ 10 ∷ []

-- a line goes on with the exit value of a command, if its exit reads
abbrev pub with_exit : List ℕ → Option Exit → List ℕ
with_exit line None = line ++ codes ", exit unreadable"
with_exit line (Some exit) = line ++ codes ", exit " ++ signed_decimal exit.value

-- and says whether the log is relayed
abbrev pub with_relayed : List ℕ → Bool → List ℕ
with_relayed line relayed = if relayed then line ++ codes ", relayed" else line

-- and has the digest of the log, if it was made
abbrev pub with_digest : List ℕ → Option (List ℕ) → List ℕ
with_digest line None = line
with_digest line (Some digest) = line ++ codes ", sha256 " ++ encode_lower digest

-- and says how often the log was cut, if it was
abbrev pub with_cuts : List ℕ → ℕ → List ℕ
with_cuts line cuts = if cuts == 0 then line else line ++ codes ", cuts " ++ decimal cuts

-- and what the last entry says of the log: the records, the time and the bytes
abbrev pub with_body : List ℕ → List ℕ → Body → List ℕ
with_body line until body = line ++ codes " ; " ++ decimal body.count ++ codes " records" ++ until ++ seconds body.elapsed ++ codes " s, " ++ decimal (bytes_in body) ++ codes " bytes"

-- a complete log
abbrev pub complete_text : ℕ → Head → Body → Option Exit → Bool → Option (List ℕ) → List ℕ
complete_text n head body exit relayed digest =
    with_digest (with_relayed (with_exit (with_cuts (with_body (started (codes "complete    ") n) (codes ", ") body) body.extra) exit) relayed) digest ++ codes " ; " ++ listing_line n head

-- an incomplete one
abbrev pub incomplete_text : ℕ → Head → Body → List ℕ
incomplete_text n head body = with_cuts (with_body (started (codes "incomplete  ") n) (codes ", up to ") body) body.extra ++ codes " ; " ++ listing_line n head

-- one that is opened, and damaged after records
abbrev pub broken_text : ℕ → Head → ℕ → ℕ → Part → List ℕ
broken_text n head count time part =
    started (codes "damaged     ") n ++ codes " ; " ++ name_of part ++ codes ", after record " ++ decimal count ++ codes " at " ++ seconds time ++ codes " s ; " ++ listing_line n head

-- a damaged one without a head, of which this part is at fault
abbrev pub faulty_text : ℕ → List ℕ → Part → List ℕ → List ℕ
faulty_text n before part after = started (codes "damaged     ") n ++ before ++ name_of part ++ after ++ 10 ∷ []

-- what was found of a log
abbrev pub found_text : ℕ → Bool → Option (List ℕ) → Checked → List ℕ
found_text n relayed digest kept.Nowhere = said (codes "absent      ") n []
found_text n relayed digest (kept.Unlisted part) = faulty_text n (codes " ; no entry in slots, but ") part (codes " has bytes")
found_text n relayed digest (kept.Closed part) = faulty_text n (codes " ; ") part (codes " is missing, short or unreadable")
found_text n relayed digest (kept.Broken head body count time part) = broken_text n head count time part
found_text n relayed digest (kept.Sound head body exit) = if body.kind == 3 then complete_text n head body exit relayed digest else incomplete_text n head body

-- the line of a verdict
abbrev pub text_in : ℕ → Option Checked → Bool → Option (List ℕ) → List ℕ
text_in n None relayed digest = said (codes "unread      ") n (codes " ; a read of its files failed")
text_in n (Some found) relayed digest = found_text n relayed digest found

unfoldable pub text_of : Verdict → List ℕ
text_of v = text_in v.number v.found v.relayed v.digest

-- the line of the sums
unfoldable pub text_of_sums : Sums → List ℕ
text_of_sums sums =
    decimal sums.complete ++ codes " complete, " ++ decimal sums.incomplete ++ codes " incomplete, " ++ decimal sums.damaged ++ codes " damaged, " ++ decimal sums.unread ++ codes " unread, "
    ++ decimal sums.absent ++ codes " absent" ++ 10 ∷ []
