-- The lines of verdicts as JSON: one compact object a line, its keys in byte order. A terminal that shows a line meets no control character.
use Rattle.std.specs.Prelude.{ℕ, Bool, List, [], ◌∷◌, ◌++◌, codes, Option, Some, None}
use Rattle.hex.specs.Hex.{encode_lower}
use Rattle.lsv_base.specs.LogNo.{digits_of}
use Rattle.lsv_bundle.specs.declared.body.Body.{Body}
use Rattle.lsv_event.specs.Controls.{uncontrolled}
use Rattle.lsv_info.specs.declared.times.Exit.{Exit}
use Rattle.lsv_info.specs.declared.times.Head.{Head}
use Rattle.lsv_info.specs.Info.{text_of}
use Rattle.lsv_info.specs.Layout.{shown_number, shown_text, time_value}
use Rattle.serde_json.specs.Data.{boolean, number, string, object, Members, no_members, put, unsigned}
use Rattle.serde_json.specs.Written.{compact_text}
use Rattle.lsv_finding.specs.declared.checked.Checked.{Checked}
use Rattle.lsv_finding.specs.declared.checked.Checked.TheVariants as kept
use Rattle.lsv_verdict.specs.Text.{bytes_in, name_of}
use Rattle.lsv_verdict.specs.Verdicts.{class_of}
use Rattle.lsv_verdict.specs.declared.sums.Sums.{Sums}
use Rattle.lsv_verdict.specs.declared.verdict.Class.{Class}
use Rattle.lsv_verdict.specs.declared.verdict.Class.TheVariants.{Complete, Incomplete, Damaged, Unread, Absent}
use Rattle.lsv_verdict.specs.declared.verdict.Verdict.{Verdict}

-- the name of a kind of verdicts
abbrev pub state_of : Class → List ℕ
state_of Complete = codes "complete"
state_of Incomplete = codes "incomplete"
state_of Damaged = codes "damaged"
state_of Unread = codes "unread"
state_of Absent = codes "absent"

-- members with a number
abbrev pub with_number : List ℕ → ℕ → Members → Members
with_number key n members = put key (number (unsigned n)) members

-- members with a text, if there is one
abbrev pub with_text : List ℕ → Option (List ℕ) → Members → Members
with_text key None members = members
with_text key (Some text) members = put key (shown_text text) members

-- members with the counts of a log that was opened: records and elapsed time as far as they were read, committed bytes, and cuts
abbrev pub with_counts : Body → ℕ → ℕ → Members → Members
with_counts body count time members = with_number (codes "cuts") body.extra (with_number (codes "bytes") (bytes_in body) (with_number (codes "elapsed") time (with_number (codes "records") count members)))

-- members with what the client said of the command
abbrev pub with_head : Head → Members → Members
with_head head members =
    with_text (codes "submituser") (text_of head.info (codes "submituser")) (with_text (codes "submithost") (text_of head.info (codes "submithost"))
    (with_text (codes "command") (text_of head.info (codes "command")) (put (codes "submit_time") (time_value head.submit) members)))

-- members with the exit value, if the exit reads
abbrev pub with_exit : Option Exit → Members → Members
with_exit None members = members
with_exit (Some exit) members = put (codes "exit_value") (shown_number exit.value) members

-- members with what was found
abbrev pub with_found : Checked → Members → Members
with_found kept.Nowhere members = members
with_found (kept.Unlisted part) members = put (codes "part") (shown_text (name_of part)) (put (codes "fault") (shown_text (codes "unlisted")) members)
with_found (kept.Closed part) members = put (codes "part") (shown_text (name_of part)) (put (codes "fault") (shown_text (codes "closed")) members)
with_found (kept.Broken head body count time part) members =
    with_head head (with_counts body count time (put (codes "part") (shown_text (name_of part)) (put (codes "fault") (shown_text (codes "broken")) members)))
with_found (kept.Sound head body exit) members = with_head head (with_exit exit (with_counts body body.count body.elapsed members))

abbrev pub with_findings : Option Checked → Members → Members
with_findings None members = members
with_findings (Some found) members = with_found found members

-- members that say whether a complete log is relayed
abbrev pub with_mark : Class → Bool → Members → Members
with_mark Complete relayed members = put (codes "relayed") (boolean relayed) members
with_mark Incomplete relayed members = members
with_mark Damaged relayed members = members
with_mark Unread relayed members = members
with_mark Absent relayed members = members

-- members with the digest of a log, if it was made
abbrev pub with_digest : Option (List ℕ) → Members → Members
with_digest None members = members
with_digest (Some digest) members = put (codes "digest") (string (encode_lower digest)) members

-- the members of a verdict's line
abbrev pub members_of : Verdict → Members
members_of v = with_digest v.digest (with_mark (class_of v) v.relayed (with_findings v.found (put (codes "id") (shown_text (digits_of v.number)) (put (codes "state") (shown_text (state_of (class_of v))) no_members))))

-- the line of a verdict, its DEL and C1 controls by their numbers
unfoldable pub json_of : Verdict → List ℕ
json_of v = uncontrolled 0 (compact_text (object (members_of v))) ++ 10 ∷ []

-- the counts of logs of each kind
abbrev pub counts_of : Sums → Members
counts_of sums =
    with_number (codes "absent") sums.absent (with_number (codes "complete") sums.complete (with_number (codes "damaged") sums.damaged (with_number (codes "incomplete") sums.incomplete (with_number (codes "unread") sums.unread no_members))))

-- and a member with these
abbrev pub sums_members : Sums → Members
sums_members sums = put (codes "sums") (object (counts_of sums)) no_members

-- the line of the sums
unfoldable pub json_of_sums : Sums → List ℕ
json_of_sums sums = compact_text (object (sums_members sums)) ++ 10 ∷ []
