-- The JSON of verdicts has no float, so that it has a text.
use Rattle.std.proofs.Common.{◌≡◌, ℕ, ℤ, pos, negsuc, List, Bool, false, Option, Some, None, Ordering, Less, Equal, Greater, refl}
use Rattle.std.proofs.lemmas.Bool.{or_parts}
use Rattle.std.specs.Cmp.Lexicographic.{slice_cmp}
use Rattle.std.specs.Ordering.{match_ordering, nat_cmp}
use Rattle.std.specs.Prelude.{codes}
use Rattle.lsv_base.specs.declared.time.TimeSpec.{TimeSpec}
use Rattle.lsv_info.specs.Layout.{shown_number, shown_text, time_value}
use Rattle.lsv_base.specs.LogNo.{digits_of}
use Rattle.lsv_info.specs.Info.{text_of}
use Rattle.serde_json.specs.Data.{Data, Members, no_members, member, put, boolean, string, object, number, unsigned}
use Rattle.serde_json.specs.Written.{has_float, members_have_float}
use Rattle.lsv_bundle.specs.declared.body.Body.{Body}
use Rattle.lsv_info.specs.declared.times.Exit.{Exit}
use Rattle.lsv_info.specs.declared.times.Head.{Head}
use Rattle.lsv_finding.specs.declared.checked.Checked.{Checked}
use Rattle.lsv_finding.specs.declared.checked.Checked.TheVariants as kept
use Rattle.hex.specs.Hex.{encode_lower}
use Rattle.lsv_verdict.specs.Text.{bytes_in, name_of}
use Rattle.lsv_verdict.specs.Verdicts.{class_of}
use Rattle.lsv_verdict.specs.Json.{counts_of, members_of, state_of, sums_members, with_counts, with_digest, with_exit, with_found, with_findings, with_head, with_mark, with_number, with_text}
use Rattle.lsv_verdict.specs.declared.sums.Sums.{Sums}
use Rattle.lsv_verdict.specs.declared.verdict.Class.{Class}
use Rattle.lsv_verdict.specs.declared.verdict.Class.TheVariants as classes
use Rattle.lsv_verdict.specs.declared.verdict.Verdict.{Verdict}

number_plain : (n : ℤ) → has_float (shown_number n) ≡ false
number_plain (pos n) = refl
number_plain (negsuc n) = refl

time_plain : (time : TimeSpec) → has_float (time_value time) ≡ false
time_plain time = rw (number_plain time.nsec, number_plain time.sec) refl

ordering_plain : (o : Ordering) (a b c : Members) → members_have_float a ≡ false → members_have_float b ≡ false → members_have_float c ≡ false → members_have_float (match_ordering o a b c) ≡ false
ordering_plain Less a b c p q r = p
ordering_plain Equal a b c p q r = q
ordering_plain Greater a b c p q r = r

pub put_plain : (key : List ℕ) (json : Data) (members : Members) → has_float json ≡ false → members_have_float members ≡ false → members_have_float (put key json members) ≡ false
put_plain key json no_members plain rest = rw plain refl
put_plain key json (member k d ms) plain rest =
    let parts = or_parts (has_float d) _ rest in
    ordering_plain (slice_cmp nat_cmp key k) (member key json (member k d ms)) (member k json ms) (member k d (put key json ms)) (rw plain rest) (rw plain parts.1) (rw parts.0 (put_plain key json ms plain parts.1))

number_more : (key : List ℕ) (n : ℕ) (members : Members) → members_have_float members ≡ false → members_have_float (with_number key n members) ≡ false
number_more key n members plain = put_plain key (number (unsigned n)) members refl plain

text_more : (key : List ℕ) (text : Option (List ℕ)) (members : Members) → members_have_float members ≡ false → members_have_float (with_text key text members) ≡ false
text_more key None members plain = plain
text_more key (Some text) members plain = put_plain key (shown_text text) members refl plain

counts_more : (body : Body) (count time : ℕ) (members : Members) → members_have_float members ≡ false → members_have_float (with_counts body count time members) ≡ false
counts_more body count time members plain =
    let one = with_number (codes "records") count members in
    let two = with_number (codes "elapsed") time one in
    let three = with_number (codes "bytes") (bytes_in body) two in
    number_more (codes "cuts") body.extra three (number_more (codes "bytes") (bytes_in body) two (number_more (codes "elapsed") time one (number_more (codes "records") count members plain)))

head_more : (head : Head) (members : Members) → members_have_float members ≡ false → members_have_float (with_head head members) ≡ false
head_more head members plain =
    let one = put (codes "submit_time") (time_value head.submit) members in
    let two = with_text (codes "command") (text_of head.info (codes "command")) one in
    let three = with_text (codes "submithost") (text_of head.info (codes "submithost")) two in
    text_more (codes "submituser") (text_of head.info (codes "submituser")) three (text_more (codes "submithost") (text_of head.info (codes "submithost")) two
    (text_more (codes "command") (text_of head.info (codes "command")) one (put_plain (codes "submit_time") (time_value head.submit) members (time_plain head.submit) plain)))

exit_more : (exit : Option Exit) (members : Members) → members_have_float members ≡ false → members_have_float (with_exit exit members) ≡ false
exit_more None members plain = plain
exit_more (Some exit) members plain = put_plain (codes "exit_value") (shown_number exit.value) members (number_plain exit.value) plain

fault_more : (fault part : List ℕ) (members : Members) → members_have_float members ≡ false → members_have_float (put (codes "part") (shown_text part) (put (codes "fault") (shown_text fault) members)) ≡ false
fault_more fault part members plain = put_plain (codes "part") (shown_text part) (put (codes "fault") (shown_text fault) members) refl (put_plain (codes "fault") (shown_text fault) members refl plain)

found_more : (found : Checked) (members : Members) → members_have_float members ≡ false → members_have_float (with_found found members) ≡ false
found_more kept.Nowhere members plain = plain
found_more (kept.Unlisted part) members plain = fault_more (codes "unlisted") (name_of part) members plain
found_more (kept.Closed part) members plain = fault_more (codes "closed") (name_of part) members plain
found_more (kept.Broken head body count time part) members plain =
    let one = put (codes "part") (shown_text (name_of part)) (put (codes "fault") (shown_text (codes "broken")) members) in
    head_more head (with_counts body count time one) (counts_more body count time one (fault_more (codes "broken") (name_of part) members plain))
found_more (kept.Sound head body exit) members plain =
    let one = with_counts body body.count body.elapsed members in
    head_more head (with_exit exit one) (exit_more exit one (counts_more body body.count body.elapsed members plain))

findings_more : (found : Option Checked) (members : Members) → members_have_float members ≡ false → members_have_float (with_findings found members) ≡ false
findings_more None members plain = plain
findings_more (Some found) members plain = found_more found members plain

mark_more : (class : Class) (relayed : Bool) (members : Members) → members_have_float members ≡ false → members_have_float (with_mark class relayed members) ≡ false
mark_more classes.Complete relayed members plain = put_plain (codes "relayed") (boolean relayed) members refl plain
mark_more classes.Incomplete relayed members plain = plain
mark_more classes.Damaged relayed members plain = plain
mark_more classes.Unread relayed members plain = plain
mark_more classes.Absent relayed members plain = plain

digest_more : (digest : Option (List ℕ)) (members : Members) → members_have_float members ≡ false → members_have_float (with_digest digest members) ≡ false
digest_more None members plain = plain
digest_more (Some digest) members plain = put_plain (codes "digest") (string (encode_lower digest)) members refl plain

pub members_plain : (v : Verdict) → members_have_float (members_of v) ≡ false
members_plain v =
    let one = put (codes "state") (shown_text (state_of (class_of v))) no_members in
    let two = put (codes "id") (shown_text (digits_of v.number)) one in
    let three = with_findings v.found two in
    let four = with_mark (class_of v) v.relayed three in
    digest_more v.digest four (mark_more (class_of v) v.relayed three (findings_more v.found two
    (put_plain (codes "id") (shown_text (digits_of v.number)) one refl (put_plain (codes "state") (shown_text (state_of (class_of v))) no_members refl refl))))

pub counts_plain : (sums : Sums) → members_have_float (counts_of sums) ≡ false
counts_plain sums =
    let one = with_number (codes "unread") sums.unread no_members in
    let two = with_number (codes "incomplete") sums.incomplete one in
    let three = with_number (codes "damaged") sums.damaged two in
    let four = with_number (codes "complete") sums.complete three in
    number_more (codes "absent") sums.absent four (number_more (codes "complete") sums.complete three (number_more (codes "damaged") sums.damaged two
    (number_more (codes "incomplete") sums.incomplete one (number_more (codes "unread") sums.unread no_members refl))))

pub sums_plain : (sums : Sums) → members_have_float (sums_members sums) ≡ false
sums_plain sums = put_plain (codes "sums") (object (counts_of sums)) no_members (counts_plain sums) refl
