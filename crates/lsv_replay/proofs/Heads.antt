-- A head that is read has a valid time.
use Rattle.std.proofs.Common.{◌≡◌, List, ℕ, ℤ, Option, Some, None, Result, Ok, Err, refl, ap, subst, if◌then◌else◌}
use Rattle.std.specs.Prelude.{IsSome, is_some, codes}
use Rattle.std.specs.Option.{option_and_then}
use Rattle.lsv_base.specs.Time.{nanos_of}
use Rattle.lsv_base.specs.declared.time.TimeSpec.{TimeSpec}
use Rattle.lsv_info.specs.declared.fault.InfoFault.{InfoFault}
use Rattle.lsv_info.specs.declared.info.Entry.{Entry}
use Rattle.lsv_info.specs.declared.times.Head.{Head}
use Rattle.lsv_info.specs.Reading.{and_then, entries_in, head_in, head_of, if_json, if_valid, json_in, needed, number_in, small_in, time_in}
use Rattle.serde_json.specs.Data.{Data, Members}
use Rattle.serde_json.specs.Find.{as_object, get}

needed_ok : {A : Type 0} (key : List ℕ) (o : Option A) (a : A) → needed key o ≡ Ok a → o ≡ Some a
needed_ok {A} key (Some x) a e = let same : x ≡ a = cc in ap (λ (y : A). Some y) same
needed_ok key None a e = absurd (cc)

valid_at : (time t : TimeSpec) (o : Option ℕ) → o ≡ nanos_of time → (if is_some o then Some time else None) ≡ Some t → IsSome (nanos_of t)
valid_at time t None at e = absurd (cc)
valid_at time t (Some n) at e = let same : time ≡ t = cc in subst (λ (x : TimeSpec). IsSome (nanos_of x)) same (subst (λ (x : Option ℕ). IsSome x) at refl)

parts_valid : (seconds nanos : Option ℤ) (t : TimeSpec) → option_and_then (λ sec. option_and_then (λ nsec. if_valid (record { sec = sec; nsec = nsec })) nanos) seconds ≡ Some t → IsSome (nanos_of t)
parts_valid None nanos t e = absurd (cc)
parts_valid (Some sec) None t e = absurd (cc)
parts_valid (Some sec) (Some nsec) t e = valid_at (record { sec = sec; nsec = nsec }) t (nanos_of (record { sec = sec; nsec = nsec })) refl e

time_valid : (json : Data) (t : TimeSpec) → time_in json ≡ Some t → IsSome (nanos_of t)
time_valid json t e = parts_valid (option_and_then number_in (get (codes "seconds") json)) (option_and_then small_in (get (codes "nanoseconds") json)) t e

member_valid : (key : List ℕ) (o : Option Data) (t : TimeSpec) → needed key (option_and_then time_in o) ≡ Ok t → IsSome (nanos_of t)
member_valid key None t e = absurd (cc)
member_valid key (Some json) t e = time_valid json t (needed_ok key (time_in json) t e)

abbrev head_with : List Entry → TimeSpec → Head
head_with entries submit = record { submit = submit; info = record { entries = entries } }

abbrev IsValid : Result TimeSpec InfoFault → Type 0
IsValid times = (t : TimeSpec) → times ≡ Ok t → IsSome (nanos_of t)

submit_valid : (entries : List Entry) (times : Result TimeSpec InfoFault) (head : Head) → IsValid times → and_then times (λ submit. Ok (head_with entries submit)) ≡ Ok head → IsSome (nanos_of head.submit)
submit_valid entries (Err fault) head valid e = absurd (cc)
submit_valid entries (Ok t) head valid e = let same : head_with entries t ≡ head = cc in subst (λ (h : Head). IsSome (nanos_of h.submit)) same (valid t refl)

entries_valid : (read : Result (List Entry) InfoFault) (times : Result TimeSpec InfoFault) (head : Head) → IsValid times
    → and_then read (λ entries. and_then times (λ submit. Ok (head_with entries submit))) ≡ Ok head → IsSome (nanos_of head.submit)
entries_valid (Err fault) times head valid e = absurd (cc)
entries_valid (Ok entries) times head valid e = submit_valid entries times head valid e

members_valid : (found : Result Members InfoFault) (times : Result TimeSpec InfoFault) (head : Head) → IsValid times
    → and_then found (λ members. and_then (entries_in members) (λ entries. and_then times (λ submit. Ok (head_with entries submit)))) ≡ Ok head → IsSome (nanos_of head.submit)
members_valid (Err fault) times head valid e = absurd (cc)
members_valid (Ok members) times head valid e = entries_valid (entries_in members) times head valid e

head_valid : (json : Data) (head : Head) → head_in json ≡ Ok head → IsSome (nanos_of head.submit)
head_valid json head e =
    members_valid (needed (codes "info") (option_and_then as_object (get (codes "info") json))) (needed (codes "submit_time") (option_and_then time_in (get (codes "submit_time") json))) head
    (member_valid (codes "submit_time") (get (codes "submit_time") json)) e

read_valid : (o : Option Data) (head : Head) → if_json head_in o ≡ Ok head → IsSome (nanos_of head.submit)
read_valid (Some json) head e = head_valid json head e
read_valid None head e = absurd (cc)

pub head_timed : (text : List ℕ) (head : Head) → head_of text ≡ Ok head → IsSome (nanos_of head.submit)
unfolding head_of
head_timed text head e = read_valid (json_in text) head e
