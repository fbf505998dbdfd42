-- What is replayed may be stored: its records are valid, and its times are.
use Rattle.std.proofs.Common.{◌≡◌, ℕ, ℤ, List, refl, sym, ◌∙◌, ap, Bool, true, false, Option, Some, None, is_some, IsSome, Result, Ok, Err, codes, if◌then◌else◌}
use Rattle.std.specs.Option.{option_and_then}
use Rattle.serde_json.specs.Data.{Data, Members}
use Rattle.serde_json.specs.Find.{as_bool, as_object, get}
use Rattle.lsv_base.specs.Time.{nanos_of}
use Rattle.lsv_base.specs.declared.time.TimeSpec.{TimeSpec}
use Rattle.lsv_info.specs.Reading.{and_then, entries_in, exit_in, exit_of, head_in, head_of, if_json, if_valid, json_in, needed, number_in, small_in, text_or_empty, time_in}
use Rattle.lsv_info.specs.declared.fault.InfoFault.{InfoFault}
use Rattle.lsv_info.specs.declared.info.Entry.{Entry}
use Rattle.lsv_info.specs.declared.times.Exit.{Exit}
use Rattle.lsv_info.specs.declared.times.Head.{Head}

and_then_ok : {A B : Type 0} (r : Result A InfoFault) (next : A → Result B InfoFault) (b : B) → and_then r next ≡ Ok b → (a : A) × (r ≡ Ok a) × (next a ≡ Ok b)
and_then_ok (Ok a) next b e = (a, refl, e)
and_then_ok (Err fault) next b e = absurd cc

needed_ok : {A : Type 0} (key : List ℕ) (o : Option A) (a : A) → needed key o ≡ Ok a → o ≡ Some a
needed_ok key (Some x) a e = let k : x ≡ a = cc in ap (λ (y : _). Some y) k
needed_ok key None a e = absurd cc

then_some : {A B : Type 0} (f : A → Option B) (o : Option A) (b : B) → option_and_then f o ≡ Some b → (a : A) × (o ≡ Some a) × (f a ≡ Some b)
then_some f (Some a) b e = (a, refl, e)
then_some f None b e = absurd cc

valid_by : (t u : TimeSpec) (b : Bool) → is_some (nanos_of t) ≡ b → if_valid t ≡ Some u → IsSome (nanos_of u)
valid_by t u true is e = let k : Some t ≡ Some u = sym (ap (λ (x : Bool). pick x t) is) ∙ e in (let same : t ≡ u = cc in ap (λ (x : TimeSpec). is_some (nanos_of x)) (sym same) ∙ is)
  where
    pick : Bool → TimeSpec → Option TimeSpec
    pick x s = if x then Some s else None
valid_by t u false is e = absurd (let k : None ≡ Some u = sym (ap (λ (x : Bool). pick x t) is) ∙ e in cc)
  where
    pick : Bool → TimeSpec → Option TimeSpec
    pick x s = if x then Some s else None

-- a time that is read is valid
read_time : (o : Option Data) (t : TimeSpec) → option_and_then time_in o ≡ Some t → IsSome (nanos_of t)
read_time o t e =
    let (json, is, gives) = then_some time_in o t e in
    let (sec, is_sec, more) = then_some (λ sec. option_and_then (λ nsec. if_valid (record { sec = sec; nsec = nsec })) (option_and_then small_in (get (codes "nanoseconds") json))) (option_and_then number_in (get (codes "seconds") json)) t gives in
    let (nsec, is_nsec, valid) = then_some (λ nsec. if_valid (record { sec = sec; nsec = nsec })) (option_and_then small_in (get (codes "nanoseconds") json)) t more in
    valid_by (record { sec = sec; nsec = nsec }) t (is_some (nanos_of (record { sec = sec; nsec = nsec }))) refl valid

-- what is left to read of a head, once its object is found, and then its entries
abbrev after_entries : Data → List Entry → Result Head InfoFault
after_entries json entries = and_then (needed (codes "submit_time") (option_and_then time_in (get (codes "submit_time") json))) (λ submit. let head : Head = record { submit = submit; info = record { entries = entries } } in Ok head)

abbrev after_info : Data → Members → Result Head InfoFault
after_info json members = and_then (entries_in members) (after_entries json)

head_read : (json : Data) (head : Head) → head_in json ≡ Ok head → IsSome (nanos_of head.submit)
head_read json head e =
    let (members, a, e1) = and_then_ok (needed (codes "info") (option_and_then as_object (get (codes "info") json))) (after_info json) head e in
    let (entries, b, e2) = and_then_ok (entries_in members) (after_entries json) head e1 in
    let (submit, c, e3) = and_then_ok (needed (codes "submit_time") (option_and_then time_in (get (codes "submit_time") json))) (λ submit. let h : Head = record { submit = submit; info = record { entries = entries } } in Ok h) head e2 in
    let same : submit ≡ head.submit = ap (λ (r : Result Head InfoFault). submit_of r submit) e3 in
    ap (λ (x : TimeSpec). is_some (nanos_of x)) (sym same) ∙ read_time (get (codes "submit_time") json) submit (needed_ok (codes "submit_time") (option_and_then time_in (get (codes "submit_time") json)) submit c)
  where
    submit_of : Result Head InfoFault → TimeSpec → TimeSpec
    submit_of (Ok h) other = h.submit
    submit_of (Err fault) other = other

-- what is left to read of an exit, piece by piece
abbrev after_run : Data → Bool → List ℕ → ℤ → TimeSpec → Result Exit InfoFault
after_run json dumped error value run = and_then (needed (codes "signal") (text_or_empty (get (codes "signal") json))) (λ signal. let exit : Exit = record { run = run; value = value; dumped = dumped; signal = signal; error = error } in Ok exit)

abbrev after_value : Data → Bool → List ℕ → ℤ → Result Exit InfoFault
after_value json dumped error value = and_then (needed (codes "run_time") (option_and_then time_in (get (codes "run_time") json))) (after_run json dumped error value)

abbrev after_error : Data → Bool → List ℕ → Result Exit InfoFault
after_error json dumped error = and_then (needed (codes "exit_value") (option_and_then small_in (get (codes "exit_value") json))) (after_value json dumped error)

abbrev after_dumped : Data → Bool → Result Exit InfoFault
after_dumped json dumped = and_then (needed (codes "error") (text_or_empty (get (codes "error") json))) (after_error json dumped)

exit_read : (json : Data) (exit : Exit) → exit_in json ≡ Ok exit → IsSome (nanos_of exit.run)
exit_read json exit e =
    let (dumped, a, e1) = and_then_ok (needed (codes "dumped_core") (option_and_then as_bool (get (codes "dumped_core") json))) (after_dumped json) exit e in
    let (error, b, e2) = and_then_ok (needed (codes "error") (text_or_empty (get (codes "error") json))) (after_error json dumped) exit e1 in
    let (value, c, e3) = and_then_ok (needed (codes "exit_value") (option_and_then small_in (get (codes "exit_value") json))) (after_value json dumped error) exit e2 in
    let (run, d, e4) = and_then_ok (needed (codes "run_time") (option_and_then time_in (get (codes "run_time") json))) (after_run json dumped error value) exit e3 in
    let (signal, f, e5) = and_then_ok (needed (codes "signal") (text_or_empty (get (codes "signal") json))) (λ signal. let x : Exit = record { run = run; value = value; dumped = dumped; signal = signal; error = error } in Ok x) exit e4 in
    let same : run ≡ exit.run = ap (λ (r : Result Exit InfoFault). run_of r run) e5 in
    ap (λ (x : TimeSpec). is_some (nanos_of x)) (sym same) ∙ read_time (get (codes "run_time") json) run (needed_ok (codes "run_time") (option_and_then time_in (get (codes "run_time") json)) run d)
  where
    run_of : Result Exit InfoFault → TimeSpec → TimeSpec
    run_of (Ok x) other = x.run
    run_of (Err fault) other = other

json_ok : {A : Type 0} (meaning : Data → Result A InfoFault) (o : Option Data) (a : A) → if_json meaning o ≡ Ok a → (json : Data) × (meaning json ≡ Ok a)
json_ok meaning (Some json) a e = (json, e)
json_ok meaning None a e = absurd cc

-- the times of a head and of an exit that are read are valid
pub head_timed : (text : List ℕ) (head : Head) → head_of text ≡ Ok head → IsSome (nanos_of head.submit)
unfolding head_of
head_timed text head e = let (json, is) = json_ok head_in (json_in text) head e in head_read json head is

pub exit_timed : (text : List ℕ) (exit : Exit) → exit_of text ≡ Ok exit → IsSome (nanos_of exit.run)
unfolding exit_of
exit_timed text exit e = let (json, is) = json_ok exit_in (json_in text) exit e in exit_read json exit is
