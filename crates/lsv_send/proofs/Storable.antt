-- A log that the disk holds may be sent: its records are valid, and its times too.
use Rattle.std.proofs.Common.{◌≡◌, ◌∙◌, ℕ, ℤ, Bool, true, false, List, refl, sym, ap, subst, Option, None, Some, Result, Ok, Err}
use Rattle.std.specs.Prelude.{IsSome, is_some, if◌then◌else◌, codes}
use Rattle.std.specs.Option.{option_and_then}
use Rattle.lsv_base.specs.Time.{nanos_of}
use Rattle.lsv_base.specs.declared.time.TimeSpec.{TimeSpec}
use Rattle.lsv_bundle.specs.declared.body.Body.{Body}
use Rattle.lsv_disk.specs.View.{Image}
use Rattle.lsv_info.specs.Reading.{and_then, entries_in, exit_in, exit_of, head_in, head_of, if_json, if_valid, json_in, needed, number_in, small_in, text_or_empty, time_in}
use Rattle.lsv_info.specs.declared.fault.InfoFault.{InfoFault}
use Rattle.lsv_info.specs.declared.info.Entry.{Entry}
use Rattle.lsv_info.specs.declared.times.Exit.{Exit}
use Rattle.lsv_info.specs.declared.times.Head.{Head}
use Rattle.lsv_iolog.specs.Recovered.{Replays}
use Rattle.lsv_play.specs.Playing.{IsOpened}
use Rattle.lsv_record.specs.Points.{Stored}
use Rattle.lsv_upstream.specs.Jobs.{IsStorable}
use Rattle.lsv_send.specs.Handing.{IsExitBy}
use Rattle.serde_json.specs.Data.{Data, Members}
use Rattle.serde_json.specs.Find.{as_bool, as_object, get}

-- ---- What gave a value

then_ok : {A B : Type 0} (x : Result A InfoFault) (f : A → Result B InfoFault) (b : B) → and_then x f ≡ Ok b → (a : A) × (x ≡ Ok a) × (f a ≡ Ok b)
then_ok (Ok a) f b e = (a, refl, e)
then_ok (Err fault) f b e = absurd (let no : Err fault ≡ Ok b = e in cc)

needed_ok : {A : Type 0} (key : List ℕ) (x : Option A) (a : A) → needed key x ≡ Ok a → x ≡ Some a
needed_ok key (Some b) a e = let same : b ≡ a = cc in ap Some same
needed_ok key None a e = absurd cc

then_some : {A B : Type 0} (f : A → Option B) (x : Option A) (b : B) → option_and_then f x ≡ Some b → (a : A) × (x ≡ Some a) × (f a ≡ Some b)
then_some f (Some a) b e = (a, refl, e)
then_some f None b e = absurd (let no : None ≡ Some b = e in cc)

-- ---- A time that was read is valid

valid_ok : (time found : TimeSpec) → if_valid time ≡ Some found → IsSome (nanos_of found)
valid_ok time found e = go (is_some (nanos_of time)) refl
  where
    go : (b : Bool) → is_some (nanos_of time) ≡ b → IsSome (nanos_of found)
    go true is =
        let given : Some time ≡ Some found = ap (λ (b : Bool). if b then Some time else None) (sym is) ∙ e in
        let same : time ≡ found = cc in
        subst (λ (t : TimeSpec). IsSome (nanos_of t)) same is
    go false is = absurd (let no : None ≡ Some found = ap (λ (b : Bool). if b then Some time else None) (sym is) ∙ e in cc)

abbrev of_nsec : (sec nsec : ℤ) → Option TimeSpec
of_nsec sec nsec = if_valid (record { sec = sec; nsec = nsec })

abbrev of_sec : Data → (sec : ℤ) → Option TimeSpec
of_sec json sec = option_and_then (of_nsec sec) (option_and_then small_in (get (codes "nanoseconds") json))

time_ok : (json : Data) (found : TimeSpec) → time_in json ≡ Some found → IsSome (nanos_of found)
time_ok json found e =
    let sec = then_some (of_sec json) (option_and_then number_in (get (codes "seconds") json)) found e in
    let nsec = then_some (of_nsec sec.0) (option_and_then small_in (get (codes "nanoseconds") json)) found sec.2 in
    valid_ok (record { sec = sec.0; nsec = nsec.0 }) found nsec.2

member_ok : (key : List ℕ) (x : Option Data) (found : TimeSpec) → needed key (option_and_then time_in x) ≡ Ok found → IsSome (nanos_of found)
member_ok key x found e =
    let one = then_some time_in x found (needed_ok key (option_and_then time_in x) found e) in
    time_ok one.0 found one.2

-- ---- A head, and an exit

abbrev of_submit : List Entry → TimeSpec → Result Head InfoFault
of_submit entries submit = Ok (record { submit = submit; info = record { entries = entries } })

abbrev of_entries : Data → List Entry → Result Head InfoFault
of_entries json entries = and_then (needed (codes "submit_time") (option_and_then time_in (get (codes "submit_time") json))) (of_submit entries)

abbrev of_members : Data → Members → Result Head InfoFault
of_members json members = and_then (entries_in members) (of_entries json)

head_time : (json : Data) (head : Head) → head_in json ≡ Ok head → IsSome (nanos_of head.submit)
head_time json head e =
    let members = then_ok (needed (codes "info") (option_and_then as_object (get (codes "info") json))) (of_members json) head e in
    let entries = then_ok (entries_in members.0) (of_entries json) head members.2 in
    let submit = then_ok (needed (codes "submit_time") (option_and_then time_in (get (codes "submit_time") json))) (of_submit entries.0) head entries.2 in
    let all : of_submit entries.0 submit.0 ≡ Ok head = submit.2 in
    let same : record { submit = submit.0; info = record { entries = entries.0 } } ≡ head = cc in
    subst (λ (h : Head). IsSome (nanos_of h.submit)) same (member_ok (codes "submit_time") (get (codes "submit_time") json) submit.0 submit.1)

module _ (json : Data) where
  abbrev of_signal : Bool → List ℕ → ℤ → TimeSpec → List ℕ → Result Exit InfoFault
  of_signal dumped error value run signal = Ok (record { run = run; value = value; dumped = dumped; signal = signal; error = error })

  abbrev of_run : Bool → List ℕ → ℤ → TimeSpec → Result Exit InfoFault
  of_run dumped error value run = and_then (needed (codes "signal") (text_or_empty (get (codes "signal") json))) (of_signal dumped error value run)

  abbrev of_value : Bool → List ℕ → ℤ → Result Exit InfoFault
  of_value dumped error value = and_then (needed (codes "run_time") (option_and_then time_in (get (codes "run_time") json))) (of_run dumped error value)

  abbrev of_error : Bool → List ℕ → Result Exit InfoFault
  of_error dumped error = and_then (needed (codes "exit_value") (option_and_then small_in (get (codes "exit_value") json))) (of_value dumped error)

  abbrev of_dumped : Bool → Result Exit InfoFault
  of_dumped dumped = and_then (needed (codes "error") (text_or_empty (get (codes "error") json))) (of_error dumped)

  exit_time : (exit : Exit) → exit_in json ≡ Ok exit → IsSome (nanos_of exit.run)
  exit_time exit e =
      let dumped = then_ok (needed (codes "dumped_core") (option_and_then as_bool (get (codes "dumped_core") json))) of_dumped exit e in
      let error = then_ok (needed (codes "error") (text_or_empty (get (codes "error") json))) (of_error dumped.0) exit dumped.2 in
      let value = then_ok (needed (codes "exit_value") (option_and_then small_in (get (codes "exit_value") json))) (of_value dumped.0 error.0) exit error.2 in
      let run = then_ok (needed (codes "run_time") (option_and_then time_in (get (codes "run_time") json))) (of_run dumped.0 error.0 value.0) exit value.2 in
      let signal = then_ok (needed (codes "signal") (text_or_empty (get (codes "signal") json))) (of_signal dumped.0 error.0 value.0 run.0) exit run.2 in
      let all : of_signal dumped.0 error.0 value.0 run.0 signal.0 ≡ Ok exit = signal.2 in
      let same : record { run = run.0; value = value.0; dumped = dumped.0; signal = signal.0; error = error.0 } ≡ exit = cc in
      subst (λ (x : Exit). IsSome (nanos_of x.run)) same (member_ok (codes "run_time") (get (codes "run_time") json) run.0 run.1)

json_ok : {A : Type 0} (meaning : Data → Result A InfoFault) (json : Option Data) (a : A) → if_json meaning json ≡ Ok a → (d : Data) × (meaning d ≡ Ok a)
json_ok meaning (Some d) a e = (d, e)
json_ok meaning None a e = absurd cc

head_valid : (text : List ℕ) (head : Head) → head_of text ≡ Ok head → IsSome (nanos_of head.submit)
unfolding head_of
head_valid text head e = let json = json_ok head_in (json_in text) head e in head_time json.0 head json.1

exit_valid : (text : List ℕ) (exit : Exit) → exit_of text ≡ Ok exit → IsSome (nanos_of exit.run)
unfolding exit_of
exit_valid text exit e = let json = json_ok exit_in (json_in text) exit e in exit_time json.0 exit json.1

exit_some : (n : ℕ) (body : Body) (image : Image) (exit : Option Exit) → IsExitBy None n body image exit → (x : Exit) → exit ≡ Some x → IsSome (nanos_of x.run)
exit_some n body image None is x e = absurd (let no : None ≡ Some x = e in cc)
exit_some n body image (Some y) is x e = let same : y ≡ x = cc in subst (λ (z : Exit). IsSome (nanos_of z.run)) same (exit_valid _ y is.1)

pub storable : (n : ℕ) (body : Body) (head : Head) (image : Image) (log : Stored) (exit : Option Exit) → IsOpened n body head image → Replays image n (Some log) → IsExitBy None n body image exit → IsStorable head log.records exit
storable n body head image log exit opened holds exit_is = record {
  valid = holds.is.valid;
  in_time = holds.is.in_time;
  begun = head_valid _ head opened.head_is;
  ended = exit_some n body image exit exit_is;
}
