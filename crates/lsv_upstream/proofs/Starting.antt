-- A run in which a relay is acknowledged: a hello, an accept, a record, and the commit point at the turn's end.
use Rattle.std.proofs.Common.{◌≡◌, ℕ, [], ◌∷◌, ◌++◌, refl, sym, ap, inl, arith, Some, length, true, false, Bool, ◌==◌, if◌then◌else◌}
use Rattle.std.specs.Fmt.{digits}
use Rattle.std.specs.Str.{is_utf8, chars}
use Rattle.std.specs.Str.Lossy.{utf8_lossy, utf8_valid_len}
use lib.Utf8.{encode}
use Rattle.json.specs.Print.{escape_byte}
use Rattle.std.specs.Prelude.{Contains}
use Rattle.lsv_base.specs.Time.{time_of}
use Rattle.lsv_disk.specs.declared.file.Owner.{Owner}
use Rattle.lsv_info.specs.Layout.{head_text}
use Rattle.lsv_record.specs.Points.{Stored}
use Rattle.lsv_record.specs.Records.{last_digits}
use Rattle.lsv_request.specs.declared.refusal.Refusal.TheVariants.{LogFull}
use Rattle.lsv_request.specs.declared.request.Request.TheVariants as request
use Rattle.lsv_session.specs.declared.connection.ConnState.TheVariants.{Greeted, Running}
use Rattle.lsv_machine.specs.Answers.{Saying.LogId, say}
use Rattle.lsv_machine.specs.Examples.{accepts_with_keys, conn, did, full_head, one_byte, one_lane, sends, starting}
use Rattle.lsv_machine.specs.Failures.{Step}
use Rattle.lsv_machine.specs.Machine.{LogState.Absent, LogState.There, Machine, with_log, with_owner, with_state}
use Rattle.lsv_machine.specs.Starts.{StartsAs}
use Rattle.lsv_machine.specs.Turns.{EndOfTurn, Happened.Tailed, Run, with_lines}
use Rattle.lsv_machine.specs.Work.{Done, draws, empty_log, fits_file, lined, makes, plain, refused, silently, takes, waits, with_record}
use Rattle.lsv_upstream.specs.Examples.{before_point, greets, turn_end}

pub starts_empty : StartsAs one_lane [] (starting Absent 0)
starts_empty = record {
  lane = omega arith;
  texts_are = refl;
  promises = λ n stored promised e. none n stored promised (n == 1) e;
  drawn = inl refl;
  none_above = λ n of_lane lt. absent (n == 1);
  unknown = λ k. refl;
  free = λ n. refl;
  no_failed_draw = refl;
  none_waits = refl;
  no_line = refl;
  nobody_noted = refl;
}
  where
    absent : (b : Bool) → (if b then Absent else Absent) ≡ Absent
    absent true = refl
    absent false = refl

    none : (n : ℕ) (stored : Stored) (promised : ℕ) (b : Bool) → (if b then Absent else Absent) ≡ There stored promised → promised ≡ length stored.records
    none n stored promised true e = absurd (cc)
    none n stored promised false e = absurd (cc)

-- the machine after the hello
greeted : Machine
greeted = with_state (conn 1) Greeted (starting Absent 0)

-- the head's text fits a file, as it computes
head_fits : fits_file (head_text full_head) ≡ true
unfolding head_text utf8_lossy utf8_valid_len is_utf8 chars encode escape_byte digits
head_fits = refl

-- the accept's work, if its head fits a file or not
by_fit : Bool → Done
by_fit b = lined one_lane (time_of 0) (conn 1) Greeted (request.Accept (record { head = full_head; expect_iobufs = true })) 1 greeted
    (if b then record { answers = say (conn 1) (LogId 1) ∷ []; line = []; machine = with_state (conn 1) (Running (Some 1)) (with_owner 1 (Some (conn 1)) (makes 1 (head_text full_head) greeted)) }
    else refused (conn 1) LogFull (draws 1 greeted))

by_fit_is : plain one_lane (time_of 0) (accepts_with_keys 1) 1 greeted ≡ by_fit true
unfolding greeted by_fit
by_fit_is = ap by_fit head_fits

-- the machine after the accept
opened_one : Machine
opened_one = (by_fit true).machine

-- the record fits its files, as it computes
record_fits : takes (empty_log (head_text full_head)) (one_byte 5) ≡ true
unfolding last_digits digits
record_fits = refl

-- the record's work, if the files take it or not
by_take : Bool → Done
by_take b = lined one_lane (time_of 0) (conn 1) (Running (Some 1)) (request.Record (one_byte 5)) 2 opened_one
    (if b then silently (waits 1 (with_log 1 (There (with_record (one_byte 5) (empty_log (head_text full_head))) 0) opened_one)) else refused (conn 1) LogFull opened_one)

by_take_is : plain one_lane (time_of 0) (sends 1 5) 2 opened_one ≡ by_take true
unfolding greeted by_fit opened_one by_take
by_take_is = ap by_take record_fits

-- the machine after the record
taken_one : Machine
taken_one = (by_take true).machine

first_step : Step one_lane (starting Absent 0) (did (greets 1) []) greeted
unfolding greeted
first_step = inl (record { number = 1; drawn = record { passed = 0; few = omega arith; next = refl }; answers = refl; line = refl; sound = refl; unmarked = refl; now = refl })

second_step : Step one_lane greeted (did (accepts_with_keys 1) (say (conn 1) (LogId 1) ∷ [])) opened_one
unfolding greeted by_fit opened_one
second_step = let e : by_fit true ≡ plain one_lane (time_of 0) (accepts_with_keys 1) 1 greeted = sym by_fit_is in
    inl (record {
      number = 1;
      drawn = record { passed = 0; few = omega arith; next = refl };
      answers = ap (λ (d : Done). d.answers) e;
      line = ap (λ (d : Done). d.line) e;
      sound = refl;
      unmarked = refl;
      now = ap (λ (d : Done). d.machine) e;
    })

third_step : Step one_lane opened_one (did (sends 1 5) []) taken_one
unfolding greeted by_fit opened_one by_take taken_one
third_step = let e : by_take true ≡ plain one_lane (time_of 0) (sends 1 5) 2 opened_one = sym by_take_is in
    inl (record {
      number = 2;
      drawn = record { passed = 0; few = omega arith; next = refl };
      answers = ap (λ (d : Done). d.answers) e;
      line = ap (λ (d : Done). d.line) e;
      sound = refl;
      unmarked = refl;
      now = ap (λ (d : Done). d.machine) e;
    })

-- nobody failed
no_failure : {o : Owner} → Contains [] o → ⊥
no_failure c = let low = c.1 in omega arith

-- the end of the turn
last_step : (end : Machine) × EndOfTurn one_lane taken_one turn_end end
unfolding greeted by_fit opened_one by_take taken_one
last_step = (
  _,
  record {
    mid = with_lines true taken_one;
    last = with_log 1 (There (with_record (one_byte 5) (empty_log (head_text full_head))) 1) (with_lines true taken_one);
    of_lines = [];
    of_logs = turn_end.answers;
    answers = refl;
    lines = inl (no_failure, refl, refl);
    logs = (
      with_log 1 (There (with_record (one_byte 5) (empty_log (head_text full_head))) 1) (with_lines true taken_one),
      turn_end.answers,
      [],
      refl,
      inl (record {
        writer = conn 1;
        owned = refl;
        stored = with_record (one_byte 5) (empty_log (head_text full_head));
        promised = 0;
        was = refl;
        sound = no_failure;
        told = refl;
        now = refl;
      }),
      (refl, refl),
    );
    now = refl;
  },
)

pub whole_run : (end : Machine) × Run one_lane (starting Absent 0) (before_point ++ Tailed turn_end ∷ []) end
whole_run = (last_step.0, (greeted, first_step, (opened_one, second_step, (taken_one, third_step, (last_step.0, last_step.1, refl)))))
