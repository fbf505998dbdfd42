-- Machines that are no starts, and what may happen from them.
use Rattle.std.proofs.Common.{◌≡◌, ◌<◌, ℕ, [], ◌∷◌, refl, sym, ap, inl, inr, arith, Some, None, length, true, false, Bool, ◌==◌, if◌then◌else◌}
use Rattle.std.specs.Fmt.{digits}
use Rattle.std.specs.Str.{is_utf8, chars}
use Rattle.std.specs.Str.Lossy.{utf8_lossy, utf8_valid_len}
use lib.Utf8.{encode}
use Rattle.json.specs.Print.{escape_byte}
use Rattle.lsv_base.specs.Time.{time_of}
use Rattle.lsv_info.specs.Layout.{head_text}
use Rattle.lsv_record.specs.Points.{Stored}
use Rattle.lsv_session.specs.declared.connection.ConnState.TheVariants.{Fresh, Running}
use Rattle.lsv_request.specs.declared.refusal.Refusal.TheVariants.{LogFull}
use Rattle.lsv_request.specs.declared.request.Request.TheVariants as request
use Rattle.lsv_machine.specs.Answers.{Saying.LogId, say}
use Rattle.lsv_machine.specs.Examples.{above, accepts_with_keys, all_lost, both_write, conn, did, fails_restart, full_head, one_byte, one_lane, promising, restarts, starting, the_head, unpromised}
use Rattle.lsv_machine.specs.Failures.{Step}
use Rattle.lsv_machine.specs.Machine.{IsOfLane, LogState.Absent, LogState.There, Machine, with_owner, with_state}
use Rattle.lsv_machine.specs.Starts.{StartsAs}
use Rattle.lsv_machine.specs.Turns.{Happened.Did, Run, all_acted}
use Rattle.lsv_machine.specs.Work.{Done, draws, fits_file, lined, makes, plain, refused}
use Rattle.lsv_machine.proofs.Choices.{EqOr.equal, EqOr.unequal, eq_or}

five_five : Stored
five_five = record { head = head_text the_head; records = one_byte 5 ∷ one_byte 5 ∷ []; exit = None; cuts = 0 }

pub would_start : StartsAs one_lane [] (starting (promising (one_byte 5 ∷ one_byte 5 ∷ []) 2) 1)
would_start = record {
  lane = omega arith;
  texts_are = refl;
  promises = promises;
  drawn = inr (0, refl);
  none_above = above_one;
  unknown = λ k. refl;
  free = λ n. refl;
  no_failed_draw = refl;
  none_waits = refl;
  no_line = refl;
  nobody_noted = refl;
}
  where
    promises : (n : ℕ) (stored : Stored) (promised : ℕ) → (starting (promising (one_byte 5 ∷ one_byte 5 ∷ []) 2) 1).logs n ≡ There stored promised → promised ≡ length stored.records
    promises n stored promised e = go (n == 1) refl e
      where
        go : (b : Bool) → (n == 1) ≡ b → (if b then promising (one_byte 5 ∷ one_byte 5 ∷ []) 2 else Absent) ≡ There stored promised → promised ≡ length stored.records
        go true q e = cc
        go false q e = cc

    above_one : (n : ℕ) → IsOfLane 0 1 n → 1 < n → (starting (promising (one_byte 5 ∷ one_byte 5 ∷ []) 2) 1).logs n ≡ Absent
    above_one n of_lane lt = elim (eq_or n 1) [
      | equal e t ↦ absurd (omega arith)
      | unequal ne e ↦ ap (λ (b : Bool). if b then promising (one_byte 5 ∷ one_byte 5 ∷ []) 2 else Absent) e
    ]

pub failed_run : Run one_lane unpromised (Did fails_restart ∷ []) all_lost
unfolding five_five
failed_run = (
  all_lost,
  inr (record {
    alive = refl;
    no_line = refl;
    how = inr (inr (
      refl,
      record {
        restart = record { log = 1; point = 1 };
        asks = refl;
        free = refl;
        did = (0, omega arith, refl);
        log = promising [] 0;
        fails = record { stored = five_five; promised = 0; was = refl; unfinished = refl; kept = 1; ends = refl; left = 0; enough = omega arith; cuts = 0; counted = inl refl; now = refl };
        answers = inl refl;
        now = refl;
      },
    ));
  }),
  refl,
)

-- the machine after each of the two jobs
gone_on : Machine
gone_on = (plain one_lane (time_of 0) (restarts 1) 1 above).machine

-- the head's text fits a file, as it computes
head_fits : fits_file (head_text full_head) ≡ true
unfolding head_text utf8_lossy utf8_valid_len is_utf8 chars encode escape_byte digits
head_fits = refl

-- the accept's work, where its head fits a file or not
by_fit : Bool → Done
by_fit b = lined one_lane (time_of 0) (conn 2) Fresh (request.Accept (record { head = full_head; expect_iobufs = true })) 1 gone_on
    (if b then record { answers = say (conn 2) (LogId 1) ∷ []; line = []; machine = with_state (conn 2) (Running (Some 1)) (with_owner 1 (Some (conn 2)) (makes 1 (head_text full_head) gone_on)) }
    else refused (conn 2) LogFull (draws 1 gone_on))

by_fit_is : plain one_lane (time_of 0) (accepts_with_keys 2) 1 gone_on ≡ by_fit true
unfolding gone_on by_fit
by_fit_is = ap by_fit head_fits

second : Step one_lane gone_on (did (accepts_with_keys 2) (say (conn 2) (LogId 1) ∷ [])) (plain one_lane (time_of 0) (accepts_with_keys 2) 1 gone_on).machine
unfolding gone_on by_fit
second = let e : by_fit true ≡ plain one_lane (time_of 0) (accepts_with_keys 2) 1 gone_on = sym by_fit_is in
    inl (record {
      number = 1;
      drawn = record { passed = 0; few = omega arith; next = refl };
      answers = ap (λ (d : Done). d.answers) e;
      line = ap (λ (d : Done). d.line) e;
      sound = refl;
      unmarked = refl;
      now = refl;
    })

pub two_run : (end : Machine) × Run one_lane above (all_acted both_write) end
unfolding gone_on
two_run = (
  (plain one_lane (time_of 0) (accepts_with_keys 2) 1 gone_on).machine,
  (
    gone_on,
    inl (record { number = 1; drawn = record { passed = 0; few = omega arith; next = refl }; answers = refl; line = refl; sound = refl; unmarked = refl; now = refl }),
    ((plain one_lane (time_of 0) (accepts_with_keys 2) 1 gone_on).machine, second, refl),
  ),
)
