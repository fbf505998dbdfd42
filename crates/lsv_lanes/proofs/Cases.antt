-- Two lanes, of which each keeps to its logs.
use Rattle.std.proofs.Common.{◌≡◌, ◌<◌, ℕ, zero, suc, [], ◌∷◌, refl, ap, inl, inr, arith, Some, length}
use Rattle.std.specs.Prelude.{◌==◌, ◌%◌, Bool, true, false, if◌then◌else◌}
use Rattle.lsv_base.specs.Time.{time_of}
use Rattle.lsv_record.specs.Points.{Stored}
use Rattle.lsv_links.specs.Lanes.{lane_of}
use Rattle.lsv_machine.specs.Examples.{conn, one_byte, promising, restarts}
use Rattle.lsv_machine.specs.Machine.{IsOfLane, LogState.Absent, LogState.There, Machine}
use Rattle.lsv_machine.specs.Starts.{StartsAs}
use Rattle.lsv_machine.specs.Turns.{Run}
use Rattle.lsv_machine.specs.Work.{plain}
use Rattle.lsv_machine.proofs.Choices.{EqOr.equal, EqOr.unequal, eq_or, SameOr.alike, SameOr.apart, same_or}
use Rattle.lsv_lanes.specs.Examples.{of_two, one_goes_on, one_log, went_on}
use Rattle.lsv_lanes.specs.Histories.{IsOfRun, jobs_of}
use Rattle.lsv_lanes.specs.Jobs.{CameTo}
use Rattle.lsv_lanes.proofs.Jobs.{keeps}

-- ---- The starts

starts_zero : StartsAs (of_two 0) [] (one_log 0)
starts_zero = record {
  lane = omega arith;
  texts_are = refl;
  promises = promises;
  drawn = inr (0, refl);
  none_above = above_one;
  unknown = λ k. refl;
  free = λ n. refl;
  no_failed_draw = refl;
  none_waits = refl;
  no_line = refl;
  nobody_noted = refl;
}
  where
    promises : (n : ℕ) (stored : Stored) (promised : ℕ) → (one_log 0).logs n ≡ There stored promised → promised ≡ length stored.records
    promises n stored promised e = go (n == 1) refl e
      where
        go : (b : Bool) → (n == 1) ≡ b → (if b then promising (one_byte 5 ∷ []) 1 else Absent) ≡ There stored promised → promised ≡ length stored.records
        go true q e = cc
        go false q e = cc

    above_one : (n : ℕ) → IsOfLane 0 2 n → 1 < n → (one_log 0).logs n ≡ Absent
    above_one n of_lane lt = elim (eq_or n 1) [
      | equal e t ↦ absurd (omega arith)
      | unequal ne e ↦ ap (λ (b : Bool). if b then promising (one_byte 5 ∷ []) 1 else Absent) e
    ]

starts_one : StartsAs (of_two 1) [] (one_log 1)
starts_one = record {
  lane = omega arith;
  texts_are = refl;
  promises = promises;
  drawn = inl refl;
  none_above = λ n of_lane lt. none n;
  unknown = λ k. refl;
  free = λ n. refl;
  no_failed_draw = refl;
  none_waits = refl;
  no_line = refl;
  nobody_noted = refl;
}
  where
    none : (n : ℕ) → (one_log 1).logs n ≡ Absent
    none n = go (n == 1)
      where
        go : (b : Bool) → (if b then Absent else Absent) ≡ Absent
        go true = refl
        go false = refl

    promises : (n : ℕ) (stored : Stored) (promised : ℕ) → (one_log 1).logs n ≡ There stored promised → promised ≡ length stored.records
    promises n stored promised e = absurd (let f = none n in cc)

-- ---- The jobs

came_zero : CameTo 0 2 (jobs_of (went_on 0))
came_zero = record {
  decided = λ k l e. elim (same_or (conn 1) k) [
    | alike p t ↦ let f : lane_of 2 (k.seq % 2) ((restarts 1).body ∷ []) ≡ Some l = rw t at e in cc
    | apart p t ↦ absurd (let f : lane_of 2 (k.seq % 2) [] ≡ Some l = rw t at e in cc)
  ];
  ends = λ k. elim (same_or (conn 1) k) [
    | alike p t ↦ rw t ((λ e. absurd (cc)), tt)
    | apart p t ↦ rw t tt
  ];
}

came_one : CameTo 1 2 (jobs_of (went_on 1))
came_one = record { decided = λ k l e. absurd (cc); ends = λ k. tt }

-- ---- The runs

after : Machine
after = (plain (of_two 0) (time_of 0) (restarts 1) 3 (one_log 0)).machine

run_zero : Run (of_two 0) (one_log 0) (went_on 0) after
unfolding after
run_zero = (
  (plain (of_two 0) (time_of 0) (restarts 1) 3 (one_log 0)).machine,
  inl (record { number = 3; drawn = record { passed = 0; few = omega arith; next = refl }; answers = refl; line = refl; sound = refl; unmarked = refl; now = refl }),
  refl,
)

pub both_run : (lane : ℕ) → lane < 2 → IsOfRun lane 2 (one_goes_on lane)
both_run zero small = record {
  set = of_two 0;
  lane_is = refl;
  lanes_are = refl;
  before = [];
  texts = [];
  run = went_on 0;
  is = refl;
  start = one_log 0;
  starts = starts_zero;
  end = after;
  runs = run_zero;
  keeps = keeps (of_two 0) (went_on 0) came_zero;
}
both_run (suc zero) small = record {
  set = of_two 1;
  lane_is = refl;
  lanes_are = refl;
  before = [];
  texts = [];
  run = went_on 1;
  is = refl;
  start = one_log 1;
  starts = starts_one;
  end = one_log 1;
  runs = refl;
  keeps = keeps (of_two 1) (went_on 1) came_one;
}
both_run (suc (suc lane)) small = absurd (omega arith)
