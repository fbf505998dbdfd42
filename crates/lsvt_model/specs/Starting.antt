-- The machine over an empty store, and at the start of another run.
use Rattle.std.specs.Prelude.{ℕ, List, [], length, None}
use Rattle.lsv_session.specs.declared.connection.ConnState.TheVariants.{Fresh}
use Rattle.lsv_machine.specs.Machine.{LogState, LogState.Absent, LogState.Damaged, LogState.There, Machine}

-- nothing is stored, and nobody has come
abbrev pub empty_machine : List (List ℕ) → Machine
empty_machine texts = record {
  texts = texts;
  logs = λ n. Absent;
  states = λ k. Fresh;
  owner = λ n. None;
  last = 0;
  failed_draws = 0;
  waiting = [];
  lines = [];
  fresh = [];
  noting = [];
}

-- a log of which all records are promised
abbrev pub all_promised : LogState → LogState
all_promised Absent = Absent
all_promised Damaged = Damaged
all_promised (There stored promised) = There stored (length stored.records)

-- a run with these texts begins over what a machine has stored
abbrev pub begins : List (List ℕ) → Machine → Machine
begins texts m = record {
  texts = texts;
  logs = λ n. all_promised (m.logs n);
  states = λ k. Fresh;
  owner = λ n. None;
  last = m.last;
  failed_draws = 0;
  waiting = [];
  lines = m.lines;
  fresh = [];
  noting = [];
}
