-- The outside of a run at a moment: what is known of its source, its sink, its disk and its tape.
use Rattle.std.specs.Prelude.{ℕ, List}
use Rattle.lsv_base.specs.declared.sink.Sink
use Rattle.lsv_base.specs.declared.source.Source
use Rattle.lsv_disk.specs.View.{DiskView}
use Rattle.lsv_disk.specs.declared.disk.Disk
use Rattle.lsv_turn.specs.Turns.{TapeTurn}
use Rattle.lsv_turn.specs.declared.tape.Tape

-- what is known of the source and of the sink
pub record Wires : Type 1 where
  -- whether they tell their content
  pub source_tells : Type 0
  pub sink_tells : Type 0
  -- the pieces that the source gave, the bytes that it has still to give, how many bytes it gave, and how often a read failed
  pub given : List (List ℕ)
  pub rest : List ℕ
  pub count : ℕ
  pub read_faults : ℕ
  -- the bytes that were put into the sink, and how often a write failed
  pub put : List ℕ
  pub write_faults : ℕ

-- those that these two are
abbrev pub wires_of : {S K : Type 0} → Source.Ghosts S → Sink.Ghosts K → S → K → Wires
wires_of source sink s k = record {
  source_tells = source.tells;
  sink_tells = sink.tells;
  given = source.given s;
  rest = source.rest s;
  count = source.count s;
  read_faults = source.faults s;
  put = sink.put k;
  write_faults = sink.faults k;
}

-- what is known of the outside
pub record World : Type 1 where
  pub wires : Wires
  -- whether the disk and the tape tell their content
  pub disk_tells : Type 0
  pub tape_tells : Type 0
  -- the disk of the store, and the turns on its tape
  pub disk : DiskView
  pub tape : List TapeTurn

-- the outside that these four are
abbrev pub world_of : {S K D G : Type 0} → Source.Ghosts S → Sink.Ghosts K → Disk.Ghosts D → Tape.Ghosts G → S → K → D → G → World
world_of source sink disk tape s k d g = record {
  wires = wires_of source sink s k;
  disk_tells = disk.tells;
  tape_tells = tape.tells;
  disk = disk.view d;
  tape = tape.turns g;
}

-- the disk as it was, but with the places that it has later: `root` gives it those, and changes nothing else
abbrev pub placed : (old new : DiskView) → DiskView
placed old new = record old { places = new.places }
