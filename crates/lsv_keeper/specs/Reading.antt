-- How the images of a store are read: its logs, the numbers of a lane and the lane's event log.
use Rattle.std.specs.Prelude.{◌≡◌, ◌⊎◌, ℕ, None}
use Rattle.lsv_disk.specs.declared.file.FileId.{FileId}
use Rattle.lsv_disk.specs.View.{Image}
use Rattle.lsv_eventlog.specs.Recovered.{HoldsLines}
use Rattle.lsv_eventlog.proofs.Laws.{one_text}
use Rattle.lsv_iolog.specs.Recovered.{IsOfLog, Replays}
use Rattle.lsv_iolog.proofs.Replaying.{one_replay, absent_replay}
use Rattle.lsv_seq.specs.Drawn.{LastDrawn, entry_at}
use Rattle.lsv_machine.specs.Durable.{Reading}

-- no file of the log is there
abbrev pub IsBare : Image → ℕ → Type 0
IsBare image n = (file : FileId) → IsOfLog n file → image file ≡ None

-- this is the last number that was drawn in a lane of this many: 0 where its number file has no entry
abbrev pub IsDrawn : (lane lanes : ℕ) → Image → ℕ → Type 0
IsDrawn lane lanes image last = LastDrawn lane lanes last image ⊎ ((entry_at lane image ≡ None) × (last ≡ 0))

-- how images are read, for a lane of this many
abbrev pub reading_of : (lane lanes : ℕ) → Reading
reading_of lane lanes = record {
  replays = Replays;
  bare = IsBare;
  drawn = IsDrawn lane lanes;
  lines = λ image text. HoldsLines image lane text;
  one = one_replay;
  one_text = λ image s t. one_text image lane s t;
  nothing = absent_replay;
}
