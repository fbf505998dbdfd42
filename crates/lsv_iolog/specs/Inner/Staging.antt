-- What staging a record does to the files of a log.
use Rattle.std.specs.Prelude.{◌≡◌, ℕ, List, ◌++◌}
use Rattle.lsv_disk.specs.declared.file.Part.TheVariants.{Head, Exit, Timing}
use Rattle.lsv_bundle.specs.Value.{BundleView, staged, unstaged}
use Rattle.lsv_record.specs.declared.records.Record.{Record}
use Rattle.lsv_record.specs.declared.records.Stream.{Stream}
use Rattle.lsv_record.specs.Records.{data_in}
use Rattle.lsv_iolog.specs.Recovered.{part_of}

-- after what was staged these bytes of timing and the record's data are, and nothing else is otherwise
pub record StagesIn (line : List ℕ) (r : Record) (old new : BundleView) : Type 0 where
  pub timing : staged new Timing ≡ staged old Timing ++ line
  pub streams : (s : Stream) → staged new (part_of s) ≡ staged old (part_of s) ++ data_in s r
  pub head : staged new Head ≡ staged old Head
  pub exit : staged new Exit ≡ staged old Exit
  pub same : unstaged new ≡ unstaged old
