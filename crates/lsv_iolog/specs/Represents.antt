-- The value of an open log matches a disk that tells its files.
use Rattle.std.specs.Prelude.{◌≡◌, ◌≢◌, ◌+◌, ◌<◌, ◌≤◌, ◌^◌, false, List, [], ◌++◌, length, All, Some, None, Ok}
use Rattle.lsv_disk.specs.declared.file.Part.TheVariants.{Head, Exit, Timing}
use Rattle.lsv_disk.specs.View.{DiskView}
use Rattle.lsv_bundle.specs.declared.shape.Shape.TheVariants as shapes
use Rattle.lsv_bundle.specs.Committed.{Committed, committed}
use Rattle.lsv_bundle.specs.Represents as bundles
use Rattle.lsv_bundle.specs.Value.{BundleView, staged, unstaged, next_length}
use Rattle.lsv_info.specs.Reading.{head_of}
use Rattle.lsv_record.specs.declared.records.Record.{Record}
use Rattle.lsv_record.specs.declared.records.Stream.{Stream}
use Rattle.lsv_record.specs.Layout.{layout_of}
use Rattle.lsv_record.specs.Records.{IsValid, line_of, data_in, delay_of, elapsed}
use Rattle.lsv_iolog.specs.Recovered.{owner_of, part_of, laid_in, IsLog}
use Rattle.lsv_iolog.specs.Value.{IoLogView, LogValue, all_of}

-- these records are staged, and nothing else
pub record HasStaged (bundle : BundleView) (records : List Record) : Type 0 where
  pub layout : laid_in (staged bundle) ≡ layout_of records
  pub head : staged bundle Head ≡ []
  pub exit : staged bundle Exit ≡ []

-- the disk has the stored log committed, in each crash image, and the staged records are staged
pub record Represents (log : IoLogView) (value : LogValue) (disk : DiskView) : Type 0 where
  pub whole : log.is_broken ≡ false
  pub owner : log.bundle.owner ≡ owner_of log.number
  pub shape : log.bundle.shape ≡ shapes.Log
  pub sound : log.bundle.is_broken ≡ false
  pub bundle : bundles.Represents log.bundle disk
  pub entry : Committed
  pub committed : committed log.bundle disk ≡ Some entry
  pub is : IsLog entry value.stored
  pub staged : HasStaged log.bundle value.staged
  pub valid : All IsValid value.staged
  pub small : next_length log.bundle Timing ≤ 2 ^ 40
  -- nothing is staged after an exit
  pub ends : value.stored.exit ≢ None → value.staged ≡ []
  pub head : head_of value.stored.head ≡ Ok log.head
  pub count : log.count ≡ length (all_of value)
  pub time : log.elapsed ≡ elapsed (all_of value)
  pub in_time : elapsed (all_of value) < 2 ^ 63

-- this record is staged after what was, and nothing else is otherwise
pub record Stages (old : IoLogView) (r : Record) (new : IoLogView) : Type 0 where
  pub timing : staged new.bundle Timing ≡ staged old.bundle Timing ++ line_of r
  pub streams : (s : Stream) → staged new.bundle (part_of s) ≡ staged old.bundle (part_of s) ++ data_in s r
  pub head_bytes : staged new.bundle Head ≡ staged old.bundle Head
  pub exit_bytes : staged new.bundle Exit ≡ staged old.bundle Exit
  pub committed : unstaged new.bundle ≡ unstaged old.bundle
  pub small : next_length new.bundle Timing ≤ 2 ^ 40
  pub number : new.number ≡ old.number
  pub head : new.head ≡ old.head
  pub is_broken : new.is_broken ≡ old.is_broken
  pub count : new.count ≡ old.count + 1
  pub elapsed : new.elapsed ≡ old.elapsed + delay_of r
  pub in_time : new.elapsed < 2 ^ 63
