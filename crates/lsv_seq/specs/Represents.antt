-- The value of a lane's numbers matches a disk that tells its files.
use Rattle.std.specs.Prelude.{◌≡◌, None}
use Rattle.lsv_disk.specs.declared.file.FileId.{FileId}
use Rattle.lsv_disk.specs.View.{Image, DiskView}
use Rattle.lsv_journal.specs.Represents as journals
use Rattle.lsv_seq.specs.declared.numbers.Numbers.{Numbers}
use Rattle.lsv_seq.specs.Drawn.{IsNumbersFile}
use Rattle.lsv_seq.specs.Value.{lane_of, pending_of, HasDrawn}

-- what a crash may leave of its files has the last number, or the one that a failed draw was writing; where none failed
-- its journal matches the disk
pub record Represents (numbers : Numbers) (disk : DiskView) : Type 0 where
  pub each : (image : Image) → ((g : FileId) → IsNumbersFile (lane_of numbers) g → disk.crash_states g (image g)) → HasDrawn numbers image
  pub journal : pending_of numbers ≡ None → journals.Represents numbers.journal disk
