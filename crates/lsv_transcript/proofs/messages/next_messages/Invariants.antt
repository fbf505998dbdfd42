use Rattle.std.proofs.Common.{◌≡◌, List, length}
use Rattle.lsv_record.specs.declared.records.Record.{Record}
use Rattle.lsv_iolog.specs.Reading.{IsBehind}
use Rattle.lsv_transcript.proofs.Points.{IsGiving, IsReadingOn}
use Rattle.lsv_transcript.proofs.messages.next_messages.Given as goal

-- the messages are those of the records that were read
abbrev pub invariant-records : goal.invariant-records
invariant-records g l = record {
  giving : g.D.Disk.tells → (records : List Record) → IsBehind l.initial.log records (g.D.Disk.view l.initial.disk) → IsGiving l.log (g.D.Disk.view l.disk) records l.batch l.size;
  reading : IsReadingOn g.D.Disk.tells l.initial.log l.log (g.D.Disk.view l.initial.disk) (g.D.Disk.view l.disk);
  many : length l.batch.messages ≡ l.counter;
}
