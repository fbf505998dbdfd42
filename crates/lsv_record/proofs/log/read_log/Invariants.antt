use Rattle.std.proofs.Common.{◌-◌, length}
use Rattle.lsv_record.specs.Inner.Reader.{IsBehind}
use Rattle.lsv_record.proofs.log.read_log.Given as goal

-- the layout begins with the records so far
abbrev pub invariant-loop-reader : goal.invariant-loop-reader
invariant-loop-reader l = IsBehind l.l l.reader

abbrev pub decreases-loop-reader : goal.decreases-loop-reader
decreases-loop-reader l = length l.l.timing - l.reader.at
