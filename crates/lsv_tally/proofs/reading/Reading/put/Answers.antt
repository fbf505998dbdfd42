use Rattle.std.proofs.Common.{arith}
use Rattle.lsv_tally.proofs.Lines.{byte_bad}
use Rattle.lsv_tally.proofs.reading.Reading.put.Goals as goal

pub returns-then-len-ge-LONGEST-clause-bad : goal.returns-then-len-ge-LONGEST-clause-bad
returns-then-len-ge-LONGEST-clause-bad c text rest at e =
    byte_bad c.args.self.now.lines c.args.self.now.line.items text at c.args.byte rest c.if-byte-eq10.false (omega (arith, c.len.ensures, c.if-len-ge-LONGEST.true))
