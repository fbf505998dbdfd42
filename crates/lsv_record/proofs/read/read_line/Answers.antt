use Rattle.std.proofs.Common.{refl, subst}
use Rattle.lsv_record.specs.Records.{IsGood, text_of}
use Rattle.lsv_record.specs.Inner.Spelled.{Reads}
use Rattle.lsv_record.proofs.Lines.{line_found, bad_line}
use Rattle.lsv_record.proofs.read.read_line.Goals as goal

pub returns-in-Some-2-clause-line : goal.returns-in-Some-2-clause-line
returns-in-Some-2-clause-line c =
    let read = subst (Reads IsGood text_of c.in-Some.line.now) c.in-Some-2.is c.in_ok-told.ensures in
    line_found c.args.text.now c.split_at.result.1.now c.in-Some.line.now c.in-Some.field-0-1.now c.args.at c.in-Some-2.told c.split_at.ensures.back c.in-Some.ensures.found read.0 read.1

pub returns-in-None-clause-bad : goal.returns-in-None-clause-bad
returns-in-None-clause-bad c = λ other.
    let read = subst (Reads IsGood text_of c.in-Some.line.now) c.in-None.is c.in_ok-told.ensures in
    (refl, bad_line c.args.text.now c.split_at.result.1.now c.in-Some.line.now c.in-Some.field-0-1.now c.args.at c.split_at.ensures.back c.in-Some.ensures.found c.in-Some.ensures.first read)
