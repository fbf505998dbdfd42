use Rattle.std.proofs.Common.{refl}
use Rattle.lsv_record.proofs.Readers.{kept}
use Rattle.lsv_record.proofs.log.Reader.next.Goals as goal

pub returns-clause-more : goal.returns-clause-more
returns-clause-more c =
    let at_place = rw (c.in-Ok-Some.field-0-is, c.as_slice.ensures) at c.in-Ok-Some.ensures.line in
    kept c.args.l.now c.in-Ok-Some.line.0 c.args.self.now c.take.new.self _ c.in_ok-record.record c.in-Ok-Some.line.1 c.requires c.in_ok-record.ensures.ok at_place c.in-Ok.ensures.ok refl refl refl
