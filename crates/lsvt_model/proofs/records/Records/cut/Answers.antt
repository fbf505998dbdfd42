use Rattle.std.proofs.Common.{◌≡◌, ◌<◌, ◌^◌, arith, ap}
use Rattle.lsv_record.specs.Records.{elapsed}
use Rattle.lsvt_model.proofs.RecordLemmas.{first_ends}
use Rattle.lsvt_model.proofs.records.Records.cut.Goals as goal

pub invariant_of-self : goal.invariant_of-self
invariant_of-self c =
    let f = first_ends c.args.self.now c.args.point c.args.kept c.requires in
    let e : elapsed c.truncate.new.self.items ≡ c.args.point = rw (c.truncate.ensures.items, c.self.view_is) f.ends in
    let same : elapsed c.self.inside.list.items ≡ elapsed c.args.self.now = ap elapsed c.self.view_is in
    let small : c.args.point < 2 ^ 63 = omega (arith, f.within, same, c.self.invariant.0, c.self.invariant.1) in
    (e, small)
