use Rattle.std.proofs.Common.{◌≡◌, sym, ◌∙◌}
use Rattle.lsv_record.specs.Records.{elapsed}
use Rattle.lsvt_model.proofs.RecordLemmas.{elapsed_push}
use Rattle.lsvt_model.proofs.records.Records.add.Goals as goal

pub invariant_of-self-2 : goal.invariant_of-self-2
invariant_of-self-2 c =
    let e : elapsed c.push.new.self.items ≡ c.args.end = rw (c.in_ok-push.ensures.items, c.self.view_is) (elapsed_push c.args.self.now c.args.r ∙ sym c.requires.end) in
    (e, c.requires.small)
