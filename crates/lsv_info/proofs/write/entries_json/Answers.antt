use Rattle.lsv_info.proofs.Writing.{info_next}
use Rattle.std.proofs.Common.{◌∙◌}
use Rattle.lsv_info.proofs.write.entries_json.Goals as goal

pub loop-entry-preserved : goal.loop-entry-preserved
loop-entry-preserved c =
    let l = c.loop-entry in
    c.in_ok-put_entry.ensures ∙ info_next c.args.entries.now l.entry-index c.entry-item.result _ c.loop-entry-test.true c.entry-item.is l.invariant
