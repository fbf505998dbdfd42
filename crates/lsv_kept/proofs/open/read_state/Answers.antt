use Rattle.std.proofs.lemmas.Result.{IfOk-weaker}
use Rattle.lsv_kept.proofs.Reading.{read_keeps}
use Rattle.lsv_kept.proofs.open.read_state.Goals as goal

pub returns-clause-kept : goal.returns-clause-kept
returns-clause-kept g c told =
    IfOk-weaker c.state_in.result _ _ (λ state is. read_keeps c.args.number c.args.aim.now c.in-Some.view (g.D.Disk.view c.args.disk.now) (g.D.Disk.view c.view_files.new.disk) c.in_ok-view.field-0 c.in-Some.is c.in_ok-view.ensures.named (c.in_ok-view.ensures.entry told) (c.in_ok-view.ensures.enough told) (c.in_ok-view.ensures.reads told) state is) (c.state_in.ensures.state told)
