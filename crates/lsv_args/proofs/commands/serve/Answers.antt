use Rattle.std.proofs.lemmas.Result.{IfOk-weaker}
use Rattle.clap.specs.Simple.{new_app}
use Rattle.std.proofs.Common.{codes}
use Rattle.lsv_args.specs.Commands.{conf, lanes, stop_after, workers}
use Rattle.lsv_args.proofs.Building.{IsMade, with_arg}
use Rattle.lsv_args.proofs.commands.serve.Goals as goal

pub returns : goal.returns
returns c =
    let made : IsMade c.new.result (new_app (codes "serve")) = record { app = c.new.ensures.app; local = c.new.ensures.local } in
    let first = with_arg c.new.result c.in_ok-arg.field-0 c.conf.result (new_app (codes "serve")) conf made c.conf.ensures.rule c.conf.ensures.local c.in_ok-arg.ensures in
    let second = with_arg c.in_ok-arg.field-0 c.in_ok-arg-2.field-0 c.lanes.result _ lanes first c.lanes.ensures.rule c.lanes.ensures.local c.in_ok-arg-2.ensures in
    let third = with_arg c.in_ok-arg-2.field-0 c.in_ok-arg-3.field-0 c.workers.result _ workers second c.workers.ensures.rule c.workers.ensures.local c.in_ok-arg-3.ensures in
    IfOk-weaker c.arg-4.result _ _ (λ r h. let m = with_arg c.in_ok-arg-3.field-0 r c.stop_after.result _ stop_after third c.stop_after.ensures.rule c.stop_after.ensures.local h in (m.app, m.local)) c.arg-4.ensures
