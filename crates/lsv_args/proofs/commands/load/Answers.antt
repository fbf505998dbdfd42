use Rattle.std.proofs.lemmas.Result.{IfOk-weaker}
use Rattle.clap.specs.Simple.{new_app, with_rule}
use Rattle.std.proofs.Common.{codes}
use Rattle.lsv_args.specs.Commands.{conf, count}
use Rattle.lsv_args.proofs.Building.{IsMade, with_arg}
use Rattle.lsv_args.proofs.commands.load.Goals as goal

pub returns : goal.returns
returns c =
    let made : IsMade c.new.result (new_app (codes "load")) = record { app = c.new.ensures.app; local = c.new.ensures.local } in
    let first = with_arg c.new.result c.in_ok-arg.field-0 c.conf.result (new_app (codes "load")) conf made c.conf.ensures.rule c.conf.ensures.local c.in_ok-arg.ensures in
    IfOk-weaker c.arg-2.result _ _ (λ r h. let m = with_arg c.in_ok-arg.field-0 r c.count.result (with_rule (new_app (codes "load")) conf) count first c.count.ensures.rule c.count.ensures.local h in (m.app, m.local)) c.arg-2.ensures
