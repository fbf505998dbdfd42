use Rattle.std.proofs.lemmas.Result.{IfOk-weaker}
use Rattle.clap.specs.Simple.{new_app}
use Rattle.std.proofs.Common.{codes}
use Rattle.lsv_args.specs.Commands.{conf}
use Rattle.lsv_args.proofs.Building.{IsMade, with_arg}
use Rattle.lsv_args.proofs.commands.check.Goals as goal

pub returns : goal.returns
returns c =
    let made : IsMade c.new.result (new_app (codes "check")) = record { app = c.new.ensures.app; local = c.new.ensures.local } in
    IfOk-weaker c.arg.result _ _ (λ r h. let m = with_arg c.new.result r c.conf.result (new_app (codes "check")) conf made c.conf.ensures.rule c.conf.ensures.local h in (m.app, m.local)) c.arg.ensures
