use Rattle.std.proofs.Common.{rules, arith}
use Rattle.std.proofs.lemmas.Bool.Decides.{nat_tests}
use Rattle.lsv_port.proofs.StepLemmas.{open_takes, on_err}
use Rattle.lsv_port.proofs.memory.links.Links.open.Goals as goal

pub returns-in_err-keep-clause-err : goal.returns-in_err-keep-clause-err
returns-in_err-keep-clause-err c =
    let same = c.in_err-keep.ensures.err in
    on_err c.from_residual.result _ (record { links = same.links; opened = same.opened; open_now = same.open_now })

pub returns-clause-ok : goal.returns-clause-ok
returns-clause-ok c = open_takes c.args.number c.args.self.now c.keep.new.self (grind (arith, nat_tests)) (search rules) c.in_ok-keep.ensures.ok
