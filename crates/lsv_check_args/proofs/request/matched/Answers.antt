use Rattle.std.proofs.Common.{map, refl, subst}
use Rattle.clap.specs.Simple.{App, HasMatchesOf}
use Rattle.lsv_check_args.proofs.request.matched.Goals as goal

pub returns-in-Ok-clause-rows : goal.returns-in-Ok-clause-rows
returns-in-Ok-clause-rows c =
    (subst (λ (a : App). HasMatchesOf a (map (λ w. w.now) c.args.words.now) c.in-Ok.found) c.in_ok-program.ensures c.in-Ok.ensures.matches refl).0
