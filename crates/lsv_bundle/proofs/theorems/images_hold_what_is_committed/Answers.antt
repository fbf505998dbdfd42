use Rattle.std.proofs.Common.{◌≡◌, Some, subst}
use Rattle.lsv_bundle.specs.Body.{IsBody}
use Rattle.lsv_bundle.specs.Value.{BundleView}
use Rattle.lsv_bundle.specs.declared.body.Body.{Body}
use Rattle.lsv_bundle.proofs.Laws.{represents_holds}
use Rattle.lsv_bundle.proofs.theorems.images_hold_what_is_committed.Goals as goal

pub returns-clause-holds : goal.returns-clause-holds
returns-clause-holds g c at image is = represents_holds c.args.bundle.now (g.D.Disk.view c.args.disk.now) at image is

pub returns-clause-is_body : goal.returns-clause-is_body
returns-clause-is_body g c = subst (λ (b : BundleView). (body : Body) → b.last ≡ Some body → IsBody body) c.bundle.view_is c.bundle.invariant.last_body
