-- Connections for which memory ran out.
use Rattle.std.proofs.Common.{◌≡◌, Option, None, refl, sym, ap, subst, ◌∙◌}
use Rattle.lsv_session.specs.declared.job.Body.{Body}
use Rattle.lsv_worker.specs.Incoming.{IncomingKeeps, ClosesReporting, ReportsAt, has_left, stage_out_of_memory}
use Rattle.lsv_worker.specs.declared.incoming.Incoming.{Incoming}
use Rattle.lsv_worker.specs.declared.incoming.Stage.{Stage}
use Rattle.lsv_worker.specs.declared.incoming.Stage.TheVariants.{Open, Draining, OutOfMemory, Closing, Closed}
use Rattle.lsv_worker.specs.declared.incoming.Why.{Why}
use Rattle.lsv_worker.specs.declared.incoming.Why.TheVariants.{Ended, Refused, Shut, NoMemory}

leaves_on : (why : Why) (w v : Option Body) → (w ≡ None → v ≡ None) → ClosesReporting why w → ClosesReporting why v
leaves_on Ended w v empty t = absurd t
leaves_on Refused w v empty t = empty t
leaves_on Shut w v empty t = absurd t
leaves_on NoMemory w v empty t = tt

tells_on : (stage : Stage) (w v : Option Body) → (w ≡ None → v ≡ None) → ReportsAt stage w → ReportsAt stage v
tells_on Open w v empty t = absurd t
tells_on Draining w v empty t = absurd t
tells_on OutOfMemory w v empty t = tt
tells_on (Closing why) w v empty t = leaves_on why w v empty t
tells_on (Closed why) w v empty t = tt

-- its stage stays, and if nothing waits, nothing waits later
pub keeps_stage : (old new : Incoming) → new.route.lanes ≡ old.route.lanes → new.stage ≡ old.stage → (old.waiting ≡ None → new.waiting ≡ None) → IncomingKeeps old new
keeps_stage old new lanes stage empty = record {
  lanes = lanes;
  out_of_memory = λ e. ap stage_out_of_memory stage ∙ e;
  told = λ t. subst (λ (s : Stage). ReportsAt s new.waiting) (sym stage) (tells_on old.stage old.waiting new.waiting empty t);
  left = λ e. ap has_left stage ∙ e;
}

pub keeps_here : (old : Incoming) → IncomingKeeps old old
keeps_here old = record { lanes = refl; out_of_memory = λ e. e; told = λ t. t; left = λ e. e }

pub keeps_then : (a b c : Incoming) → IncomingKeeps a b → IncomingKeeps b c → IncomingKeeps a c
keeps_then a b c x y = record { lanes = y.lanes ∙ x.lanes; out_of_memory = λ e. y.out_of_memory (x.out_of_memory e); told = λ t. y.told (x.told t); left = λ e. y.left (x.left e) }
