use Rattle.std.proofs.Common.{◌≤◌, length, List, refl, sym, subst, ◌∙◌}
use Rattle.lsv_links.specs.Turns.{AreOf, most_jobs}
use Rattle.lsv_session.specs.declared.job.Job.{Job}
use Rattle.lsv_worker.specs.Memory.{bytes_behind_first, waiting}
use Rattle.lsv_reactor.proofs.Boxes.{handed_out}
use Rattle.lsv_reactor.proofs.Own.{no_jobs}
use Rattle.lsv_reactor.proofs.visit.hand_out.Goals as goal

pub returns-clause-few : goal.returns-clause-few
returns-clause-few c = subst (λ (l : List Job). length l ≤ most_jobs) (sym c.take.ensures.taken) c.requires.orderly.few

pub returns-clause-emptied : goal.returns-clause-emptied
returns-clause-emptied c = λ n own. handed_out n c.args.inbox.now c.take.new.self c.take.new.jobs.items c.requires.orderly c.take.ensures.taken c.take.ensures.empty c.take.ensures.worker c.take.ensures.orderly own

pub returns-clause-light : goal.returns-clause-light
returns-clause-light c = subst (λ (l : List Job). bytes_behind_first l ≤ 67108864) (sym c.take.ensures.taken) c.requires.orderly.light

pub returns-then-is_empty-clause-taken : goal.returns-then-is_empty-clause-taken
returns-then-is_empty-clause-taken c = c.new.ensures.items ∙ sym (no_jobs (length (waiting c.args.inbox.now)) (waiting c.args.inbox.now) refl c.if-is_empty.ensures)

pub returns-then-is_empty-clause-emptied : goal.returns-then-is_empty-clause-emptied
returns-then-is_empty-clause-emptied c = λ n own. (record { own = own; empty = no_jobs (length (waiting c.args.inbox.now)) (waiting c.args.inbox.now) refl c.if-is_empty.ensures; orderly = c.requires.orderly }, subst (AreOf n) (sym c.new.ensures.items) tt)
