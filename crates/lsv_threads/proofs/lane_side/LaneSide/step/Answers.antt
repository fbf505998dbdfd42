use Rattle.std.proofs.Common.{◌≡◌, List, [], ◌++◌, refl, subst}
use Rattle.lsv_queue.specs.Passes.{items_of}
use Rattle.lsv_session.specs.declared.job.Job.{Job}
use Rattle.lsv_threads.proofs.Turning.{from_dropped, from_taken, no_jobs, with_taken}
use Rattle.lsv_threads.proofs.lane_side.LaneSide.step.Goals as goal

pub rest-requires : goal.rest-requires
rest-requires g c = let f = c.requires.from in
    let none : c.in-Ok.jobs.items ≡ [] = no_jobs c.in-Ok.jobs.len c.in-Ok.jobs.items c.in-Ok.jobs.ok.0 c.if-is_empty.ensures in
    record {
      from = (f.0, from_taken g.L.Lane c.args.outs.now f.0 c.args.self.now c.take_jobs.new.pass [] c.in-Ok.ensures.queue c.in-Ok.ensures.joined (subst (λ (l : List Job). items_of c.take_jobs.new.pass.taken.got ≡ items_of c.args.self.now.taken.taken.got ++ l) none c.in-Ok.ensures.jobs) f.1);
      ready = c.requires.ready;
    }

pub returns-then-is_empty-clause-from : goal.returns-then-is_empty-clause-from
returns-then-is_empty-clause-from g c = λ first from.
    let none : c.in-Ok.jobs.items ≡ [] = no_jobs c.in-Ok.jobs.len c.in-Ok.jobs.items c.in-Ok.jobs.ok.0 c.if-is_empty.ensures in
    c.rest.ensures.from first (from_taken g.L.Lane c.args.outs.now first c.args.self.now c.take_jobs.new.pass [] c.in-Ok.ensures.queue c.in-Ok.ensures.joined (subst (λ (l : List Job). items_of c.take_jobs.new.pass.taken.got ≡ items_of c.args.self.now.taken.taken.got ++ l) none c.in-Ok.ensures.jobs) from)

pub work-requires-clause-from : goal.work-requires-clause-from
work-requires-clause-from g c = let f = c.requires.from in (f.0, from_taken g.L.Lane c.args.outs.now f.0 c.args.self.now c.take_jobs.new.pass c.in-Ok.jobs.items c.in-Ok.ensures.queue c.in-Ok.ensures.joined c.in-Ok.ensures.jobs f.1)

pub returns-in-Ok-clause-from : goal.returns-in-Ok-clause-from
returns-in-Ok-clause-from g c = λ first from. c.work.ensures.from first (from_taken g.L.Lane c.args.outs.now first c.args.self.now c.take_jobs.new.pass c.in-Ok.jobs.items c.in-Ok.ensures.queue c.in-Ok.ensures.joined c.in-Ok.ensures.jobs from)

pub returns-in-Err-clause-from : goal.returns-in-Err-clause-from
returns-in-Err-clause-from g c = λ first from.
    let lost = c.in-Err.ensures.lost in
    from_dropped g.L.Lane c.args.outs.now (with_taken c.args.self.now c.take_jobs.new.pass) _ refl lost.0 refl (λ start turns made. made) refl refl refl first
    (from_taken g.L.Lane c.args.outs.now first c.args.self.now c.take_jobs.new.pass lost.0 c.in-Err.ensures.queue c.in-Err.ensures.joined lost.1 from)
