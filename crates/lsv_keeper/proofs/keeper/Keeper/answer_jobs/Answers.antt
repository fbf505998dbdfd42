use Rattle.std.proofs.Common.{◌≡◌, ◌∷◌, ◌++◌, List, [], length, refl, sym, ◌∙◌, ap, subst, arith, append_assoc, append-nil, map}
use Rattle.std.specs.Vec.Iter.{into_iter_items}
use Rattle.lsv_session.specs.declared.job.Job.{Job}
use Rattle.lsv_keeper.specs.Replies.{room_in}
use Rattle.lsv_keeper.specs.Tails.{JobsGive}
use Rattle.lsv_keeper.specs.Views.{view_of}
use Rattle.lsv_keeper.specs.Syncing.{Syncs}
use Rattle.lsv_keeper.specs.Syncs.{AnyRestarts}
use Rattle.lsv_keeper.proofs.Turning.{answering_on, answering_start}
use Rattle.lsv_keeper.proofs.Syncing.{jobs_on, nothing}
use Rattle.lsv_keeper.proofs.Causes.{answer_as, answer_first, answer_second, any_before, any_last, brings_before, brings_last, does_last, does_none}
use Rattle.lsv_keeper.proofs.DamagedLemmas.{acts_damaged}
use Rattle.lsv_keeper.proofs.SparingLemmas.{spares_on, spares_same}
use Rattle.lsv_keeper.proofs.Saying.{says_as, says_none, says_then}
use Rattle.lsv_keeper.specs.Causes.{AnyBringsLine, AnyIsOf, BringsLine, Does, MayAnswer, MayAnswerTo, Says}
use Rattle.lsv_keeper.specs.Value.{settings_of}
use Rattle.std.specs.Prelude.{Bool}
use Rattle.lsv_keeper.proofs.keeper.Keeper.answer_jobs.Goals as goal

nothing_left : (jobs : List Job) → length jobs ≡ 0 → jobs ≡ []
nothing_left [] none = refl
nothing_left (job ∷ jobs) none = absurd (omega arith)

pub loop-job-init : goal.loop-job-init
loop-job-init g c =
    let gives = c.into_iter-job-iterator.ensures.into_iter_gives in
    record {
      items = gives.0;
      counted = let e = ap length gives.0 in omega (arith, gives.1, c.args.jobs.ok.0, e);
      done = answering_start g.D.Disk.tells c.args.now (view_of c.args.self.now) (room_in c.args.out.now) c.args.out.now.items (g.D.Disk.view c.args.disk.now)
          (λ told. record { reads_itself = g.met.D.Disk.reads_itself told c.args.disk.now; is_now = g.met.D.Disk.is_now told c.args.disk.now; only_now = g.met.D.Disk.only_now told c.args.disk.now });
      synced = λ told m at. nothing (AnyRestarts []) (view_of c.args.self.now) (view_of c.args.self.now) (g.D.Disk.view c.args.disk.now) refl refl;
      spared = λ told m at n damaged. spares_same n (g.D.Disk.view c.args.disk.now);
      kept = does_none (λ none. none);
      says = λ all. says_none (AnyIsOf []) (MayAnswerTo (view_of c.args.self.now) [] (g.D.Disk.view c.args.disk.now) (g.D.Disk.view c.args.disk.now)) c.args.out.now.items;
    }

pub answer_job-requires-clause-stands : goal.answer_job-requires-clause-stands
answer_job-requires-clause-stands g c told = let (m, at) = c.requires.stands told in let d = c.loop-job.invariant.done.jobs told m at in (d.after, d.represents)

pub loop-job-preserved : goal.loop-job-preserved
loop-job-preserved g c =
    let steps : into_iter_items c.loop-job.job-iterator ≡ c.in-Some.job ∷ into_iter_items c.next.new.self = c.in-Some.ensures.steps.0 in
    record {
      items = append_assoc c.loop-job.yielded (c.in-Some.job ∷ []) (into_iter_items c.next.new.self) ∙ (ap (λ (x : List Job). c.loop-job.yielded ++ x) (sym steps) ∙ c.loop-job.invariant.items);
      counted = let was = c.loop-job.invariant.counted in let gone = c.in-Some.ensures.steps.1 in let short = ap length steps in omega arith;
      done = answering_on g.D.Disk.tells c.args.now c.loop-job.yielded c.in-Some.job (view_of c.args.self.now) (view_of c.loop-job.self) (view_of c.answer_job.new.self)
          (room_in c.args.out.now) (room_in c.loop-job.out) (room_in c.answer_job.new.out) c.args.out.now.items c.loop-job.out.items c.answer_job.new.out.items
          (g.D.Disk.view c.args.disk.now) (g.D.Disk.view c.loop-job.disk) (g.D.Disk.view c.answer_job.new.disk) c.loop-job.invariant.done c.answer_job.ensures.done.frame.keeps c.answer_job.ensures.done.frame.room c.answer_job.ensures.done.answered;
      synced = λ told m at.
          let d = c.loop-job.invariant.done.jobs told m at in
          jobs_on c.loop-job.yielded c.in-Some.job (view_of c.args.self.now) (view_of c.loop-job.self) (view_of c.answer_job.new.self) (g.D.Disk.view c.args.disk.now) (g.D.Disk.view c.loop-job.disk) (g.D.Disk.view c.answer_job.new.disk)
          (c.loop-job.invariant.synced told m at) (c.answer_job.ensures.done.frame.syncs told d.after d.represents);
      spared = λ told m at n damaged.
          let d = c.loop-job.invariant.done.jobs told m at in
          spares_on n (g.D.Disk.view c.args.disk.now) (g.D.Disk.view c.loop-job.disk) (g.D.Disk.view c.answer_job.new.disk) (c.loop-job.invariant.spared told m at n damaged)
          (c.answer_job.ensures.done.frame.spared told d.after d.represents n (acts_damaged n (settings_of (view_of c.args.self.now)) d.going.acts m d.after at.sound d.going.run damaged));
      kept = does_last c.loop-job.yielded c.in-Some.job (view_of c.args.self.now) (view_of c.loop-job.self) (view_of c.answer_job.new.self) (g.D.Disk.view c.args.disk.now) (g.D.Disk.view c.loop-job.disk) (g.D.Disk.view c.answer_job.new.disk) c.loop-job.invariant.kept c.answer_job.ensures.done.frame.does;
      says = λ all.
          let v = view_of c.args.self.now in
          let w = view_of c.loop-job.self in
          let done = c.loop-job.yielded in
          let job = c.in-Some.job in
          let old = g.D.Disk.view c.args.disk.now in
          let mid = g.D.Disk.view c.loop-job.disk in
          let new = g.D.Disk.view c.answer_job.new.disk in
          let log_exit = c.loop-job.invariant.done.set.log_exit in
          let more = AnyIsOf (done ++ job ∷ []) in
          says_then more (MayAnswerTo v (done ++ job ∷ []) old new) c.args.out.now.items c.loop-job.out.items c.answer_job.new.out.items
          (says_as (AnyIsOf done) more (MayAnswerTo v done old mid) (MayAnswerTo v (done ++ job ∷ []) old new) c.args.out.now.items c.loop-job.out.items (any_before done job)
          (λ k is may. answer_as (AnyBringsLine v.log_exit done k) (AnyBringsLine v.log_exit (done ++ job ∷ []) k) v old new (brings_before v.log_exit done job k)
          (answer_first (AnyBringsLine v.log_exit done k) v old mid new may c.answer_job.ensures.done.frame.does.monotone)) (c.loop-job.invariant.says all))
          (says_as (λ k. k ≡ job.conn) more (λ k. MayAnswer (BringsLine w.log_exit job.body) w mid new) (MayAnswerTo v (done ++ job ∷ []) old new) c.loop-job.out.items c.answer_job.new.out.items (any_last done job)
          (λ k is may. answer_as (BringsLine w.log_exit job.body) (AnyBringsLine v.log_exit (done ++ job ∷ []) k) v old new
          (λ brings. brings_last v.log_exit done job k (sym is) (subst (λ (b : Bool). BringsLine b job.body) log_exit brings))
          (answer_second (BringsLine w.log_exit job.body) v w old mid new c.loop-job.invariant.kept.monotone c.answer_job.ensures.done.frame.does.monotone c.loop-job.invariant.kept.failed may)) (c.answer_job.ensures.says (c.loop-job.invariant.kept.whole all)));
    }

pub returns-clause-done : goal.returns-clause-done
returns-clause-done g c = record {
  frame =
      let empty : into_iter_items c.loop-job.job-iterator ≡ [] = nothing_left (into_iter_items c.loop-job.job-iterator) (sym c.loop-job.invariant.counted ∙ c.in-None.ensures.steps.0) in
      let all : c.loop-job.yielded ≡ c.args.jobs.items = sym (append-nil c.loop-job.yielded) ∙ (ap (λ (x : List Job). c.loop-job.yielded ++ x) (sym empty) ∙ c.loop-job.invariant.items) in
      let long = ap length all in
      let d = c.loop-job.invariant.done in
      record {
        set = d.set;
        owes = let o = d.owed_is in omega (arith, o, long);
        places = let o = d.places in omega (arith, o, long);
        replies = let o = d.replies in omega (arith, o, long);
        syncs = λ told m at.
            subst (λ (jobs : List Job). Syncs (AnyRestarts jobs) (view_of c.args.self.now) (view_of c.loop-job.self) (g.D.Disk.view c.args.disk.now) (g.D.Disk.view c.loop-job.disk)) all (c.loop-job.invariant.synced told m at);
        spared = c.loop-job.invariant.spared;
        does = subst (λ (jobs : List Job). Does (map (λ job. job.conn) jobs) ⊥ ⊥ (view_of c.args.self.now) (view_of c.loop-job.self) (g.D.Disk.view c.args.disk.now) (g.D.Disk.view c.loop-job.disk)) all c.loop-job.invariant.kept;
      };
  answered = λ told m at.
      let empty : into_iter_items c.loop-job.job-iterator ≡ [] = nothing_left (into_iter_items c.loop-job.job-iterator) (sym c.loop-job.invariant.counted ∙ c.in-None.ensures.steps.0) in
      let all : c.loop-job.yielded ≡ c.args.jobs.items = sym (append-nil c.loop-job.yielded) ∙ (ap (λ (x : List Job). c.loop-job.yielded ++ x) (sym empty) ∙ c.loop-job.invariant.items) in
      subst (λ (jobs : List Job). JobsGive (view_of c.args.self.now) c.args.now jobs m c.args.out.now.items c.loop-job.out.items (view_of c.loop-job.self) (g.D.Disk.view c.args.disk.now) (g.D.Disk.view c.loop-job.disk)) all
      (c.loop-job.invariant.done.jobs told m at);
}

-- ---- Over every disk

pub returns-clause-says : goal.returns-clause-says
returns-clause-says g c whole =
    let empty : into_iter_items c.loop-job.job-iterator ≡ [] = nothing_left (into_iter_items c.loop-job.job-iterator) (sym c.loop-job.invariant.counted ∙ c.in-None.ensures.steps.0) in
    let all : c.loop-job.yielded ≡ c.args.jobs.items = sym (append-nil c.loop-job.yielded) ∙ (ap (λ (x : List Job). c.loop-job.yielded ++ x) (sym empty) ∙ c.loop-job.invariant.items) in
    subst (λ (jobs : List Job). Says (AnyIsOf jobs) (MayAnswerTo (view_of c.args.self.now) jobs (g.D.Disk.view c.args.disk.now) (g.D.Disk.view c.loop-job.disk)) c.args.out.now.items c.loop-job.out.items) all (c.loop-job.invariant.says whole)
