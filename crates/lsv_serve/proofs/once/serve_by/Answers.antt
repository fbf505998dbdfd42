use Rattle.std.proofs.Common.{inl, inr, ◌∙◌, map}
use Rattle.lsv_once.specs.Course.{turn_of, turns_in}
use Rattle.lsv_once.specs.Once.{IsOpened, once_settings}
use Rattle.lsv_once.specs.World.{World, world_of}
use Rattle.lsv_once.proofs.CompleteLemmas.{completes}
use Rattle.lsv_serve.proofs.StartLemmas.{cause_before, fresh_after, may_serve_again, runs_before}
use Rattle.lsv_serve.proofs.once.serve_by.Goals as goal

pub serve_once-bay-requires : goal.serve_once-bay-requires
serve_once-bay-requires g c = record { fresh = λ told. fresh_after _ _ (c.store_of-bay.ensures.frame.untouched told) 0 1 (c.requires.fresh told) }

pub returns-clause-runs : goal.returns-clause-runs
returns-clause-runs g c =
    let bay = c.serve_once-bay.result.0 in
    let end = c.serve_once-bay.result.1 in
    let after = g.D.Disk.view c.store_of-bay.result.0.disk in
    let old : World = world_of g.S.Source g.K.Sink g.D.Disk g.G.Tape c.args.out.source c.args.out.sink c.args.out.disk c.args.out.tape in
    let new : World = world_of g.S.Source g.K.Sink g.D.Disk g.G.Tape c.serve_once-bay.new.source c.serve_once-bay.new.sink bay.disk bay.tape in
    let runs = rw (c.store_of-bay.ensures.formatter, c.store_of-bay.ensures.log_exit, c.store_of-bay.ensures.texts, c.store_of-bay.ensures.beside.1) at c.serve_once-bay.ensures.runs in
    let cause = cause_before old after c.store_of-bay.ensures.frame new end (rw c.store_of-bay.ensures.beside.1 at c.serve_once-bay.ensures.cause) in
    record {
      end = end;
      is = c.status_of.ensures;
      run = runs_before old after c.store_of-bay.ensures.frame (once_settings c.args.formatter.kind c.args.options.log_exit) c.args.options.prompts new end runs;
      cause = cause;
      complete = completes c.args.formatter.kind c.args.options.log_exit c.args.options.prompts old new end cause;
    }

pub returns-clause-places : goal.returns-clause-places
returns-clause-places g c told =
    let kept = c.serve_once-bay.ensures.places told in
    elim (c.store_of-bay.ensures.places told) [ inl given ↦ inl (kept ∙ given) | inr none ↦ inr (kept ∙ none) ]

pub returns-clause-again : goal.returns-clause-again
returns-clause-again g c = λ told.
    let bay = c.serve_once-bay.result.0 in
    let end = c.serve_once-bay.result.1 in
    let after = g.D.Disk.view c.store_of-bay.result.0.disk in
    let old : World = world_of g.S.Source g.K.Sink g.D.Disk g.G.Tape c.args.out.source c.args.out.sink c.args.out.disk c.args.out.tape in
    let new : World = world_of g.S.Source g.K.Sink g.D.Disk g.G.Tape c.serve_once-bay.new.source c.serve_once-bay.new.sink bay.disk bay.tape in
    let runs = rw (c.store_of-bay.ensures.formatter, c.store_of-bay.ensures.log_exit, c.store_of-bay.ensures.texts, c.store_of-bay.ensures.beside.1) at c.serve_once-bay.ensures.runs in
    let r = runs_before old after c.store_of-bay.ensures.frame (once_settings c.args.formatter.kind c.args.options.log_exit) c.args.options.prompts new end runs in
    may_serve_again (IsOpened end r.course) c.args.formatter.kind c.args.options.log_exit c.args.options.prompts old.disk new.disk (map turn_of (turns_in r.course)) (r.keeps told).store
    (λ image is. g.met.D.Disk.is_now told bay.disk image is) (c.serve_once-bay.ensures.fresh_again told)
