use Rattle.std.proofs.Common.{◌∙◌, inl, inr}
use Rattle.lsv_once.specs.Once.{once_settings}
use Rattle.lsv_serve.proofs.LoadLemmas.{complete_load, loads_again, of_summary}
use Rattle.lsv_serve.proofs.StartLemmas.{fresh_after}
use Rattle.lsv_serve.proofs.load.load_by.Goals as goal

pub run_load-bay-requires-clause-fresh : goal.run_load-bay-requires-clause-fresh
run_load-bay-requires-clause-fresh g c = λ told. fresh_after _ _ (c.store_of-bay.ensures.frame.untouched told) 0 1 (c.requires.fresh told)

pub returns-clause-runs : goal.returns-clause-runs
returns-clause-runs g c =
    let placed = c.store_of-bay.result.0.disk in
    let left = c.run_load-bay.result.0.disk in
    let tape = g.G.Tape.turns c.args.out.tape in
    let new_tape = g.G.Tape.turns c.run_load-bay.result.0.tape in
    record {
      placed = placed;
      alone = c.store_of-bay.ensures.frame;
      end = c.run_load-bay.result.1;
      run = rw (c.store_of-bay.ensures.formatter, c.store_of-bay.ensures.log_exit, c.store_of-bay.ensures.texts, c.store_of-bay.ensures.beside.1) at c.run_load-bay.ensures.runs;
      told = c.tell_load-status.ensures;
      complete = complete_load g.D.Disk.tells g.G.Tape.tells g.D.Disk.view (once_settings c.args.formatter.kind c.args.options.log_exit) c.args.options.prompts c.args.count placed left tape new_tape;
      whole = of_summary _ c.tell_load-status.result (c.a_load_sums_up_all_its_conversations.ensures (once_settings c.args.formatter.kind c.args.options.log_exit) c.args.options.prompts c.args.count placed left tape new_tape c.requires.last);
    }

pub returns-clause-again : goal.returns-clause-again
returns-clause-again g c told =
    loads_again g.G.Tape.tells g.D.Disk.view c.args.formatter.kind c.args.options.log_exit c.args.options.prompts c.args.count g.D.Disk.tells c.args.out.disk c.store_of-bay.result.0.disk c.run_load-bay.result.0.disk (g.G.Tape.turns c.args.out.tape) (g.G.Tape.turns c.run_load-bay.result.0.tape)
    c.run_load-bay.result.1 told (λ d image is. g.met.D.Disk.is_now told d image is) (c.run_load-bay.ensures.fresh_again told) c.store_of-bay.ensures.frame
    (rw (c.store_of-bay.ensures.formatter, c.store_of-bay.ensures.log_exit, c.store_of-bay.ensures.texts, c.store_of-bay.ensures.beside.1) at c.run_load-bay.ensures.runs)

pub returns-clause-places : goal.returns-clause-places
returns-clause-places g c told =
    let kept = c.run_load-bay.ensures.places told in
    elim (c.store_of-bay.ensures.places told) [ inl given ↦ inl (kept ∙ given) | inr none ↦ inr (kept ∙ none) ]
