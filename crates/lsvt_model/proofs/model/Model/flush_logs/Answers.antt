use Rattle.std.proofs.Common.{[], ap, sym, ◌∙◌}
use Rattle.lsv_machine.specs.Machine.{Machine}
use Rattle.lsvt_model.specs.Turning.{flushes}
use Rattle.lsvt_model.specs.Views.{machine_of}
use Rattle.lsvt_model.proofs.TurnLemmas.{flushed_more, replies_flushed}
use Rattle.lsvt_model.proofs.model.Model.flush_logs.Goals as goal

pub loop-number-preserved : goal.loop-number-preserved
loop-number-preserved c =
    let m : Machine = record (machine_of c.args.self.now) { waiting = [] } in
    let on_machine : Machine → Machine = λ x. flushes c.in-Some.number x in
    record {
      replies = replies_flushed c.loop-number.yielded c.in-Some.number m (machine_of c.loop-number.self) c.args.replies.now.items c.loop-number.replies.items c.flush_log.new.replies.items
          c.loop-number.invariant.replies c.loop-number.invariant.machine c.in_ok-flush_log.ensures.replies;
      machine = c.in_ok-flush_log.ensures.machine ∙ (ap on_machine c.loop-number.invariant.machine ∙ sym (flushed_more c.loop-number.yielded c.in-Some.number m));
    }
