use Rattle.std.proofs.Common.{ap, sym, ◌∙◌}
use Rattle.lsv_machine.specs.Machine.{Machine}
use Rattle.lsvt_model.specs.Turning.{done}
use Rattle.lsvt_model.specs.Views.{machine_of, settings_of}
use Rattle.lsvt_model.proofs.TurnLemmas.{after_more, replies_told}
use Rattle.lsvt_model.proofs.model.Model.answer_jobs.Goals as goal

pub loop-job-preserved : goal.loop-job-preserved
loop-job-preserved g c =
    let set = settings_of c.args.set (g.E.EventLines.line_of c.args.events.now) in
    let m = machine_of c.args.self.now in
    let on_machine : Machine → Machine = λ x. (done (settings_of c.args.set (g.E.EventLines.line_of c.args.events.now)) c.args.now c.in-Some.job x).machine in
    record {
      replies = replies_told set c.args.now c.loop-job.yielded c.in-Some.job m (machine_of c.loop-job.self) c.args.replies.now.items c.loop-job.replies.items c.answer_job.new.replies.items
          c.loop-job.invariant.replies c.loop-job.invariant.machine c.in_ok-answer_job.ensures.replies;
      machine = c.in_ok-answer_job.ensures.machine ∙ (ap on_machine c.loop-job.invariant.machine ∙ sym (after_more set c.args.now c.loop-job.yielded c.in-Some.job m));
    }
