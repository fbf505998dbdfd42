use Rattle.std.proofs.Common.{◌≡◌, ◌++◌, map}
use Rattle.lsv_machine.specs.Answers.{reply_of}
use Rattle.lsvt_model.specs.Turning.{after, told}
use Rattle.lsvt_model.specs.Views.{machine_of, settings_of}
use Rattle.lsvt_model.proofs.model.Model.answer_jobs.Given as goal

abbrev pub invariant-loop-job : goal.invariant-loop-job
invariant-loop-job g l = record {
  replies : l.replies.items ≡ l.fn.replies.items ++ map reply_of (told (settings_of l.fn.set (g.E.EventLines.line_of l.fn.events)) l.fn.now l.yielded (machine_of l.fn.self));
  machine : machine_of l.self ≡ after (settings_of l.fn.set (g.E.EventLines.line_of l.fn.events)) l.fn.now l.yielded (machine_of l.fn.self);
}
