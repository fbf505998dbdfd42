use Rattle.std.proofs.Common.{◌≡◌, [], ◌++◌, map}
use Rattle.lsv_machine.specs.Answers.{reply_of}
use Rattle.lsvt_model.specs.Turning.{commits, flushed}
use Rattle.lsvt_model.specs.Views.{machine_of}
use Rattle.lsvt_model.proofs.model.Model.flush_logs.Given as goal

abbrev pub invariant-loop-number : goal.invariant-loop-number
invariant-loop-number l = record {
  replies : l.replies.items ≡ l.fn.replies.items ++ map reply_of (commits l.yielded (record (machine_of l.fn.self) { waiting = [] }));
  machine : machine_of l.self ≡ flushed l.yielded (record (machine_of l.fn.self) { waiting = [] });
}
