use Rattle.std.proofs.Common.{refl, ◌≡◌}
use Rattle.lsv_keeper.specs.Views.{view_of}
use Rattle.lsv_keeper.proofs.Turning.{job_given}
use Rattle.lsv_keeper.proofs.Causes.{does_unfaulted}
use Rattle.lsv_keeper.proofs.Saying.{says_as, says_told}
use Rattle.lsv_keeper.specs.Causes.{BringsLine, MayAnswer, IsFaultRefusal}
use Rattle.lsv_keeper.proofs.keeper.Keeper.answer_job.Goals as goal

pub returns-clause-done : goal.returns-clause-done
returns-clause-done g c = record {
  frame = record {
    keeps = c.answer-outcome.ensures.done.keeps;
    room = c.put_replies.ensures.room;
    syncs = c.answer-outcome.ensures.done.syncs;
    spared = c.answer-outcome.ensures.done.spared;
    does = does_unfaulted c.answer-outcome.ensures.done.does;
  };
  answered = λ told m at.
      job_given (view_of c.args.self.now) (view_of c.answer-outcome.new.self) c.args.now c.args.job c.answer-outcome.result c.put_replies.ensures.answers m c.args.out.now.items c.put_replies.new.out.items
      (g.D.Disk.view c.args.disk.now) (g.D.Disk.view c.answer-outcome.new.disk) (c.answer-outcome.ensures.done.row told m c.args.job at refl refl) c.put_replies.ensures.says c.put_replies.ensures.items;
}

pub returns-clause-says : goal.returns-clause-says
returns-clause-says g c all =
    let t = c.put_replies.ensures in
    says_as (λ j. j ≡ c.args.job.conn) (λ j. j ≡ c.args.job.conn) (λ j. IsFaultRefusal c.answer-outcome.result) (λ j. MayAnswer (BringsLine c.args.self.now.log_exit c.args.job.body) (view_of c.args.self.now) (g.D.Disk.view c.args.disk.now) (g.D.Disk.view c.answer-outcome.new.disk)) c.args.out.now.items c.put_replies.new.out.items (λ j is. is)
    (λ j is e. c.answer-outcome.ensures.done.does.cause all e) (says_told c.args.job.conn c.answer-outcome.result t.answers c.args.out.now.items c.put_replies.new.out.items t.says t.items)

pub put_replies-requires-clause-named : goal.put_replies-requires-clause-named
put_replies-requires-clause-named g c = c.answer-outcome.ensures.done.named
