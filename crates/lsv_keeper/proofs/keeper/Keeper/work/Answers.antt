use Rattle.std.proofs.Common.{◌≡◌, Ok, subst, sym}
use Rattle.lsv_request.specs.declared.request.Request.{Request}
use Rattle.lsv_machine.specs.Judgement.{judged}
use Rattle.lsv_keeper.specs.Jobs.{DoesRequest}
use Rattle.lsv_keeper.specs.Views.{view_of}
use Rattle.lsv_keeper.proofs.Requests.{valid_record}
use Rattle.lsv_keeper.proofs.keeper.Keeper.work.Goals as goal

pub record-requires-clause-valid : goal.record-requires-clause-valid
record-requires-clause-valid g c =
    let (message, fits, asked) = c.requires.asked in
    valid_record c.args.state message c.in-Record.r fits (subst (λ (x : Request). judged c.args.state message ≡ Ok x) c.in-Record.is asked)

pub returns-in-Record : goal.returns-in-Record
returns-in-Record g c = record {
  done =
      subst (λ (x : Request). DoesRequest g.D.Disk.tells c.args.now c.args.conn x c.record.result (view_of c.args.self.now) (view_of c.record.new.self) (g.D.Disk.view c.args.disk.now) (g.D.Disk.view c.record.new.disk)) (sym c.in-Record.is)
      (c.record.ensures.done c.args.now);
}
