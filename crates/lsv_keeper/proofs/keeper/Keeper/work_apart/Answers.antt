use Rattle.std.proofs.Common.{Ok, subst, sym, ◌≡◌}
use Rattle.lsv_request.specs.declared.request.Request.{Request}
use Rattle.lsv_machine.specs.Judgement.{judged}
use Rattle.lsv_keeper.specs.Jobs.{DoesRequest}
use Rattle.lsv_keeper.specs.Views.{view_of}
use Rattle.lsv_keeper.proofs.Requests.{valid_record}
use Rattle.lsv_keeper.proofs.keeper.Keeper.work_apart.Goals as goal

pub record-requires-clause-valid : goal.record-requires-clause-valid
record-requires-clause-valid g c =
    let (message, fits, asked) = c.requires.asked in
    valid_record c.args.state message c.in-Record.r fits (subst (λ (x : Request). judged c.args.state message ≡ Ok x) c.in-Record.is asked)

pub returns-in-Hello : goal.returns-in-Hello
returns-in-Hello g c = record {
  done =
      subst (λ (x : Request). DoesRequest g.D.Disk.tells c.args.now c.args.conn x c.greet.result (view_of c.args.self.now) (view_of c.greet.new.self) (g.D.Disk.view c.args.disk.now) (g.D.Disk.view c.greet.new.disk)) (sym c.in-Hello.is)
      (c.greet.ensures.done c.args.now);
}

pub returns-in-Accept : goal.returns-in-Accept
returns-in-Accept g c = record {
  done =
      subst (λ (x : Request). DoesRequest g.D.Disk.tells c.args.now c.args.conn x c.accept.result (view_of c.args.self.now) (view_of c.accept.new.self) (g.D.Disk.view c.args.disk.now) (g.D.Disk.view c.accept.new.disk)) (sym c.in-Accept.is)
      c.accept.ensures.done;
}

pub returns-in-Reject : goal.returns-in-Reject
returns-in-Reject g c = record {
  done =
      subst (λ (x : Request). DoesRequest g.D.Disk.tells c.args.now c.args.conn x c.reject.result (view_of c.args.self.now) (view_of c.reject.new.self) (g.D.Disk.view c.args.disk.now) (g.D.Disk.view c.reject.new.disk)) (sym c.in-Reject.is)
      c.reject.ensures.done;
}

pub returns-in-Alert : goal.returns-in-Alert
returns-in-Alert g c = record {
  done =
      subst (λ (x : Request). DoesRequest g.D.Disk.tells c.args.now c.args.conn x c.alert.result (view_of c.args.self.now) (view_of c.alert.new.self) (g.D.Disk.view c.args.disk.now) (g.D.Disk.view c.alert.new.disk)) (sym c.in-Alert.is)
      c.alert.ensures.done;
}

pub returns-in-Restart : goal.returns-in-Restart
returns-in-Restart g c = record {
  done =
      subst (λ (x : Request). DoesRequest g.D.Disk.tells c.args.now c.args.conn x c.restart.result (view_of c.args.self.now) (view_of c.restart.new.self) (g.D.Disk.view c.args.disk.now) (g.D.Disk.view c.restart.new.disk)) (sym c.in-Restart.is)
      (c.restart.ensures.done c.args.now);
}

pub returns-in-Record : goal.returns-in-Record
returns-in-Record g c = record {
  done =
      subst (λ (x : Request). DoesRequest g.D.Disk.tells c.args.now c.args.conn x c.record.result (view_of c.args.self.now) (view_of c.record.new.self) (g.D.Disk.view c.args.disk.now) (g.D.Disk.view c.record.new.disk)) (sym c.in-Record.is)
      (c.record.ensures.done c.args.now);
}

pub returns-in-Exit : goal.returns-in-Exit
returns-in-Exit g c = record {
  done =
      subst (λ (x : Request). DoesRequest g.D.Disk.tells c.args.now c.args.conn x c.exit.result (view_of c.args.self.now) (view_of c.exit.new.self) (g.D.Disk.view c.args.disk.now) (g.D.Disk.view c.exit.new.disk)) (sym c.in-Exit.is)
      c.exit.ensures.done;
}
