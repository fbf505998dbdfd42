use Rattle.std.proofs.Common.{◌≤◌, ◌+◌, length}
use Rattle.lsv_cut.specs.Cuts.{unread}
use Rattle.lsv_worker.specs.Frames.{InboxKeeps}
use Rattle.lsv_worker.specs.Incoming.{IncomingKeeps, Puts, weight, with_piece}
use Rattle.lsv_worker.proofs.incoming.Incoming.put_all.Given as goal

abbrev pub invariant-tries : goal.invariant-tries
invariant-tries g l = record {
  puts : Puts l.conn (with_piece l.initial.self l.piece l.initial.at) (with_piece l.self l.piece l.at) (g.I.Inbox.jobs l.initial.inbox) (g.I.Inbox.jobs l.inbox);
  within : l.at ≤ length l.piece;
  keeps : IncomingKeeps l.initial.self l.self;
  inbox : InboxKeeps g.I.Inbox.lanes g.I.Inbox.refused g.I.Inbox.is_same l.initial.inbox l.inbox;
}

abbrev pub decreases-tries : goal.decreases-tries
decreases-tries g l = length (unread l.self.rest l.piece l.at) + weight l.self.stage
