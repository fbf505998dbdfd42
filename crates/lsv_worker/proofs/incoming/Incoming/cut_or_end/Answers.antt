use Rattle.std.proofs.Common.{List, ℕ, refl, subst, sym}
use Rattle.lsv_cut.specs.Cuts.{unread}
use Rattle.lsv_worker.specs.Incoming.{Puts, with_piece}
use Rattle.lsv_worker.proofs.Putting.{puts_none}
use Rattle.lsv_worker.proofs.FrameLemmas.{inbox_here}
use Rattle.lsv_worker.proofs.incoming.Incoming.cut_or_end.Goals as goal

pub returns-in-Closed-clause-puts : goal.returns-in-Closed-clause-puts
returns-in-Closed-clause-puts g c =
    puts_none c.args.conn (with_piece c.args.self.now c.args.piece.now c.args.at.now) (with_piece c.args.self.now c.args.piece.now c.args.at.now) (g.I.Inbox.jobs c.args.inbox.now) (g.I.Inbox.jobs c.args.inbox.now) (λ m. refl) (λ read put marks h. h)

pub returns-in-Open-clause-puts : goal.returns-in-Open-clause-puts
returns-in-Open-clause-puts g c =
    puts_none c.args.conn (with_piece c.args.self.now c.args.piece.now c.args.at.now) (with_piece c.cut.new.self c.args.piece.now c.cut.new.at) (g.I.Inbox.jobs c.args.inbox.now) (g.I.Inbox.jobs c.args.inbox.now) (λ m. refl) c.cut.ensures.goes

pub returns-in-OutOfMemory-clause-puts : goal.returns-in-OutOfMemory-clause-puts
returns-in-OutOfMemory-clause-puts g c =
    subst (λ (r : List ℕ). Puts c.args.conn (with_piece c.args.self.now c.args.piece.now c.args.at.now) (record c.report_out_of_memory.new.self { rest = unread r c.args.piece.now c.args.at.now }) (g.I.Inbox.jobs c.args.inbox.now) (g.I.Inbox.jobs c.report_out_of_memory.new.inbox)) (sym c.report_out_of_memory.ensures.rest)
    (c.report_out_of_memory.ensures.puts (unread c.args.self.now.rest c.args.piece.now c.args.at.now))

pub returns-in-Closing-clause-puts : goal.returns-in-Closing-clause-puts
returns-in-Closing-clause-puts g c =
    subst (λ (r : List ℕ). Puts c.args.conn (with_piece c.args.self.now c.args.piece.now c.args.at.now) (record c.leave.new.self { rest = unread r c.args.piece.now c.args.at.now }) (g.I.Inbox.jobs c.args.inbox.now) (g.I.Inbox.jobs c.leave.new.inbox)) (sym c.leave.ensures.rest)
    (c.leave.ensures.puts (unread c.args.self.now.rest c.args.piece.now c.args.at.now))

pub returns-in-Open-clause-inbox : goal.returns-in-Open-clause-inbox
returns-in-Open-clause-inbox g c = inbox_here g.I.Inbox.lanes g.I.Inbox.refused g.I.Inbox.is_same c.args.inbox.now (g.met.I.Inbox.same_here c.args.inbox.now)

pub returns-in-Closed-clause-inbox : goal.returns-in-Closed-clause-inbox
returns-in-Closed-clause-inbox g c = inbox_here g.I.Inbox.lanes g.I.Inbox.refused g.I.Inbox.is_same c.args.inbox.now (g.met.I.Inbox.same_here c.args.inbox.now)
