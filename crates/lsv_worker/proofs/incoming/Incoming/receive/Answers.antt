use Rattle.std.proofs.Common.{List, ℕ, length, sym, ◌∙◌, refl, subst, arith}
use Rattle.std.proofs.lemmas.Slice.{between_to_end}
use Rattle.lsv_worker.specs.Incoming.{SameWay, with_piece}
use Rattle.lsv_worker.proofs.Cutting.{rest_free}
use Rattle.lsv_worker.proofs.Putting.{puts_none, puts_then}
use Rattle.lsv_worker.proofs.Wanting.{keeps_then}
use Rattle.lsv_worker.proofs.FrameLemmas.{inbox_here}
use Rattle.lsv_worker.proofs.incoming.Incoming.receive.Goals as goal

pub returns-then-is_cutting-clause-puts : goal.returns-then-is_cutting-clause-puts
returns-then-is_cutting-clause-puts g c =
    let piece = c.args.piece.now in
    let mid = c.put_all.new.self in
    let at = c.put_all.new.at in
    let kept : SameWay (with_piece mid piece at) c.keep.new.self =
    subst (λ (l : List ℕ). SameWay (with_piece mid l 0) c.keep.new.self) (between_to_end piece at (length piece) (omega arith)) c.keep.ensures.goes in
    puts_then c.args.conn (with_piece c.args.self.now piece 0) (with_piece mid piece at) c.keep.new.self (g.I.Inbox.jobs c.args.inbox.now) (g.I.Inbox.jobs c.put_all.new.inbox) (g.I.Inbox.jobs c.put_all.new.inbox) c.put_all.ensures.puts
    (puts_none c.args.conn (with_piece mid piece at) c.keep.new.self (g.I.Inbox.jobs c.put_all.new.inbox) (g.I.Inbox.jobs c.put_all.new.inbox) (λ m. refl) kept)

pub returns-then-is_cutting-clause-keeps : goal.returns-then-is_cutting-clause-keeps
returns-then-is_cutting-clause-keeps g c = keeps_then c.args.self.now c.put_all.new.self c.keep.new.self c.put_all.ensures.keeps c.keep.ensures.keeps

pub returns-else-is_cutting-clause-puts : goal.returns-else-is_cutting-clause-puts
returns-else-is_cutting-clause-puts g c =
    puts_none c.args.conn (with_piece c.args.self.now c.args.piece.now 0) c.args.self.now (g.I.Inbox.jobs c.args.inbox.now) (g.I.Inbox.jobs c.args.inbox.now) (λ m. refl)
    (rest_free (with_piece c.args.self.now c.args.piece.now 0) c.args.self.now.rest (sym c.is_cutting.ensures ∙ c.if-is_cutting.false))

pub returns-else-is_cutting-clause-inbox : goal.returns-else-is_cutting-clause-inbox
returns-else-is_cutting-clause-inbox g c = inbox_here g.I.Inbox.lanes g.I.Inbox.refused g.I.Inbox.is_same c.args.inbox.now (g.met.I.Inbox.same_here c.args.inbox.now)
