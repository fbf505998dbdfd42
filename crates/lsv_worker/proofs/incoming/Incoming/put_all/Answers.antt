use Rattle.std.proofs.Common.{refl, sym, ◌∙◌}
use Rattle.lsv_worker.specs.Incoming.{with_piece}
use Rattle.lsv_worker.proofs.FrameLemmas.{inbox_here, inbox_then}
use Rattle.lsv_worker.proofs.Putting.{puts_none, puts_then}
use Rattle.lsv_worker.proofs.Wanting.{keeps_here, keeps_then}
use Rattle.lsv_worker.proofs.incoming.Incoming.put_all.Goals as goal

pub tries-init : goal.tries-init
tries-init g c = record {
  puts = puts_none c.args.conn (with_piece c.args.self.now c.args.piece.now c.args.at.now) (with_piece c.args.self.now c.args.piece.now c.args.at.now) (g.I.Inbox.jobs c.args.inbox.now) (g.I.Inbox.jobs c.args.inbox.now) (λ m. refl) (λ read put marks h. h);
  within = c.requires.within;
  keeps = keeps_here c.args.self.now;
  inbox = inbox_here g.I.Inbox.lanes g.I.Inbox.refused g.I.Inbox.is_same c.args.inbox.now (g.met.I.Inbox.same_here c.args.inbox.now);
}

pub next_job-requires : goal.next_job-requires
next_job-requires g c = record { lanes = c.tries.invariant.inbox.lanes_stay ∙ c.requires.lanes ∙ sym c.tries.invariant.keeps.lanes; within = c.tries.invariant.within }

pub returns-in-Full-clause-inbox : goal.returns-in-Full-clause-inbox
returns-in-Full-clause-inbox g c = inbox_then g.met.I.Inbox.same_through c.tries.invariant.inbox c.next_job.ensures.inbox

pub returns-in-Idle-clause-inbox : goal.returns-in-Idle-clause-inbox
returns-in-Idle-clause-inbox g c = inbox_then g.met.I.Inbox.same_through c.tries.invariant.inbox c.next_job.ensures.inbox

pub tries-preserved : goal.tries-preserved
tries-preserved g c = record {
  puts = puts_then c.args.conn (with_piece c.args.self.now c.args.piece.now c.args.at.now) (with_piece c.tries.self c.args.piece.now c.tries.at) (with_piece c.next_job.new.self c.args.piece.now c.next_job.new.at) (g.I.Inbox.jobs c.args.inbox.now) (g.I.Inbox.jobs c.tries.inbox) (g.I.Inbox.jobs c.next_job.new.inbox) c.tries.invariant.puts c.next_job.ensures.puts;
  within = c.next_job.ensures.within;
  keeps = keeps_then c.args.self.now c.tries.self c.next_job.new.self c.tries.invariant.keeps c.next_job.ensures.keeps;
  inbox = inbox_then g.met.I.Inbox.same_through c.tries.invariant.inbox c.next_job.ensures.inbox;
}

pub returns-in-Full-clause-puts : goal.returns-in-Full-clause-puts
returns-in-Full-clause-puts g c = puts_then c.args.conn (with_piece c.args.self.now c.args.piece.now c.args.at.now) (with_piece c.tries.self c.args.piece.now c.tries.at) (with_piece c.next_job.new.self c.args.piece.now c.next_job.new.at) (g.I.Inbox.jobs c.args.inbox.now) (g.I.Inbox.jobs c.tries.inbox) (g.I.Inbox.jobs c.next_job.new.inbox) c.tries.invariant.puts c.next_job.ensures.puts

pub returns-in-Idle-clause-puts : goal.returns-in-Idle-clause-puts
returns-in-Idle-clause-puts g c = puts_then c.args.conn (with_piece c.args.self.now c.args.piece.now c.args.at.now) (with_piece c.tries.self c.args.piece.now c.tries.at) (with_piece c.next_job.new.self c.args.piece.now c.next_job.new.at) (g.I.Inbox.jobs c.args.inbox.now) (g.I.Inbox.jobs c.tries.inbox) (g.I.Inbox.jobs c.next_job.new.inbox) c.tries.invariant.puts c.next_job.ensures.puts

pub returns-in-Full-clause-keeps : goal.returns-in-Full-clause-keeps
returns-in-Full-clause-keeps g c = keeps_then c.args.self.now c.tries.self c.next_job.new.self c.tries.invariant.keeps c.next_job.ensures.keeps

pub returns-in-Idle-clause-keeps : goal.returns-in-Idle-clause-keeps
returns-in-Idle-clause-keeps g c = keeps_then c.args.self.now c.tries.self c.next_job.new.self c.tries.invariant.keeps c.next_job.ensures.keeps
