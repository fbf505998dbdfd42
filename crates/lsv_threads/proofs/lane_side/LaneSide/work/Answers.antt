use Rattle.std.proofs.Common.{refl}
use Rattle.lsv_threads.proofs.Turning.{from_dropped}
use Rattle.lsv_threads.proofs.lane_side.LaneSide.work.Goals as goal

pub returns-then-self-gt0-clause-from : goal.returns-then-self-gt0-clause-from
returns-then-self-gt0-clause-from g c = λ first from. from_dropped g.L.Lane c.args.outs.now c.args.self.now _ refl c.args.jobs.items refl (λ start turns made. made) refl refl refl first from

pub returns-then-self-clause-from : goal.returns-then-self-clause-from
returns-then-self-clause-from g c = λ first from. from_dropped g.L.Lane c.args.outs.now c.args.self.now c.args.self.now refl c.args.jobs.items c.if-self.true (λ start turns made. made) refl refl refl first from
