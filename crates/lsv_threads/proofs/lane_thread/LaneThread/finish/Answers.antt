use Rattle.std.proofs.Common.{◌≡◌, ℕ, subst}
use Rattle.lsv_threads.specs.Threads.{IsLane, IsLaneHere}
use Rattle.lsv_threads.proofs.Done.{lane_here}
use Rattle.lsv_threads.proofs.lane_thread.LaneThread.finish.Goals as goal

pub finish_back-requires : goal.finish_back-requires
finish_back-requires g c =
    let s = c.requires.started in
    let h = c.in-There.handle in
    let same : (h.promise.side.value ≡ s.first) × (h.promise.workers ≡ c.args.workers) = subst (λ w. IsLane g.L.Lane c.args.outs.now c.args.workers s.first w) c.in-There.is s.is in
    record { here = (s.first, s.placed, subst (λ (n : ℕ). IsLaneHere g.L.Lane c.args.outs.now n s.first c.join.result) same.1 (lane_here g.L.Lane c.args.outs.now h.promise.workers h.promise.side.value s.first c.join.result same.0 s.placed.from c.join.ensures)) }

pub finish_back-requires-in-Here : goal.finish_back-requires-in-Here
finish_back-requires-in-Here g c = let s = c.requires.started in record { here = (s.first, s.placed, subst (λ w. IsLane g.L.Lane c.args.outs.now c.args.workers s.first w) c.in-Here.is s.is) }

pub returns-in-There : goal.returns-in-There
returns-in-There g c = λ first placed is.
    let h = c.in-There.handle in
    let same : (h.promise.side.value ≡ first) × (h.promise.workers ≡ c.args.workers) = subst (λ w. IsLane g.L.Lane c.args.outs.now c.args.workers first w) c.in-There.is is in
    c.finish_back.ensures first placed (subst (λ (n : ℕ). IsLaneHere g.L.Lane c.args.outs.now n first c.join.result) same.1 (lane_here g.L.Lane c.args.outs.now h.promise.workers h.promise.side.value first c.join.result same.0 placed.from c.join.ensures))
