-- A side that came to its end, or is without a thread.
use Rattle.std.proofs.Common.{◌≡◌, ℕ, ◌<◌, Some, List, length, refl, sym, ◌∙◌, subst, arith}
use Rattle.std.specs.Prelude.{slice_get}
use Rattle.std.proofs.lemmas.Option.{slice_get_within}
use Rattle.lsv_queue.specs.declared.queue.Queue.{Queue}
use Rattle.lsv_session.specs.declared.job.Job.{Job}
use Rattle.lsv_session.specs.declared.reply.Reply.{Reply}
use Rattle.lsv_turn.specs.declared.lane.Lane
use Rattle.lsv_threads.specs.LaneSides as lane_sides
use Rattle.lsv_threads.specs.Threads.{IsBack, IsBegun, IsDone, IsHere, IsLane, IsLaneBack, IsLaneBegun, IsLaneDone, IsLaneHere, IsLanePlaced, IsPlaced, IsWorker}
use Rattle.lsv_threads.specs.WorkerSides as worker_sides
use Rattle.lsv_threads.specs.declared.lane_side.LaneSide.{LaneSide}
use Rattle.lsv_threads.specs.declared.lane_thread.LaneBack.{LaneBack}
use Rattle.lsv_threads.specs.declared.lane_thread.LaneThread.{LaneThread}
use Rattle.lsv_threads.specs.declared.lane_thread.LaneThread.TheVariants as lane_thread
use Rattle.lsv_reactor.specs.declared.endpoint.Endpoint
use Rattle.lsv_threads.specs.declared.worker_side.WorkerSide.{WorkerSide}
use Rattle.lsv_threads.specs.declared.worker_thread.WorkerBack.{WorkerBack}
use Rattle.lsv_threads.specs.declared.worker_thread.WorkerThread.{WorkerThread}
use Rattle.lsv_threads.specs.declared.worker_thread.WorkerThread.TheVariants as worker_thread

module _ {T : Type 0} (words : Endpoint.Ghosts T) (inboxes : List (Queue Job)) where
  pub from_over : (first side : WorkerSide T) → worker_sides.IsFrom words inboxes first side → worker_sides.IsOver side → IsDone words first side
  from_over first side from over = record {
    put = record {
      size = from.passes.size;
      each = from.passes.each;
      over = λ k q at. from.passes.over k q at (let l = slice_get_within side.put.items k q at in let e = over.ended in omega arith);
    };
    own = from.own;
    desk = from.desk;
    lanes_are = from.lanes_are;
    number_is = from.number_is;
    marks = over.marks;
    begun = from.begun;
    stands = from.stands;
  }

  -- what a thread hands back, at its starter
  pub back_here : (value first : WorkerSide T) (back : WorkerBack T) → value ≡ first → worker_sides.IsFrom words inboxes first first → IsBack words value back → IsHere words inboxes first back
  back_here value first back same from is = subst (λ (v : WorkerSide T). worker_sides.IsFrom words inboxes v v → IsHere words inboxes v back) same
      (λ f. record { done = is.done; going = λ e. subst (λ (z : WorkerSide T). worker_sides.IsFrom words inboxes value z) (sym (is.left e)) f }) from

module _ {L : Type 0} (words : Lane.Ghosts L) (outs : List (Queue Reply)) (workers : ℕ) where
  pub lane_over : (first side : LaneSide L) → lane_sides.IsFrom words outs first side → lane_sides.IsOver workers side → IsLaneDone words workers first side
  lane_over first side from over = record {
    number_is = from.number_is;
    given = record {
      size = from.passes.size;
      each = from.passes.each;
      over = λ k q at. from.passes.over k q at (let l = slice_get_within side.given.items k q at in let e = over.ended in omega arith);
    };
    queue = from.queue;
    joined = from.joined;
    marks = over.marks;
    turned = from.turned;
  }

  -- what a thread hands back, at its starter
  pub lane_here : (value first : LaneSide L) (back : LaneBack L) → value ≡ first → lane_sides.IsFrom words outs first first → IsLaneBack words workers value back → IsLaneHere words outs workers first back
  lane_here value first back same from is = subst (λ (v : LaneSide L). lane_sides.IsFrom words outs v v → IsLaneHere words outs workers v back) same
      (λ f. record { done = is.done; going = λ e. subst (λ (z : LaneSide L). lane_sides.IsFrom words outs value z) (sym (is.left e)) f }) from

-- ---- A side that made steps stands at its queues

module _ {T : Type 0} (words : Endpoint.Ghosts T) (inboxes : List (Queue Job)) (outs : List (Queue Reply)) (first side : WorkerSide T) (placed : IsPlaced words inboxes outs first) (from : worker_sides.IsFrom words inboxes first side) where
  pub side_within : side.desk.number < length outs
  side_within = let e = from.desk.number_is in let l = placed.within in omega arith

  pub side_queue : (q : Queue Reply) → slice_get outs side.desk.number ≡ Some q → side.desk.taken.queue ≡ q.name
  side_queue q at = from.desk.queue ∙ placed.queue q (subst (λ (n : ℕ). slice_get outs n ≡ Some q) from.desk.number_is at)

module _ {L : Type 0} (words : Lane.Ghosts L) (inboxes : List (Queue Job)) (outs : List (Queue Reply)) (first side : LaneSide L) (placed : IsLanePlaced words inboxes outs first) (from : lane_sides.IsFrom words outs first side) where
  pub lane_within : side.number < length inboxes
  lane_within = let e = from.number_is in let l = placed.within in omega arith

  pub lane_queue : (q : Queue Job) → slice_get inboxes side.number ≡ Some q → side.taken.queue ≡ q.name
  lane_queue q at = from.queue ∙ placed.queue q (subst (λ (n : ℕ). slice_get inboxes n ≡ Some q) from.number_is at)

-- ---- A thread that was just started, or refused

module _ {T : Type 0} (words : Endpoint.Ghosts T) (inboxes : List (Queue Job)) where
  pub begun_worker : (first : WorkerSide T) (thread : WorkerThread T) → worker_sides.IsFrom words inboxes first first → IsBegun words first thread → IsWorker words inboxes first thread
  begun_worker first (worker_thread.There handle) from is = is
  begun_worker first (worker_thread.Here back) from is = back_here words inboxes first first back refl from is

module _ {L : Type 0} (words : Lane.Ghosts L) (outs : List (Queue Reply)) (workers : ℕ) where
  pub begun_lane : (first : LaneSide L) (thread : LaneThread L) → lane_sides.IsFrom words outs first first → IsLaneBegun words workers first thread → IsLane words outs workers first thread
  begun_lane first (lane_thread.There handle) from is = is
  begun_lane first (lane_thread.Here back) from is = lane_here words outs workers first first back refl from is
