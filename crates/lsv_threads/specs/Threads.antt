-- The sides of workers and lanes, before, while and after their threads run.
use Rattle.std.specs.Prelude.{◌≡◌, ◌<◌, ℕ, true, false, List, [], Some, length, slice_get}
use Rattle.atomic_table.specs.Seated.{TableId}
use Rattle.lsv_queue.specs.Order.{marks_of}
use Rattle.lsv_queue.specs.Settled.{puts_at}
use Rattle.lsv_queue.specs.declared.queue.InPass.{InPass}
use Rattle.lsv_queue.specs.declared.queue.Queue.{Queue}
use Rattle.lsv_session.specs.declared.job.Job.{Job}
use Rattle.lsv_session.specs.declared.reply.Reply.{Reply}
use Rattle.lsv_turn.specs.declared.lane.Lane
use Rattle.lsv_threads.specs.Desks.{IsSameDesk, Stands}
use Rattle.lsv_threads.specs.Gates.{AreOwn}
use Rattle.lsv_threads.specs.LaneSides as lane_sides
use Rattle.lsv_threads.specs.LaneSides.{Turned}
use Rattle.lsv_threads.specs.Rows.{IsSender}
use Rattle.lsv_threads.specs.WorkerSides as worker_sides
use Rattle.lsv_threads.specs.declared.lane_side.LaneSide.{LaneSide}
use Rattle.lsv_threads.specs.declared.lane_thread.LaneBack.{LaneBack}
use Rattle.lsv_threads.specs.declared.lane_thread.LaneThread.{LaneThread}
use Rattle.lsv_threads.specs.declared.lane_thread.LaneThread.TheVariants as lane_thread
use Rattle.lsv_reactor.specs.declared.endpoint.Endpoint
use Rattle.lsv_threads.specs.declared.worker_side.WorkerSide.{WorkerSide}
use Rattle.lsv_threads.specs.declared.worker_thread.WorkerBack.{WorkerBack}
use Rattle.lsv_threads.specs.declared.worker_thread.WorkerThread.{WorkerThread}
use Rattle.lsv_threads.specs.declared.worker_thread.WorkerThread.TheVariants as worker_thread

-- a row of passes at the end: it is this row at a later time, and each pass has ended
pub record AreEnded {T : Type 0} (first row : List (InPass T)) : Type 0 where
  pub size : length row ≡ length first
  pub each : (k : ℕ) (p q : InPass T) → slice_get first k ≡ Some p → slice_get row k ≡ Some q → IsSender p q
  pub over : (k : ℕ) (q : InPass T) → slice_get row k ≡ Some q → q.list.ended ≡ true

-- ---- Workers

module _ {T : Type 0} (words : Endpoint.Ghosts T) where
  -- a side that may start, with this outbox
  pub record IsReady (inboxes : List (Queue Job)) (outbox : TableId) (side : WorkerSide T) : Type 0 where
    pub queue : side.desk.taken.queue ≡ outbox
    pub from : worker_sides.IsFrom words inboxes side side

  -- a side that may start, with the outbox at its number
  pub record IsPlaced (inboxes : List (Queue Job)) (outs : List (Queue Reply)) (side : WorkerSide T) : Type 0 where
    pub within : side.desk.number < length outs
    pub queue : (q : Queue Reply) → slice_get outs side.desk.number ≡ Some q → side.desk.taken.queue ≡ q.name
    pub from : worker_sides.IsFrom words inboxes side side

  -- A side that came to its end: all its passes have ended, and it met the end mark of each lane. Its endpoint is what the jobs that
  -- it put, and the replies that it took, made of it.
  pub record IsDone (first side : WorkerSide T) : Type 0 where
    pub put : AreEnded first.put.items side.put.items
    pub own : AreOwn side.put.items side.desk.number
    pub desk : IsSameDesk words first.desk side.desk
    pub lanes_are : side.desk.stopped ≡ false → words.lanes side.desk.endpoint ≡ length side.put.items
    pub number_is : side.desk.stopped ≡ false → words.number side.desk.endpoint ≡ side.desk.number
    pub marks : marks_of side.desk.taken.taken.got ≡ length side.put.items
    pub begun : (start : words.Start) × (lanes : ℕ) × Stands words start lanes side.desk (puts_at side.put.items)
    pub stands : (start : words.Start) (lanes : ℕ) → Stands words start lanes first.desk (puts_at first.put.items) → Stands words start lanes side.desk (puts_at side.put.items)

  -- what a thread hands back: its side at the end, or as it was
  pub record IsBack (first : WorkerSide T) (back : WorkerBack T) : Type 0 where
    pub done : back.ran ≡ true → IsDone first back.side
    pub left : back.ran ≡ false → back.side ≡ first

  -- a worker whose thread was just started, or refused
  abbrev pub IsBegun : WorkerSide T → WorkerThread T → Type 0
  IsBegun side (worker_thread.There handle) = handle.promise.side.value ≡ side
  IsBegun side (worker_thread.Here back) = IsBack side back

  -- a side without a thread: at its end, or after some steps
  pub record IsHere (inboxes : List (Queue Job)) (first : WorkerSide T) (back : WorkerBack T) : Type 0 where
    pub done : back.ran ≡ true → IsDone first back.side
    pub going : back.ran ≡ false → worker_sides.IsFrom words inboxes first back.side

  -- a worker that began with this side, in its thread or without one
  abbrev pub IsWorker : List (Queue Job) → WorkerSide T → WorkerThread T → Type 0
  IsWorker inboxes first (worker_thread.There handle) = handle.promise.side.value ≡ first
  IsWorker inboxes first (worker_thread.Here back) = IsHere inboxes first back

  -- a worker that began with some side
  pub record IsStarted (inboxes : List (Queue Job)) (outs : List (Queue Reply)) (thread : WorkerThread T) : Type 0 where
    pub first : WorkerSide T
    pub placed : IsPlaced inboxes outs first
    pub is : IsWorker inboxes first thread

  -- one worker is another after some steps
  abbrev pub Went : List (Queue Job) → List (Queue Reply) → WorkerThread T → WorkerThread T → Type 0
  Went inboxes outs old new = (first : WorkerSide T) → IsPlaced inboxes outs first → IsWorker inboxes first old → IsWorker inboxes first new

  -- this is how the worker ends
  abbrev pub Ends : List (Queue Job) → List (Queue Reply) → WorkerThread T → WorkerSide T → Type 0
  Ends inboxes outs thread side = (first : WorkerSide T) → IsPlaced inboxes outs first → IsWorker inboxes first thread → IsDone first side

-- ---- Lanes

module _ {L : Type 0} (words : Lane.Ghosts L) where
  -- a side that may start, with this inbox
  pub record IsLaneReady (inbox : TableId) (outs : List (Queue Reply)) (side : LaneSide L) : Type 0 where
    pub queue : side.taken.queue ≡ inbox
    pub from : lane_sides.IsFrom words outs side side

  -- a side that may start, with the inbox at its number
  pub record IsLanePlaced (inboxes : List (Queue Job)) (outs : List (Queue Reply)) (side : LaneSide L) : Type 0 where
    pub within : side.number < length inboxes
    pub queue : (q : Queue Job) → slice_get inboxes side.number ≡ Some q → side.taken.queue ≡ q.name
    pub from : lane_sides.IsFrom words outs side side

  -- A side that came to its end: all its passes have ended, and it met the end mark of each worker. Its lane is what its turns made
  -- of it.
  pub record IsLaneDone (workers : ℕ) (first side : LaneSide L) : Type 0 where
    pub number_is : side.number ≡ first.number
    pub given : AreEnded first.given.items side.given.items
    pub queue : side.taken.queue ≡ first.taken.queue
    pub joined : side.taken.taken.joined ≡ first.taken.taken.joined
    pub marks : marks_of side.taken.taken.got ≡ workers
    pub turned : (start : words.Start) → Turned words start first [] → Turned words start side []

  -- what a thread hands back: its side at the end, or as it was
  pub record IsLaneBack (workers : ℕ) (first : LaneSide L) (back : LaneBack L) : Type 0 where
    pub done : back.ran ≡ true → IsLaneDone workers first back.side
    pub left : back.ran ≡ false → back.side ≡ first

  -- a lane whose thread was just started, or refused
  abbrev pub IsLaneBegun : ℕ → LaneSide L → LaneThread L → Type 0
  IsLaneBegun workers side (lane_thread.There handle) = (handle.promise.side.value ≡ side) × (handle.promise.workers ≡ workers)
  IsLaneBegun workers side (lane_thread.Here back) = IsLaneBack workers side back

  -- a side without a thread: at its end, or after some steps
  pub record IsLaneHere (outs : List (Queue Reply)) (workers : ℕ) (first : LaneSide L) (back : LaneBack L) : Type 0 where
    pub done : back.ran ≡ true → IsLaneDone workers first back.side
    pub going : back.ran ≡ false → lane_sides.IsFrom words outs first back.side

  -- a lane that began with this side, in its thread or without one
  abbrev pub IsLane : List (Queue Reply) → ℕ → LaneSide L → LaneThread L → Type 0
  IsLane outs workers first (lane_thread.There handle) = (handle.promise.side.value ≡ first) × (handle.promise.workers ≡ workers)
  IsLane outs workers first (lane_thread.Here back) = IsLaneHere outs workers first back

  -- a lane that began with some side
  pub record IsLaneStarted (inboxes : List (Queue Job)) (outs : List (Queue Reply)) (workers : ℕ) (thread : LaneThread L) : Type 0 where
    pub first : LaneSide L
    pub placed : IsLanePlaced inboxes outs first
    pub is : IsLane outs workers first thread

  -- one lane is another after some steps
  abbrev pub LaneWent : List (Queue Job) → List (Queue Reply) → ℕ → LaneThread L → LaneThread L → Type 0
  LaneWent inboxes outs workers old new = (first : LaneSide L) → IsLanePlaced inboxes outs first → IsLane outs workers first old → IsLane outs workers first new

  -- this is how the lane ends
  abbrev pub LaneEnds : List (Queue Job) → List (Queue Reply) → ℕ → LaneThread L → LaneSide L → Type 0
  LaneEnds inboxes outs workers thread side = (first : LaneSide L) → IsLanePlaced inboxes outs first → IsLane outs workers first thread → IsLaneDone workers first side
