-- For proofs: what was prepared for this many workers and lanes.
use Rattle.std.specs.Prelude.{◌≡◌, ◌≤◌, ℕ, [], length, vec_capacity}
use Rattle.std.specs.declared.alloc.Global.{Global}
use Rattle.std.specs.declared.vec.Vec.{Vec}
use Rattle.lsv_threads.specs.Dealt.{AreDealt, AreUntaken}
use Rattle.lsv_threads.specs.declared.serve.Prepared.{Prepared}

-- an empty list with room for this many
abbrev pub HasRoomFor : {A : Type 0} → ℕ → Vec A Global → Type 0
HasRoomFor {A} count list = (list.items ≡ []) × (count ≤ vec_capacity list)

pub record IsPrepared {T L : Type 0} (workers lanes : ℕ) (p : Prepared T L) : Type 0 where
  pub inboxes_are : length p.inboxes.queues.items ≡ lanes
  pub outs_are : length p.outs.queues.items ≡ workers
  pub dealt : AreDealt p.inboxes.queues.items p.inboxes.rows.items workers
  pub dealt_out : AreDealt p.outs.queues.items p.outs.rows.items lanes
  pub lanes_untaken : AreUntaken p.inboxes.queues.items p.inboxes.receivers.items
  pub untaken : AreUntaken p.outs.queues.items p.outs.receivers.items
  pub worker_sides : HasRoomFor workers p.worker_sides
  pub lane_sides : HasRoomFor lanes p.lane_sides
  pub workers_room : HasRoomFor workers p.rooms.workers
  pub worker_sides_room : HasRoomFor workers p.rooms.worker_sides
  pub lanes_room : HasRoomFor lanes p.rooms.lanes
  pub lane_sides_room : HasRoomFor lanes p.rooms.lane_sides
  pub endpoints : HasRoomFor workers p.worker_parts.endpoints
  pub receivers : HasRoomFor workers p.worker_parts.receivers
  pub rows : HasRoomFor workers p.worker_parts.rows
  pub stops : HasRoomFor workers p.worker_parts.stops
  pub lanes_left : HasRoomFor lanes p.lane_parts.lanes
  pub lane_receivers : HasRoomFor lanes p.lane_parts.receivers
  pub lane_rows : HasRoomFor lanes p.lane_parts.rows
