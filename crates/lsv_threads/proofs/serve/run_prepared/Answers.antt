use Rattle.std.proofs.Common.{ℕ, List, length, map, sym, subst, arith}
use Rattle.std.specs.List.{AllZip}
use Rattle.std.specs.declared.alloc.Global.{Global}
use Rattle.std.specs.declared.vec.Vec.{Vec}
use Rattle.lsv_queue.specs.Settled.{AreReady, AreReceivers, AreRows, AreSettled}
use Rattle.lsv_queue.specs.declared.queue.InPass.{InPass}
use Rattle.lsv_queue.specs.declared.queue.OutPass.{OutPass}
use Rattle.lsv_session.specs.declared.job.Job.{Job}
use Rattle.lsv_session.specs.declared.reply.Reply.{Reply}
use Rattle.lsv_threads.specs.Run.{HasRun}
use Rattle.lsv_threads.specs.Running.{MayRun}
use Rattle.lsv_threads.specs.Served.{AreTurned}
use Rattle.lsv_threads.specs.Threads.{IsDone, IsLaneDone}
use Rattle.lsv_threads.proofs.Placing.{may_run}
use Rattle.lsv_threads.proofs.Preparing.{laid_of}
use Rattle.lsv_threads.proofs.Serving.{are_turned, jobs_ready, jobs_receivers_are, jobs_rows_are, replies_ready, replies_receivers_are, replies_rows_are}
use Rattle.lsv_threads.proofs.Zipping.{zip_length}
use Rattle.lsv_threads.proofs.serve.run_prepared.Goals as goal

pub run_all-ended-requires-clause-ready : goal.run_all-ended-requires-clause-ready
run_all-ended-requires-clause-ready g c κs within =
    let p = c.args.prepared in
    let q = c.requires.prepared in
    let laid = laid_of c.args.endpoints.items c.args.lanes.items p c.make_workers-workers.result.items c.make_lanes-ways.result.items q c.requires.some.0 c.requires.some_lanes.0 c.requires.some_lanes.1 c.make_workers-workers.ensures.sides c.make_lanes-ways.ensures.sides in
    subst (λ x. MayRun g.T.Endpoint g.L.Lane x c.as_slice-2.result.now c.make_workers-workers.result.items c.make_lanes-ways.result.items) (sym c.as_slice.ensures.value)
    (subst (λ y. MayRun g.T.Endpoint g.L.Lane p.inboxes.queues.items y c.make_workers-workers.result.items c.make_lanes-ways.result.items) (sym c.as_slice-2.ensures.value)
    (may_run g.T.Endpoint g.L.Lane c.args.endpoints.items c.args.lanes.items p.inboxes.queues.items p.outs.queues.items p.inboxes.rows.items p.outs.rows.items p.outs.receivers.items p.inboxes.receivers.items c.make_workers-workers.result.items c.make_lanes-ways.result.items laid c.requires.fresh.0 c.requires.fresh_lanes.0 c.requires.fresh.1 c.requires.fresh_lanes.1))

pub take_workers-left-requires-clause-endpoints : goal.take_workers-left-requires-clause-endpoints
take_workers-left-requires-clause-endpoints g c =
    let q = c.requires.prepared in
    (q.endpoints.0, let a = q.endpoints.1 in let b = zip_length (IsDone g.T.Endpoint) c.make_workers-workers.result.items c.run_all-ended.result.0.items c.run_all-ended.ensures.workers in let d = c.run_all-ended.result.0.ok.0 in let e = c.make_workers-workers.ensures.sides.size in omega arith)

pub take_workers-left-requires-clause-receivers : goal.take_workers-left-requires-clause-receivers
take_workers-left-requires-clause-receivers g c =
    let q = c.requires.prepared in
    (q.receivers.0, let a = q.receivers.1 in let b = zip_length (IsDone g.T.Endpoint) c.make_workers-workers.result.items c.run_all-ended.result.0.items c.run_all-ended.ensures.workers in let d = c.run_all-ended.result.0.ok.0 in let e = c.make_workers-workers.ensures.sides.size in omega arith)

pub take_workers-left-requires-clause-rows : goal.take_workers-left-requires-clause-rows
take_workers-left-requires-clause-rows g c =
    let q = c.requires.prepared in
    (q.rows.0, let a = q.rows.1 in let b = zip_length (IsDone g.T.Endpoint) c.make_workers-workers.result.items c.run_all-ended.result.0.items c.run_all-ended.ensures.workers in let d = c.run_all-ended.result.0.ok.0 in let e = c.make_workers-workers.ensures.sides.size in omega arith)

pub take_workers-left-requires-clause-stops : goal.take_workers-left-requires-clause-stops
take_workers-left-requires-clause-stops g c =
    let q = c.requires.prepared in
    (q.stops.0, let a = q.stops.1 in let b = zip_length (IsDone g.T.Endpoint) c.make_workers-workers.result.items c.run_all-ended.result.0.items c.run_all-ended.ensures.workers in let d = c.run_all-ended.result.0.ok.0 in let e = c.make_workers-workers.ensures.sides.size in omega arith)

pub take_lanes-lanes_left-requires-clause-lanes : goal.take_lanes-lanes_left-requires-clause-lanes
take_lanes-lanes_left-requires-clause-lanes g c =
    let q = c.requires.prepared in
    (q.lanes_left.0, let a = q.lanes_left.1 in let b = zip_length (IsLaneDone g.L.Lane c.count_of-count.result) c.make_lanes-ways.result.items c.run_all-ended.result.1.items c.run_all-ended.ensures.lanes in let d = c.run_all-ended.result.1.ok.0 in let e = c.make_lanes-ways.ensures.sides.size in omega arith)

pub take_lanes-lanes_left-requires-clause-receivers : goal.take_lanes-lanes_left-requires-clause-receivers
take_lanes-lanes_left-requires-clause-receivers g c =
    let q = c.requires.prepared in
    (q.lane_receivers.0, let a = q.lane_receivers.1 in let b = zip_length (IsLaneDone g.L.Lane c.count_of-count.result) c.make_lanes-ways.result.items c.run_all-ended.result.1.items c.run_all-ended.ensures.lanes in let d = c.run_all-ended.result.1.ok.0 in let e = c.make_lanes-ways.ensures.sides.size in omega arith)

pub take_lanes-lanes_left-requires-clause-rows : goal.take_lanes-lanes_left-requires-clause-rows
take_lanes-lanes_left-requires-clause-rows g c =
    let q = c.requires.prepared in
    (q.lane_rows.0, let a = q.lane_rows.1 in let b = zip_length (IsLaneDone g.L.Lane c.count_of-count.result) c.make_lanes-ways.result.items c.run_all-ended.result.1.items c.run_all-ended.ensures.lanes in let d = c.run_all-ended.result.1.ok.0 in let e = c.make_lanes-ways.ensures.sides.size in omega arith)

pub settle-requires-clause-rows : goal.settle-requires-clause-rows
settle-requires-clause-rows g c =
    let p = c.args.prepared in
    let q = c.requires.prepared in
    let laid = laid_of c.args.endpoints.items c.args.lanes.items p c.make_workers-workers.result.items c.make_lanes-ways.result.items q c.requires.some.0 c.requires.some_lanes.0 c.requires.some_lanes.1 c.make_workers-workers.ensures.sides c.make_lanes-ways.ensures.sides in
    let run : HasRun g.T.Endpoint g.L.Lane (length c.args.endpoints.items) c.make_workers-workers.result.items c.run_all-ended.result.0.items c.make_lanes-ways.result.items c.run_all-ended.result.1.items = record {
      workers_are = c.run_all-ended.ensures.workers;
      lanes_are = subst (λ (n : ℕ). AllZip (IsLaneDone g.L.Lane n) c.make_lanes-ways.result.items c.run_all-ended.result.1.items) c.count_of-count.ensures c.run_all-ended.ensures.lanes;
    } in
    subst (λ x. AreRows {T = Job} x (map (λ v. v.items) c.take_workers-left.result.rows.items)) (sym c.as_slice-3.ensures.value)
    (subst (λ (r : List (Vec (InPass Job) Global)). AreRows p.inboxes.queues.items (map (λ v. v.items) r)) (sym c.take_workers-left.ensures.rows) (jobs_rows_are g.T.Endpoint g.L.Lane c.args.endpoints.items c.args.lanes.items p.inboxes.queues.items p.outs.queues.items p.inboxes.rows.items p.outs.rows.items p.outs.receivers.items p.inboxes.receivers.items c.make_workers-workers.result.items c.make_lanes-ways.result.items laid c.run_all-ended.result.0.items c.run_all-ended.result.1.items run))

pub settle-requires-clause-receivers : goal.settle-requires-clause-receivers
settle-requires-clause-receivers g c =
    let p = c.args.prepared in
    let q = c.requires.prepared in
    let laid = laid_of c.args.endpoints.items c.args.lanes.items p c.make_workers-workers.result.items c.make_lanes-ways.result.items q c.requires.some.0 c.requires.some_lanes.0 c.requires.some_lanes.1 c.make_workers-workers.ensures.sides c.make_lanes-ways.ensures.sides in
    let run : HasRun g.T.Endpoint g.L.Lane (length c.args.endpoints.items) c.make_workers-workers.result.items c.run_all-ended.result.0.items c.make_lanes-ways.result.items c.run_all-ended.result.1.items = record {
      workers_are = c.run_all-ended.ensures.workers;
      lanes_are = subst (λ (n : ℕ). AllZip (IsLaneDone g.L.Lane n) c.make_lanes-ways.result.items c.run_all-ended.result.1.items) c.count_of-count.ensures c.run_all-ended.ensures.lanes;
    } in
    subst (λ x. AreReceivers {T = Job} x c.take_lanes-lanes_left.result.receivers.items) (sym c.as_slice-3.ensures.value)
    (subst (λ (r : List (OutPass Job)). AreReceivers p.inboxes.queues.items r) (sym c.take_lanes-lanes_left.ensures.receivers) (jobs_receivers_are g.T.Endpoint g.L.Lane c.args.endpoints.items c.args.lanes.items p.inboxes.queues.items p.outs.queues.items p.inboxes.rows.items p.outs.rows.items p.outs.receivers.items p.inboxes.receivers.items c.make_workers-workers.result.items c.make_lanes-ways.result.items laid c.run_all-ended.result.0.items c.run_all-ended.result.1.items run))

pub settle-requires-clause-ready : goal.settle-requires-clause-ready
settle-requires-clause-ready g c =
    let p = c.args.prepared in
    let q = c.requires.prepared in
    let laid = laid_of c.args.endpoints.items c.args.lanes.items p c.make_workers-workers.result.items c.make_lanes-ways.result.items q c.requires.some.0 c.requires.some_lanes.0 c.requires.some_lanes.1 c.make_workers-workers.ensures.sides c.make_lanes-ways.ensures.sides in
    let run : HasRun g.T.Endpoint g.L.Lane (length c.args.endpoints.items) c.make_workers-workers.result.items c.run_all-ended.result.0.items c.make_lanes-ways.result.items c.run_all-ended.result.1.items = record {
      workers_are = c.run_all-ended.ensures.workers;
      lanes_are = subst (λ (n : ℕ). AllZip (IsLaneDone g.L.Lane n) c.make_lanes-ways.result.items c.run_all-ended.result.1.items) c.count_of-count.ensures c.run_all-ended.ensures.lanes;
    } in
    subst (λ (r : List (Vec (InPass Job) Global)). AreReady c.take_lanes-lanes_left.result.receivers.items (map (λ v. v.items) r)) (sym c.take_workers-left.ensures.rows)
    (subst (λ (r : List (OutPass Job)). AreReady r (map (λ v. v.items) (map (λ s. s.put) c.run_all-ended.result.0.items))) (sym c.take_lanes-lanes_left.ensures.receivers) (jobs_ready g.T.Endpoint g.L.Lane c.args.endpoints.items c.args.lanes.items p.inboxes.queues.items p.outs.queues.items p.inboxes.rows.items p.outs.rows.items p.outs.receivers.items p.inboxes.receivers.items c.make_workers-workers.result.items c.make_lanes-ways.result.items laid c.run_all-ended.result.0.items c.run_all-ended.result.1.items run))

pub settle-requires-2-clause-rows : goal.settle-requires-2-clause-rows
settle-requires-2-clause-rows g c =
    let p = c.args.prepared in
    let q = c.requires.prepared in
    let laid = laid_of c.args.endpoints.items c.args.lanes.items p c.make_workers-workers.result.items c.make_lanes-ways.result.items q c.requires.some.0 c.requires.some_lanes.0 c.requires.some_lanes.1 c.make_workers-workers.ensures.sides c.make_lanes-ways.ensures.sides in
    let run : HasRun g.T.Endpoint g.L.Lane (length c.args.endpoints.items) c.make_workers-workers.result.items c.run_all-ended.result.0.items c.make_lanes-ways.result.items c.run_all-ended.result.1.items = record {
      workers_are = c.run_all-ended.ensures.workers;
      lanes_are = subst (λ (n : ℕ). AllZip (IsLaneDone g.L.Lane n) c.make_lanes-ways.result.items c.run_all-ended.result.1.items) c.count_of-count.ensures c.run_all-ended.ensures.lanes;
    } in
    subst (λ x. AreRows {T = Reply} x (map (λ v. v.items) c.take_lanes-lanes_left.result.rows.items)) (sym c.as_slice-4.ensures.value)
    (subst (λ (r : List (Vec (InPass Reply) Global)). AreRows p.outs.queues.items (map (λ v. v.items) r)) (sym c.take_lanes-lanes_left.ensures.rows) (replies_rows_are g.T.Endpoint g.L.Lane c.args.endpoints.items c.args.lanes.items p.inboxes.queues.items p.outs.queues.items p.inboxes.rows.items p.outs.rows.items p.outs.receivers.items p.inboxes.receivers.items c.make_workers-workers.result.items c.make_lanes-ways.result.items laid c.run_all-ended.result.0.items c.run_all-ended.result.1.items run))

pub settle-requires-2-clause-receivers : goal.settle-requires-2-clause-receivers
settle-requires-2-clause-receivers g c =
    let p = c.args.prepared in
    let q = c.requires.prepared in
    let laid = laid_of c.args.endpoints.items c.args.lanes.items p c.make_workers-workers.result.items c.make_lanes-ways.result.items q c.requires.some.0 c.requires.some_lanes.0 c.requires.some_lanes.1 c.make_workers-workers.ensures.sides c.make_lanes-ways.ensures.sides in
    let run : HasRun g.T.Endpoint g.L.Lane (length c.args.endpoints.items) c.make_workers-workers.result.items c.run_all-ended.result.0.items c.make_lanes-ways.result.items c.run_all-ended.result.1.items = record {
      workers_are = c.run_all-ended.ensures.workers;
      lanes_are = subst (λ (n : ℕ). AllZip (IsLaneDone g.L.Lane n) c.make_lanes-ways.result.items c.run_all-ended.result.1.items) c.count_of-count.ensures c.run_all-ended.ensures.lanes;
    } in
    subst (λ x. AreReceivers {T = Reply} x c.take_workers-left.result.receivers.items) (sym c.as_slice-4.ensures.value)
    (subst (λ (r : List (OutPass Reply)). AreReceivers p.outs.queues.items r) (sym c.take_workers-left.ensures.receivers) (replies_receivers_are g.T.Endpoint g.L.Lane c.args.endpoints.items c.args.lanes.items p.inboxes.queues.items p.outs.queues.items p.inboxes.rows.items p.outs.rows.items p.outs.receivers.items p.inboxes.receivers.items c.make_workers-workers.result.items c.make_lanes-ways.result.items laid c.run_all-ended.result.0.items c.run_all-ended.result.1.items run))

pub settle-requires-2-clause-ready : goal.settle-requires-2-clause-ready
settle-requires-2-clause-ready g c =
    let p = c.args.prepared in
    let q = c.requires.prepared in
    let laid = laid_of c.args.endpoints.items c.args.lanes.items p c.make_workers-workers.result.items c.make_lanes-ways.result.items q c.requires.some.0 c.requires.some_lanes.0 c.requires.some_lanes.1 c.make_workers-workers.ensures.sides c.make_lanes-ways.ensures.sides in
    let run : HasRun g.T.Endpoint g.L.Lane (length c.args.endpoints.items) c.make_workers-workers.result.items c.run_all-ended.result.0.items c.make_lanes-ways.result.items c.run_all-ended.result.1.items = record {
      workers_are = c.run_all-ended.ensures.workers;
      lanes_are = subst (λ (n : ℕ). AllZip (IsLaneDone g.L.Lane n) c.make_lanes-ways.result.items c.run_all-ended.result.1.items) c.count_of-count.ensures c.run_all-ended.ensures.lanes;
    } in
    subst (λ (r : List (Vec (InPass Reply) Global)). AreReady c.take_workers-left.result.receivers.items (map (λ v. v.items) r)) (sym c.take_lanes-lanes_left.ensures.rows)
    (subst (λ (r : List (OutPass Reply)). AreReady r (map (λ v. v.items) (map (λ s. s.given) c.run_all-ended.result.1.items))) (sym c.take_workers-left.ensures.receivers) (replies_ready g.T.Endpoint g.L.Lane c.args.endpoints.items c.args.lanes.items p.inboxes.queues.items p.outs.queues.items p.inboxes.rows.items p.outs.rows.items p.outs.receivers.items p.inboxes.receivers.items c.make_workers-workers.result.items c.make_lanes-ways.result.items laid c.run_all-ended.result.0.items c.run_all-ended.result.1.items run))

pub returns : goal.returns
returns g c = λ starts begins fresh fresh_lanes.
    let p = c.args.prepared in
    let q = c.requires.prepared in
    let laid = laid_of c.args.endpoints.items c.args.lanes.items p c.make_workers-workers.result.items c.make_lanes-ways.result.items q c.requires.some.0 c.requires.some_lanes.0 c.requires.some_lanes.1 c.make_workers-workers.ensures.sides c.make_lanes-ways.ensures.sides in
    let run : HasRun g.T.Endpoint g.L.Lane (length c.args.endpoints.items) c.make_workers-workers.result.items c.run_all-ended.result.0.items c.make_lanes-ways.result.items c.run_all-ended.result.1.items = record {
      workers_are = c.run_all-ended.ensures.workers;
      lanes_are = subst (λ (n : ℕ). AllZip (IsLaneDone g.L.Lane n) c.make_lanes-ways.result.items c.run_all-ended.result.1.items) c.count_of-count.ensures c.run_all-ended.ensures.lanes;
    } in
    let settled = subst (λ (r : List (Vec (InPass Job) Global)). AreSettled (map (λ s. s.taken) c.run_all-ended.result.1.items) (map (λ v. v.items) r)) c.take_workers-left.ensures.rows
    (subst (λ (r : List (OutPass Job)). AreSettled r (map (λ v. v.items) c.take_workers-left.result.rows.items)) c.take_lanes-lanes_left.ensures.receivers c.settle.ensures.settled) in
    let replies_settled = subst (λ (r : List (Vec (InPass Reply) Global)). AreSettled (map (λ s. s.desk.taken) c.run_all-ended.result.0.items) (map (λ v. v.items) r)) c.take_lanes-lanes_left.ensures.rows
    (subst (λ (r : List (OutPass Reply)). AreSettled r (map (λ v. v.items) c.take_lanes-lanes_left.result.rows.items)) c.take_workers-left.ensures.receivers c.settle-2.ensures.settled) in
    subst (λ l. AreTurned g.T.Endpoint g.L.Lane starts begins c.args.endpoints.items (length c.args.lanes.items) l c.take_workers-left.result.stops.items c.take_lanes-lanes_left.result.lanes.items c.take_lanes-lanes_left.result.failed) (sym c.take_workers-left.ensures.endpoints)
    (subst (λ l. AreTurned g.T.Endpoint g.L.Lane starts begins c.args.endpoints.items (length c.args.lanes.items) (map (λ s. s.desk.endpoint) c.run_all-ended.result.0.items) l c.take_lanes-lanes_left.result.lanes.items c.take_lanes-lanes_left.result.failed) (sym c.take_workers-left.ensures.stops)
    (subst (λ l. AreTurned g.T.Endpoint g.L.Lane starts begins c.args.endpoints.items (length c.args.lanes.items) (map (λ s. s.desk.endpoint) c.run_all-ended.result.0.items) (map (λ s. s.desk.stopped) c.run_all-ended.result.0.items) l c.take_lanes-lanes_left.result.failed) (sym c.take_lanes-lanes_left.ensures.lanes)
    (are_turned g.T.Endpoint g.L.Lane c.args.endpoints.items c.args.lanes.items p.inboxes.queues.items p.outs.queues.items p.inboxes.rows.items p.outs.rows.items p.outs.receivers.items p.inboxes.receivers.items c.make_workers-workers.result.items c.make_lanes-ways.result.items laid c.run_all-ended.result.0.items c.run_all-ended.result.1.items run starts begins fresh fresh_lanes settled replies_settled c.take_lanes-lanes_left.result.failed c.take_lanes-lanes_left.ensures.failed)))
