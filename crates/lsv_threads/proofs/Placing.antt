-- Sides that were made of fresh parts may start.
use Rattle.std.proofs.Common.{◌≡◌, ℕ, zero, suc, ◌<◌, false, Some, None, Option, List, [], ◌∷◌, ◌++◌, get_or, length, refl, sym, ap, ◌∙◌, subst, arith}
use Rattle.std.specs.Prelude.{slice_get}
use Rattle.std.specs.declared.alloc.Global.{Global}
use Rattle.std.specs.declared.vec.Vec.{Vec}
use Rattle.std.proofs.Math.Path.{fun_ext}
use Rattle.std.proofs.lemmas.Option.{slice_get-get_or, slice_get_within}
use Rattle.lsv_queue.specs.Order.{sent, taken}
use Rattle.lsv_queue.specs.Passes.{items_of}
use Rattle.lsv_queue.specs.Settled.{puts_at, puts_of}
use Rattle.lsv_queue.specs.declared.queue.InPass.{InPass}
use Rattle.lsv_queue.specs.declared.queue.OutPass.{OutPass}
use Rattle.lsv_queue.specs.declared.queue.Queue.{Queue}
use Rattle.lsv_queue.proofs.Places.{one_there}
use Rattle.lsv_session.specs.declared.job.Job.{Job}
use Rattle.lsv_session.specs.declared.reply.Reply.{Reply}
use Rattle.lsv_links.specs.Turns.{AreOf, replies_to}
use Rattle.lsv_turn.specs.Turns.{AreAskedIn}
use Rattle.lsv_turn.specs.declared.lane.Lane
use Rattle.lsv_threads.specs.Dealt.{AreDealt, AreNew}
use Rattle.lsv_threads.specs.LaneSides.{Turned}
use Rattle.lsv_threads.specs.Parts.{IsLaneSide, IsWorkerSide}
use Rattle.lsv_threads.specs.Rows.{ArePasses}
use Rattle.lsv_threads.specs.Run.{AreFresh, AreFreshLanes, AreLaid}
use Rattle.lsv_threads.specs.Running.{MayRun}
use Rattle.lsv_threads.specs.Threads.{IsLanePlaced, IsPlaced}
use Rattle.lsv_threads.specs.WorkerSides as worker_sides
use Rattle.lsv_threads.specs.declared.lane_side.LaneSide.{LaneSide}
use Rattle.lsv_reactor.specs.declared.endpoint.Endpoint
use Rattle.lsv_threads.specs.declared.worker_side.WorkerSide.{WorkerSide}
use Rattle.lsv_threads.proofs.Hearing.{same_here}

-- what stands at a place below the end
pub get_at : {A : Type 0} (xs : List A) (k : ℕ) → k < length xs → (x : A) × (slice_get xs k ≡ Some x)
get_at [] k less = absurd (omega arith)
get_at (x ∷ xs) k less = (get_or (x ∷ xs) k x, slice_get-get_or (x ∷ xs) k x less)

module _ {T : Type 0} (qs : List (Queue T)) where
  pub new_list : (row : List (InPass T)) (number made k : ℕ) (p : InPass T) → AreNew qs row number made → slice_get row k ≡ Some p → p.list ≡ sent number made [] false
  new_list row number made k p are at = let q = get_at qs k (let l = slice_get_within row k p at in let e = are.size in omega arith) in (are.each k q.0 p q.1 at).list

  pub puts_new : (row : List (InPass T)) (number made : ℕ) → AreNew qs row number made → (k : ℕ) → puts_at row k ≡ []
  puts_new row number made are k = go (slice_get row k) refl
    where
      go : (o : Option (InPass T)) → slice_get row k ≡ o → puts_at row k ≡ []
      go None e = ap puts_of e
      go (Some p) e = ap puts_of e ∙ ap (λ t. t.put) (new_list row number made k p are e)

  pub passes_new : (row : List (InPass T)) (number made : ℕ) → AreNew qs row number made → ArePasses qs row row 0
  passes_new row number made are = record {
    size = refl;
    of_queues = record { size = are.size; each = λ k q p x y. (are.each k q p x y).queue };
    within = omega arith;
    each = λ k p q x y. let e : q ≡ p = one_there row k q p y x in record { queue = ap (λ (z : InPass T). z.queue) e; number = ap (λ (z : InPass T). z.list.number) e; made = ap (λ (z : InPass T). z.list.made) e };
    over = λ k q y less. absurd (omega arith);
    going = λ k q y high. ap (λ t. t.ended) (new_list row number made k q are y);
  }

  -- the row of each sender is new
  pub dealt_at : (rows : List (Vec (InPass T) Global)) (senders s : ℕ) (row : Vec (InPass T) Global) → AreDealt qs rows senders → slice_get rows s ≡ Some row → (made : ℕ) × AreNew qs row.items s made
  dealt_at rows senders zero row are at = (senders, are.first row at)
  dealt_at rows senders (suc s) row are at = (0, are.others (suc s) row (omega arith) at)

-- no turns reply to nobody
pub none_asked : AreAskedIn []
none_asked = record { asked = λ k e. tt; behind = λ k before after r ends e same shut. absurd (nil before after r e) }
  where
    nil : (before after : List Reply) (r : Reply) → [] ≡ before ++ r ∷ after → ⊥
    nil [] after r e = cc
    nil (x ∷ xs) after r e = cc

module _ {T L : Type 0} (words : Endpoint.Ghosts T) (lane_words : Lane.Ghosts L) (endpoints : List T) (lanes : List L) (inboxes : List (Queue Job)) (outs : List (Queue Reply)) (rows : List (Vec (InPass Job) Global)) (lane_rows : List (Vec (InPass Reply) Global))
    (receivers : List (OutPass Reply)) (lane_receivers : List (OutPass Job)) (workers : List (WorkerSide T)) (ways : List (LaneSide L))
    (laid : AreLaid endpoints lanes inboxes outs rows lane_rows receivers lane_receivers workers ways) where
  -- ---- workers

  module _ (k : ℕ) (side : WorkerSide T) (at : slice_get workers k ≡ Some side) where
    is_side : IsWorkerSide endpoints rows receivers k side
    is_side = laid.workers_are.each k side at

    worker_low : k < length endpoints
    worker_low = let l = slice_get_within workers k side at in let e = laid.workers_are.size in omega arith

    pub worker_row : (made : ℕ) × AreNew inboxes side.put.items k made
    worker_row = dealt_at inboxes rows (length endpoints) k side.put laid.dealt is_side.put

    pub worker_untaken : (q : Queue Reply) → slice_get outs k ≡ Some q → (side.desk.taken.queue ≡ q.name) × (side.desk.taken.taken ≡ taken [] [])
    worker_untaken q there = laid.untaken.each k q side.desk.taken there is_side.taken

    worker_out : (q : Queue Reply) × (slice_get outs k ≡ Some q)
    worker_out = get_at outs k (let l = worker_low in let e = laid.outs_are in omega arith)

    pub worker_got : side.desk.taken.taken ≡ taken [] []
    worker_got = (worker_untaken worker_out.0 worker_out.1).1

    worker_puts : puts_at side.put.items ≡ (λ l. [])
    worker_puts = fun_ext (puts_new inboxes side.put.items k worker_row.0 worker_row.1)

    wide : length side.put.items ≡ length lanes
    wide = worker_row.1.size ∙ laid.inboxes_are

    pub worker_stands : (starts : ℕ → words.Start) → AreFresh words endpoints (length lanes) starts → words.made_by (starts k) side.desk.endpoint (puts_at side.put.items) (replies_to side.desk.number (items_of side.desk.taken.taken.got))
    worker_stands starts fresh =
        subst (λ (f : ℕ → List Job). words.made_by (starts k) side.desk.endpoint f (replies_to side.desk.number (items_of side.desk.taken.taken.got))) (sym worker_puts)
        (subst (λ t. words.made_by (starts k) side.desk.endpoint (λ l. []) (replies_to side.desk.number (items_of t.got))) (sym worker_got)
        (fresh.begun k side.desk.endpoint is_side.endpoint))

    worker_from : (starts : ℕ → words.Start) → AreFresh words endpoints (length lanes) starts → worker_sides.IsFrom words inboxes side side
    worker_from starts fresh = record {
      passes = subst (λ (n : ℕ). ArePasses inboxes side.put.items side.put.items n) (sym is_side.ended) (passes_new inboxes side.put.items k worker_row.0 worker_row.1);
      few = let e = wide in let f = laid.few in omega arith;
      own = subst (λ (f : ℕ → List Job). (lane : ℕ) → AreOf side.desk.number (f lane)) (sym worker_puts) (λ lane. tt);
      desk = same_here words side.desk;
      lanes_are = λ e. fresh.lanes_are k side.desk.endpoint is_side.endpoint ∙ sym wide;
      number_is = λ e. fresh.numbered k side.desk.endpoint is_side.endpoint ∙ sym is_side.number;
      begun = (starts k, length lanes, record { lanes_are = λ e. fresh.lanes_are k side.desk.endpoint is_side.endpoint; made = λ e. worker_stands starts fresh; put = λ e. absurd (let no = sym e ∙ is_side.stopped in cc) });
      stands = λ start lanes s. s;
    }

    pub worker_placed : (starts : ℕ → words.Start) → AreFresh words endpoints (length lanes) starts → IsPlaced words inboxes outs side
    worker_placed starts fresh = record {
      within = let l = worker_low in let e = laid.outs_are in let n = is_side.number in omega arith;
      queue = λ q there. (worker_untaken q (subst (λ (n : ℕ). slice_get outs n ≡ Some q) is_side.number there)).0;
      from = worker_from starts fresh;
    }

  -- ---- lanes

  module _ (k : ℕ) (side : LaneSide L) (at : slice_get ways k ≡ Some side) where
    is_way : IsLaneSide lanes lane_rows lane_receivers k side
    is_way = laid.ways_are.each k side at

    way_low : k < length lanes
    way_low = let l = slice_get_within ways k side at in let e = laid.ways_are.size in omega arith

    pub way_row : (made : ℕ) × AreNew outs side.given.items k made
    way_row = dealt_at outs lane_rows (length lanes) k side.given laid.dealt_out is_way.given

    pub way_untaken : (q : Queue Job) → slice_get inboxes k ≡ Some q → (side.taken.queue ≡ q.name) × (side.taken.taken ≡ taken [] [])
    way_untaken q there = laid.lanes_untaken.each k q side.taken there is_way.taken

    way_in : (q : Queue Job) × (slice_get inboxes k ≡ Some q)
    way_in = get_at inboxes k (let l = way_low in let e = laid.inboxes_are in omega arith)

    pub way_got : side.taken.taken ≡ taken [] []
    way_got = (way_untaken way_in.0 way_in.1).1

    pub way_turned : (begins : ℕ → lane_words.Start) → AreFreshLanes lane_words lanes begins → Turned lane_words (begins k) side []
    way_turned begins fresh = record {
      turns = [];
      dropped = [];
      made = fresh.begun k side.lane is_way.lane;
      are = tt;
      to_these = λ k e. tt;
      asked = λ told. none_asked;
      jobs = ap (λ t. items_of t.got) way_got;
      none = λ e. refl;
      gave = λ w less. puts_new outs side.given.items k way_row.0 way_row.1 w;
    }

    pub way_placed : (begins : ℕ → lane_words.Start) → AreFreshLanes lane_words lanes begins → IsLanePlaced lane_words inboxes outs side
    way_placed begins fresh = record {
      within = let l = way_low in let e = laid.inboxes_are in let n = is_way.number in omega arith;
      queue = λ q there. (way_untaken q (subst (λ (n : ℕ). slice_get inboxes n ≡ Some q) is_way.number there)).0;
      from = record {
        number_is = refl;
        passes = subst (λ (n : ℕ). ArePasses outs side.given.items side.given.items n) (sym is_way.ended) (passes_new outs side.given.items k way_row.0 way_row.1);
        queue = refl;
        joined = refl;
        begun = (begins k, way_turned begins fresh);
        turned = λ start t. t;
      };
    }

  pub may_run : (starts : ℕ → words.Start) (begins : ℕ → lane_words.Start) → AreFresh words endpoints (length lanes) starts → AreFreshLanes lane_words lanes begins → MayRun words lane_words inboxes outs workers ways
  may_run starts begins fresh fresh_lanes = record {
    workers_are = λ i d less. worker_placed i (get_or workers i d) (slice_get-get_or workers i d less) starts fresh;
    lanes_are = λ i d less. way_placed i (get_or ways i d) (slice_get-get_or ways i d less) begins fresh_lanes;
  }
