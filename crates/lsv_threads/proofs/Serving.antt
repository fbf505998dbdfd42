-- What the joined passes of all threads say of endpoints and lanes.
use Rattle.std.proofs.Common.{◌≡◌, ◌≢◌, ℕ, zero, suc, ◌<◌, ◌≤◌, Bool, true, false, Some, None, Option, List, [], ◌∷◌, ◌++◌, All, map, length, refl, sym, ap, ◌∙◌, subst, append-nil, arith}
use Rattle.std.specs.Prelude.{◌==◌, if◌then◌else◌, slice_get}
use Rattle.std.specs.List.{filter}
use Rattle.std.specs.declared.alloc.Global.{Global}
use Rattle.std.specs.declared.vec.Vec.{Vec}
use Rattle.std.proofs.Math.Decide.{dec_le}
use Rattle.std.proofs.Math.Path.{fun_ext}
use Rattle.std.proofs.lemmas.List.{length-map}
use Rattle.std.proofs.lemmas.List.Elements.{All-from_recursion}
use Rattle.std.proofs.lemmas.Option.{slice_get_past, slice_get_within}
use mathlib.Core.Logic.{dite}
use native.Mathlib.Decide.{ℕ_discrete}
use Rattle.atomic_table.specs.Seated.{TableId}
use Rattle.lsv_queue.specs.Order.{bodies_from, marks_of}
use Rattle.lsv_queue.specs.Passes.{items_in, items_of}
use Rattle.lsv_queue.specs.Settled.{AreReady, AreReceivers, AreRow, AreRows, AreSettled, IsMerge, ReachTo, given_at, puts_at, puts_of}
use Rattle.lsv_queue.specs.declared.queue.InPass.{InPass}
use Rattle.lsv_queue.specs.declared.queue.OutPass.{OutPass}
use Rattle.lsv_queue.specs.declared.queue.Queue.{Queue}
use Rattle.lsv_queue.specs.declared.view.Letter.{Letter}
use Rattle.lsv_queue.proofs.Ends.{of_else, of_here}
use Rattle.lsv_queue.proofs.Joining.{map_get}
use Rattle.lsv_queue.proofs.Merging.{taken_by_key, taken_merges}
use Rattle.lsv_queue.proofs.Places.{one_there, some_or}
use Rattle.lsv_session.specs.declared.job.Job.{Job}
use Rattle.lsv_session.specs.declared.reply.Reply.{Reply}
use Rattle.lsv_links.specs.Links.{PutsPrefixes}
use Rattle.lsv_links.specs.Turns.{jobs_of, replies_to}
use Rattle.lsv_port.specs.Ledger.{Continues}
use Rattle.lsv_turn.specs.Turns.{AreAskedIn, AreTaken, IsToThese, LaneTurn, jobs_in, replies_in}
use Rattle.lsv_turn.specs.declared.lane.Lane
use Rattle.lsv_threads.specs.Dealt.{AreDealt}
use Rattle.lsv_threads.specs.Desks.{Stands, heard}
use Rattle.lsv_threads.specs.LaneSides.{Turned}
use Rattle.lsv_threads.specs.Run.{AreFresh, AreFreshLanes, AreLaid, HasRun}
use Rattle.lsv_threads.specs.Served.{AreTurned, IsLeft}
use Rattle.lsv_threads.specs.Threads.{AreEnded, IsDone, IsLaneDone}
use Rattle.lsv_threads.specs.declared.lane_side.LaneSide.{LaneSide}
use Rattle.lsv_reactor.specs.declared.endpoint.Endpoint
use Rattle.lsv_threads.specs.declared.worker_side.WorkerSide.{WorkerSide}
use Rattle.lsv_threads.proofs.Hearing.{EqOr.equal, EqOr.unequal, eq_or}
use Rattle.lsv_threads.proofs.Lifting.{within_of}
use Rattle.lsv_threads.proofs.Placing.{dealt_at, get_at, new_list, none_asked, way_got, way_row, way_turned, way_untaken, worker_got, worker_row, worker_stands, worker_untaken}
use Rattle.lsv_threads.proofs.Turning.{both_none}
use Rattle.lsv_threads.proofs.Zipping.{all_at, zip_at, zip_length}

-- ---- Lists

some_is : {C : Type 0} (x y : C) → Some x ≡ Some y → x ≡ y
some_is {C} x y e = ap (λ (o : Option C). some_or x o) e

-- what an element of a mapped list came of
pub map_had : {A B : Type 0} (f : A → B) (xs : List A) (k : ℕ) (y : B) → slice_get (map f xs) k ≡ Some y → (x : A) × (slice_get xs k ≡ Some x) × (y ≡ f x)
map_had f [] k y e = absurd (let l = slice_get_within [] k y e in omega arith)
map_had f (x ∷ xs) zero y e = (x, refl, some_is y (f x) (sym e))
map_had f (x ∷ xs) (suc k) y e = map_had f xs k y e

jobs_filter : (w : ℕ) (xs : List Job) → jobs_of w xs ≡ filter (λ j. j.conn.worker == w) xs
jobs_filter w [] = refl
jobs_filter w (x ∷ xs) = ap (λ (l : List Job). if x.conn.worker == w then x ∷ l else l) (jobs_filter w xs)

if_job : (b : Bool) (x : Job) (xs ys : List Job) → (if b then x ∷ (xs ++ ys) else (xs ++ ys)) ≡ (if b then x ∷ xs else xs) ++ ys
if_job true x xs ys = refl
if_job false x xs ys = refl

jobs_append : (w : ℕ) (xs ys : List Job) → jobs_of w (xs ++ ys) ≡ jobs_of w xs ++ jobs_of w ys
jobs_append w [] ys = refl
jobs_append w (x ∷ xs) ys = ap (λ (l : List Job). if x.conn.worker == w then x ∷ l else l) (jobs_append w xs ys) ∙ if_job (x.conn.worker == w) x (jobs_of w xs) (jobs_of w ys)

replies_filter : (w : ℕ) (xs : List Reply) → replies_to w xs ≡ filter (λ r. r.conn.worker == w) xs
replies_filter w [] = refl
replies_filter w (x ∷ xs) = ap (λ (l : List Reply). if x.conn.worker == w then x ∷ l else l) (replies_filter w xs)

-- ---- The ends of all senders at all queues

module _ {T : Type 0} (qs : List (Queue T)) (senders : ℕ) (firsts rows : List (Vec (InPass T) Global)) (dealt : AreDealt qs firsts senders) (size : length rows ≡ senders) (some : 1 ≤ senders)
    (had : (s : ℕ) (row : Vec (InPass T) Global) → slice_get rows s ≡ Some row → (first : Vec (InPass T) Global) × (slice_get firsts s ≡ Some first) × AreEnded first.items row.items)
    (receivers : List (OutPass T)) (received : length receivers ≡ length qs) (queue : (k : ℕ) (q : Queue T) (t : OutPass T) → slice_get qs k ≡ Some q → slice_get receivers k ≡ Some t → t.queue ≡ q.name)
    (marks : (k : ℕ) (t : OutPass T) → slice_get receivers k ≡ Some t → (marks_of t.taken.got ≡ senders) × (t.taken.joined ≡ [])) where
  abbrev pub its_rows : List (List (InPass T))
  its_rows = map (λ v. v.items) rows

  row_size : (s : ℕ) (row : Vec (InPass T) Global) → slice_get rows s ≡ Some row → length row.items ≡ length qs
  row_size s row at = let h = had s row at in let n = dealt_at qs firsts senders s h.0 dealt h.1 in h.2.size ∙ n.1.size

  row_queue : (s : ℕ) (row : Vec (InPass T) Global) → slice_get rows s ≡ Some row → (k : ℕ) (q : Queue T) (p : InPass T) → slice_get qs k ≡ Some q → slice_get row.items k ≡ Some p → p.queue ≡ q.name
  row_queue s row at k q p x y =
      let h = had s row at in
      let n = dealt_at qs firsts senders s h.0 dealt h.1 in
      let f = get_at h.0.items k (let l = slice_get_within row.items k p y in let e = h.2.size in omega arith) in
      (h.2.each k f.0 p f.1 y).queue ∙ (n.1.each k q f.0 x f.1).queue

  row_number : (s : ℕ) (row : Vec (InPass T) Global) → slice_get rows s ≡ Some row → (k : ℕ) (p : InPass T) → slice_get row.items k ≡ Some p → p.list.number ≡ s
  row_number s row at k p y =
      let h = had s row at in
      let n = dealt_at qs firsts senders s h.0 dealt h.1 in
      let f = get_at h.0.items k (let l = slice_get_within row.items k p y in let e = h.2.size in omega arith) in
      (h.2.each k f.0 p f.1 y).number ∙ ap (λ t. t.number) (new_list qs h.0.items s n.0 k f.0 n.1 f.1)

  row_made : (row : Vec (InPass T) Global) → slice_get rows 0 ≡ Some row → (k : ℕ) (p : InPass T) → slice_get row.items k ≡ Some p → p.list.made ≡ senders
  row_made row at k p y =
      let h = had 0 row at in
      let f = get_at h.0.items k (let l = slice_get_within row.items k p y in let e = h.2.size in omega arith) in
      (h.2.each k f.0 p f.1 y).made ∙ ap (λ t. t.made) (new_list qs h.0.items 0 senders k f.0 (dealt.first h.0 h.1) f.1)

  long : length its_rows ≡ senders
  long = length-map rows (λ (v : Vec (InPass T) Global). v.items) ∙ size

  pub all_rows : AreRows qs its_rows
  all_rows s row at = let v = map_had (λ (v : Vec (InPass T) Global). v.items) rows s row at in
      subst (λ (l : List (InPass T)). AreRow qs l) (sym v.2) (record { size = row_size s v.0 v.1; each = row_queue s v.0 v.1 })

  pub all_receivers : AreReceivers qs receivers
  all_receivers = record { size = received; each = queue }

  pub all_ready : AreReady receivers its_rows
  all_ready = record {
    some = let l = long in omega arith;
    marks = λ k t at. ((marks k t at).0 ∙ sym long, (marks k t at).1);
    numbers = λ s k row p at y. let v = map_had (λ (v : Vec (InPass T) Global). v.items) rows s row at in row_number s v.0 v.1 k p (subst (λ (l : List (InPass T)). slice_get l k ≡ Some p) v.2 y);
    made = λ k row p at y. let v = map_had (λ (v : Vec (InPass T) Global). v.items) rows 0 row at in row_made v.0 v.1 k p (subst (λ (l : List (InPass T)). slice_get l k ≡ Some p) v.2 y) ∙ sym long;
  }

  pub all_reach : (k : ℕ) → k < length qs → ReachTo k its_rows
  all_reach k low s row at = let v = map_had (λ (v : Vec (InPass T) Global). v.items) rows s row at in let e = row_size s v.0 v.1 in let f = ap length v.2 in omega arith

-- ---- Replies that are all to one worker

module _ (w : ℕ) where
  pub to_twice : (xs : List Reply) → replies_to w (replies_to w xs) ≡ replies_to w xs
  to_twice [] = refl
  to_twice (x ∷ xs) = elim (eq_or x.conn.worker w) [
    | equal p t ↦ rw t (rw t (ap (λ (l : List Reply). x ∷ l) (to_twice xs)))
    | unequal ne t ↦ rw t (to_twice xs)
  ]

  abbrev pub AllHis : List (Letter Reply) → Type 0
  AllHis letters = (m : ℕ) → replies_to w (items_in (bodies_from m letters)) ≡ items_in (bodies_from m letters)

  shorter : (xs : List Reply) → length (replies_to w xs) ≤ length xs
  shorter [] = omega arith
  shorter (x ∷ xs) = elim (eq_or x.conn.worker w) [
    | equal p t ↦ rw t (let s = shorter xs in omega arith)
    | unequal ne t ↦ rw t (let s = shorter xs in omega arith)
  ]

  too_short : (r : Reply) (xs : List Reply) → replies_to w xs ≡ r ∷ xs → ⊥
  too_short r xs e = absurd (let s = shorter xs in let l = ap length e in omega arith)

  tail_eq : (r : Reply) (xs ys : List Reply) → r ∷ xs ≡ r ∷ ys → xs ≡ ys
  tail_eq r xs ys e = cc

  head_his : (r : Reply) (xs : List Reply) → replies_to w (r ∷ xs) ≡ r ∷ xs → (r.conn.worker ≡ w) × (replies_to w xs ≡ xs)
  head_his r xs e = elim (eq_or r.conn.worker w) [
    | equal p t ↦ (p, tail_eq r (replies_to w xs) xs (sym (ap (λ (b : Bool). if b then r ∷ replies_to w xs else replies_to w xs) t) ∙ e))
    | unequal ne t ↦ absurd (too_short r xs (sym (ap (λ (b : Bool). if b then r ∷ replies_to w xs else replies_to w xs) t) ∙ e))
  ]

  his_rest : (x : Letter Reply) (xs : List (Letter Reply)) (b : Option Reply) → replies_to w (items_in (b ∷ bodies_from x.from xs)) ≡ items_in (b ∷ bodies_from x.from xs) → replies_to w (items_in (bodies_from x.from xs)) ≡ items_in (bodies_from x.from xs)
  his_rest x xs None h = h
  his_rest x xs (Some r) h = (head_his r (items_in (bodies_from x.from xs)) h).1

  his_tail : (x : Letter Reply) (xs : List (Letter Reply)) → AllHis (x ∷ xs) → AllHis xs
  his_tail x xs h m = dite (ℕ_discrete x.from m)
      (λ (e : x.from ≡ m). subst (λ (n : ℕ). replies_to w (items_in (bodies_from n xs)) ≡ items_in (bodies_from n xs)) e
      (his_rest x xs x.body (subst (λ (z : List (Option Reply)). replies_to w (items_in z) ≡ items_in z) (of_here x xs) (h x.from))))
      (λ (ne : x.from ≢ m). subst (λ (z : List (Option Reply)). replies_to w (items_in z) ≡ items_in z) (of_else m x xs ne) (h m))

  his_here : (x : Letter Reply) (xs : List (Letter Reply)) (b : Option Reply) → x.body ≡ b → replies_to w (items_in (b ∷ bodies_from x.from xs)) ≡ items_in (b ∷ bodies_from x.from xs) → replies_to w (items_of xs) ≡ items_of xs → replies_to w (items_of (x ∷ xs)) ≡ items_of (x ∷ xs)
  his_here x xs None e h rest = rw e rest
  his_here x xs (Some r) e h rest =
      let own = (head_his r (items_in (bodies_from x.from xs)) h).0 in
      rw e (elim (eq_or r.conn.worker w) [ equal p t ↦ rw t (ap (λ (z : List Reply). r ∷ z) rest) | unequal ne t ↦ absurd (ne own) ])

  his_of : (letters : List (Letter Reply)) → AllHis letters → replies_to w (items_of letters) ≡ items_of letters
  his_of [] h = refl
  his_of (x ∷ xs) h = his_here x xs x.body refl (subst (λ (z : List (Option Reply)). replies_to w (items_in z) ≡ items_in z) (of_here x xs) (h x.from)) (his_of xs (his_tail x xs h))

  pub merge_his : (took : List Reply) (given : ℕ → List Reply) → IsMerge took given → ((l : ℕ) → replies_to w (given l) ≡ given l) → replies_to w took ≡ took
  merge_his took given merge his =
      subst (λ (z : List Reply). replies_to w z ≡ z) merge.are (his_of merge.letters (λ m. subst (λ (z : List Reply). replies_to w z ≡ z) (sym (merge.each m)) (his m)))

-- ---- The run

module _ {T L : Type 0} (words : Endpoint.Ghosts T) (lane_words : Lane.Ghosts L) (endpoints : List T) (lanes : List L) (inboxes : List (Queue Job)) (outs : List (Queue Reply)) (rows : List (Vec (InPass Job) Global)) (lane_rows : List (Vec (InPass Reply) Global))
    (receivers : List (OutPass Reply)) (lane_receivers : List (OutPass Job)) (workers : List (WorkerSide T)) (ways : List (LaneSide L))
    (laid : AreLaid endpoints lanes inboxes outs rows lane_rows receivers lane_receivers workers ways)
    (ended : List (WorkerSide T)) (lanes_ended : List (LaneSide L)) (run : HasRun words lane_words (length endpoints) workers ended ways lanes_ended) where
  abbrev pub jobs_taken : List (OutPass Job)
  jobs_taken = map (λ s. s.taken) lanes_ended

  abbrev pub job_rows : List (Vec (InPass Job) Global)
  job_rows = map (λ s. s.put) ended

  abbrev pub replies_taken : List (OutPass Reply)
  replies_taken = map (λ s. s.desk.taken) ended

  abbrev pub reply_rows : List (Vec (InPass Reply) Global)
  reply_rows = map (λ s. s.given) lanes_ended

  ended_size : length ended ≡ length endpoints
  ended_size = zip_length (IsDone words) workers ended run.workers_are ∙ laid.workers_are.size

  lanes_size : length lanes_ended ≡ length lanes
  lanes_size = zip_length (IsLaneDone lane_words (length endpoints)) ways lanes_ended run.lanes_are ∙ laid.ways_are.size

  -- the side with which a worker began
  worker_first : (s : ℕ) (side : WorkerSide T) → slice_get ended s ≡ Some side → (first : WorkerSide T) × (slice_get workers s ≡ Some first) × IsDone words first side
  worker_first s side at =
      let f = get_at workers s (let l = slice_get_within ended s side at in let e = ended_size in let d = laid.workers_are.size in omega arith) in
      (f.0, f.1, zip_at (IsDone words) workers ended s f.0 side run.workers_are f.1 at)

  way_first : (l : ℕ) (side : LaneSide L) → slice_get lanes_ended l ≡ Some side → (first : LaneSide L) × (slice_get ways l ≡ Some first) × IsLaneDone lane_words (length endpoints) first side
  way_first l side at =
      let f = get_at ways l (let b = slice_get_within lanes_ended l side at in let e = lanes_size in let d = laid.ways_are.size in omega arith) in
      (f.0, f.1, zip_at (IsLaneDone lane_words (length endpoints)) ways lanes_ended l f.0 side run.lanes_are f.1 at)

  -- ---- what settling asks, at the inboxes

  rows_had : (s : ℕ) (row : Vec (InPass Job) Global) → slice_get job_rows s ≡ Some row → (first : Vec (InPass Job) Global) × (slice_get rows s ≡ Some first) × AreEnded first.items row.items
  rows_had s row at =
      let h = map_had (λ (s : WorkerSide T). s.put) ended s row at in
      let f = worker_first s h.0 h.1 in
      (f.0.put, (laid.workers_are.each s f.0 f.1).put, subst (λ (v : Vec (InPass Job) Global). AreEnded f.0.put.items v.items) (sym h.2) f.2.put)

  jobs_received : length jobs_taken ≡ length inboxes
  jobs_received = length-map lanes_ended (λ (s : LaneSide L). s.taken) ∙ (lanes_size ∙ sym laid.inboxes_are)

  jobs_queue : (k : ℕ) (q : Queue Job) (t : OutPass Job) → slice_get inboxes k ≡ Some q → slice_get jobs_taken k ≡ Some t → t.queue ≡ q.name
  jobs_queue k q t x at =
      let h = map_had (λ (s : LaneSide L). s.taken) lanes_ended k t at in
      let f = way_first k h.0 h.1 in
      ap (λ (o : OutPass Job). o.queue) h.2 ∙ (f.2.queue ∙ (way_untaken words lane_words endpoints lanes inboxes outs rows lane_rows receivers lane_receivers workers ways laid k f.0 f.1 q x).0)

  jobs_marks : (k : ℕ) (t : OutPass Job) → slice_get jobs_taken k ≡ Some t → (marks_of t.taken.got ≡ length endpoints) × (t.taken.joined ≡ [])
  jobs_marks k t at =
      let h = map_had (λ (s : LaneSide L). s.taken) lanes_ended k t at in
      let f = way_first k h.0 h.1 in (
        ap (λ (o : OutPass Job). marks_of o.taken.got) h.2 ∙ f.2.marks,
        ap (λ (o : OutPass Job). o.taken.joined) h.2 ∙ (f.2.joined ∙ ap (λ t. t.joined) (way_got words lane_words endpoints lanes inboxes outs rows lane_rows receivers lane_receivers workers ways laid k f.0 f.1)),
      )

  jobs_size : length job_rows ≡ length endpoints
  jobs_size = length-map ended (λ (s : WorkerSide T). s.put) ∙ ended_size

  pub jobs_rows_are : AreRows inboxes (map (λ v. v.items) job_rows)
  jobs_rows_are = all_rows inboxes (length endpoints) rows job_rows laid.dealt jobs_size laid.some rows_had jobs_taken jobs_received jobs_queue jobs_marks

  pub jobs_receivers_are : AreReceivers inboxes jobs_taken
  jobs_receivers_are = all_receivers inboxes (length endpoints) rows job_rows laid.dealt jobs_size laid.some rows_had jobs_taken jobs_received jobs_queue jobs_marks

  pub jobs_ready : AreReady jobs_taken (map (λ v. v.items) job_rows)
  jobs_ready = all_ready inboxes (length endpoints) rows job_rows laid.dealt jobs_size laid.some rows_had jobs_taken jobs_received jobs_queue jobs_marks

  jobs_reach : (k : ℕ) → k < length inboxes → ReachTo k (map (λ v. v.items) job_rows)
  jobs_reach = all_reach inboxes (length endpoints) rows job_rows laid.dealt jobs_size laid.some rows_had jobs_taken jobs_received jobs_queue jobs_marks

  -- ---- and at the outboxes

  lane_rows_had : (s : ℕ) (row : Vec (InPass Reply) Global) → slice_get reply_rows s ≡ Some row → (first : Vec (InPass Reply) Global) × (slice_get lane_rows s ≡ Some first) × AreEnded first.items row.items
  lane_rows_had s row at =
      let h = map_had (λ (s : LaneSide L). s.given) lanes_ended s row at in
      let f = way_first s h.0 h.1 in
      (f.0.given, (laid.ways_are.each s f.0 f.1).given, subst (λ (v : Vec (InPass Reply) Global). AreEnded f.0.given.items v.items) (sym h.2) f.2.given)

  replies_received : length replies_taken ≡ length outs
  replies_received = length-map ended (λ (s : WorkerSide T). s.desk.taken) ∙ (ended_size ∙ sym laid.outs_are)

  replies_queue : (k : ℕ) (q : Queue Reply) (t : OutPass Reply) → slice_get outs k ≡ Some q → slice_get replies_taken k ≡ Some t → t.queue ≡ q.name
  replies_queue k q t x at =
      let h = map_had (λ (s : WorkerSide T). s.desk.taken) ended k t at in
      let f = worker_first k h.0 h.1 in
      ap (λ (o : OutPass Reply). o.queue) h.2 ∙ (f.2.desk.queue ∙ (worker_untaken words lane_words endpoints lanes inboxes outs rows lane_rows receivers lane_receivers workers ways laid k f.0 f.1 q x).0)

  wide_ended : (k : ℕ) (side : WorkerSide T) → slice_get ended k ≡ Some side → length side.put.items ≡ length lanes
  wide_ended k side at =
      let f = worker_first k side at in
      f.2.put.size ∙ ((worker_row words lane_words endpoints lanes inboxes outs rows lane_rows receivers lane_receivers workers ways laid k f.0 f.1).1.size ∙ laid.inboxes_are)

  replies_marks : (k : ℕ) (t : OutPass Reply) → slice_get replies_taken k ≡ Some t → (marks_of t.taken.got ≡ length lanes) × (t.taken.joined ≡ [])
  replies_marks k t at =
      let h = map_had (λ (s : WorkerSide T). s.desk.taken) ended k t at in
      let f = worker_first k h.0 h.1 in (
        ap (λ (o : OutPass Reply). marks_of o.taken.got) h.2 ∙ (f.2.marks ∙ wide_ended k h.0 h.1),
        ap (λ (o : OutPass Reply). o.taken.joined) h.2 ∙ (f.2.desk.joined ∙ ap (λ t. t.joined) (worker_got words lane_words endpoints lanes inboxes outs rows lane_rows receivers lane_receivers workers ways laid k f.0 f.1)),
      )

  replies_size : length reply_rows ≡ length lanes
  replies_size = length-map lanes_ended (λ (s : LaneSide L). s.given) ∙ lanes_size

  pub replies_rows_are : AreRows outs (map (λ v. v.items) reply_rows)
  replies_rows_are = all_rows outs (length lanes) lane_rows reply_rows laid.dealt_out replies_size laid.some_lanes lane_rows_had replies_taken replies_received replies_queue replies_marks

  pub replies_receivers_are : AreReceivers outs replies_taken
  replies_receivers_are = all_receivers outs (length lanes) lane_rows reply_rows laid.dealt_out replies_size laid.some_lanes lane_rows_had replies_taken replies_received replies_queue replies_marks

  pub replies_ready : AreReady replies_taken (map (λ v. v.items) reply_rows)
  replies_ready = all_ready outs (length lanes) lane_rows reply_rows laid.dealt_out replies_size laid.some_lanes lane_rows_had replies_taken replies_received replies_queue replies_marks

  replies_reach : (k : ℕ) → k < length outs → ReachTo k (map (λ v. v.items) reply_rows)
  replies_reach = all_reach outs (length lanes) lane_rows reply_rows laid.dealt_out replies_size laid.some_lanes lane_rows_had replies_taken replies_received replies_queue replies_marks

  -- ---- The turns of each lane

  -- a queue, so that no turns are of one
  some_queue : (q : Queue Job) × (slice_get inboxes 0 ≡ Some q)
  some_queue = get_at inboxes 0 (let e = laid.inboxes_are in let l = laid.some_lanes in omega arith)

  module _ (starts : ℕ → words.Start) (begins : ℕ → lane_words.Start) (fresh : AreFresh words endpoints (length lanes) starts) (fresh_lanes : AreFreshLanes lane_words lanes begins) where
    turned_at : (l : ℕ) (side : LaneSide L) → slice_get lanes_ended l ≡ Some side → Turned lane_words (begins l) side []
    turned_at l side at =
        let f = way_first l side at in
        f.2.turned (begins l) (way_turned words lane_words endpoints lanes inboxes outs rows lane_rows receivers lane_receivers workers ways laid l f.0 f.1 begins fresh_lanes)

    -- the turns of the lane at this place, and the jobs that it dropped
    pub record IsTape (l : ℕ) (ts : List LaneTurn) (lost : List Job) : Type 0 where
      pub here : (side : LaneSide L) → slice_get lanes_ended l ≡ Some side → (t : Turned lane_words (begins l) side []) × (t.turns ≡ ts) × (t.dropped ≡ lost)
      pub past : length lanes ≤ l → (ts ≡ []) × (lost ≡ [])
      pub are : (queue : TableId) × AreTaken queue 0 ts
      pub to_these : IsToThese (jobs_in ts) (replies_in ts)
      pub asked : lane_words.tells → AreAskedIn ts

    pub tape : (l : ℕ) → (ts : List LaneTurn) × (lost : List Job) × IsTape l ts lost
    tape l = go (slice_get lanes_ended l) refl
      where
        go : (o : Option (LaneSide L)) → slice_get lanes_ended l ≡ o → (ts : List LaneTurn) × (lost : List Job) × IsTape l ts lost
        go None e = (
          [],
          [],
          record {
            here = λ side at. let no : None ≡ Some side = sym e ∙ at in absurd cc;
            past = λ high. (refl, refl);
            are = (some_queue.0.name, tt);
            to_these = λ k none. tt;
            asked = λ told. none_asked;
          },
        )
        go (Some s) e = (
          (turned_at l s e).turns,
          (turned_at l s e).dropped,
          record {
            here = λ side at. subst (λ (z : LaneSide L). (t : Turned lane_words (begins l) z []) × (t.turns ≡ (turned_at l s e).turns) × (t.dropped ≡ (turned_at l s e).dropped)) (one_there lanes_ended l s side e at) (turned_at l s e, refl, refl);
            past = λ high. absurd (let b = slice_get_within lanes_ended l s e in let d = lanes_size in omega arith);
            are = (s.taken.queue, (turned_at l s e).are);
            to_these = (turned_at l s e).to_these;
            asked = (turned_at l s e).asked;
          },
        )

    abbrev pub turns : ℕ → List LaneTurn
    turns l = (tape l).0

    abbrev pub lost_by : ℕ → List Job
    lost_by l = (tape l).1

    module _ (settled : AreSettled jobs_taken (map (λ v. v.items) job_rows)) (replies_settled : AreSettled replies_taken (map (λ v. v.items) reply_rows)) where
      -- all jobs that the lane's pass took are those of its turns, and those that it dropped
      lane_jobs : (l : ℕ) (side : LaneSide L) → slice_get lanes_ended l ≡ Some side → items_of side.taken.taken.got ≡ jobs_in (turns l) ++ lost_by l
      lane_jobs l side at =
          let h = (tape l).2.here side at in
          h.0.jobs ∙ (ap (λ d. jobs_in h.0.turns ++ d) (append-nil h.0.dropped ∙ h.2) ∙ ap (λ ts. jobs_in ts ++ lost_by l) h.1)

      own_rows : (k s : ℕ) (row : List (InPass Job)) → slice_get (map (λ v. v.items) job_rows) s ≡ Some row → All (λ (x : Job). x.conn.worker ≡ s) (puts_at row k)
      own_rows k s row at =
          let v = map_had (λ (v : Vec (InPass Job) Global). v.items) job_rows s row at in
          let h = map_had (λ (s : WorkerSide T). s.put) ended s v.0 v.1 in
          let f = worker_first s h.0 h.1 in
          let number : h.0.desk.number ≡ s = f.2.desk.number_is ∙ (laid.workers_are.each s f.0 f.1).number in
          subst (λ (l : List (InPass Job)). All (λ (x : Job). x.conn.worker ≡ s) (puts_at l k)) (sym (v.2 ∙ ap (λ (z : Vec (InPass Job) Global). z.items) h.2))
          (subst (λ (n : ℕ). All (λ (x : Job). x.conn.worker ≡ n) (puts_at h.0.put.items k)) number
          (All-from_recursion (λ (x : Job). x.conn.worker ≡ h.0.desk.number) (puts_at h.0.put.items k) (f.2.own k)))

      worker_row_at : (w : ℕ) (side : WorkerSide T) → slice_get ended w ≡ Some side → slice_get (map (λ v. v.items) job_rows) w ≡ Some side.put.items
      worker_row_at w side at = map_get (λ (v : Vec (InPass Job) Global). v.items) job_rows w side.put (map_get (λ (s : WorkerSide T). s.put) ended w side at)

      -- the jobs that a lane took of a worker are what that put to it
      jobs_given : (w k : ℕ) → k < length lanes → given_at k (slice_get (map (λ v. v.items) job_rows) w) ≡ jobs_of w (jobs_in (turns k)) ++ jobs_of w (lost_by k)
      jobs_given w k low =
          let less : k < length inboxes = let e = laid.inboxes_are in omega (arith, low) in
          let way = get_at lanes_ended k (let e = lanes_size in omega (arith, low)) in
          let t_at = map_get (λ (s : LaneSide L). s.taken) lanes_ended k way.0 way.1 in
          sym (taken_by_key jobs_taken (map (λ v. v.items) job_rows) settled k way.0.taken t_at (jobs_reach k less) (λ (x : Job). x.conn.worker) (own_rows k) w)
          ∙ (sym (jobs_filter w (items_of way.0.taken.taken.got)) ∙ (ap (jobs_of w) (lane_jobs k way.0 way.1) ∙ jobs_append w (jobs_in (turns k)) (lost_by k)))

      jobs_at : (w : ℕ) (side : WorkerSide T) → slice_get ended w ≡ Some side → (k : ℕ) → puts_at side.put.items k ≡ jobs_of w (jobs_in (turns k)) ++ jobs_of w (lost_by k)
      jobs_at w side at k = dite (dec_le (length lanes) k)
          (λ (high : length lanes ≤ k).
          let none : slice_get side.put.items k ≡ None = slice_get_past side.put.items k (let e = wide_ended w side at in omega arith) in
          let past = (tape k).2.past high in
          ap puts_of none ∙ sym (ap (λ ts. jobs_of w (jobs_in ts) ++ jobs_of w (lost_by k)) past.0 ∙ ap (jobs_of w) past.1))
          (λ low. ap (given_at k) (sym (worker_row_at w side at)) ∙ jobs_given w k (omega (arith, low)))

      -- no lane took a job of a worker that isn't there
      no_other : (l w : ℕ) → length endpoints ≤ w → jobs_of w (jobs_in (turns l)) ≡ []
      no_other l w high = dite (dec_le (length lanes) l)
          (λ (past : length lanes ≤ l). ap (λ ts. jobs_of w (jobs_in ts)) ((tape l).2.past past).0)
          (λ low.
          let none : slice_get (map (λ v. v.items) job_rows) w ≡ None = slice_get_past (map (λ v. v.items) job_rows) w (let a = length-map job_rows (λ (v : Vec (InPass Job) Global). v.items) in let b = jobs_size in omega (arith, high)) in
          (both_none (jobs_of w (jobs_in (turns l))) (jobs_of w (lost_by l)) (sym (jobs_given w l (omega (arith, low))) ∙ ap (given_at l) none)).0)

      -- what a lane put to a worker is what its turns reply to it
      given_is : (w : ℕ) → w < length endpoints → (l : ℕ) → given_at w (slice_get (map (λ v. v.items) reply_rows) l) ≡ replies_to w (replies_in (turns l))
      given_is w less l = dite (dec_le (length lanes) l)
          (λ (high : length lanes ≤ l).
          ap (given_at w) (slice_get_past (map (λ v. v.items) reply_rows) l (let a = length-map reply_rows (λ (v : Vec (InPass Reply) Global). v.items) in let b = replies_size in omega arith))
          ∙ sym (ap (λ ts. replies_to w (replies_in ts)) ((tape l).2.past high).0))
          (λ low.
          let way = get_at lanes_ended l (let e = lanes_size in omega (arith, low)) in
          let row_at = map_get (λ (v : Vec (InPass Reply) Global). v.items) reply_rows l way.0.given (map_get (λ (s : LaneSide L). s.given) lanes_ended l way.0 way.1) in
          let f = way_first l way.0 way.1 in
          let h = (tape l).2.here way.0 way.1 in
          let wide : w < length way.0.given.items =
          let a = f.2.given.size in let b = (way_row words lane_words endpoints lanes inboxes outs rows lane_rows receivers lane_receivers workers ways laid l f.0 f.1).1.size in let d = laid.outs_are in omega arith in
          ap (given_at w) row_at ∙ (h.0.gave w wide ∙ ap (λ ts. replies_to w (replies_in ts)) h.1))

      -- what a worker took is a merge of that
      took_is : (w : ℕ) (side : WorkerSide T) → slice_get ended w ≡ Some side → IsMerge (heard side.desk) (λ l. replies_to w (replies_in (turns l)))
      took_is w side at =
          let less : w < length endpoints = let b = slice_get_within ended w side at in let e = ended_size in omega arith in
          let f = worker_first w side at in
          let number : side.desk.number ≡ w = f.2.desk.number_is ∙ (laid.workers_are.each w f.0 f.1).number in
          let t_at = map_get (λ (s : WorkerSide T). s.desk.taken) ended w side at in
          let reach : ReachTo w (map (λ v. v.items) reply_rows) = replies_reach w (let e = laid.outs_are in omega arith) in
          let merge : IsMerge (items_of side.desk.taken.taken.got) (λ l. replies_to w (replies_in (turns l))) =
          subst (λ (g : ℕ → List Reply). IsMerge (items_of side.desk.taken.taken.got) g) (fun_ext (given_is w less)) (taken_merges replies_taken (map (λ v. v.items) reply_rows) replies_settled w side.desk.taken t_at reach) in
          let his : replies_to w (items_of side.desk.taken.taken.got) ≡ items_of side.desk.taken.taken.got = merge_his w (items_of side.desk.taken.taken.got) (λ l. replies_to w (replies_in (turns l))) merge (λ l. to_twice w (replies_in (turns l))) in
          subst (λ (n : ℕ). IsMerge (replies_to n (items_of side.desk.taken.taken.got)) (λ l. replies_to w (replies_in (turns l)))) (sym number) (subst (λ (z : List Reply). IsMerge z (λ l. replies_to w (replies_in (turns l)))) (sym his) merge)

      stands_at : (w : ℕ) (side : WorkerSide T) → slice_get ended w ≡ Some side → Stands words (starts w) (length lanes) side.desk (puts_at side.put.items)
      stands_at w side at =
          let f = worker_first w side at in
          let first_going : f.0.desk.stopped ≡ false = (laid.workers_are.each w f.0 f.1).stopped in
          f.2.stands (starts w) (length lanes) (record {
            lanes_are = λ e. fresh.lanes_are w f.0.desk.endpoint (laid.workers_are.each w f.0 f.1).endpoint;
            made = λ e. worker_stands words lane_words endpoints lanes inboxes outs rows lane_rows receivers lane_receivers workers ways laid w f.0 f.1 starts fresh;
            put = λ e. absurd (let no = sym e ∙ first_going in cc);
          })

      -- ---- How much was lost

      module _ (failed : Bool) (working : failed ≡ false → All (λ (s : LaneSide L). s.failed ≡ false) lanes_ended) where
        none_lost : failed ≡ false → (l : ℕ) → lost_by l ≡ []
        none_lost e l = dite (dec_le (length lanes) l)
            (λ (high : length lanes ≤ l). ((tape l).2.past high).1)
            (λ low.
            let way = get_at lanes_ended l (let d = lanes_size in omega (arith, low)) in
            let h = (tape l).2.here way.0 way.1 in
            sym h.2 ∙ h.0.none (all_at (λ (s : LaneSide L). s.failed ≡ false) lanes_ended l way.0 (working e) way.1))

        left_at : (w : ℕ) (side : WorkerSide T) → slice_get ended w ≡ Some side → (stopped : Bool) → side.desk.stopped ≡ stopped → IsLeft words (starts w) (length lanes) w side.desk.endpoint stopped failed turns
        left_at w side at stopped same =
            let f = worker_first w side at in
            let number : side.desk.number ≡ w = f.2.desk.number_is ∙ (laid.workers_are.each w f.0 f.1).number in
            let stands = stands_at w side at in record {
              gave = puts_at side.put.items;
              dropped = λ l. jobs_of w (lost_by l);
              took = heard side.desk;
              gave_are = jobs_at w side at;
              none = λ e l. ap (jobs_of w) (none_lost e l);
              merge = took_is w side at;
              number_is = λ e. f.2.number_is (same ∙ e) ∙ number;
              lanes_are = λ e. f.2.lanes_are (same ∙ e) ∙ wide_ended w side at;
              made = λ e. stands.made (same ∙ e);
              put = λ e told. subst (λ (n : ℕ). PutsPrefixes (length lanes) n (puts_at side.put.items) (λ l. heard side.desk) (words.begun (starts w)) (words.view side.desk.endpoint)) number (stands.put (same ∙ e) told);
            }

        pub are_turned : AreTurned words lane_words starts begins endpoints (length lanes) (map (λ s. s.desk.endpoint) ended) (map (λ s. s.desk.stopped) ended) (map (λ s. s.lane) lanes_ended) failed
        are_turned = record {
          turns = turns;
          past = λ l high. ((tape l).2.past high).0;
          made = λ l lane at.
              let h = map_had (λ (s : LaneSide L). s.lane) lanes_ended l lane at in
              let t = (tape l).2.here h.0 h.1 in
              subst (λ (z : L). lane_words.made_by (begins l) z (turns l)) (sym h.2) (subst (λ (ts : List LaneTurn). lane_words.made_by (begins l) h.0.lane ts) t.1 t.0.made);
          are = λ l. (tape l).2.are;
          asked = λ told l. (tape l).2.asked told;
          to_these = λ l. (tape l).2.to_these;
          left = λ w endpoint stopped at noted.
              let h = map_had (λ (s : WorkerSide T). s.desk.endpoint) ended w endpoint at in
              let n = map_had (λ (s : WorkerSide T). s.desk.stopped) ended w stopped noted in
              let same : h.0.desk.stopped ≡ stopped = ap (λ (s : WorkerSide T). s.desk.stopped) (one_there ended w h.0 n.0 h.1 n.1) ∙ sym n.2 in
              subst (λ (z : T). IsLeft words (starts w) (length lanes) w z stopped failed turns) (sym h.2) (left_at w h.0 h.1 stopped same);
          within = λ l job has. within_of (length endpoints) (jobs_in (turns l)) (no_other l) job has;
          size = length-map ended (λ (s : WorkerSide T). s.desk.endpoint) ∙ ended_size;
          stops_size = length-map ended (λ (s : WorkerSide T). s.desk.stopped) ∙ ended_size;
          lanes_size = length-map lanes_ended (λ (s : LaneSide L). s.lane) ∙ lanes_size;
          keep = λ w old new a e.
              let h = map_had (λ (s : WorkerSide T). s.desk.endpoint) ended w new e in
              let f = worker_first w h.0 h.1 in
              subst (λ (z : T). Continues (words.view old).ledger (words.view z).ledger) (sym h.2)
              (subst (λ (z : T). Continues (words.view z).ledger (words.view h.0.desk.endpoint).ledger) (sym (one_there endpoints w old f.0.desk.endpoint a (laid.workers_are.each w f.0 f.1).endpoint)) f.2.desk.continues);
        }
