-- The inboxes of all lanes, as a worker puts jobs into them.
use Rattle.std.specs.Prelude.{◌≡◌, ℕ, ◌<◌, false, List, Some, length, slice_get, slice_index_or, refl}
use Rattle.std.proofs.Common.{ap, sym, ◌∙◌, arith}
use Rattle.std.proofs.lemmas.Option.{slice_get-get_or, slice_get_within}
use Rattle.std.proofs.Math.ListN.{get_or}
use Rattle.lsv_queue.specs.Settled.{puts_at}
use Rattle.lsv_queue.specs.declared.queue.InPass.{InPass}
use Rattle.lsv_queue.specs.declared.queue.Queue.{Queue}
use Rattle.lsv_queue.proofs.Places.{one_there}
use Rattle.lsv_session.specs.declared.job.Job.{Job}
use Rattle.lsv_links.specs.Turns.{AreOf}

-- there is a pass for each inbox, and none has ended
pub record AreOpen (inboxes : List (Queue Job)) (passes : List (InPass Job)) : Type 0 where
  pub size : length passes ≡ length inboxes
  pub each : (k : ℕ) (q : Queue Job) (p : InPass Job) → slice_get inboxes k ≡ Some q → slice_get passes k ≡ Some p → (p.queue ≡ q.name) × (p.list.ended ≡ false)

-- how many puts to a lane were refused
abbrev pub count_of : List ℕ → ℕ → ℕ
count_of counts lane = slice_index_or counts lane 0

-- all jobs that these passes put are of this worker
abbrev pub AreOwn : List (InPass Job) → ℕ → Type 0
AreOwn passes worker = (lane : ℕ) → AreOf worker (puts_at passes lane)

-- one pass is another after some puts
pub record IsSamePass (p q : InPass Job) : Type 0 where
  pub queue : q.queue ≡ p.queue
  pub number : q.list.number ≡ p.list.number
  pub made : q.list.made ≡ p.list.made
  pub ended : q.list.ended ≡ p.list.ended

-- these are a worker's passes after some puts, which were of its own jobs alone
pub record KeepsGates (before after : List (InPass Job)) (worker worker' : ℕ) : Type 0 where
  pub size : length after ≡ length before
  pub worker_is : worker' ≡ worker
  pub each : (k : ℕ) (p q : InPass Job) → slice_get before k ≡ Some p → slice_get after k ≡ Some q → IsSamePass p q
  pub own : AreOwn before worker → AreOwn after worker'

pub gates_same : (passes : List (InPass Job)) (worker : ℕ) → KeepsGates passes passes worker worker
gates_same passes worker = record {
  size = refl;
  worker_is = refl;
  each = λ k p q a b. let e : p ≡ q = one_there passes k p q a b in record {
    queue = ap (λ (z : InPass Job). z.queue) (sym e);
    number = ap (λ (z : InPass Job). z.list.number) (sym e);
    made = ap (λ (z : InPass Job). z.list.made) (sym e);
    ended = ap (λ (z : InPass Job). z.list.ended) (sym e);
  };
  own = λ o. o;
}

pub gates_through : (a b c : List (InPass Job)) (n m k : ℕ) → KeepsGates a b n m → KeepsGates b c m k → KeepsGates a c n k
gates_through a b c n m k f g = record {
  size = g.size ∙ f.size;
  worker_is = g.worker_is ∙ f.worker_is;
  each = λ i p r x z.
      let less : i < length b = let l = slice_get_within a i p x in let e = f.size in omega arith in
      let y : slice_get b i ≡ Some (get_or b i p) = slice_get-get_or b i p less in
      let s = f.each i p (get_or b i p) x y in
      let t = g.each i (get_or b i p) r y z in record {
        queue = t.queue ∙ s.queue;
        number = t.number ∙ s.number;
        made = t.made ∙ s.made;
        ended = t.ended ∙ s.ended;
      };
  own = λ o. g.own (f.own o);
}

pub gates_lanes : (a b : List (InPass Job)) (n m : ℕ) → KeepsGates a b n m → length b ≡ length a
gates_lanes a b n m f = f.size
