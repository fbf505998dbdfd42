-- One pass of a worker's is another.
use Rattle.std.proofs.Common.{◌≡◌, ◌≢◌, ◌∷◌, ◌++◌, [], ℕ, Some, Option, List, set, refl, sym, ap, ◌∙◌, subst}
use Rattle.std.specs.Prelude.{slice_get}
use Rattle.std.proofs.lemmas.List.{length-set}
use Rattle.std.proofs.lemmas.Option.{slice_get_within}
use mathlib.Core.Logic.{dite}
use native.Mathlib.Decide.{ℕ_discrete}
use Rattle.lsv_queue.specs.Settled.{puts_at, puts_of}
use Rattle.lsv_queue.specs.declared.queue.InPass.{InPass}
use Rattle.lsv_queue.proofs.Places.{one_there, set_at, set_off}
use Rattle.lsv_session.specs.declared.job.Job.{Job}
use Rattle.lsv_links.specs.Turns.{AreOf}
use Rattle.lsv_threads.specs.Gates.{AreOwn, IsSamePass, KeepsGates}

-- one more job of a worker
pub own_push : (worker : ℕ) (jobs : List Job) (job : Job) → AreOf worker jobs → job.conn.worker ≡ worker → AreOf worker (jobs ++ job ∷ [])
own_push worker [] job all own = (own, tt)
own_push worker (j ∷ jobs) job all own = (all.0, own_push worker jobs job all.1 own)

module _ (before : List (InPass Job)) (i : ℕ) (p q : InPass Job) (number : ℕ) (there : slice_get before i ≡ Some p) (same : IsSamePass p q)
    (own : AreOf number p.list.put → AreOf number q.list.put) where
  here : slice_get (set before i q) i ≡ Some q
  here = set_at before i q (slice_get_within before i p there)

  own_at : AreOwn before number → (lane : ℕ) → AreOf number (puts_at (set before i q) lane)
  own_at o lane = dite (ℕ_discrete lane i)
      (λ (e : lane ≡ i). subst (λ (n : ℕ). AreOf number (puts_at (set before i q) n)) (sym e)
      (subst (λ (z : Option (InPass Job)). AreOf number (puts_of z)) (sym here)
      (own (subst (λ (z : Option (InPass Job)). AreOf number (puts_of z)) there (o i)))))
      (λ (ne : lane ≢ i). subst (λ (z : Option (InPass Job)). AreOf number (puts_of z)) (sym (set_off before i lane q ne)) (o lane))

  pub gates_set : KeepsGates before (set before i q) number number
  gates_set = record {
    size = length-set before i q;
    worker_is = refl;
    each = λ k x y at now. dite (ℕ_discrete k i)
        (λ (e : k ≡ i).
        let was : x ≡ p = one_there before i x p (subst (λ (n : ℕ). slice_get before n ≡ Some x) e at) there in
        let is : y ≡ q = one_there (set before i q) i y q (subst (λ (n : ℕ). slice_get (set before i q) n ≡ Some y) e now) here in
        subst (λ (z : InPass Job). IsSamePass z y) (sym was) (subst (λ (z : InPass Job). IsSamePass p z) (sym is) same))
        (λ (ne : k ≢ i).
        let e : x ≡ y = one_there before k x y at (sym (set_off before i k q ne) ∙ now) in
        record { queue = ap (λ (z : InPass Job). z.queue) (sym e); number = ap (λ (z : InPass Job). z.list.number) (sym e); made = ap (λ (z : InPass Job). z.list.made) (sym e); ended = ap (λ (z : InPass Job). z.list.ended) (sym e) });
    own = own_at;
  }
