-- Sides as they are made of their parts.
use Rattle.std.proofs.Common.{◌≡◌, ◌≢◌, ℕ, zero, suc, ◌+◌, ◌≤◌, Some, None, Option, List, [], ◌∷◌, ◌++◌, drop, length, sym, ap, ◌∙◌, subst, append_assoc, arith}
use Rattle.std.specs.Prelude.{slice_get}
use Rattle.std.specs.declared.alloc.Global.{Global}
use Rattle.std.specs.declared.vec.Vec.{Vec}
use Rattle.std.proofs.lemmas.List.{length-append}
use mathlib.Core.Logic.{dite}
use native.Mathlib.Decide.{ℕ_discrete}
use Rattle.lsv_queue.specs.declared.queue.InPass.{InPass}
use Rattle.lsv_queue.specs.declared.queue.OutPass.{OutPass}
use Rattle.lsv_queue.proofs.Joining.{mid_here, snoc_off}
use Rattle.lsv_session.specs.declared.job.Job.{Job}
use Rattle.lsv_session.specs.declared.reply.Reply.{Reply}
use Rattle.lsv_threads.specs.Parts.{AreLaneSides, AreWorkerSides, IsLaneSide, IsWorkerSide}
use Rattle.lsv_threads.specs.declared.lane_side.LaneSide.{LaneSide}
use Rattle.lsv_threads.specs.declared.worker_side.WorkerSide.{WorkerSide}
use Rattle.lsv_threads.proofs.Deals.{snoc_is}

-- the element in front of what is left stands at that place, and the rest is left
pub drop_some : {A : Type 0} (n : ℕ) (xs : List A) (x : A) (ys : List A) → drop n xs ≡ x ∷ ys → (slice_get xs n ≡ Some x) × (ys ≡ drop (suc n) xs)
drop_some zero [] x ys e = absurd cc
drop_some {A} zero (z ∷ zs) x ys e = (ap (λ (l : List A). first_of l) e, sym (ap (λ (l : List A). rest_of l) e))
  where
    first_of : List A → Option A
    first_of [] = None
    first_of (x ∷ xs) = Some x

    rest_of : List A → List A
    rest_of [] = []
    rest_of (x ∷ xs) = xs
drop_some (suc n) [] x ys e = absurd cc
drop_some (suc n) (z ∷ zs) x ys e = drop_some n zs x ys e

-- something is left below the end
pub drop_none : {A : Type 0} (n : ℕ) (xs : List A) → drop n xs ≡ [] → length xs ≤ n
drop_none zero [] e = omega arith
drop_none zero (z ∷ zs) e = absurd cc
drop_none (suc n) [] e = omega arith
drop_none (suc n) (z ∷ zs) e = let l = drop_none n zs e in omega arith

pub worker_more : {T : Type 0} (endpoints : List T) (rows : List (Vec (InPass Job) Global)) (receivers : List (OutPass Reply)) (sides : List (WorkerSide T)) (n m : ℕ) (side : WorkerSide T) → m ≡ n + 1 → IsWorkerSide endpoints rows receivers n side
    → AreWorkerSides endpoints rows receivers sides n → AreWorkerSides endpoints rows receivers (sides ++ side ∷ []) m
worker_more {T} endpoints rows receivers sides n m side next is are = record {
  size = let a = length-append sides (side ∷ []) in let s = are.size in omega (arith, next);
  each = λ k y at. dite (ℕ_discrete k (length sides))
      (λ (e : k ≡ length sides). subst (λ (i : ℕ). IsWorkerSide endpoints rows receivers i y) (sym (e ∙ are.size)) (subst (λ (z : WorkerSide T). IsWorkerSide endpoints rows receivers n z) (sym (snoc_is sides side y k e at)) is))
      (λ (ne : k ≢ length sides). are.each k y (sym (snoc_off sides side k ne) ∙ at));
}

pub lane_more : {L : Type 0} (lanes : List L) (rows : List (Vec (InPass Reply) Global)) (receivers : List (OutPass Job)) (sides : List (LaneSide L)) (n m : ℕ) (side : LaneSide L) → m ≡ n + 1 → IsLaneSide lanes rows receivers n side
    → AreLaneSides lanes rows receivers sides n → AreLaneSides lanes rows receivers (sides ++ side ∷ []) m
lane_more {L} lanes rows receivers sides n m side next is are = record {
  size = let a = length-append sides (side ∷ []) in let s = are.size in omega (arith, next);
  each = λ k y at. dite (ℕ_discrete k (length sides))
      (λ (e : k ≡ length sides). subst (λ (i : ℕ). IsLaneSide lanes rows receivers i y) (sym (e ∙ are.size)) (subst (λ (z : LaneSide L). IsLaneSide lanes rows receivers n z) (sym (snoc_is sides side y k e at)) is))
      (λ (ne : k ≢ length sides). are.each k y (sym (snoc_off sides side k ne) ∙ at));
}

pub there_mid : {A : Type 0} (all xs ys : List A) (x : A) → (xs ++ x ∷ []) ++ ys ≡ all → slice_get all (length xs) ≡ Some x
there_mid {A} all xs ys x e = subst (λ (l : List A). slice_get l (length xs) ≡ Some x) (sym (append_assoc xs (x ∷ []) ys) ∙ e) (mid_here xs ys x)
