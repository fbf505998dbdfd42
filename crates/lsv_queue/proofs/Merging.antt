-- What settled queues say of the items that were taken.
use Rattle.std.proofs.Common.{◌≡◌, ℕ, ◌<◌, ◌≤◌, ◌==◌, Some, None, Option, List, [], ◌∷◌, All, get_or, length, refl, sym, ap, ◌∙◌, subst, arith}
use Rattle.std.specs.Prelude.{slice_get}
use Rattle.std.specs.List.{filter}
use Rattle.std.proofs.lemmas.Option.{slice_get-get_or, slice_get_past}
use mathlib.Core.Logic.{dite}
use Rattle.std.proofs.Math.Decide.{dec_le}
use Rattle.lsv_queue.specs.declared.queue.InPass.{InPass}
use Rattle.lsv_queue.specs.declared.queue.OutPass.{OutPass}
use Rattle.lsv_queue.specs.Order.{bodies_from, bodies_of}
use Rattle.lsv_queue.specs.Passes.{items_in, items_of}
use Rattle.lsv_queue.specs.Settled.{AreSettled, IsMerge, ReachTo, given_at, puts_at, puts_of}
use Rattle.lsv_queue.proofs.Items.{Keyed, by_key, keyed_whole, somes_whole}

module _ {T : Type 0} (receivers : List (OutPass T)) (rows : List (List (InPass T))) (settled : AreSettled receivers rows) (k : ℕ) (t : OutPass T) (at : slice_get receivers k ≡ Some t) (reach : ReachTo k rows) where
  pass_at : (row : List (InPass T)) → k < length row → (p : InPass T) × (slice_get row k ≡ Some p)
  pass_at [] low = absurd (omega arith)
  pass_at (x ∷ xs) low = (get_or (x ∷ xs) k x, slice_get-get_or (x ∷ xs) k x low)

  -- ---- a merge

  each_given : (s : ℕ) → items_in (bodies_from s t.taken.got) ≡ given_at k (slice_get rows s)
  each_given s = dite (dec_le (length rows) s)
      (λ (past : length rows ≤ s). ap items_in (settled.none_of k s t at past) ∙ sym (ap (given_at k) (slice_get_past rows s past)))
      (λ low.
      let row : List (InPass T) = get_or rows s [] in
      let row_at : slice_get rows s ≡ Some row = slice_get-get_or rows s [] (omega (arith, low)) in
      let p = pass_at row (reach s row row_at) in
      ap items_in (settled.whole_of k s t row p.0 at row_at p.1) ∙ (somes_whole p.0.list ∙ (sym (ap puts_of p.1) ∙ sym (ap (given_at k) row_at))))

  pub taken_merges : IsMerge (items_of t.taken.got) (λ s. given_at k (slice_get rows s))
  taken_merges = record { letters = t.taken.got; are = refl; each = each_given }

  -- ---- by a key

  module _ (key : T → ℕ) (own : (s : ℕ) (row : List (InPass T)) → slice_get rows s ≡ Some row → All (λ x. key x ≡ s) (puts_at row k)) where
    keyed_at : (s : ℕ) → s < length rows → Keyed key s (bodies_from s t.taken.got)
    keyed_at s less =
        let row : List (InPass T) = get_or rows s [] in
        let row_at : slice_get rows s ≡ Some row = slice_get-get_or rows s [] less in
        let p = pass_at row (reach s row row_at) in
        let mine : All (λ (x : T). key x ≡ s) p.0.list.put = subst (λ (o : Option (InPass T)). All (λ (x : T). key x ≡ s) (puts_of o)) p.1 (own s row row_at) in
        subst (λ (l : List (Option T)). Keyed key s l) (sym (settled.whole_of k s t row p.0 at row_at p.1)) (keyed_whole key s p.0.list mine)

    keyed : (s : ℕ) → Keyed key s (bodies_from s t.taken.got)
    keyed s = dite (dec_le (length rows) s)
        (λ (past : length rows ≤ s). subst (λ (l : List (Option T)). Keyed key s l) (sym (settled.none_of k s t at past)) tt)
        (λ low. keyed_at s (omega (arith, low)))

    pub taken_by_key : (s : ℕ) → filter (λ x. key x == s) (items_of t.taken.got) ≡ given_at k (slice_get rows s)
    taken_by_key s = by_key key t.taken.got keyed s ∙ each_given s
