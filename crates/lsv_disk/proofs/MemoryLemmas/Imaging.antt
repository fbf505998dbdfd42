-- What is left by each fill is what a crash may leave.
use Rattle.std.proofs.Common.{◌≡◌, ◌⊎◌, inl, inr, ◌&&◌, ℕ, ◌+◌, ◌≤◌, max, true, List, [], ◌∷◌, ◌++◌, length, take, drop, replicate, is_none, Option, Some, None, refl, subst, arith}
use Rattle.std.proofs.lemmas.Bool.{and_parts}
use Rattle.std.proofs.lemmas.List.{length-replicate, length-append, length-take, length-drop}
use Rattle.lsv_disk.specs.declared.memory.call.Effect.{Effect}
use Rattle.lsv_disk.specs.declared.memory.call.Effect.TheVariants.{Held, Made, NotMade, NotRead, Written, NotWritten, Synced, NotSynced}
use Rattle.lsv_disk.specs.declared.memory.fill.Fill.{Fill}
use Rattle.lsv_disk.specs.declared.memory.fill.Fill.TheVariants.{Old, Read, Byte}
use Rattle.lsv_disk.specs.Bytes.{overwritten, written, bytes_of, Torn, Reaches}
use Rattle.lsv_disk.specs.Memory.Calls.{reads_after, MayLeave, reaches, is_legal}
use Rattle.lsv_disk.specs.Memory.Images.{durable_after, smeared_after, left_by}
use Rattle.lsv_disk.specs.TornLemmas.{torn_same}
use Rattle.lsv_disk.specs.Memory.Laws.{MayLeave-reads}
use Rattle.lsv_disk.proofs.MemoryLemmas.Noting.{reaches_by_true}
use Rattle.lsv_disk.proofs.MemoryLemmas.Outcomes.{torn_written}

-- nothing came through
pub old_may : (past : List Effect) → MayLeave past (durable_after past)
old_may [] = refl
old_may (Held bytes ∷ past) = refl
old_may (Made ∷ past) = refl
old_may (Synced ∷ past) = refl
old_may (NotMade ∷ past) = inl (old_may past)
old_may (NotRead ∷ past) = old_may past
old_may (Written at bytes ∷ past) = inr (durable_after past, old_may past, torn_same at (length bytes.items) (durable_after past))
old_may (NotWritten at n ∷ past) = (durable_after past, old_may past, torn_same at n (durable_after past))
old_may (NotSynced ∷ past) = old_may past

-- a file is there, and at least so long
abbrev pub IsBelow : Option (List ℕ) → Option (List ℕ) → Type 0
IsBelow None file = Unit {0}
IsBelow (Some bytes) None = ⊥
IsBelow (Some bytes) (Some others) = length bytes ≤ length others

below_itself : (file : Option (List ℕ)) → IsBelow file file
below_itself None = tt
below_itself (Some bytes) = omega arith

below_reaches : (small large : Option (List ℕ)) (at : ℕ) → IsBelow small large → Reaches small at → Reaches large at
below_reaches None large at below place = absurd place
below_reaches (Some bytes) None at below place = absurd below
below_reaches (Some bytes) (Some others) at below place = omega (arith, below, place)

below_made : (small large : Option (List ℕ)) → IsBelow small large → IsBelow small (Some (bytes_of large))
below_made None large below = tt
below_made (Some bytes) None below = absurd below
below_made (Some bytes) (Some others) below = below

-- how long a file is after a good write
pub length_written : (at : ℕ) (bytes old : List ℕ) → at ≤ length old → length (overwritten at bytes old) ≡ max (length old) (at + length bytes)
length_written at bytes old place =
    let front = length-append (take at old ++ bytes) (drop (at + length bytes) old) in
    let both = length-append (take at old) bytes in
    omega (arith, front, both, length-take at old, length-drop (at + length bytes) old, place)

below_written : (small large : Option (List ℕ)) (at : ℕ) (bytes : List ℕ) → Reaches large at → IsBelow small large → IsBelow small (written at bytes large)
below_written None large at bytes place below = tt
below_written (Some small) None at bytes place below = absurd below
below_written (Some small) (Some large) at bytes place below = omega (arith, below, length_written at bytes large place)

below_both : (small large : Option (List ℕ)) (at : ℕ) (bytes others : List ℕ) → length others ≡ length bytes → Reaches small at → IsBelow small large → IsBelow (written at bytes small) (written at others large)
below_both None large at bytes others same place below = tt
below_both (Some small) None at bytes others same place below = absurd below
below_both (Some small) (Some large) at bytes others same place below = omega (arith, below, place, same, length_written at bytes small place, length_written at others large (omega (arith, below, place)))

-- all came through as one byte: the longest that the file may be
module _ (byte : ℕ) where
  pub below_smeared : (past : List Effect) → is_legal past ≡ true → IsBelow (reads_after past) (smeared_after byte past)
  below_smeared [] legal = tt
  below_smeared (Held bytes ∷ past) legal = omega arith
  below_smeared (Made ∷ past) legal = omega arith
  below_smeared (Synced ∷ past) legal = below_itself (reads_after past)
  below_smeared (NotMade ∷ past) legal = below_made (reads_after past) (smeared_after byte past) (below_smeared past ((and_parts (is_none (reads_after past)) (is_legal past) legal).1))
  below_smeared (NotRead ∷ past) legal = below_smeared past legal
  below_smeared (NotSynced ∷ past) legal = below_smeared past legal
  below_smeared (Written at bytes ∷ past) legal =
      let both = and_parts (reaches (reads_after past) at) (is_legal past) legal in
      below_both (reads_after past) (smeared_after byte past) at bytes.items (replicate (length bytes.items) byte) (length-replicate (length bytes.items) byte) (reaches_by_true (reads_after past) at both.0) (below_smeared past both.1)
  below_smeared (NotWritten at n ∷ past) legal =
      let both = and_parts (reaches (reads_after past) at) (is_legal past) legal in
      let below = below_smeared past both.1 in
      below_written (reads_after past) (smeared_after byte past) at (replicate n byte) (below_reaches (reads_after past) (smeared_after byte past) at below (reaches_by_true (reads_after past) at both.0)) below

  torn_run : (at n : ℕ) (past : List Effect) → (reaches (reads_after past) at && is_legal past) ≡ true → Torn at n (smeared_after byte past) (written at (replicate n byte) (smeared_after byte past))
  torn_run at n past legal =
      let both = and_parts (reaches (reads_after past) at) (is_legal past) legal in
      let place = below_reaches (reads_after past) (smeared_after byte past) at (below_smeared past both.1) (reaches_by_true (reads_after past) at both.0) in
      subst (λ (k : ℕ). Torn at k (smeared_after byte past) (written at (replicate n byte) (smeared_after byte past))) (length-replicate n byte) (torn_written at (replicate n byte) (smeared_after byte past) place)

  made_may : (past : List Effect) → is_none (reads_after past) ≡ true → MayLeave past (smeared_after byte past) → MayLeave past (Some (bytes_of (smeared_after byte past))) ⊎ (Some (bytes_of (smeared_after byte past)) ≡ Some [])
  made_may past absent may = by_file (smeared_after byte past) may where
    by_file : (file : Option (List ℕ)) → MayLeave past file → MayLeave past (Some (bytes_of file)) ⊎ (Some (bytes_of file) ≡ Some [])
    by_file None left = inr refl
    by_file (Some bytes) left = inl left

  pub smeared_may : (past : List Effect) → is_legal past ≡ true → MayLeave past (smeared_after byte past)
  smeared_may [] legal = refl
  smeared_may (Held bytes ∷ past) legal = refl
  smeared_may (Made ∷ past) legal = refl
  smeared_may (Synced ∷ past) legal = refl
  smeared_may (NotMade ∷ past) legal =
      let both = and_parts (is_none (reads_after past)) (is_legal past) legal in
      made_may past both.0 (smeared_may past both.1)
  smeared_may (NotRead ∷ past) legal = smeared_may past legal
  smeared_may (NotSynced ∷ past) legal = smeared_may past legal
  smeared_may (Written at bytes ∷ past) legal =
      inr (smeared_after byte past, smeared_may past ((and_parts (reaches (reads_after past) at) (is_legal past) legal).1), torn_run at (length bytes.items) past legal)
  smeared_may (NotWritten at n ∷ past) legal =
      (smeared_after byte past, smeared_may past ((and_parts (reaches (reads_after past) at) (is_legal past) legal).1), torn_run at n past legal)

-- each of them
pub left_may : (fill : Fill) (past : List Effect) → is_legal past ≡ true → MayLeave past (left_by fill past)
left_may Old past legal = old_may past
left_may Read past legal = MayLeave-reads past
left_may (Byte byte) past legal = smeared_may byte past legal
