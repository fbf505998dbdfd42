-- The bytes of a file that was written over, or torn, at a place.
use Rattle.std.proofs.Common.{◌≡◌, ℕ, ◌+◌, ◌-◌, ◌<◌, ◌≤◌, List, ◌++◌, ◌∷◌, length, take, drop, get_or, Option, Some, None, refl, sym, ◌∙◌, ap, arith}
use Rattle.std.proofs.lemmas.List.{append_assoc, get_or-drop, length-append, length-take-le, length-drop, take_at, drop_at, drop-drop}
use Rattle.lsv_defs.specs.Pieces.{piece}
use Rattle.lsv_disk.specs.Bytes.{overwritten, written, bytes_of, Reaches, Torn, TornBytes}
use Rattle.lsv_journal.proofs.Counting.{same_at, piece_again}

-- the parts of what was written over
module _ (at : ℕ) (bytes old : List ℕ) (reaches : at ≤ length old) where
  parts : overwritten at bytes old ≡ take at old ++ (bytes ++ drop (at + length bytes) old)
  parts = append_assoc (take at old) bytes (drop (at + length bytes) old)

  front_length : length (take at old) ≡ at
  front_length = length-take-le at old reaches

  over_front : take at (overwritten at bytes old) ≡ take at old
  over_front = ap (take at) parts ∙ take_at (take at old) (bytes ++ drop (at + length bytes) old) at front_length

  pub from_there : drop at (overwritten at bytes old) ≡ bytes ++ drop (at + length bytes) old
  from_there = ap (drop at) parts ∙ drop_at (take at old) (bytes ++ drop (at + length bytes) old) at front_length

  pub over_part : piece (overwritten at bytes old) at (length bytes) ≡ bytes
  over_part = ap (take (length bytes)) from_there ∙ take_at bytes (drop (at + length bytes) old) (length bytes) refl

  over_rest : drop (at + length bytes) (overwritten at bytes old) ≡ drop (at + length bytes) old
  over_rest = sym (drop-drop (length bytes) at (overwritten at bytes old)) ∙ ap (drop (length bytes)) from_there ∙ drop_at bytes (drop (at + length bytes) old) (length bytes) refl

  over_length : length (overwritten at bytes old) ≡ at + length bytes + length (drop (at + length bytes) old)
  over_length = length-append (take at old ++ bytes) (drop (at + length bytes) old) ∙ ap (λ (l : ℕ). l + length (drop (at + length bytes) old)) (length-append (take at old) bytes ∙ ap (λ (l : ℕ). l + length bytes) front_length)

  pub over_reaches : at + length bytes ≤ length (overwritten at bytes old)
  over_reaches = omega (arith, over_length)

  pub over_torn : TornBytes at (length bytes) old (overwritten at bytes old)
  over_torn = record {
    before = over_front;
    after = over_rest;
    no_shorter = omega (arith, over_length, length-drop (at + length bytes) old);
    no_longer = omega (arith, over_length, length-drop (at + length bytes) old);
  }

-- the byte that was written there
pub over_byte : (at byte : ℕ) (rest old : List ℕ) → at ≤ length old → get_or (overwritten at (byte ∷ rest) old) at 0 ≡ byte
over_byte at byte rest old reaches =
    let e : at + 0 ≡ at = omega arith in
    ap (λ (k : ℕ). get_or (overwritten at (byte ∷ rest) old) k 0) (sym e) ∙ sym (get_or-drop at (overwritten at (byte ∷ rest) old) 0 0) ∙ ap (λ (b : List ℕ). get_or b 0 0) (from_there at (byte ∷ rest) old reaches)

-- what is beside the range that was torn
module _ (at m : ℕ) (old new : List ℕ) (torn : TornBytes at m old new) where
  pub byte_before : (k : ℕ) → k < at → get_or new k 0 ≡ get_or old k 0
  byte_before k lt = same_at at old new torn.before k lt

  pub byte_after : (k : ℕ) → at + m ≤ k → get_or new k 0 ≡ get_or old k 0
  byte_after k le =
      let e : at + m + (k - (at + m)) ≡ k = omega (arith, le) in
      ap (λ (j : ℕ). get_or new j 0) (sym e) ∙ sym (get_or-drop (at + m) new (k - (at + m)) 0) ∙ ap (λ (b : List ℕ). get_or b (k - (at + m)) 0) torn.after ∙ get_or-drop (at + m) old (k - (at + m)) 0 ∙ ap (λ (j : ℕ). get_or old j 0) e

  pub piece_before : (p n : ℕ) → p + n ≤ at → piece new p n ≡ piece old p n
  piece_before p n le = piece_again at p n old new torn.before le

  pub piece_after : (p n : ℕ) → at + m ≤ p → piece new p n ≡ piece old p n
  piece_after p n le =
      let e : at + m + (p - (at + m)) ≡ p = omega (arith, le) in
      ap (take n) (ap (λ (j : ℕ). drop j new) (sym e) ∙ sym (drop-drop (p - (at + m)) (at + m) new) ∙ ap (drop (p - (at + m))) torn.after ∙ drop-drop (p - (at + m)) (at + m) old ∙ ap (λ (j : ℕ). drop j old) e)

-- a file that is there, by its bytes
pub reaches_by : (at : ℕ) (file : Option (List ℕ)) → 0 < length (bytes_of file) → at ≤ length (bytes_of file) → Reaches file at
reaches_by at (Some bytes) some le = le
reaches_by at None some le = let no : ⊥ = omega (arith, some) in no

pub torn_bytes : (at n : ℕ) (old new : Option (List ℕ)) → Torn at n old new → TornBytes at n (bytes_of old) (bytes_of new)
torn_bytes at n (Some old) (Some new) torn = torn
torn_bytes at n None None torn = record { before = refl; after = refl; no_shorter = omega arith; no_longer = omega arith }
torn_bytes at n (Some old) None torn = absurd torn
torn_bytes at n None (Some new) torn = absurd torn

pub written_bytes : (at : ℕ) (bytes : List ℕ) (old new : Option (List ℕ)) → Reaches old at → new ≡ written at bytes old → bytes_of new ≡ overwritten at bytes (bytes_of old)
written_bytes at bytes (Some old) new reaches is = ap bytes_of is
written_bytes at bytes None new reaches is = absurd reaches
