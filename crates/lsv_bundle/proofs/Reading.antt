-- Reading committed bytes.
use Rattle.std.proofs.Common.{◌≡◌, inl, inr, ℕ, zero, suc, ◌+◌, ◌-◌, ◌<◌, ◌≤◌, min, List, [], ◌∷◌, ◌++◌, length, take, drop, map, sym, ◌∙◌, ap, arith, append_assoc}
use Rattle.std.specs.Prelude.{slice_index, slice_index_or}
use Rattle.std.proofs.lemmas.List.{drop-take, drop_all, take-take, take_all, length-take, length-take-le, drop-append-le, take-append-drop}
use Rattle.std.proofs.lemmas.Bool.{cases_lt}
use Rattle.lsv_defs.specs.Pieces.{piece}
use Rattle.lsv_bundle.specs.Value.{FileView}

-- the file that stands at an index has the committed length that the list has there
pub committed_here : (files : List FileView) (i : ℕ) (file : FileView) → i < length files → file ≡ slice_index_or files i file → slice_index (map (λ f. f.committed) files) i ≡ file.committed
committed_here [] i file within is = absurd (let none : ⊥ = omega (arith, within) in none)
committed_here (first ∷ files) zero file within is = ap (λ (f : FileView). f.committed) (sym is)
committed_here (first ∷ files) (suc i) file within is = committed_here files i file (omega (arith, within)) is

take_of_take : (m k : ℕ) (l : List ℕ) → take m (take k l) ≡ take (min k m) l
take_of_take m k l = elim (cases_lt k m) [
  | inl less ↦
      let e : min k m ≡ k = omega (arith, less) in
      take_all m (take k l) (let n = length-take k l in omega (arith, n, less)) ∙ ap (λ (j : ℕ). take j l) (sym e)
  | inr more ↦ let e : min k m ≡ m = omega (arith, more) in take-take m k l (omega (arith, more)) ∙ ap (λ (j : ℕ). take j l) (sym e)
]

-- the bytes from a place on that are among the first ones
pub piece_of_prefix : (content : List ℕ) (n at m : ℕ) → piece (take n content) at m ≡ piece content at (min (n - at) m)
piece_of_prefix content n at m = elim (cases_lt n at) [
  | inl past ↦
      let e : min (n - at) m ≡ 0 = omega (arith, past) in
      ap (take m) (drop_all at (take n content) (let k = length-take n content in omega (arith, k, past)))
      ∙ take_all m [] (omega arith)
      ∙ sym (ap (λ (j : ℕ). take j (drop at content)) e)
  | inr within ↦
      let e : at + (n - at) ≡ n = omega (arith, within) in
      ap (λ (k : ℕ). take m (drop at (take k content))) (sym e)
      ∙ ap (take m) (drop-take at (n - at) content)
      ∙ take_of_take m (n - at) (drop at content)
]

-- what stands after the bytes that were read
pub behind : (n room : ℕ) (buf : List ℕ) → n ≤ room → room ≤ length buf → drop n (take room buf) ++ drop room buf ≡ drop n buf
behind n room buf less within =
    sym (drop-append-le n (take room buf) (drop room buf) (let k = length-take-le room buf within in omega (arith, k, less)))
    ∙ ap (drop n) (take-append-drop room buf)

-- a read of this many bytes of the file as are committed and as the buffer takes
module _ (content buf new : List ℕ) (committed at room count : ℕ) (room_is : room ≡ min (committed - at) (length buf)) where
  within : room ≤ length buf
  within = omega (arith, room_is)

  piece_is : piece content at (length (take room buf)) ≡ piece (take committed content) at (length buf)
  piece_is = ap (piece content at) (length-take-le room buf within ∙ room_is) ∙ sym (piece_of_prefix content committed at (length buf))

  pub read_count : count ≡ length (piece content at (length (take room buf))) → count ≡ length (piece (take committed content) at (length buf))
  read_count is = is ∙ ap (λ (l : List ℕ). length l) piece_is

  pub read_bytes : count ≤ length (take room buf) → new ≡ piece content at (length (take room buf)) ++ drop count (take room buf) → new ++ drop room buf ≡ piece (take committed content) at (length buf) ++ drop count buf
  read_bytes less is =
      ap (λ (l : List ℕ). l ++ drop room buf) is
      ∙ append_assoc (piece content at (length (take room buf))) (drop count (take room buf)) (drop room buf)
      ∙ ap (λ (l : List ℕ). piece content at (length (take room buf)) ++ l) (behind count room buf (let k = length-take-le room buf within in omega (arith, k, less)) within)
      ∙ ap (λ (l : List ℕ). l ++ drop count buf) piece_is
