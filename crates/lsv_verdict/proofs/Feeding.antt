-- Committed bytes that are fed to a hasher, block by block.
use Rattle.std.proofs.Common.{◌≡◌, ◌∙◌, ◌++◌, ℕ, zero, suc, ◌+◌, ◌<◌, ◌≤◌, List, [], ◌∷◌, length, take, drop, Bool, true, Result, Ok, Err, IfOk, refl, sym, ap, subst, append-nil, append_assoc, arith}
use Rattle.std.proofs.lemmas.List.{take_all, take-append-drop, length-drop, length-take}
use Rattle.sha2.specs.Hashers.{Holds256}
use Rattle.sha2.specs.declared.Sha256.{Sha256}
use Rattle.lsv_defs.specs.Pieces.{piece}
use Rattle.lsv_bundle.specs.declared.body.Body.{Body}
use Rattle.lsv_disk.specs.declared.disk.DiskFault.{DiskFault}
use Rattle.lsv_disk.specs.declared.file.FileId.{FileId}
use Rattle.lsv_disk.specs.declared.file.Part.{Part}
use Rattle.lsv_disk.specs.Throughout.{OnlyReads}
use Rattle.lsv_disk.specs.View.{DiskView, Image}
use Rattle.lsv_disk.proofs.Composition.{OnlyNow, reads_trans}
use Rattle.lsv_iolog.proofs.Scans.{reads_nothing}
use Rattle.lsv_verdict.specs.Sealed.{sealed_part, sealed_parts}

-- the first bytes, and a piece after them
taken_more : (n k : ℕ) (xs : List ℕ) → take n xs ++ take k (drop n xs) ≡ take (n + k) xs
taken_more zero k xs = ap (λ (m : ℕ). take m xs) (let h : k ≡ 0 + k = omega arith in h)
taken_more (suc n) k [] = take_all k [] (omega arith) ∙ sym (take_all (suc n + k) [] (omega arith))
taken_more (suc n) k (x ∷ xs) =
    let on : suc (n + k) ≡ suc n + k = omega arith in
    ap (λ (ys : List ℕ). x ∷ ys) (taken_more n k xs) ∙ ap (λ (m : ℕ). take m (x ∷ xs)) on

-- what was fed of a text up to a place: the disk was only read, and the hasher holds its first bytes after what it held
pub record IsFeeding (tells : Type 0) (text : List ℕ) (at : ℕ) (old now : DiskView) (begun fed : Sha256) : Type 0 where
  pub disk : (f : FileId) → old.faults f ≤ now.faults f
  pub reads : tells → OnlyReads old now
  pub holds : tells → (m : List ℕ) → Holds256 begun m → Holds256 fed (m ++ take at text)

pub feeding_starts : (tells : Type 0) (text : List ℕ) (disk : DiskView) (hasher : Sha256) → (tells → OnlyNow disk) → IsFeeding tells text 0 disk disk hasher hasher
feeding_starts tells text disk hasher now = record {
  disk = λ f. omega arith;
  reads = λ told. reads_nothing disk (now told);
  holds = λ told m held. subst (Holds256 hasher) (sym (append-nil m)) held;
}

-- with one block more
pub feeding_goes_on : (tells : Type 0) (text block : List ℕ) (at count next room : ℕ) (old now later : DiskView) (begun fed more : Sha256) → IsFeeding tells text at old now begun fed → (tells → OnlyReads now later) → ((f : FileId) → now.faults f ≤ later.faults f)
    → next ≡ at + count → (tells → count ≡ length (piece text at room)) → (tells → block ≡ piece text at room) → ((m : List ℕ) → Holds256 fed m → Holds256 more (m ++ block)) → IsFeeding tells text next old later begun more
feeding_goes_on tells text block at count next room old now later begun fed more is reads disk next_is count_is block_is feeds = record {
  disk = λ f. omega (arith, is.disk f, disk f);
  reads = λ told. reads_trans old now later (is.reads told) (reads told);
  holds = λ told m held.
      let whole : block ≡ take count (drop at text) = block_is told ∙ same_piece room count (drop at text) (count_is told) in
      subst (Holds256 more) (append_assoc m (take at text) block ∙ ap (λ (bytes : List ℕ). m ++ bytes) (ap (λ (bytes : List ℕ). take at text ++ bytes) whole ∙ taken_more at count text ∙ ap (λ (k : ℕ). take k text) (sym next_is)))
      (feeds (m ++ take at text) (is.holds told m held));
} where
  same_piece : (room count : ℕ) (xs : List ℕ) → count ≡ length (take room xs) → take room xs ≡ take count xs
  same_piece zero count xs is = ap (λ (k : ℕ). take k xs) (sym is)
  same_piece (suc room) count [] is = sym (take_all count [] (omega arith))
  same_piece (suc room) zero (x ∷ xs) is = absurd (let no_ : ⊥ = omega (arith, is) in no_)
  same_piece (suc room) (suc count) (x ∷ xs) is = ap (λ (ys : List ℕ). x ∷ ys) (same_piece room count xs (omega (arith, is)))

-- all of it was fed
pub feeding_ends : (tells : Type 0) (text : List ℕ) (at : ℕ) (old now : DiskView) (begun fed : Sha256) → IsFeeding tells text at old now begun fed → length text ≤ at → tells → (m : List ℕ) → Holds256 begun m → Holds256 fed (m ++ text)
feeding_ends tells text at old now begun fed is long told m held = subst (λ (bytes : List ℕ). Holds256 fed (m ++ bytes)) (take_all at text long) (is.holds told m held)

pub text_short : (n : ℕ) (xs : List ℕ) → length (take n xs) ≤ n
text_short n xs = omega (arith, length-take n xs)

-- a piece without bytes is past the end
pub piece_none : (text : List ℕ) (at room : ℕ) → 0 < room → 0 ≡ length (piece text at room) → length text ≤ at
piece_none text at room some none = omega (arith, none, length-take room (drop at text), length-drop at text)

-- ---- files, one after another

same_sealed : (m : List ℕ) (old mid : Image) (n : ℕ) (body : Body) (parts rest : List Part) (first : Part) → parts ≡ first ∷ rest → mid ≡ old
    → (m ++ sealed_part old n body first) ++ sealed_parts mid n body rest ≡ m ++ sealed_parts old n body parts
same_sealed m old mid n body parts rest first list same =
    append_assoc m (sealed_part old n body first) (sealed_parts mid n body rest)
    ∙ ap (λ (i : Image). m ++ (sealed_part old n body first ++ sealed_parts i n body rest)) same
    ∙ ap (λ (l : List Part). m ++ sealed_parts old n body l) (sym list)

-- the first file is fed, and then the others
pub sealed_more : (old mid : Image) (n : ℕ) (body : Body) (parts rest : List Part) (first : Part) (r : Result Bool DiskFault) (begun fed more : Sha256) → parts ≡ first ∷ rest → mid ≡ old
    → ((m : List ℕ) → Holds256 begun m → Holds256 fed (m ++ sealed_part old n body first))
    → IfOk r (λ all. (all ≡ true) × ((m : List ℕ) → Holds256 fed m → Holds256 more (m ++ sealed_parts mid n body rest)))
    → IfOk r (λ all. (all ≡ true) × ((m : List ℕ) → Holds256 begun m → Holds256 more (m ++ sealed_parts old n body parts)))
sealed_more old mid n body parts rest first (Err e) begun fed more list same one others = tt
sealed_more old mid n body parts rest first (Ok all) begun fed more list same one others =
    (others.0, λ m held. subst (Holds256 more) (same_sealed m old mid n body parts rest first list same) (others.1 (m ++ sealed_part old n body first) (one m held)))

-- ---- what a read gave

take_front : (xs ys : List ℕ) (n : ℕ) → n ≡ length xs → take n (xs ++ ys) ≡ xs
take_front [] ys zero is = refl
take_front [] ys (suc n) is = absurd (let no_ : ⊥ = omega (arith, is) in no_)
take_front (x ∷ xs) ys zero is = absurd (let no_ : ⊥ = omega (arith, is) in no_)
take_front (x ∷ xs) ys (suc n) is = ap (λ (l : List ℕ). x ∷ l) (take_front xs ys n (omega (arith, is)))

pub read_count : (text other : List ℕ) (at room long count : ℕ) → other ≡ text → long ≡ room → count ≡ length (piece other at long) → count ≡ length (piece text at room)
read_count text other at room long count same same_room is = is ∙ ap (λ (l : List ℕ). length (piece l at long)) same ∙ ap (λ (k : ℕ). length (piece text at k)) same_room

pub read_block : (text other : List ℕ) (at room long count : ℕ) (buf before rest : List ℕ) → other ≡ text → long ≡ room → count ≡ length (piece other at long) → buf ≡ piece other at long ++ before → take count (buf ++ rest) ≡ piece text at room
read_block text other at room long count buf before rest same same_room is buf_is =
    ap (λ (l : List ℕ). take count (l ++ rest)) buf_is
    ∙ ap (take count) (append_assoc (piece other at long) before rest)
    ∙ take_front (piece other at long) (before ++ rest) count is
    ∙ ap (λ (l : List ℕ). piece l at long) same ∙ ap (piece text at) same_room

-- as many bytes are asked for as a block has room for
pub room_of : (zeros : List ℕ) (room : ℕ) → length zeros ≡ 16384 → room ≤ 16384 → length (take room zeros) ≡ room
room_of zeros room long few = omega (arith, length-take room zeros, long, few)
