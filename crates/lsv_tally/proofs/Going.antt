-- The committed bytes of an event log, block after block.
use Rattle.std.proofs.Common.{◌≡◌, ◌∙◌, ◌++◌, ℕ, zero, suc, ◌+◌, ◌-◌, ◌<◌, ◌≤◌, ◌^◌, Bool, true, false, List, [], ◌∷◌, length, take, drop, refl, ap, subst, append_assoc, arith}
use Rattle.std.proofs.lemmas.List.{length-take, take_all, take-append-drop}
use Rattle.lsv_defs.specs.Pieces.{piece}
use Rattle.lsv_disk.specs.declared.file.FileId.{FileId}
use Rattle.lsv_disk.specs.Throughout.{OnlyReads}
use Rattle.lsv_disk.specs.View.{DiskView}
use Rattle.lsv_disk.proofs.Composition.{OnlyNow, reads_trans}
use Rattle.lsv_iolog.proofs.Scans.{reads_nothing}
use Rattle.lsv_tally.proofs.Lines.{same_piece, taken_more}
use Rattle.lsv_tally.specs.Reading.{IsAt, IsReadTo}
use Rattle.lsv_tally.specs.declared.reading.Ending.{Ending}
use Rattle.lsv_tally.specs.declared.reading.Ending.TheVariants as endings

-- the first bytes of a text were read, over a disk that was only read
pub record IsGoing (tells : Type 0) (text : List ℕ) (at : ℕ) (old now : DiskView) (lines : ℕ) (line : List ℕ) : Type 0 where
  pub disk : (f : FileId) → old.faults f ≤ now.faults f
  pub reads : tells → OnlyReads old now
  pub is_at : tells → IsAt lines line (take at text)

pub going_starts : (tells : Type 0) (text : List ℕ) (disk : DiskView) (lines : ℕ) (line : List ℕ) → (tells → OnlyNow disk) → IsAt lines line [] → IsGoing tells text 0 disk disk lines line
going_starts tells text disk lines line now at = record { disk = λ f. omega arith; reads = λ told. reads_nothing disk (now told); is_at = λ told. at }

module _ (tells : Type 0) (text block : List ℕ) (at count room : ℕ) (old now later : DiskView) (lines next : ℕ) (line rest : List ℕ) (is : IsGoing tells text at old now lines line) (count_is : tells → count ≡ length (piece text at room)) (block_is : tells → block ≡ piece text at room) where
  whole_block : tells → block ≡ take count (drop at text)
  whole_block told = block_is told ∙ same_piece room count (drop at text) (count_is told)

  -- both are no longer than what counts them
  pub few : tells → at + count < 2 ^ 64 → length (take at text) + length block < 2 ^ 64
  few told fits = omega (arith, fits, length-take at text, ap length (block_is told), count_is told)

  -- with one block more
  pub going_on : (b : Bool) → (tells → OnlyReads now later) → ((f : FileId) → now.faults f ≤ later.faults f) → at + count < 2 ^ 64 → b ≡ true
      → ((told : tells) → length (take at text) + length block < 2 ^ 64 → IsAt lines line (take at text) → b ≡ true → IsAt next rest (take at text ++ block)) → IsGoing tells text (at + count) old later next rest
  going_on b reads disk fits good takes = record {
    disk = λ f. omega (arith, is.disk f, disk f);
    reads = λ told. reads_trans old now later (is.reads told) (reads told);
    is_at = λ told. subst (IsAt next rest) (ap (λ (bytes : List ℕ). take at text ++ bytes) (whole_block told) ∙ taken_more at count text) (takes told (few told fits) (is.is_at told) good);
  }

  -- a line is no event
  pub bad_in : (told : tells) → (b : Bool) → at + count < 2 ^ 64 → b ≡ false
      → ((after : List ℕ) → length (take at text) + length block < 2 ^ 64 → IsAt lines line (take at text) → b ≡ false → IsReadTo next endings.Bad (take at text ++ (block ++ after))) → IsReadTo next endings.Bad text
  bad_in told b fits bad takes =
      let after : List ℕ = drop count (drop at text) in
      subst (IsReadTo next endings.Bad) (ap (λ (bytes : List ℕ). take at text ++ (bytes ++ after)) (whole_block told) ∙ ap (λ (bytes : List ℕ). take at text ++ bytes) (take-append-drop count (drop at text)) ∙ take-append-drop at text)
      (takes after (few told fits) (is.is_at told) bad)

-- all bytes were read
pub going_ends : (tells : Type 0) (text : List ℕ) (at : ℕ) (old now : DiskView) (lines : ℕ) (line : List ℕ) (ending : Ending) → IsGoing tells text at old now lines line → length text ≤ at → tells → ((t : List ℕ) → IsAt lines line t → IsReadTo lines ending t) → IsReadTo lines ending text
going_ends tells text at old now lines line ending is long told ends = ends text (subst (IsAt lines line) (take_all at text long) (is.is_at told))

-- what a read gave
take_front : (xs ys : List ℕ) (n : ℕ) → n ≡ length xs → take n (xs ++ ys) ≡ xs
take_front [] ys zero is = refl
take_front [] ys (suc n) is = absurd (let no_ : ⊥ = omega (arith, is) in no_)
take_front (x ∷ xs) ys zero is = absurd (let no_ : ⊥ = omega (arith, is) in no_)
take_front (x ∷ xs) ys (suc n) is = ap (λ (l : List ℕ). x ∷ l) (take_front xs ys n (omega (arith, is)))

pub read_count : (text other : List ℕ) (at room long count : ℕ) → other ≡ text → long ≡ room → count ≡ length (piece other at long) → count ≡ length (piece text at room)
read_count text other at room long count same same_room is = is ∙ ap (λ (l : List ℕ). length (piece l at long)) same ∙ ap (λ (k : ℕ). length (piece text at k)) same_room

pub read_block : (text other : List ℕ) (at room long count : ℕ) (buf before rest : List ℕ) → other ≡ text → long ≡ room → count ≡ length (piece other at long) → buf ≡ piece other at long ++ before → take count (buf ++ rest) ≡ piece text at room
read_block text other at room long count buf before rest same same_room is buf_is =
    ap (λ (l : List ℕ). take count (l ++ rest)) buf_is
    ∙ ap (take count) (append_assoc (piece other at long) before rest)
    ∙ take_front (piece other at long) (before ++ rest) count is
    ∙ ap (λ (l : List ℕ). piece l at long) same ∙ ap (piece text at) same_room

pub room_of : (zeros : List ℕ) (room : ℕ) → length zeros ≡ 16384 → room ≤ 16384 → length (take room zeros) ≡ room
room_of zeros room long few = omega (arith, length-take room zeros, long, few)

-- a place after a block is one of 64 bits
pub at_fits : (at count room long all : ℕ) → at < all → count ≤ long → long ≡ room → room ≤ all - at → all < 2 ^ 64 → at + count < 2 ^ 64
at_fits at count room long all less within same few fits = omega (arith, less, within, same, few, fits)
