-- Reading the entries of a file from its front.
use Rattle.std.proofs.Common.{◌≡◌, ◌⊎◌, inl, inr, ℕ, zero, suc, ◌+◌, ◌-◌, ◌<◌, ◌≤◌, min, true, false, List, [], ◌++◌, length, take, drop, get_or, Option, Some, None, refl, sym, ◌∙◌, ap, subst, arith}
use Rattle.std.proofs.lemmas.List.{length-drop, length-take, append-nil, drop_all, take_at}
use Rattle.std.proofs.lemmas.Bool.{cases_lt, cases_Bool, both_ways}
use Rattle.lsv_defs.specs.Pieces.{piece}
use Rattle.lsv_disk.specs.declared.file.FileId.{FileId}
use Rattle.lsv_disk.specs.Bytes.{bytes_of, size_of}
use Rattle.lsv_disk.specs.View.{DiskView, OneRead}
use Rattle.lsv_disk.specs.Throughout.{OnlyReads}
use Rattle.lsv_disk.proofs.Composition.{OnlyNow, started, one_read, reads_trans, unchanged_reads}
use Rattle.lsv_journal.specs.Gates.{place, is_whole, count, last_of}
use Rattle.lsv_journal.specs.Gates as Entries
use Rattle.lsv_journal.specs.Reading.{IsMore}
use Rattle.lsv_journal.proofs.Counting.{place_next, entry_le_place, is_whole_by, not_whole_short, gate_of_whole, end_of_whole, count_passes, count_stops, count_is, count_within, whole_before, whole_dropped, whole_of_part, first_in_part}

-- all entries up to this place are whole
abbrev pub WholeTo : ℕ → List ℕ → ℕ → Type 0
WholeTo n bytes end = (entries : ℕ) × (end ≡ place n entries) × ((i : ℕ) → i < entries → is_whole n bytes i ≡ true)

pub whole_none : (n : ℕ) (bytes : List ℕ) → WholeTo n bytes 0
whole_none n bytes = (0, (let e : 0 ≡ place n 0 = omega arith in e), λ i lt. absurd (let no : ⊥ = omega (arith, lt) in no))

-- one entry more
pub whole_one : (n end : ℕ) (bytes : List ℕ) → WholeTo n bytes end → get_or bytes end 0 ≡ 1 → end + (n + 1) < length bytes → WholeTo n bytes (end + (n + 1))
whole_one n end bytes to open_gate room = (to.0 + 1, next ∙ sym (place_next n to.0), whole) where
  next : end + (n + 1) ≡ place n to.0 + (n + 1)
  next = ap (λ (k : ℕ). k + (n + 1)) to.1

  here : is_whole n bytes to.0 ≡ true
  here = is_whole_by n bytes to.0 (ap (λ (k : ℕ). get_or bytes k 0) (sym to.1) ∙ open_gate) (omega (arith, room, to.1, place_next n to.0))

  whole : (i : ℕ) → i < to.0 + 1 → is_whole n bytes i ≡ true
  whole i lt = elim (cases_lt i to.0) [
    | inl before ↦ to.2 i before
    | inr from ↦ let e : to.0 ≡ i = omega (arith, lt, from) in subst (λ (k : ℕ). is_whole n bytes k ≡ true) e here
  ]

-- and none
pub whole_all : (n end : ℕ) (bytes : List ℕ) → WholeTo n bytes end → ((get_or bytes end 0 ≡ 1) × (end + (n + 1) < length bytes) → ⊥) → end ≡ place n (count n bytes)
whole_all n end bytes to stops = to.1 ∙ ap (place n) (sym (count_is n bytes to.0 to.2 stopped)) where
  stopped : is_whole n bytes to.0 ≡ false
  stopped = elim (cases_Bool (is_whole n bytes to.0)) [
    | inl whole ↦ absurd (stops (ap (λ (k : ℕ). get_or bytes k 0) to.1 ∙ gate_of_whole n bytes to.0 whole, (let end_at = end_of_whole n bytes to.0 whole in omega (arith, end_at, to.1, place_next n to.0))))
    | inr not_whole ↦ not_whole
  ]

-- what a piece shows of the entries after it
pub is_more : (n room : ℕ) (rest : List ℕ) → n + 1 < room ⊎ length rest ≤ room → IsMore n rest (place n (count n (take room rest)))
is_more n room rest enough = record {
  entries = count n (take room rest);
  takes = refl;
  whole = λ i lt. whole_of_part n room i rest (count_passes n (take room rest) i lt);
  ends = λ none. elim (cases_Bool (is_whole n rest 0)) [
    | inl whole ↦ absurd (both_ways (is_whole n (take room rest) 0) (subst (λ (m : ℕ). is_whole n (take room rest) m ≡ false) none (count_stops n (take room rest))) (first_in_part n room rest enough whole))
    | inr not_whole ↦ not_whole
  ];
}

pub length_by : (file : Option (List ℕ)) (total : ℕ) → size_of file ≡ Some total → length (bytes_of file) ≡ total
length_by (Some bytes) total is = cc
length_by None total is = absurd (let no : ⊥ = cc in no)

-- what was read into a buffer of this many bytes
module _ (n at total most count seen : ℕ) (bytes old buf : List ℕ) (long : length bytes ≡ total) (wide : n + 1 < most)
    (counted : count ≡ length (piece bytes at most)) (is : buf ≡ piece bytes at most ++ drop count old) (within : seen ≡ min count (total - at)) where
  seen_all : seen ≡ length (piece bytes at most)
  seen_all = omega (arith, within, counted, long, length-take most (drop at bytes), length-drop at bytes)

  seen_piece : take seen buf ≡ piece bytes at most
  seen_piece = ap (take seen) is ∙ take_at (piece bytes at most) (drop count old) seen (sym seen_all)

  pub seen_more : (more : ℕ) → more ≡ place n (Entries.count n (take seen buf)) → IsMore n (drop at bytes) more
  seen_more more takes = subst (λ (k : ℕ). IsMore n (drop at bytes) k) (sym (takes ∙ ap (λ (b : List ℕ). place n (Entries.count n b)) seen_piece)) (is_more n most (drop at bytes) (inl wide))

-- the entries that a piece showed, after those before it
pub whole_more : (n end more : ℕ) (bytes : List ℕ) → WholeTo n bytes end → IsMore n (drop end bytes) more → WholeTo n bytes (end + more)
whole_more n end more bytes to is = (to.0 + is.entries, ends, whole) where
  rest_is : drop end bytes ≡ drop (place n to.0) bytes
  rest_is = ap (λ (k : ℕ). drop k bytes) to.1

  ends : end + more ≡ place n (to.0 + is.entries)
  ends = let e : place n to.0 + place n is.entries ≡ place n (to.0 + is.entries) = omega arith in omega (arith, e, to.1, is.takes)

  whole : (i : ℕ) → i < to.0 + is.entries → is_whole n bytes i ≡ true
  whole i lt = elim (cases_lt i to.0) [
    | inl before ↦ to.2 i before
    | inr from ↦
        let e : to.0 + (i - to.0) ≡ i = omega (arith, from) in
        subst (λ (k : ℕ). is_whole n bytes k ≡ true) e
        (whole_before n to.0 (i - to.0) bytes (subst (λ (b : List ℕ). is_whole n b (i - to.0) ≡ true) rest_is (is.whole (i - to.0) (omega (arith, lt, from)))))
  ]

-- and none where a piece showed none
pub whole_last : (n end more : ℕ) (bytes : List ℕ) → WholeTo n bytes end → IsMore n (drop end bytes) more → more ≡ 0 → end ≡ place n (count n bytes)
whole_last n end more bytes to is none = to.1 ∙ ap (place n) (sym (count_is n bytes to.0 to.2 stopped)) where
  no_entry : is.entries ≡ 0
  no_entry = omega (arith, none, is.takes, entry_le_place n is.entries)

  first : is_whole n (drop (place n to.0) bytes) 0 ≡ false
  first = subst (λ (k : ℕ). is_whole n (drop k bytes) 0 ≡ false) to.1 (is.ends no_entry)

  stopped : is_whole n bytes to.0 ≡ false
  stopped = elim (cases_Bool (is_whole n bytes to.0)) [
    | inl whole ↦
        let e : to.0 + 0 ≡ to.0 = omega arith in
        absurd (both_ways (is_whole n (drop (place n to.0) bytes) 0) first (whole_dropped n to.0 0 bytes (subst (λ (k : ℕ). is_whole n bytes k ≡ true) (sym e) whole)))
    | inr not_whole ↦ not_whole
  ]

-- and at the end of the file
pub whole_past : (n end : ℕ) (bytes : List ℕ) → WholeTo n bytes end → length bytes ≤ end → end ≡ place n (count n bytes)
whole_past n end bytes to past = to.1 ∙ ap (place n) (sym (count_is n bytes to.0 to.2 (not_whole_short n bytes to.0 (omega (arith, past, to.1, place_next n to.0)))))

-- no call
pub reads_none : (disk : DiskView) → OnlyNow disk → OnlyReads disk disk
reads_none disk only_now = record { unchanged = started (λ _. ⊥) (λ _. Unit {0}) disk only_now (λ _ _. tt); counts = record { writes = λ f. refl; syncs = λ f. refl } }

-- calls that read, and one more
pub reads_more : (old mid new : DiskView) → OnlyNow mid → OnlyNow new → OnlyReads old mid → OneRead mid new → OnlyReads old new
reads_more old mid new only_mid only_new reads read = reads_trans old mid new reads (one_read mid new read only_mid only_new)

pub more_of_old : (n end more : ℕ) (f : FileId) (old mid : DiskView) → OnlyReads old mid → IsMore n (drop end (bytes_of (mid.reads f))) more → IsMore n (drop end (bytes_of (old.reads f))) more
more_of_old n end more f old mid reads is = subst (λ (c : Option (List ℕ)). IsMore n (drop end (bytes_of c)) more) (unchanged_reads old mid reads.unchanged f) is

-- the body before the end of the entries
pub body_read : (n end cut : ℕ) (bytes old buf : List ℕ) → 0 < n → end ≡ place n (count n bytes) → n ≤ end → cut ≡ length (piece bytes (end - n) n) → buf ≡ piece bytes (end - n) n ++ drop cut old → length old ≡ n → Some buf ≡ last_of n bytes (count n bytes)
body_read n end cut bytes old buf some ends room cut_is is long = at_count (count n bytes) ends (count_within n bytes) where
  at_count : (m : ℕ) → end ≡ place n m → place n m ≤ length bytes → Some buf ≡ last_of n bytes m
  at_count zero e within = absurd (let no : ⊥ = omega (arith, e, room, some) in no)
  at_count (suc before) e within =
      let from : end - n ≡ place n before + 1 = omega (arith, e) in
      let whole : length (piece bytes (end - n) n) ≡ n = omega (arith, e, within, length-take n (drop (end - n) bytes), length-drop (end - n) bytes) in
      let none : drop cut old ≡ [] = drop_all cut old (omega (arith, whole, cut_is, long)) in
      ap (λ (b : List ℕ). Some b) (is ∙ ap (λ (b : List ℕ). piece bytes (end - n) n ++ b) none ∙ append-nil (piece bytes (end - n) n) ∙ ap (λ (k : ℕ). piece bytes k n) from)
