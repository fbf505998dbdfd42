-- A cut: what it commits, and what stands at each moment.
use Rattle.std.proofs.Common.{◌≡◌, ℕ, zero, suc, ◌<◌, ◌≤◌, ◌^◌, List, [], ◌∷◌, All, length, map, Option, Some, None, sym, ◌∙◌, ap, subst, arith}
use Rattle.std.specs.Prelude.{slice_index, unwrap_or}
use Rattle.std.proofs.lemmas.List.Elements.{All-nil, All-cons, All-head, All-tail}
use Rattle.lsv_disk.specs.declared.file.Owner.{Owner}
use Rattle.lsv_disk.specs.declared.file.Part.{Part}
use Rattle.lsv_disk.specs.declared.file.Part.TheVariants.{Head, Exit, Timing, Stdin, Stdout, Stderr, Ttyin, Ttyout}
use Rattle.lsv_disk.specs.Files.{file_of}
use Rattle.lsv_disk.specs.Throughout.{Throughout}
use Rattle.lsv_disk.specs.View.{DiskView, IsCrashImage}
use Rattle.lsv_bundle.specs.declared.body.Body.{Body}
use Rattle.lsv_bundle.specs.declared.shape.Shape.{Shape}
use Rattle.lsv_bundle.specs.declared.shape.Shape.TheVariants as shapes
use Rattle.lsv_bundle.specs.declared.view.View.{View}
use Rattle.lsv_bundle.specs.Body.{length_of}
use Rattle.lsv_bundle.specs.Committed.{Committed, HoldsEntry, IsBeforeOrAfter, prefix_at, committed, committed_cut}
use Rattle.lsv_bundle.specs.Shape.{IsPart, eight, index_of, journal_of}
use Rattle.lsv_bundle.specs.Value.{BundleView, committed_length, cut_body, lengths_of, IsCommitted}
use Rattle.lsv_bundle.proofs.Laws.{represents_holds}
use Rattle.lsv_record.specs.declared.laid.Laid.{Laid}
use Rattle.lsv_record.specs.declared.records.Record.{Record}
use Rattle.lsv_record.specs.declared.records.Shaped.{Shaped}
use Rattle.lsv_record.specs.Records.{shape_of, timing_of, IsGood, IsValid}
use Rattle.lsv_record.specs.Tally.{Totals, lines_of, told_elapsed}
use Rattle.lsv_record.proofs.Tallies.{lines_are_timing, lines_tell_time}
use Rattle.lsv_iolog.specs.Recovered.{owner_of}
use Rattle.lsv_iolog.specs.Value.{IoLogView, LogValue}
use Rattle.lsv_iolog.specs.Represents.{Represents}
use Rattle.lsv_iolog.specs.Inner.Invariant.{IsSettled}
use Rattle.lsv_iolog.specs.Inner.Cutting.{length_behind, last_of, entry_behind}
use Rattle.lsv_iolog.specs.Inner.Scanning.{text_of}
use Rattle.lsv_iolog.proofs.Flushing.{entry_body, entry_bytes}
use Rattle.lsv_iolog.proofs.Representing.{holds_as}

-- no length grows
pub none_grows : (body : Body) (kept : Totals) (b : BundleView) → ((part : Part) → IsPart shapes.Log part → length_of body part ≡ committed_length b part)
    → (index : ℕ) → slice_index (eight shapes.Log (length_behind body kept)) index ≤ slice_index (lengths_of b) index
none_grows body kept b same zero = let e = same Head tt in omega (arith, e)
none_grows body kept b same (suc zero) = let e = same Exit tt in omega (arith, e)
none_grows body kept b same (suc (suc zero)) = let e = same Timing tt in omega (arith, e)
none_grows body kept b same (suc (suc (suc zero))) = let e = same Stdin tt in omega (arith, e)
none_grows body kept b same (suc (suc (suc (suc zero)))) = let e = same Stdout tt in omega (arith, e)
none_grows body kept b same (suc (suc (suc (suc (suc zero))))) = let e = same Stderr tt in omega (arith, e)
none_grows body kept b same (suc (suc (suc (suc (suc (suc zero)))))) = let e = same Ttyin tt in omega (arith, e)
none_grows body kept b same (suc (suc (suc (suc (suc (suc (suc zero))))))) = let e = same Ttyout tt in omega (arith, e)
none_grows body kept b same (suc (suc (suc (suc (suc (suc (suc (suc k)))))))) = omega arith

-- the last entry by the answer of a call
pub last_is : (b : BundleView) (body : Body) → b.last ≡ Some body → last_of b ≡ body
last_is b body e = ap (λ (o : Option Body). unwrap_or o (record { kind = 0; count = 0; elapsed = 0; lens = []; extra = 0 })) e

-- the entry of a cut, by the numbers that it was given
pub entry_is : (b : BundleView) (disk : DiskView) (body : Body) (kept : Totals) (lens : List ℕ) (count time cuts : ℕ) → b.last ≡ Some body → lens ≡ eight shapes.Log (length_behind body kept) → count ≡ kept.count → time ≡ kept.elapsed
    → committed_cut b disk lens count time cuts ≡ entry_behind b disk kept cuts
entry_is b disk body kept lens count time cuts last lengths counts times =
    ap (λ (ls : List ℕ). committed_cut b disk ls count time cuts) (lengths ∙ ap (λ (x : Body). eight shapes.Log (length_behind x kept)) (sym (last_is b body last)))
    ∙ ap (λ (n : ℕ). committed_cut b disk (eight shapes.Log (length_behind (last_of b) kept)) n time cuts) counts
    ∙ ap (λ (n : ℕ). committed_cut b disk (eight shapes.Log (length_behind (last_of b) kept)) kept.count n cuts) times

pub cut_run : (b : BundleView) (old new : DiskView) (entry next : Committed) → entry ≡ next
    → Throughout (λ f. f ≡ journal_of b.owner) (IsBeforeOrAfter b.owner b.shape (committed b old) (Some entry)) old new → Throughout (λ f. f ≡ journal_of b.owner) (IsBeforeOrAfter b.owner b.shape (committed b old) (Some next)) old new
cut_run b old new entry next same run = subst (λ (c : Committed). Throughout (λ f. f ≡ journal_of b.owner) (IsBeforeOrAfter b.owner b.shape (committed b old) (Some c)) old new) same run

-- the files after a cut
pub settled_cut : (n : ℕ) (old new : BundleView) (lens : List ℕ) (count time cuts : ℕ) → old.owner ≡ owner_of n → old.shape ≡ shapes.Log → IsCommitted (cut_body lens count time cuts) (λ part. slice_index lens (index_of part)) old new → IsSettled n (cut_body lens count time cuts) new
settled_cut n old new lens count time cuts owner shape value = record {
  files = record {
    owner = value.owner ∙ owner;
    shape = value.shape ∙ shape;
    entry = λ none. some_none (cut_body lens count time cuts) (sym value.last ∙ none);
    lengths = λ body is part of.
        ap (λ (b : Body). length_of b part) (some_body body (cut_body lens count time cuts) (sym is ∙ value.last))
        ∙ sym (value.lengths_are part (subst (λ (s : Shape). IsPart s part) (sym shape) of));
  };
  last = value.last;
  none_staged = value.none_staged;
  whole = value.whole;
} where
  some_none : (b : Body) → Some b ≡ None → ⊥
  some_none b e = cc

  some_body : (a b : Body) → Some a ≡ Some b → a ≡ b
  some_body a b e = cc

-- a represented log's timing
module _ (log : IoLogView) (value : LogValue) (disk : DiskView) (body : Body) (at : Represents log value disk) (last : log.bundle.last ≡ Some body) where
  view : View
  view = record { owner = owner_of log.number; shape = shapes.Log; body = body }

  is_part : (part : Part) → IsPart shapes.Log part → IsPart log.bundle.shape part
  is_part part of = subst (λ (s : Shape). IsPart s part) (sym at.shape) of

  pub part_text : (part : Part) → IsPart shapes.Log part → text_of (record { owner = owner_of log.number; shape = shapes.Log; body = body }) disk part ≡ at.entry.bytes part
  part_text part of =
      ap (λ (o : Owner). prefix_at disk (file_of o part) (length_of body part)) (sym at.owner)
      ∙ ap (λ (k : ℕ). prefix_at disk (file_of log.bundle.owner part) k) (at.bundle.lengths body last part (is_part part of))
      ∙ sym (entry_bytes log.bundle disk at.entry at.shape at.committed part of)

  pub timing_text : text_of (record { owner = owner_of log.number; shape = shapes.Log; body = body }) disk Timing ≡ timing_of value.stored.records
  timing_text = part_text Timing tt ∙ ap (λ (l : Laid). l.timing) at.is.layout

  body_is : at.entry.body ≡ body
  body_is = some_body at.entry.body body (sym (entry_body log.bundle disk at.entry at.committed) ∙ last) where
    some_body : (a b : Body) → Some a ≡ Some b → a ≡ b
    some_body a b e = cc

  pub part_long : IsCrashImage disk disk.reads → (part : Part) → IsPart shapes.Log part → length (at.entry.bytes part) ≡ length_of body part
  part_long reads part of =
      let holds : HoldsEntry (owner_of log.number) shapes.Log at.entry disk.reads = holds_as log.bundle.owner (owner_of log.number) log.bundle.shape shapes.Log (committed log.bundle disk) (Some at.entry) disk.reads at.owner at.shape at.committed
      (represents_holds log.bundle disk at.bundle disk.reads (λ f own. reads f)) in
      holds.lengths part of ∙ ap (λ (b : Body). length_of b part) body_is

  -- no line of it is bad
  pub no_bad_line : IsCrashImage disk disk.reads
      → (length (text_of (record { owner = owner_of log.number; shape = shapes.Log; body = body }) disk Timing) ≡ length_of body Timing → (told : List Shaped) → All IsGood told → text_of (record { owner = owner_of log.number; shape = shapes.Log; body = body }) disk Timing ≡ lines_of told
      → told_elapsed told < 2 ^ 63 → length (text_of (record { owner = owner_of log.number; shape = shapes.Log; body = body }) disk Timing) ≤ 2 ^ 40 → ⊥) → ⊥
  no_bad_line reads bad =
      let text = part_text Timing tt in
      bad (ap length text ∙ part_long reads Timing tt) (map shape_of value.stored.records) (all_good value.stored.records at.is.valid)
      (timing_text ∙ sym (lines_are_timing value.stored.records))
      (subst (λ (n : ℕ). n < 2 ^ 63) (sym (lines_tell_time value.stored.records)) at.is.in_time)
      (subst (λ (xs : List ℕ). length xs ≤ 2 ^ 40) (sym text) at.is.small)
    where
      all_good : (rs : List Record) → All IsValid rs → All IsGood (map shape_of rs)
      all_good [] good = All-nil IsGood
      all_good (r ∷ rs) good = All-cons IsGood (shape_of r) (map shape_of rs) (All-head IsValid r rs good) (all_good rs (All-tail IsValid r rs good))
