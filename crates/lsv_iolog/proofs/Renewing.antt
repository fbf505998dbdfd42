-- A log that is looked at again, and is a later state of what it was.
use Rattle.std.proofs.Common.{◌≡◌, ◌≤◌, inl, inr, ℕ, ◌<◌, ◌^◌, List, [], ◌++◌, length, take, map, All, Option, Some, None, refl, sym, ◌∙◌, ap, subst, arith, append_assoc}
use Rattle.std.proofs.lemmas.List.{take_at}
use Rattle.std.proofs.lemmas.List.Elements.{All-take}
use Rattle.lsv_disk.specs.Bytes.{bytes_of}
use Rattle.lsv_disk.specs.Files.{file_of}
use Rattle.lsv_disk.specs.declared.file.Part.{Part}
use Rattle.lsv_disk.specs.declared.file.Part.TheVariants.{Timing}
use Rattle.lsv_disk.specs.Throughout.{OnlyReads}
use Rattle.lsv_disk.specs.View.{Image, DiskView}
use Rattle.lsv_disk.proofs.Composition.{unchanged_reads}
use Rattle.lsv_bundle.specs.declared.body.Body.{Body}
use Rattle.lsv_bundle.specs.declared.shape.Shape.TheVariants as shapes
use Rattle.lsv_bundle.specs.Body.{encoded, length_of}
use Rattle.lsv_bundle.specs.Committed.{HasPrefix, HasEntry}
use Rattle.lsv_bundle.specs.Shape.{IsPart}
use Rattle.lsv_bundle.proofs.Laws.{one_body}
use Rattle.lsv_info.specs.declared.times.Head as info
use Rattle.lsv_record.specs.declared.laid.Laid.{Laid}
use Rattle.lsv_record.specs.declared.records.Record.{Record}
use Rattle.lsv_record.specs.declared.records.Stream.{Stream}
use Rattle.lsv_record.specs.declared.records.Stream.TheVariants.{Stdin, Stdout, Stderr, Ttyin, Ttyout}
use Rattle.lsv_record.specs.Layout.{Begins, layout_of, stream_in}
use Rattle.lsv_record.specs.Points.{Stored}
use Rattle.lsv_record.specs.Records.{IsValid, shape_of, timing_of, stream_of, elapsed}
use Rattle.lsv_record.specs.Tally.{Totals, totals_of}
use Rattle.lsv_record.proofs.Layouts.{timing_of-append, stream_of-append, elapsed-append}
use Rattle.lsv_iolog.specs.Recovered.{owner_of, HoldsLog}
use Rattle.lsv_iolog.specs.Later.{IsLater}
use Rattle.lsv_iolog.specs.Reading.{AreThere, ViewState, committed_text, committed_laid, IsWindowOf, IsBehind, IsPlaced}
use Rattle.lsv_iolog.proofs.Replaying.{same_laid}
use Rattle.lsv_iolog.proofs.Giving.{tally_timing, prefix_less}
use Rattle.lsv_iolog.proofs.Viewing.{all_there}
use Rattle.lsv_iolog.proofs.Windows.{window_none}

-- a file that begins with as many bytes
prefix_taken : (xs : List ℕ) (file : Option (List ℕ)) (n : ℕ) → length xs ≡ n → HasPrefix xs file → take n (bytes_of file) ≡ xs
prefix_taken xs None n long is = absurd is
prefix_taken xs (Some bytes) n long is = ap (take n) is.1 ∙ take_at xs is.0 n long

some_bytes : (a b : List ℕ) → Some a ≡ Some b → a ≡ b
some_bytes a b e = cc

-- the stored log's entry is the view's
same_body : (n : ℕ) (body : Body) (now : Stored) (image : Image) → HasEntry (owner_of n) body image → (is : HoldsLog n now image) → is.entry.body ≡ body
same_body n body now image entry is = one_body is.entry.body body is.holds.is_body entry.is_body (some_bytes (encoded is.entry.body) (encoded body) (sym is.holds.last ∙ entry.last))

-- and so are its bytes
same_text : (n : ℕ) (body : Body) (now : Stored) (old new : DiskView) → HasEntry (owner_of n) body old.reads → OnlyReads old new → (is : HoldsLog n now old.reads) → (part : Part) → IsPart shapes.Log part → committed_text n body new part ≡ is.entry.bytes part
same_text n body now old new entry reads is part own =
    ap (λ (o : Option (List ℕ)). take (length_of body part) (bytes_of o)) (unchanged_reads old new reads.unchanged (file_of (owner_of n) part))
    ∙ prefix_taken (is.entry.bytes part) (old.reads (file_of (owner_of n) part)) (length_of body part)
    (is.holds.lengths part own ∙ ap (λ (b : Body). length_of b part) (same_body n body now old.reads entry is)) (is.holds.bytes part own)

committed_layout : (n : ℕ) (body : Body) (now : Stored) (old new : DiskView) → HasEntry (owner_of n) body old.reads → OnlyReads old new → HoldsLog n now old.reads → committed_laid n body new ≡ layout_of now.records
committed_layout n body now old new entry reads is = same_laid (committed_text n body new) is.entry.bytes (λ part own. same_text n body now old new entry reads is part own) ∙ is.is.layout

layout_stream : (rs : List Record) (s : Stream) → stream_in s (layout_of rs) ≡ stream_of s rs
layout_stream rs Stdin = refl
layout_stream rs Stdout = refl
layout_stream rs Stderr = refl
layout_stream rs Ttyin = refl
layout_stream rs Ttyout = refl

-- a layout begins with a prefix of its records
layout_begins : (all rs rest : List Record) → all ≡ rs ++ rest → All IsValid all → elapsed all < 2 ^ 63 → Begins (layout_of all) rs
layout_begins all rs rest is valid in_time = record {
  valid = subst (All IsValid) (ap (take (length rs)) is ∙ take_at rs rest (length rs) refl) (All-take IsValid (length rs) all valid);
  time = let a = ap elapsed is in let b = elapsed-append rs rest in omega (arith, a, b, in_time);
  timing = (timing_of rest, ap timing_of is ∙ timing_of-append rs rest);
  streams = λ s. (stream_of s rest, layout_stream all s ∙ ap (stream_of s) is ∙ stream_of-append s rs rest);
}

-- with as many cuts the later state goes on after the earlier one
goes_on : (was now : Stored) (rs more : List Record) → was.records ≡ rs ++ more → was.cuts ≡ now.cuts → IsLater was now → (rest : List Record) × (now.records ≡ rs ++ rest)
goes_on was now rs more is cuts later = elim later [
  | inl cut ↦ absurd (let no_ : ⊥ = omega (arith, cut, cuts) in no_)
  | inr same ↦ (more ++ same.1.0, same.1.1 ∙ ap (λ (l : List Record). l ++ same.1.0) is ∙ append_assoc rs more same.1.0)
]

-- a view that reads on after the records that were given
pub later_behind : (view : ViewState) (old new : DiskView) (was now : Stored) (rs more : List Record) → HasEntry (owner_of view.number) view.body old.reads → OnlyReads old new
    → AreThere (owner_of view.number) view.body new.reads
    → was.records ≡ rs ++ more → was.cuts ≡ view.body.extra → HoldsLog view.number now old.reads → IsLater was now → view.given ≡ totals_of (map shape_of rs) → view.start ≡ view.given.timing → view.window ≡ [] → IsBehind view rs new
later_behind view old new was now rs more entry reads there is cuts holds later given start window = record {
  begins = begins;
  given = given;
  there = there;
  window = subst (λ (w : List ℕ). IsWindowOf text view.start w view.given.timing) (sym window) (subst (λ (k : ℕ). IsWindowOf text k [] view.given.timing) (sym start)
      (window_none text view.given.timing (let a = tally_timing view.given rs given in let b = prefix_less (timing_of rs) text begins.timing in omega (arith, a, b))));
} where
  text : List ℕ
  text = committed_text view.number view.body new Timing

  same_cuts : was.cuts ≡ now.cuts
  same_cuts = cuts ∙ ap (λ (b : Body). b.extra) (sym (same_body view.number view.body now old.reads entry holds)) ∙ holds.is.cuts

  rest : (rest : List Record) × (now.records ≡ rs ++ rest)
  rest = goes_on was now rs more is same_cuts later

  begins : Begins (committed_laid view.number view.body new) rs
  begins = subst (λ (l : Laid). Begins l rs) (sym (committed_layout view.number view.body now old new entry reads holds)) (layout_begins now.records rs rest.0 rest.1 holds.is.valid holds.is.in_time)

-- a view that reads on where as many bytes of timing are committed as were given
pub placed_anew : (n : ℕ) (head : info.Head) (body : Body) (given : Totals) (disk : DiskView) → AreThere (owner_of n) body disk.reads → given.timing ≤ length_of body Timing
    → IsPlaced (record { number = n; head = head; body = body; given = given; start = given.timing; window = [] }) disk
placed_anew n head body given disk there enough = record {
  there = there;
  window = window_none (committed_text n body disk Timing) given.timing
      (let long = all_there (disk.reads (file_of (owner_of n) Timing)) (length_of body Timing) (there Timing tt) in omega (arith, long, enough));
}
