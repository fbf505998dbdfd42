-- A log is finished: the text of its exit is staged after its records, and one entry commits all.
use Rattle.std.proofs.Common.{◌≡◌, ◌≢◌, ℕ, ◌+◌, Bool, true, false, List, [], ◌∷◌, ◌++◌, length, Option, Some, None, refl, sym, ◌∙◌, ap, subst, arith, length-append}
use Rattle.std.specs.Prelude.{◌==◌}
use Rattle.std.specs.Option.{option_map_or}
use Rattle.lsv_disk.specs.declared.file.Part.{Part}
use Rattle.lsv_disk.specs.declared.file.Part.TheVariants.{Head, Exit, Timing, Stdin, Stdout, Stderr, Ttyin, Ttyout}
use Rattle.lsv_disk.specs.Throughout.{Throughout}
use Rattle.lsv_disk.specs.View.{DiskView}
use Rattle.lsv_bundle.specs.declared.body.Body.{Body}
use Rattle.lsv_bundle.specs.declared.shape.Shape.TheVariants as shapes
use Rattle.lsv_bundle.specs.Represents as bundles
use Rattle.lsv_bundle.specs.Shape.{IsPart, IsWritable}
use Rattle.lsv_bundle.specs.Value.{BundleView, committed_length, staged, next_length, IsStaged, IsCommitted}
use Rattle.lsv_bundle.specs.Committed.{IsBeforeOrAfter, committed, committed_as}
use Rattle.lsv_bundle.proofs.Laws.{staging_lengths, staging_committed}
use Rattle.lsv_info.specs.declared.times.Exit as info
use Rattle.lsv_info.specs.Layout.{exit_text}
use Rattle.lsv_iolog.specs.Recovered.{IsOfLog, laid_in, HasExit, IsLog}
use Rattle.lsv_iolog.specs.Moments.{IsEither}
use Rattle.lsv_iolog.specs.Value.{IoLogView, LogValue, is_complete, bare, finished, SameCounts}
use Rattle.lsv_iolog.specs.Represents.{Represents}
use Rattle.lsv_iolog.specs.Inner.Invariant.{IsIoLog}
use Rattle.lsv_iolog.specs.Inner.Next.{next_entry}
use Rattle.lsv_iolog.proofs.Staging.{of_log}
use Rattle.lsv_iolog.proofs.Flushing.{entry_body, next_log, next_moment, next_represents}

-- the log with other files
abbrev pub with_files : IoLogView → BundleView → IoLogView
with_files log files = record { number = log.number; head = log.head; count = log.count; elapsed = log.elapsed; is_broken = log.is_broken; bundle = files }

some_entry : (kind : ℕ) (bytes : List ℕ) (exit : Option (List ℕ)) → HasExit kind bytes exit → (kind == 3) ≡ false → exit ≡ None
some_entry kind bytes None has other = refl
some_entry kind bytes (Some t) has other = absurd (not_both ((kind == 3)) other (subst (λ (k : ℕ). (k == 3) ≡ true) (sym has.0) refl)) where
  not_both : (b : Bool) → b ≡ false → b ≡ true → ⊥
  not_both b x y = cc

-- a log that isn't complete has no exit
pub going_exit : (log : IoLogView) (value : LogValue) (disk : DiskView) → Represents log value disk → is_complete log ≡ false → value.stored.exit ≡ None
going_exit log value disk at going =
    some_entry at.entry.body.kind (at.entry.bytes Exit) value.stored.exit at.is.exit
    (ap (λ (o : Option Body). option_map_or (λ (b : Body). b.kind == 3) o false) (sym (entry_body log.bundle disk at.entry at.committed)) ∙ going)

line_some : (xs : List ℕ) → xs ++ 10 ∷ [] ≢ []
line_some xs none = absurd (let no_ : ⊥ = omega (arith, ap length none, length-append xs (10 ∷ [])) in no_)

-- a text of an exit has its line feed
pub exit_some : (exit : info.Exit) → exit_text exit ≢ []
unfolding exit_text
exit_some exit none = search line_some

-- the exit's text is staged
module _ (log : IoLogView) (c : BundleView) (bytes : List ℕ) (shape : log.bundle.shape ≡ shapes.Log) (is : IsStaged Exit (staged log.bundle Exit ++ bytes) log.bundle c) where
  others : (part : Part) → IsPart shapes.Log part → part ≢ Exit → staged c part ≡ staged log.bundle part
  others part of other = is.others part (of_log log.bundle part shape of) other

  pub timing_as : staged c Timing ≡ staged log.bundle Timing
  timing_as = others Timing tt (λ e. cc)

  pub next_as : next_length c Timing ≡ next_length log.bundle Timing
  next_as = ap (λ (k : ℕ). k + length (staged c Timing)) (staging_lengths log.bundle c is.same Timing) ∙ ap (λ (xs : List ℕ). committed_length log.bundle Timing + length xs) timing_as

  pub shape_as : c.shape ≡ shapes.Log
  shape_as = ap (λ (v : BundleView). v.shape) is.same ∙ shape

  laid_as : laid_in (staged c) ≡ laid_in (staged log.bundle)
  laid_as = λ i. record {
    timing = timing_as i;
    stdin = others Stdin tt (λ e. cc) i;
    stdout = others Stdout tt (λ e. cc) i;
    stderr = others Stderr tt (λ e. cc) i;
    ttyin = others Ttyin tt (λ e. cc) i;
    ttyout = others Ttyout tt (λ e. cc) i;
  }

  -- which leaves true what is true of every log
  pub exit_invariant : IsIoLog log → IsIoLog (with_files log c)
  exit_invariant inv = record {
    files = record {
      owner = ap (λ (v : BundleView). v.owner) is.same ∙ inv.files.owner;
      shape = shape_as;
      entry = λ none. inv.files.entry (sym (ap (λ (v : BundleView). v.last) is.same) ∙ none);
      lengths = λ body last part of. inv.files.lengths body (sym (ap (λ (v : BundleView). v.last) is.same) ∙ last) part of ∙ sym (staging_lengths log.bundle c is.same part);
    };
    whole = λ whole. ap (λ (v : BundleView). v.is_broken) is.same ∙ inv.whole whole;
    time = inv.time;
    lines = let lines = inv.lines in omega (arith, next_as, lines);
    small = let small = inv.small in omega (arith, next_as, small);
  }

  -- what is committed with it is the finished log
  pub finish_log : (value : LogValue) (disk : DiskView) → Represents log value disk → value.stored.exit ≡ None → bytes ≢ [] → IsLog (committed_as c disk (next_entry (with_files log c) 3)) (finished value bytes)
  finish_log value disk at going some =
      next_log c disk at.entry value.stored value.staged 3 log.count log.elapsed (Some bytes) bytes shape_as (staging_committed log.bundle c disk is.same ∙ at.committed) at.is going
      (laid_as ∙ at.staged.layout) (others Head tt (λ e. cc) ∙ at.staged.head) (is.staged_is ∙ ap (λ (xs : List ℕ). xs ++ bytes) at.staged.exit) (refl, refl, some) at.valid at.count at.time at.in_time
      (let small = at.small in omega (arith, next_as, small))

  pub finish_moment : (value : LogValue) (old new : DiskView) → Represents log value old → value.stored.exit ≡ None → bytes ≢ []
      → Throughout (IsWritable c.owner c.shape) (IsBeforeOrAfter c.owner c.shape (committed c old) (Some (committed_as c old (next_entry (with_files log c) 3)))) old new
      → Throughout (IsOfLog log.number) (IsEither log.number (Some value.stored) (Some (finished value bytes))) old new
  finish_moment value old new at going some run =
      next_moment log.number c value.stored (finished value bytes) old new at.entry (committed_as c old (next_entry (with_files log c) 3)) (ap (λ (v : BundleView). v.owner) is.same ∙ at.owner) shape_as
      (staging_committed log.bundle c old is.same ∙ at.committed) at.is (finish_log value old at going some) run

  pub finish_represents : (new : IoLogView) (value : LogValue) (before disk : DiskView) → SameCounts log new → Represents log value before → value.stored.exit ≡ None → bytes ≢ [] → new.is_broken ≡ false
      → IsCommitted (next_entry (with_files log c) 3) (next_length c) c new.bundle → committed new.bundle disk ≡ Some (committed_as c before (next_entry (with_files log c) 3)) → bundles.Represents new.bundle disk → Represents new (bare (finished value bytes)) disk
  finish_represents new value before disk counts at going some whole value_is has represents =
      next_represents (with_files log c) new value (finished value bytes) 3 before disk whole (record { number = counts.number; head = counts.head; count = counts.count; elapsed = counts.elapsed })
      (ap (λ (v : BundleView). v.owner) is.same ∙ at.owner) shape_as (let small = at.small in omega (arith, next_as, small)) at.head at.count at.time refl refl value_is (finish_log value before at going some) has represents
