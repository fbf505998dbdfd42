-- A whole run of the program.
use Rattle.std.proofs.Common.{◌≡◌, ◌∙◌, ◌≤◌, inl, inr, ℕ, List, Option, Result, Ok, Err, true, false, refl, sym, subst, arith}
use Rattle.std.proofs.Math.Path.{fun_ext}
use Rattle.lsv_base.specs.LogNo.{log_no_in}
use Rattle.lsv_disk.specs.declared.file.FileId.{FileId}
use Rattle.lsv_disk.specs.Throughout.{OnlyReads}
use Rattle.lsv_disk.specs.View.{DiskView, HasOwnCause, Image, IsUntouched, Places}
use Rattle.lsv_disk.proofs.Composition.{OnlyNow, unchanged_reads}
use Rattle.lsv_send_args.specs.Request.{Asked}
use Rattle.lsv_send_args.specs.Request as requests
use Rattle.lsv_send_args.specs.declared.fault.Unfit.{Unfit}
use Rattle.lsv_send.specs.Disk.{IsOfSomeLog, IsOnlyRead}
use Rattle.lsv_send.specs.Sending.{Outcome, Runs, SendsNumber}
use Rattle.lsv_send.specs.Words.{Asks, IsUsage}
use Rattle.lsv_send.specs.declared.status.SendStatus.{SendStatus}

-- ---- the words

-- words that are no command ask for nothing
pub asks_not : (line : List (List ℕ)) (asked : Asked) → Asks line asked → IsUsage line → ⊥
asks_not line asked asks (inl not_text) = let no : true ≡ false = sym asks.text ∙ not_text in cc
asks_not line asked asks (inr (inl refused)) = refused asks.taken
asks_not line asked asks (inr (inr (unfit, is))) = let no : Ok asked ≡ Err unfit = sym asks.asks ∙ is in cc

pub one_asked : (line : List (List ℕ)) (a b : Asked) → Asks line a → Asks line b → a ≡ b
one_asked line a b one two = same (requests.asked line) a b one.asks two.asks where
  same : (r : Result Asked Unfit) (a b : Asked) → r ≡ Ok a → r ≡ Ok b → a ≡ b
  same r a b p q = cc

-- ---- the disk

-- no call was made
pub read_nothing : (disk : DiskView) → OnlyNow disk → IsOnlyRead disk disk
read_nothing disk now = record {
  quiet = record { same = λ f. refl; crash = λ f c is. is };
  each = λ k image from to is. now image (subst (λ (m : ℕ). disk.crash_images_at m image) (omega arith) is);
  counts = record { writes = λ f. refl; syncs = λ f. refl };
}

-- the places were noted, and then files were read
pub read_only : (old mid new : DiskView) → IsUntouched old mid → OnlyReads mid new → IsOnlyRead old new
read_only old mid new root reads = record {
  quiet = record {
    same = λ f. unchanged_reads mid new reads.unchanged f ∙ root.quiet.same f;
    crash = λ f c is. root.quiet.crash f c (reads.unchanged.elsewhere.crash f (λ never. never) c is);
  };
  each = λ k image from to is. let since : mid.moment ≤ k = omega (arith, root.moment) in λ f. root.quiet.crash f (image f) (reads.unchanged.beside k image since to is f (λ never. never));
  counts = record { writes = λ f. reads.counts.writes f ∙ root.counts.writes f; syncs = λ f. reads.counts.syncs f ∙ root.counts.syncs f };
}

pub rooted_image : (old mid : DiskView) → IsUntouched old mid → mid.reads ≡ old.reads
rooted_image old mid root = fun_ext (λ f. root.quiet.same f)

pub rooted_cause : (Failed : Type 0) (old mid new : DiskView) → ((f : FileId) → mid.faults f ≡ old.faults f) → HasOwnCause IsOfSomeLog Failed mid new → HasOwnCause IsOfSomeLog Failed old new
rooted_cause Failed old mid new same cause = record {
  monotone = λ f. omega (arith, same f, cause.monotone f);
  risen = λ is. let one = cause.risen is in (one.0, one.1, λ small. omega (arith, same one.0, one.2 small));
}

-- the places stay the noted ones
pub placed : (mid new : DiskView) (at : Option Places) → OnlyReads mid new → mid.places ≡ at → new.places ≡ at
placed mid new at reads is = reads.unchanged.places ∙ is

-- ---- the run

pub runs_asked : (tells : Type 0) (line : List (List ℕ)) (asked : Asked) (old mid : DiskView) (status : SendStatus) (out : Outcome) → Asks line asked → IsUntouched old mid → SendsNumber tells (log_no_in asked.number) asked mid.reads status out → Runs tells line old.reads status out
runs_asked tells line asked old mid status out asks root sends = inr (inr (asked, asks, subst (λ (image : Image). SendsNumber tells (log_no_in asked.number) asked image status out) (rooted_image old mid root) sends))
