-- A log that is seen as its files read.
use Rattle.std.proofs.Common.{◌≡◌, ◌⊎◌, inl, inr, ℕ, zero, suc, ◌<◌, ◌≤◌, List, length, take, drop, Option, Some, None, Result, Ok, Err, IsErrAnd, IsErrOf, sym, ◌∙◌, ap, subst, arith}
use Rattle.std.proofs.lemmas.List.{length-take, take-append-drop}
use Rattle.lsv_disk.specs.Bytes.{bytes_of}
use Rattle.lsv_disk.specs.Files.{file_of}
use Rattle.lsv_disk.specs.declared.file.Owner.{Owner}
use Rattle.lsv_disk.specs.declared.file.Part.{Part}
use Rattle.lsv_disk.specs.declared.file.Part.TheVariants.{Head}
use Rattle.lsv_disk.specs.Throughout.{OnlyReads}
use Rattle.lsv_disk.specs.View.{DiskView}
use Rattle.lsv_disk.proofs.Composition.{unchanged_reads}
use Rattle.lsv_bundle.specs.declared.body.Body.{Body}
use Rattle.lsv_bundle.specs.declared.shape.Shape.TheVariants as shapes
use Rattle.lsv_bundle.specs.declared.view.View.{View}
use Rattle.lsv_bundle.specs.Body.{length_of}
use Rattle.lsv_bundle.specs.Committed.{Committed, HasPrefix, HasEntry, HoldsEntry, IsShort}
use Rattle.lsv_bundle.specs.Shape.{IsPart, on_shape}
use Rattle.lsv_iolog.specs.declared.fault.ViewFault.{ViewFault}
use Rattle.lsv_iolog.specs.declared.fault.ViewFault.TheVariants as views
use Rattle.lsv_iolog.specs.Recovered.{owner_of, IsHeadText}
use Rattle.lsv_iolog.specs.Damage.{IsViewDamage}
use Rattle.lsv_iolog.specs.Reading.{AreThere, committed_text}
use Rattle.lsv_iolog.specs.Inner.Scanning.{text_of}
use Rattle.lsv_iolog.proofs.Replaying.{on_log}
use Rattle.lsv_iolog.proofs.Scans.{text_same}

-- which error it is
pub err_is : {T : Type 0} (r : Result T ViewFault) (e d : ViewFault) → IsErrAnd r (λ x. x ≡ e) → IsErrOf r d → e ≡ d
err_is (Ok x) e d is same = absurd is
err_is {T} (Err x) e d is same = sym is ∙ (let h : x ≡ d = cc in h)

-- an error is that error
pub err_of : {T : Type 0} (e d : ViewFault) → e ≡ d → IsErrOf {T = T} (Err e) d
err_of {T} e d is = ap (λ (x : ViewFault). let y : Result T ViewFault = Err x in y) is

enough_is : (a b : ℕ) → (a < b → ⊥) → b ≤ a
enough_is a zero no_ = omega arith
enough_is zero (suc b) no_ = absurd (no_ (omega arith))
enough_is (suc a) (suc b) no_ = let h = enough_is a b (λ less. no_ (omega (arith, less))) in omega (arith, h)

-- a file that isn't short has all the committed bytes
pub all_there : (file : Option (List ℕ)) (n : ℕ) → (IsShort file n → ⊥) → length (take n (bytes_of file)) ≡ n
all_there None n enough = absurd (enough tt)
all_there (Some bytes) n enough = let e = length-take n bytes in let h = enough_is (length bytes) n enough in omega (arith, e, h)

-- and begins with them
begins_there : (file : Option (List ℕ)) (n : ℕ) → (IsShort file n → ⊥) → HasPrefix (take n (bytes_of file)) file
begins_there None n enough = absurd (enough tt)
begins_there (Some bytes) n enough = (drop n bytes, sym (take-append-drop n bytes))

-- each data file has as many bytes as the entry says
pub record IsEnough (owner : Owner) (body : Body) (disk : DiskView) : Type 0 where
  pub each : (part : Part) → IsPart shapes.Log part → IsShort (disk.reads (file_of owner part)) (length_of body part) → ⊥

-- of a file that isn't short as many bytes are committed as the entry says
pub text_long : (view : View) (disk : DiskView) (part : Part) → (IsShort (disk.reads (file_of view.owner part)) (length_of view.body part) → ⊥) → length (text_of view disk part) ≡ length_of view.body part
text_long view disk part enough = all_there (disk.reads (file_of view.owner part)) (length_of view.body part) enough

-- files that were there still are, where they were only read
pub still_there : (owner : Owner) (body : Body) (old new : DiskView) → OnlyReads old new → AreThere owner body old.reads → AreThere owner body new.reads
still_there owner body old new reads there part own = subst (λ (file : Option (List ℕ)). IsShort file (length_of body part) → ⊥) (sym (unchanged_reads old new reads.unchanged (file_of owner part))) (there part own)

-- the committed bytes, by the log's number
pub owner_text : (n : ℕ) (view : View) (disk : DiskView) (part : Part) → view.owner ≡ owner_of n → text_of view disk part ≡ committed_text n view.body disk part
owner_text n view disk part own = ap (λ (o : Owner). take (length_of view.body part) (bytes_of (disk.reads (file_of o part)))) own

-- an entry with the bytes that it commits
abbrev pub entry_at : ℕ → Body → DiskView → Committed
entry_at n body disk = record { body = body; bytes = on_shape shapes.Log (committed_text n body disk) }

-- where no file is short the image holds it
pub entry_holds : (n : ℕ) (body : Body) (disk : DiskView) → HasEntry (owner_of n) body disk.reads → IsEnough (owner_of n) body disk → HoldsEntry (owner_of n) shapes.Log (entry_at n body disk) disk.reads
entry_holds n body disk entry enough = record {
  is_body = entry.is_body;
  last = entry.last;
  lengths = λ part own. ap length (on_log (committed_text n body disk) part own) ∙ all_there (disk.reads (file_of (owner_of n) part)) (length_of body part) (enough.each part own);
  bytes = λ part own. subst (λ (xs : List ℕ). HasPrefix xs (disk.reads (file_of (owner_of n) part))) (sym (on_log (committed_text n body disk) part own))
      (begins_there (disk.reads (file_of (owner_of n) part)) (length_of body part) (enough.each part own));
}

-- a head is at fault alone
pub head_alone : (e : ViewFault) (part : Part) → e ≡ views.Damaged part → (e ≡ views.Disk) ⊎ (e ≡ views.Damaged Head) ⊎ (e ≡ views.NoMem) → part ≡ Head
head_alone e part is (inl disk) = absurd (let no_ : ⊥ = cc in no_)
head_alone e part is (inr (inl damaged)) = let h : views.Damaged part ≡ views.Damaged Head = sym is ∙ damaged in cc
head_alone e part is (inr (inr mem)) = absurd (let no_ : ⊥ = cc in no_)

-- then the log is damaged there
pub head_damage : (n : ℕ) (owner : Owner) (view : View) (old mid : DiskView) (part : Part) → owner ≡ owner_of n → (view.owner ≡ owner) × (view.shape ≡ shapes.Log) → HasEntry owner view.body old.reads → IsEnough owner view.body old
    → OnlyReads old mid → (IsHeadText (text_of view mid Head) → ⊥) → part ≡ Head → IsViewDamage n part old.reads
head_damage n owner view old mid part own named entry enough reads no_head is = inr (
  is,
  record {
    entry = entry_at n view.body old;
    holds = entry_holds n view.body old (subst (λ (o : Owner). HasEntry o view.body old.reads) own entry) (subst (λ (o : Owner). IsEnough o view.body old) own enough);
    fault = λ head. no_head (subst IsHeadText (on_log (committed_text n view.body old) Head tt ∙ sym (owner_text n view old Head (named.0 ∙ own)) ∙ sym (text_same view old mid Head reads)) head);
  },
)
