-- A log that was opened isn't damaged: no file is short, and its head is one.
use Rattle.std.proofs.Common.{◌≡◌, inl, inr, ℕ, List, [], ◌∷◌, Option, Some, slice_index, sym, ◌∙◌, ap, subst, Ok}
use Rattle.lsv_bundle.specs.Body.{encoded, length_of}
use Rattle.lsv_bundle.specs.Committed.{HasEntry, IsDamaged, IsFirstShort, IsShort}
use Rattle.lsv_bundle.specs.Shape.{index_of, parts_of}
use Rattle.lsv_bundle.specs.declared.body.Body.{Body}
use Rattle.lsv_bundle.specs.declared.shape.Shape.TheVariants as shapes
use Rattle.lsv_bundle.proofs.Laws.{one_body}
use Rattle.lsv_disk.specs.Files.{file_of}
use Rattle.lsv_disk.specs.Throughout.{OnlyReads}
use Rattle.lsv_disk.specs.View.{DiskView, Image}
use Rattle.lsv_disk.specs.declared.file.Owner.{Owner}
use Rattle.lsv_disk.specs.declared.file.Part.{Part}
use Rattle.lsv_disk.specs.declared.file.Part.TheVariants.{Head as HeadPart, Exit as ExitPart, Timing, Stdin, Stdout, Stderr, Ttyin, Ttyout}
use Rattle.lsv_info.specs.Reading.{head_of}
use Rattle.lsv_info.specs.declared.times.Head.{Head}
use Rattle.lsv_iolog.specs.Damage.{HasFault, IsViewDamage}
use Rattle.lsv_iolog.specs.Reading.{AreThere, IsBehind, ViewState, committed_text}
use Rattle.lsv_iolog.specs.Recovered.{IsHeadText, owner_of}
use Rattle.lsv_iolog.proofs.Replaying.{prefix_same}
use Rattle.lsv_iolog.proofs.Viewing.{all_there}
use Rattle.lsv_relay.proofs.Opening.{still_read}
use Rattle.lsv_relay.proofs.Stored.{taken_begins}

one_some : (o : Option (List ℕ)) (a b : List ℕ) → o ≡ Some a → o ≡ Some b → a ≡ b
one_some o a b one two = cc (one, two)

abbrev Each : (Part → Type 0) → List Part → Type 0
Each P [] = Unit {0}
Each P (part ∷ parts) = P part × Each P parts

no_first : (owner : Owner) (image : Image) (lens : List ℕ) (parts : List Part) (part : Part) → Each (λ p. IsShort (image (file_of owner p)) (slice_index lens (index_of p)) → ⊥) parts → IsFirstShort owner image lens parts part → ⊥
no_first owner image lens [] part each short = short
no_first owner image lens (first ∷ parts) part each (inl short) = each.0 short.1
no_first owner image lens (first ∷ parts) part each (inr short) = no_first owner image lens parts part each.1 short.1

module _ (n : ℕ) (body : Body) (head : Head) (disk : DiskView) (entry : HasEntry (owner_of n) body disk.reads) (there : AreThere (owner_of n) body disk.reads) (head_is : head_of (committed_text n body disk HeadPart) ≡ Ok head) where
  every : Each (λ p. IsShort (disk.reads (file_of (owner_of n) p)) (slice_index body.lens (index_of p)) → ⊥) (parts_of shapes.Log)
  every = (there HeadPart tt, (there ExitPart tt, (there Timing tt, (there Stdin tt, (there Stdout tt, (there Stderr tt, (there Ttyin tt, (there Ttyout tt, tt))))))))

  not_damaged : (part : Part) → IsDamaged (owner_of n) shapes.Log disk.reads part → ⊥
  not_damaged part damaged =
      let same : damaged.body ≡ body = one_body damaged.body body damaged.entry.is_body entry.is_body (one_some _ (encoded damaged.body) (encoded body) damaged.entry.last entry.last) in
      no_first (owner_of n) disk.reads body.lens (parts_of shapes.Log) part every (subst (λ (b : Body). IsFirstShort (owner_of n) disk.reads b.lens (parts_of shapes.Log) part) same damaged.first)

  not_faulty : HasFault n HeadPart disk.reads → ⊥
  not_faulty fault = fault.fault (subst IsHeadText text (head, head_is))
    where
      same : body ≡ fault.entry.body
      same = one_body body fault.entry.body entry.is_body fault.holds.is_body (one_some _ (encoded body) (encoded fault.entry.body) entry.last fault.holds.last)

      text : committed_text n body disk HeadPart ≡ fault.entry.bytes HeadPart
      text = prefix_same (committed_text n body disk HeadPart) (fault.entry.bytes HeadPart) (disk.reads (file_of (owner_of n) HeadPart))
          (all_there (disk.reads (file_of (owner_of n) HeadPart)) (length_of body HeadPart) (there HeadPart tt) ∙ ap (λ (b : Body). length_of b HeadPart) same ∙ sym (fault.holds.lengths HeadPart tt))
          (taken_begins (disk.reads (file_of (owner_of n) HeadPart)) (length_of body HeadPart) (fault.entry.bytes HeadPart) (fault.holds.bytes HeadPart tt)) (fault.holds.bytes HeadPart tt)

  pub sound : (part : Part) → IsViewDamage n part disk.reads → ⊥
  sound part (inl damaged) = not_damaged part damaged
  sound part (inr faulty) = not_faulty faulty.1

-- the log was only read when it was opened
pub opened_sound : (n : ℕ) (view : ViewState) (old new : DiskView) → OnlyReads old new → view.number ≡ n → HasEntry (owner_of n) view.body old.reads → head_of (committed_text n view.body new HeadPart) ≡ Ok view.head → IsBehind view [] new
    → (part : Part) → IsViewDamage n part old.reads → ⊥
opened_sound n view old new reads number entry head behind part damage =
    sound n view.body view.head new (still_read (HasEntry (owner_of n) view.body) old new reads entry)
    (λ p own short. behind.there p own (subst (λ (k : ℕ). IsShort (new.reads (file_of (owner_of k) p)) (length_of view.body p)) (sym number) short)) head part
    (still_read (IsViewDamage n part) old new reads damage)
