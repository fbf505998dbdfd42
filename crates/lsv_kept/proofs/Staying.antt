-- What is kept stays on a disk whose calls touch none of its files, and each crash image keeps it.
use Rattle.std.proofs.Common.{◌≡◌, ◌≢◌, inl, inr, ℕ, Option, Some, None, Bool, true, false, refl, sym, ◌∙◌, ap, subst}
use Rattle.std.specs.Prelude.{◌==◌, if◌then◌else◌}
use Rattle.std.proofs.lemmas.Bool.{false≢true}
use Rattle.lsv_disk.specs.declared.file.FileId.{FileId}
use Rattle.lsv_disk.specs.declared.file.Owner.{Owner}
use Rattle.lsv_disk.specs.declared.file.Owner.TheVariants as owners
use Rattle.lsv_disk.specs.Throughout.{OnlyReads, Throughout}
use Rattle.lsv_disk.specs.View.{DiskView, Elsewhere, Image, IsCrashImage}
use Rattle.lsv_disk.proofs.Composition.{OnlyNow, started}
use Rattle.lsv_journal.specs.Last.{IsOwn, LastAt}
use Rattle.lsv_journal.proofs.Laws.{may_be_made_stays, own_alone, own_cases}
use Rattle.lsv_bundle.specs.Shape.{journal_of}
use Rattle.lsv_bundle.specs.Value.{BundleView}
use Rattle.lsv_bundle.proofs.Laws.{owner_committed, owner_represents}
use Rattle.lsv_kept.specs.Inner.{HasFiles, IsKeeping}
use Rattle.lsv_kept.specs.Aim.{AimView}
use Rattle.lsv_kept.specs.Kept.{IsChanged, IsOfRelay, IsReplaced, Keeps, owner_of, state_in}
use Rattle.lsv_kept.specs.Value.{IsUnmade, KeepingView, Stands, StandsBy}
use Rattle.lsv_kept.specs.declared.state.State.{State}
use Rattle.lsv_kept.specs.declared.state.State.TheVariants as states
use Rattle.lsv_kept.proofs.Hosts.{number_is, same_number}
use Rattle.lsv_kept.proofs.Keepings.{each_keeps}

-- one of the journal's files is one of the relaying's
own_of_relay : (n : ℕ) (g : FileId) → IsOwn (journal_of (owner_of n)) g → IsOfRelay n g
own_of_relay n g is = elim (own_cases (journal_of (owner_of n)) g is) [
  | inl new ↦ ap (λ (f : FileId). f.owner) new
  | inr old ↦ ap (λ (f : FileId). f.owner) old
]

-- whether an owner is that of the relaying
is_relay : ℕ → Owner → Bool
is_relay n (owners.Log m) = false
is_relay n (owners.Relay m) = m == n
is_relay n (owners.Numbers l) = false
is_relay n (owners.Events l) = false

relay_is : (n : ℕ) (o : Owner) → is_relay n o ≡ true → o ≡ owner_of n
unfolding is_relay
relay_is n (owners.Log m) e = absurd (false≢true e)
relay_is n (owners.Relay m) e = ap owners.Relay (same_number m n e)
relay_is n (owners.Numbers l) e = absurd (false≢true e)
relay_is n (owners.Events l) e = absurd (false≢true e)

relay_own : (n : ℕ) (o : Owner) → o ≡ owner_of n → is_relay n o ≡ true
unfolding is_relay
relay_own n o is = ap (is_relay n) is ∙ number_is n n refl

-- the relaying's files of one image, and all else of another
with_files : ℕ → Image → Image → Image
with_files n image others file = if is_relay n file.owner then image file else others file

with_own : (n : ℕ) (image others : Image) (g : FileId) → IsOfRelay n g → with_files n image others g ≡ image g
unfolding with_files
with_own n image others g own = rw (relay_own n g.owner own) refl

-- what each whole crash image has, an image has of whose own files a crash leaves the same
pub own_entry : (n : ℕ) (disk : DiskView) → IsCrashImage disk disk.reads → ((image : Image) → IsCrashImage disk image → LastAt 89 (journal_of (owner_of n)) image ≡ None)
    → (image : Image) → ((file : FileId) → IsOfRelay n file → disk.crash_states file (image file)) → LastAt 89 (journal_of (owner_of n)) image ≡ None
unfolding with_files
own_entry n disk itself none image left = sym (own_alone 89 (journal_of (owner_of n)) image (with_files n image disk.reads) (λ g is. with_own n image disk.reads g (own_of_relay n g is))) ∙ none (with_files n image disk.reads) (λ file. each file (is_relay n file.owner) refl)
  where
    each : (file : FileId) (b : Bool) → is_relay n file.owner ≡ b → disk.crash_states file (if b then image file else disk.reads file)
    each file true e = left file (relay_is n file.owner e)
    each file false e = itself file

-- ---- each image

keeps_by : (n : ℕ) (aim : AimView) (state : State) (files : Option BundleView) (disk : DiskView) → HasFiles n state files → state ≢ states.Done → StandsBy n aim state files disk → (image : Image) → IsCrashImage disk image → Keeps n aim image state
keeps_by n aim state None disk has undone (inl done) image left = absurd (undone done)
keeps_by n aim state None disk has undone (inr (is, unmade)) image left = subst (Keeps n aim image) (sym is) (record { entry = None; holds = unmade.no_entry image (λ file own. left file); is = refl })
keeps_by n aim state (Some b) disk has undone stands image left = subst (Keeps n aim image) stands.1 (each_keeps n aim b disk has.owner has.shape stands.0 image left)

pub every_image : (keeping : KeepingView) (disk : DiskView) → IsKeeping keeping → keeping.broken ≡ false → keeping.state ≢ states.Done → Stands keeping disk → (image : Image) → IsCrashImage disk image → Keeps keeping.number keeping.aim image keeping.state
every_image keeping disk is whole undone stands = keeps_by keeping.number keeping.aim keeping.state keeping.files disk (is whole) undone stands

-- nothing was done, so each image keeps what was kept
pub still_changed : (keeping : KeepingView) (disk : DiskView) (kind extra : ℕ) (after : State) → IsKeeping keeping → keeping.broken ≡ false → keeping.state ≢ states.Done → Stands keeping disk → OnlyNow disk
    → Throughout (IsOfRelay keeping.number) (IsChanged keeping.number keeping.aim keeping.state kind extra after) disk disk
still_changed keeping disk kind extra after is whole undone stands only = started (IsOfRelay keeping.number) _ disk only (λ image left. inl (every_image keeping disk is whole undone stands image left))

pub still_replaced : (keeping : KeepingView) (disk : DiskView) (after : State) → IsKeeping keeping → keeping.broken ≡ false → keeping.state ≢ states.Done → Stands keeping disk → OnlyNow disk
    → Throughout (IsOfRelay keeping.number) (IsReplaced keeping.number keeping.aim keeping.state after) disk disk
still_replaced keeping disk after is whole undone stands only = started (IsOfRelay keeping.number) _ disk only (λ image left. inl (every_image keeping disk is whole undone stands image left))

-- ---- other files

module _ (n : ℕ) (Touched : FileId → Type 0) (old new : DiskView) (elsewhere : Elsewhere Touched old new) (apart : (f : FileId) → IsOfRelay n f → Touched f → ⊥) where
  unmade_stays : IsUnmade n old → IsUnmade n new
  unmade_stays unmade = record {
    no_entry = λ image left. unmade.no_entry image (λ file own. elsewhere.crash file (apart file own) (image file) (left file own));
    may_be_made = may_be_made_stays 89 (journal_of (owner_of n)) Touched old new unmade.may_be_made elsewhere (λ g own. apart g (own_of_relay n g own));
  }

  stands_by : (aim : AimView) (state : State) (files : Option BundleView) → HasFiles n state files → StandsBy n aim state files old → StandsBy n aim state files new
  stands_by aim state None has (inl done) = inl done
  stands_by aim state None has (inr (is, unmade)) = inr (is, unmade_stays unmade)
  stands_by aim state (Some b) has stands =
      (owner_represents b Touched old new elsewhere (λ f own. apart f (own ∙ has.owner)) stands.0, ap (state_in aim) (owner_committed b Touched old new elsewhere (λ f own. apart f (own ∙ has.owner))) ∙ stands.1)

pub stands_stays : (keeping : KeepingView) (Touched : FileId → Type 0) (old new : DiskView) → Elsewhere Touched old new → ((f : FileId) → IsOfRelay keeping.number f → Touched f → ⊥) → IsKeeping keeping → keeping.broken ≡ false → Stands keeping old → Stands keeping new
stands_stays keeping Touched old new elsewhere apart is whole stands = stands_by keeping.number Touched old new elsewhere apart keeping.aim keeping.state keeping.files (is whole) stands

-- and so where it was only read
reads_by : (n : ℕ) (old new : DiskView) → OnlyReads old new → (aim : AimView) (state : State) (files : Option BundleView) → StandsBy n aim state files old → StandsBy n aim state files new
reads_by n old new reads aim state None (inl done) = inl done
reads_by n old new reads aim state None (inr (is, unmade)) = inr (is, unmade_stays n (λ _. ⊥) old new reads.unchanged.elsewhere (λ f own none. none) unmade)
reads_by n old new reads aim state (Some b) stands =
    (owner_represents b (λ _. ⊥) old new reads.unchanged.elsewhere (λ f own none. none) stands.0, ap (state_in aim) (owner_committed b (λ _. ⊥) old new reads.unchanged.elsewhere (λ f own none. none)) ∙ stands.1)

pub stands_read : (keeping : KeepingView) (old new : DiskView) → OnlyReads old new → Stands keeping old → Stands keeping new
stands_read keeping old new reads stands = reads_by keeping.number old new reads keeping.aim keeping.state keeping.files stands
