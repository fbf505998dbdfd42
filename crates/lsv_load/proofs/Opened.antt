-- A log that is opened to be read, and one that isn't.
use Rattle.std.proofs.Common.{◌≡◌, ◌∙◌, inl, inr, ℕ, [], None, Some, Ok, refl, sym, ap, subst, arith}
use Rattle.lsv_disk.specs.declared.file.Part.{Part}
use Rattle.lsv_disk.specs.declared.file.Part.TheVariants.{Head as HeadPart}
use Rattle.lsv_disk.specs.Throughout.{OnlyReads}
use Rattle.lsv_disk.specs.View.{DiskView, Image}
use Rattle.lsv_bundle.specs.Committed.{HasEntry}
use Rattle.lsv_bundle.specs.declared.body.Body.{Body}
use Rattle.lsv_info.specs.Reading.{head_of}
use Rattle.lsv_info.specs.declared.times.Head.{Head}
use Rattle.lsv_iolog.specs.declared.fault.ViewFault.{ViewFault}
use Rattle.lsv_iolog.specs.declared.fault.ViewFault.TheVariants as views
use Rattle.lsv_iolog.specs.Damage.{IsViewDamage}
use Rattle.lsv_iolog.specs.Reading.{IsBehind, ViewState, committed_text}
use Rattle.lsv_iolog.specs.Recovered.{Replays, owner_of}
use Rattle.lsv_iolog.proofs.Replaying.{one_replay}
use Rattle.lsv_play.specs.Playing.{IsOpened}
use Rattle.lsv_play.proofs.Undamaged.{no_view_damage}
use Rattle.lsv_record.specs.Points.{Stored}
use Rattle.lsv_load.specs.Faults.{IsFitting, IsMisfit}
use Rattle.lsv_load.specs.InnerSums.{IsMisfitFault, IsUnread}
use Rattle.lsv_load.proofs.Adding.{same_image}

-- a log that is opened is one of its head
pub opened_now : (n : ℕ) (v : ViewState) (old new : DiskView) → v.number ≡ n → OnlyReads old new → HasEntry (owner_of n) v.body old.reads → head_of (committed_text n v.body new HeadPart) ≡ Ok v.head → IsBehind v [] new → IsOpened v.number v.body v.head new.reads
opened_now n v old new number reads entry head behind = record {
  entry = subst (λ (k : ℕ). HasEntry (owner_of k) v.body new.reads) (sym number) (subst (λ (image : Image). HasEntry (owner_of n) v.body image) (sym (same_image old new reads)) entry);
  there = behind.there;
  head_is = ap (λ (k : ℕ). head_of (committed_text k v.body new HeadPart)) number ∙ head;
}

none_some : (log : Stored) → None ≡ Some log → ⊥
none_some log e = cc

-- what is so of a log that isn't opened for this fault
pub open_fails : (n : ℕ) (image : Image) (e : ViewFault) → (e ≡ views.Absent → Replays image n None) → ((part : Part) → e ≡ views.Damaged part → IsViewDamage n part image) → IsUnread image n e
open_fails n image views.Absent absent damaged = record { none = λ log holds. none_some log (one_replay image n None (Some log) (absent refl) holds); fault = inl (refl, absent refl) }
open_fails n image (views.Damaged part) absent damaged = record { none = λ log holds. no_view_damage n image log holds part (damaged part refl); fault = inr (inl (damaged part refl)) }
open_fails n image views.Disk absent damaged = tt
open_fails n image views.NoMem absent damaged = tt

-- an entry that a log has doesn't misfit
misfit_not : (body : Body) (part : Part) → IsMisfit body part → IsFitting body → ⊥
misfit_not body part (inl (is, inl (three, none))) fits = let some = fits.some three in omega (arith, some, none)
misfit_not body part (inl (is, inr (other, some))) fits = let none = fits.none other in omega (arith, some, none)
misfit_not body part (inr (is, right, more)) fits = let small = fits.small in omega (arith, more, small)

-- and of one that is opened, whose last entry isn't one that a log has
pub misfit_unread : (n : ℕ) (body : Body) (head : Head) (image : Image) (e : ViewFault) → IsOpened n body head image → ((log : Stored) → Replays image n (Some log) → IsFitting body) → IsMisfitFault body e → IsUnread image n e
misfit_unread n body head image views.Absent opened fits is = absurd is
misfit_unread n body head image (views.Damaged part) opened fits is = record { none = λ log holds. misfit_not body part is (fits log holds); fault = inr (inr (record { body = body; head = head; opened = opened; fault = inl is })) }
misfit_unread n body head image views.Disk opened fits is = absurd is
misfit_unread n body head image views.NoMem opened fits is = absurd is

-- it is the same log on a disk that was only read
pub unread_before : (n k : ℕ) (old new : DiskView) (e : ViewFault) → k ≡ n → OnlyReads old new → IsUnread new.reads k e → IsUnread old.reads n e
unread_before n k old new e number reads is = subst (λ (m : ℕ). IsUnread old.reads m e) number (subst (λ (image : Image). IsUnread image k e) (same_image old new reads) is)
