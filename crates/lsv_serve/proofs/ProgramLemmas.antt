-- Settings that weren't read.
use Rattle.std.proofs.Common.{◌≡◌, ◌⊎◌, inl, inr, List, ℕ, Option, refl, sym, subst}
use Rattle.lsv_conf.specs.Lines.{Placed}
use Rattle.lsv_defs.specs.Causes.{HasRisen}
use Rattle.lsv_disk.specs.View.{DiskView}
use Rattle.lsv_serve.specs.declared.status.Status.{Status}
use Rattle.lsv_serve.specs.declared.status.Status.TheVariants.{Conf, NoMem}
use Rattle.lsv_serve.specs.Causes.{HasConfCause, HasPlacesAt}
use Rattle.lsv_serve.specs.Check.{ChecksAs}
use Rattle.lsv_serve.specs.Program.{lines_in}

-- out of memory, or with a line and its cause
abbrev pub Unread : (lines : List Placed) (faults faults' : ℕ) → Status → Type 0
Unread lines faults faults' status = (status ≡ NoMem) ⊎ ((line : ℕ) × (status ≡ Conf line) × HasConfCause lines faults faults' line)

-- the file couldn't be read
pub unread_file : (lines : List Placed) (faults faults' : ℕ) (status : Status) → (status ≡ NoMem) ⊎ ((status ≡ Conf 0) × HasRisen faults faults') → Unread lines faults faults' status
unread_file lines faults faults' status (inl e) = inl e
unread_file lines faults faults' status (inr (e, risen)) = inr (0, e, inl (refl, risen))

-- a line of it is refused
pub unread_line : (lines : List Placed) (faults faults' : ℕ) (status : Status) → (status ≡ NoMem) ⊎ ((line : ℕ) × (status ≡ Conf line) × ((f f' : ℕ) → HasConfCause lines f f' line)) → Unread lines faults faults' status
unread_line lines faults faults' status (inl e) = inl e
unread_line lines faults faults' status (inr (line, e, c)) = inr (line, e, c faults faults')

pub unread_places : (lines : List Placed) (faults faults' : ℕ) (logs events : List ℕ) (disk : DiskView) (status : Status) → Unread lines faults faults' status → HasPlacesAt logs events disk disk status
unread_places lines faults faults' logs events disk status (inl e) = subst (HasPlacesAt logs events disk disk) (sym e) (inr refl)
unread_places lines faults faults' logs events disk status (inr (line, e, c)) = subst (HasPlacesAt logs events disk disk) (sym e) refl

-- so ends a run of `check`
pub checks_unread : (found : Option (List ℕ)) (faults faults' : ℕ) (status : Status) → Unread (lines_in found) faults faults' status → ChecksAs found faults faults' status
checks_unread found faults faults' status (inl e) = subst (ChecksAs found faults faults') (sym e) tt
checks_unread found faults faults' status (inr (line, e, c)) = subst (ChecksAs found faults faults') (sym e) c
