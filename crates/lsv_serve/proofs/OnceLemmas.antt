-- A run of `once`: its cause and its places by its status, and one whose settings weren't read.
use Rattle.std.proofs.Common.{◌≡◌, inl, inr, List, ℕ, Option, None, Some, refl, sym, ap, subst, ◌∙◌}
use Rattle.std.specs.Option.{option_map}
use Rattle.lsv_conf.specs.Lines.{Placed, first_refused}
use Rattle.lsv_conf.specs.Settings.{told}
use Rattle.lsv_defs.specs.Causes.{HasRisen}
use Rattle.lsv_disk.specs.View.{DiskView, Image, IsCrashImage}
use Rattle.lsv_machine.specs.Machine.{Settings}
use Rattle.lsv_once.specs.Causes.{HasOnceCause}
use Rattle.lsv_once.specs.Once.{RunsOnce}
use Rattle.lsv_once.specs.World.{World}
use Rattle.lsv_once.specs.declared.once.OnceEnd.{OnceEnd}
use Rattle.lsv_once.specs.declared.once.OnceEnd.TheVariants as ends
use Rattle.lsv_once.proofs.CompleteLemmas.{completes}
use Rattle.lsv_once.proofs.StoreLemmas.{runs_nothing}
use Rattle.lsv_serve.specs.declared.status.Status.{Status}
use Rattle.lsv_serve.specs.Causes.{HasConfCause, HasPlaces, HasPlacesAt, MayServeAgain}
use Rattle.lsv_serve.specs.Once.{HasProgramCause, OnceAs, OnceBy, RunsFor, status_of}
use Rattle.lsv_serve.specs.Program.{lines_in, machine_of, prompts_of, set_by}
use Rattle.lsv_serve.proofs.ProgramLemmas.{Unread}
use Rattle.lsv_service.proofs.Idle.{keeps_nothing}
use Rattle.lsv_serve.proofs.StartLemmas.{entry_stays, may_serve_still}

-- ---- Settings that were read

runs_told : (set : Settings) (texts : List (List ℕ)) (old new : World) (end : OnceEnd) → RunsOnce set texts old new end → RunsFor set texts old new (status_of end)
runs_told set texts old new ends.Served r = r
runs_told set texts old new ends.ReadFault r = r
runs_told set texts old new ends.WriteFault r = r
runs_told set texts old new (ends.Store fault) r = r
runs_told set texts old new ends.NoMem r = r

cause_told : (lines : List Placed) (faults faults' : ℕ) (old new : World) (end : OnceEnd) → first_refused lines ≡ None → HasOnceCause old new end → HasProgramCause lines faults faults' old new (status_of end)
cause_told lines faults faults' old new ends.Served none c = none
cause_told lines faults faults' old new ends.ReadFault none c = (none, c)
cause_told lines faults faults' old new ends.WriteFault none c = (none, c)
cause_told lines faults faults' old new (ends.Store fault) none c = (none, c)
cause_told lines faults faults' old new ends.NoMem none c = tt

places_told : (logs events : List ℕ) (before after : DiskView) (end : OnceEnd) → HasPlaces logs events after → HasPlacesAt logs events before after (status_of end)
places_told logs events before after ends.Served p = p
places_told logs events before after ends.ReadFault p = p
places_told logs events before after ends.WriteFault p = p
places_told logs events before after (ends.Store fault) p = p
places_told logs events before after ends.NoMem p = inl p

pub once_read : (found : Option (List ℕ)) (faults faults' : ℕ) (old new : World) (status : Status) → first_refused (lines_in found) ≡ None → OnceBy (set_by found).format (set_by found).log_exit (prompts_of (set_by found)) old new status
    → (old.disk_tells → HasPlaces (set_by found).iolog_dir (set_by found).path new.disk) → (old.disk_tells → MayServeAgain old.disk new.disk) → OnceAs found faults faults' old new status
once_read found faults faults' old new status none b places again = subst (OnceAs found faults faults' old new) (sym b.is) (record {
  runs = runs_told (machine_of (set_by found)) (prompts_of (set_by found)) old new b.end b.run;
  cause = cause_told (lines_in found) faults faults' old new b.end none b.cause;
  complete = λ calm unrefused. record { end = b.end; is = refl; run = b.run; cause = b.cause; complete = b.complete };
  places = λ told. places_told (set_by found).iolog_dir (set_by found).path old.disk new.disk b.end (places told);
  again = again;
})

-- ---- Settings that weren't read

-- the file was read, and no line of it is refused
no_conf : (lines : List Placed) (faults faults' line : ℕ) → (HasRisen faults faults' → ⊥) → first_refused lines ≡ None → HasConfCause lines faults faults' line → ⊥
no_conf lines faults faults' line calm none (inl (zero_is, risen)) = calm risen
no_conf lines faults faults' line calm none (inr (some, told_is)) = let h : None ≡ Some line = sym (ap (option_map told) none) ∙ told_is in cc

-- memory ran out before anything was done
idle_run : (w : World) → (w.disk_tells → (image : Image) → w.disk.crash_images_at w.disk.moment image → IsCrashImage w.disk image) → (set : Settings) (texts : List (List ℕ)) → RunsOnce set texts w w ends.NoMem
idle_run w only_now set texts =
    runs_nothing set texts w w.disk w.tape ends.NoMem (inr refl) refl (λ told. refl) (λ told some. entry_stays w.disk (only_now told)) (λ told. keeps_nothing w.disk (only_now told) set texts)

pub once_unread : (w : World) → (w.disk_tells → (image : Image) → w.disk.crash_images_at w.disk.moment image → IsCrashImage w.disk image) → (found : Option (List ℕ)) (faults faults' : ℕ) (status : Status) → Unread (lines_in found) faults faults' status
    → OnceAs found faults faults' w w status
once_unread w only_now found faults faults' status (inl e) = subst (OnceAs found faults faults' w w) (sym e) (record {
  runs = idle_run w only_now (machine_of (set_by found)) (prompts_of (set_by found));
  cause = tt;
  complete = λ calm none. record {
    end = ends.NoMem;
    is = refl;
    run = idle_run w only_now (machine_of (set_by found)) (prompts_of (set_by found));
    cause = tt;
    complete = completes (set_by found).format (set_by found).log_exit (prompts_of (set_by found)) w w ends.NoMem tt;
  };
  places = λ told. inr refl;
  again = λ told. may_serve_still w.disk;
})
once_unread w only_now found faults faults' status (inr (line, e, c)) = subst (OnceAs found faults faults' w w) (sym e) (record {
  runs = record { given = refl; rest = refl; put = refl; tape = refl; keeps = λ told. keeps_nothing w.disk (only_now told) (machine_of (set_by found)) (prompts_of (set_by found)) };
  cause = c;
  complete = λ calm none. absurd (no_conf (lines_in found) faults faults' line calm none c);
  places = λ told. refl;
  again = λ told. may_serve_still w.disk;
})
