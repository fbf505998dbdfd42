-- A run of `load`.
use Rattle.std.proofs.Common.{◌≡◌, inl, inr, [], List, ℕ, Bool, Option, None, refl, sym, subst, arith}
use Rattle.lsv_conf.specs.Lines.{first_refused}
use Rattle.lsv_disk.specs.Throughout.{OnlyReads}
use Rattle.lsv_disk.specs.View.{DiskView, Image, IsCrashImage, IsLeftAlone}
use Rattle.lsv_event.specs.declared.event.Kind.{Kind}
use Rattle.lsv_iolog.proofs.Scans.{reads_nothing}
use Rattle.lsv_machine.specs.Disks.{NumbersFit}
use Rattle.lsv_machine.specs.Durable.{Reading}
use Rattle.lsv_machine.specs.Machine.{Settings}
use Rattle.lsv_keeper.specs.Reading.{reading_of}
use Rattle.lsv_turn.specs.Turns.{TapeTurn}
use Rattle.lsv_lane.specs.Store.{IsFresh}
use Rattle.lsv_service.specs.Runs.{IsUp}
use Rattle.lsv_service.specs.declared.run.End.TheVariants as up
use Rattle.lsv_service.proofs.CompleteLemmas.{completes}
use Rattle.lsv_load.specs.Runs.{RunsLoad, view_of}
use Rattle.lsv_load.specs.declared.run.LoadEnd.{LoadEnd}
use Rattle.lsv_load.specs.declared.run.LoadEnd.TheVariants as ends
use Rattle.lsv_serve.specs.declared.status.Status.{Status}
use Rattle.lsv_serve.specs.declared.status.Status.TheVariants.{NoUpstream, Pending, Served, Usage, Conf, Store, ReadFault, WriteFault, PortFault, NoMem}
use Rattle.lsv_serve.specs.Causes.{HasPlaces, HasPlacesAt, MayServeAgain}
use Rattle.lsv_serve.specs.Load.{CompletesLoad, HasLoadCause, LoadsAs, LoadsBy, LoadsTo, OfSummary, TellsLoad, while_up}
use Rattle.lsv_once.specs.Once.{once_settings}
use Rattle.lsv_serve.specs.Program.{lines_in, machine_of, prompts_of, set_by}
use Rattle.lsv_once.specs.World.{World}
use Rattle.lsv_serve.proofs.ProgramLemmas.{Unread}
use Rattle.lsv_serve.proofs.ServeLemmas.{idle_store}
use Rattle.lsv_service.proofs.Idle.{keeps_nothing}
use Rattle.lsv_serve.proofs.StartLemmas.{alone_same, fit_kept, fits_after, may_serve_still}

-- ---- A disk that was only read

-- the numbers fit the images of a disk that was only read meanwhile
fit_read : (r : Reading) (lane lanes : ℕ) (old new : DiskView) → OnlyReads old new → ((image : Image) → IsCrashImage new image → new.crash_images_at new.moment image) → NumbersFit r lane lanes (IsCrashImage old) → NumbersFit r lane lanes (IsCrashImage new)
fit_read r lane lanes old new o is_now fit = record {
  told = λ image is. fit.told image (before image is);
  none_above = λ a b last n is it. fit.none_above a b last n (before a is) (before b it);
}
  where
    before : (image : Image) → IsCrashImage new image → IsCrashImage old image
    before image is file = o.unchanged.beside new.moment image o.unchanged.later (omega arith) (is_now image is) file (λ x. x)

-- ---- By its status

pub complete_load : {D : Type 0} (tells taping : Type 0) (view : D → DiskView) (set : Settings) (texts : List (List ℕ)) (count : ℕ) (found left : D) (tape new_tape : List TapeTurn) → CompletesLoad tells taping view set texts count found left tape new_tape
complete_load tells taping view set texts count found left tape new_tape text run told up =
    completes tells told set texts (view found) (view run.served) run.turns (while_up up (run.store.keeps told)) 0 (view_of run.ends.load.old) (view_of run.ends.load.new) run.ends.load.served.served

pub of_summary : (so : Type 0) (status : Status) → so → OfSummary status so
of_summary so Served x = x
of_summary so WriteFault x = x
of_summary so (Store fault) x = tt
of_summary so NoMem x = tt
of_summary so (Conf line) x = tt
of_summary so Usage x = tt
of_summary so ReadFault x = tt
of_summary so PortFault x = tt
of_summary so NoUpstream x = tt
of_summary so (Pending left) x = tt

module _ {D : Type 0} (taping : Type 0) (view : D → DiskView) (count : ℕ) (old new : World) (found left : D) (tape new_tape : List TapeTurn) where
  runs_to : (set : Settings) (texts : List (List ℕ)) (status : Status) (end : LoadEnd) → RunsLoad old.disk_tells taping view set texts count found left tape new_tape end
      → TellsLoad old.wires.sink_tells old.wires.put new.wires.put old.wires.write_faults new.wires.write_faults end status → LoadsTo taping view set texts count old new found left tape new_tape status
  runs_to set texts status (ends.Served text) r (inl (e, put)) = subst (LoadsTo taping view set texts count old new found left tape new_tape) (sym e) (record { text = text; run = r; put = put })
  runs_to set texts status (ends.Served text) r (inr (e, risen, put)) = subst (LoadsTo taping view set texts count old new found left tape new_tape) (sym e) (record { text = text; run = r; risen = risen; put = put })
  runs_to set texts status (ends.Store fault) r (e, put) = subst (LoadsTo taping view set texts count old new found left tape new_tape) (sym e) (r, put)
  runs_to set texts status ends.NoMem r (e, put) = subst (LoadsTo taping view set texts count old new found left tape new_tape) (sym e) (r, put)

  cause_to : (set : Option (List ℕ)) (faults faults' : ℕ) (status : Status) (end : LoadEnd) → first_refused (lines_in set) ≡ None → TellsLoad old.wires.sink_tells old.wires.put new.wires.put old.wires.write_faults new.wires.write_faults end status → HasLoadCause (lines_in set) faults faults' status
  cause_to set faults faults' status (ends.Served text) none (inl (e, put)) = subst (HasLoadCause (lines_in set) faults faults') (sym e) none
  cause_to set faults faults' status (ends.Served text) none (inr (e, risen, put)) = subst (HasLoadCause (lines_in set) faults faults') (sym e) none
  cause_to set faults faults' status (ends.Store fault) none (e, put) = subst (HasLoadCause (lines_in set) faults faults') (sym e) none
  cause_to set faults faults' status ends.NoMem none (e, put) = subst (HasLoadCause (lines_in set) faults faults') (sym e) tt

  places_to : (logs events : List ℕ) (status : Status) (end : LoadEnd) → TellsLoad old.wires.sink_tells old.wires.put new.wires.put old.wires.write_faults new.wires.write_faults end status → HasPlaces logs events (view left) → HasPlacesAt logs events (view found) (view left) status
  places_to logs events status (ends.Served text) (inl (e, put)) p = subst (HasPlacesAt logs events (view found) (view left)) (sym e) p
  places_to logs events status (ends.Served text) (inr (e, risen, put)) p = subst (HasPlacesAt logs events (view found) (view left)) (sym e) p
  places_to logs events status (ends.Store fault) (e, put) p = subst (HasPlacesAt logs events (view found) (view left)) (sym e) p
  places_to logs events status ends.NoMem (e, put) p = subst (HasPlacesAt logs events (view found) (view left)) (sym e) (inl p)

-- the next run may begin with the disk
pub loads_again : {D : Type 0} (taping : Type 0) (view : D → DiskView) (kind : Kind) (log_exit : Bool) (texts : List (List ℕ)) (count : ℕ) (tells : Type 0) (found placed left : D) (tape new_tape : List TapeTurn) (end : LoadEnd) → tells
    → ((d : D) → (image : Image) → IsCrashImage (view d) image → (view d).crash_images_at (view d).moment image) → IsFresh 0 1 (view left) → IsLeftAlone tells (view found) (view placed)
    → RunsLoad tells taping view (once_settings kind log_exit) texts count placed left tape new_tape end → MayServeAgain (view found) (view left)
loads_again taping view kind log_exit texts count tells found placed left tape new_tape end told is_now fresh alone run = record {
  fresh = λ was. fresh;
  fits = λ fit.
      fit_read (reading_of 0 1) 0 1 (view run.served) (view left) (run.read told) (is_now left)
      (fit_kept (IsUp run.up run.turns) (once_settings kind log_exit) texts (view placed) (view run.served) run.turns (run.store.keeps told) (is_now run.served) (fits_after (view found) (view placed) (alone.untouched told) (reading_of 0 1) 0 1 fit));
}

-- a run whose settings were read
pub loads_read : {D : Type 0} (taping : Type 0) (view : D → DiskView) (count : ℕ) (old new : World) (found left : D) (tape new_tape : List TapeTurn) (set : Option (List ℕ)) (faults faults' : ℕ) (status : Status) → first_refused (lines_in set) ≡ None
    → LoadsBy taping view (machine_of (set_by set)) (prompts_of (set_by set)) count old new found left tape new_tape status → (old.disk_tells → HasPlaces (set_by set).iolog_dir (set_by set).path (view left)) → (old.disk_tells → MayServeAgain (view found) (view left))
    → LoadsAs taping view set faults faults' count old new found left tape new_tape status
loads_read taping view count old new found left tape new_tape set faults faults' status none b places again = record {
  placed = b.placed;
  alone = b.alone;
  runs = runs_to taping view count old new b.placed left tape new_tape (machine_of (set_by set)) (prompts_of (set_by set)) status b.end b.run b.told;
  cause = cause_to taping view count old new b.placed left tape new_tape set faults faults' status b.end none b.told;
  complete = b.complete;
  whole = b.whole;
  places = λ told. places_to taping view count old new found left tape new_tape (set_by set).iolog_dir (set_by set).path status b.end b.told (places told);
  again = again;
}

-- a run whose settings weren't read
pub loads_unread : {D : Type 0} (taping : Type 0) (view : D → DiskView) (count : ℕ) (old : World) (found : D) (tape : List TapeTurn) (set : Option (List ℕ)) (faults faults' : ℕ) (status : Status)
    → (old.disk_tells → (image : Image) → (view found).crash_images_at (view found).moment image → IsCrashImage (view found) image) → Unread (lines_in set) faults faults' status → LoadsAs taping view set faults faults' count old old found found tape tape status
loads_unread taping view count old found tape set faults faults' status only_now (inl e) = subst (LoadsAs taping view set faults faults' count old old found found tape tape) (sym e) (record {
  placed = found;
  alone = alone_same old.disk_tells (view found);
  runs = (
    record {
      turns = [];
      served = found;
      up = up.NoMem;
      sized = tt;
      store = idle_store old.disk_tells taping (machine_of (set_by set)) (prompts_of (set_by set)) (view found) tape only_now;
      read = λ told. reads_nothing (view found) (only_now told);
      ends = inl refl;
    },
    λ told. refl,
  );
  cause = tt;
  complete = complete_load old.disk_tells taping view (machine_of (set_by set)) (prompts_of (set_by set)) count found found tape tape;
  whole = tt;
  places = λ told. inr refl;
  again = λ told. may_serve_still (view found);
})
loads_unread taping view count old found tape set faults faults' status only_now (inr (line, e, c)) = subst (LoadsAs taping view set faults faults' count old old found found tape tape) (sym e) (record {
  placed = found;
  alone = alone_same old.disk_tells (view found);
  runs = (λ told. keeps_nothing (view found) (only_now told) (machine_of (set_by set)) (prompts_of (set_by set)), refl, λ told. refl);
  cause = c;
  complete = complete_load old.disk_tells taping view (machine_of (set_by set)) (prompts_of (set_by set)) count found found tape tape;
  whole = tt;
  places = λ told. refl;
  again = λ told. may_serve_still (view found);
})
