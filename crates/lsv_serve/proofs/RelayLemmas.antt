-- A run of `relay`: what it leaves of the store, and its status.
use Rattle.std.proofs.Common.{◌≡◌, ◌∙◌, ◌≤◌, inl, inr, ℕ, List, Option, Some, None, Ok, refl, sym, subst, arith, ◌⊎◌}
use Rattle.lsv_link.specs.Link.{Continues}
use Rattle.lsv_forward.proofs.Moments.{SameStart}
use Rattle.lsv_conf.specs.Lines.{Placed, first_refused}
use Rattle.lsv_disk.specs.Throughout.{OnlyReads, Unchanged}
use Rattle.lsv_disk.specs.View.{DiskView, IsCrashImage, IsLeftAlone, IsUntouched, Places}
use Rattle.lsv_disk.specs.declared.file.FileId.{FileId}
use Rattle.lsv_disk.specs.declared.file.Owner.TheVariants as owners
use Rattle.lsv_disk.proofs.Composition.{OnlyNow, followed, reads_trans, unchanged_throughout}
use Rattle.lsv_seq.specs.Drawn.{entry_at, judged}
use Rattle.lsv_seq.specs.declared.entry.Entry.{Entry}
use Rattle.lsv_seq.proofs.Images.{entry_local}
use Rattle.lsv_seq.proofs.Laws.{numbers_owner}
use Rattle.lsv_machine.specs.Disks.{KeepsNumbers, NumbersFit}
use Rattle.lsv_keeper.specs.Reading.{reading_of}
use Rattle.lsv_keeper.proofs.Frames.{IsApart, Laws, keeps_files, lines_apart, resting_apart}
use Rattle.lsv_keeper.specs.declared.fault.StoreFault.{StoreFault}
use Rattle.lsv_forward.specs.Numbers.{HasNumbersCause}
use Rattle.lsv_forward.specs.Run.{Forwards, IsOfRelays, TouchesRelays, Stops}
use Rattle.lsv_forward.specs.declared.fault.NumbersFault.{NumbersFault}
use Rattle.lsv_forward.proofs.Going.{forwards_since, numbers_since, stops_since}
use Rattle.lsv_serve.specs.declared.status.Status.{Status}
use Rattle.lsv_serve.specs.declared.status.Status.TheVariants.{Served, NoUpstream, Usage, Conf, Store, ReadFault, WriteFault, PortFault, Pending, NoMem}
use Rattle.lsv_serve.specs.Causes.{HasPlaces, HasPlacesAt}
use Rattle.lsv_serve.specs.Program.{lines_in, set_by, upstream_of}
use Rattle.lsv_serve.specs.Relay.{HasRelayCause, IsUnread, RelayWorld, RelaysAs, RestsStore, RunsLogs, RunsRelay, store_fault, IsIdle, StopsLogs}
use Rattle.lsv_serve.proofs.ProgramLemmas.{Unread, unread_places}
use Rattle.lsv_serve.proofs.StartLemmas.{alone_trans}

-- ---- Only files of relaying were touched

log_no_relay : (n m : ℕ) → owners.Log n ≡ owners.Relay m → ⊥
log_no_relay n m e = cc

events_no_relay : (n m : ℕ) → owners.Events n ≡ owners.Relay m → ⊥
events_no_relay n m e = cc

numbers_no_relay : (n m : ℕ) → owners.Numbers n ≡ owners.Relay m → ⊥
numbers_no_relay n m e = cc

logs_apart : (n : ℕ) → IsApart n IsOfRelays
logs_apart n file own t = log_no_relay n t.0 (sym own ∙ t.1)

module _ (old new : DiskView) (laws : Laws old) (laws' : Laws new) (run : TouchesRelays old new) where
  keeps_numbers : (lane lanes : ℕ) → NumbersFit (reading_of lane lanes) lane lanes (IsCrashImage old) → KeepsNumbers (reading_of lane lanes) lane lanes old new
  keeps_numbers lane lanes fit = keeps_files lane lanes IsOfRelays (λ image. Unit {0}) old new laws laws' fit run (λ file own t. numbers_no_relay lane t.0 (sym own ∙ t.1))
      (λ n was last is d of_lane above k image from to left file own. run.beside k image from to left file (logs_apart n file own))

  same_entry : (lane : ℕ) → entry_at lane new.reads ≡ entry_at lane old.reads
  same_entry lane = entry_local lane old.reads new.reads (λ g own. run.elsewhere.same g (λ t. numbers_no_relay lane t.0 (sym (numbers_owner lane g own) ∙ t.1)))

  pub rests_store : RestsStore old new
  rests_store = record {
    elsewhere = run.elsewhere;
    logs = λ lane lanes n. let x = resting_apart lane lanes n IsOfRelays (λ image. Unit {0}) old new laws (logs_apart n) run in (x.moments, x.rests);
    lines = λ lane lanes. lines_apart lane lanes IsOfRelays (λ image. Unit {0}) old new laws laws' (λ file own t. events_no_relay lane t.0 (sym own ∙ t.1)) run;
    numbers = keeps_numbers;
    fresh_again = λ lane lanes fresh last e. (keeps_numbers lane lanes (fresh last (subst (λ (o : Option Entry). judged lane lanes o ≡ Ok last) (same_entry lane) e))).now;
  }

-- ---- The disk was given its places before

-- the disk with these places
abbrev placed : DiskView → DiskView → DiskView
placed old after = record old { places = after.places }

untouched_run : (before after : DiskView) → IsUntouched before after → after.places ≡ before.places → OnlyNow before → Unchanged before after
untouched_run before after u places now = record {
  later = let e = u.moment in omega arith;
  past = λ k image le left. u.past k image left;
  keeps = λ k image le left. u.keeps k image left;
  elsewhere = record { same = λ g other. u.quiet.same g; crash = λ g other c left. u.quiet.crash g c left };
  each = λ k image from to left. tt;
  beside = λ k image from to left g other. let e : k ≡ before.moment = (let m = u.moment in omega arith) in now image (u.past before.moment image (subst (λ (i : ℕ). after.crash_images_at i image) e left)) g;
  places = places;
}

untouched_placed : (old after : DiskView) → IsUntouched old after → IsUntouched (placed old after) after
untouched_placed old after u = record {
  quiet = record { same = u.quiet.same; crash = u.quiet.crash };
  moment = u.moment;
  past = u.past;
  keeps = u.keeps;
  counts = record { writes = u.counts.writes; syncs = u.counts.syncs };
}

untouched_places : (old after : DiskView) (places : Option Places) → IsUntouched old after → IsUntouched (record old { places = places }) (record after { places = places })
untouched_places old after places u = record {
  quiet = record { same = u.quiet.same; crash = u.quiet.crash };
  moment = u.moment;
  past = u.past;
  keeps = u.keeps;
  counts = record { writes = u.counts.writes; syncs = u.counts.syncs };
}

-- a disk that was left alone, but for its places, and then only read, was only read
reads_placed : (old after new : DiskView) (places : Option Places) → IsUntouched old after → OnlyNow old → OnlyReads (record after { places = places }) new → OnlyReads (record old { places = places }) new
reads_placed old after new places u now reads = reads_trans (record old { places = places }) (record after { places = places }) new
    (record {
      unchanged = untouched_run (record old { places = places }) (record after { places = places }) (untouched_places old after places u) refl now;
      counts = record { writes = u.counts.writes; syncs = u.counts.syncs };
    }) reads

-- what holds of the disk with its places holds of the disk before
unplaced : (old after new : DiskView) → RestsStore (placed old after) new → RestsStore old new
unplaced old after new r = record {
  elsewhere = record { same = r.elsewhere.same; crash = r.elsewhere.crash };
  logs = λ lane lanes n. let j = (r.logs lane lanes n).0 in let s = (r.logs lane lanes n).1 in (record { later = j.later; past = j.past; keeps = j.keeps; each = j.each }, record { images = s.images; reads = s.reads });
  lines = λ lane lanes. let l = r.lines lane lanes in record { moments = record { later = l.moments.later; past = l.moments.past; keeps = l.moments.keeps; each = l.moments.each }; now = l.now; reads = l.reads };
  numbers = λ lane lanes fit. let n = r.numbers lane lanes fit in record { moments = record { later = n.moments.later; past = n.moments.past; keeps = n.moments.keeps; each = n.moments.each }; now = n.now };
  fresh_again = λ lane lanes fresh. r.fresh_again lane lanes fresh;
}

pub rests_placed : (tells : Type 0) (old after new : DiskView) → tells → IsLeftAlone tells old after → Laws old → Laws new → TouchesRelays after new → RestsStore old new
rests_placed tells old after new told alone laws laws' run =
    unplaced old after new
    (rests_store (placed old after) new (record { reads_itself = laws.reads_itself; is_now = laws.is_now; only_now = laws.only_now }) laws'
    (followed IsOfRelays (λ image. Unit {0}) (placed old after) after new
    (unchanged_throughout IsOfRelays (λ image. Unit {0}) (placed old after) after (λ image is. tt) (untouched_run (placed old after) after (untouched_placed old after (alone.untouched told)) refl laws.only_now)) run))

-- ---- Nothing was done

pub rests_nothing : (disk : DiskView) → Laws disk → RestsStore disk disk
rests_nothing disk laws = rests_store disk disk laws laws (record {
  later = omega arith;
  past = λ k image le left. left;
  keeps = λ k image le left. left;
  elsewhere = record { same = λ g other. refl; crash = λ g other c left. left };
  each = λ k image from to left. tt;
  beside = λ k image from to left g other. let e : k ≡ disk.moment = omega arith in laws.only_now image (subst (λ (i : ℕ). disk.crash_images_at i image) e left) g;
  places = refl;
})

-- ---- By its status

idle : (w : RelayWorld) → IsIdle w w
idle w = record {
  unlinked = refl;
  disk = record {
    untouched = λ told. record {
      quiet = record { same = λ file. refl; crash = λ file state left. left };
      moment = refl;
      past = λ k image left. left;
      keeps = λ k image left. left;
      counts = record { writes = λ file. refl; syncs = λ file. refl };
    };
    faults = λ file. refl;
  };
}

-- settings that weren't read
pub relays_unread : {D : Type 0} (view : D → DiskView) (found : Option (List ℕ)) (faults faults' : ℕ) (w : RelayWorld) (status : Status) → (w.disk_tells → Laws w.disk) → Unread (lines_in found) faults faults' status → RelaysAs view found faults faults' w w status
relays_unread view found faults faults' w status laws unread = record {
  runs = runs unread;
  cause = cause unread;
  rests = λ told. rests_nothing w.disk (laws told);
  places = λ told. unread_places (lines_in found) faults faults' (set_by found).iolog_dir (set_by found).path w.disk status unread;
}
  where
    runs : Unread (lines_in found) faults faults' status → RunsRelay view (upstream_of (set_by found)) w w status
    runs (inl e) = subst (RunsRelay view (upstream_of (set_by found)) w w) (sym e) (inl (idle w))
    runs (inr (line, e, c)) = subst (RunsRelay view (upstream_of (set_by found)) w w) (sym e) refl

    cause : Unread (lines_in found) faults faults' status → HasRelayCause (lines_in found) faults faults' status
    cause (inl e) = subst (HasRelayCause (lines_in found) faults faults') (sym e) tt
    cause (inr (line, e, c)) = subst (HasRelayCause (lines_in found) faults faults') (sym e) c

-- no line of the settings was refused
read_cause : {D : Type 0} (view : D → DiskView) (lines : List Placed) (faults faults' : ℕ) (upstream : Option (List ℕ)) (old new : RelayWorld) (status : Status) → first_refused lines ≡ None → RunsRelay view upstream old new status → ((line : ℕ) → status ≡ Conf line → ⊥)
    → HasRelayCause lines faults faults' status
read_cause view lines faults faults' upstream old new Served none runs read = none
read_cause view lines faults faults' upstream old new (Pending left) none runs read = none
read_cause view lines faults faults' upstream old new NoUpstream none runs read = none
read_cause view lines faults faults' upstream old new (Store fault) none runs read = none
read_cause view lines faults faults' upstream old new NoMem none runs read = tt
read_cause view lines faults faults' upstream old new (Conf line) none runs read = absurd (read line refl)
read_cause view lines faults faults' upstream old new Usage none runs read = runs
read_cause view lines faults faults' upstream old new ReadFault none runs read = runs
read_cause view lines faults faults' upstream old new WriteFault none runs read = runs
read_cause view lines faults faults' upstream old new PortFault none runs read = runs

-- settings that were read
pub relays_read : {D : Type 0} (view : D → DiskView) (found : Option (List ℕ)) (faults faults' : ℕ) (old new : RelayWorld) (status : Status) → first_refused (lines_in found) ≡ None → RunsRelay view (upstream_of (set_by found)) old new status
    → ((line : ℕ) → status ≡ Conf line → ⊥) → (old.disk_tells → RestsStore old.disk new.disk) → (old.disk_tells → HasPlacesAt (set_by found).iolog_dir (set_by found).path old.disk new.disk status)
    → RelaysAs view found faults faults' old new status
relays_read view found faults faults' old new status none runs read rests places = record {
  runs = runs;
  cause = read_cause view (lines_in found) faults faults' (upstream_of (set_by found)) old new status none runs read;
  rests = rests;
  places = places;
}

-- a run doesn't end with a fault of the words
pub runs_no_usage : {D : Type 0} (view : D → DiskView) (upstream : Option (List ℕ)) (old new : RelayWorld) (status : Status) → RunsRelay view upstream old new status → status ≡ Usage → ⊥
runs_no_usage view upstream old new status runs e = subst (RunsRelay view upstream old new) e runs

-- ---- By its end

-- without another server nothing is done
pub runs_idle : {D : Type 0} (view : D → DiskView) (upstream : Option (List ℕ)) (w : RelayWorld) → upstream ≡ None → RunsRelay view upstream w w NoUpstream
runs_idle view upstream w none = (none, idle w)

-- a run over the logs, by how many are left
pub runs_logs : {D : Type 0} (view : D → DiskView) (host : List ℕ) (old new : RelayWorld) (left : ℕ) → Forwards view host old.disk_tells old.link_tells old.disk new.disk old.link new.link old.counts new.counts left → RunsLogs view (Some host) old new left
runs_logs view host old new left logs = record { host = host; host_is = refl; logs = logs }

pub runs_stops : {D : Type 0} (view : D → DiskView) (host : List ℕ) (old new : RelayWorld) → Stops view host old.disk_tells old.link_tells old.disk new.disk old.link new.link old.counts new.counts → RunsRelay view (Some host) old new NoMem
runs_stops view host old new logs = inr (record { host = host; host_is = refl; logs = logs })

pub runs_unread : (host : List ℕ) (old new : RelayWorld) (fault : NumbersFault) (of_store : StoreFault) → of_store ≡ store_fault fault → HasNumbersCause old.disk_tells old.disk new.disk fault → new.link ≡ old.link
    → (old.disk_tells → OnlyReads old.disk new.disk) → IsUnread (Some host) old new of_store
runs_unread host old new fault of_store is cause link reads =
    record {
      host = host;
      host_is = refl;
      of_numbers = fault;
      is = is;
      cause = cause;
      unlinked = link;
      reads = λ told. subst (λ (places : Option Places). OnlyReads (record old.disk { places = places }) new.disk) (sym (reads told).unchanged.places) (reads told);
    }

-- ---- From the disk before its places

module _ {D : Type 0} (view : D → DiskView) (old : RelayWorld) (after : DiskView) (alone : IsLeftAlone old.disk_tells old.disk after) (now : old.disk_tells → OnlyNow old.disk) where
  abbrev mid : RelayWorld
  mid = record old { disk = after }

  reads_same : old.disk_tells → after.reads ≡ old.disk.reads
  reads_same told = λ i file. (alone.untouched told).quiet.same file i

  faults_up : (file : FileId) → old.disk.faults file ≤ after.faults file
  faults_up file = let e = alone.faults file in omega arith

  same_counts : Continues old.counts old.counts
  same_counts = record { faults = omega arith; full = omega arith; waits = omega arith }

  start : old.disk_tells → SameStart old.disk after
  start told = let u = alone.untouched told in record {
    reads = reads_same told;
    up = let m = u.moment in omega arith;
    images = λ image is file. u.quiet.crash file (image file) (is file);
    meanwhile = λ k image from to left. let e : k ≡ old.disk.moment = (let m = u.moment in omega arith) in now told image (u.past old.disk.moment image (subst (λ (i : ℕ). after.crash_images_at i image) e left));
  }

  logs_placed : (host : List ℕ) (upstream : Option (List ℕ)) (new : RelayWorld) (left : ℕ) → (old.disk_tells → TouchesRelays after new.disk) → upstream ≡ Some host → RunsLogs view (Some host) mid new left → RunsLogs view upstream old new left
  logs_placed host upstream new left run is runs = record {
    host = runs.host;
    host_is = is ∙ runs.host_is;
    logs = forwards_since view runs.host old.disk_tells old.link_tells old.disk after new.disk old.link new.link old.counts old.counts new.counts left start run faults_up same_counts runs.logs;
  }

  stops_placed : (host : List ℕ) (upstream : Option (List ℕ)) (new : RelayWorld) → (old.disk_tells → TouchesRelays after new.disk) → upstream ≡ Some host → IsIdle mid new ⊎ StopsLogs view (Some host) mid new → IsIdle old new ⊎ StopsLogs view upstream old new
  stops_placed host upstream new run is (inl i) = inl (record { unlinked = i.unlinked; disk = alone_trans old.disk_tells old.disk after new.disk alone i.disk })
  stops_placed host upstream new run is (inr s) = inr (record {
    host = s.host;
    host_is = is ∙ s.host_is;
    logs = stops_since view s.host old.disk_tells old.link_tells old.disk after new.disk old.link new.link old.counts old.counts new.counts start run faults_up same_counts s.logs;
  })

  pub runs_placed : (host : List ℕ) (upstream : Option (List ℕ)) (new : RelayWorld) (status : Status) → (old.disk_tells → TouchesRelays after new.disk) → upstream ≡ Some host → RunsRelay view (Some host) mid new status → RunsRelay view upstream old new status
  runs_placed host upstream new Served run is runs = logs_placed host upstream new 0 run is runs
  runs_placed host upstream new (Pending left) run is runs = (runs.0, logs_placed host upstream new left run is runs.1)
  runs_placed host upstream new NoUpstream run is runs = absurd (let no : Some host ≡ None = runs.0 in cc)
  runs_placed host upstream new (Store fault) run is runs = record {
    host = runs.host;
    host_is = is ∙ runs.host_is;
    of_numbers = runs.of_numbers;
    is = runs.is;
    cause = numbers_since old.disk_tells old.disk after new.disk runs.of_numbers reads_same faults_up runs.cause;
    unlinked = runs.unlinked;
    reads = λ told. reads_placed old.disk after new.disk new.disk.places (alone.untouched told) (now told) (runs.reads told);
  }
  runs_placed host upstream new (Conf line) run is runs = runs
  runs_placed host upstream new NoMem run is runs = stops_placed host upstream new run is runs
  runs_placed host upstream new Usage run is runs = absurd runs
  runs_placed host upstream new ReadFault run is runs = absurd runs
  runs_placed host upstream new WriteFault run is runs = absurd runs
  runs_placed host upstream new PortFault run is runs = absurd runs

-- after a run for a host the disk has its places
pub places_behind : {D : Type 0} (view : D → DiskView) (host : List ℕ) (old new : RelayWorld) (logs events : List ℕ) (disk : DiskView) (status : Status) → RunsRelay view (Some host) old new status → ((line : ℕ) → status ≡ Conf line → ⊥)
    → HasPlaces logs events new.disk → HasPlacesAt logs events disk new.disk status
places_behind view host old new logs events disk Served runs read places = places
places_behind view host old new logs events disk (Pending left) runs read places = places
places_behind view host old new logs events disk NoUpstream runs read places = absurd (let no : Some host ≡ None = runs.0 in cc)
places_behind view host old new logs events disk (Store fault) runs read places = places
places_behind view host old new logs events disk (Conf line) runs read places = absurd (read line refl)
places_behind view host old new logs events disk NoMem runs read places = inl places
places_behind view host old new logs events disk Usage runs read places = absurd runs
places_behind view host old new logs events disk ReadFault runs read places = absurd runs
places_behind view host old new logs events disk WriteFault runs read places = absurd runs
places_behind view host old new logs events disk PortFault runs read places = absurd runs

pub places_kept : (logs events : List ℕ) (before new : DiskView) → TouchesRelays before new → HasPlaces logs events before → HasPlaces logs events new
places_kept logs events before new run (inl given) = inl (run.places ∙ given)
places_kept logs events before new run (inr none) = inr (run.places ∙ none)
