-- Opening a store: what it leaves at each moment, and what the keeper then stands for.
use Rattle.std.proofs.lemmas.Bool.{cases_lt}
use Rattle.std.proofs.Common.{◌≡◌, ◌≢◌, ◌≤◌, ◌<◌, ◌+◌, ◌*◌, ℕ, List, [], length, refl, sym, ◌∙◌, ap, subst, inl, inr, arith, Option, Some, None, Ok, Err, ◌⊎◌}
use Rattle.std.specs.Prelude.{◌==◌, ◌&&◌, ◌||◌, ◌-◌, ◌%◌, ◌/◌, slice_index, nat_le, nat_lt, IfErr, IsErrAnd, IsErrOf, Bool, true, false, if◌then◌else◌, Result}
use Rattle.std.proofs.Math.Nat.{mod-add-div'}
use Rattle.lsv_bundle.specs.Calls.{IsOpenFault}
use Rattle.lsv_bundle.specs.declared.fault.BundleFault.{BundleFault}
use Rattle.lsv_bundle.specs.declared.fault.BundleFault.TheVariants as bundle_faults
use Rattle.lsv_bundle.specs.Committed.{IsDamaged, IsFirstShort, IsShort}
use Rattle.lsv_bundle.specs.Shape.{journal_of, parts_of}
use Rattle.lsv_bundle.specs.declared.shape.Shape.TheVariants as shapes
use Rattle.lsv_disk.specs.Files.{file_of, same_file}
use Rattle.lsv_disk.specs.Throughout.{Throughout}
use Rattle.lsv_disk.specs.View.{DiskView, HasOwnCause, Image, IsCrashImage}
use Rattle.lsv_disk.specs.declared.file.FileId.{FileId}
use Rattle.lsv_disk.specs.declared.file.Owner.TheVariants as owners
use Rattle.lsv_disk.specs.declared.file.Part.{Part}
use Rattle.lsv_disk.specs.declared.file.Part.TheVariants.{Lines}
use Rattle.lsv_disk.proofs.Composition.{followed, widened}
use Rattle.lsv_disk.proofs.Same.{same_is, same_itself}
use Rattle.lsv_eventlog.specs.Moments.{IsAsBefore}
use Rattle.lsv_eventlog.specs.Recovered.{HoldsLines, IsOfEventLog}
use Rattle.lsv_eventlog.specs.Value.{committed_text}
use Rattle.lsv_eventlog.proofs.Laws.{local_text, of_lane}
use Rattle.lsv_iolog.specs.Recovered.{Decided, IsOfLog, IsUnmade, Replays}
use Rattle.lsv_iolog.proofs.Decided.{decided}
use Rattle.lsv_iolog.proofs.Replaying.{absent_replay, one_replay}
use Rattle.lsv_journal.proofs.Laws.{own_alone, own_owner}
use Rattle.lsv_record.specs.Points.{Stored}
use Rattle.lsv_seq.specs.declared.entry.Entry.{Entry}
use Rattle.lsv_seq.specs.declared.fault.SeqFault.{SeqFault}
use Rattle.lsv_seq.specs.declared.fault.SeqFault.TheVariants as seq_faults
use Rattle.lsv_seq.proofs.Laws.{entry_alone, left_as_some, numbers_owner}
use Rattle.lsv_defs.specs.Causes.{HasRisen}
use Rattle.lsv_disk.specs.declared.file.Owner.{Owner}
use Rattle.lsv_seq.specs.declared.numbers.Numbers.{Numbers}
use Rattle.lsv_seq.specs.Drawn.{IsAsSomeCrash, IsNumbersFile, LastDrawn, entry_at, judged, judged_entry, numbers_file}
use Rattle.lsv_seq.specs.Entry.{is_of_lane, most}
use Rattle.lsv_seq.specs.Value.{lane_of, lanes_of, last_of, next_of, pending_of}
use Rattle.lsv_session.specs.Table.{Sessions}
use Rattle.lsv_session.specs.declared.connection.ConnState.TheVariants.{Fresh}
use Rattle.lsv_machine.specs.Disks.{IsOfLaneStore, KeepsNumbers, LinesAsBefore, NumbersFit}
use Rattle.lsv_machine.specs.Durable.{Recovered}
use Rattle.lsv_machine.specs.Keeping.{Opened, OpensStore}
use Rattle.lsv_machine.specs.Machine.{IsOfLane, LogState, LogState.Absent, LogState.Damaged, LogState.There, Machine}
use Rattle.lsv_machine.specs.Stands.{Sound}
use Rattle.lsv_machine.specs.Starts.{ReadsAs, StartsAs}
use Rattle.lsv_machine.specs.Work.{next_number}
use Rattle.lsv_machine.proofs.Choices.{EqOr.equal, EqOr.unequal, eq_or}
use Rattle.lsv_machine.proofs.Folds.{lines_rest_on, numbers_down, numbers_on}
use Rattle.lsv_keeper.specs.Logs.{open_logs}
use Rattle.lsv_keeper.specs.Opening.{IsEventsFault, IsNumbersFault, KeepsEntry, OpensAs, OpensEvents, OpensNumbers, events_fault, number_fault}
use Rattle.lsv_keeper.specs.Reading.{IsBare, IsDrawn, reading_of}
use Rattle.lsv_keeper.specs.Represents.{EventsAre, NumbersAre, Represents, pending_count}
use Rattle.lsv_keeper.specs.Rows.{IsOfJob}
use Rattle.lsv_keeper.specs.Value.{KeeperView, sessions_of, settings_of}
use Rattle.lsv_keeper.specs.declared.fault.StoreFault.{StoreFault}
use Rattle.lsv_keeper.specs.declared.fault.StoreFault.TheVariants as store_faults
use Rattle.lsv_keeper.specs.declared.logs.OpenLog.{OpenLog}
use Rattle.lsv_keeper.proofs.Frames.{IsApart, Laws, beside_events, events_touch, lines_apart, mix, mix_image, mix_same, resting_apart, resting_on, unmade_stays}
use Rattle.lsv_keeper.proofs.Standing.{numbers_stay}

-- ---- Numbers

-- an image with the number entry of another tells the same last number
drawn_as : (lane lanes last : ℕ) (was image : Image) → entry_at lane image ≡ entry_at lane was → IsDrawn lane lanes was last → IsDrawn lane lanes image last
drawn_as lane lanes last was image same (inl d) = inl (same ∙ d)
drawn_as lane lanes last was image same (inr (none, zero)) = inr (same ∙ none, zero)

-- a log above the last number of some image has no file in an image whose files of it a crash could leave
bare_at : (lane lanes n last : ℕ) (old : DiskView) (was image : Image) → Laws old → NumbersFit (reading_of lane lanes) lane lanes (IsCrashImage old) → IsCrashImage old was → IsDrawn lane lanes was last
    → IsOfLane lane lanes n → last < n → ((file : FileId) → IsOfLog n file → old.crash_states file (image file)) → IsBare image n
bare_at lane lanes n last old was image laws fit was_is d of_lane above left =
    let its : IsCrashImage old (mix (owners.Log n) image old.reads) = mix_image (owners.Log n) image old laws (λ file own. left file own) in
    let bare : IsBare (mix (owners.Log n) image old.reads) n = fit.none_above was (mix (owners.Log n) image old.reads) last n was_is its d of_lane above in
    λ file own. mix_same (owners.Log n) image old.reads file own ∙ bare file own

-- one file with this content, all others as the disk reads
abbrev one : FileId → Option (List ℕ) → DiskView → Image
one file c disk g = if same_file g file then c else disk.reads g

one_left : (file : FileId) (c : Option (List ℕ)) (disk : DiskView) → Laws disk → disk.crash_states file c → (g : FileId) → disk.crash_states g (one file c disk g)
one_left file c disk laws left g = go (same_file g file) refl
  where
    go : (b : Bool) → same_file g file ≡ b → disk.crash_states g (if same_file g file then c else disk.reads g)
    go true e = rw e (subst (λ (h : FileId). disk.crash_states h c) (sym (same_is g file e)) left)
    go false e = rw e (laws.reads_itself g)

one_at : (file : FileId) (c : Option (List ℕ)) (disk : DiskView) → one file c disk file ≡ c
one_at file c disk = let e = same_itself file in rw e refl

-- nor does a crash leave one
unmade_at : (lane lanes n last : ℕ) (old : DiskView) (was : Image) → Laws old → NumbersFit (reading_of lane lanes) lane lanes (IsCrashImage old) → IsCrashImage old was → IsDrawn lane lanes was last
    → IsOfLane lane lanes n → last < n → IsUnmade n old
unmade_at lane lanes n last old was laws fit was_is d of_lane above file own c left =
    sym (one_at file c old) ∙ bare_at lane lanes n last old was (one file c old) laws fit was_is d of_lane above (λ g its. one_left file c old laws left g) file own

-- while the numbers are opened an image has the last number of one before; or none was drawn, where there was no entry
abbrev pub AtOpening : (lane lanes : ℕ) → DiskView → Image → Type 0
AtOpening lane lanes old image = IsAsSomeCrash lane old image ⊎ ((entry_at lane old.reads ≡ None) × LastDrawn lane lanes 0 image)

pub number_moments : (lane lanes : ℕ) (old new : DiskView) → Throughout (λ g. g ≡ numbers_file lane) (λ image. IsAsSomeCrash lane old image ⊎ LastDrawn lane lanes 0 image) old new
    → (entry_at lane old.reads ≢ None → Throughout (λ g. g ≡ numbers_file lane) (IsAsSomeCrash lane old) old new) → Throughout (λ g. g ≡ numbers_file lane) (AtOpening lane lanes old) old new
number_moments lane lanes old new any kept = go (entry_at lane old.reads) refl
  where
    made : entry_at lane old.reads ≡ None → (image : Image) → IsAsSomeCrash lane old image ⊎ LastDrawn lane lanes 0 image → AtOpening lane lanes old image
    made none image (inl was) = inl was
    made none image (inr zero) = inr (none, zero)

    go : (e : Option Entry) → entry_at lane old.reads ≡ e → Throughout (λ g. g ≡ numbers_file lane) (AtOpening lane lanes old) old new
    go None e = widened (λ g. g ≡ numbers_file lane) (λ g. g ≡ numbers_file lane) (λ image. IsAsSomeCrash lane old image ⊎ LastDrawn lane lanes 0 image) (AtOpening lane lanes old) old new (λ g t. t)
        (λ image at _. made e image at) any
    go (Some x) e = widened (λ g. g ≡ numbers_file lane) (λ g. g ≡ numbers_file lane) (IsAsSomeCrash lane old) (AtOpening lane lanes old) old new (λ g t. t)
        (λ image at _. inl at) (kept (λ none. let f : Some x ≡ None = sym e ∙ none in cc))

-- and so the numbers of such images fit
fits_opening : (lane lanes : ℕ) (old : DiskView) (images : Image → Type 0) → Laws old → NumbersFit (reading_of lane lanes) lane lanes (IsCrashImage old) → ((image : Image) → images image → AtOpening lane lanes old image)
    → ((image : Image) → images image → (n : ℕ) (file : FileId) → IsOfLog n file → old.crash_states file (image file)) → NumbersFit (reading_of lane lanes) lane lanes images
fits_opening lane lanes old images laws fit at left = record {
  told = λ image is. told image (at image is);
  none_above = λ a b last n a_is b_is d of_lane above. none a b last n (at a a_is) b_is d of_lane above;
}
  where
    told : (image : Image) → AtOpening lane lanes old image → (last : ℕ) × IsDrawn lane lanes image last
    told image (inl (was, crash, same)) = (let (last, d) = fit.told was crash in (last, drawn_as lane lanes last was image same d))
    told image (inr (nothing, zero)) = (0, inl zero)

    none : (a b : Image) (last n : ℕ) → AtOpening lane lanes old a → images b → IsDrawn lane lanes a last → IsOfLane lane lanes n → last < n → IsBare b n
    none a b last n (inl (was, crash, same)) b_is d of_lane above = bare_at lane lanes n last old was b laws fit crash (drawn_as lane lanes last a was (sym same) d) of_lane above (λ file own. left b b_is n file own)
    none a b last n (inr (nothing, zero)) b_is d of_lane above = bare_at lane lanes n 0 old old.reads b laws fit laws.reads_itself (inr (nothing, refl)) of_lane (omega arith) (λ file own. left b b_is n file own)

log_not_numbers : (lane n : ℕ) → IsApart n (λ g. g ≡ numbers_file lane)
log_not_numbers lane n file own t = let e : owners.Log n ≡ owners.Numbers lane = sym own ∙ ap (λ (g : FileId). g.owner) t in cc

log_not_events : (lane n : ℕ) → IsApart n (IsOfEventLog lane)
log_not_events lane n file own t = let e : owners.Log n ≡ owners.Events lane = sym own ∙ of_lane lane file t in cc

events_not_numbers : (lane : ℕ) (file : FileId) → file.owner ≡ owners.Events lane → file ≡ numbers_file lane → ⊥
events_not_numbers lane file own t = let e : owners.Events lane ≡ owners.Numbers lane = sym own ∙ ap (λ (g : FileId). g.owner) t in cc

numbers_opening : (lane lanes : ℕ) (old new : DiskView) → Laws old → Laws new → Throughout (λ g. g ≡ numbers_file lane) (AtOpening lane lanes old) old new → NumbersFit (reading_of lane lanes) lane lanes (IsCrashImage old)
    → KeepsNumbers (reading_of lane lanes) lane lanes old new
numbers_opening lane lanes old new laws laws' run fit = record {
  moments = record { later = run.later; past = run.past; keeps = run.keeps; each = fits };
  now = numbers_down (reading_of lane lanes) lane lanes (new.crash_images_at new.moment) (IsCrashImage new) laws'.is_now (fits new.moment run.later (omega arith));
}
  where
    fits : (k : ℕ) → old.moment ≤ k → k ≤ new.moment → NumbersFit (reading_of lane lanes) lane lanes (new.crash_images_at k)
    fits k from to = fits_opening lane lanes old (new.crash_images_at k) laws fit (λ image left. run.each k image from to left) (λ image left n file own. run.beside k image from to left file (log_not_numbers lane n file own))

-- ---- What opening leaves

-- the numbers were opened, or that failed
pub numbers_store : (lane lanes : ℕ) (old new : DiskView) → Laws old → Laws new → Throughout (λ g. g ≡ numbers_file lane) (AtOpening lane lanes old) old new → ((file : FileId) → old.faults file ≤ new.faults file)
    → OpensStore (reading_of lane lanes) lane lanes old new
numbers_store lane lanes old new laws laws' run up = record {
  monotone = up;
  logs = λ n. let x = resting_apart lane lanes n (λ g. g ≡ numbers_file lane) (AtOpening lane lanes old) old new laws (log_not_numbers lane n) run in (x.moments, x.rests);
  numbers = λ fit. numbers_opening lane lanes old new laws laws' run fit;
  lines = lines_apart lane lanes (λ g. g ≡ numbers_file lane) (AtOpening lane lanes old) old new laws laws' (events_not_numbers lane) run;
  files = widened (λ g. g ≡ numbers_file lane) (IsOfLaneStore lane lanes (λ n. ⊥)) (AtOpening lane lanes old) (λ image. Unit {0}) old new (λ file e. inr (inl (ap (λ (f : FileId). f.owner) e))) (λ image p rest. tt) run;
}

-- so was the event log
pub events_store : (lane lanes : ℕ) (old new : DiskView) → Laws old → Laws new → Throughout (IsOfEventLog lane) (IsAsBefore lane old) old new
    → ((text : List ℕ) → HoldsLines old.reads lane text → HoldsLines new.reads lane text) → ((text : List ℕ) → HoldsLines new.reads lane text → HoldsLines old.reads lane text)
    → ((file : FileId) → old.faults file ≤ new.faults file) → OpensStore (reading_of lane lanes) lane lanes old new
events_store lane lanes old new laws laws' run to back up = record {
  monotone = up;
  logs = λ n. let x = resting_apart lane lanes n (IsOfEventLog lane) (IsAsBefore lane old) old new laws (log_not_events lane n) run in (x.moments, x.rests);
  numbers = λ fit. (beside_events lane lanes old new laws laws' fit run to back up).numbers;
  lines = record {
    moments = record { later = run.later; past = run.past; keeps = run.keeps; each = each };
    now = λ image is. each new.moment run.later (omega arith) image (laws'.is_now image is);
    reads = record { to = to; back = back };
  };
  files = events_touch lane lanes (λ n. ⊥) (IsAsBefore lane old) old new run;
}
  where
    each : (k : ℕ) → old.moment ≤ k → k ≤ new.moment → LinesAsBefore (reading_of lane lanes) (IsCrashImage old) (new.crash_images_at k)
    each k from to' image left = let w = run.each k image from to' left in (w.before, w.was, record { to = w.same; back = w.back })

-- one after the other
pub store_on : (lane lanes : ℕ) (a b c : DiskView) → OpensStore (reading_of lane lanes) lane lanes a b → OpensStore (reading_of lane lanes) lane lanes b c → OpensStore (reading_of lane lanes) lane lanes a c
store_on lane lanes a b c s t = record {
  monotone = λ file. let x = s.monotone file in let y = t.monotone file in omega arith;
  logs = λ n. let x = resting_on lane lanes n a b c (record { moments = (s.logs n).0; rests = (s.logs n).1 }) (record { moments = (t.logs n).0; rests = (t.logs n).1 }) in (x.moments, x.rests);
  numbers = λ fit. let x = s.numbers fit in numbers_on (reading_of lane lanes) lane lanes a b c x (t.numbers x.now);
  lines = lines_rest_on (reading_of lane lanes) a b c s.lines t.lines;
  files = followed (IsOfLaneStore lane lanes (λ n. ⊥)) (λ image. Unit {0}) a b c s.files t.files;
}

-- ---- Why the event log isn't opened

damaged_alike : (lane : ℕ) (a b : Image) (part : Part) → ((file : FileId) → file.owner ≡ owners.Events lane → b file ≡ a file) → IsDamaged (owners.Events lane) shapes.Lines a part → IsDamaged (owners.Events lane) shapes.Lines b part
damaged_alike lane a b part same d = record {
  body = d.body;
  entry = record { is_body = d.entry.is_body; last = own_alone 89 (journal_of (owners.Events lane)) a b (λ g own. same g (own_owner (journal_of (owners.Events lane)) g own)) ∙ d.entry.last };
  first = go d.first;
}
  where
    go : IsFirstShort (owners.Events lane) a d.body.lens (parts_of shapes.Lines) part → IsFirstShort (owners.Events lane) b d.body.lens (parts_of shapes.Lines) part
    go (inl (is, short)) = inl (is, subst (λ (o : Option (List ℕ)). IsShort o (slice_index d.body.lens 0)) (sym (same (file_of (owners.Events lane) Lines) refl)) short)
    go (inr (whole, none)) = absurd none

-- it is the same of two disks whose files of the event log read alike
pub fault_alike : (lane : ℕ) (a b : Image) (fault : StoreFault) → ((file : FileId) → file.owner ≡ owners.Events lane → b file ≡ a file) → IsEventsFault lane a fault → IsEventsFault lane b fault
fault_alike lane a b (store_faults.Device o) same is = is
fault_alike lane a b (store_faults.Damaged file) same is = (is.0, damaged_alike lane a b file.part same is.1)
fault_alike lane a b (store_faults.LanesDiffer kept asked) same is = is
fault_alike lane a b store_faults.NoMem same is = is

pub events_alike : (lane : ℕ) (P : Image → Type 0) (old new : DiskView) → Throughout (λ g. g ≡ numbers_file lane) P old new → (file : FileId) → file.owner ≡ owners.Events lane → old.reads file ≡ new.reads file
events_alike lane P old new run file own = sym (run.elsewhere.same file (events_not_numbers lane file own))

pub lines_alike : (lane : ℕ) (P : Image → Type 0) (old mid : DiskView) (text : List ℕ) → Throughout (λ g. g ≡ numbers_file lane) P old mid → HoldsLines mid.reads lane text → HoldsLines old.reads lane text
lines_alike lane P old mid text run is = local_text mid.reads old.reads lane text (λ file own. events_alike lane P old mid run file (of_lane lane file own)) is

-- what opening touches
pub numbers_run : (lane : ℕ) (P : Image → Type 0) (old new : DiskView) → Throughout (λ g. g ≡ numbers_file lane) P old new → Throughout (IsOfJob lane None) (λ image. Unit {0}) old new
numbers_run lane P old new run = widened (λ g. g ≡ numbers_file lane) (IsOfJob lane None) P (λ image. Unit {0}) old new (λ file e. inl (ap (λ (f : FileId). f.owner) e)) (λ image p rest. tt) run

pub both_run : (lane : ℕ) (P Q : Image → Type 0) (old mid new : DiskView) → Throughout (λ g. g ≡ numbers_file lane) P old mid → Throughout (IsOfEventLog lane) Q mid new → Throughout (IsOfJob lane None) (λ image. Unit {0}) old new
both_run lane P Q old mid new first second = followed (IsOfJob lane None) (λ image. Unit {0}) old mid new (numbers_run lane P old mid first)
    (widened (IsOfEventLog lane) (IsOfJob lane None) Q (λ image. Unit {0}) mid new (λ file own. inr (of_lane lane file own)) (λ image p rest. tt) second)

-- ---- The last entry of the numbers

-- while the numbers are opened
pub numbers_entry : (lane : ℕ) (old new : DiskView) → Throughout (λ g. g ≡ numbers_file lane) (IsAsSomeCrash lane old) old new → entry_at lane new.reads ≡ entry_at lane old.reads → KeepsEntry lane old new
numbers_entry lane old new run same = record { moments = λ k image from to left. run.each k image from to left; reads = same }

numbers_not_events : (lane : ℕ) (file : FileId) → IsNumbersFile lane file → IsOfEventLog lane file → ⊥
numbers_not_events lane file own t = let e : owners.Numbers lane ≡ owners.Events lane = sym (numbers_owner lane file own) ∙ of_lane lane file t in cc

-- and while the event log is opened after them
pub entry_on : (lane : ℕ) (P : Image → Type 0) (old mid new : DiskView) → Laws mid → old.moment ≤ mid.moment → KeepsEntry lane old mid → Throughout (IsOfEventLog lane) P mid new → KeepsEntry lane old new
entry_on lane P old mid new laws later first run = record {
  moments = moments;
  reads = entry_alone lane mid.reads new.reads (λ g own. run.elsewhere.same g (numbers_not_events lane g own)) ∙ first.reads;
}
  where
    moments : (k : ℕ) (image : Image) → old.moment ≤ k → k ≤ new.moment → new.crash_images_at k image → IsAsSomeCrash lane old image
    moments k image from to left = elim (cases_lt mid.moment k) [
      | inl after ↦ left_as_some lane old mid laws.reads_itself (λ was crash. first.moments mid.moment was later (omega arith) (laws.is_now was crash)) image
          (λ g own. run.beside k image (omega arith) to left g (numbers_not_events lane g own))
      | inr before ↦ first.moments k image from before (run.past k image before left)
    ]

-- ---- The last number

both_second : (a b : Bool) → (a && b) ≡ true → b ≡ true
both_second true b e = e
both_second false b e = absurd (cc e)

both_first : (a b : Bool) → (a && b) ≡ true → a ≡ true
both_first true b e = refl
both_first false b e = absurd (cc e)

equal_is : (a b : ℕ) → (a == b) ≡ true → a ≡ b
equal_is a b e = elim (eq_or a b) [
  | equal p t ↦ p
  | unequal p t ↦ absurd (let f : false ≡ true = sym t ∙ e in cc)
]

sum_is : (last lane r q : ℕ) → last ≢ 0 → r ≡ lane → r + q ≡ last - 1 → last ≡ lane + 1 + q
sum_is last lane r q some is sum = omega arith

of_lane_is : (last lane lanes : ℕ) → (last == 0 || (nat_le last most && ((last - 1) % lanes == lane))) ≡ true → (last ≡ 0) ⊎ IsOfLane lane lanes last
of_lane_is last lane lanes e = elim (eq_or last 0) [
  | equal p t ↦ inl p
  | unequal p t ↦ let f : (nat_le last most && ((last - 1) % lanes == lane)) ≡ true = rw t at e in
      inr ((last - 1) / lanes, sum_is last lane ((last - 1) % lanes) ((last - 1) / lanes * lanes) p (equal_is ((last - 1) % lanes) lane (both_second (nat_le last most) ((last - 1) % lanes == lane) f)) (mod-add-div' (last - 1) lanes))
]

-- the last number of a lane's numbers is one of its, or none was drawn
number_is : (lane lanes : ℕ) (n : Numbers) → lane_of n ≡ lane → lanes_of n ≡ lanes → (last_of n ≡ 0) ⊎ IsOfLane lane lanes (last_of n)
number_is lane lanes n lane_is lanes_is =
    subst (λ (x : ℕ). (last_of n ≡ 0) ⊎ IsOfLane x lanes (last_of n)) lane_is (subst (λ (x : ℕ). (last_of n ≡ 0) ⊎ IsOfLane (lane_of n) x (last_of n)) lanes_is
    (of_lane_is (last_of n) (lane_of n) (lanes_of n) (last_test (nat_lt n.kept.lane n.kept.lanes) (nat_le n.kept.lanes 8) (is_of_lane n.kept) n.sound.entry)))
  where
    last_test : (a b c : Bool) → (a && b && c) ≡ true → c ≡ true
    last_test true true c e = e
    last_test true false c e = absurd (cc e)
    last_test false b c e = absurd (cc e)

answered : (a b : Bool) (found last : ℕ) (e f : SeqFault) → (if a then (if b then Ok found else Err e) else Err f) ≡ Ok last → (a ≡ true) × (b ≡ true) × (found ≡ last)
answered true true found last e f is = (refl, refl, cc is)
answered true false found last e f is = absurd (cc is)
answered false b found last e f is = absurd (cc is)

entry_is : (lane lanes last : ℕ) (x : Entry) → judged_entry lane lanes x ≡ Ok last → x ≡ record { last = last; lane = lane; lanes = lanes }
entry_is lane lanes last x e =
    let (same_lanes, its, found) = answered (x.lanes == lanes) (x.lane == lane && is_of_lane x) x.last last _ _ e in
    let lanes_are : x.lanes ≡ lanes = equal_is x.lanes lanes same_lanes in
    let lane_is : x.lane ≡ lane = equal_is x.lane lane (both_first (x.lane == lane) (is_of_lane x) its) in
    ap (λ (l : ℕ). let y : Entry = record { last = l; lane = x.lane; lanes = x.lanes } in y) found
    ∙ ap (λ (l : ℕ). let y : Entry = record { last = last; lane = l; lanes = x.lanes } in y) lane_is
    ∙ ap (λ (l : ℕ). let y : Entry = record { last = last; lane = lane; lanes = l } in y) lanes_are

-- what is judged well is told
judged_drawn : (lane lanes last : ℕ) (image : Image) → judged lane lanes (entry_at lane image) ≡ Ok last → IsDrawn lane lanes image last
judged_drawn lane lanes last image e = go (entry_at lane image) refl e
  where
    go : (o : Option Entry) → entry_at lane image ≡ o → judged lane lanes o ≡ Ok last → IsDrawn lane lanes image last
    go None none is = inr (none, (let f : 0 ≡ last = cc is in sym f))
    go (Some x) some is = inl (some ∙ ap Some (entry_is lane lanes last x is))

-- ---- The machine

-- a log as it is decided: all its records are promised
abbrev log_as : (image : Image) (n : ℕ) → Decided image n → LogState
log_as image n (inl absent) = Absent
log_as image n (inr (inl (log, there))) = There log (length log.records)
log_as image n (inr (inr damaged)) = Damaged

reads_as : (image : Image) (n : ℕ) (d : Decided image n) → ReadsAs (Replays image n) (log_as image n d)
reads_as image n (inl absent) = absent
reads_as image n (inr (inl (log, there))) = there
reads_as image n (inr (inr damaged)) = damaged

promised_as : (image : Image) (n : ℕ) (d : Decided image n) (stored : Stored) (promised : ℕ) → log_as image n d ≡ There stored promised → promised ≡ length stored.records
promised_as image n (inl absent) stored promised e = absurd (cc e)
promised_as image n (inr (inl (log, there))) stored promised e = sym (its_promised e) ∙ ap (λ (s : Stored). length s.records) (its_stored e)
  where
    its_promised : There log (length log.records) ≡ There stored promised → length log.records ≡ promised
    its_promised f = cc f

    its_stored : There log (length log.records) ≡ There stored promised → log ≡ stored
    its_stored f = cc f
promised_as image n (inr (inr damaged)) stored promised e = absurd (cc e)

absent_as : (image : Image) (n : ℕ) (d : Decided image n) → Replays image n None → log_as image n d ≡ Absent
absent_as image n (inl absent) none = refl
absent_as image n (inr (inl (log, there))) none = absurd (let f : Some log ≡ None = one_replay image n (Some log) None there none in cc)
absent_as image n (inr (inr damaged)) none = absurd (damaged None none)

reads_alike : (P Q : Recovered → Type 0) → ((found : Recovered) → P found → Q found) → ((found : Recovered) → Q found → P found) → (s : LogState) → ReadsAs P s → ReadsAs Q s
reads_alike P Q to back Absent is = to None is
reads_alike P Q to back (There stored promised) is = to (Some stored) is
reads_alike P Q to back Damaged is = λ found there. is found (back found there)

-- the machine that a disk reads as
abbrev machine_of : (texts : List (List ℕ)) (image : Image) (last : ℕ) (lines : List ℕ) → Machine
machine_of texts image last lines = record {
  texts = texts;
  logs = λ n. log_as image n (decided image n);
  states = λ k. Fresh;
  owner = λ n. None;
  last = last;
  failed_draws = 0;
  waiting = [];
  lines = lines;
  fresh = [];
  noting = [];
}

none_some : {A : Type 0} {P : Type 0} (a : A) → None ≡ Some a → P
none_some a e = absurd (cc e)

module _ (v : KeeperView) (old mid new : DiskView) (P Q : Image → Type 0) (laws : Laws old) (lane : v.lane < v.lanes) (lanes : v.lanes ≤ 8)
    (numbers : OpensNumbers v.lane v.lanes old mid v.numbers) (events : OpensEvents v.lane mid new v.events)
    (first_run : Throughout (λ g. g ≡ numbers_file v.lane) P old mid) (second_run : Throughout (IsOfEventLog v.lane) Q mid new)
    (first_store : OpensStore (reading_of v.lane v.lanes) v.lane v.lanes old mid) (second_store : OpensStore (reading_of v.lane v.lanes) v.lane v.lanes mid new)
    (fit : NumbersFit (reading_of v.lane v.lanes) v.lane v.lanes (IsCrashImage old)) where
  abbrev its : Machine
  its = machine_of v.texts old.reads (last_of v.numbers) (committed_text v.events new)

  store : OpensStore (reading_of v.lane v.lanes) v.lane v.lanes old new
  store = store_on v.lane v.lanes old mid new first_store second_store

  drawn : IsDrawn v.lane v.lanes old.reads (last_of v.numbers)
  drawn = judged_drawn v.lane v.lanes (last_of v.numbers) old.reads numbers.read

  none_above : (n : ℕ) → IsOfLane v.lane v.lanes n → last_of v.numbers < n → log_as old.reads n (decided old.reads n) ≡ Absent
  none_above n of above = absent_as old.reads n (decided old.reads n)
      (absent_replay old.reads n (fit.none_above old.reads old.reads (last_of v.numbers) n laws.reads_itself laws.reads_itself drawn of above))

  starts : StartsAs (settings_of v) v.texts its
  starts = record {
    lane = lane;
    texts_are = refl;
    promises = λ n stored promised is. promised_as old.reads n (decided old.reads n) stored promised is;
    drawn = number_is v.lane v.lanes v.numbers numbers.lane_is numbers.lanes_is;
    none_above = none_above;
    unknown = λ k. refl;
    free = λ n. refl;
    no_failed_draw = refl;
    none_waits = refl;
    no_line = refl;
    nobody_noted = refl;
  }

  opened : Opened (reading_of v.lane v.lanes) (settings_of v) v.texts its old new
  opened = record {
    starts = starts;
    reads_as = λ n. reads_as old.reads n (decided old.reads n);
    drawn = drawn;
    lines = first_store.lines.reads.back (committed_text v.events new) events.held;
    store = store;
  }

  sound : Sound (settings_of v) its
  sound = record {
    lane = lane;
    drawn = number_is v.lane v.lanes v.numbers numbers.lane_is numbers.lanes_is;
    owns = λ n k e. none_some k e;
    owned = λ k n e. none_some n e;
    there = λ n k e. none_some k e;
    none_above = λ n of above. (none_above n of above, refl);
  }

  next_is : next_of v.numbers ≡ (if last_of v.numbers == 0 then v.lane + 1 else last_of v.numbers + v.lanes) + 0 * v.lanes
  next_is = ap (λ (x : ℕ). if last_of v.numbers == 0 then x + 1 else last_of v.numbers + lanes_of v.numbers) numbers.lane_is
      ∙ ap (λ (x : ℕ). if last_of v.numbers == 0 then v.lane + 1 else last_of v.numbers + x) numbers.lanes_is
      ∙ more (if last_of v.numbers == 0 then v.lane + 1 else last_of v.numbers + v.lanes) v.lanes
    where
      more : (x y : ℕ) → x ≡ x + 0 * y
      more x y = omega arith

  numbers_are : NumbersAre v.lane v.lanes v.numbers new (next_number (settings_of v) its) 0
  numbers_are = numbers_stay v.lane v.lanes v.numbers mid new (next_number (settings_of v) its) 0 (IsOfEventLog v.lane) second_run.elsewhere
      (λ file own t. let e : owners.Numbers v.lane ≡ owners.Events v.lane = sym own ∙ of_lane v.lane file t in absurd (cc))
      (record {
        lane_is = numbers.lane_is;
        lanes_is = numbers.lanes_is;
        represents = numbers.represents;
        passed = 0;
        next_is = next_is;
        few = let e : pending_count (pending_of v.numbers) ≡ 0 = ap pending_count numbers.whole in omega arith;
      })

  events_are : EventsAre v.lane v.events new its
  events_are = record {
    lane_is = events.is.lane_is;
    sound = events.sound;
    reads = second_store.lines.reads.to (committed_text v.events new) events.held;
    whole = λ _. record { represents = events.represents; committed = refl; added = events.is.none_staged };
    broken = λ b. absurd (let e : false ≡ true = sym events.is.whole ∙ b in cc);
  }

  -- the keeper of an opened store stands for the machine that the disk reads as
  pub opens_as : sessions_of v ≡ record { states = λ k. Fresh; owner = λ n. None } → open_logs v.logs ≡ (λ n. None) → v.waiting ≡ [] → v.noting ≡ [] → OpensAs v.lane v.lanes v.texts old new v
  opens_as sessions logs waits noted = (its, opened, represents, starts.no_line)
    where
      free : (n : ℕ) → ReadsAs (Replays new.reads n) (log_as old.reads n (decided old.reads n))
      free n = let same = (store.logs n).1.reads in reads_alike (Replays old.reads n) (Replays new.reads n) same.to same.back (log_as old.reads n (decided old.reads n)) (reads_as old.reads n (decided old.reads n))

      represents : Represents v new its
      represents = record {
        sound = sound;
        few_lanes = lanes;
        texts = refl;
        states = λ k. ap (λ (s : Sessions). s.states k) (sym sessions);
        owner = λ n. ap (λ (s : Sessions). s.owner n) (sym sessions);
        waiting = sym waits;
        noting = sym noted;
        rising = tt;
        waits = tt;
        logs = λ n. record {
          closed = ap (λ (f : ℕ → Option OpenLog). f n) logs;
          reads = free n;
          enough = λ stored promised is. let e = promised_as old.reads n (decided old.reads n) stored promised is in omega arith;
        };
        numbers = numbers_are;
        unmade = λ n of above. unmade_stays n (IsOfEventLog v.lane) mid new (log_not_events v.lane n) second_run.elsewhere
            (unmade_stays n (λ g. g ≡ numbers_file v.lane) old mid (log_not_numbers v.lane n) first_run.elsewhere
            (unmade_at v.lane v.lanes n (last_of v.numbers) old old.reads laws fit laws.reads_itself drawn of above));
        events = events_are;
      }

-- ---- Faults

abbrev pub err_of : (T E : Type 0) → E → Result T E
err_of T E e = Err e

pub in_err : {T E : Type 0} (a b : E) → a ≡ b → err_of T E a ≡ err_of T E b
in_err {T} {E} a b e = ap (err_of T E) e

pub err_is : {T E : Type 0} (a b : E) → err_of T E a ≡ err_of T E b → a ≡ b
err_is {T} {E} a b e = cc e

-- calls on the same files, whatever holds of each image
pub some_run : (Touched : FileId → Type 0) (P : Image → Type 0) (old new : DiskView) → Throughout Touched P old new → Throughout Touched (λ image. Unit {0}) old new
some_run Touched P old new run = widened Touched Touched P (λ image. Unit {0}) old new (λ g t. t) (λ image at beside. tt) run

pub numbers_faults : (lane lanes : ℕ) (image : Image) (fault : SeqFault) (given : StoreFault) → given ≡ number_fault lane fault → (fault ≢ seq_faults.Disk → judged lane lanes (entry_at lane image) ≡ Err fault) → IsNumbersFault lane lanes image given
numbers_faults lane lanes image fault given is why = subst (IsNumbersFault lane lanes image) (sym is) (go fault why)
  where
    go : (f : SeqFault) → (f ≢ seq_faults.Disk → judged lane lanes (entry_at lane image) ≡ Err f) → IsNumbersFault lane lanes image (number_fault lane f)
    go seq_faults.Disk other = refl
    go (seq_faults.LanesDiffer kept asked) other = other (λ e. cc e)
    go seq_faults.Damaged other = (refl, other (λ e. cc e))

pub numbers_cause : (lane : ℕ) (o : Owner) (fault : SeqFault) (given : StoreFault) (old new : DiskView) → given ≡ number_fault lane fault
    → (fault ≡ seq_faults.Disk → (g : FileId) × IsNumbersFile lane g × HasRisen (old.faults g) (new.faults g)) → given ≡ store_faults.Device o → (g : FileId) × (g.owner ≡ o) × HasRisen (old.faults g) (new.faults g)
numbers_cause lane o seq_faults.Disk given old new is cause e =
    let (g, own, up) = cause refl in
    let f : store_faults.Device (owners.Numbers lane) ≡ store_faults.Device o = sym is ∙ e in
    let same : owners.Numbers lane ≡ o = cc in
    (g, numbers_owner lane g own ∙ same, up)
numbers_cause lane o (seq_faults.LanesDiffer kept asked) given old new is cause e = absurd (let f : store_faults.LanesDiffer kept asked ≡ store_faults.Device o = sym is ∙ e in cc)
numbers_cause lane o seq_faults.Damaged given old new is cause e = absurd (let f : store_faults.Damaged (numbers_file lane) ≡ store_faults.Device o = sym is ∙ e in cc)

pub events_faults : (lane : ℕ) (image : Image) (fault : BundleFault) (given : StoreFault) → given ≡ events_fault lane fault → IsOpenFault fault
    → ((part : Part) → fault ≡ bundle_faults.Damaged part → IsDamaged (owners.Events lane) shapes.Lines image part) → IsEventsFault lane image given
events_faults lane image fault given is may damaged = subst (IsEventsFault lane image) (sym is) (go fault may damaged)
  where
    go : (f : BundleFault) → IsOpenFault f → ((part : Part) → f ≡ bundle_faults.Damaged part → IsDamaged (owners.Events lane) shapes.Lines image part) → IsEventsFault lane image (events_fault lane f)
    go bundle_faults.Disk may why = refl
    go bundle_faults.Broken may why = absurd may
    go (bundle_faults.Damaged part) may why = (refl, why part refl)
    go (bundle_faults.Full part) may why = absurd may
    go bundle_faults.NoMem may why = tt

pub events_cause : (lane : ℕ) (o : Owner) (fault : BundleFault) (given : StoreFault) (old new : DiskView) → given ≡ events_fault lane fault → IsOpenFault fault
    → (fault ≡ bundle_faults.Disk → (g : FileId) × IsOfEventLog lane g × HasRisen (old.faults g) (new.faults g)) → given ≡ store_faults.Device o → (g : FileId) × (g.owner ≡ o) × HasRisen (old.faults g) (new.faults g)
events_cause lane o bundle_faults.Disk given old new is may cause e =
    let (g, own, up) = cause refl in
    let f : store_faults.Device (owners.Events lane) ≡ store_faults.Device o = sym is ∙ e in
    let same : owners.Events lane ≡ o = cc in
    (g, of_lane lane g own ∙ same, up)
events_cause lane o bundle_faults.Broken given old new is may cause e = absurd may
events_cause lane o (bundle_faults.Damaged part) given old new is may cause e = absurd (let f : store_faults.Damaged (file_of (owners.Events lane) part) ≡ store_faults.Device o = sym is ∙ e in cc)
events_cause lane o (bundle_faults.Full part) given old new is may cause e = absurd may
events_cause lane o bundle_faults.NoMem given old new is may cause e = absurd (let f : store_faults.NoMem ≡ store_faults.Device o = sym is ∙ e in cc)

-- the cause of a later call is one since before an earlier one
pub cause_after : (o : Owner) (failed : Type 0) (a b c : DiskView) → ((file : FileId) → a.faults file ≤ b.faults file) → HasOwnCause (λ f. f.owner ≡ o) failed b c → HasOwnCause (λ f. f.owner ≡ o) failed a c
cause_after o failed a b c up cause = record {
  monotone = λ file. let x = up file in let y = cause.monotone file in omega arith;
  risen = λ f. (let (g, own, risen) = cause.risen f in (g, own, risen_since (a.faults g) (b.faults g) (c.faults g) (up g) risen));
}
  where
    risen_since : (x y z : ℕ) → x ≤ y → HasRisen y z → HasRisen x z
    risen_since x y z le risen below = let s : y < z = risen below in omega arith

-- a fault that is passed on
pub same_error : {T E : Type 0} (r : Result T E) (e d : E) → IsErrAnd r (λ x. x ≡ e) → IsErrOf r d → e ≡ d
same_error {T} {E} (Ok x) e d is same = absurd is
same_error {T} {E} (Err x) e d is same = sym is ∙ err_is {T = T} x d same

pub passed : {T E : Type 0} (P : E → Type 0) (r : Result T E) (e : E) → IsErrAnd r (λ x. x ≡ e) → P e → IfErr r P
passed {T} {E} P (Ok x) e is holds = tt
passed {T} {E} P (Err x) e is holds = subst P (sym is) holds
