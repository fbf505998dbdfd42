-- How far an accept that opens a log comes: each place where it may stop, and its end.
use Rattle.std.proofs.Common.{◌≡◌, ◌≤◌, ◌<◌, ◌+◌, ◌^◌, ℕ, List, [], ◌∷◌, length, refl, sym, ◌∙◌, ap, subst, inl, inr, arith, Option, Some, None, ◌⊎◌}
use Rattle.std.specs.Prelude.{Bool, true, false, Ok}
use Rattle.std.proofs.lemmas.Bool.Decides.{nat_tests}
use Rattle.lsv_base.specs.declared.time.TimeSpec.{TimeSpec}
use Rattle.lsv_disk.specs.Throughout.{Jointly, Throughout}
use Rattle.lsv_disk.specs.View.{DiskView, Elsewhere, Image, IsCrashImage}
use Rattle.lsv_disk.specs.declared.file.FileId.{FileId}
use Rattle.lsv_disk.specs.declared.file.Owner.{Owner}
use Rattle.lsv_disk.specs.declared.file.Owner.TheVariants as owners
use Rattle.lsv_disk.specs.declared.file.Part.TheVariants as parts
use Rattle.lsv_disk.proofs.Composition.{jointly_followed}
use Rattle.lsv_info.specs.Layout.{head_text}
use Rattle.lsv_info.specs.declared.times.Head.{Head}
use Rattle.lsv_iolog.specs.Moments.{IsEither}
use Rattle.lsv_iolog.specs.Recovered.{IsOfLog, Replays}
use Rattle.lsv_iolog.specs.Represents as logs
use Rattle.lsv_iolog.specs.Value.{bare, made}
use Rattle.lsv_iolog.specs.declared.fault.LogFault.{LogFault}
use Rattle.lsv_iolog.specs.declared.fault.LogFault.TheVariants as faults
use Rattle.lsv_iolog.proofs.Replaying.{absent_replay}
use Rattle.lsv_iolog.proofs.Representing.{every_image}
use Rattle.lsv_iolog.proofs.Representing as representing
use Rattle.lsv_mask.specs.Masking.{seen}
use Rattle.lsv_record.specs.Points.{Stored}
use Rattle.lsv_request.specs.declared.refusal.Refusal.{Refusal}
use Rattle.lsv_request.specs.declared.refusal.Refusal.TheVariants.{LogFull, OutOfMemory}
use Rattle.lsv_session.specs.declared.connection.ConnId.{ConnId}
use Rattle.lsv_session.specs.declared.connection.ConnState.{ConnState}
use Rattle.lsv_session.specs.declared.connection.ConnState.TheVariants.{Running}
use Rattle.lsv_machine.specs.Disks.{AsBefore}
use Rattle.lsv_machine.specs.Failures.{LeavesLog, Makes, MayDraw}
use Rattle.lsv_machine.specs.Machine.{IsOfLane, LogState, LogState.Absent, LogState.There, Machine, Settings, is_running, log_of, with_log, with_owner, with_state}
use Rattle.lsv_machine.specs.Stands.{Sound}
use Rattle.lsv_machine.specs.Starts.{ReadsAs}
use Rattle.lsv_machine.specs.Work.{adds_line, draws, empty_log, fits_file, last_number, line_fits, makes, next_number, refused}
use Rattle.lsv_machine.proofs.Changing.{drawn_is, itself_not_above}
use Rattle.lsv_machine.proofs.Choices.{EqOr.equal, EqOr.unequal, eq_or}
use Rattle.lsv_keeper.specs.declared.logs.OpenLog.{OpenLog}
use Rattle.lsv_keeper.specs.Accepting.{AllMade, Begun, DrawsNone, Making, Stopped, StopsFor, accept_of, create_refusal}
use Rattle.lsv_keeper.specs.Reading.{reading_of}
use Rattle.lsv_keeper.specs.Represents.{LogIs, Masks, Represents}
use Rattle.lsv_keeper.specs.Rows.{AllRose, Beside, LineFault, OwnerRose}
use Rattle.lsv_keeper.specs.Value.{IsReserved, Keeps, KeeperView, Owns, event_line, settings_of}
use Rattle.lsv_keeper.proofs.Accepting.{asked, head_lined, idle_of, line_lined, opens_one, spent_lined}
use Rattle.lsv_keeper.proofs.Asking.{contains_first, same_log}
use Rattle.lsv_keeper.proofs.Beginning.{own_represents, reserved_represents}
use Rattle.lsv_keeper.proofs.Counting.{owner_second, rose_none, rose_one}
use Rattle.lsv_keeper.proofs.Frames.{Laws, Resting, beside_none, beside_on, beside_wider, job_apart, log_apart, resting}
use Rattle.lsv_keeper.proofs.Numbering.{beside_its, numbers_fit}
use Rattle.lsv_keeper.proofs.Standing.{events_stay, numbers_stay, represents_one}
use Rattle.lsv_keeper.proofs.Telling.{beside_as, same_settings}

-- ---- Before a number is drawn

-- a connection that writes no log leaves none
idle_leaves : (s : ConnState) (failed : List Owner) (m : Machine) → is_running s ≡ false → LeavesLog failed (log_of s) None m m
idle_leaves s failed m r = subst (λ (o : Option ℕ). LeavesLog failed o None m m) (sym (idle_of s r)) refl

-- memory runs out
pub nothing_done : (v v1 : KeeperView) (disk : DiskView) (now : TimeSpec) (k : ConnId) (head : Head) (m : Machine) → Laws disk → Represents v disk m → is_running (m.states k) ≡ false → IsReserved v v1
    → Stopped v now k (m.states k) head m OutOfMemory v1 disk disk
nothing_done v v1 disk now k head m laws at r res = record {
  failed = [];
  left = m;
  breaks = inl (idle_leaves (m.states k) [] m r);
  reason = tt;
  rose = rose_none disk disk;
  states = refl;
  represents = reserved_represents v v1 disk m res at;
  log = None;
  beside = beside_none v.lane v.lanes None disk laws (numbers_fit v disk m at);
  making = tt;
}

-- no number is drawn
pub none_drawn : (v v1 v2 : KeeperView) (old new : DiskView) (now : TimeSpec) (k : ConnId) (head : Head) (m : Machine) (why : Refusal) → is_running (m.states k) ≡ false → Keeps v v1 → Beside v1.lane v1.lanes None old new
    → DrawsNone v1 m why v2 old new → Stopped v now k (m.states k) head m why v2 old new
none_drawn v v1 v2 old new now k head m why r keeps b (inl (is, (n, drawn, over), at)) =
    let may : MayDraw (settings_of v) m n = subst (λ (x : Settings). MayDraw x m n) (same_settings v v1 keeps) drawn in
    record {
      failed = [];
      left = m;
      breaks = inl (idle_leaves (m.states k) [] m r);
      reason = subst (StopsFor (settings_of v) now k (m.states k) (accept_of head) [] m m) (sym is) (n, may, spent_lined v now k (m.states k) head n m r over);
      rose = rose_none old new;
      states = refl;
      represents = at;
      log = None;
      beside = beside_as v v1 None old new keeps b;
      making = tt;
    }
none_drawn v v1 v2 old new now k head m why r keeps b (inr (is, rose, at)) =
    let left : Machine = record m { failed_draws = m.failed_draws + 1 } in
    let failed : List Owner = owners.Numbers v.lane ∷ [] in
    let did = contains_first (owners.Numbers v.lane) [] in
    record {
      failed = failed;
      left = left;
      breaks = inr (inl (opens_one (m.states k) head r, record { did = did; now = refl }));
      reason = subst (StopsFor (settings_of v) now k (m.states k) (accept_of head) failed m left) (sym is) (owners.Numbers v.lane, did, (refl, opens_one (m.states k) head r, record { did = did; now = refl }));
      rose = rose_one (owners.Numbers v.lane) old new (subst (λ (x : ℕ). OwnerRose (owners.Numbers x) old new) keeps.lane rose);
      states = refl;
      represents = at;
      log = None;
      beside = beside_as v v1 None old new keeps b;
      making = tt;
    }

-- ---- A log that is made

all_made_parts : (n : ℕ) (head : List ℕ) (some all : Image → Type 0) → ((image : Image) → some image → all image) → AllMade n head all → AllMade n head some
all_made_parts n head some all sub holds image is = holds image (sub image is)

-- while its number is drawn no file of it is there
before_it : (v : KeeperView) (old mid : DiskView) (m : Machine) (n : ℕ) (head : List ℕ) → Represents v old m → IsOfLane v.lane v.lanes n → m.last < n → Beside v.lane v.lanes None old mid → Jointly (AllMade n head) old mid
before_it v old mid m n head at of_lane above b = record {
  later = b.run.later;
  past = b.run.past;
  keeps = b.run.keeps;
  each = λ k from to image left. inl (absent_replay image n (λ file own. at.unmade n of_lane above file own (image file)
      (b.run.beside k image from to left file (job_apart v.lane n None (λ e. let f : None ≡ Some n = e in absurd (cc)) file own))));
}

-- it is drawn, and then made or not
making_of : (v : KeeperView) (old mid new : DiskView) (m : Machine) (n : ℕ) (head : List ℕ) → Laws new → Represents v old m → MayDraw (settings_of v) m n → Beside v.lane v.lanes None old mid
    → Throughout (IsOfLog n) (IsEither n None (Some (made head))) mid new → Making n head v m old new
making_of v old mid new m n head laws at drawn b run =
    let is = drawn_is (settings_of v) m n at.sound drawn in
    record {
      of_lane = is.0;
      above = is.1;
      moments = jointly_followed (AllMade n head) old mid new (all_made_parts n head) (before_it v old mid m n head at is.0 is.1 b)
          (record { later = run.later; past = run.past; keeps = run.keeps; each = λ k from to image left. run.each k image from to left });
      now = λ image left. run.each new.moment image run.later (omega arith) (laws.is_now image left);
    }

-- calls about no log leave it
making_on : (v : KeeperView) (old mid new : DiskView) (m : Machine) (n : ℕ) (head : List ℕ) → Resting v.lane v.lanes n mid new → Making n head v m old mid → Making n head v m old new
making_on v old mid new m n head rests making = record {
  of_lane = making.of_lane;
  above = making.above;
  moments = jointly_followed (AllMade n head) old mid new (all_made_parts n head) making.moments
      (record { later = rests.moments.later; past = rests.moments.past; keeps = rests.moments.keeps; each = λ k from to. as_was (new.crash_images_at k) (rests.moments.each k from to) });
  now = as_was (IsCrashImage new) rests.rests.images;
}
  where
    as_was : (images : Image → Type 0) → AsBefore (reading_of v.lane v.lanes) n (IsCrashImage mid) images → AllMade n head images
    as_was images before image is =
        let (was, crash, same) = before image is in
        elim (making.now was crash) [ inl none ↦ inl (same.to None none) | inr there ↦ inr (same.to (Some (made head)) there) ]

-- a log is absent, or made of this head, which fits its file
abbrev IsMaking : List ℕ → LogState → Type 0
IsMaking head log = (log ≡ Absent) ⊎ ((fits_file head ≡ true) × (log ≡ There (empty_log head) 0))

making_enough : (head : List ℕ) (log : LogState) → IsMaking head log → (stored : Stored) (promised : ℕ) → log ≡ There stored promised → promised ≤ length stored.records
making_enough head log (inl none) stored promised e = absurd (let x : Absent ≡ There stored promised = sym none ∙ e in cc)
making_enough head log (inr (fits, there)) stored promised e =
    let x : There (empty_log head) 0 ≡ There stored promised = sym there ∙ e in
    let p : 0 ≡ promised = cc in
    omega arith

-- a machine whose last number's log is it
made_sound : (set : Settings) (m : Machine) (n : ℕ) (log : LogState) → Sound set m → m.last ≡ n → m.owner n ≡ None → Sound set (with_log n log m)
made_sound set m n log s last free = record {
  lane = s.lane;
  drawn = s.drawn;
  owns = s.owns;
  owned = s.owned;
  there = λ i j own. elim (eq_or i n) [
    | equal p t ↦ absurd (let x : m.owner n ≡ Some j = subst (λ (y : ℕ). m.owner y ≡ Some j) p own in let y : None ≡ Some j = sym free ∙ x in cc)
    | unequal p t ↦ rw t (s.there i j own)
  ];
  none_above = λ i of_lane above. elim (eq_or i n) [ equal p t ↦ absurd (omega arith) | unequal p t ↦ rw t (s.none_above i of_lane above) ];
}

made_represents : (v : KeeperView) (old new : DiskView) (m : Machine) (n : ℕ) (head : List ℕ) (log : LogState) → Represents v old m → m.last ≡ n → m.owner n ≡ None → Elsewhere (IsOfLog n) old new
    → ReadsAs (Replays new.reads n) log → IsMaking head log → Represents v new (with_log n log m)
made_represents v old new m n head log at last free elsewhere reads making =
    let its : (with_log n log m).logs n ≡ log = elim (eq_or n n) [ equal p t ↦ rw t refl | unequal p t ↦ absurd (p refl) ] in
    represents_one (Some n) v v old new m (with_log n log m) (IsOfLog n) at elsewhere (λ i other. log_apart i n (λ e. other (ap Some (sym e)))) (record {
      lane = refl;
      lanes = refl;
      keeps_texts = refl;
      sound = made_sound (settings_of v) m n log at.sound last free;
      texts = refl;
      states = at.states;
      owner = at.owner;
      waiting = at.waiting;
      noting = at.noting;
      rising = at.rising;
      waits = at.waits;
      others = λ i other. elim (eq_or i n) [ equal p t ↦ absurd (other (ap Some (sym p))) | unequal p t ↦ (rw t refl, refl, refl) ];
      its = subst (LogIs v new (with_log n log m) n) (sym free) (record {
        closed = (let was : LogIs v old m n None = subst (LogIs v old m n) free (at.logs n) in was.closed);
        reads = subst (ReadsAs (Replays new.reads n)) (sym its) reads;
        enough = λ stored promised e. making_enough head log making stored promised (sym its ∙ e);
      });
      numbers = numbers_stay v.lane v.lanes v.numbers old new (next_number (settings_of v) m) m.failed_draws (IsOfLog n) elsewhere
          (λ file own t. let e : owners.Log n ≡ owners.Numbers v.lane = sym t ∙ own in absurd (cc)) at.numbers;
      later = omega arith;
      made = λ i e of_lane above. absurd (let q : n ≡ i = (let f : Some n ≡ Some i = e in cc) in omega arith);
      events = events_stay v.lane v.events old new m (with_log n log m) (IsOfLog n) elsewhere (λ file own t. let e : owners.Log n ≡ owners.Events v.lane = sym t ∙ own in absurd (cc)) refl refl (λ none. none) at.events;
    })

-- what is there after a making
record Remains (head : List ℕ) (n : ℕ) (new : DiskView) : Type 0 where
  pub log : LogState
  pub reads : ReadsAs (Replays new.reads n) log
  pub is : IsMaking head log

left_of : (n : ℕ) (head : List ℕ) (mid new : DiskView) → Laws new → Throughout (IsOfLog n) (IsEither n None (Some (made head))) mid new
    → (2 ^ 40 < length head → Throughout (IsOfLog n) (λ image. Replays image n None) mid new) → Remains head n new
left_of n head mid new laws run nothing = go (fits_file head) refl
  where
    here : new.crash_images_at new.moment new.reads
    here = laws.is_now new.reads laws.reads_itself

    go : (b : Bool) → fits_file head ≡ b → Remains head n new
    go true fits = elim (run.each new.moment new.reads run.later (omega arith) here) [
      | inl none ↦ record { log = Absent; reads = none; is = inl refl }
      | inr there ↦ record { log = There (empty_log head) 0; reads = there; is = inr (fits, refl) }
    ]
    go false full =
        let long : 2 ^ 40 < length head = grind (arith, nat_tests) in
        let none = nothing long in
        record { log = Absent; reads = none.each new.moment new.reads none.later (omega arith) here; is = inl refl }

-- the log isn't made, or it fails
pub not_made : (v v2 : KeeperView) (old mid new : DiskView) (now : TimeSpec) (k : ConnId) (head : Head) (m : Machine) (n : ℕ) (fault : LogFault) → Laws mid → Laws new → Represents v old m → is_running (m.states k) ≡ false → Keeps v v2
    → MayDraw (settings_of v) m n → n ≤ last_number → Represents v2 mid (draws n m) → Beside v.lane v.lanes None old mid → Throughout (IsOfLog n) (IsEither n None (Some (made (head_text head)))) mid new
    → (2 ^ 40 < length (head_text head) → Throughout (IsOfLog n) (λ image. Replays image n None) mid new) → ((file : FileId) → mid.faults file ≤ new.faults file)
    → (fault ≡ faults.Disk) ⊎ (fault ≡ faults.Full parts.Head) ⊎ (fault ≡ faults.NoMem) → (fault ≡ faults.Full parts.Head → 2 ^ 40 < length (head_text head)) → (fault ≡ faults.Disk → OwnerRose (owners.Log n) mid new)
    → Stopped v now k (m.states k) head m (create_refusal fault) v2 old new
not_made v v2 old mid new now k head m n fault laws laws' at r keeps drawn within at2 b run nothing up which full rose = elim which [
  | inl disk ↦ stop (owners.Log n ∷ []) (rose_one (owners.Log n) old new (owner_second (owners.Log n) old mid new b.monotone (rose disk)))
      (subst (StopsFor (settings_of v) now k (m.states k) (accept_of head) (owners.Log n ∷ []) m left) (sym (ap create_refusal disk)) (owners.Log n, contains_first (owners.Log n) [], (makes_it, refl)))
  | inr (inl over) ↦ stop [] (rose_none old new)
      (subst (StopsFor (settings_of v) now k (m.states k) (accept_of head) [] m left) (sym (ap create_refusal over)) (n, drawn, head_lined v now k (m.states k) head n m r within (unfit (full over)) ∙ ap (refused k LogFull) (sym (left_alone (unfit (full over))))))
  | inr (inr none) ↦ stop [] (rose_none old new) (subst (StopsFor (settings_of v) now k (m.states k) (accept_of head) [] m left) (sym (ap create_refusal none)) tt)
]
  where
    text : List ℕ
    text = head_text head

    is : IsOfLane v.lane v.lanes n × (m.last < n)
    is = drawn_is (settings_of v) m n at.sound drawn

    was : (m.logs n ≡ Absent) × (m.owner n ≡ None)
    was = at.sound.none_above n is.0 is.1

    found : Remains text n new
    found = left_of n text mid new laws' run nothing

    left : Machine
    left = with_log n found.log (draws n m)

    makes_it : Makes (settings_of v) (m.states k) (Ok (asked head)) m left
    makes_it = record {
      accept = accept_of head;
      asks = refl;
      opening = opens_one (m.states k) head r;
      number = n;
      drawn = drawn;
      within = within;
      log = found.log;
      made = elim found.is [ inl none ↦ inl (none ∙ sym was.0) | inr there ↦ inr there ];
      now = refl;
    }

    unfit : 2 ^ 40 < length text → fits_file text ≡ false
    unfit long = grind (arith, nat_tests)

    left_alone : fits_file text ≡ false → left ≡ draws n m
    left_alone over = elim found.is [
      | inl none ↦ ap (λ (x : LogState). with_log n x (draws n m)) (none ∙ sym was.0) ∙ same_log n (draws n m)
      | inr there ↦ absurd (let e : false ≡ true = sym over ∙ there.0 in cc)
    ]

    stop : (failed : List Owner) → AllRose failed old new → StopsFor (settings_of v) now k (m.states k) (accept_of head) failed m left (create_refusal fault) → Stopped v now k (m.states k) head m (create_refusal fault) v2 old new
    stop failed rises reason = record {
      failed = failed;
      left = left;
      breaks = inr (inr makes_it);
      reason = reason;
      rose = rises;
      states = refl;
      represents = made_represents v2 mid new (draws n m) n text found.log at2 refl was.1 run.elsewhere found.reads found.is;
      log = Some n;
      beside = beside_on v.lane v.lanes (Some n) old mid new (beside_wider v.lane v.lanes (Some n) old mid b)
          (beside_as v v2 (Some n) mid new keeps (beside_its v2 (draws n m) n (IsEither n None (Some (made text))) mid new laws laws' at2 (itself_not_above (settings_of v2) n) run up));
      making = making_of v old mid new m n text laws' at drawn b run;
    }

-- ---- A log that was made

-- it was made: what the keeper stands for, and what is left alone
pub record MadeIt (v v2 : KeeperView) (old new : DiskView) (m : Machine) (n : ℕ) (head : Head) : Type 0 where
  pub fits : fits_file (head_text head) ≡ true
  pub represents : Represents v2 new (makes n (head_text head) m)
  pub beside : Beside v.lane v.lanes (Some n) old new
  pub making : Making n (head_text head) v m old new

pub made_it : (v v2 : KeeperView) (old mid new : DiskView) (m : Machine) (n : ℕ) (head : Head) → Laws mid → Laws new → Represents v old m → Keeps v v2
    → MayDraw (settings_of v) m n → Represents v2 mid (draws n m) → Beside v.lane v.lanes None old mid → Throughout (IsOfLog n) (IsEither n None (Some (made (head_text head)))) mid new
    → ((file : FileId) → mid.faults file ≤ new.faults file) → length (head_text head) ≤ 2 ^ 40 → Replays new.reads n (Some (made (head_text head))) → MadeIt v v2 old new m n head
made_it v v2 old mid new m n head laws laws' at keeps drawn at2 b run up short there =
    let is = drawn_is (settings_of v) m n at.sound drawn in
    let was = at.sound.none_above n is.0 is.1 in
    let fits : fits_file (head_text head) ≡ true = grind (arith, nat_tests) in
    record {
      fits = fits;
      represents = made_represents v2 mid new (draws n m) n (head_text head) (There (empty_log (head_text head)) 0) at2 refl was.1 run.elsewhere there (inr (fits, refl));
      beside = beside_on v.lane v.lanes (Some n) old mid new (beside_wider v.lane v.lanes (Some n) old mid b)
          (beside_as v v2 (Some n) mid new keeps (beside_its v2 (draws n m) n (IsEither n None (Some (made (head_text head)))) mid new laws laws' at2 (itself_not_above (settings_of v2) n) run up));
      making = making_of v old mid new m n (head_text head) laws' at drawn b run;
    }

-- its line isn't added: the log stays, and nobody writes it
pub line_stops : (v v2 v3 : KeeperView) (old mid new : DiskView) (now : TimeSpec) (k : ConnId) (head : Head) (m : Machine) (n : ℕ) (line : List ℕ) (why : Refusal) → Laws mid → is_running (m.states k) ≡ false → Keeps v v2
    → MayDraw (settings_of v) m n → n ≤ last_number → MadeIt v v2 old mid m n head → line ≡ event_line v.kind now k (asked head) (Some n) → LineFault v2.lane line (makes n (head_text head) m) why mid new
    → Represents v3 new (makes n (head_text head) m) → Beside v2.lane v2.lanes None mid new → Stopped v now k (m.states k) head m why v3 old new
line_stops v v2 v3 old mid new now k head m n line why laws r keeps drawn within it line_is fault at3 late = elim fault [
  | inl (full, unfit) ↦ stop [] (rose_none old new) (subst (StopsFor (settings_of v) now k (m.states k) (accept_of head) [] m left) (sym full)
      (n, drawn, line_lined v now k (m.states k) head n m r within it.fits (subst (λ (x : List ℕ). line_fits x m ≡ false) line_is unfit)))
  | inr (inl none) ↦ stop [] (rose_none old new) (subst (StopsFor (settings_of v) now k (m.states k) (accept_of head) [] m left) (sym none) tt)
  | inr (inr (broken, rose)) ↦ stop (owners.Events v.lane ∷ []) (rose_one (owners.Events v.lane) old new (subst (λ (x : ℕ). OwnerRose (owners.Events x) old new) keeps.lane (owner_second (owners.Events v2.lane) old mid new it.beside.monotone rose)))
      (subst (StopsFor (settings_of v) now k (m.states k) (accept_of head) (owners.Events v.lane ∷ []) m left) (sym broken)
      (owners.Events v.lane, contains_first (owners.Events v.lane) [], (refl, refl, inl (opens_one (m.states k) head r, record { number = n; drawn = drawn; within = within; fits = it.fits; now = refl }))))
]
  where
    left : Machine
    left = makes n (head_text head) m

    its_late : Beside v.lane v.lanes None mid new
    its_late = beside_as v v2 None mid new keeps late

    stop : (failed : List Owner) → AllRose failed old new → StopsFor (settings_of v) now k (m.states k) (accept_of head) failed m left why → Stopped v now k (m.states k) head m why v3 old new
    stop failed rises reason = record {
      failed = failed;
      left = left;
      breaks = inr (inr (record {
        accept = accept_of head;
        asks = refl;
        opening = opens_one (m.states k) head r;
        number = n;
        drawn = drawn;
        within = within;
        log = There (empty_log (head_text head)) 0;
        made = inr (it.fits, refl);
        now = refl;
      }));
      reason = reason;
      rose = rises;
      states = refl;
      represents = at3;
      log = Some n;
      beside = beside_on v.lane v.lanes (Some n) old mid new it.beside (beside_wider v.lane v.lanes (Some n) mid new its_late);
      making = making_on v old mid new m n (head_text head) (resting v.lane v.lanes None n mid new laws (λ e. let f : None ≡ Some n = e in absurd (cc)) its_late) it.making;
    }

-- its line is added, and the connection writes it
pub begins : (v v2 v3 v4 : KeeperView) (old mid new : DiskView) (now : TimeSpec) (k : ConnId) (head : Head) (m : Machine) (n : ℕ) (its : OpenLog) (line : List ℕ) → Laws mid → Laws new → Represents v old m → is_running (m.states k) ≡ false
    → Keeps v v2 → Keeps v v3 → Keeps v3 v4 → MayDraw (settings_of v) m n → n ≤ last_number → MadeIt v v2 old mid m n head → line ≡ event_line v.kind now k (asked head) (Some n)
    → line_fits line (makes n (head_text head) m) ≡ true → Represents v3 new (adds_line k line (makes n (head_text head) m)) → Beside v2.lane v2.lanes None mid new
    → logs.Represents its.log (bare (made (head_text head))) mid → its.log.number ≡ n → its.mask ≡ seen v.texts [] → Owns k n its v3 v4 → Begun v now k n head m v4 old new
begins v v2 v3 v4 old mid new now k head m n its line laws laws' at r keeps2 keeps3 keeps4 drawn within it line_is fits at3 late here number mask owns = record {
  drawn = drawn;
  within = within;
  fits = it.fits;
  line_fits_in = subst (λ (x : List ℕ). line_fits x m ≡ true) line_is fits;
  represents = subst (λ (x : List ℕ). Represents v4 new (with_state k (Running (Some n)) (with_owner n (Some k) (adds_line k x (makes n (head_text head) m))))) line_is
      (own_represents v3 v4 new (adds_line k line (makes n (head_text head) m)) k n its (bare (made (head_text head))) 0 at3 was.1 (idle_of (m.states k) r) here_now number refl masks there (omega arith) keeps4 owns);
  beside = beside_on v.lane v.lanes (Some n) old mid new it.beside (beside_wider v.lane v.lanes (Some n) mid new its_late);
  making = making_on v old mid new m n (head_text head) (resting v.lane v.lanes None n mid new laws (λ e. let f : None ≡ Some n = e in absurd (cc)) its_late) it.making;
  there = λ image left. subst (λ (x : ℕ). Replays image x (Some (made (head_text head)))) number (every_image its.log (bare (made (head_text head))) new here_now image left);
}
  where
    its_late : Beside v.lane v.lanes None mid new
    its_late = beside_as v v2 None mid new keeps2 late

    was : (m.logs n ≡ Absent) × (m.owner n ≡ None)
    was = let is = drawn_is (settings_of v) m n at.sound drawn in at.sound.none_above n is.0 is.1

    here_now : logs.Represents its.log (bare (made (head_text head))) new
    here_now = representing.log_stays its.log (bare (made (head_text head))) _ mid new its_late.run.elsewhere
        (λ file own touched. job_apart v.lane n None (λ e. let f : None ≡ Some n = e in absurd (cc)) file (own ∙ ap owners.Log number) touched) here

    masks : Masks v3.texts its.mask []
    masks = record { behind = []; stands = mask ∙ ap (λ (x : List (List ℕ)). seen x []) (sym keeps3.texts); these = inl refl }

    there : (makes n (head_text head) m).logs n ≡ There (empty_log (head_text head)) 0
    there = elim (eq_or n n) [ equal p t ↦ rw t refl | unequal p t ↦ absurd (p refl) ]
