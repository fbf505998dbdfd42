-- An event line is added: what the keeper then stands for.
use Rattle.std.proofs.Common.{◌≡◌, ◌≤◌, ◌<◌, ◌+◌, ◌^◌, ℕ, List, [], ◌∷◌, ◌++◌, length, refl, sym, ◌∙◌, ap, subst, inl, inr, arith, Option, Some, None, ◌⊎◌}
use Rattle.std.specs.Prelude.{Bool, true, false, not, nat_le, if◌then◌else◌}
use Rattle.std.proofs.lemmas.Bool.Decides.{nat_tests}
use Rattle.std.proofs.Common.{length-append, slice_index}
use Rattle.lsv_bundle.proofs.Laws.{one_body}
use Rattle.lsv_bundle.specs.Body.{encoded}
use Rattle.lsv_bundle.specs.Calls.{IsOpenFault}
use Rattle.lsv_bundle.specs.Committed.{HasPrefix, IsDamaged, IsShort}
use Rattle.lsv_bundle.specs.Shape.{index_of}
use Rattle.lsv_bundle.specs.Value.{BundleView}
use Rattle.lsv_bundle.specs.declared.body.Body.{Body}
use Rattle.lsv_bundle.specs.declared.fault.BundleFault.{BundleFault}
use Rattle.lsv_bundle.specs.declared.fault.BundleFault.TheVariants as faults
use Rattle.lsv_bundle.specs.declared.shape.Shape.TheVariants as shapes
use Rattle.lsv_disk.specs.Files.{file_of}
use Rattle.lsv_disk.specs.declared.file.Part.{Part}
use Rattle.lsv_disk.specs.declared.file.Part.TheVariants as parts
use Rattle.lsv_disk.specs.Throughout.{Throughout}
use Rattle.lsv_disk.specs.View.{DiskView, Elsewhere, Image}
use Rattle.lsv_disk.specs.declared.file.FileId.{FileId}
use Rattle.lsv_disk.specs.declared.file.Owner.TheVariants as owners
use Rattle.lsv_eventlog.specs.Inner.{IsEventLog}
use Rattle.lsv_eventlog.specs.Recovered.{HoldsLines, IsOfEventLog}
use Rattle.lsv_eventlog.specs.Value as events
use Rattle.lsv_eventlog.specs.Value.{EventLogView, IsAdded, IsOpened, added_text, committed_text, is_broken, text_length}
use Rattle.lsv_eventlog.proofs.Laws as event_laws
use Rattle.lsv_session.specs.declared.connection.ConnId.{ConnId}
use Rattle.lsv_machine.specs.Machine.{Machine, note, same}
use Rattle.lsv_machine.specs.Work.{line_fits, next_number}
use Rattle.lsv_keeper.specs.Represents.{EventsAre, Represents}
use Rattle.lsv_keeper.specs.Accepting.{failed_before, line_refusal}
use Rattle.lsv_keeper.specs.Rows.{LineFault, OwnerRose}
use Rattle.lsv_keeper.specs.Value.{KeeperView, settings_of}
use Rattle.lsv_keeper.proofs.Standing.{numbers_stay, represents_one}

-- calls on the files of the lane's event log leave all but the event log as it was, also with other lines of the turn
pub represents_events : (v : KeeperView) (log : EventLogView) (noting : List ConnId) (old new : DiskView) (m : Machine) (fresh : List ℕ) (Touched : FileId → Type 0) → Represents v old m → Elsewhere Touched old new
    → ((file : FileId) → Touched file → file.owner ≡ owners.Events v.lane) → EventsAre v.lane log new (record m { fresh = fresh; noting = noting })
    → Represents (record v { events = log; noting = noting }) new (record m { fresh = fresh; noting = noting })
represents_events v log noting old new m fresh Touched at elsewhere only its =
    represents_one None v (record v { events = log; noting = noting }) old new m (record m { fresh = fresh; noting = noting }) Touched at elsewhere
    (λ n other file own t. let e : owners.Log n ≡ owners.Events v.lane = sym own ∙ only file t in absurd (cc))
    (record {
      lane = refl;
      lanes = refl;
      keeps_texts = refl;
      sound = record { lane = at.sound.lane; drawn = at.sound.drawn; owns = at.sound.owns; owned = at.sound.owned; there = at.sound.there; none_above = at.sound.none_above };
      texts = refl;
      states = at.states;
      owner = at.owner;
      waiting = at.waiting;
      noting = refl;
      rising = at.rising;
      waits = at.waits;
      others = λ n other. (refl, refl, refl);
      its = tt;
      numbers = numbers_stay v.lane v.lanes v.numbers old new (next_number (settings_of v) m) m.failed_draws Touched elsewhere
          (λ file own t. let e : owners.Numbers v.lane ≡ owners.Events v.lane = sym own ∙ only file t in absurd (cc)) at.numbers;
      later = omega arith;
      made = λ n e. let f : None ≡ Some n = e in absurd (cc);
      events = its;
    })

-- an event log without a call is as it was
nowhere : (disk : DiskView) → Elsewhere (λ file. ⊥) disk disk
nowhere disk = record { same = λ file other. refl; crash = λ file other c left. left }

not_broken : {P : Type 0} (b : Bool) → b ≡ false → b ≡ true → P
not_broken b whole broken = absurd (let e : false ≡ true = sym whole ∙ broken in cc)

-- the length of the text is that of the machine's lines
text_is : (v : KeeperView) (disk : DiskView) (m : Machine) → (at : Represents v disk m) → is_broken v.events ≡ false → text_length v.events ≡ length m.lines + length m.fresh
text_is v disk m at whole =
    let are = at.events.whole whole in
    let long = event_laws.text_is_long v.events disk at.events.sound are.represents in
    long ∙ ap (λ (t : List ℕ). length t + length (added_text v.events)) are.committed ∙ ap (λ (t : List ℕ). length m.lines + length t) are.added

-- whether a line fits is told by its length
fits_by : (n lines fresh line : ℕ) → n ≡ lines + fresh → n + line ≤ 2 ^ 40 → nat_le (lines + fresh + line) (2 ^ 40) ≡ true
fits_by n lines fresh line e room = grind (arith, nat_tests)

full_by : (n lines fresh line : ℕ) → n ≡ lines + fresh → 2 ^ 40 < n + line → nat_le (lines + fresh + line) (2 ^ 40) ≡ false
full_by n lines fresh line e full = grind (arith, nat_tests)

-- a line is added to an event log that is open
pub line_added : (v : KeeperView) (log : EventLogView) (disk : DiskView) (m : Machine) (line : List ℕ) → Represents v disk m → is_broken v.events ≡ false → IsAdded line v.events log → IsEventLog log
    → text_length v.events + length line ≤ 2 ^ 40 → (line_fits line m ≡ true) × Represents (record v { events = log }) disk (record m { fresh = m.fresh ++ line })
line_added v log disk m line at whole added sound room =
    let are = at.events.whole whole in
    let now = event_laws.log_added v.events log disk line added are.represents in (
      fits_by (text_length v.events) (length m.lines) (length m.fresh) (length line) (text_is v disk m at whole) room,
      subst (λ (ns : List ConnId). Represents (record v { events = log; noting = ns }) disk (record m { fresh = m.fresh ++ line })) at.noting
          (represents_events v log m.noting disk disk m (m.fresh ++ line) (λ file. ⊥) at (nowhere disk) (λ file t. absurd t) (record {
            lane_is = added.lane ∙ at.events.lane_is;
            sound = sound;
            reads = at.events.reads;
            whole = λ _. record { represents = now.0; committed = now.1 ∙ are.committed; added = added.text ∙ ap (λ (t : List ℕ). t ++ line) are.added };
            broken = λ broken. not_broken (is_broken v.events) whole (sym (ap (λ (b : BundleView). b.is_broken) added.others) ∙ broken);
          })),
    )

-- and isn't, where it doesn't fit
pub line_full : (v : KeeperView) (disk : DiskView) (m : Machine) (line : List ℕ) → Represents v disk m → is_broken v.events ≡ false → 2 ^ 40 < text_length v.events + length line → line_fits line m ≡ false
line_full v disk m line at whole full = full_by (text_length v.events) (length m.lines) (length m.fresh) (length line) (text_is v disk m at whole) full

-- an event log that failed was opened again
pub reopened : (v : KeeperView) (log : EventLogView) (P : Image → Type 0) (old new : DiskView) (m : Machine) → Represents v old m → is_broken v.events ≡ true → IsOpened v.lane log → IsEventLog log
    → HoldsLines old.reads v.lane (committed_text log new) → events.Represents log new → Throughout (IsOfEventLog v.lane) P old new
    → ((text : List ℕ) → HoldsLines old.reads v.lane text → HoldsLines new.reads v.lane text) → Represents (record v { events = log }) new m
reopened v log P old new m at broken opened sound held now run reads =
    let lost = at.events.broken broken in
    subst (λ (ns : List ConnId). Represents (record v { events = log; noting = ns }) new m) at.noting
    (represents_events v log m.noting old new m m.fresh (IsOfEventLog v.lane) at run.elsewhere (λ file own. event_laws.of_lane v.lane file own) (record {
      lane_is = opened.lane_is;
      sound = sound;
      reads = reads m.lines at.events.reads;
      whole = λ _. record {
        represents = now;
        committed = event_laws.one_text old.reads v.lane (committed_text log new) m.lines held at.events.reads;
        added = opened.none_staged ∙ sym lost.none_fresh;
      };
      broken = λ fails. not_broken (is_broken log) opened.whole fails;
    }))

-- or not
pub not_reopened : (v : KeeperView) (P : Image → Type 0) (old new : DiskView) (m : Machine) → Represents v old m → is_broken v.events ≡ true → Throughout (IsOfEventLog v.lane) P old new
    → ((text : List ℕ) → HoldsLines old.reads v.lane text → HoldsLines new.reads v.lane text) → Represents v new m
not_reopened v P old new m at broken run reads =
    subst (λ (ns : List ConnId). Represents (record v { noting = ns }) new m) at.noting
    (represents_events v v.events m.noting old new m m.fresh (IsOfEventLog v.lane) at run.elsewhere (λ file own. event_laws.of_lane v.lane file own) (record {
      lane_is = at.events.lane_is;
      sound = at.events.sound;
      reads = reads m.lines at.events.reads;
      whole = λ whole. not_broken (is_broken v.events) whole broken;
      broken = λ fails. record { none_fresh = (at.events.broken fails).none_fresh; nobody_noted = (at.events.broken fails).nobody_noted };
    }))

-- ---- Who had a line

-- a connection is noted that has left a line
pub line_noted : (v : KeeperView) (disk : DiskView) (m : Machine) (k : ConnId) → is_broken v.events ≡ false → Represents v disk m → Represents (record v { noting = note k v.noting }) disk (record m { noting = note k m.noting })
line_noted v disk m k whole at =
    subst (λ (ns : List ConnId). Represents (record v { noting = note k ns }) disk (record m { noting = note k m.noting })) at.noting
    (represents_events v v.events (note k m.noting) disk disk m m.fresh (λ file. ⊥) at (nowhere disk) (λ file t. absurd t) (record {
      lane_is = at.events.lane_is;
      sound = at.events.sound;
      reads = at.events.reads;
      whole = λ w. record { represents = (at.events.whole w).represents; committed = (at.events.whole w).committed; added = (at.events.whole w).added };
      broken = λ fails. not_broken (is_broken v.events) whole fails;
    }))

-- at most one connection more is noted
pub note_longer : (k : ConnId) (ns : List ConnId) → length (note k ns) ≤ length ns + 1
note_longer k [] = omega arith
note_longer k (j ∷ ns) = go (same j k) (note_longer k ns)
  where
    go : (b : Bool) → length (note k ns) ≤ length ns + 1 → length (if b then j ∷ ns else j ∷ note k ns) ≤ length (j ∷ ns) + 1
    go true le = omega arith
    go false le = omega arith

-- ---- A line that isn't added

-- an event log that reads as a text isn't damaged
short_prefix : (file : Option (List ℕ)) (prefix : List ℕ) (n : ℕ) → length prefix ≡ n → HasPrefix prefix file → IsShort file n → ⊥
short_prefix None prefix n long begins short = begins
short_prefix (Some bytes) prefix n long begins short = let e = ap length begins.1 in let f = simp length-append at e in omega arith

pub text_undamaged : (image : Image) (lane : ℕ) (text : List ℕ) (part : Part) → HoldsLines image lane text → IsDamaged (owners.Events lane) shapes.Lines image part → ⊥
text_undamaged image lane text part (inl (none, e)) damaged = let x : None ≡ Some (encoded damaged.body) = sym none ∙ damaged.entry.last in cc
text_undamaged image lane text part (inr (entry, holds, is)) damaged =
    let x : Some (encoded entry.body) ≡ Some (encoded damaged.body) = sym holds.last ∙ damaged.entry.last in
    let y : encoded entry.body ≡ encoded damaged.body = cc in
    let same_body = one_body entry.body damaged.body holds.is_body damaged.entry.is_body y in
    elim damaged.first [
      | inl (here, short) ↦ short_prefix (image (file_of (owners.Events lane) parts.Lines)) (entry.bytes parts.Lines) (slice_index damaged.body.lens (index_of parts.Lines))
          (holds.lengths parts.Lines refl ∙ ap (λ (b : Body). slice_index b.lens (index_of parts.Lines)) same_body) (holds.bytes parts.Lines refl) short
      | inr (enough, other) ↦ other
    ]

-- why a line isn't added to an event log that is open
pub add_fault : (v : KeeperView) (disk old new : DiskView) (m : Machine) (line : List ℕ) (fault : BundleFault) → Represents v disk m → (fault ≡ faults.Broken → ⊥) → (fault ≡ faults.Broken) ⊎ (fault ≡ faults.Full parts.Lines) ⊎ (fault ≡ faults.NoMem)
    → (fault ≡ faults.Full parts.Lines → (is_broken v.events ≡ false) × (2 ^ 40 < text_length v.events + length line)) → LineFault v.lane line m (line_refusal fault) old new
add_fault v disk old new m line fault at open_one which full = elim which [
  | inl broken ↦ absurd (open_one broken)
  | inr (inl over) ↦ (let f = full over in inl (ap line_refusal over, line_full v disk m line at f.0 f.1))
  | inr (inr none) ↦ inr (inl (ap line_refusal none))
]

-- why an event log isn't opened again
pub open_fault : (v : KeeperView) (old new : DiskView) (m : Machine) (line : List ℕ) (fault : BundleFault) → Represents v old m → IsOpenFault fault
    → ((part : Part) → fault ≡ faults.Damaged part → IsDamaged (owners.Events v.lane) shapes.Lines old.reads part) → (fault ≡ faults.Disk → OwnerRose (owners.Events v.lane) old new) → LineFault v.lane line m (line_refusal fault) old new
open_fault v old new m line faults.Disk at is damaged rose = inr (inr (refl, rose refl))
open_fault v old new m line (faults.Damaged part) at is damaged rose = absurd (text_undamaged old.reads v.lane m.lines part at.events.reads (damaged part refl))
open_fault v old new m line faults.NoMem at is damaged rose = inr (inl refl)
open_fault v old new m line faults.Broken at is damaged rose = absurd is
open_fault v old new m line (faults.Full part) at is damaged rose = absurd is

pub not_failed : (fault : BundleFault) → failed_before fault ≡ false → fault ≡ faults.Broken → ⊥
not_failed fault before e = let x : failed_before fault ≡ true = ap failed_before e in let y : false ≡ true = sym before ∙ x in cc

pub failed_is : (fault : BundleFault) → failed_before fault ≡ true → fault ≡ faults.Broken
failed_is faults.Broken e = refl
failed_is faults.Disk e = absurd (cc)
failed_is (faults.Damaged part) e = absurd (cc)
failed_is (faults.Full part) e = absurd (cc)
failed_is faults.NoMem e = absurd (cc)

-- an event log that is as it was
pub same_events : (v : KeeperView) (log : EventLogView) (disk : DiskView) (m : Machine) → log ≡ v.events → Represents v disk m → Represents (record v { events = log }) disk m
same_events v log disk m e at = subst (λ (x : EventLogView). Represents (record v { events = x }) disk m) (sym e) at

-- an event log to which a line was added is as whole as before
pub added_whole : (old new : EventLogView) (line : List ℕ) → IsAdded line old new → is_broken old ≡ false → is_broken new ≡ false
added_whole old new line added whole = ap (λ (b : BundleView). b.is_broken) added.others ∙ whole

pub not_true : (b : Bool) → not b ≡ true → b ≡ false
not_true true e = absurd (cc)
not_true false e = refl
