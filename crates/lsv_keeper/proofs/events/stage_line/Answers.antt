-- The line is added to an event log that is open, or to one that was opened again.
use Rattle.std.proofs.Common.{◌≡◌, ◌≤◌, ◌<◌, ◌+◌, ◌^◌, ℕ, List, true, false, length, None, Result, Err, sym, ◌∙◌, ap, subst, inl, inr, rules}
use Rattle.lsv_bundle.specs.declared.fault.BundleFault.{BundleFault}
use Rattle.lsv_bundle.specs.declared.fault.BundleFault.TheVariants as faults
use Rattle.lsv_bundle.specs.declared.shape.Shape.TheVariants as shapes
use Rattle.lsv_bundle.specs.Committed.{IsDamaged}
use Rattle.lsv_disk.specs.Throughout.{Throughout}
use Rattle.lsv_disk.specs.View.{DiskView}
use Rattle.lsv_disk.specs.declared.file.FileId.{FileId}
use Rattle.lsv_disk.specs.declared.file.Owner.TheVariants as owners
use Rattle.lsv_disk.specs.declared.file.Part.TheVariants as parts
use Rattle.lsv_eventlog.specs.Moments.{IsAsBefore}
use Rattle.lsv_eventlog.specs.Recovered.{HoldsLines, IsOfEventLog}
use Rattle.lsv_eventlog.specs.Value.{EventLogView, IsAdded, IsOpened, committed_text, is_broken, text_length}
use Rattle.lsv_eventlog.proofs.Laws.{of_lane}
use Rattle.lsv_request.specs.declared.refusal.Refusal.{Refusal}
use Rattle.lsv_machine.specs.Machine.{Machine}
use Rattle.lsv_keeper.specs.Accepting.{failed_before, line_refusal}
use Rattle.lsv_keeper.specs.Represents.{Represents}
use Rattle.lsv_keeper.specs.Rows.{Beside, LineFault, OwnerRose}
use Rattle.lsv_keeper.specs.Value.{KeeperView}
use Rattle.lsv_keeper.proofs.AddingLines.{add_fault, added_whole, failed_is, line_added, not_failed, not_reopened, open_fault, reopened, same_events}
use Rattle.lsv_keeper.proofs.Counting.{owner_rose}
use Rattle.lsv_keeper.proofs.Frames.{Laws, beside_events, beside_none}
use Rattle.lsv_keeper.proofs.Numbering.{numbers_fit}
use Rattle.lsv_keeper.proofs.Syncing.{lines_opened}
use Rattle.lsv_keeper.proofs.Causes.{still}
use Rattle.std.specs.Prelude.{true, false}
use Rattle.lsv_request.specs.declared.refusal.Refusal.TheVariants.{DeviceFault}
use Rattle.lsv_keeper.proofs.events.stage_line.Goals as goal

abbrev err_of : (T : Type 0) → BundleFault → Result T BundleFault
err_of T a = Err a

in_err : {T : Type 0} (a b : BundleFault) → a ≡ b → err_of T a ≡ err_of T b
in_err {T} a b e = ap (err_of T) e

-- what a refused line says of its event log
full_of : (v : KeeperView) (events : EventLogView) (line : List ℕ) → v.events ≡ events → (is_broken events ≡ false) × (2 ^ 40 < text_length events + length line) → (is_broken v.events ≡ false) × (2 ^ 40 < text_length v.events + length line)
full_of v events line here f = (subst (λ (x : EventLogView). is_broken x ≡ false) (sym here) f.0, subst (λ (x : EventLogView). 2 ^ 40 < text_length x + length line) (sym here) f.1)

told_so : (lane lane' : ℕ) (line : List ℕ) (m : Machine) (why given : Refusal) (old new : DiskView) → lane' ≡ lane → given ≡ why → LineFault lane' line m why old new → LineFault lane line m given old new
told_so lane lane' line m why given old new e f is = subst (λ (w : Refusal). LineFault lane line m w old new) (sym f) (subst (λ (x : ℕ). LineFault x line m why old new) e is)

-- an opening of the event log, as the keeper's lane has it
opens_for : (v : KeeperView) (lane : ℕ) (old new : DiskView) → v.lane ≡ lane → Throughout (IsOfEventLog lane) (IsAsBefore lane old) old new → Throughout (IsOfEventLog v.lane) (IsAsBefore v.lane old) old new
opens_for v lane old new e run = subst (λ (x : ℕ). Throughout (IsOfEventLog x) (IsAsBefore x old) old new) (sym e) run

reads_for : (v : KeeperView) (lane : ℕ) (old new : DiskView) → v.lane ≡ lane → ((text : List ℕ) → HoldsLines old.reads lane text → HoldsLines new.reads lane text) → (text : List ℕ) → HoldsLines old.reads v.lane text → HoldsLines new.reads v.lane text
reads_for v lane old new e reads = subst (λ (x : ℕ). (text : List ℕ) → HoldsLines old.reads x text → HoldsLines new.reads x text) (sym e) reads

reads_back_for : (v : KeeperView) (lane : ℕ) (old new : DiskView) → v.lane ≡ lane → ((text : List ℕ) → HoldsLines new.reads lane text → HoldsLines old.reads lane text) → (text : List ℕ) → HoldsLines new.reads v.lane text → HoldsLines old.reads v.lane text
reads_back_for v lane old new e reads = subst (λ (x : ℕ). (text : List ℕ) → HoldsLines new.reads x text → HoldsLines old.reads x text) (sym e) reads

beside_for : (v : KeeperView) (lane : ℕ) (old new : DiskView) (m : Machine) → v.lane ≡ lane → Laws old → Laws new → Represents v old m → Throughout (IsOfEventLog lane) (IsAsBefore lane old) old new
    → ((text : List ℕ) → HoldsLines old.reads lane text → HoldsLines new.reads lane text) → ((text : List ℕ) → HoldsLines new.reads lane text → HoldsLines old.reads lane text) → ((file : FileId) → old.faults file ≤ new.faults file) → Beside lane v.lanes None old new
beside_for v lane old new m e laws laws' at run reads back up =
    subst (λ (x : ℕ). Beside x v.lanes None old new) e
    (beside_events v.lane v.lanes old new laws laws' (numbers_fit v old m at) (opens_for v lane old new e run) (reads_for v lane old new e reads) (reads_back_for v lane old new e back) up)

beside_same : (v : KeeperView) (lane : ℕ) (disk : DiskView) (m : Machine) → v.lane ≡ lane → Laws disk → Represents v disk m → Beside lane v.lanes None disk disk
beside_same v lane disk m e laws at = subst (λ (x : ℕ). Beside x v.lanes None disk disk) e (beside_none v.lane v.lanes None disk laws (numbers_fit v disk m at))

pub returns-in_default-clause-whole : goal.returns-in_default-clause-whole
returns-in_default-clause-whole g c = added_whole c.args.events.now c.add.new.self c.args.line.now c.in_default.ensures.value c.in_default.ensures.room.0

pub returns-in_default-clause-added : goal.returns-in_default-clause-added
returns-in_default-clause-added g c told v m lane here at =
    line_added v c.add.new.self (g.D.Disk.view c.args.disk.now) m c.args.line.now at (subst (λ (x : EventLogView). is_broken x ≡ false) (sym here) c.in_default.ensures.room.0)
    (subst (λ (x : EventLogView). IsAdded c.args.line.now x c.add.new.self) (sym here) c.in_default.ensures.value) c.in_default.ensures.sound
    (subst (λ (x : EventLogView). text_length x + length c.args.line.now ≤ 2 ^ 40) (sym here) c.in_default.ensures.room.1)

pub returns-in_default-clause-frame : goal.returns-in_default-clause-frame
returns-in_default-clause-frame g c = record {
  beside = λ told v m lane here at.
      let disk = c.args.disk.now in
      beside_same v c.args.lane (g.D.Disk.view disk) m lane (record { reads_itself = g.met.D.Disk.reads_itself told disk; is_now = g.met.D.Disk.is_now told disk; only_now = g.met.D.Disk.only_now told disk }) at;
  syncs = search rules;
  does = record {
    monotone = still (g.D.Disk.view c.args.disk.now);
    failed = λ broken. let q : true ≡ false = sym broken ∙ added_whole c.args.events.now c.add.new.self c.args.line.now c.in_default.ensures.value c.in_default.ensures.room.0 in absurd (cc);
    cause = λ e. absurd (cc);
  };
}

pub returns-then-not-failed_before-clause-refused : goal.returns-then-not-failed_before-clause-refused
returns-then-not-failed_before-clause-refused g c told v m lane here at =
    let disk = g.D.Disk.view c.args.disk.now in
    let before : failed_before c.in-Err.fault ≡ false = cc in (
      told_so c.args.lane v.lane c.args.line.now m (line_refusal c.in-Err.fault) c.line_refusal.result disk disk lane c.line_refusal.ensures
          (add_fault v disk disk disk m c.args.line.now c.in-Err.fault at (not_failed c.in-Err.fault before) c.in-Err.ensures.fault
          (λ e. full_of v c.args.events.now c.args.line.now here (c.in-Err.ensures.full (in_err c.in-Err.fault (faults.Full parts.Lines) e)))),
      same_events v c.add.new.self disk m (c.in-Err.ensures.refused ∙ sym here) at,
    )

pub returns-then-not-failed_before-clause-frame : goal.returns-then-not-failed_before-clause-frame
returns-then-not-failed_before-clause-frame g c = record {
  beside = λ told v m lane here at.
      let disk = c.args.disk.now in
      beside_same v c.args.lane (g.D.Disk.view disk) m lane (record { reads_itself = g.met.D.Disk.reads_itself told disk; is_now = g.met.D.Disk.is_now told disk; only_now = g.met.D.Disk.only_now told disk }) at;
  syncs = search rules;
  does = record {
    monotone = still (g.D.Disk.view c.args.disk.now);
    failed = λ broken. inl (ap is_broken (sym c.in-Err.ensures.refused) ∙ broken);
    cause = λ e.
        let before : failed_before c.in-Err.fault ≡ false = cc in
        let told_it : line_refusal c.in-Err.fault ≡ DeviceFault = sym c.line_refusal.ensures ∙ (let f : c.line_refusal.result ≡ DeviceFault = cc in f) in
        absurd (elim c.in-Err.ensures.fault [
          | inl broken ↦ (let q : failed_before faults.Broken ≡ false = ap failed_before (sym broken) ∙ before in cc)
          | inr (inl full) ↦ (let q : line_refusal (faults.Full parts.Lines) ≡ DeviceFault = ap line_refusal (sym full) ∙ told_it in cc)
          | inr (inr none) ↦ (let q : line_refusal faults.NoMem ≡ DeviceFault = ap line_refusal (sym none) ∙ told_it in cc)
        ]);
  };
}

pub returns-in-Err-open-clause-refused : goal.returns-in-Err-open-clause-refused
returns-in-Err-open-clause-refused g c told v m lane here at =
    let old = g.D.Disk.view c.args.disk.now in
    let new = g.D.Disk.view c.open.new.disk in
    let before : failed_before c.in-Err.fault ≡ true = cc in
    let broken : is_broken v.events ≡ true = subst (λ (x : EventLogView). is_broken x ≡ true) (sym here) (c.in-Err.ensures.broken.0 (in_err c.in-Err.fault faults.Broken (failed_is c.in-Err.fault before))) in (
      told_so c.args.lane v.lane c.args.line.now m (line_refusal c.in-Err-open.fault) c.line_refusal-in-Err-open.result old new lane c.line_refusal-in-Err-open.ensures
          (open_fault v old new m c.args.line.now c.in-Err-open.fault at c.in-Err-open.ensures.fault
          (λ part e. subst (λ (x : ℕ). IsDamaged (owners.Events x) shapes.Lines old.reads part) (sym lane) (c.in-Err-open.ensures.damaged told part (in_err c.in-Err-open.fault (faults.Damaged part) e)))
          (λ e. subst (λ (x : ℕ). OwnerRose (owners.Events x) old new) (sym lane) (owner_rose (owners.Events c.args.lane) (IsOfEventLog c.args.lane) _ old new (λ file own. of_lane c.args.lane file own) c.in-Err-open.ensures.cause (in_err c.in-Err-open.fault faults.Disk e)))),
      same_events v c.add.new.self new m (c.in-Err.ensures.refused ∙ sym here)
          (not_reopened v (IsAsBefore v.lane old) old new m at broken (opens_for v c.args.lane old new lane (c.in-Err-open.ensures.any_moment told)) (reads_for v c.args.lane old new lane (c.in-Err-open.ensures.reads told))),
    )

pub returns-in-Err-open-clause-frame : goal.returns-in-Err-open-clause-frame
returns-in-Err-open-clause-frame g c = record {
  beside = λ told v m lane here at.
      let a = c.args.disk.now in
      let b = c.open.new.disk in
      beside_for v c.args.lane (g.D.Disk.view a) (g.D.Disk.view b) m lane (record { reads_itself = g.met.D.Disk.reads_itself told a; is_now = g.met.D.Disk.is_now told a; only_now = g.met.D.Disk.only_now told a })
      (record { reads_itself = g.met.D.Disk.reads_itself told b; is_now = g.met.D.Disk.is_now told b; only_now = g.met.D.Disk.only_now told b }) at
      (c.open.ensures.any_moment told) (c.open.ensures.reads told) (c.open.ensures.reads_back told) c.open.ensures.cause.monotone;
  syncs = λ told.
      lines_opened c.args.lane 6 9 (g.D.Disk.view c.args.disk.now) (g.D.Disk.view c.open.new.disk) (c.open.ensures.calls told);
  does =
      let before : failed_before c.in-Err.fault ≡ true = cc in
      let broken : is_broken c.args.events.now ≡ true = c.in-Err.ensures.broken.0 (in_err c.in-Err.fault faults.Broken (failed_is c.in-Err.fault before)) in
      record { monotone = c.open.ensures.cause.monotone; failed = λ is. inl broken; cause = λ e. inl broken };
}

pub returns-in-Ok-add-clause-whole : goal.returns-in-Ok-add-clause-whole
returns-in-Ok-add-clause-whole g c = added_whole c.in-Ok.opened c.add-2.new.self c.args.line.now c.in-Ok-add.ensures.value c.in-Ok-add.ensures.room.0

pub returns-in-Ok-add-clause-added : goal.returns-in-Ok-add-clause-added
returns-in-Ok-add-clause-added g c told v m lane here at =
    let old = g.D.Disk.view c.args.disk.now in
    let new = g.D.Disk.view c.open.new.disk in
    let before : failed_before c.in-Err.fault ≡ true = cc in
    let broken : is_broken v.events ≡ true = subst (λ (x : EventLogView). is_broken x ≡ true) (sym here) (c.in-Err.ensures.broken.0 (in_err c.in-Err.fault faults.Broken (failed_is c.in-Err.fault before))) in
    line_added (record v { events = c.in-Ok.opened }) c.add-2.new.self new m c.args.line.now
    (reopened v c.in-Ok.opened (IsAsBefore v.lane old) old new m at broken (subst (λ (x : ℕ). IsOpened x c.in-Ok.opened) (sym lane) c.in-Ok.ensures.value) c.in-Ok.ensures.sound
    (subst (λ (x : ℕ). HoldsLines old.reads x (committed_text c.in-Ok.opened new)) (sym lane) (c.in-Ok.ensures.held told)) (c.in-Ok.ensures.represents told)
    (opens_for v c.args.lane old new lane (c.open.ensures.any_moment told)) (reads_for v c.args.lane old new lane (c.open.ensures.reads told)))
    c.in-Ok-add.ensures.room.0 c.in-Ok-add.ensures.value c.in-Ok-add.ensures.sound c.in-Ok-add.ensures.room.1

pub returns-in-Ok-add-clause-frame : goal.returns-in-Ok-add-clause-frame
returns-in-Ok-add-clause-frame g c = record {
  beside = λ told v m lane here at.
      let a = c.args.disk.now in
      let b = c.open.new.disk in
      beside_for v c.args.lane (g.D.Disk.view a) (g.D.Disk.view b) m lane (record { reads_itself = g.met.D.Disk.reads_itself told a; is_now = g.met.D.Disk.is_now told a; only_now = g.met.D.Disk.only_now told a })
      (record { reads_itself = g.met.D.Disk.reads_itself told b; is_now = g.met.D.Disk.is_now told b; only_now = g.met.D.Disk.only_now told b }) at
      (c.open.ensures.any_moment told) (c.open.ensures.reads told) (c.open.ensures.reads_back told) c.open.ensures.cause.monotone;
  syncs = λ told.
      lines_opened c.args.lane 6 9 (g.D.Disk.view c.args.disk.now) (g.D.Disk.view c.open.new.disk) (c.open.ensures.calls told);
  does = record {
    monotone = c.open.ensures.cause.monotone;
    failed = λ broken. let q : true ≡ false = sym broken ∙ added_whole c.in-Ok.opened c.add-2.new.self c.args.line.now c.in-Ok-add.ensures.value c.in-Ok-add.ensures.room.0 in absurd (cc);
    cause = λ e. absurd (cc);
  };
}

pub returns-in-Err-add-clause-refused : goal.returns-in-Err-add-clause-refused
returns-in-Err-add-clause-refused g c told v m lane here at =
    let old = g.D.Disk.view c.args.disk.now in
    let new = g.D.Disk.view c.open.new.disk in
    let before : failed_before c.in-Err.fault ≡ true = cc in
    let broken : is_broken v.events ≡ true = subst (λ (x : EventLogView). is_broken x ≡ true) (sym here) (c.in-Err.ensures.broken.0 (in_err c.in-Err.fault faults.Broken (failed_is c.in-Err.fault before))) in
    let at1 : Represents (record v { events = c.in-Ok.opened }) new m =
    reopened v c.in-Ok.opened (IsAsBefore v.lane old) old new m at broken (subst (λ (x : ℕ). IsOpened x c.in-Ok.opened) (sym lane) c.in-Ok.ensures.value) c.in-Ok.ensures.sound
    (subst (λ (x : ℕ). HoldsLines old.reads x (committed_text c.in-Ok.opened new)) (sym lane) (c.in-Ok.ensures.held told)) (c.in-Ok.ensures.represents told)
    (opens_for v c.args.lane old new lane (c.open.ensures.any_moment told)) (reads_for v c.args.lane old new lane (c.open.ensures.reads told)) in (
      told_so c.args.lane v.lane c.args.line.now m (line_refusal c.in-Err-add.fault) c.line_refusal-in-Err-add.result old new lane c.line_refusal-in-Err-add.ensures
          (add_fault (record v { events = c.in-Ok.opened }) new old new m c.args.line.now c.in-Err-add.fault at1
          (λ e. let x = c.in-Err-add.ensures.broken.0 (in_err c.in-Err-add.fault faults.Broken e) in let y = c.in-Ok.ensures.value.whole in let z : false ≡ true = sym y ∙ x in cc)
          c.in-Err-add.ensures.fault (λ e. c.in-Err-add.ensures.full (in_err c.in-Err-add.fault (faults.Full parts.Lines) e))),
      same_events (record v { events = c.in-Ok.opened }) c.add-2.new.self new m c.in-Err-add.ensures.refused at1,
    )

pub returns-in-Err-add-clause-frame : goal.returns-in-Err-add-clause-frame
returns-in-Err-add-clause-frame g c = record {
  beside = λ told v m lane here at.
      let a = c.args.disk.now in
      let b = c.open.new.disk in
      beside_for v c.args.lane (g.D.Disk.view a) (g.D.Disk.view b) m lane (record { reads_itself = g.met.D.Disk.reads_itself told a; is_now = g.met.D.Disk.is_now told a; only_now = g.met.D.Disk.only_now told a })
      (record { reads_itself = g.met.D.Disk.reads_itself told b; is_now = g.met.D.Disk.is_now told b; only_now = g.met.D.Disk.only_now told b }) at
      (c.open.ensures.any_moment told) (c.open.ensures.reads told) (c.open.ensures.reads_back told) c.open.ensures.cause.monotone;
  syncs = λ told.
      lines_opened c.args.lane 6 9 (g.D.Disk.view c.args.disk.now) (g.D.Disk.view c.open.new.disk) (c.open.ensures.calls told);
  does =
      let before : failed_before c.in-Err.fault ≡ true = cc in
      let broken : is_broken c.args.events.now ≡ true = c.in-Err.ensures.broken.0 (in_err c.in-Err.fault faults.Broken (failed_is c.in-Err.fault before)) in
      record { monotone = c.open.ensures.cause.monotone; failed = λ is. inl broken; cause = λ e. inl broken };
}
