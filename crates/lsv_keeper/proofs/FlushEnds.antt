-- What a flush of the event log says, for the end of a turn.
use Rattle.std.proofs.Common.{◌≡◌, ◌≢◌, ◌≤◌, ◌⊎◌, List, ℕ, [], ◌++◌, refl, ◌∙◌, ap, subst, inl, inr}
use Rattle.std.specs.Prelude.{Bool, true, false, Result, Ok, Err, IsErrOf, ◌↔◌}
use Rattle.lsv_bundle.specs.declared.fault.BundleFault.{BundleFault}
use Rattle.lsv_bundle.specs.declared.fault.BundleFault.TheVariants as faults
use Rattle.lsv_disk.specs.Throughout.{Throughout}
use Rattle.lsv_disk.specs.View.{DiskView, HasOwnCause, Image, IsCrashImage}
use Rattle.lsv_disk.specs.declared.file.FileId.{FileId}
use Rattle.lsv_disk.specs.declared.file.Owner.TheVariants.{Events}
use Rattle.lsv_eventlog.specs.Inner.{IsEventLog}
use Rattle.lsv_eventlog.specs.Moments.{IsEither}
use Rattle.lsv_eventlog.specs.Recovered.{HoldsLines, IsOfEventLog}
use Rattle.lsv_eventlog.specs.Value as events
use Rattle.lsv_eventlog.specs.Value.{EventLogView, added_text, committed_text}
use Rattle.lsv_eventlog.proofs.Laws.{of_lane}
use Rattle.lsv_session.specs.declared.reply.Reply.{Reply}
use Rattle.lsv_machine.specs.Machine.{Machine}
use Rattle.lsv_keeper.specs.Represents.{Represents}
use Rattle.lsv_keeper.specs.Tails.{LinesGive}
use Rattle.lsv_keeper.specs.Value.{KeeperView}
use Rattle.lsv_keeper.proofs.Counting.{owner_rose}
use Rattle.lsv_keeper.proofs.Frames.{Laws}
use Rattle.lsv_keeper.proofs.TailLines.{EventsFailed, events_failed, lines_written}

-- the lines that a flush was given are the machine's, and then those of the turn
given_lines : (v : KeeperView) (m : Machine) (old : DiskView) → Represents v old m → events.is_broken v.events ≡ false
    → (committed_text v.events old ≡ m.lines) × (committed_text v.events old ++ added_text v.events ≡ m.lines ++ m.fresh)
given_lines v m old at whole =
    let are = at.events.whole whole in
    (are.committed, ap (λ (x : List ℕ). x ++ added_text v.events) are.committed ∙ ap (λ (x : List ℕ). m.lines ++ x) are.added)

pub flush_written : (v : KeeperView) (log : EventLogView) (m : Machine) (old new : DiskView) (said : List Reply) → Laws old → Laws new → Represents v old m → events.is_broken v.events ≡ false
    → Throughout (IsOfEventLog v.events.lane) (IsEither v.events.lane (committed_text v.events old) (committed_text v.events old ++ added_text v.events)) old new
    → ((image : Image) → IsCrashImage new image → HoldsLines image v.events.lane (committed_text v.events old ++ added_text v.events))
    → log.lane ≡ v.events.lane → IsEventLog log → events.is_broken log ≡ false → events.Represents log new → committed_text log new ≡ committed_text v.events old ++ added_text v.events
    → added_text log ≡ [] → ((file : FileId) → old.faults file ≤ new.faults file) → LinesGive v m said said (record v { events = log; noting = [] }) old new
flush_written v log m old new said laws laws' at before run now lane sound whole rep committed none monotone =
    let mine = at.events.lane_is in
    let lines = given_lines v m old at before in
    let was = committed_text v.events old in
    let is = committed_text v.events old ++ added_text v.events in
    lines_written v log m old new said laws laws' at was is lines.0 lines.1
    (subst (λ (n : ℕ). Throughout (IsOfEventLog n) (IsEither n was is) old new) mine run)
    (λ image crash. subst (λ (n : ℕ). HoldsLines image n is) mine (now image crash))
    (lane ∙ mine) sound whole rep committed none monotone

pub flush_failed : (v : KeeperView) (log : EventLogView) (m : Machine) (old new : DiskView) (failed : Type 0) → Laws old → Laws new → Represents v old m → events.is_broken v.events ≡ false
    → Throughout (IsOfEventLog v.events.lane) (IsEither v.events.lane (committed_text v.events old) (committed_text v.events old ++ added_text v.events)) old new
    → log.lane ≡ v.events.lane → IsEventLog log → events.is_broken log ≡ true → HasOwnCause (IsOfEventLog v.events.lane) failed old new → failed → EventsFailed v log m old new
flush_failed v log m old new failed laws laws' at before run lane sound broken cause did =
    let mine = at.events.lane_is in
    let lines = given_lines v m old at before in
    let was = committed_text v.events old in
    let is = committed_text v.events old ++ added_text v.events in
    let own : HasOwnCause (IsOfEventLog v.lane) failed old new = subst (λ (n : ℕ). HasOwnCause (IsOfEventLog n) failed old new) mine cause in
    events_failed v log m old new laws laws' at was is lines.0 lines.1
    (subst (λ (n : ℕ). Throughout (IsOfEventLog n) (IsEither n was is) old new) mine run)
    (lane ∙ mine) sound broken (owner_rose (Events v.lane) (IsOfEventLog v.lane) failed old new (of_lane v.lane) own did) cause.monotone

either : (b : Bool) → (b ≡ true) ⊎ (b ≡ false)
either true = inl refl
either false = inr refl

-- it is open where it isn't broken
pub unbroken : (b : Bool) → ((b ≡ true) → ⊥) → b ≡ false
unbroken b isnt = elim (either b) [ inl is ↦ absurd (isnt is) | inr is ↦ is ]

-- of two faults it is the other
other_fault : (e : BundleFault) → (e ≡ faults.Disk) ⊎ (e ≡ faults.Broken) → e ≢ faults.Broken → e ≡ faults.Disk
other_fault e (inl is) isnt = is
other_fault e (inr is) isnt = absurd (isnt is)

same_fault : {T : Type 0} (e f : BundleFault) (result : Result T BundleFault) → result ≡ Err e → result ≡ Err f → e ≡ f
same_fault e f (Err d) is was = cc
same_fault e f (Ok x) is was = cc

-- where a flush failed and it wasn't broken, the device failed
pub flush_lost : {T : Type 0} (v : KeeperView) (log : EventLogView) (m : Machine) (old new : DiskView) (result : Result T BundleFault) (fault : BundleFault) → Laws old → Laws new → Represents v old m
    → result ≡ Err fault → fault ≢ faults.Broken → (fault ≡ faults.Disk) ⊎ (fault ≡ faults.Broken) → (IsErrOf result faults.Broken ↔ (events.is_broken v.events ≡ true)) → (IsErrOf result faults.Disk → events.is_broken log ≡ true)
    → (events.is_broken v.events ≡ false → Throughout (IsOfEventLog v.events.lane) (IsEither v.events.lane (committed_text v.events old) (committed_text v.events old ++ added_text v.events)) old new)
    → log.lane ≡ v.events.lane → IsEventLog log → HasOwnCause (IsOfEventLog v.events.lane) (IsErrOf result faults.Disk) old new → EventsFailed v log m old new
flush_lost v log m old new result fault laws laws' at is isnt which broken disk run lane sound cause =
    let did : result ≡ Err faults.Disk = is ∙ ap Err (other_fault fault which isnt) in
    let before : events.is_broken v.events ≡ false = unbroken (events.is_broken v.events) (λ b. isnt (same_fault fault faults.Broken result is (broken.1 b))) in
    flush_failed v log m old new (IsErrOf result faults.Disk) laws laws' at before (run before) lane sound (disk did) cause did
