-- Records that were read are said after the log was looked at again.
use Rattle.std.proofs.Common.{◌≡◌, ◌∙◌, ◌++◌, ◌≤◌, ℕ, List, Option, None, Result, Ok, Err, IsErrAnd, refl, sym, ap, subst, arith}
use Rattle.lsv_bundle.specs.declared.body.Body.{Body}
use Rattle.lsv_dialogue.specs.Events.{Event}
use Rattle.lsv_disk.specs.Throughout.{OnlyReads}
use Rattle.lsv_disk.specs.View.{DiskView, HasOwnCause, Image}
use Rattle.lsv_disk.specs.declared.file.FileId.{FileId}
use Rattle.lsv_disk.proofs.Composition.{reads_trans}
use Rattle.lsv_iolog.specs.Reading.{HasCuts, ViewState}
use Rattle.lsv_iolog.specs.Recovered.{IsOfLog}
use Rattle.lsv_iolog.specs.declared.fault.ViewFault.{ViewFault}
use Rattle.lsv_iolog.specs.declared.fault.ViewFault.TheVariants as views
use Rattle.lsv_play.proofs.Played.{same_image}
use Rattle.lsv_play.proofs.ReadAhead.{behind_stays}
use Rattle.lsv_record.specs.declared.records.Record.{Record}
use Rattle.lsv_send.specs.Faults.{IsStuck}
use Rattle.lsv_send.specs.Handing.{Source}
use Rattle.lsv_send.specs.Talks.{IsOf, StandsAt, Start, Told}
use Rattle.lsv_send.specs.declared.sender.Place.{Place}
use Rattle.lsv_send.specs.declared.sender.Place.TheVariants.{Opening, Waiting, Records, Closing, Over}
use Rattle.lsv_send.specs.declared.sender.Sender.{Sender}

stands_stay : (place : Place) (log : ViewState) (records : List Record) (disk later : DiskView) → OnlyReads disk later → StandsAt place log records disk → StandsAt place log records later
stands_stay Opening log records disk later reads stands = behind_stays log records disk later reads stands
stands_stay Waiting log records disk later reads stands = behind_stays log records disk later reads stands
stands_stay Records log records disk later reads stands = behind_stays log records disk later reads stands
stands_stay Closing log records disk later reads stands = tt
stands_stay Over log records disk later reads stands = tt

-- what was handed out stays so, if the disk is only read
pub told_stays : (start : Start) (s : Sender) (disk later : DiskView) (events : List Event) → OnlyReads disk later → Told start s disk events → Told start s later events
told_stays start s disk later events reads t = record {
  hands = t.hands;
  stands = stands_stay s.place s.log (start.source.skipped ++ t.hands.more) disk later reads t.stands;
  opening = t.opening;
  cuts = t.cuts;
  reads = reads_trans start.disk disk later t.reads reads;
}

-- the log has the cuts that it had
pub cuts_now : (start : Start) (s : Sender) (log : ViewState) (disk mid : DiskView) (events : List Event) → IsOf start.source s → log.number ≡ s.log.number → log.body ≡ s.log.body → OnlyReads disk mid → Told start s disk events → HasCuts log.number log.body.extra mid.reads
cuts_now start s log disk mid events is number body reads t =
    subst (λ (i : Image). HasCuts log.number log.body.extra i) (sym (same_image start.disk mid (reads_trans start.disk disk mid t.reads reads)))
    (subst (λ (b : Body). HasCuts log.number b.extra start.disk.reads) (sym (body ∙ is.body)) (subst (λ (n : ℕ). HasCuts n start.source.body.extra start.disk.reads) (sym (number ∙ is.number)) t.cuts))

-- a read failed
pub stuck_by : (source : Source) (image : Image) (records : List Record) (e : ViewFault) → e ≡ views.Disk → IsStuck source image records e
stuck_by source image records e is = subst (IsStuck source image records) (sym is) tt

-- one error is not another
pub same_error : {T : Type 0} (r : Result T ViewFault) (e d : ViewFault) → IsErrAnd r (λ x. x ≡ e) → r ≡ Err d → e ≡ d
same_error (Ok x) e d is same = absurd is
same_error (Err y) e d is same = let at : y ≡ d = cc in sym is ∙ at

-- a call failed, and then others let no count fall
pub cause_kept : (n : ℕ) (Failed : Type 0) (old mid new : DiskView) → HasOwnCause (IsOfLog n) Failed old mid → ((f : FileId) → mid.faults f ≤ new.faults f) → HasOwnCause (IsOfLog n) Failed old new
cause_kept n Failed old mid new cause mono = record {
  monotone = λ f. omega (arith, cause.monotone f, mono f);
  risen = λ is. let one = cause.risen is in (one.0, one.1, λ small. let r = one.2 (omega (arith, mono one.0, small)) in omega (arith, mono one.0, r));
}
