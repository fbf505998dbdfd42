-- A log that was opened, and resumed at a point.
use Rattle.std.proofs.Common.{◌≡◌, ◌∙◌, inl, inr, ℕ, List, length, take, refl, sym, ap, subst, arith, Option, None, Some, Result}
use Rattle.lsv_bundle.specs.declared.body.Body.{Body}
use Rattle.lsv_disk.specs.Throughout.{OnlyReads}
use Rattle.lsv_disk.specs.View.{DiskView, Image}
use Rattle.lsv_info.specs.declared.times.Head.{Head}
use Rattle.lsv_disk.specs.declared.file.Part.{Part}
use Rattle.lsv_iolog.specs.Damage.{IsViewDamage}
use Rattle.lsv_iolog.specs.Faults.{of_view}
use Rattle.lsv_iolog.specs.Reading.{ViewState, committed_laid}
use Rattle.lsv_bundle.specs.Committed.{HasEntry}
use Rattle.lsv_iolog.specs.Recovered.{Replays, owner_of}
use Rattle.lsv_iolog.specs.declared.fault.LogFault.{LogFault}
use Rattle.lsv_iolog.specs.declared.fault.LogFault.TheVariants as logs
use Rattle.lsv_iolog.specs.declared.fault.ViewFault.{ViewFault}
use Rattle.lsv_iolog.specs.declared.fault.ViewFault.TheVariants as views
use Rattle.lsv_play.specs.Playing.{IsOpened, laid_at}
use Rattle.lsv_play.proofs.Played.{same_image}
use Rattle.lsv_record.specs.Points.{first}
use Rattle.lsv_record.specs.Records.{elapsed}
use Rattle.lsv_record.specs.declared.laid.Laid.{Laid}
use Rattle.lsv_record.specs.declared.records.Record.{Record}
use Rattle.lsv_record.proofs.Points.{first_some}
use Rattle.lsv_record.specs.Layout.{Begins}
use Rattle.lsv_iolog.specs.Reading.{IsFaultBehind}
use Rattle.lsv_send_args.specs.Request.{Asked, Goes, Records, Sending}
use Rattle.lsv_dialogue.specs.declared.ends.End.{End}
use Rattle.lsv_dialogue.specs.declared.ends.TalkFault.{TalkFault}
use Rattle.lsv_send.specs.Handing.{Source}
use Rattle.lsv_send.specs.Ready.{IsReady, IsReadyOver}
use Rattle.lsv_send.specs.Sending.{IsIdle, Outcome, SendsNumber, Talked}
use Rattle.lsv_send.specs.Status.{of_log, of_talk}
use Rattle.lsv_send.specs.declared.fault.SendFault.{SendFault}
use Rattle.lsv_send.specs.declared.status.SendStatus.{SendStatus}
use Rattle.lsv_send.specs.Opening.{HasNoEnd, IsNew, IsNotOpened, IsNotResumed, Opens, Resumes, Skips, begins_of, opening_of, stop_of}
use Rattle.lsv_send.specs.declared.sender.Sender.{Sender}
use Rattle.lsv_send.proofs.Stored.{take_whole}
use Rattle.lsv_send.proofs.Telling.{laid_here}

-- the log wasn't viewed
pub viewed_not : (what : Sending) (n : ℕ) (image : Image) (e : ViewFault) → (e ≡ views.Absent → Replays image n None) → ((part : Part) → e ≡ views.Damaged part → IsViewDamage n part image) → IsNotOpened what n image (of_view e)
viewed_not what n image views.Absent absent damaged = absent refl
viewed_not what n image (views.Damaged part) absent damaged = inl (damaged part refl)
viewed_not what n image views.Disk absent damaged = tt
viewed_not what n image views.NoMem absent damaged = tt

-- the records through a point are of its time
ends_there : (records : List Record) (point : ℕ) → first records point ≡ Some (length records) → point ≡ elapsed records
ends_there records point is =
    let f = first_some records point (length records) is in
    let h : take (length records) records ≡ records = take_whole records (length records) (omega arith) in
    sym f.ends ∙ ap elapsed h

-- the log was resumed
pub resumed_opens : (what : Sending) (n : ℕ) (log : ViewState) (old later : DiskView) (goes : Goes) (stop : Option ℕ) (s : Sender) → what ≡ Records (Some goes) stop → IsOpened n log.body log.head old.reads → Resumes log goes.id goes.point stop later s → Opens what n old later s
resumed_opens what n log old later goes stop s is opened r = record {
  opened = subst (λ (b : Body). IsOpened n b s.log.head old.reads) (sym r.body) (subst (λ (h : Head). IsOpened n log.body h old.reads) (sym r.head) opened);
  skipped = r.skipped;
  skips = subst (λ (w : Sending). Skips w r.skipped) (sym is) r.skips;
  behind = r.behind;
  opening = r.opening ∙ ap (λ (w : Sending). opening_of w s.log.head) (sym is);
  begins = r.begins ∙ ap begins_of (sym is);
  stop = r.stop_is ∙ ap stop_of (sym is);
  place = r.place;
  sent = r.sent ∙ ends_there r.skipped goes.point r.skips;
  known = r.known;
  more = r.more;
  exited = r.exited;
  reached = r.reached;
}

-- it wasn't
pub resumed_not : (what : Sending) (n : ℕ) (log : ViewState) (old mid : DiskView) (goes : Goes) (stop : Option ℕ) (fault : LogFault) → what ≡ Records (Some goes) stop → IsOpened n log.body log.head old.reads → log.number ≡ n → OnlyReads old mid
    → IsNotResumed log goes.point mid fault → IsNotOpened what n old.reads fault
resumed_not what n log old mid goes stop (logs.Damaged part) is opened number reads (records, begins, fault) =
    let same : committed_laid log.number log.body mid ≡ laid_at n log.body old.reads = laid_here n log.body log old mid number refl (same_image old mid reads) in
    inr (record {
      body = log.body;
      head = log.head;
      opened = opened;
      records = records;
      begins = subst (λ (l : Laid). Begins l records) same begins;
      fault = subst (λ (l : Laid). IsFaultBehind l log.body records part) same fault;
    })
resumed_not what n log old mid goes stop (logs.NoPoint point) is opened number reads (at, none) =
    let same : committed_laid log.number log.body mid ≡ laid_at n log.body old.reads = laid_here n log.body log old mid number refl (same_image old mid reads) in record {
      body = log.body;
      head = log.head;
      opened = opened;
      goes = goes;
      stop = stop;
      asked = is;
      point_is = at;
      none = subst (λ (p : ℕ). HasNoEnd (laid_at n log.body old.reads) log.body p) (sym at) (subst (λ (l : Laid). HasNoEnd l log.body goes.point) same none);
    }
resumed_not what n log old mid goes stop logs.Disk is opened number reads h = tt
resumed_not what n log old mid goes stop logs.NoMem is opened number reads h = tt
resumed_not what n log old mid goes stop logs.Absent is opened number reads h = absurd h
resumed_not what n log old mid goes stop logs.Complete is opened number reads h = absurd h
resumed_not what n log old mid goes stop logs.Broken is opened number reads h = absurd h
resumed_not what n log old mid goes stop (logs.Full part) is opened number reads h = absurd h
resumed_not what n log old mid goes stop (logs.TooLong point) is opened number reads h = absurd h

-- ---- ready to be sent

abbrev pub source_of : (what : Sending) (n : ℕ) (s : Sender) (skipped : List Record) → Source
source_of what n s skipped = record { what = what; number = n; head = s.log.head; body = s.log.body; skipped = skipped }

pub ready_over : (what : Sending) (n : ℕ) (before after : DiskView) (s : Sender) → OnlyReads before after → IsNew what n s → (o : Opens what n before after s) → IsReadyOver (source_of what n s o.skipped) s after
ready_over what n before after s reads new o = record {
  is = record { begins = o.begins; stop = o.stop; number = new.number; body = refl };
  behind = o.behind;
  opening = o.opening;
  sent = o.sent;
  cuts = (s.log.body, subst (λ (i : Image). HasEntry (owner_of n) s.log.body i) (sym (same_image before after reads)) o.opened.entry, refl);
}

pub ready_by : (tells : Type 0) (what : Sending) (n : ℕ) (before after : DiskView) (s : Sender) → (tells → OnlyReads before after) → IsNew what n s → (tells → Opens what n before after s) → IsReady tells s after
ready_by tells what n before after s reads new opens = record {
  what = what;
  new = record { number = refl; begins = new.begins; stop = new.stop; opening = new.opening; place = new.place; known = new.known; more = new.more; exited = new.exited; reached = new.reached };
  over = λ d. let o = opens d in (source_of what n s o.skipped, ready_over what n before after s (reads d) new o);
}

-- what was asked for is done
pub sends_log : (tells : Type 0) (asked : Asked) (text : Option ℕ) (n : ℕ) (before after : DiskView) (s : Sender) (server : List ℕ) (ended : Result End (TalkFault SendFault)) (status : SendStatus) (out : Outcome) → text ≡ Some n → server ≡ asked.server → OnlyReads before after
    → status ≡ of_talk ended → (o : Opens asked.what n before after s) → Talked tells (source_of asked.what n s o.skipped) after.reads server ended out → SendsNumber tells text asked before.reads status out
sends_log tells asked text n before after s server ended status out number server_is reads status_is o talked =
    subst (λ (t : Option ℕ). SendsNumber tells t asked before.reads status out) (sym number)
    (inr (record {
      head = s.log.head;
      body = s.log.body;
      skipped = o.skipped;
      opened = o.opened;
      skips = o.skips;
      ended = ended;
      status_is = status_is;
      talked = subst (λ (i : Image). Talked tells (source_of asked.what n s o.skipped) i asked.server ended out) (same_image before after reads) (subst (λ (x : List ℕ). Talked tells (source_of asked.what n s o.skipped) after.reads x ended out) server_is talked);
    }))

-- the log wasn't opened
pub sends_nothing : (tells : Type 0) (asked : Asked) (text : Option ℕ) (n : ℕ) (image : Image) (fault : LogFault) (status : SendStatus) (out : Outcome) → text ≡ Some n → status ≡ of_log fault → IsNotOpened asked.what n image fault → IsIdle out → SendsNumber tells text asked image status out
sends_nothing tells asked text n image fault status out number status_is not idle =
    subst (λ (t : Option ℕ). SendsNumber tells t asked image status out) (sym number) (inl (record { fault = fault; status_is = status_is; not_opened = not; idle = idle }))
