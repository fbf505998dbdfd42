-- The log is opened, its records are seen, and it is cut.
use Rattle.std.proofs.Common.{◌≡◌, ℕ, true, false, Some, Result, Err, IsErrOf, sym, ◌∙◌, ap, subst, arith, inl, inr, rules}
use Rattle.lsv_disk.specs.Throughout.{Throughout, CallsAtMost}
use Rattle.lsv_disk.specs.declared.file.Part.TheVariants.{Slots}
use Rattle.lsv_bundle.specs.Shape.{journal_of}
use Rattle.lsv_iolog.specs.Later.{cut_log}
use Rattle.lsv_iolog.specs.Moments.{IsCutFault, IsEither}
use Rattle.lsv_iolog.specs.Recovered.{IsOfLog, owner_of}
use Rattle.lsv_iolog.specs.Value.{IoLogView, bare}
use Rattle.lsv_iolog.specs.declared.fault.LogFault.{LogFault}
use Rattle.lsv_iolog.specs.declared.fault.LogFault.TheVariants as logs
use Rattle.lsv_iolog.proofs.Decided.{damaged}
use Rattle.lsv_iolog.proofs.Finishing.{going_exit}
use Rattle.lsv_mask.specs.Masking.{Seen}
use Rattle.lsv_keeper.specs.Resuming.{IsResumeFault, LogRose, restart_refusal}
use Rattle.lsv_keeper.proofs.Frames.{Laws}
use Rattle.lsv_keeper.proofs.Looking.{complete_exit, cut_fault, cut_into, err_as, found_read, open_holds, open_read, opened_fault, read_fault, rose_in_second}
use Rattle.lsv_keeper.proofs.Syncing.{cut_others, opened_others, reads_none, unused_on}
use Rattle.lsv_keeper.proofs.Causes.{resume_cause, later_on, log_rose, rose_second}
use Rattle.lsv_keeper.specs.Causes.{StoreRose}
use Rattle.lsv_iolog.specs.Faults.{IsOpenFault}
use Rattle.lsv_request.specs.declared.refusal.Refusal.TheVariants.{DeviceFault}
use Rattle.lsv_keeper.proofs.resume.resume_log.Goals as goal

log_err : (e d : LogFault) → e ≡ d → IsErrOf {T = IoLogView} (Err e) d
log_err e d is = ap (λ (x : LogFault). let y : Result IoLogView LogFault = Err x in y) is

mask_err : (e d : LogFault) → e ≡ d → IsErrOf {T = Seen} (Err e) d
mask_err e d is = ap (λ (x : LogFault). let y : Result Seen LogFault = Err x in y) is

unit_err : (e d : LogFault) → e ≡ d → IsErrOf {T = Unit {0}} (Err e) d
unit_err e d is = ap (λ (x : LogFault). let y : Result (Unit {0}) LogFault = Err x in y) is

pub returns-in_err-log : goal.returns-in_err-log
returns-in_err-log g c = record {
  resumed = search rules;
  fault = λ told.
      let e = c.in_err-log.field-0.0 in
      err_as c.from_residual.result e (λ x. IsResumeFault c.args.number c.args.point x (g.D.Disk.view c.args.disk.now) (g.D.Disk.view c.open.new.disk)) c.from_residual.ensures.1
      (opened_fault c.args.number c.args.point e (g.D.Disk.view c.args.disk.now) (g.D.Disk.view c.open.new.disk) c.in_err-log.ensures.fault
      (record { run = c.open.ensures.any_moment told; reads = c.open.ensures.reads told; unmade = c.open.ensures.unmade told; others = (c.open.ensures.calls told).writes.others; unwritten = c.open.ensures.unwritten told })
      (λ is. (c.in_err-log.ensures.absent told (log_err e logs.Absent is)).0)
      (λ part is. damaged (g.D.Disk.view c.args.disk.now).reads c.args.number part (c.in_err-log.ensures.damaged told part (log_err e (logs.Damaged part) is)))
      (λ is. c.in_err-log.ensures.cause.risen (log_err e logs.Disk is)));
  monotone = search rules;
  syncs = λ told n other.
      opened_others n c.args.number 3 5 (g.D.Disk.view c.args.disk.now) (g.D.Disk.view c.open.new.disk) (c.open.ensures.calls told) other;
  cause =
      let old = g.D.Disk.view c.args.disk.now in
      let one = g.D.Disk.view c.open.new.disk in
      let e = c.in_err-log.field-0.0 in
      err_as c.from_residual.result e (λ x. restart_refusal x ≡ DeviceFault → StoreRose old one) c.from_residual.ensures.1
      (resume_cause (StoreRose old one) e (λ is. log_rose c.args.number old one (c.in_err-log.ensures.cause.risen (log_err e logs.Disk is))) (λ is. subst IsOpenFault is c.in_err-log.ensures.fault));
  whole = search rules;
}

pub returns-then-is_complete : goal.returns-then-is_complete
returns-then-is_complete g c = record {
  resumed = search rules;
  fault = λ told.
      let f = c.in_ok-log.ensures.found told in (
        f.0,
        record {
          looked = record { run = c.open.ensures.any_moment told; reads = c.open.ensures.reads told; unmade = c.open.ensures.unmade told; others = (c.open.ensures.calls told).writes.others; unwritten = c.open.ensures.unwritten told };
          was = f.1;
          now = open_holds c.args.number c.in_ok-log.log f.0 (g.D.Disk.view c.open.new.disk) c.in_ok-log.ensures.number f.2;
        },
        complete_exit c.in_ok-log.log f.0 (g.D.Disk.view c.open.new.disk) f.2 (sym c.is_complete.ensures ∙ c.if-is_complete.true),
      );
  monotone = search rules;
  syncs = λ told n other.
      opened_others n c.args.number 3 5 (g.D.Disk.view c.args.disk.now) (g.D.Disk.view c.open.new.disk) (c.open.ensures.calls told) other;
  cause = λ e. absurd (cc);
  whole = search rules;
}

pub returns-in-Err : goal.returns-in-Err
returns-in-Err g c = record {
  resumed = search rules;
  fault = λ told.
      let f = c.in_ok-log.ensures.found told in
      let old = g.D.Disk.view c.args.disk.now in
      let one = g.D.Disk.view c.open.new.disk in
      let two = g.D.Disk.view c.mask_behind.new.disk in
      let going = going_exit c.in_ok-log.log (bare f.0) one f.2 (sym c.is_complete.ensures ∙ c.if-is_complete.false) in
      let found = found_read c.args.number c.in_ok-log.log f.0 old one two (record { reads_itself = g.met.D.Disk.reads_itself told c.open.new.disk; is_now = g.met.D.Disk.is_now told c.open.new.disk; only_now = g.met.D.Disk.only_now told c.open.new.disk })
      c.in_ok-log.ensures.number (record { run = c.open.ensures.any_moment told; reads = c.open.ensures.reads told; unmade = c.open.ensures.unmade told; others = (c.open.ensures.calls told).writes.others; unwritten = c.open.ensures.unwritten told }) f.1 f.2 (c.mask_behind.ensures.reads told) in
      let there = (c.open.ensures.reads told).forth (Some f.0) f.1 in
      let e = c.in-Err.fault in
      read_fault c.args.number c.args.point f.0 e old two c.in-Err.ensures.fault found going
      (λ is. c.in-Err.ensures.absent told (mask_err e logs.Absent is) f.0 there)
      (λ part is. c.in-Err.ensures.damaged told part (mask_err e (logs.Damaged part) is) f.0 there)
      (λ is. c.in-Err.ensures.none told (mask_err e (logs.NoPoint c.args.point) is) f.0 there)
      (λ is. rose_in_second c.args.number old one two c.open.ensures.cause.monotone (c.in-Err.ensures.cause.risen (mask_err e logs.Disk is)));
  monotone = search rules;
  syncs = λ told n other.
      let old = g.D.Disk.view c.args.disk.now in
      let one = g.D.Disk.view c.open.new.disk in
      let two = g.D.Disk.view c.mask_behind.new.disk in
      let read = unused_on n old one two (opened_others n c.args.number 3 5 old one (c.open.ensures.calls told) other) (reads_none one two (c.mask_behind.ensures.reads told) n) in
      read;
  cause =
      let old = g.D.Disk.view c.args.disk.now in
      let one = g.D.Disk.view c.open.new.disk in
      let two = g.D.Disk.view c.mask_behind.new.disk in
      let e = c.in-Err.fault in
      resume_cause (StoreRose old two) e (λ is. rose_second old one two c.open.ensures.cause.monotone (log_rose c.args.number one two (c.in-Err.ensures.cause.risen (mask_err e logs.Disk is))))
      (λ is. elim c.in-Err.ensures.fault [ inl none ↦ (let q : logs.NoPoint c.args.point ≡ logs.Broken = sym none ∙ is in cc) | inr other ↦ subst IsOpenFault is other ]);
  whole = search rules;
}

pub cut_at-requires-clause-represents : goal.cut_at-requires-clause-represents
cut_at-requires-clause-represents g c told whole =
    let f = c.in_ok-log.ensures.found told in
    (bare f.0, open_read c.in_ok-log.log f.0 (g.D.Disk.view c.open.new.disk) (g.D.Disk.view c.mask_behind.new.disk) f.2 (c.mask_behind.ensures.reads told))

pub returns-in_err-cut_at-in-Ok : goal.returns-in_err-cut_at-in-Ok
returns-in_err-cut_at-in-Ok g c = record {
  resumed = search rules;
  fault = λ told.
      let f = c.in_ok-log.ensures.found told in
      let old = g.D.Disk.view c.args.disk.now in
      let one = g.D.Disk.view c.open.new.disk in
      let two = g.D.Disk.view c.mask_behind.new.disk in
      let three = g.D.Disk.view c.cut_at.new.disk in
      let number = c.in_ok-log.ensures.number in
      let going = going_exit c.in_ok-log.log (bare f.0) one f.2 (sym c.is_complete.ensures ∙ c.if-is_complete.false) in
      let laws1 : Laws one = record { reads_itself = g.met.D.Disk.reads_itself told c.open.new.disk; is_now = g.met.D.Disk.is_now told c.open.new.disk; only_now = g.met.D.Disk.only_now told c.open.new.disk } in
      let laws2 : Laws two = record { reads_itself = g.met.D.Disk.reads_itself told c.mask_behind.new.disk; is_now = g.met.D.Disk.is_now told c.mask_behind.new.disk; only_now = g.met.D.Disk.only_now told c.mask_behind.new.disk } in
      let laws3 : Laws three = record { reads_itself = g.met.D.Disk.reads_itself told c.cut_at.new.disk; is_now = g.met.D.Disk.is_now told c.cut_at.new.disk; only_now = g.met.D.Disk.only_now told c.cut_at.new.disk } in
      let found = found_read c.args.number c.in_ok-log.log f.0 old one two laws1 number (record { run = c.open.ensures.any_moment told; reads = c.open.ensures.reads told; unmade = c.open.ensures.unmade told; others = (c.open.ensures.calls told).writes.others; unwritten = c.open.ensures.unwritten told }) f.1 f.2 (c.mask_behind.ensures.reads told) in
      let at = open_read c.in_ok-log.log f.0 one two f.2 (c.mask_behind.ensures.reads told) in
      let e = c.in_err-cut_at-in-Ok.field-0.0 in
      err_as c.from_residual-in_err-cut_at-in-Ok.result e (λ x. IsResumeFault c.args.number c.args.point x old three) c.from_residual-in_err-cut_at-in-Ok.ensures.1
      (cut_fault c.args.number c.args.point f.0 e old two three laws2 laws3 found going c.in_err-cut_at-in-Ok.ensures.fault
      (λ is. let x : false ≡ true = sym c.in_ok-log.ensures.whole ∙ c.in_err-cut_at-in-Ok.ensures.broken.0 (unit_err e logs.Broken is) in cc)
      (λ is. let x : false ≡ true = sym (sym c.is_complete.ensures ∙ c.if-is_complete.false) ∙ (c.in_err-cut_at-in-Ok.ensures.complete (unit_err e logs.Complete is)).0 in cc)
      (λ is. c.in_err-cut_at-in-Ok.ensures.none told (unit_err e (logs.NoPoint c.args.point) is) (bare f.0) at)
      (λ is. c.in_err-cut_at-in-Ok.ensures.full told (unit_err e (logs.Full Slots) is) (bare f.0) at)
      (λ other. c.in_err-cut_at-in-Ok.ensures.reads told other)
      (λ is. subst (λ (i : ℕ). IsCutFault i c.args.point f.0 two three) number (c.in_err-cut_at-in-Ok.ensures.blame told (unit_err e logs.Disk is) (bare f.0) at))
      (λ is. subst (λ (i : ℕ). LogRose i two three) number (c.in_err-cut_at-in-Ok.ensures.cause.risen (unit_err e logs.Disk is)))
      (subst (λ (i : ℕ). Throughout (IsOfLog i) (IsEither i (Some f.0) (Some (cut_log f.0 c.args.point))) two three) number (c.cut_at.ensures.any_moment told (bare f.0) at))
      (λ file. (let a = c.open.ensures.cause.monotone file in let b = c.mask_behind.ensures.cause.monotone file in omega arith)));
  monotone = search rules;
  syncs = λ told n other.
      let old = g.D.Disk.view c.args.disk.now in
      let one = g.D.Disk.view c.open.new.disk in
      let two = g.D.Disk.view c.mask_behind.new.disk in
      let read = unused_on n old one two (opened_others n c.args.number 3 5 old one (c.open.ensures.calls told) other) (reads_none one two (c.mask_behind.ensures.reads told) n) in
      let three = g.D.Disk.view c.cut_at.new.disk in
      unused_on n old two three read (cut_others n c.args.number 2 2 two three (subst (λ (i : ℕ). CallsAtMost 2 2 (λ file. file ≡ journal_of (owner_of i)) two three) c.in_ok-log.ensures.number (c.cut_at.ensures.calls told)) other);
  cause =
      let old = g.D.Disk.view c.args.disk.now in
      let one = g.D.Disk.view c.open.new.disk in
      let two = g.D.Disk.view c.mask_behind.new.disk in
      let three = g.D.Disk.view c.cut_at.new.disk in
      let e = c.in_err-cut_at-in-Ok.field-0.0 in
      err_as c.from_residual-in_err-cut_at-in-Ok.result e (λ x. restart_refusal x ≡ DeviceFault → StoreRose old three) c.from_residual-in_err-cut_at-in-Ok.ensures.1
      (resume_cause (StoreRose old three) e
      (λ is. rose_second old two three (later_on old one two c.open.ensures.cause.monotone c.mask_behind.ensures.cause.monotone) (log_rose c.in_ok-log.log.number two three (c.in_err-cut_at-in-Ok.ensures.cause.risen (unit_err e logs.Disk is))))
      (λ is. let x : false ≡ true = sym c.in_ok-log.ensures.whole ∙ c.in_err-cut_at-in-Ok.ensures.broken.0 (unit_err e logs.Broken is) in cc));
  whole = search rules;
}

pub returns-in_ok-cut_at-in-Ok : goal.returns-in_ok-cut_at-in-Ok
returns-in_ok-cut_at-in-Ok g c = record {
  resumed = λ told.
      let f = c.in_ok-log.ensures.found told in
      let old = g.D.Disk.view c.args.disk.now in
      let one = g.D.Disk.view c.open.new.disk in
      let two = g.D.Disk.view c.mask_behind.new.disk in
      let three = g.D.Disk.view c.cut_at.new.disk in
      let number = c.in_ok-log.ensures.number in
      let going = going_exit c.in_ok-log.log (bare f.0) one f.2 (sym c.is_complete.ensures ∙ c.if-is_complete.false) in
      let laws1 : Laws one = record { reads_itself = g.met.D.Disk.reads_itself told c.open.new.disk; is_now = g.met.D.Disk.is_now told c.open.new.disk; only_now = g.met.D.Disk.only_now told c.open.new.disk } in
      let laws3 : Laws three = record { reads_itself = g.met.D.Disk.reads_itself told c.cut_at.new.disk; is_now = g.met.D.Disk.is_now told c.cut_at.new.disk; only_now = g.met.D.Disk.only_now told c.cut_at.new.disk } in
      let found = found_read c.args.number c.in_ok-log.log f.0 old one two laws1 number (record { run = c.open.ensures.any_moment told; reads = c.open.ensures.reads told; unmade = c.open.ensures.unmade told; others = (c.open.ensures.calls told).writes.others; unwritten = c.open.ensures.unwritten told }) f.1 f.2 (c.mask_behind.ensures.reads told) in
      let at = open_read c.in_ok-log.log f.0 one two f.2 (c.mask_behind.ensures.reads told) in
      record {
        stored = f.0;
        into = cut_into c.args.number c.args.point f.0 old two three laws3 found going (c.in_ok-cut_at-in-Ok.ensures.found told (bare f.0) at) (c.in_ok-cut_at-in-Ok.ensures.counted told (bare f.0) at)
            (subst (λ (i : ℕ). Throughout (IsOfLog i) (IsEither i (Some f.0) (Some (cut_log f.0 c.args.point))) two three) number (c.cut_at.ensures.any_moment told (bare f.0) at));
        represents = c.in_ok-cut_at-in-Ok.ensures.represents told (bare f.0) at;
        number = c.cut_at.ensures.same.0 ∙ number;
        mask = c.in-Ok.ensures.masks told f.0 ((c.open.ensures.reads told).forth (Some f.0) f.1);
      };
  fault = search rules;
  monotone = search rules;
  syncs = λ told n other.
      let old = g.D.Disk.view c.args.disk.now in
      let one = g.D.Disk.view c.open.new.disk in
      let two = g.D.Disk.view c.mask_behind.new.disk in
      let read = unused_on n old one two (opened_others n c.args.number 3 5 old one (c.open.ensures.calls told) other) (reads_none one two (c.mask_behind.ensures.reads told) n) in
      let three = g.D.Disk.view c.cut_at.new.disk in
      unused_on n old two three read (cut_others n c.args.number 2 2 two three (subst (λ (i : ℕ). CallsAtMost 2 2 (λ file. file ≡ journal_of (owner_of i)) two three) c.in_ok-log.ensures.number (c.cut_at.ensures.calls told)) other);
  cause = search rules;
  whole = c.in_ok-cut_at-in-Ok.ensures.whole.1;
}
