use Rattle.lsv_seq.specs.declared.fault.SeqFault.TheVariants as seq_faults
use Rattle.lsv_keeper.specs.declared.fault.StoreFault.TheVariants.{Device}
use Rattle.lsv_keeper.proofs.Syncing.{draw_unused}
use Rattle.lsv_keeper.proofs.Opening.{err_is, in_err, number_moments, numbers_cause, numbers_entry, numbers_faults, numbers_store, some_run}
use Rattle.lsv_keeper.proofs.open.open_numbers.Goals as goal

pub returns-in-Ok-clause-opened : goal.returns-in-Ok-clause-opened
returns-in-Ok-clause-opened g c told = record {
  lane_is = c.in-Ok.ensures.lane.0;
  lanes_is = c.in-Ok.ensures.lane.1;
  whole = c.in-Ok.ensures.whole;
  read = c.in-Ok.ensures.read told;
  represents = c.in-Ok.ensures.represents told;
}

pub returns-in-Ok-clause-store : goal.returns-in-Ok-clause-store
returns-in-Ok-clause-store g c = record {
  store = λ told.
      let old = c.args.disk.now in
      let new = c.open.new.disk in
      numbers_store c.args.lane c.args.lanes (g.D.Disk.view old) (g.D.Disk.view new)
      (record { reads_itself = g.met.D.Disk.reads_itself told old; is_now = g.met.D.Disk.is_now told old; only_now = g.met.D.Disk.only_now told old })
      (record { reads_itself = g.met.D.Disk.reads_itself told new; is_now = g.met.D.Disk.is_now told new; only_now = g.met.D.Disk.only_now told new })
      (number_moments c.args.lane c.args.lanes (g.D.Disk.view old) (g.D.Disk.view new) (c.open.ensures.any_moment told) (c.open.ensures.kept told)) c.open.ensures.cause.monotone;
  run = λ told.
      some_run _ _ (g.D.Disk.view c.args.disk.now) (g.D.Disk.view c.open.new.disk) (c.open.ensures.any_moment told);
  unused = λ told.
      draw_unused c.args.lane 6 9 (g.D.Disk.view c.args.disk.now) (g.D.Disk.view c.open.new.disk) (c.open.ensures.calls told);
}

pub returns-in-Ok-clause-kept : goal.returns-in-Ok-clause-kept
returns-in-Ok-clause-kept g c told some = numbers_entry c.args.lane (g.D.Disk.view c.args.disk.now) (g.D.Disk.view c.open.new.disk) (c.open.ensures.kept told some) (c.open.ensures.same told some)

pub returns-in-Ok-clause-cause : goal.returns-in-Ok-clause-cause
returns-in-Ok-clause-cause g c o = record { monotone = c.open.ensures.cause.monotone; risen = λ e. absurd (cc e) }

pub returns-in-Err-clause-fault : goal.returns-in-Err-clause-fault
returns-in-Err-clause-fault g c told =
    numbers_faults c.args.lane c.args.lanes (g.D.Disk.view c.args.disk.now).reads c.in-Err.fault c.number_fault.result c.number_fault.ensures (c.in-Err.ensures.refused told)

pub returns-in-Err-clause-store : goal.returns-in-Err-clause-store
returns-in-Err-clause-store g c = record {
  store = λ told.
      let old = c.args.disk.now in
      let new = c.open.new.disk in
      numbers_store c.args.lane c.args.lanes (g.D.Disk.view old) (g.D.Disk.view new)
      (record { reads_itself = g.met.D.Disk.reads_itself told old; is_now = g.met.D.Disk.is_now told old; only_now = g.met.D.Disk.only_now told old })
      (record { reads_itself = g.met.D.Disk.reads_itself told new; is_now = g.met.D.Disk.is_now told new; only_now = g.met.D.Disk.only_now told new })
      (number_moments c.args.lane c.args.lanes (g.D.Disk.view old) (g.D.Disk.view new) (c.open.ensures.any_moment told) (c.open.ensures.kept told)) c.open.ensures.cause.monotone;
  run = λ told.
      some_run _ _ (g.D.Disk.view c.args.disk.now) (g.D.Disk.view c.open.new.disk) (c.open.ensures.any_moment told);
  unused = λ told.
      draw_unused c.args.lane 6 9 (g.D.Disk.view c.args.disk.now) (g.D.Disk.view c.open.new.disk) (c.open.ensures.calls told);
}

pub returns-in-Err-clause-kept : goal.returns-in-Err-clause-kept
returns-in-Err-clause-kept g c told some = numbers_entry c.args.lane (g.D.Disk.view c.args.disk.now) (g.D.Disk.view c.open.new.disk) (c.open.ensures.kept told some) (c.open.ensures.same told some)

pub returns-in-Err-clause-cause : goal.returns-in-Err-clause-cause
returns-in-Err-clause-cause g c o = record {
  monotone = c.open.ensures.cause.monotone;
  risen = λ e. numbers_cause c.args.lane o c.in-Err.fault c.number_fault.result (g.D.Disk.view c.args.disk.now) (g.D.Disk.view c.open.new.disk) c.number_fault.ensures
      (λ d. c.in-Err.ensures.cause.risen (in_err c.in-Err.fault seq_faults.Disk d)) (err_is c.number_fault.result (Device o) e);
}

pub returns-in-Ok-clause-sound : goal.returns-in-Ok-clause-sound
returns-in-Ok-clause-sound g c = c.in-Ok.ensures.whole
