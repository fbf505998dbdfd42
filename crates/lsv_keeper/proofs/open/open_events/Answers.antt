use Rattle.lsv_bundle.specs.declared.fault.BundleFault.TheVariants as bundle_faults
use Rattle.lsv_keeper.specs.declared.fault.StoreFault.TheVariants.{Device}
use Rattle.lsv_keeper.proofs.Syncing.{lines_opened}
use Rattle.lsv_keeper.proofs.Opening.{err_is, events_cause, events_faults, events_store, in_err, some_run}
use Rattle.lsv_keeper.proofs.open.open_events.Goals as goal

pub returns-in-Ok-clause-opened : goal.returns-in-Ok-clause-opened
returns-in-Ok-clause-opened g c told = record {
  is = c.in-Ok.ensures.value;
  sound = c.in-Ok.ensures.sound;
  held = c.in-Ok.ensures.held told;
  represents = c.in-Ok.ensures.represents told;
}

pub returns-in-Ok-clause-store : goal.returns-in-Ok-clause-store
returns-in-Ok-clause-store g c lanes = record {
  store = λ told.
      let old = c.args.disk.now in
      let new = c.open.new.disk in
      events_store c.args.lane lanes (g.D.Disk.view old) (g.D.Disk.view new)
      (record { reads_itself = g.met.D.Disk.reads_itself told old; is_now = g.met.D.Disk.is_now told old; only_now = g.met.D.Disk.only_now told old })
      (record { reads_itself = g.met.D.Disk.reads_itself told new; is_now = g.met.D.Disk.is_now told new; only_now = g.met.D.Disk.only_now told new })
      (c.open.ensures.any_moment told) (c.open.ensures.reads told) (c.open.ensures.reads_back told) c.open.ensures.cause.monotone;
  run = λ told.
      some_run _ _ (g.D.Disk.view c.args.disk.now) (g.D.Disk.view c.open.new.disk) (c.open.ensures.any_moment told);
  unused = λ told.
      lines_opened c.args.lane 6 9 (g.D.Disk.view c.args.disk.now) (g.D.Disk.view c.open.new.disk) (c.open.ensures.calls told);
}

pub returns-in-Ok-clause-cause : goal.returns-in-Ok-clause-cause
returns-in-Ok-clause-cause g c o = record { monotone = c.open.ensures.cause.monotone; risen = λ e. absurd (cc e) }

pub returns-in-Err-clause-fault : goal.returns-in-Err-clause-fault
returns-in-Err-clause-fault g c told =
    events_faults c.args.lane (g.D.Disk.view c.args.disk.now).reads c.in-Err.fault c.events_fault.result c.events_fault.ensures c.in-Err.ensures.fault
    (λ part e. c.in-Err.ensures.damaged told part (in_err c.in-Err.fault (bundle_faults.Damaged part) e))

pub returns-in-Err-clause-store : goal.returns-in-Err-clause-store
returns-in-Err-clause-store g c lanes = record {
  store = λ told.
      let old = c.args.disk.now in
      let new = c.open.new.disk in
      events_store c.args.lane lanes (g.D.Disk.view old) (g.D.Disk.view new)
      (record { reads_itself = g.met.D.Disk.reads_itself told old; is_now = g.met.D.Disk.is_now told old; only_now = g.met.D.Disk.only_now told old })
      (record { reads_itself = g.met.D.Disk.reads_itself told new; is_now = g.met.D.Disk.is_now told new; only_now = g.met.D.Disk.only_now told new })
      (c.open.ensures.any_moment told) (c.open.ensures.reads told) (c.open.ensures.reads_back told) c.open.ensures.cause.monotone;
  run = λ told.
      some_run _ _ (g.D.Disk.view c.args.disk.now) (g.D.Disk.view c.open.new.disk) (c.open.ensures.any_moment told);
  unused = λ told.
      lines_opened c.args.lane 6 9 (g.D.Disk.view c.args.disk.now) (g.D.Disk.view c.open.new.disk) (c.open.ensures.calls told);
}

pub returns-in-Err-clause-cause : goal.returns-in-Err-clause-cause
returns-in-Err-clause-cause g c o = record {
  monotone = c.open.ensures.cause.monotone;
  risen = λ e. events_cause c.args.lane o c.in-Err.fault c.events_fault.result (g.D.Disk.view c.args.disk.now) (g.D.Disk.view c.open.new.disk) c.events_fault.ensures c.in-Err.ensures.fault
      (λ d. c.in-Err.ensures.cause.risen (in_err c.in-Err.fault bundle_faults.Disk d)) (err_is c.events_fault.result (Device o) e);
}

pub returns-in-Ok-clause-sound : goal.returns-in-Ok-clause-sound
returns-in-Ok-clause-sound g c = c.in-Ok.ensures.value.whole
