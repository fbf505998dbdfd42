use Rattle.std.proofs.Common.{◌≡◌, ℕ, Option, Some, None, inl, inr, refl, ap, sym, ◌∙◌, subst}
use Rattle.std.specs.Prelude.{true, false}
use Rattle.lsv_seq.specs.Value.{last_of}
use Rattle.lsv_keeper.specs.Opening.{IsStoreFault}
use Rattle.lsv_keeper.specs.Value.{AreLinked}
use Rattle.lsv_keeper.specs.declared.fault.StoreFault.TheVariants.{Device}
use Rattle.lsv_keeper.specs.declared.logs.OpenLog.{OpenLog}
use Rattle.lsv_keeper.proofs.Syncing.{unused_on}
use Rattle.lsv_keeper.proofs.Opening.{both_run, cause_after, entry_on, events_alike, fault_alike, in_err, lines_alike, numbers_run, opens_as, passed, same_error, store_on}
use Rattle.lsv_keeper.proofs.keeper.Keeper.open.Goals as goal

pub returns-clause-set : goal.returns-clause-set
returns-clause-set g c = record { lane_is = refl; lanes_is = refl; kind_is = refl; log_exit_is = refl; texts_are = refl }

pub returns-clause-read : goal.returns-clause-read
returns-clause-read g c told = (c.in_ok-numbers.ensures.opened told).read

pub returns-clause-held : goal.returns-clause-held
returns-clause-held g c told =
    lines_alike c.args.lane.number _ (g.D.Disk.view c.args.disk.now) (g.D.Disk.view c.open_numbers.new.disk) _ (c.open_numbers.ensures.store.run told) (c.in_ok-events.ensures.opened told).held

pub returns-clause-touched : goal.returns-clause-touched
returns-clause-touched g c told =
    both_run c.args.lane.number _ _ (g.D.Disk.view c.args.disk.now) (g.D.Disk.view c.open_numbers.new.disk) (g.D.Disk.view c.open_events.new.disk) (c.open_numbers.ensures.store.run told) ((c.open_events.ensures.store c.args.lane.of).run told)

pub returns-clause-store : goal.returns-clause-store
returns-clause-store g c told =
    store_on c.args.lane.number c.args.lane.of (g.D.Disk.view c.args.disk.now) (g.D.Disk.view c.open_numbers.new.disk) (g.D.Disk.view c.open_events.new.disk)
    (c.open_numbers.ensures.store.store told) ((c.open_events.ensures.store c.args.lane.of).store told)

pub returns-clause-kept : goal.returns-clause-kept
returns-clause-kept g c told some =
    let mid = c.open_numbers.new.disk in
    entry_on c.args.lane.number _ (g.D.Disk.view c.args.disk.now) (g.D.Disk.view mid) (g.D.Disk.view c.open_events.new.disk)
    (record { reads_itself = g.met.D.Disk.reads_itself told mid; is_now = g.met.D.Disk.is_now told mid; only_now = g.met.D.Disk.only_now told mid })
    (c.open_numbers.ensures.store.run told).later (c.open_numbers.ensures.kept told some) ((c.open_events.ensures.store c.args.lane.of).run told)

pub returns-clause-opened : goal.returns-clause-opened
returns-clause-opened g c told fit =
    let old = c.args.disk.now in
    opens_as _ (g.D.Disk.view old) (g.D.Disk.view c.open_numbers.new.disk) (g.D.Disk.view c.open_events.new.disk) _ _
    (record { reads_itself = g.met.D.Disk.reads_itself told old; is_now = g.met.D.Disk.is_now told old; only_now = g.met.D.Disk.only_now told old })
    c.requires.lane c.requires.lanes (c.in_ok-numbers.ensures.opened told) (c.in_ok-events.ensures.opened told) (c.open_numbers.ensures.store.run told) ((c.open_events.ensures.store c.args.lane.of).run told)
    (c.open_numbers.ensures.store.store told) ((c.open_events.ensures.store c.args.lane.of).store told) fit c.new-table.ensures c.new-logs.ensures c.new-waiting.ensures.items c.new-noting.ensures.items

pub returns-clause-cause : goal.returns-clause-cause
returns-clause-cause g c o = record {
  monotone = (cause_after o _ (g.D.Disk.view c.args.disk.now) (g.D.Disk.view c.open_numbers.new.disk) (g.D.Disk.view c.open_events.new.disk) (c.open_numbers.ensures.cause o).monotone (c.open_events.ensures.cause o)).monotone;
  risen = λ e. absurd (cc e);
}

pub returns-in_err-numbers-clause-cause : goal.returns-in_err-numbers-clause-cause
returns-in_err-numbers-clause-cause g c o =
    let fault = c.in_err-numbers.field-0.0 in
    record {
      monotone = (c.open_numbers.ensures.cause o).monotone;
      risen = λ e. (c.in_err-numbers.ensures.cause o).risen (in_err fault (Device o) (same_error c.from_residual.result fault (Device o) c.from_residual.ensures.1 e));
    }

pub returns-in_err-numbers-clause-touched : goal.returns-in_err-numbers-clause-touched
returns-in_err-numbers-clause-touched g c told = numbers_run c.args.lane.number _ (g.D.Disk.view c.args.disk.now) (g.D.Disk.view c.open_numbers.new.disk) (c.open_numbers.ensures.store.run told)

pub returns-in_err-events-clause-touched : goal.returns-in_err-events-clause-touched
returns-in_err-events-clause-touched g c told =
    both_run c.args.lane.number _ _ (g.D.Disk.view c.args.disk.now) (g.D.Disk.view c.open_numbers.new.disk) (g.D.Disk.view c.open_events.new.disk) (c.open_numbers.ensures.store.run told) ((c.open_events.ensures.store c.args.lane.of).run told)

pub returns-in_err-events-clause-fault : goal.returns-in_err-events-clause-fault
returns-in_err-events-clause-fault g c told =
    let old = g.D.Disk.view c.args.disk.now in
    let mid = g.D.Disk.view c.open_numbers.new.disk in
    let fault = c.in_err-events.field-0.0 in
    passed (IsStoreFault c.args.lane.number c.args.lane.of old.reads) c.from_residual-in_err-events.result fault c.from_residual-in_err-events.ensures.1
    (inr (
      (last_of c.in_ok-numbers.numbers, (c.in_ok-numbers.ensures.opened told).read),
      fault_alike c.args.lane.number mid.reads old.reads fault (events_alike c.args.lane.number _ old mid (c.open_numbers.ensures.store.run told)) (c.in_err-events.ensures.fault told),
    ))

pub returns-in_err-events-clause-store : goal.returns-in_err-events-clause-store
returns-in_err-events-clause-store g c told =
    store_on c.args.lane.number c.args.lane.of (g.D.Disk.view c.args.disk.now) (g.D.Disk.view c.open_numbers.new.disk) (g.D.Disk.view c.open_events.new.disk)
    (c.open_numbers.ensures.store.store told) ((c.open_events.ensures.store c.args.lane.of).store told)

pub returns-in_err-events-clause-kept : goal.returns-in_err-events-clause-kept
returns-in_err-events-clause-kept g c told some =
    let mid = c.open_numbers.new.disk in
    entry_on c.args.lane.number _ (g.D.Disk.view c.args.disk.now) (g.D.Disk.view mid) (g.D.Disk.view c.open_events.new.disk)
    (record { reads_itself = g.met.D.Disk.reads_itself told mid; is_now = g.met.D.Disk.is_now told mid; only_now = g.met.D.Disk.only_now told mid })
    (c.open_numbers.ensures.store.run told).later (c.open_numbers.ensures.kept told some) ((c.open_events.ensures.store c.args.lane.of).run told)

pub returns-in_err-events-clause-cause : goal.returns-in_err-events-clause-cause
returns-in_err-events-clause-cause g c o =
    let old = g.D.Disk.view c.args.disk.now in
    let mid = g.D.Disk.view c.open_numbers.new.disk in
    let new = g.D.Disk.view c.open_events.new.disk in
    let fault = c.in_err-events.field-0.0 in
    cause_after o _ old mid new (c.open_numbers.ensures.cause o).monotone (record {
      monotone = (c.open_events.ensures.cause o).monotone;
      risen = λ e. (c.in_err-events.ensures.cause o).risen (in_err fault (Device o) (same_error c.from_residual-in_err-events.result fault (Device o) c.from_residual-in_err-events.ensures.1 e));
    })

-- ---- Over every disk

pub returns-clause-rests : goal.returns-clause-rests
returns-clause-rests g c = record {
  none_waits = c.new-waiting.ensures.items;
  nobody_noted = c.new-noting.ensures.items;
  linked = subst AreLinked (sym c.new-table.ensures) (λ k n e. absurd (cc));
  whole = λ n its is. absurd (let q : None ≡ Some its = sym (ap (λ (l : ℕ → Option OpenLog). l n) c.new-logs.ensures) ∙ is in cc);
}

pub returns-clause-sound : goal.returns-clause-sound
returns-clause-sound g c failed = elim failed [
  | inl pending ↦ pending c.in_ok-numbers.ensures.sound
  | inr broken ↦ (let q : true ≡ false = sym broken ∙ c.in_ok-events.ensures.sound in cc)
]

-- ---- Logs

pub returns-clause-unused : goal.returns-clause-unused
returns-clause-unused g c told n =
    unused_on n (g.D.Disk.view c.args.disk.now) (g.D.Disk.view c.open_numbers.new.disk) (g.D.Disk.view c.open_events.new.disk) (c.open_numbers.ensures.store.unused told n) ((c.open_events.ensures.store c.args.lane.of).unused told n)

pub returns-in_err-events-clause-unused : goal.returns-in_err-events-clause-unused
returns-in_err-events-clause-unused g c told n =
    unused_on n (g.D.Disk.view c.args.disk.now) (g.D.Disk.view c.open_numbers.new.disk) (g.D.Disk.view c.open_events.new.disk) (c.open_numbers.ensures.store.unused told n) ((c.open_events.ensures.store c.args.lane.of).unused told n)
