use Rattle.std.proofs.Common.{◌≡◌, ◌≤◌, ◌∙◌, ◌++◌, ◌∷◌, ◌+◌, arith, ℕ, List, [], Option, length, sym, ap, subst, inl, inr}
use Rattle.lsv_iolog.specs.Reading.{IsBehind, IsWhole}
use Rattle.lsv_iolog.proofs.Scans.{if_none_at, if_some_at}
use Rattle.lsv_iolog.proofs.Viewing.{err_of}
use Rattle.lsv_iolog.specs.declared.fault.ViewFault.TheVariants as faults
use Rattle.lsv_msg.specs.declared.messages.ClientMessage.{ClientMessage}
use Rattle.lsv_record.specs.declared.records.Record.{Record}
use Rattle.lsv_transcript.proofs.Points.{IsGiving, damage_first, fault_first, given_all, gives_end, gives_one, length_more, reading_goes_on, some_size}
use Rattle.lsv_transcript.proofs.messages.next_messages.Goals as goal

pub returns-then-size-gt-ENOUGH-clause-gives : goal.returns-then-size-gt-ENOUGH-clause-gives
returns-then-size-gt-ENOUGH-clause-gives g c told records fresh =
    let is = c.records.invariant.giving told records fresh in
    given_all c.records.log (g.D.Disk.view c.records.disk) records c.records.batch c.records.size c.args.most is (λ none. absurd (some_size c.records.log (g.D.Disk.view c.records.disk) records c.records.batch c.records.size is c.if-size-gt-ENOUGH.true none))

pub returns-in-Ok-None-clause-gives : goal.returns-in-Ok-None-clause-gives
returns-in-Ok-None-clause-gives g c told records fresh =
    gives_end c.records.log c.next.new.self (g.D.Disk.view c.records.disk) (g.D.Disk.view c.next.new.disk) records c.records.batch c.records.size c.args.most (c.records.invariant.giving told records fresh) c.next.ensures.same (c.next.ensures.reads told)
    (if_none_at c.in-Ok-None.field-0 ((rs : List Record) → IsBehind c.records.log rs (g.D.Disk.view c.records.disk) → IsWhole c.records.log rs (g.D.Disk.view c.records.disk) × IsBehind c.next.new.self rs (g.D.Disk.view c.next.new.disk)) c.in-Ok-None.field-0-is (c.in-Ok-None.ensures.end told))

pub records-preserved : goal.records-preserved
records-preserved g c = record {
  giving = λ told records fresh.
      subst (λ (n : ℕ). IsGiving c.next.new.self (g.D.Disk.view c.next.new.disk) records c.push.new.self (c.records.size + n)) (sym c.size_of-size.ensures)
      (gives_one c.records.log c.next.new.self (g.D.Disk.view c.records.disk) (g.D.Disk.view c.next.new.disk) records c.records.batch c.push.new.self c.records.size c.in-Ok-Some.record (c.records.invariant.giving told records fresh) c.if-size-gt-ENOUGH.false
      (if_some_at c.in-Ok-Some.field-0 c.in-Ok-Some.record (λ r. (rs : List Record) → IsBehind c.records.log rs (g.D.Disk.view c.records.disk) → IsBehind c.next.new.self (rs ++ r ∷ []) (g.D.Disk.view c.next.new.disk)) c.in-Ok-Some.field-0-is (c.in-Ok-Some.ensures.given told))
      c.in_ok-push.ensures.messages c.in_ok-push.ensures.elapsed);
  reading = reading_goes_on g.D.Disk.tells c.args.log.now c.records.log c.next.new.self (g.D.Disk.view c.args.disk.now) (g.D.Disk.view c.records.disk) (g.D.Disk.view c.next.new.disk)
      c.records.invariant.reading c.next.ensures.same (λ told. c.next.ensures.reads told) c.next.ensures.cause.monotone;
  many = ap (λ (ms : List ClientMessage). length ms) c.in_ok-push.ensures.messages ∙ (length_more c.records.batch.messages _ ∙ ap (λ (n : ℕ). n + 1) c.records.invariant.many);
}

pub returns-in-Err-clause-damaged : goal.returns-in-Err-clause-damaged
returns-in-Err-clause-damaged g c told part is records fresh =
    let first = fault_first c.unless_empty.result c.in-Err.fault (faults.Damaged part) (c.records.batch.messages ≡ []) c.unless_empty.ensures.err is in
    damage_first g.D.Disk.tells c.args.log.now c.records.log (g.D.Disk.view c.args.disk.now) (g.D.Disk.view c.records.disk) records c.records.batch c.records.size c.records.invariant.reading told (c.records.invariant.giving told records fresh) first.1 part
    (c.in-Err.ensures.damaged told part (err_of {T = Option Record} c.in-Err.fault (faults.Damaged part) first.0))
