use Rattle.std.proofs.Common.{◌≡◌, ◌<◌, ◌≤◌, ◌-◌, ◌∙◌, ◌++◌, ◌∷◌, arith, ℕ, List, [], sym, subst, inl, inr}
use Rattle.lsv_iolog.specs.Reading.{IsBehind, IsWhole}
use Rattle.lsv_iolog.proofs.Scans.{if_none_at, if_some_at, none_there}
use Rattle.lsv_record.specs.declared.records.Record.{Record}
use Rattle.lsv_transcript.proofs.Points.{Leaves, found_there, leaves_on, none_at_all, none_past, reading_goes_on, whole_same}
use Rattle.lsv_transcript.proofs.passing.pass_over.Goals as goal

pub returns-in_default-clause-passed : goal.returns-in_default-clause-passed
returns-in_default-clause-passed g c told fresh =
    let p = c.records.invariant.passing told fresh in
    let over = if_none_at c.in_ok-record.field-0 ((rs : List Record) → IsBehind c.records.log rs (g.D.Disk.view c.records.disk) → IsWhole c.records.log rs (g.D.Disk.view c.records.disk) × IsBehind c.next.new.self rs (g.D.Disk.view c.next.new.disk))
    (none_there c.in_ok-record.field-0 c.in_default.not-Some) (c.in_ok-record.ensures.end told) p.records p.behind in
    record {
      records = p.records;
      behind = over.1;
      passes = inr (none_at_all p.records c.args.point c.records.rest p.leaves, whole_same c.records.log c.next.new.self (g.D.Disk.view c.records.disk) (g.D.Disk.view c.next.new.disk) p.records c.next.ensures.same.0 c.next.ensures.same.2 (c.next.ensures.reads told) over.0);
    }

pub returns-then-delay-rest-clause-passed : goal.returns-then-delay-rest-clause-passed
returns-then-delay-rest-clause-passed g c told fresh =
    let p = c.records.invariant.passing told fresh in
    record {
      records = p.records ++ c.in-Some.record ∷ [];
      behind = if_some_at c.in_ok-record.field-0 c.in-Some.record (λ r. (rs : List Record) → IsBehind c.records.log rs (g.D.Disk.view c.records.disk) → IsBehind c.next.new.self (rs ++ r ∷ []) (g.D.Disk.view c.next.new.disk))
          c.in-Some.is (c.in_ok-record.ensures.given told) p.records p.behind;
      passes = found_there p.records c.in-Some.record c.args.point c.records.rest p.leaves (sym c.delay-delay.ensures ∙ c.if-delay-rest.true);
    }

pub returns-then-rest-delay-clause-passed : goal.returns-then-rest-delay-clause-passed
returns-then-rest-delay-clause-passed g c told fresh =
    let p = c.records.invariant.passing told fresh in
    record {
      records = p.records ++ c.in-Some.record ∷ [];
      behind = if_some_at c.in_ok-record.field-0 c.in-Some.record (λ r. (rs : List Record) → IsBehind c.records.log rs (g.D.Disk.view c.records.disk) → IsBehind c.next.new.self (rs ++ r ∷ []) (g.D.Disk.view c.next.new.disk))
          c.in-Some.is (c.in_ok-record.ensures.given told) p.records p.behind;
      passes = inl (none_past p.records c.in-Some.record c.args.point c.records.rest p.leaves (subst (λ (x : ℕ). c.records.rest < x) c.delay-delay.ensures c.if-rest-delay.true));
    }

pub records-preserved : goal.records-preserved
records-preserved g c = record {
  passing = λ told fresh.
      let p = c.records.invariant.passing told fresh in
      record {
        records = p.records ++ c.in-Some.record ∷ [];
        behind = if_some_at c.in_ok-record.field-0 c.in-Some.record (λ r. (rs : List Record) → IsBehind c.records.log rs (g.D.Disk.view c.records.disk) → IsBehind c.next.new.self (rs ++ r ∷ []) (g.D.Disk.view c.next.new.disk))
            c.in-Some.is (c.in_ok-record.ensures.given told) p.records p.behind;
        leaves = subst (λ (d : ℕ). Leaves (p.records ++ c.in-Some.record ∷ []) c.args.point (c.records.rest - d)) (sym c.delay-delay.ensures)
            (leaves_on p.records c.in-Some.record c.args.point c.records.rest p.leaves (subst (λ (x : ℕ). x < c.records.rest) c.delay-delay.ensures (below c.delay-delay.result c.records.rest c.if-delay-rest.false c.if-rest-delay.false)));
      };
  reading = reading_goes_on g.D.Disk.tells c.args.log.now c.records.log c.next.new.self (g.D.Disk.view c.args.disk.now) (g.D.Disk.view c.records.disk) (g.D.Disk.view c.next.new.disk)
      c.records.invariant.reading c.next.ensures.same (λ told. c.next.ensures.reads told) c.next.ensures.cause.monotone;
}
  where
    below : (x y : ℕ) → (x ≡ y → ⊥) → x ≤ y → x < y
    below x y ne nm = omega (arith, ne, nm)
