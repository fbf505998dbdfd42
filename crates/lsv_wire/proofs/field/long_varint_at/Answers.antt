use Rattle.lsv_wire.proofs.Varints.{IsReadTo-more, ends_cut, ends_long, ends_whole}
use Rattle.lsv_wire.proofs.field.long_varint_at.Goals as goal

pub returns-then-i-text-clause-exact : goal.returns-then-i-text-clause-exact
returns-then-i-text-clause-exact c = ends_cut _ _ _ _ _ _ c.split_at.ensures.back c.loop-i.invariant c.loop-i-test.true c.if-i-text.true

pub returns-then-byte-lt128-clause-exact : goal.returns-then-byte-lt128-clause-exact
returns-then-byte-lt128-clause-exact c =
    ends_whole _ _ _ _ _ _ _ c.split_at.ensures.back c.loop-i.invariant c.loop-i-test.true c.if-i-text.false c.from.ensures c.if-byte-lt128.true

pub loop-i-preserved : goal.loop-i-preserved
loop-i-preserved c = IsReadTo-more _ _ _ _ c.loop-i.invariant c.loop-i-test.true c.if-i-text.false c.from.ensures c.if-byte-lt128.false

pub returns-clause-exact : goal.returns-clause-exact
returns-clause-exact c = ends_long _ _ _ _ _ _ c.split_at.ensures.back c.loop-i.invariant c.loop-i-test.false
