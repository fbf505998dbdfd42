use Rattle.std.proofs.Common.{◌+◌, ◌-◌, ◌*◌, length}
use Rattle.lsv_search.specs.Reading.{ReadsConjunction, ReadsExpression, GoesOn, next_token}
use Rattle.lsv_search.proofs.read.Reader.+reading.Given as goal

abbrev pub decreases-expression : goal.decreases-expression
decreases-expression l = 3 * (100 - l.depth) + 2

abbrev pub decreases-conjunction : goal.decreases-conjunction
decreases-conjunction l = 3 * (100 - l.depth) + 1

abbrev pub decreases-factor : goal.decreases-factor
decreases-factor l = 3 * (100 - l.depth)

abbrev pub invariant-conjunction-loop-self : goal.invariant-conjunction-loop-self
invariant-conjunction-loop-self l = ReadsConjunction l.depth l.fn.self l.self

abbrev pub decreases-conjunction-loop-self : goal.decreases-conjunction-loop-self
decreases-conjunction-loop-self l = length l.self.words.now - l.self.at

abbrev pub invariant-expression-loop-self : goal.invariant-expression-loop-self
invariant-expression-loop-self l = record {
  read : ReadsExpression l.depth l.fn.self l.self;
  ends : GoesOn (next_token l.self) → ⊥;
}

abbrev pub decreases-expression-loop-self : goal.decreases-expression-loop-self
decreases-expression-loop-self l = length l.self.words.now - l.self.at
