use Rattle.std.proofs.Common.{◌≡◌, ◌∙◌, ◌≤◌, ◌+◌, ℕ, List, Result, Err, length, refl, sym, ap, subst, arith, rules}
use Rattle.std.proofs.lemmas.Grind.{common_steps}
use Rattle.std.proofs.lemmas.Result.{on_ok_weaker}
use Rattle.lsv_search.specs.declared.expr.Stopped.{Stopped}
use Rattle.lsv_search.specs.declared.expr.Stopped.TheVariants.{At}
use Rattle.lsv_search.specs.declared.token.Start.TheVariants.{Negation, Parenthesis, Test}
use Rattle.lsv_search.specs.declared.token.Token.TheVariants as tokens
use Rattle.lsv_search.specs.Reading.{FailsInFactor, GoesOn, next_token, starting}
use Rattle.lsv_search.proofs.Parsing.{goes_within, passes_within, reads_alone, reads_enclosed, reads_more, reads_negation, reads_or, reads_single, reads_test, same_steps, same_token, same_words, start_negation, start_parenthesis, start_test, started, still_text}
use Rattle.lsv_search.proofs.Refusing.{fails_in_argument, fails_in_more, fails_in_negation, fails_in_or, fails_in_parenthesis, fails_to_close, fails_to_start}
use Rattle.lsv_search.proofs.read.Reader.+reading.Goals as goal

pub conjunction-loop-self-init : goal.conjunction-loop-self-init
conjunction-loop-self-init t c = reads_single c.args.depth c.args.self.now c.factor.new.self c.in_ok-factor.ensures.ok

pub conjunction-factor-requires-in-loop-self : goal.conjunction-factor-requires-in-loop-self
conjunction-factor-requires-in-loop-self t c =
    let goes = c.goes_on.ensures in
    let same = same_words c.loop-self.self c.goes_on.new.self goes.kept.0 in
    let before = c.loop-self.invariant.read in (
      first_of (search rules, omega arith),
      (
        c.requires.depth,
        (
          still_text c.args.self.now c.goes_on.new.self (same ∙ before.same) c.requires.words,
          goes_within c.loop-self.self c.goes_on.new.self (goes.goes.0 c.loop-self-test.true) same goes.passed goes.stays,
        ),
      ),
    )

pub conjunction-returns-in_err-factor-2-clause-bad : goal.conjunction-returns-in_err-factor-2-clause-bad
conjunction-returns-in_err-factor-2-clause-bad t c at is =
    let from = c.from_residual-in_err-factor-2.ensures in
    let goes = c.goes_on.ensures in
    let gone : ◌≡◌ {A = Result (Unit {0}) Stopped} (Err c.in_err-factor-2.field-0.0) (Err (At at)) = first_of (search rules, grind (arith, common_steps)) in
    fails_in_more c.args.depth c.args.self.now c.loop-self.self c.goes_on.new.self at c.loop-self.invariant (goes.goes.0 c.loop-self-test.true) (same_words c.loop-self.self c.goes_on.new.self goes.kept.0) goes.passed goes.stays
    (c.in_err-factor-2.ensures.bad at gone)

pub conjunction-loop-self-preserved : goal.conjunction-loop-self-preserved
conjunction-loop-self-preserved t c =
    let a = c.loop-self.self in
    let b = c.goes_on.new.self in
    let d = c.factor-in-loop-self.new.self in
    let e = c.push.new.self in
    let goes = c.goes_on.ensures in
    reads_more c.args.depth c.args.self.now a b d e c.loop-self.invariant (same_words a b goes.kept.0) (same_steps a b goes.kept.1) goes.passed goes.stays
    c.in_ok-factor-2.ensures.ok (same_words d e c.push.ensures.kept.0) c.push.ensures.kept.1 c.in_ok-push.ensures.pushed

pub expression-loop-self-init : goal.expression-loop-self-init
expression-loop-self-init t c = record {
  read = reads_alone c.args.depth c.args.self.now c.conjunction.new.self c.in_ok-conjunction.ensures.ok;
  ends = c.in_ok-conjunction.ensures.ends;
}

pub expression-conjunction-requires-in-loop-self : goal.expression-conjunction-requires-in-loop-self
expression-conjunction-requires-in-loop-self t c =
    let a = c.loop-self.self in
    let b = c.passes_or.new.self in
    let same = same_words a b c.passes_or.ensures.kept.0 in
    let passed = c.passes_or.ensures.passed c.loop-self-test.true in
    let before = c.loop-self.invariant.read.read in
    let there = passes_within a tokens.Or passed.0 in (
      first_of (search rules, omega arith),
      (
        c.requires.depth,
        (
          still_text c.args.self.now b (same ∙ before.same) c.requires.words,
          subst (λ (ws : List (List ℕ)). b.at ≤ length ws) (sym same) (let place = passed.1 in omega arith),
        ),
      ),
    )

pub expression-returns-in_err-conjunction-2-clause-bad : goal.expression-returns-in_err-conjunction-2-clause-bad
expression-returns-in_err-conjunction-2-clause-bad t c at is =
    let from = c.from_residual-in_err-conjunction-2.ensures in
    let passed = c.passes_or.ensures.passed c.loop-self-test.true in
    let gone : ◌≡◌ {A = Result (Unit {0}) Stopped} (Err c.in_err-conjunction-2.field-0.0) (Err (At at)) = first_of (search rules, grind (arith, common_steps)) in
    fails_in_or c.args.depth c.args.self.now c.loop-self.self c.passes_or.new.self at c.loop-self.invariant.read passed.0 (same_words c.loop-self.self c.passes_or.new.self c.passes_or.ensures.kept.0) passed.1
    (c.in_err-conjunction-2.ensures.bad at gone)

pub expression-loop-self-preserved : goal.expression-loop-self-preserved
expression-loop-self-preserved t c =
    let a = c.loop-self.self in
    let b = c.passes_or.new.self in
    let d = c.conjunction-in-loop-self.new.self in
    let e = c.push.new.self in
    let passed = c.passes_or.ensures.passed c.loop-self-test.true in
    let same = same_words d e c.push.ensures.kept.0 in
    record {
      read = reads_or c.args.depth c.args.self.now a b d e c.loop-self.invariant.read passed.0 (same_words a b c.passes_or.ensures.kept.0) passed.1 (same_steps a b c.passes_or.ensures.kept.1)
          c.in_ok-conjunction-2.ensures.ok same c.push.ensures.kept.1 c.in_ok-push.ensures.pushed;
      ends = λ goes. c.in_ok-conjunction-2.ensures.ends (subst GoesOn (same_token d e same c.push.ensures.kept.1) goes);
    }

pub factor-returns-in_err-factor-in-Some-Negation-clause-bad : goal.factor-returns-in_err-factor-in-Some-Negation-clause-bad
factor-returns-in_err-factor-in-Some-Negation-clause-bad t c at is =
    let from = c.from_residual.ensures in
    let arm = c.in-Some-Negation in
    let token = start_negation c.args.depth (next_token c.args.self.now) (started c.args.depth c.args.self.now c.token.result arm.field-0 Negation c.token.ensures arm.ensures arm.field-0-is) in
    let gone : ◌≡◌ {A = Result (Unit {0}) Stopped} (Err c.in_err-factor-in-Some-Negation.field-0.0) (Err (At at)) = first_of (search rules, grind (arith, common_steps)) in
    fails_in_negation c.args.depth c.args.self.now (record c.args.self.now { at = c.args.self.now.at + 1 }) at token.0 token.1 refl refl (c.in_err-factor-in-Some-Negation.ensures.bad at gone)

pub factor-expression-requires : goal.factor-expression-requires
factor-expression-requires t c =
    let arm = c.in-Some-Parenthesis in
    let token = start_parenthesis c.args.depth (next_token c.args.self.now) (started c.args.depth c.args.self.now c.token.result arm.field-0 Parenthesis c.token.ensures arm.ensures arm.field-0-is) in
    let lt = token.1 in
    (first_of (search rules, omega arith), (omega arith, (c.requires.words, passes_within c.args.self.now tokens.Opening token.0)))

pub factor-returns-in_err-expression-in-Some-Parenthesis-clause-bad : goal.factor-returns-in_err-expression-in-Some-Parenthesis-clause-bad
factor-returns-in_err-expression-in-Some-Parenthesis-clause-bad t c at is =
    let from = c.from_residual-in_err-expression-in-Some-Parenthesis.ensures in
    let arm = c.in-Some-Parenthesis in
    let token = start_parenthesis c.args.depth (next_token c.args.self.now) (started c.args.depth c.args.self.now c.token.result arm.field-0 Parenthesis c.token.ensures arm.ensures arm.field-0-is) in
    let gone : ◌≡◌ {A = Result (Unit {0}) Stopped} (Err c.in_err-expression-in-Some-Parenthesis.field-0.0) (Err (At at)) = first_of (search rules, grind (arith, common_steps)) in
    fails_in_parenthesis c.args.depth c.args.self.now (record c.args.self.now { at = c.args.self.now.at + 1 }) at token.0 token.1 refl refl (c.in_err-expression-in-Some-Parenthesis.ensures.bad at gone)

pub factor-returns-in_ok-factor-in-Some-Negation-clause-ok : goal.factor-returns-in_ok-factor-in-Some-Negation-clause-ok
factor-returns-in_ok-factor-in-Some-Negation-clause-ok t c =
    let arm = c.in-Some-Negation in
    let token = start_negation c.args.depth (next_token c.args.self.now) (started c.args.depth c.args.self.now c.token.result arm.field-0 Negation c.token.ensures arm.ensures arm.field-0-is) in
    on_ok_weaker c.push.result
    (λ pushed. reads_negation c.args.depth c.args.self.now (record c.args.self.now { at = c.args.self.now.at + 1 }) c.factor.new.self c.push.new.self token.0 token.1 refl refl refl c.in_ok-factor-in-Some-Negation.ensures.ok
    (same_words c.factor.new.self c.push.new.self c.push.ensures.kept.0) c.push.ensures.kept.1 pushed)
    c.push.ensures.pushed

pub factor-returns-in_ok-expression-in-Some-Parenthesis-clause-ok : goal.factor-returns-in_ok-expression-in-Some-Parenthesis-clause-ok
factor-returns-in_ok-expression-in-Some-Parenthesis-clause-ok t c =
    let arm = c.in-Some-Parenthesis in
    let token = start_parenthesis c.args.depth (next_token c.args.self.now) (started c.args.depth c.args.self.now c.token.result arm.field-0 Parenthesis c.token.ensures arm.ensures arm.field-0-is) in
    on_ok_weaker c.close.result
    (λ closed. reads_enclosed c.args.depth c.args.self.now (record c.args.self.now { at = c.args.self.now.at + 1 }) c.expression.new.self c.close.new.self token.0 token.1 refl refl refl c.in_ok-expression-in-Some-Parenthesis.ensures.ok
    closed.0 (same_words c.expression.new.self c.close.new.self c.close.ensures.kept.0) closed.1 (same_steps c.expression.new.self c.close.new.self c.close.ensures.kept.1))
    c.close.ensures.closed

pub factor-returns-in_ok-expression-in-Some-Parenthesis-clause-bad : goal.factor-returns-in_ok-expression-in-Some-Parenthesis-clause-bad
factor-returns-in_ok-expression-in-Some-Parenthesis-clause-bad t c at is =
    let arm = c.in-Some-Parenthesis in
    let token = start_parenthesis c.args.depth (next_token c.args.self.now) (started c.args.depth c.args.self.now c.token.result arm.field-0 Parenthesis c.token.ensures arm.ensures arm.field-0-is) in
    let bad = c.close.ensures.bad at is in
    fails_to_close c.args.depth c.args.self.now (record c.args.self.now { at = c.args.self.now.at + 1 }) c.expression.new.self at token.0 token.1 refl refl c.in_ok-expression-in-Some-Parenthesis.ensures.ok c.in_ok-expression-in-Some-Parenthesis.ensures.ends bad.0 bad.1

pub factor-returns-in-Some-Test-clause-ok : goal.factor-returns-in-Some-Test-clause-ok
factor-returns-in-Some-Test-clause-ok t c =
    let arm = c.in-Some-Test in
    let token = start_test c.args.depth (next_token c.args.self.now) arm.name (started c.args.depth c.args.self.now c.token.result arm.field-0 (Test arm.name) c.token.ensures arm.ensures arm.field-0-is) in
    on_ok_weaker c.argument.result
    (λ reads. reads_test c.args.depth arm.name c.args.self.now (record c.args.self.now { at = c.args.self.now.at + 1 }) c.argument.new.self c.requires.depth token refl refl refl reads)
    c.argument.ensures.ok

pub factor-returns-in-Some-Test-clause-bad : goal.factor-returns-in-Some-Test-clause-bad
factor-returns-in-Some-Test-clause-bad t c at is =
    let arm = c.in-Some-Test in
    let token = start_test c.args.depth (next_token c.args.self.now) arm.name (started c.args.depth c.args.self.now c.token.result arm.field-0 (Test arm.name) c.token.ensures arm.ensures arm.field-0-is) in
    let bad = c.argument.ensures.bad at is in
    fails_in_argument c.args.depth arm.name c.args.self.now (record c.args.self.now { at = c.args.self.now.at + 1 }) at token refl refl bad.0 bad.1

pub factor-returns-in-None-clause-bad : goal.factor-returns-in-None-clause-bad
factor-returns-in-None-clause-bad t c at is =
    let here : c.args.self.now.at ≡ at = cc in
    subst (FailsInFactor c.args.depth c.args.self.now) here (fails_to_start c.args.depth c.args.self.now (ap (starting c.args.depth) (sym c.token.ensures) ∙ sym c.in-None.ensures))
