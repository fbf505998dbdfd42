use Rattle.std.proofs.Common.{◌≡◌, ◌<◌, ◌≤◌, Result, Err, [], length, refl, rules, arith, subst}
use Rattle.std.proofs.lemmas.Grind.{common_steps}
use Rattle.lsv_search.specs.declared.expr.Stopped.{Stopped}
use Rattle.lsv_search.specs.declared.expr.Stopped.TheVariants.{At}
use Rattle.lsv_search.specs.Places.{Factor, FailsAt}
use Rattle.lsv_search.proofs.Parsing.{all_read}
use Rattle.lsv_search.proofs.Refusing.{fails_behind_all, from_start}
use Rattle.lsv_search.proofs.read.read_all.Goals as goal

pub returns-in_err-expression-clause-bad : goal.returns-in_err-expression-clause-bad
returns-in_err-expression-clause-bad c at is =
    let from = c.from_residual.ensures in
    let gone : ◌≡◌ {A = Result (Unit {0}) Stopped} (Err c.in_err-expression.field-0.0) (Err (At at)) = first_of (search rules, grind (arith, common_steps)) in
    (first_of (search rules, grind (arith, common_steps)), from_start c.args.reader.now (Factor []) at c.requires.start.0 (c.in_err-expression.ensures.bad at gone [] refl refl))

pub returns-then-reader-clause-bad : goal.returns-then-reader-clause-bad
returns-then-reader-clause-bad c at is =
    let a = c.args.reader.now in
    let b = c.expression.new.self in
    let here : b.at ≡ at = cc in
    let lt : b.at < length b.words.now = omega arith in
    let bad = from_start a (Factor []) b.at c.requires.start.0 (fails_behind_all a b c.in_ok-expression.ensures.ok c.in_ok-expression.ensures.ends lt) in
    (first_of (search rules, grind (arith, common_steps)), subst (FailsAt (Factor []) a.words.now) here bad)

pub returns-clause-ok : goal.returns-clause-ok
returns-clause-ok c =
    let b = c.expression.new.self in
    let end : length b.words.now ≤ b.at = omega arith in
    all_read c.args.reader.now b c.requires.start.0 c.requires.start.1 c.in_ok-expression.ensures.ok end
