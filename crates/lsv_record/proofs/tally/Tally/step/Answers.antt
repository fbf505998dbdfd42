use Rattle.std.proofs.Common.{rules, ◌≡◌, ◌≢◌, ◌+◌, ◌≤◌, ◌⊎◌, ℕ, inl, inr, length, IsTrue, arith, ap, sym, subst}
use Rattle.std.proofs.lemmas.Bool.Decides.{nat_tests}
use Rattle.lsv_record.specs.Lines.{IsLineAt}
use Rattle.lsv_record.specs.Tally.{Totals}
use Rattle.lsv_record.specs.declared.read.LineFault.TheVariants as line_faults
use Rattle.lsv_record.proofs.Windows.{line_in_text, bad_in_text}
use Rattle.lsv_record.proofs.tally.Tally.step.Goals as goal
use Rattle.lsv_record.proofs.tally.Tally.step.Goals.{then-not-is_last, else-not-is_last}

pub returns-in-Err-BadLine-2-clause-bad : goal.returns-in-Err-BadLine-2-clause-bad
returns-in-Err-BadLine-2-clause-bad c = λ e text w.
    let enough : (56 ≤ length c.args.window.now) ⊎ IsTrue c.args.is_last = elim c.if-not-is_last.branch [ then-not-is_last v ↦ inl (grind (arith, nat_tests)) | else-not-is_last v ↦ inr (search rules) ] in
    let other : c.in-Err-BadLine.field-0 ≢ line_faults.NoMem = λ q. cc in
    bad_in_text text c.args.window.now c.args.self.now.timing c.args.is_last w enough (c.in-Err-BadLine.ensures.bad other).1

pub returns-in_err-take-clause-too_long : goal.returns-in_err-take-clause-too_long
returns-in_err-take-clause-too_long c = λ e text w. record {
  told = c.in-Ok-Some.line.0;
  next = c.args.self.now.timing + c.in-Ok-Some.line.1;
  stands = line_in_text text c.args.window.now c.args.self.now.timing c.args.is_last c.in-Ok-Some.line.0 c.in-Ok-Some.line.1 w (rw c.in-Ok-Some.field-0-is at c.in-Ok-Some.ensures.line);
  late = c.in_err-take.ensures.cause.1;
}

pub returns-clause-line : goal.returns-clause-line
returns-clause-line c = λ text w.
    let stands : IsLineAt c.args.window.now 0 c.in-Ok-Some.line.0 c.in-Ok-Some.line.1 = rw c.in-Ok-Some.field-0-is at c.in-Ok-Some.ensures.line in
    let timing : c.take.new.self.timing ≡ c.args.self.now.timing + c.in-Ok-Some.line.1 = omega (arith, ap (λ (t : Totals). t.timing) c.in_ok-take.ensures.ok, stands.after) in
    subst (λ (k : ℕ). IsLineAt text c.args.self.now.timing c.in-Ok-Some.line.0 k) (sym timing) (line_in_text text c.args.window.now c.args.self.now.timing c.args.is_last c.in-Ok-Some.line.0 c.in-Ok-Some.line.1 w stands)
