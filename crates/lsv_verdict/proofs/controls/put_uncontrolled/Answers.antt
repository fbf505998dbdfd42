use Rattle.std.proofs.Common.{◌≡◌, ◌∙◌, ◌++◌, true, false, arith, append-nil, sym}
use Rattle.lsv_verdict.proofs.Uncontrolled.{step, ended}
use Rattle.lsv_verdict.proofs.controls.put_uncontrolled.Goals as goal

pub loop-byte-preserved : goal.loop-byte-preserved
loop-byte-preserved c =
    let l = c.loop-byte in
    step c.args.text.now l.out.items c.put_after.new.out.items _ l.byte-index l.before c.loop-byte-test.true l.invariant c.in_ok-put_after.ensures

pub returns-in_ok-push : goal.returns-in_ok-push
returns-in_ok-push c =
    let l = c.loop-byte in
    c.in_ok-push.ensures.items ∙ ended c.args.text.now l.out.items _ l.byte-index l.before true (omega (arith, c.loop-byte-test.false)) l.invariant (sym c.is_lead.ensures ∙ c.if-is_lead.true)

pub returns-else-is_lead : goal.returns-else-is_lead
returns-else-is_lead c =
    let l = c.loop-byte in
    sym (append-nil l.out.items) ∙ ended c.args.text.now l.out.items _ l.byte-index l.before false (omega (arith, c.loop-byte-test.false)) l.invariant (sym c.is_lead.ensures ∙ c.if-is_lead.false)
