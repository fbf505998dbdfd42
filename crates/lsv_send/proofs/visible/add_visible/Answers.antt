use Rattle.std.proofs.Common.{◌≡◌, ◌∙◌, ◌++◌, true, false, arith, append-nil, sym}
use Rattle.lsv_send.proofs.Shown.{step, ended}
use Rattle.lsv_send.proofs.visible.add_visible.Goals as goal

pub loop-byte-preserved : goal.loop-byte-preserved
loop-byte-preserved c =
    let l = c.loop-byte in
    step c.args.text.now l.out c.add_after.new.out _ l.byte-index l.before c.loop-byte-test.true l.invariant c.in_ok-add_after.ensures

pub returns-in_ok-add : goal.returns-in_ok-add
returns-in_ok-add c =
    let l = c.loop-byte in
    c.in_ok-add.ensures.ok ∙ ended c.args.text.now l.out _ l.byte-index l.before true (omega (arith, c.loop-byte-test.false)) l.invariant (sym c.is_lead.ensures ∙ c.if-is_lead.true)

pub returns-else-is_lead : goal.returns-else-is_lead
returns-else-is_lead c =
    let l = c.loop-byte in
    sym (append-nil l.out) ∙ ended c.args.text.now l.out _ l.byte-index l.before false (omega (arith, c.loop-byte-test.false)) l.invariant (sym c.is_lead.ensures ∙ c.if-is_lead.false)
