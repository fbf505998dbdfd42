use Rattle.std.proofs.Common.{◌∙◌, ℕ, Some, List, ap, sym, arith}
use Rattle.lsv_conf.proofs.Cuts.{cut_at, cut_none, not_true, rest_of}
use Rattle.lsv_conf.proofs.text.cut.Goals as goal

pub returns-in-Some-clause-before : goal.returns-in-Some-clause-before
returns-in-Some-clause-before c =
    let bytes = c.args.bytes.now in
    let at = c.in-Some.at in
    let found = c.in-Some.ensures in
    sym (cut_at c.args.separator bytes at found.0.high found.1 (λ i l. not_true _ (found.0.before i (omega arith) l))).0

pub returns-in-Some-clause-behind : goal.returns-in-Some-clause-behind
returns-in-Some-clause-behind c =
    let bytes = c.args.bytes.now in
    let at = c.in-Some.at in
    let found = c.in-Some.ensures in
    ap (λ (rest : List ℕ). Some rest) (rest_of bytes at)
    ∙ sym (cut_at c.args.separator bytes at found.0.high found.1 (λ i l. not_true _ (found.0.before i (omega arith) l))).1

pub returns-in-None-clause-before : goal.returns-in-None-clause-before
returns-in-None-clause-before c = sym (cut_none c.args.separator c.args.bytes.now (λ i l. not_true _ (c.in-None.ensures i (omega arith) l))).0

pub returns-in-None-clause-behind : goal.returns-in-None-clause-behind
returns-in-None-clause-behind c = sym (cut_none c.args.separator c.args.bytes.now (λ i l. not_true _ (c.in-None.ensures i (omega arith) l))).1
