use Rattle.std.proofs.Common.{◌≡◌, ◌∙◌, ◌++◌, ◌+◌, ◌-◌, ℕ, List, true, false, length, drop, take, get_or, ap, sym, arith, length-drop}
use Rattle.std.specs.Prelude.{◌==◌}
use Rattle.std.proofs.lemmas.Bool.Decides.{nat_tests}
use Rattle.std.proofs.lemmas.List.{take_all, get_or-drop}
use Rattle.lsv_mask.specs.Masking.{last_bytes, has_line_feed}
use Rattle.lsv_mask.proofs.Tails.{recent_with, recent_without, no_feed}
use Rattle.lsv_mask.proofs.tail.Tail.push.Goals as goal

is_feed : (x : ℕ) → (x == 10) ≡ true → x ≡ 10
is_feed x e = grind (arith, nat_tests)

pub returns-in-Some : goal.returns-in-Some
returns-in-Some c =
    let back : c.split_at.result.1.now ≡ drop (length c.args.output.now - 256) c.args.output.now = c.split_at.ensures.back ∙ ap (λ (i : ℕ). drop i c.args.output.now) c.saturating_sub.ensures in
    let found = c.in-Some.ensures in
    let behind : take (length c.split_at.result.1.now - (c.in-Some.at + 1)) (drop (c.in-Some.at + 1) c.split_at.result.1.now) ≡ drop (c.in-Some.at + 1) c.split_at.result.1.now = take_all _ _ (omega (arith, length-drop (c.in-Some.at + 1) c.split_at.result.1.now)) in
    let none : has_line_feed (drop (c.in-Some.at + 1) c.split_at.result.1.now) ≡ false =
    no_feed (drop (c.in-Some.at + 1) c.split_at.result.1.now) (λ k below is. found.0.after (c.in-Some.at + 1 + k) (omega arith) (omega (arith, length-drop (c.in-Some.at + 1) c.split_at.result.1.now)) (ap (λ (x : ℕ). x == 10) (sym (get_or-drop (c.in-Some.at + 1) c.split_at.result.1.now k 0)) ∙ is)) in
    c.append.ensures ∙ (ap (last_bytes 256) (behind ∙ ap (drop (c.in-Some.at + 1)) back)
    ∙ recent_with c.args.self.now c.args.output.now c.in-Some.at (omega (arith, found.0.high, ap length back)) (ap (λ (t : List ℕ). get_or t c.in-Some.at 0) (sym back) ∙ is_feed _ found.1) (ap (λ (t : List ℕ). has_line_feed (drop (c.in-Some.at + 1) t)) (sym back) ∙ none))

pub returns-in-None : goal.returns-in-None
returns-in-None c =
    let back : c.split_at.result.1.now ≡ drop (length c.args.output.now - 256) c.args.output.now = c.split_at.ensures.back ∙ ap (λ (i : ℕ). drop i c.args.output.now) c.saturating_sub.ensures in
    let none : has_line_feed c.split_at.result.1.now ≡ false = no_feed c.split_at.result.1.now (λ k below is. c.in-None.ensures k (omega arith) below is) in
    c.append-in-None.ensures ∙ (ap (λ (t : List ℕ). last_bytes 256 (c.args.self.now ++ t)) back ∙ recent_without c.args.self.now c.args.output.now (ap has_line_feed (sym back) ∙ none))
