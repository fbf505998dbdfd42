use Rattle.std.proofs.Common.{ℕ, ◌==◌, not, rules, ap, ◌∙◌, List}
use Rattle.std.proofs.lemmas.Fn.{filter_same}
use Rattle.lsv_port.specs.Memory.Numbers.{has}
use Rattle.lsv_port.proofs.NumberLemmas.{has_others}
use Rattle.lsv_port.proofs.memory.links.take_out.Goals as goal

pub returns : goal.returns
returns c = λ m.
    let left = filter_same _ (λ x. not (x == c.args.number)) _ (λ x b f' k. search rules) c.args.numbers.now.items c.retain.new.self.items c.retain.ensures.filtered in
    ap (λ (xs : List ℕ). has xs m) left ∙ has_others c.args.number c.args.numbers.now.items m
