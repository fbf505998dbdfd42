use Rattle.std.proofs.Common.{◌≡◌, ◌∙◌, ◌&&◌, Bool, true, false, length, nat_le, refl, sym, rules, tests}
use Rattle.std.specs.List.{list_all}
use Rattle.std.proofs.lemmas.Iterator.{YieldsList-from_slice}
use Rattle.std.proofs.lemmas.Iterator.Search.{all_from_yields_List}
use Rattle.lsv_conf.specs.Values.{is_prompt}
use Rattle.lsv_conf.proofs.value.are_prompts.Goals as goal

small : (t a : Bool) → t ≡ true → (t && a) ≡ a
small true a e = refl
small false a e = absurd (cc)

pub returns-then-prompts-le16 : goal.returns-then-prompts-le16
returns-then-prompts-le16 c =
    let all : c.all.result ≡ list_all is_prompt c.args.prompts.now =
    all_from_yields_List is_prompt _ _ _ c.all.ensures.ran (YieldsList-from_slice c.args.prompts.now cc) (λ x b q k. search (rules, tests)) in
    all ∙ sym (small (nat_le (length c.args.prompts.now) 16) (list_all is_prompt c.args.prompts.now) (search (rules, tests)))
