use Rattle.std.proofs.Common.{◌++◌, ℕ, List, subst, ◌∙◌}
use Rattle.lsv_live.specs.Ends.{EndStands}
use Rattle.lsv_live.proofs.end.End.say_trouble.Goals as goal

pub returns-in-Ok-clause-goes : goal.returns-in-Ok-clause-goes
returns-in-Ok-clause-goes c = λ yes s taken said h. subst (λ (x : List ℕ). EndStands c.say.new.self s taken (said ++ x)) (c.as_slice.ensures ∙ c.in-Ok.ensures) (c.say.ensures.goes s taken said h)
