use Rattle.std.proofs.Common.{◌≡◌, ◌∙◌, ◌+◌, ◌++◌, ◌∷◌, [], ℕ, List, ap, refl, add-one, append_assoc}
use Rattle.lsv_gen.specs.Load.{conversation}
use Rattle.lsv_port.specs.declared.step.Step.{Step}
use Rattle.lsv_port.specs.declared.step.Step.TheVariants.{Give, Last, Open}
use Rattle.lsv_load.specs.Load.{all_links, link_steps}
use Rattle.lsv_load.proofs.script.load_script.Goals as goal

joined : (steps : List Step) (a b c : Step) → ((steps ++ a ∷ []) ++ b ∷ []) ++ c ∷ [] ≡ steps ++ a ∷ b ∷ c ∷ []
joined steps a b c = simp append_assoc

-- one link more
links_more : (n : ℕ) (steps one two three : List Step) (bytes : List ℕ) → steps ≡ all_links n → bytes ≡ conversation (n + 1) → one ≡ steps ++ Open (n + 1) ∷ [] → two ≡ one ++ Give (n + 1) bytes ∷ [] → three ≡ two ++ Last (n + 1) ∷ []
    → three ≡ all_links (n + 1)
links_more n steps one two three bytes so_far sent a b c =
    c ∙ ap (λ (xs : List Step). xs ++ Last (n + 1) ∷ []) (b ∙ ap (λ (xs : List Step). xs ++ Give (n + 1) bytes ∷ []) a) ∙ joined steps (Open (n + 1)) (Give (n + 1) bytes) (Last (n + 1))
    ∙ ap (λ (bs : List ℕ). steps ++ Open (n + 1) ∷ Give (n + 1) bs ∷ Last (n + 1) ∷ []) sent ∙ ap (λ (xs : List Step). xs ++ link_steps (n + 1)) so_far ∙ all_more n where
      all_more : (k : ℕ) → all_links k ++ link_steps (k + 1) ≡ all_links (k + 1)
      all_more k = rw (add-one k) refl

pub loop-before-preserved : goal.loop-before-preserved
loop-before-preserved c =
    links_more c.loop-before.before c.loop-before.steps.items c.push.new.self.items c.push-in-loop-before.new.self.items c.push-in-loop-before-2.new.self.items c.in_ok-conversation.field-0 c.loop-before.invariant c.in_ok-conversation.ensures
    c.in_ok-push.ensures.items c.in_ok-push-2.ensures.items c.in_ok-push-3.ensures.items
