-- Parts that are put one after another.
use Rattle.std.proofs.Common.{◌≡◌, ℕ, List, [], ◌++◌, ap, ◌∙◌, append_assoc}

pub three_parts : (out0 out1 out2 out3 a b c : List ℕ) → out0 ≡ [] → out1 ≡ out0 ++ a → out2 ≡ out1 ++ b → out3 ≡ out2 ++ c → out3 ≡ a ++ (b ++ c)
three_parts out0 out1 out2 out3 a b c e0 e1 e2 e3 =
    e3 ∙ ap (λ (o : List ℕ). o ++ c) (e2 ∙ ap (λ (o : List ℕ). o ++ b) (e1 ∙ ap (λ (o : List ℕ). o ++ a) e0)) ∙ append_assoc a b c

pub five_parts : (out0 out1 out2 out3 out4 out5 a b c d e : List ℕ) → out0 ≡ [] → out1 ≡ out0 ++ a → out2 ≡ out1 ++ b → out3 ≡ out2 ++ c → out4 ≡ out3 ++ d → out5 ≡ out4 ++ e
    → out5 ≡ a ++ (b ++ (c ++ (d ++ e)))
five_parts out0 out1 out2 out3 out4 out5 a b c d e e0 e1 e2 e3 e4 e5 =
    e5 ∙ ap (λ (o : List ℕ). o ++ e) (e4 ∙ ap (λ (o : List ℕ). o ++ d) (three_parts out0 out1 out2 out3 a b c e0 e1 e2 e3)) ∙ simp append_assoc
