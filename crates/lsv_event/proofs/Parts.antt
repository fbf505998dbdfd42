-- Lines while their parts are added.
use Rattle.std.proofs.Common.{◌≡◌, ℕ, List, [], ◌∷◌, ◌++◌, refl, sym, ap, ◌∙◌, append_assoc}
use Rattle.std.specs.Prelude.{codes}
use Rattle.std.specs.List.{flat_map}
use Rattle.std.proofs.lemmas.Grind.{flat_map-append}
use Rattle.std.proofs.lemmas.List.{flat_map_more}
use Rattle.lsv_event.specs.Escapes.{escaped, escaped_byte}
use Rattle.lsv_event.specs.InnerLine.{Has, some_part}
use Rattle.lsv_event.specs.SudoLine.{joined}
use Rattle.lsv_event.specs.declared.line.Line.{Line}

-- a part after others
abbrev between : List ℕ → List ℕ
between part = codes " ; " ++ part

-- more of the last part stands at the end
pub joined_more : (parts : List (List ℕ)) (last more : List ℕ) → joined (parts ++ (last ++ more) ∷ []) ≡ joined (parts ++ last ∷ []) ++ more
joined_more [] last more = append_assoc last more [] ∙ ap (λ (t : List ℕ). last ++ t) (unit more) ∙ ap (λ (t : List ℕ). t ++ more) (sym (unit last))
  where
    unit : (t : List ℕ) → t ++ [] ≡ t
    unit [] = refl
    unit (x ∷ t) = ap (λ (u : List ℕ). x ∷ u) (unit t)
joined_more (p ∷ parts) last more =
    sym (flat_map_more between p parts (last ++ more))
    ∙ (sym (append_assoc (p ++ flat_map between parts) (between last) more) ∙ ap (λ (t : List ℕ). t ++ more) (flat_map_more between p parts last))

pub has_more : (start : List ℕ) (parts : List (List ℕ)) (last more : List ℕ) (old new : Line) → new.text.items ≡ old.text.items ++ more → new.has_part ≡ old.has_part
    → Has start (parts ++ last ∷ []) old → Has start (parts ++ (last ++ more) ∷ []) new
has_more start parts last more old new text flag has = record {
  text = text ∙ (ap (λ (t : List ℕ). t ++ more) has.text ∙ (append_assoc start (joined (parts ++ last ∷ [])) more ∙ ap (λ (t : List ℕ). start ++ t) (sym (joined_more parts last more))));
  begun = flag ∙ (has.begun ∙ same parts);
}
  where
    same : (parts : List (List ℕ)) → some_part (parts ++ last ∷ []) ≡ some_part (parts ++ (last ++ more) ∷ [])
    same [] = refl
    same (p ∷ parts) = refl

-- escaping goes text by text
pub escaped_append : (a b : List ℕ) → escaped (a ++ b) ≡ escaped a ++ escaped b
escaped_append a b = flat_map-append escaped_byte a b

-- parts that are added one by one are added together
in_order : (parts a b c d e : List (List ℕ)) → parts ++ a ++ b ++ c ++ d ++ e ≡ parts ++ (a ++ b ++ c ++ d ++ e)
in_order [] a b c d e = refl
in_order (p ∷ parts) a b c d e = ap (λ (ps : List (List ℕ)). p ∷ ps) (in_order parts a b c d e)

pub has_in_order : (start : List ℕ) (parts a b c d e : List (List ℕ)) (line : Line) → Has start (parts ++ a ++ b ++ c ++ d ++ e) line → Has start (parts ++ (a ++ b ++ c ++ d ++ e)) line
has_in_order start parts a b c d e line has = rw (← in_order parts a b c d e) has
