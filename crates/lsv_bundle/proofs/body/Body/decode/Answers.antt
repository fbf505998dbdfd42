-- The numbers that were read, one by one, are the list of them.
use Rattle.std.proofs.Common.{rules, ◌≡◌, ℕ, zero, suc, ◌+◌, List, [], ◌∷◌, length, take, drop, get_or, map, arith, sym, ◌∙◌, ap, drop-cons}
use Rattle.std.specs.List.{concat}
use Rattle.std.proofs.lemmas.List.{nil_from_length, length-drop, take_all}
use Rattle.lsv_bundle.specs.Body.{number, encoded}
use Rattle.lsv_bundle.proofs.body.Body.decode.Goals as goal

-- n elements from a place on, one by one
abbrev listed : ℕ → ℕ → List ℕ → List ℕ
listed k zero l = []
listed k (suc n) l = get_or l k 0 ∷ listed (suc k) n l

listed_all : (k n : ℕ) (l : List ℕ) → k + n ≡ length l → listed k n l ≡ drop k l
listed_all k zero l e = sym (nil_from_length (drop k l) (omega (arith, length-drop {A = ℕ})))
listed_all k (suc n) l e =
    ap (λ (rest : List ℕ). get_or l k 0 ∷ rest) (listed_all (suc k) n l (omega arith)) ∙ sym (drop-cons l k 0 (omega arith))

pub returns-clause-encoded : goal.returns-clause-encoded
unfolding encoded
returns-clause-encoded c =
    let all : listed 0 11 c.get_numbers.new.numbers ≡ c.get_numbers.new.numbers = listed_all 0 11 c.get_numbers.new.numbers (search rules) in
    let rest : take 88 (drop 1 c.args.bytes) ≡ drop 1 c.args.bytes = take_all 88 (drop 1 c.args.bytes) (search rules) in
    let bytes : get_or c.args.bytes 0 0 ∷ drop 1 c.args.bytes ≡ c.args.bytes = sym (drop-cons c.args.bytes 0 0 (search rules)) in
    ap encoded c.new.ensures.is
    ∙ ap (λ (l : List ℕ). get_or c.args.bytes 0 0 ∷ concat (map number l)) all
    ∙ ap (λ (l : List ℕ). get_or c.args.bytes 0 0 ∷ l) (c.get_numbers.ensures ∙ rest)
    ∙ bytes
