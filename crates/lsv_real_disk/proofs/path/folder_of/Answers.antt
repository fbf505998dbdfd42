use Rattle.std.proofs.Common.{◌≡◌, ◌≢◌, inl, inr, refl, sym, ap, ◌∙◌, ℕ, List, [], ◌∷◌, ◌++◌, arith, rules}
use Rattle.std.proofs.Math.ListN.{take, drop}
use Rattle.std.proofs.lemmas.List.{take-append-drop}
use Rattle.std.proofs.lemmas.Str.Pattern.{NoCharPasses-char, drop_at_char}
use Rattle.lsv_real_disk.specs.Places.{folder_before}
use Rattle.lsv_real_disk.proofs.path.folder_of.Goals as goal

split_there : (path : List ℕ) (i j : ℕ) → drop i path ≡ 47 ∷ drop j path → path ≡ take i path ++ 47 ∷ drop j path
split_there path i j there = sym (take-append-drop i path) ∙ ap (λ rest. take i path ++ rest) there

filled : (folder : List ℕ) → folder ≢ [] → folder ≡ folder_before folder
filled [] isnt = absurd (isnt refl)
filled (b ∷ bs) isnt = refl

pub returns-in-Some-empty-default : goal.returns-in-Some-empty-default
returns-in-Some-empty-default c =
    let path = c.args.path.now in
    let found = c.in-Some-empty-default.ensures.cases in
    inr (
      take found.0 path,
      drop found.1 path,
      split_there path found.0 found.1 (drop_at_char 47 path found.0 found.1 found.2.1 (omega arith)),
      (λ i inside. NoCharPasses-char 47 (drop found.1 path) i found.2.0 (omega arith) inside),
      grind rules,
    )

pub returns-in-Some : goal.returns-in-Some
returns-in-Some c =
    let path = c.args.path.now in
    let found = c.in-Some.ensures.cases in
    inr (
      take found.0 path,
      drop found.1 path,
      split_there path found.0 found.1 (drop_at_char 47 path found.0 found.1 found.2.1 (omega arith)),
      (λ i inside. NoCharPasses-char 47 (drop found.1 path) i found.2.0 (omega arith) inside),
      rw (← found.3) (filled c.in-Some.folder.now (grind rules)),
    )

pub returns-in-None : goal.returns-in-None
returns-in-None c = inl ((λ i inside. NoCharPasses-char 47 c.args.path.now i c.in-None.ensures.cases (omega arith) inside), refl)
