use Rattle.std.proofs.Common.{◌≡◌, eqb, Decides, subst, List, ℕ, Bool}
use Rattle.std.specs.List.{Contains, IsAnyAnswer}
use Rattle.std.proofs.lemmas.List.Elements.{contains_decides, Decides-contains}
use Rattle.std.proofs.lemmas.Bool.Decides.{Decides-eqb}
use Rattle.lsv_disk.proofs.memory.MemDisk.next_fails.Goals as goal

pub returns-clause-listed : goal.returns-clause-listed
returns-clause-listed c =
    let xs = c.args.self.now.listed.items in
    let x = c.saturating_add-self.result in
    let cases : IsAnyAnswer (λ (y : ℕ) (t : Bool). eqb y x ≡ t) xs c.contains.result = subst (λ (l : List ℕ). IsAnyAnswer (λ (y : ℕ) (t : Bool). eqb y x ≡ t) l c.contains.result) c.deref.ensures.value c.contains.ensures.cases in
    let at_number : Decides c.contains.result (Contains xs x) = Decides-contains xs x c.contains.result (contains_decides eqb Decides-eqb xs x c.contains.result cases) in
    subst (λ (n : ℕ). Decides c.contains.result (Contains xs n)) c.saturating_add-self.ensures at_number
