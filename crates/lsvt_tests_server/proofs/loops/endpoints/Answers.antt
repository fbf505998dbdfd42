use Rattle.std.proofs.Common.{◌≡◌, ◌++◌, ◌∷◌, [], List, ℕ, None, Some, zero, suc, refl, sym, ap, subst, ◌∙◌, false}
use Rattle.std.specs.Prelude.{slice_get}
use Rattle.lsv_threads.specs.Run.{AreFresh}
use Rattle.lsvt_tests_server.specs.declared.scripted.Scripted.{Scripted}
use Rattle.lsvt_tests_server.specs.contracts.scripted.ScriptedEndpoint.TheImpl.{ghosts}
use Rattle.lsvt_tests_server.proofs.loops.endpoints.Goals as goal

same : (x y : Scripted) → Some x ≡ Some y → x ≡ y
same x y e = cc

-- the only one of a list has the number of its place
numbered : (one : Scripted) → one.number ≡ 0 → (w : ℕ) (e : Scripted) → slice_get (one ∷ []) w ≡ Some e → e.number ≡ w
numbered one is zero e at = ap (λ (x : Scripted). x.number) (sym (same one e at)) ∙ is
numbered one is (suc w) e at = absurd (let h : None ≡ Some e = at in cc)

pub returns-clause-fresh : goal.returns-clause-fresh
returns-clause-fresh c =
    let one : Scripted = record { number = 0; bodies = c.args.bodies; said = 0; is_shut = false } in
    let items : c.push.new.self.items ≡ one ∷ [] = c.in-Ok.ensures.items ∙ ap (λ (l : List Scripted). l ++ one ∷ []) c.new-all.ensures.items in
    subst (λ (l : List Scripted). AreFresh ghosts l 1 (λ w. tt)) (sym items) (record { numbered = numbered one refl; lanes_are = λ w e at. refl; begun = λ w e at. tt })
