-- What is promised is in whatever is recovered that is good.
use Rattle.std.proofs.Common.{◌≡◌, ◌≤◌, ℕ, List, length, take, refl, sym, ◌∙◌, ap, subst, arith, Option, Some, None}
use Rattle.lsv_record.proofs.Points.{take_append}
use Rattle.lsv_machine.specs.Durable.{GoodFor, GoodLog, Recovered}
use Rattle.lsv_machine.specs.History.{ledger, shown}
use Rattle.lsv_machine.specs.Turns.{Happened}
use Rattle.lsv_upstream.specs.Held.{HoldsFirst, PromisesAtLeast}

pub image_holds : (h : List Happened) (n f : ℕ) (found : Recovered) → GoodLog (ledger h n) found → PromisesAtLeast (ledger h n) f → HoldsFirst f (shown h n) found
image_holds h n f found good (p, e, low) = go found refl (subst (λ (t : Option ℕ). GoodFor (ledger h n) t found) e good)
  where
    go : (x : Recovered) → found ≡ x → GoodFor (ledger h n) (Some p) x → HoldsFirst f (shown h n) found
    go None at g = absurd g
    go (Some stored) at g =
        let enough : f ≤ length stored.records = (let q = g.enough in omega (arith, q, low)) in
        record {
          stored = stored;
          is = at;
          same = sym (take_append f stored.records g.prefix.rest enough) ∙ ap (take f) g.prefix.is;
          enough = enough;
        }
