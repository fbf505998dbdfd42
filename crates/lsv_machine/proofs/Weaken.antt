-- Ledgers that say the same of a log and promise no more, and that what is good for one is good for the other.
use Rattle.std.proofs.Common.{◌≡◌, ◌≤◌, ℕ, List, [], ◌∷◌, ◌++◌, refl, sym, ◌∙◌, subst, arith, Option, Some, None}
use Rattle.lsv_disk.specs.View.{Image}
use Rattle.lsv_record.specs.declared.records.Record.{Record}
use Rattle.lsv_machine.specs.Disks.{SameLog}
use Rattle.lsv_machine.specs.Durable.{ExitIs, Good, GoodAt, GoodFor, GoodLog, Reading, Recovered}
use Rattle.lsv_machine.specs.History.{Ledger, blank, ledger, noted}
use Rattle.lsv_machine.specs.Turns.{Happened, Happened.Begins}
use Rattle.lsv_machine.proofs.RunLaws.{ledger_append}

abbrev pub Lower : Option ℕ → Option ℕ → Type 0
Lower None None = Unit {0}
Lower None (Some p) = ⊥
Lower (Some q) None = ⊥
Lower (Some q) (Some p) = q ≤ p

pub lower_same : (o : Option ℕ) → Lower o o
lower_same None = tt
lower_same (Some p) = omega arith

pub lower_on : (a b c : Option ℕ) → Lower a b → Lower b c → Lower a c
lower_on None None None h k = tt
lower_on None None (Some z) h k = absurd k
lower_on None (Some y) c h k = absurd h
lower_on (Some x) None c h k = absurd h
lower_on (Some x) (Some y) None h k = absurd k
lower_on (Some x) (Some y) (Some z) h k = omega arith

-- l' says the same of a log's content, and promises no more
pub record Weaker (l l' : Ledger) : Type 0 where
  pub head : l'.head ≡ l.head
  pub sent : l'.sent ≡ l.sent
  pub shown : l'.shown ≡ l.shown
  pub exit : l'.exit ≡ l.exit
  pub finished : l'.finished ≡ l.finished
  pub lower : Lower l'.promised l.promised

pub weaker_same : (l : Ledger) → Weaker l l
weaker_same l = record { head = refl; sent = refl; shown = refl; exit = refl; finished = refl; lower = lower_same l.promised }

pub weaker_on : (a b c : Ledger) → Weaker a b → Weaker b c → Weaker a c
weaker_on a b c s t = record {
  head = t.head ∙ s.head;
  sent = t.sent ∙ s.sent;
  shown = t.shown ∙ s.shown;
  exit = t.exit ∙ s.exit;
  finished = t.finished ∙ s.finished;
  lower = lower_on c.promised b.promised a.promised t.lower s.lower;
}

exits_weaker : (l l' : Ledger) (rs : List Record) (exit : Option (List ℕ)) → Weaker l l' → ExitIs l rs exit → ExitIs l' rs exit
exits_weaker l l' rs None w e = w.finished ∙ e
exits_weaker l l' rs (Some x) w (e, f) = (w.exit ∙ e, f ∙ sym w.shown)

good_from : (l l' : Ledger) (o o' : Option ℕ) (found : Recovered) → Weaker l l' → Lower o' o → GoodFor l o found → GoodFor l' o' found
good_from l l' None None None w low g = tt
good_from l l' None None (Some stored) w low g = g
good_from l l' None (Some q) found w low g = absurd low
good_from l l' (Some p) None found w low g = absurd low
good_from l l' (Some p) (Some q) None w low g = absurd g
good_from l l' (Some p) (Some q) (Some stored) w low g = record {
  head = g.head ∙ sym w.head;
  prefix = record { rest = g.prefix.rest; is = g.prefix.is ∙ sym w.shown };
  enough = let a = g.enough in omega arith;
  exit = exits_weaker l l' stored.records stored.exit w g.exit;
}

pub good_weaker : (l l' : Ledger) (found : Recovered) → Weaker l l' → GoodLog l found → GoodLog l' found
good_weaker l l' found w g = good_from l l' l.promised l'.promised found w w.lower g

pub at_weaker : (r : Reading) (l l' : Ledger) (n : ℕ) (image : Image) → Weaker l l' → GoodAt r l n image → GoodAt r l' n image
at_weaker r l l' n image w g = record { found = g.found; is = g.is; good = good_weaker l l' g.found w g.good }

-- another image of which the same is read
pub at_same : (r : Reading) (l : Ledger) (n : ℕ) (a b : Image) → SameLog r n a b → GoodAt r l n a → GoodAt r l n b
at_same r l n a b s g = record { found = g.found; is = s.to g.found g.is; good = g.good }

pub weaker_begins : (n : ℕ) (texts : List (List ℕ)) (l : Ledger) → Weaker l (noted n l (Begins texts))
weaker_begins n texts l = record { head = refl; sent = refl; shown = refl; exit = refl; finished = refl; lower = lower_same l.promised }

pub begun_ledger : (n : ℕ) (texts : List (List ℕ)) (x : List Happened) → ledger (x ++ Begins texts ∷ []) n ≡ noted n (ledger x n) (Begins texts)
begun_ledger n texts x = ledger_append n blank x (Begins texts ∷ [])

pub good_begun : (r : Reading) (texts : List (List ℕ)) (h : List Happened) (image : Image) (n : ℕ) → Good r h image n → Good r (h ++ Begins texts ∷ []) image n
good_begun r texts h image n good = subst (λ (l : Ledger). GoodAt r l n image) (sym (begun_ledger n texts h))
    (at_weaker r (ledger h n) (noted n (ledger h n) (Begins texts)) n image (weaker_begins n texts (ledger h n)) good)
