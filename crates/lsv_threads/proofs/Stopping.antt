-- The first endpoints were stopped, and one more.
use Rattle.std.proofs.Common.{◌≡◌, ◌<◌, ◌≤◌, ◌+◌, ℕ, Bool, true, false, List, Some, length, refl, sym, subst, arith}
use Rattle.std.specs.Prelude.{slice_get, slice_index_or}
use Rattle.std.proofs.Math.ListN.{set}
use Rattle.lsv_port.specs.Ledger.{Continues}
use Rattle.lsv_port.proofs.LedgerLemmas.{continues_same, continues_then}
use Rattle.lsv_queue.proofs.Places.{one_there}
use Rattle.lsv_session.specs.declared.job.Job.{Job}
use Rattle.lsv_session.specs.declared.reply.Reply.{Reply}
use Rattle.lsv_links.specs.Links.{PutsPrefixes}
use Rattle.lsv_links.specs.Views.{PortView}
use Rattle.lsv_reactor.specs.Served.{KeepPorts}
use Rattle.lsv_reactor.specs.declared.endpoint.Endpoint
use Rattle.lsv_reactor.proofs.Own.{EqOr.equal, EqOr.unequal, eq_or}
use Rattle.lsv_reactor.proofs.Places.{set_here, set_there}
use Rattle.lsv_threads.specs.AtEnd.{AreAtEnd, AreStopped, IsAtEnd}

-- ---- The ports are the same still

pub keep_same : {T : Type 0} (view : T → PortView) (olds : List T) → KeepPorts view olds olds
keep_same {T} view olds w old new a e = subst (λ (z : T). Continues (view old).ledger (view z).ledger) (one_there olds w old new a e) (continues_same (view old).ledger)

pub keep_more : {T : Type 0} (view : T → PortView) (olds posts : List T) (place : ℕ) (x y : T) → place < length posts → slice_get posts place ≡ Some x → Continues (view x).ledger (view y).ledger → KeepPorts view olds posts → KeepPorts view olds (set posts place y)
keep_more {T} view olds posts place x y less at goes kept w old new a e = elim (eq_or w place) [
  | equal p t ↦
      let there : slice_get (set posts place y) place ≡ Some new = subst (λ (k : ℕ). slice_get (set posts place y) k ≡ Some new) p e in
      subst (λ (z : T). Continues (view old).ledger (view z).ledger) (sym (set_here posts place y new there less))
      (continues_then (view old).ledger (view x).ledger (view y).ledger (kept place old x (subst (λ (k : ℕ). slice_get olds k ≡ Some old) p a) at) goes)
  | unequal ne t ↦ kept w old new a (set_there posts place w y new ne e)
]

-- ---- Stopped

module _ {T : Type 0} (words : Endpoint.Ghosts T) (starts : ℕ → words.Start) (lanes : ℕ) (stops : List Bool) (gave : ℕ → ℕ → List Job) (took : ℕ → List Reply) where
  pub stopped_none : (posts : List T) → AreStopped words starts lanes posts gave took 0
  stopped_none posts told w endpoint less at = absurd (omega (arith, less))

  put_here : (stopped : Bool) (place : ℕ) (x y : T) → (stopped ≡ true → y ≡ x)
      → (stopped ≡ false → words.tells → (start : words.Start) (jobs : ℕ → List Job) (replies : List Reply) → words.made_by start x jobs replies → PutsPrefixes (words.lanes x) (words.number x) jobs (λ l. replies) (words.begun start) (words.view y))
      → IsAtEnd words (starts place) lanes place x stopped (gave place) (took place) → words.tells → PutsPrefixes lanes place (gave place) (λ l. took place) (words.begun (starts place)) (words.view y)
  put_here true place x y kept put a told = subst (λ (z : T). PutsPrefixes lanes place (gave place) (λ l. took place) (words.begun (starts place)) (words.view z)) (sym (kept refl)) (a.put refl told)
  put_here false place x y kept put a told =
      subst (λ (m : ℕ). PutsPrefixes m place (gave place) (λ l. took place) (words.begun (starts place)) (words.view y)) (a.lanes_are refl)
      (subst (λ (n : ℕ). PutsPrefixes (words.lanes x) n (gave place) (λ l. took place) (words.begun (starts place)) (words.view y)) (a.number_is refl) (put refl told (starts place) (gave place) (took place) (a.made refl)))

  -- the endpoint at the next place is stopped
  pub stopped_more : (olds posts : List T) (place : ℕ) (x y : T) → place < length posts → slice_get olds place ≡ Some x → (slice_index_or stops place false ≡ true → y ≡ x)
      → (slice_index_or stops place false ≡ false → words.tells → (start : words.Start) (jobs : ℕ → List Job) (replies : List Reply) → words.made_by start x jobs replies → PutsPrefixes (words.lanes x) (words.number x) jobs (λ l. replies) (words.begun start) (words.view y))
      → AreAtEnd words starts lanes olds stops gave took → AreStopped words starts lanes posts gave took place → AreStopped words starts lanes (set posts place y) gave took (place + 1)
  stopped_more olds posts place x y less at kept put ends below told w z under e = elim (eq_or w place) [
    | equal p t ↦
        let there : slice_get (set posts place y) place ≡ Some z = subst (λ (k : ℕ). slice_get (set posts place y) k ≡ Some z) p e in
        let here = put_here (slice_index_or stops place false) place x y kept put (ends place x at) told in
        subst (λ (k : ℕ). PutsPrefixes lanes k (gave k) (λ l. took k) (words.begun (starts k)) (words.view z)) (sym p)
        (subst (λ (v : T). PutsPrefixes lanes place (gave place) (λ l. took place) (words.begun (starts place)) (words.view v)) (sym (set_here posts place y z there less)) here)
    | unequal ne t ↦ below told w z (omega (arith, under, ne)) (set_there posts place w y z ne e)
  ]

  pub stopped_whole : (posts : List T) (count : ℕ) → length posts ≤ count → AreStopped words starts lanes posts gave took count → AreStopped words starts lanes posts gave took (length posts)
  stopped_whole posts count le s told w endpoint less at = s told w endpoint (omega (arith, less, le)) at
