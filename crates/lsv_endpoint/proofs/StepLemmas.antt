-- What calls of an endpoint do to what it stands for.
use Rattle.std.proofs.Common.{◌≡◌, ℕ, zero, suc, ◌<◌, ◌≤◌, ◌-◌, ◌^◌, Bool, true, false, List, [], ◌∷◌, ◌++◌, length, refl, sym, ap, subst, ◌∙◌, append_assoc, inl, inr, ⊎_elim, arith}
use Rattle.std.proofs.Math.Path.{fun_ext}
use Rattle.std.proofs.lemmas.Bool.{cases_eq}
use Rattle.std.proofs.lemmas.List.{append-nil}
use Rattle.std.specs.Prelude.{Result, Ok, Err, OnErr, OnOk, is_err}
use Rattle.lsv_defs.specs.Causes.{HasRisen}
use Rattle.lsv_port.specs.Ledger.{Continues, GoesOn, PortLedger}
use Rattle.lsv_port.specs.Port.{Changes, IsOwed, IsSame, LinkState, PortState, TellsFault, Told}
use Rattle.lsv_port.specs.declared.port.Ready.{Ready}
use Rattle.lsv_port.specs.declared.port.Ready.TheVariants as ready
use Rattle.lsv_port.proofs.LedgerLemmas.{goes_on, goes_on_then}
use Rattle.lsv_links.specs.Views.{PortFailed, PortView}
use Rattle.lsv_session.specs.declared.job.Job.{Job}
use Rattle.lsv_session.specs.declared.reply.Reply.{Reply}
use Rattle.lsv_worker.specs.Links.{AreBlamed, HasBlame}
use Rattle.lsv_worker.specs.Worker.{Goes, HoldsOwed, Represents, phase_after, setting}
use Rattle.lsv_worker.specs.declared.link.Phase.{Phase}
use Rattle.lsv_worker.specs.declared.link.Phase.TheVariants as phases
use Rattle.lsv_worker.specs.declared.worker.Worker.{Worker}
use Rattle.lsv_worker.proofs.Notes.{fault_stands}
use Rattle.lsv_endpoint.specs.InnerEndpoint.{AreKept, IsInMode, StandsFor, WentOn, after_ready}
use Rattle.lsv_endpoint.specs.declared.mode.Mode.{Mode}
use Rattle.lsv_endpoint.specs.declared.mode.Mode.TheVariants.{Going, Failing, Stopping, Failed}

-- ---- What a call answers

pub on_err : {T E : Type 0} (answer : Result T E) (P : Type 0) → is_err answer ≡ true → OnErr answer P → P
on_err (Ok x) P e h = absurd (cc)
on_err (Err x) P e h = h

pub on_ok : {T E : Type 0} (answer : Result T E) (P : Type 0) → is_err answer ≡ false → OnOk answer P → P
on_ok (Ok x) P e h = h
on_ok (Err x) P e h = absurd (cc)

-- ---- Counts

pub risen_late : (a b c : ℕ) → a ≤ b → HasRisen b c → HasRisen a c
risen_late a b c le rose below = let up : b < c = rose below in omega arith

pub risen_on : (a b c : ℕ) → HasRisen a b → b ≤ c → HasRisen a c
risen_on a b c rose le below = let low : b < 2 ^ 64 - 1 = omega arith in let up : a < b = rose low in omega arith

-- ---- The port

-- two states of a port of which nothing changed are one
pub same_port : (old new : PortState) → IsSame old new → new ≡ old
same_port old new s i = record { opened = s.opened i; link = λ l. s.links l i; stopped = s.stopped i; failed = s.failed i }

changed_failed : (k : ℕ) (now : LinkState) (old new : PortState) → Changes k now old new → (now.failed ≡ true → (old.link k).failed ≡ true) → (l : ℕ) → (new.link l).failed ≡ true → (old.link l).failed ≡ true
changed_failed k now old new c this l e =
    ⊎_elim (λ is. subst (λ (n : ℕ). (old.link n).failed ≡ true) (sym is) (this (ap (λ (x : LinkState). x.failed) (sym c.this) ∙ subst (λ (n : ℕ). (new.link n).failed ≡ true) is e)))
    (λ ne. ap (λ (x : LinkState). x.failed) (sym (c.others l ne)) ∙ e) (cases_eq l k)

-- no link failed in a turn
told_failed : (is : Ready) (old new : PortState) → Told is old new → (l : ℕ) → (new.link l).failed ≡ true → (old.link l).failed ≡ true
told_failed (ready.Opened k) old new t l e =
    ⊎_elim (λ is. let was : (new.link k).failed ≡ true = subst (λ (n : ℕ). (new.link n).failed ≡ true) is e in let no : true ≡ false = sym was ∙ ap (λ (x : LinkState). x.failed) t.this in absurd cc)
    (λ ne. ap (λ (x : LinkState). x.failed) (sym (t.others l ne)) ∙ e) (cases_eq l k)
told_failed (ready.Readable k) old new t l e = changed_failed k (record (old.link k) { owed = true }) old new t.change (λ f. f) l e
told_failed (ready.Writable k) old new t l e = changed_failed k (record (old.link k) { full = false }) old new t.change (λ f. f) l e
told_failed ready.Woken old new t l e = ap (λ (x : LinkState). x.failed) (sym (t.links l)) ∙ e
told_failed ready.Stop old new t l e = ap (λ (x : LinkState). x.failed) (sym (t.links l)) ∙ e

-- nor the port as a whole
pub told_whole : (is : Ready) (old new : PortState) → Told is old new → new.failed ≡ old.failed
told_whole (ready.Opened k) old new t = t.failed
told_whole (ready.Readable k) old new t = t.change.failed
told_whole (ready.Writable k) old new t = t.change.failed
told_whole ready.Woken old new t = t.failed
told_whole ready.Stop old new t = t.failed

pub told_blame : (is : Ready) (old new : PortState) (a b : PortLedger) → Told is old new → HasBlame old a new b
told_blame is old new a b t = record { links = λ l e. inl (told_failed is old new t l e); whole = told_whole is old new t }

pub same_blame : (old new : PortState) (a b : PortLedger) → ((l : ℕ) → new.link l ≡ old.link l) → AreBlamed old a new b
same_blame old new a b same l e = inl (ap (λ (x : LinkState). x.failed) (sym (same l)) ∙ e)

-- what is blamed over two calls
pub blame_then : (s t u : PortState) (a b c : PortLedger) → Continues a b → Continues b c → HasBlame s a t b → HasBlame t b u c → HasBlame s a u c
blame_then s t u a b c x y f g = record {
  links = λ l e.
      ⊎_elim (λ was. ⊎_elim (λ before. inl before) (λ rose. inr (risen_on (a.links l) (b.links l) (c.links l) rose (y.links l))) (f.links l was))
      (λ rose. inr (risen_late (a.links l) (b.links l) (c.links l) (x.links l) rose)) (g.links l e);
  whole = g.whole ∙ f.whole;
}

-- a port that went on goes on
pub goes_then : (tells : Type 0) (start old new : PortView) → WentOn tells start old → GoesOn old.ledger new.ledger → (tells → AreBlamed old.state old.ledger new.state new.ledger) → WentOn tells start new
goes_then tells start old new g on blame = record {
  goes_on = goes_on_then start.ledger old.ledger new.ledger g.goes_on on;
  unopened = g.unopened;
  blame = λ told l e.
      ⊎_elim (λ was. risen_on (start.ledger.links l) (old.ledger.links l) (new.ledger.links l) (g.blame told l was) (on.links l))
      (λ rose. risen_late (start.ledger.links l) (old.ledger.links l) (new.ledger.links l) (g.goes_on.links l) rose) (blame told l e);
}

pub failed_on : (start old new : PortView) → GoesOn old.ledger new.ledger → PortFailed start old → PortFailed start new
failed_on start old new on f = risen_on start.ledger.turns old.ledger.turns new.ledger.turns f on.turns

pub failed_now : (start old new : PortView) → GoesOn start.ledger old.ledger → HasRisen old.ledger.turns new.ledger.turns → PortFailed start new
failed_now start old new on rose = risen_late start.ledger.turns old.ledger.turns new.ledger.turns on.turns rose

-- ---- The mode

pub mode_then : (mode : Mode) (p q : Phase) (F G : Type 0) → q ≡ p → (F → G) → IsInMode mode p F → IsInMode mode q G
mode_then Going p q F G e f h = e ∙ h
mode_then Failing p q F G e f h = (e ∙ h.0, f h.1)
mode_then Stopping p q F G e f h = e ∙ h
mode_then Failed p q F G e f h = (⊎_elim (λ a. inl (e ∙ a)) (λ b. inr (e ∙ b)) h.0, f h.1)

-- after a turn that told this
pub mode_turned : (is : Ready) (p : Phase) (F : Type 0) → p ≡ phase_after is → IsInMode (after_ready is) p F
mode_turned (ready.Opened l) p F e = e
mode_turned (ready.Readable l) p F e = e
mode_turned (ready.Writable l) p F e = e
mode_turned ready.Woken p F e = e
mode_turned ready.Stop p F e = e

-- its worker learned that the port failed
pub failed_mode : (mode : Mode) (p q : Phase) (F G : Type 0) → mode ≡ Failing → q ≡ phases.Failed → (F → G) → IsInMode mode p F → IsInMode Failed q G
failed_mode mode p q F G failing e f on = let was : IsInMode Failing p F = subst (λ (c : Mode). IsInMode c p F) failing on in (inl e, f was.1)

-- the phase of a worker whose endpoint goes on
pub going_phase : (mode : Mode) (p : Phase) (F : Type 0) → mode ≡ Going → IsInMode mode p F → p ≡ phases.Going
going_phase mode p F going on = subst (λ (c : Mode). IsInMode c p F) going on

pub failing_phase : (mode : Mode) (p : Phase) (F : Type 0) → mode ≡ Failing → IsInMode mode p F → p ≡ phases.Going
failing_phase mode p F failing on = let was : IsInMode Failing p F = subst (λ (c : Mode). IsInMode c p F) failing on in was.0

-- ---- The worker

-- what a call of the worker put to its inbox is what it stands for then
represents_more : (a b : Worker) (s t : PortState) (was is gave : ℕ → List Job) (replies : List Reply) → Goes a b s t was is → Represents a s (λ lane. gave lane ++ was lane) replies → Represents b t (λ lane. gave lane ++ is lane) replies
represents_more a b s t was is gave replies g h =
    subst (λ (f : ℕ → List Job). Represents b t f replies) (fun_ext (λ lane. append_assoc (gave lane) (was lane) (g.added lane) ∙ ap (λ (l : List Job). gave lane ++ l) (sym (g.put lane)))) (g.goes (λ lane. gave lane ++ was lane) replies h)

pub stands_then : (a b : Worker) (s t : PortState) (gave was is : ℕ → List Job) (replies : List Reply) → Goes a b s t was is → ((setting b).phase ≡ phases.Going → HoldsOwed b t) → StandsFor a s (λ lane. gave lane ++ was lane) replies → StandsFor b t (λ lane. gave lane ++ is lane) replies
stands_then a b s t gave was is replies g holds h = record { represents = represents_more a b s t was is gave replies g h.represents; holds = holds }

pub stands_same : (a : Worker) (s t : PortState) (jobs : ℕ → List Job) (replies : List Reply) → IsSame s t → StandsFor a s jobs replies → StandsFor a t jobs replies
stands_same a s t jobs replies same h = subst (λ (p : PortState). StandsFor a p jobs replies) (sym (same_port s t same)) h

-- the port failed as a whole
pub stands_fault : (a : Worker) (s t : PortState) (jobs : ℕ → List Job) (replies : List Reply) → TellsFault s t → StandsFor a s jobs replies → StandsFor a t jobs replies
stands_fault a s t jobs replies tells h = record {
  represents = fault_stands (setting a) a.links.items s t jobs replies tells h.represents;
  holds = λ going l owed. h.holds going l (record { is_open = subst (λ (x : LinkState). x.is_open ≡ true) (tells.links l) owed.is_open; owed = subst (λ (x : LinkState). x.owed ≡ true) (tells.links l) owed.owed });
}

-- ---- Replies

pub kept_same : (a b : Bool) (took kept : List Reply) → (b ≡ false → a ≡ false) → AreKept a took kept → AreKept b took kept
kept_same a b took kept less k = record { rest = k.rest; is = k.is; all = λ e. k.all (less e) }

-- a reply was kept, where none was lost before
pub kept_one : (lost : Bool) (took kept : List Reply) (reply : Reply) → lost ≡ false → AreKept lost took kept → AreKept lost (took ++ reply ∷ []) (kept ++ reply ∷ [])
kept_one lost took kept reply whole k =
    let all : took ≡ kept = k.is ∙ ap (λ (r : List Reply). kept ++ r) (k.all whole) ∙ append-nil kept in
    record { rest = []; is = ap (λ (l : List Reply). l ++ reply ∷ []) all ∙ sym (append-nil (kept ++ reply ∷ [])); all = λ e. refl }

-- a reply was dropped
pub kept_lost : (a b : Bool) (took kept : List Reply) (reply : Reply) → b ≡ true → AreKept a took kept → AreKept b (took ++ reply ∷ []) kept
kept_lost a b took kept reply lost k = record {
  rest = k.rest ++ reply ∷ [];
  is = ap (λ (l : List Reply). l ++ reply ∷ []) k.is ∙ append_assoc kept k.rest (reply ∷ []);
  all = λ e. let no : true ≡ false = sym lost ∙ e in absurd (cc);
}

-- all that was taken was kept, where none was lost
pub kept_all : (lost : Bool) (took kept : List Reply) → lost ≡ false → AreKept lost took kept → kept ≡ took
kept_all lost took kept whole k = sym (k.is ∙ ap (λ (r : List Reply). kept ++ r) (k.all whole) ∙ append-nil kept)
