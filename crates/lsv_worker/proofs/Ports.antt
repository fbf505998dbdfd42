-- Calls of a port, one after another.
use Rattle.std.proofs.Common.{◌≡◌, ◌≢◌, ◌⊎◌, ℕ, ◌<◌, ◌≤◌, ◌-◌, ◌^◌, ◌||◌, Bool, true, false, refl, sym, ap, subst, ◌∙◌, inl, inr, ⊎_elim, arith}
use Rattle.lsv_defs.specs.Causes.{HasRisen}
use Rattle.lsv_port.specs.Ledger.{Continues, HasLinkCause, PortLedger}
use Rattle.lsv_port.specs.Port.{Changes, IsOwed, LinkState, PortState, closed, is_over}
use Rattle.lsv_worker.specs.Outgoing.{Alone, SameInput}
use Rattle.lsv_worker.specs.Links.{HasBlame, KnowsPort}
use Rattle.lsv_worker.specs.declared.link.Phase.{Phase}
use Rattle.lsv_worker.specs.declared.link.Phase.TheVariants.{Going, Stopping, Failed, Stopped}
use Rattle.lsv_worker.proofs.Putting.{same_or_not}

pub risen_late : (a b c : ℕ) → a ≤ b → HasRisen b c → HasRisen a c
risen_late a b c le rose below = let up : b < c = rose below in omega arith

pub risen_on : (a b c : ℕ) → HasRisen a b → b ≤ c → HasRisen a c
risen_on a b c rose le below = let low : b < 2 ^ 64 - 1 = omega arith in let up : a < b = rose low in omega arith

pub continues_here : (a : PortLedger) → Continues a a
continues_here a = record { script = refl; listens = refl; turned = λ e. e; deaf = refl; turns = omega arith; links = λ l. omega arith }

pub continues_then : (a b c : PortLedger) → Continues a b → Continues b c → Continues a c
continues_then a b c x y = record {
  script = y.script ∙ x.script;
  listens = y.listens ∙ x.listens;
  turned = λ e. y.turned (x.turned e);
  deaf = y.deaf ∙ x.deaf;
  turns = omega (arith, x.turns, y.turns);
  links = λ l. omega (arith, x.links l, y.links l);
}

pub cause_late : (l : ℕ) (F : Type 0) (a b c : PortLedger) → Continues a b → HasLinkCause l F b c → HasLinkCause l F a c
cause_late l F a b c x y = record { continues = continues_then a b c x y.continues; risen = λ f. risen_late (a.links l) (b.links l) (c.links l) (x.links l) (y.risen f) }

pub blame_same : (s t : PortState) (a b : PortLedger) → ((l : ℕ) → (t.link l).failed ≡ (s.link l).failed) → t.failed ≡ s.failed → HasBlame s a t b
blame_same s t a b same whole = record { links = λ l e. inl (sym (same l) ∙ e); whole = whole }

pub blame_one : (l : ℕ) (s t : PortState) (a b : PortLedger) → ((m : ℕ) → m ≢ l → t.link m ≡ s.link m) → ((t.link l).failed ≡ true → ((s.link l).failed ≡ true) ⊎ HasRisen (a.links l) (b.links l)) → t.failed ≡ s.failed → HasBlame s a t b
blame_one l s t a b others this whole = record {
  links = λ m e.
      ⊎_elim (λ is. subst (λ (k : ℕ). ((s.link k).failed ≡ true) ⊎ HasRisen (a.links k) (b.links k)) (sym is) (this (subst (λ (k : ℕ). (t.link k).failed ≡ true) is e)))
      (λ ne. inl (ap (λ (x : LinkState). x.failed) (sym (others m ne)) ∙ e)) (same_or_not m l);
  whole = whole;
}

pub blame_then : (s t u : PortState) (a b c : PortLedger) → Continues a b → Continues b c → HasBlame s a t b → HasBlame t b u c → HasBlame s a u c
blame_then s t u a b c x y f g = record {
  links = λ l e.
      ⊎_elim (λ was. ⊎_elim (λ was0. inl was0) (λ rose. inr (risen_on (a.links l) (b.links l) (c.links l) rose (y.links l))) (f.links l was))
      (λ rose. inr (risen_late (a.links l) (b.links l) (c.links l) (x.links l) rose)) (g.links l e);
  whole = g.whole ∙ f.whole;
}

pub alone_here : (l : ℕ) (s : PortState) → Alone l s s
alone_here l s = record { others = λ m ne. refl; beside = refl; opened = refl; stopped = refl; failed = refl }

pub alone_change : (l : ℕ) (now : LinkState) (s t : PortState) → now.beside ≡ (s.link l).beside → Changes l now s t → Alone l s t
alone_change l now s t beside c = record { others = c.others; beside = ap (λ (x : LinkState). x.beside) c.this ∙ beside; opened = c.opened; stopped = c.stopped; failed = c.failed }

pub alone_then : (l : ℕ) (s t u : PortState) → Alone l s t → Alone l t u → Alone l s u
alone_then l s t u x y = record {
  others = λ m ne. y.others m ne ∙ x.others m ne;
  beside = y.beside ∙ x.beside;
  opened = y.opened ∙ x.opened;
  stopped = y.stopped ∙ x.stopped;
  failed = y.failed ∙ x.failed;
}

-- what a worker in this phase knows of its port
pub told_on : (phase : Phase) (s t : PortState) → t.stopped ≡ s.stopped → t.failed ≡ s.failed → KnowsPort phase s → KnowsPort phase t
told_on Going s t stopped failed h = stopped ∙ h
told_on Stopping s t stopped failed h = stopped ∙ h
told_on Failed s t stopped failed h = failed ∙ h
told_on Stopped s t stopped failed h = tt

pub told_alone : (phase : Phase) (l : ℕ) (s t : PortState) → Alone l s t → KnowsPort phase s → KnowsPort phase t
told_alone phase l s t alone h = told_on phase s t alone.stopped alone.failed h

or_left : (a b : Bool) → (a || b) ≡ false → a ≡ false
or_left true b e = absurd cc
or_left false b e = refl

or_right : (a b : Bool) → (a || b) ≡ false → b ≡ false
or_right true b e = absurd cc
or_right false b e = e

pub not_over : (s : PortState) → s.stopped ≡ false → s.failed ≡ false → is_over s ≡ false
not_over s stopped failed = rw (stopped, failed) refl

-- a worker whose port goes on goes on too, or was stopped
pub going_or : (phase : Phase) (s : PortState) → KnowsPort phase s → is_over s ≡ false → (phase ≡ Going) ⊎ (phase ≡ Stopped)
going_or Going s h e = inl refl
going_or Stopping s h e = absurd (let no : true ≡ false = sym h ∙ or_left s.stopped s.failed e in cc)
going_or Failed s h e = absurd (let no : true ≡ false = sym h ∙ or_right s.stopped s.failed e in cc)
going_or Stopped s h e = inr refl

pub input_here : (s : LinkState) → SameInput s s
input_here s = record { is_open = refl; input = refl; ended = refl; owed = refl; reads = refl }

pub input_then : (s t u : LinkState) → SameInput s t → SameInput t u → SameInput s u
input_then s t u x y = record { is_open = y.is_open ∙ x.is_open; input = y.input ∙ x.input; ended = y.ended ∙ x.ended; owed = y.owed ∙ x.owed; reads = y.reads ∙ x.reads }

-- a call after which the link failed no more than before
pub blame_kept : (l : ℕ) (now : LinkState) (s t : PortState) (a b : PortLedger) → Changes l now s t → now.failed ≡ (s.link l).failed → HasBlame s a t b
blame_kept l now s t a b change same = blame_one l s t a b change.others (λ e. inl (sym (ap (λ (x : LinkState). x.failed) change.this ∙ same) ∙ e)) change.failed

-- a call that failed
pub blame_failed : (l : ℕ) (s u : PortState) (a b c : PortLedger) → Alone l s u → HasRisen (a.links l) (b.links l) → Continues b c → HasBlame s a u c
blame_failed l s u a b c alone rose on = blame_one l s u a c alone.others (λ e. inr (risen_on (a.links l) (b.links l) (c.links l) rose (on.links l))) alone.failed

-- the same, if only this link changed
pub blame_alone : (l : ℕ) (s t : PortState) (a b : PortLedger) → Alone l s t → (t.link l).failed ≡ (s.link l).failed → HasBlame s a t b
blame_alone l s t a b alone same = blame_one l s t a b alone.others (λ e. inl (sym same ∙ e)) alone.failed

-- a closed link is owed nothing, and the others stay
pub closed_owes : (l : ℕ) (s t : PortState) → Changes l (closed (is_over s) (s.link l)) s t → (m : ℕ) → IsOwed t m → IsOwed s m
closed_owes l s t change m owed =
    ⊎_elim
    (λ e. let shut : (t.link l).is_open ≡ false = ap (λ (x : LinkState). x.is_open) change.this in let open_now : (t.link l).is_open ≡ true = subst (λ (n : ℕ). (t.link n).is_open ≡ true) e owed.is_open in absurd (let no : true ≡ false = sym open_now ∙ shut in cc))
    (λ ne. record { is_open = subst (λ (x : LinkState). x.is_open ≡ true) (change.others m ne) owed.is_open; owed = subst (λ (x : LinkState). x.owed ≡ true) (change.others m ne) owed.owed })
    (same_or_not m l)
