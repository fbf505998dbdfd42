-- The invariant of a run: the machine fits what a history says of one log. good: that the store was good for what was before the run; without it only writers are spoken of.
use Rattle.std.proofs.Common.{◌≡◌, ◌≢◌, ◌<◌, ℕ, List, [], ◌∷◌, refl, sym, ◌∙◌, ap, Option, Some, None}
use Rattle.std.specs.Prelude.{◌==◌, Bool, true, false, if◌then◌else◌, Result, Ok, Err}
use Rattle.std.specs.List.{list_any}
use Rattle.lsv_info.specs.Layout.{exit_text}
use Rattle.lsv_request.specs.declared.refusal.Refusal.{Refusal}
use Rattle.lsv_request.specs.declared.request.Request.{Request}
use Rattle.lsv_request.specs.declared.request.Request.TheVariants as request
use Rattle.lsv_session.specs.declared.connection.ConnId.{ConnId}
use Rattle.lsv_machine.specs.Answers.{Answer, is_silent}
use Rattle.lsv_machine.specs.History.{Ledger, asked, tells_log, writes}
use Rattle.lsv_machine.specs.Machine.{IsOfLane, Machine, Settings, same}
use Rattle.lsv_machine.specs.Stands.{Agrees, HoldsAt, Sound, StandsFor, as_list}
use Rattle.lsv_machine.proofs.Choices.{SameOr.alike, SameOr.apart, same_or, same_refl}

pub record Fits (good : Type 0) (set : Settings) (n : ℕ) (m : Machine) (l : Ledger) : Type 0 where
  pub sound : Sound set m
  pub agrees : Agrees n m l
  pub holds : good → HoldsAt (m.logs n) (m.owner n) l.shown l.promised
  pub untold : good → IsOfLane set.lane set.lanes n → m.last < n → l.promised ≡ None

pub fits_of_stands : (set : Settings) (n : ℕ) (m : Machine) (l : Ledger) → StandsFor set n m l → Fits (Unit {0}) set n m l
fits_of_stands set n m l s = record { sound = s.sound; agrees = s.agrees; holds = λ g. s.holds; untold = λ g. s.untold }

pub stands_of_fits : (set : Settings) (n : ℕ) (m : Machine) (l : Ledger) → Fits (Unit {0}) set n m l → StandsFor set n m l
stands_of_fits set n m l f = record { sound = f.sound; agrees = f.agrees; holds = f.holds tt; untold = f.untold tt }

-- what a ledger says of texts, writers and records is the same
pub record SameNotes (l l' : Ledger) : Type 0 where
  pub texts : l'.texts ≡ l.texts
  pub shut : (k : ConnId) → l'.shut k ≡ l.shut k
  pub writers : l'.writers ≡ l.writers
  pub shown : l'.shown ≡ l.shown
  pub promised : l'.promised ≡ l.promised

pub same_notes : (l : Ledger) → SameNotes l l
same_notes l = record { texts = refl; shut = λ k. refl; writers = refl; shown = refl; promised = refl }

pub fits_same : (good : Type 0) (set : Settings) (n : ℕ) (m : Machine) (l l' : Ledger) → SameNotes l l' → Fits good set n m l → Fits good set n m l'
fits_same good set n m l l' s f = record {
  sound = f.sound;
  agrees = record { texts = s.texts ∙ f.agrees.texts; shut = λ k. s.shut k ∙ f.agrees.shut k; writers = s.writers ∙ f.agrees.writers };
  holds = rw (s.shown, s.promised) f.holds;
  untold = λ g o a. s.promised ∙ f.untold g o a;
}

-- nothing here reads which logs wait, event lines, or how many draws failed
pub fits_beside : (good : Type 0) (set : Settings) (n : ℕ) (m : Machine) (draws : ℕ) (waiting lines fresh : List ℕ) (noting : List ConnId) (l : Ledger) → Fits good set n m l
    → Fits good set n (record m { failed_draws = draws; waiting = waiting; lines = lines; fresh = fresh; noting = noting }) l
fits_beside good set n m draws waiting lines fresh noting l f = record {
  sound = record { lane = f.sound.lane; drawn = f.sound.drawn; owns = f.sound.owns; owned = f.sound.owned; there = f.sound.there; none_above = f.sound.none_above };
  agrees = record { texts = f.agrees.texts; shut = f.agrees.shut; writers = f.agrees.writers };
  holds = f.holds;
  untold = f.untold;
}

-- ---- Who writes

pub writes_its : (l : Ledger) (k : ConnId) → l.writers ≡ k ∷ [] → writes l k ≡ true
writes_its l k e = rw (e, same_refl k) refl

writes_list : (o : Option ConnId) (k : ConnId) → o ≢ Some k → list_any (same k) (as_list o) ≡ false
writes_list None k ne = refl
writes_list (Some j) k ne = elim (same_or k j) [ alike p t ↦ absurd (ne (ap Some (sym p))) | apart p t ↦ rw t refl ]

pub writes_none : (l : Ledger) (k : ConnId) (o : Option ConnId) → l.writers ≡ as_list o → o ≢ Some k → writes l k ≡ false
writes_none l k o e ne = rw e (writes_list o k ne)

-- ---- What is asked, by loud answers

if_same : (l x : Ledger) (b : Bool) → SameNotes l x → SameNotes l (if b then x else l)
if_same l x true s = s
if_same l x false s = same_notes l

-- an answer that is neither nothing nor the log's number, where no restart failed inside its cut, says nothing of writers and records but by itself
pub asked_loud : (n : ℕ) (k : ConnId) (what : Result Request Refusal) (answers : List Answer) (l : Ledger) → is_silent answers ≡ false → tells_log n answers ≡ false → SameNotes l (asked n k what answers false l)
asked_loud n k (Ok request.Hello) answers l e d = same_notes l
asked_loud n k (Ok (request.Accept accept)) answers l e d = rw d (same_notes l)
asked_loud n k (Ok (request.Reject report)) answers l e d = same_notes l
asked_loud n k (Ok (request.Alert report)) answers l e d = same_notes l
asked_loud n k (Ok (request.Restart restart)) answers l e d = rw e (if_same l l (restart.log == n) (same_notes l))
asked_loud n k (Ok (request.Record r)) answers l e d = rw e (same_notes l)
asked_loud n k (Ok (request.Exit exit)) answers l e d = if_same l (record l { exit = Some (exit_text exit) }) (writes l k) (record { texts = refl; shut = λ j. refl; writers = refl; shown = refl; promised = refl })
asked_loud n k (Err why) answers l e d = same_notes l
