-- What follows from an outcome, and what a job gives with its event line.
use Rattle.std.proofs.Common.{◌≡◌, ℕ, List, refl, sym, ap, ◌∙◌, subst, Option, Some, None, Ok, Err, Result, OnOk, IfOk}
use Rattle.std.specs.Prelude.{◌==◌, Bool, true, false, if◌then◌else◌}
use Rattle.lsv_base.specs.declared.time.TimeSpec.{TimeSpec}
use Rattle.lsv_request.specs.declared.refusal.Refusal.TheVariants.{LogFull}
use Rattle.lsv_request.specs.declared.request.Request.{Request}
use Rattle.lsv_session.specs.declared.connection.ConnId.{ConnId}
use Rattle.lsv_session.specs.declared.connection.ConnState.{ConnState}
use Rattle.lsv_machine.specs.Answers.{is_refused}
use Rattle.lsv_machine.specs.Machine.{Machine, Settings, with_owner}
use Rattle.lsv_machine.specs.Work.{Done, before_line, has_line, line_in, lined, refused}
use Rattle.lsvt_model.specs.Inner.{Gives, adds_any, answers_of, fits_any, noted}
use Rattle.lsvt_model.specs.declared.told.Told.{Told}
use Rattle.lsvt_model.proofs.TableLemmas.{ext, number_decides}

-- ---- Results

pub if_ok : {T E : Type 0} {P Q : T → Type 0} (r : Result T E) → ((t : T) → P t → Q t) → IfOk r P → IfOk r Q
if_ok (Ok t) f p = f t p
if_ok (Err e) f p = tt

pub on_ok : {T E : Type 0} {P Q : Type 0} (r : Result T E) → (P → Q) → OnOk r P → OnOk r Q
on_ok (Ok t) f p = f p
on_ok (Err e) f p = tt

pub on_ok_both : {T E : Type 0} {P Q R : Type 0} (r : Result T E) → (P → Q → R) → OnOk r P → OnOk r Q → OnOk r R
on_ok_both (Ok t) f p q = f p q
on_ok_both (Err e) f p q = tt

-- ---- Owners

pub same_at : {A : Type 0} (f : ℕ → A) (n : ℕ) (a : A) → f n ≡ a → (λ i. if i == n then a else f i) ≡ f
same_at {A} f n a e = ext (λ i. go i (i == n) refl)
  where
    go : (i : ℕ) (t : Bool) → (i == n) ≡ t → (if t then a else f i) ≡ f i
    go i true h = sym e ∙ ap f (sym (number_decides i n h))
    go i false h = refl

pub owner_same : (n : ℕ) (o : Option ConnId) (m : Machine) → m.owner n ≡ o → with_owner n o m ≡ m
owner_same n o m e = let put : (ℕ → Option ConnId) → Machine = λ f. record m { owner = f } in ap put (same_at m.owner n o e)

-- ---- Event lines

pub not_added : (fits : Bool) (x y z : Machine) → x ≡ (if fits then y else z) → fits ≡ false → x ≡ z
not_added true x y z h e = cc
not_added false x y z h e = h

pub was_added : (fits : Bool) (x y z : Machine) → x ≡ (if fits then y else z) → fits ≡ true → x ≡ y
was_added true x y z h e = h
was_added false x y z h e = cc

pub full_gives : (line : Option (List ℕ)) (k : ConnId) (full old mid : Machine) (d : Done) (t : Told) (m : Machine) → is_refused d.answers ≡ false → fits_any line old ≡ false
    → mid ≡ full → Gives (refused k LogFull mid) k t m → Gives (noted line k full old d) k t m
full_gives None k full old mid d t m a f e g = cc
full_gives (Some line) k full old mid d t m a f e g = rw (a, f) (subst (λ x. Gives (refused k LogFull x) k t m) e g)

pub fits_gives : (line : Option (List ℕ)) (k : ConnId) (full old : Machine) (d : Done) (t : Told) (m : Machine) → is_refused d.answers ≡ false → fits_any line old ≡ true
    → answers_of k t ≡ d.answers → m ≡ adds_any k line d.machine → Gives (noted line k full old d) k t m
fits_gives None k full old d t m a f e h = record { answers = e; machine = h }
fits_gives (Some line) k full old d t m a f e h = rw (a, f) (record { answers = e; machine = h })

pub refused_gives : (line : Option (List ℕ)) (k : ConnId) (full old : Machine) (d : Done) (t : Told) (m : Machine) → is_refused d.answers ≡ true
    → Gives d k t m → Gives (noted line k full old d) k t m
refused_gives None k full old d t m a g = g
refused_gives (Some line) k full old d t m a g = rw a g

pub lined_noted : (set : Settings) (now : TimeSpec) (k : ConnId) (s : ConnState) (asked : Request) (n : ℕ) (old : Machine) (d : Done)
    → lined set now k s asked n old d ≡ noted (if has_line set asked then Some (line_in set now k s asked n) else None) k (before_line s asked n old) old d
lined_noted set now k s asked n old d = go (has_line set asked) refl
  where
    go : (t : Bool) → has_line set asked ≡ t → lined set now k s asked n old d ≡ noted (if t then Some (line_in set now k s asked n) else None) k (before_line s asked n old) old d
    go true e = rw e refl
    go false e = rw e refl
