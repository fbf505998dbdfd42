-- Inboxes in which no job waits, and what one call puts to one.
use Rattle.std.proofs.Common.{◌≡◌, ◌≢◌, ◌<◌, ◌+◌, ◌≤◌, ◌++◌, ◌∷◌, [], List, ℕ, zero, suc, Some, Option, length, refl, sym, ap, subst, ◌∙◌, arith, get_or}
use Rattle.std.specs.Prelude.{slice_get}
use Rattle.std.specs.List.{AllByRecursion}
use Rattle.std.proofs.Math.ListN.{set}
use Rattle.std.proofs.lemmas.List.{length-append, length-set}
use Rattle.std.proofs.lemmas.Option.{slice_get-get_or}
use Rattle.lsv_port.specs.Ledger.{Continues}
use Rattle.lsv_session.specs.declared.job.Job.{Job}
use Rattle.lsv_session.specs.declared.reply.Reply.{Reply}
use Rattle.lsv_links.specs.Lanes.{one_lane}
use Rattle.lsv_links.specs.Turns.{AreOf}
use Rattle.lsv_links.specs.Views.{PortView}
use Rattle.lsv_reactor.specs.Calls.{call_of}
use Rattle.lsv_reactor.specs.InnerLoop.{AreEmptied, Gives, IsEmptied}
use Rattle.lsv_worker.specs.Memory.{IsOrderly, waiting}
use Rattle.lsv_worker.specs.declared.memory.MemInbox.{MemInbox}
use Rattle.lsv_reactor.proofs.Own.{EqOr.equal, EqOr.unequal, eq_or}
use Rattle.lsv_reactor.proofs.OneLane.{both_of_one, none_at, none_waits_there}
use Rattle.lsv_reactor.proofs.Places.{set_here, set_there}

-- ---- Inboxes at their places

pub no_boxes : AreEmptied 0 []
no_boxes = record { size = refl; each = λ i inbox e. absurd (cc) }

last_of : {A : Type 0} (xs : List A) (x y : A) → slice_get (xs ++ x ∷ []) (length xs) ≡ Some y → y ≡ x
last_of [] x y e = cc
last_of (z ∷ xs) x y e = last_of xs x y e

within_of : {A : Type 0} (xs : List A) (x y : A) (i : ℕ) → i ≢ length xs → slice_get (xs ++ x ∷ []) i ≡ Some y → slice_get xs i ≡ Some y
within_of [] x y zero ne e = absurd (ne refl)
within_of [] x y (suc i) ne e = absurd (cc)
within_of (z ∷ xs) x y zero ne e = e
within_of (z ∷ xs) x y (suc i) ne e = within_of xs x y i (λ p. ne (ap suc p)) e

pub box_more : (n : ℕ) (xs : List MemInbox) (x : MemInbox) → AreEmptied n xs → IsEmptied n x → AreEmptied (n + 1) (xs ++ x ∷ [])
box_more n xs x all is = record {
  size = let long = length-append xs (x ∷ []) in let was = all.size in omega arith;
  each = λ i inbox e. elim (eq_or i (length xs)) [
    | equal p t ↦
        let there : slice_get (xs ++ x ∷ []) (length xs) ≡ Some inbox = subst (λ (k : ℕ). slice_get (xs ++ x ∷ []) k ≡ Some inbox) p e in
        subst (λ (k : ℕ). IsEmptied k inbox) (sym (p ∙ all.size)) (subst (IsEmptied n) (sym (last_of xs x inbox there)) is)
    | unequal ne t ↦ all.each i inbox (within_of xs x inbox i ne e)
  ];
}

pub box_at : (n i : ℕ) (xs : List MemInbox) (d : MemInbox) → AreEmptied n xs → i < n → IsEmptied i (get_or xs i d)
box_at n i xs d all less = let size = all.size in all.each i (get_or xs i d) (slice_get-get_or xs i d (omega arith))

pub box_set : (n i : ℕ) (xs : List MemInbox) (x : MemInbox) → AreEmptied n xs → i < n → IsEmptied i x → AreEmptied n (set xs i x)
box_set n i xs x all less is = record {
  size = length-set xs i x ∙ all.size;
  each = λ j inbox e. elim (eq_or j i) [
    | equal p t ↦
        let there : slice_get (set xs i x) i ≡ Some inbox = subst (λ (k : ℕ). slice_get (set xs i x) k ≡ Some inbox) p e in
        let size = all.size in
        subst (λ (k : ℕ). IsEmptied k inbox) (sym p) (subst (IsEmptied i) (sym (set_here xs i x inbox there (omega arith))) is)
    | unequal ne t ↦ all.each j inbox (set_there xs i j x inbox ne e)
  ];
}

-- ---- One inbox

pub handed_out : (n : ℕ) (old new : MemInbox) (jobs : List Job) → IsOrderly old → jobs ≡ waiting old → waiting new ≡ [] → new.worker ≡ old.worker → IsOrderly new → old.worker ≡ n → IsEmptied n new × AreOf n jobs
handed_out n old new jobs orderly taken empty same still own = (
  record { own = same ∙ own; empty = empty; orderly = still },
  subst (AreOf n) (sym taken) (subst (λ (w : ℕ). AllByRecursion (λ job. job.conn.worker ≡ w) (waiting old)) own orderly.own),
)

module _ {T S : Type 0} (number lanes : T → ℕ) (view : T → PortView) (made_by : S → T → (ℕ → List Job) → List Reply → Type 0) (called : T → List (List Job) → Type 0) where
  -- where nothing stands in the inbox yet
  pub put_before : (start : S) (post : T) (inbox : MemInbox) (gave : List Job) (took : List Reply) → waiting inbox ≡ [] → made_by start post (λ lane. one_lane lane gave) took → made_by start post (λ lane. one_lane lane gave ++ one_lane lane (waiting inbox)) took
  put_before start post inbox gave took none made = subst (λ (f : ℕ → List Job). made_by start post f took) (sym (none_waits_there gave (waiting inbox) none)) made

  -- one call, and what it put there was handed out
  pub call_gives : (old new : T) (i j : MemInbox) (jobs : List Job) → number new ≡ number old → lanes new ≡ lanes old → Continues (view old).ledger (view new).ledger
      → ((start : S) (gave : ℕ → List Job) (took : List Reply) → made_by start old (λ lane. gave lane ++ one_lane lane (waiting i)) took → made_by start new (λ lane. gave lane ++ one_lane lane (waiting j)) took)
      → ((calls : List (List Job)) → ((lane : ℕ) → one_lane lane (waiting i) ≡ []) → called old calls → called new (calls ++ call_of (waiting j)))
      → waiting i ≡ [] → jobs ≡ waiting j → Gives number lanes view made_by called old new jobs
  call_gives old new i j jobs same lanes_same heard goes answers none taken = record {
    number_is = same;
    lanes_are = lanes_same;
    continues = heard;
    made = λ start gave took m.
        subst (λ (f : ℕ → List Job). made_by start new f took) (both_of_one gave (waiting j) ∙ ap {B = ℕ → List Job} (λ (l : List Job). λ lane. one_lane lane (gave ++ l)) (sym taken))
        (goes start (λ lane. one_lane lane gave) took (put_before start old i gave took none m));
    answered = λ calls h. subst (λ (l : List Job). called new (calls ++ call_of l)) (sym taken) (answers calls (none_at (waiting i) none) h);
  }
