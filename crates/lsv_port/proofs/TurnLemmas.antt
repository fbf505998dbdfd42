-- What a turn of a port in memory makes of it.
use Rattle.std.proofs.Common.{◌≡◌, ◌⊎◌, inl, inr, ◌≤◌, ◌+◌, ◌<◌, ℕ, Bool, true, false, cond, List, [], ◌∷◌, ◌++◌, take, length, Option, Some, None, is_some, refl, sym, ap, subst, ◌∙◌, arith}
use Rattle.std.specs.List.{Contains, slice_get}
use Rattle.std.proofs.lemmas.List.{take_more}
use Rattle.std.proofs.lemmas.List.Sums.{fold_push}
use Rattle.std.proofs.lemmas.List.Elements.{Contains-append_left, Contains-push}
use Rattle.std.proofs.lemmas.Option.{slice_get_within, get_or_from_slice_get}
use Rattle.lsv_defs.specs.Causes.{HasRisen}
use Rattle.lsv_port.specs.declared.memory.links.Links.{Links}
use Rattle.lsv_port.specs.declared.memory.run.Run.{Run}
use Rattle.lsv_port.specs.declared.port.Ready.{Ready}
use Rattle.lsv_port.specs.declared.port.Ready.TheVariants as ready
use Rattle.lsv_port.specs.declared.step.Step.{Step}
use Rattle.lsv_port.specs.declared.step.Step.TheVariants as steps
use Rattle.lsv_port.specs.Ledger.{HasTurnCause}
use Rattle.lsv_port.specs.Port.{TellsFault, Told}
use Rattle.lsv_port.specs.Memory.Numbers.{has}
use Rattle.lsv_port.specs.Memory.Script.{Sent, unsent, sent_next, sent_by, fails_turn, is_stop}
use Rattle.lsv_port.specs.Memory.Links.{LinkMap, links_of, told_of, state_of, faults_of, is_open_in, IsSentBy, AreSentBy, AreOpened, AreOpen, AreSame, ready_of, Takes}
use Rattle.lsv_port.specs.Memory.Value.{told_by, over_by, ledger_of, value_of, answer_of, turn_of, IsTurn, HasStopped, IsRun}

-- the steps taken after one more
steps_more : (xs : List Step) (i : ℕ) (step : Step) → slice_get xs i ≡ Some step → take (i + 1) xs ≡ take i xs ++ step ∷ []
steps_more xs i step e = take_more xs i step (slice_get_within xs i step e) ∙ ap (λ (s : Step). take i xs ++ s ∷ []) (get_or_from_slice_get xs i step step e)

-- what was sent after one step more
sent_more : (l : ℕ) (xs : List Step) (i : ℕ) (step : Step) → slice_get xs i ≡ Some step → sent_by l (take (i + 1) xs) ≡ sent_next l (sent_by l (take i xs)) step
sent_more l xs i step e = ap (sent_by l) (steps_more xs i step e) ∙ fold_push (sent_next l) unsent (take i xs) step

pub stop_is : (step : Step) → is_stop step ≡ true → step ≡ steps.Stop
stop_is (steps.Open l) e = absurd cc
stop_is (steps.Give l bytes) e = absurd cc
stop_is (steps.Room l count) e = absurd cc
stop_is (steps.Last l) e = absurd cc
stop_is (steps.Break l) e = absurd cc
stop_is steps.BreakTurn e = absurd cc
stop_is steps.Wake e = absurd cc
stop_is steps.Stop e = refl

pub fails_is : (step : Step) → fails_turn step ≡ true → step ≡ steps.BreakTurn
fails_is (steps.Open l) e = absurd cc
fails_is (steps.Give l bytes) e = absurd cc
fails_is (steps.Room l count) e = absurd cc
fails_is (steps.Last l) e = absurd cc
fails_is (steps.Break l) e = absurd cc
fails_is steps.BreakTurn e = refl
fails_is steps.Wake e = absurd cc
fails_is steps.Stop e = absurd cc

-- a Stop that was told stays told
stopped_more : (old : Run) (step : Step) → slice_get old.script.items old.done ≡ Some step → HasStopped old → (stopped : Bool) → (stopped ≡ true → (old.stopped ≡ true) ⊎ (step ≡ steps.Stop))
    → stopped ≡ true → Contains (take (old.done + 1) old.script.items) steps.Stop ⊎ (old.done + 1 ≡ length old.script.items)
stopped_more old step e was stopped why told = elim (why told) [
  | inl before ↦ elim (was before) [
    | inl among ↦ inl (subst (λ (xs : List Step). Contains xs steps.Stop) (sym (steps_more old.script.items old.done step e)) (Contains-append_left (take old.done old.script.items) (step ∷ []) steps.Stop among))
    | inr all ↦ absurd (let within : old.done < length old.script.items = slice_get_within old.script.items old.done step e in omega (arith, within, all))
  ]
  | inr now ↦ inl (subst (λ (xs : List Step). Contains xs steps.Stop) (sym (steps_more old.script.items old.done step e))
      (subst (λ (s : Step). Contains (take old.done old.script.items ++ s ∷ []) steps.Stop) (sym now) (Contains-push (take old.done old.script.items) steps.Stop)))
]

-- a port runs on where a step was taken
pub step_runs : (old : Run) (step : Step) (links : Links) (stopped failed : Bool) (turns refused : ℕ) → slice_get old.script.items old.done ≡ Some step → IsRun old
    → ((sent : ℕ → Sent) → AreSentBy sent (links_of old.links) → AreSentBy (λ l. sent_next l (sent l) step) (links_of links))
    → (AreOpened old.links.opened.items (links_of old.links) → AreOpened links.opened.items (links_of links))
    → (AreOpen old.links.open_now.items (links_of old.links) → AreOpen links.open_now.items (links_of links))
    → (stopped ≡ true → (old.stopped ≡ true) ⊎ (step ≡ steps.Stop))
    → IsRun (record old { turned = true; done = old.done + 1; links = links; stopped = stopped; failed = failed; turns = turns; refused = refused })
step_runs old step links stopped failed turns refused e run sent opened open_now why = record {
  done = let within : old.done < length old.script.items = slice_get_within old.script.items old.done step e in omega (arith, within);
  sent = λ l. subst (λ (s : Sent). IsSentBy s (links_of links l)) (sym (sent_more l old.script.items old.done step e)) (sent (λ m. sent_by m (take old.done old.script.items)) run.sent l);
  opened = opened run.opened;
  open_now = open_now run.open_now;
  stopped = stopped_more old step e run.stopped stopped why;
}

-- a step that is none of a link's
pub plain_runs : (old : Run) (step : Step) (stopped failed : Bool) (turns : ℕ) → slice_get old.script.items old.done ≡ Some step → IsRun old → ((l : ℕ) (s : Sent) → sent_next l s step ≡ s)
    → (stopped ≡ true → (old.stopped ≡ true) ⊎ (step ≡ steps.Stop))
    → IsRun (record old { turned = true; done = old.done + 1; stopped = stopped; failed = failed; turns = turns })
plain_runs old step stopped failed turns e run same why =
    step_runs old step old.links stopped failed turns old.refused e run
    (λ sent hs l. subst (λ (s : Sent). IsSentBy s (links_of old.links l)) (sym (same l (sent l))) (hs l)) (λ h. h) (λ h. h) why

pub fails_same : (step : Step) → fails_turn step ≡ true → (l : ℕ) (s : Sent) → sent_next l s step ≡ s
fails_same step e l s = subst (λ (t : Step). sent_next l s t ≡ s) (sym (fails_is step e)) refl

pub stop_same : (step : Step) → is_stop step ≡ true → (l : ℕ) (s : Sent) → sent_next l s step ≡ s
stop_same step e l s = subst (λ (t : Step). sent_next l s t ≡ s) (sym (stop_is step e)) refl

-- a turn's answer
pub turn_told : (answer : Option Ready) (old : Run) (step : Step) (links : Links) (stopped failed : Bool) (turns : ℕ) → slice_get old.script.items old.done ≡ Some step → answer ≡ answer_of (links_of old.links) step
    → IsTurn answer (value_of old) (value_of (record old { turned = true; done = old.done + 1; links = links; stopped = stopped; failed = failed; turns = turns }))
turn_told answer old step links stopped failed turns e is = record {
  told = is ∙ sym (ap (turn_of (links_of old.links)) e);
  done = let within : old.done < length old.script.items = slice_get_within old.script.items old.done step e in omega (arith, within);
  refused = refl;
}

pub fails_answer : (f : LinkMap) (step : Step) → fails_turn step ≡ true → None ≡ answer_of f step
fails_answer f step e = sym (ap (λ (b : Bool). cond b None (cond (is_stop step) (Some ready.Stop) (Some (ready_of f step)))) e)

pub stop_answer : (f : LinkMap) (step : Step) → fails_turn step ≡ false → is_stop step ≡ true → Some ready.Stop ≡ answer_of f step
stop_answer f step e s = sym (ap (λ (b : Bool). cond b None (cond (is_stop step) (Some ready.Stop) (Some (ready_of f step)))) e ∙ ap (λ (b : Bool). cond b (Some ready.Stop) (Some (ready_of f step))) s)

pub link_answer : (f : LinkMap) (step : Step) (told : Ready) → fails_turn step ≡ false → is_stop step ≡ false → told ≡ ready_of f step → Some told ≡ answer_of f step
link_answer f step told e s is = ap (λ (r : Ready). Some r) is ∙ sym (ap (λ (b : Bool). cond b None (cond (is_stop step) (Some ready.Stop) (Some (ready_of f step)))) e ∙ ap (λ (b : Bool). cond b (Some ready.Stop) (Some (ready_of f step))) s)

-- what a link's step tells
pub link_told : (old : Run) (step : Step) (told : Ready) (links : Links) → IsRun old → Takes step told old.links links
    → Told told (told_by old) (state_of (links_of links) links.opened.items (over_by old))
link_told old step told links run h = h.told (λ l. sent_by l (take old.done old.script.items)) (over_by old) run.sent run.opened run.open_now

-- ---- A turn to which memory was refused

pub refused_runs : (old : Run) (links : Links) (failed : Bool) (turns refused : ℕ) → IsRun old → AreSame old.links links
    → IsRun (record old { turned = true; links = links; failed = failed; turns = turns; refused = refused })
refused_runs old links failed turns refused run same = record {
  done = run.done;
  sent = subst (λ (g : LinkMap). AreSentBy (λ l. sent_by l (take old.done old.script.items)) g) (sym same.links) run.sent;
  opened = λ m. ap (λ (ns : List ℕ). has ns m) same.opened ∙ run.opened m ∙ ap (λ (g : LinkMap). is_some (g m)) (sym same.links);
  open_now = λ m. ap (λ (ns : List ℕ). has ns m) same.open_now ∙ run.open_now m ∙ ap (λ (g : LinkMap). is_open_in (g m)) (sym same.links);
  stopped = run.stopped;
}

pub refused_told : (old : Run) (links : Links) (stopped : Bool) → AreSame old.links links
    → TellsFault (state_of (links_of old.links) old.links.opened.items (record { stopped = stopped; failed = old.failed })) (state_of (links_of links) links.opened.items (record { stopped = stopped; failed = true }))
refused_told old links stopped same = record { links = λ l. ap (λ (g : LinkMap). told_of (g l)) same.links; opened = same.opened; stopped = refl; failed = refl }

pub refused_cause : (old : Run) (links : Links) (fault : Bool) (turns refused : ℕ) (failed : Type 0) → AreSame old.links links → old.turns ≤ turns → HasRisen old.turns turns
    → HasTurnCause failed (ledger_of old) (ledger_of (record old { turned = true; links = links; failed = fault; turns = turns; refused = refused }))
refused_cause old links fault turns refused failed same more risen = record {
  continues = record { script = refl; listens = refl; turned = λ e. refl; deaf = refl; turns = more; links = λ l. subst (λ (g : LinkMap). faults_of (links_of old.links l) ≤ faults_of (g l)) (sym same.links) (omega arith) };
  risen = λ e. risen;
}
