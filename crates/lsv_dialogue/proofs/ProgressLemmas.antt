-- Progress, piece by piece.
use Rattle.std.proofs.Common.{◌≡◌, ◌≤◌, ◌+◌, ◌++◌, ◌∷◌, List, [], ℕ, suc, length, refl, ◌∙◌, ap, arith, Bool, true, false, ◌||◌}
use Rattle.lsv_msg.specs.declared.messages.ClientMessage.{ClientMessage}
use Rattle.lsv_msg.specs.declared.messages.ServerMessage.{ServerMessage}
use Rattle.lsv_dialogue.specs.Events.{Event, Event.Heard, Event.Said, Event.Late, all_said, as_heard, as_late}
use Rattle.lsv_dialogue.specs.Progress.{Reach, is_progress, one_if, progress, reach_after, reach_of}

pub reach_append : (r : Reach) (xs ys : List Event) → reach_of r (xs ++ ys) ≡ reach_of (reach_of r xs) ys
reach_append r [] ys = refl
reach_append r (Heard m ∷ xs) ys = reach_append (reach_after m r) xs ys
reach_append r (Said m ∷ xs) ys = reach_append r xs ys
reach_append r (Late m ∷ xs) ys = reach_append r xs ys

pub progress_append : (r : Reach) (xs ys : List Event) → progress r (xs ++ ys) ≡ progress r xs + progress (reach_of r xs) ys
progress_append r [] ys = let e : progress r ys ≡ 0 + progress r ys = omega arith in e
progress_append r (Heard m ∷ xs) ys = let h = progress_append (reach_after m r) xs ys in omega (arith, h)
progress_append r (Said m ∷ xs) ys = let h = progress_append r xs ys in omega (arith, h)
progress_append r (Late m ∷ xs) ys = progress_append r xs ys

reach_all : (r : Reach) (ms : List ClientMessage) → reach_of r (all_said ms) ≡ r
reach_all r [] = refl
reach_all r (m ∷ ms) = reach_all r ms

progress_all : (r : Reach) (ms : List ClientMessage) → progress r (all_said ms) ≡ length ms
progress_all r [] = refl
progress_all r (m ∷ ms) = ap suc (progress_all r ms)

pub reach_said : (r : Reach) (events : List Event) (ms : List ClientMessage) → reach_of r (events ++ all_said ms) ≡ reach_of r events
reach_said r events ms = reach_append r events (all_said ms) ∙ reach_all (reach_of r events) ms

pub progress_said : (r : Reach) (events : List Event) (ms : List ClientMessage) → progress r (events ++ all_said ms) ≡ progress r events + length ms
progress_said r events ms = progress_append r events (all_said ms) ∙ ap (λ (n : ℕ). progress r events + n) (progress_all (reach_of r events) ms)

pub reach_heard : (r : Reach) (events : List Event) (m : ServerMessage) → reach_of r (events ++ as_heard m) ≡ reach_after m (reach_of r events)
reach_heard r events m = reach_append r events (as_heard m)

pub progress_heard : (r : Reach) (events : List Event) (m : ServerMessage) → progress r (events ++ as_heard m) ≡ progress r events + one_if (is_progress (reach_of r events) m)
progress_heard r events m = progress_append r events (as_heard m) ∙ (let e : progress r events + (one_if (is_progress (reach_of r events) m) + 0) ≡ progress r events + one_if (is_progress (reach_of r events) m) = omega arith in e)

pub progress_late : (r : Reach) (events : List Event) (m : ServerMessage) → progress r (events ++ as_late m) ≡ progress r events
progress_late r events m = progress_append r events (as_late m) ∙ (let e : progress r events + 0 ≡ progress r events = omega arith in e)

-- what came before, or comes now
pub one_or : (a b : Bool) → one_if (a || b) ≤ one_if a + one_if b
one_or true b = omega arith
one_or false b = omega arith
