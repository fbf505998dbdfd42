-- Turns with one turn more.
use Rattle.std.proofs.Common.{◌≡◌, ◌++◌, ◌∷◌, [], List}
use Rattle.std.specs.List.{AllByRecursion}
use Rattle.std.proofs.lemmas.List.{map-append}
use Rattle.lsv_machine.specs.Recovery.{Turn}
use Rattle.lsv_turn.specs.Turns.{LaneTurn, all_taped, taped}
use Rattle.lsv_lane.specs.Store.{AreTurns, IsTurn}

pub all_last : {A : Type 0} (P : A → Type 0) (xs : List A) (x : A) → AllByRecursion P xs → P x → AllByRecursion P (xs ++ x ∷ [])
all_last P [] x all is = (is, tt)
all_last P (y ∷ xs) x all is = (all.0, all_last P xs x all.1 is)

pub are_turns_last : (lane : List LaneTurn) (turns : List Turn) (t : LaneTurn) (turn : Turn) → AreTurns lane turns → IsTurn t turn → AreTurns (lane ++ t ∷ []) (turns ++ turn ∷ [])
are_turns_last [] [] t turn are is = (is, tt)
are_turns_last [] (u ∷ turns) t turn are is = absurd are
are_turns_last (s ∷ lane) [] t turn are is = absurd are
are_turns_last (s ∷ lane) (u ∷ turns) t turn are is = (are.0, are_turns_last lane turns t turn are.1 is)

pub taped_last : (turns : List LaneTurn) (t : LaneTurn) → all_taped (turns ++ t ∷ []) ≡ all_taped turns ++ taped t ∷ []
taped_last turns t = map-append taped turns (t ∷ [])
