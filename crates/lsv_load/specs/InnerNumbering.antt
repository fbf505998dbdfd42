-- For proofs of a lane that notes numbers: what its turns have made so far.
use Rattle.std.specs.Prelude.{◌≡◌, ℕ, Bool, false, List}
use Rattle.lsv_turn.specs.Turns.{LaneTurn, replies_in}
use Rattle.lsv_load.specs.Numbers.{numbers_told}

-- the turns made the lane, and unless one is lacking these are the numbers of which they told
pub record IsNoting {L S : Type 0} (made_by : S → L → List LaneTurn → Type 0) (start : S) (lane : L) (numbers : List ℕ) (is_lacking : Bool) (turns : List LaneTurn) : Type 0 where
  pub made : made_by start lane turns
  pub noted : is_lacking ≡ false → numbers ≡ numbers_told (replies_in turns)
