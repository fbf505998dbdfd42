use Rattle.std.proofs.Common.{◌≡◌, ℕ, List, [], ◌∷◌, refl, ap}
use Rattle.lsv_record.specs.declared.records.Record.{Record}
use Rattle.lsv_record.specs.declared.records.Record.TheVariants.{Io}
use Rattle.lsv_machine.specs.Durable.{IsPrefix}
use Rattle.lsv_machine.specs.Examples.{one_byte}
use Rattle.lsv_upstream.proofs.examples.a_log_that_others_go_on_with_is_not_held.Goals as goal

-- the byte of the second of these records
abbrev second_byte : List Record → List ℕ
second_byte (r ∷ Io delay stream bytes ∷ rs) = bytes
second_byte rs = []

abbrev nine : List ℕ
nine = 9 ∷ []

abbrev five : List ℕ
five = 5 ∷ []

no_prefix : IsPrefix (one_byte 5 ∷ one_byte 9 ∷ []) (one_byte 5 ∷ one_byte 5 ∷ []) → ⊥
no_prefix p = let e : nine ≡ five = ap second_byte p.is in cc

pub returns : goal.returns
returns c = record { held = refl; sent = refl; promised = refl; other = no_prefix }
