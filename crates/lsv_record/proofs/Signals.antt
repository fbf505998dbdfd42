-- The tests of records, beside what they test.
use Rattle.std.proofs.Common.{◌<◌, ◌≤◌, ◌^◌, ℕ, List, length, All, Bool, nat_lt, nat_le, arith, refl}
use Rattle.std.specs.Bool.{Decides}
use Rattle.std.specs.Prelude.{◌&&◌}
use Rattle.std.specs.List.{list_all}
use Rattle.std.proofs.lemmas.Bool.Decides.{nat_tests, Decides-and, Decides-like, Decides-by_and}
use Rattle.lsv_record.specs.declared.records.Record.{Record}
use Rattle.lsv_record.specs.declared.records.Record.TheVariants.{Io, Winsize, Suspend}
use Rattle.lsv_record.specs.Records.{IsSignal, IsValid, is_signal, is_valid}

le_tested : (a b : ℕ) → Decides (nat_le a b) (a ≤ b)
le_tested a b = (λ h. grind (arith, nat_tests), λ h. grind (arith, nat_tests))

lt_tested : (a b : ℕ) → Decides (nat_lt a b) (a < b)
lt_tested a b = (λ h. grind (arith, nat_tests), λ h. grind (arith, nat_tests))

abbrev visible : ℕ → Bool
visible byte = nat_le 33 byte && nat_le byte 126

visible_tested : (byte : ℕ) → Decides (visible byte) ((33 ≤ byte) × (byte ≤ 126))
visible_tested byte = Decides-and (nat_le 33 byte) (nat_le byte 126) (le_tested 33 byte) (le_tested byte 126)

all_visible : (text : List ℕ) → Decides (list_all visible text) (All (λ byte. (33 ≤ byte) × (byte ≤ 126)) text)
all_visible text = Decides-by_and visible (λ byte. (33 ≤ byte) × (byte ≤ 126)) (list_all visible) visible_tested refl (λ _ _. refl) text

abbrev lengths : List ℕ → Bool
lengths text = nat_le 1 (length text) && nat_le (length text) 32

pub signal_tested : (text : List ℕ) → Decides (is_signal text) (IsSignal text)
signal_tested text =
    Decides-like (is_signal text) (λ p. record { some = p.0.0; few = p.0.1; visible = p.1 }) (λ s. ((s.some, s.few), s.visible))
    (Decides-and (lengths text) (list_all visible text) (Decides-and (nat_le 1 (length text)) (nat_le (length text) 32) (le_tested 1 (length text)) (le_tested (length text) 32)) (all_visible text))

pub valid_tested : (r : Record) → Decides (is_valid r) (IsValid r)
valid_tested (Io d s b) = Decides-and (nat_lt d (2 ^ 63)) (nat_le (length b) 2097152) (lt_tested d (2 ^ 63)) (le_tested (length b) 2097152)
valid_tested (Winsize d r c) =
    Decides-like (is_valid (Winsize d r c)) (λ p. (p.0.0, p.0.1, p.1)) (λ v. ((v.0, v.1), v.2))
    (Decides-and (nat_lt d (2 ^ 63) && nat_lt r (2 ^ 31)) (nat_lt c (2 ^ 31)) (Decides-and (nat_lt d (2 ^ 63)) (nat_lt r (2 ^ 31)) (lt_tested d (2 ^ 63)) (lt_tested r (2 ^ 31))) (lt_tested c (2 ^ 31)))
valid_tested (Suspend d s) = Decides-and (nat_lt d (2 ^ 63)) (is_signal s) (lt_tested d (2 ^ 63)) (signal_tested s)
