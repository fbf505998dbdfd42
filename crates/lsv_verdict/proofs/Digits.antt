-- The last digits of a number.
use Rattle.std.proofs.Common.{◌≡◌, ℕ, zero, suc, ◌+◌, ◌-◌, ◌/◌, ◌%◌, ◌<◌, List, [], ◌∷◌, ◌++◌, sym, ap, append-nil, sub-one, arith}
use Rattle.lsv_record.specs.Records.{last_digits}

-- one digit more
pub digits_more : (k n : ℕ) → 0 < k → last_digits (k - 1) (n / 10) ++ (48 + n % 10) ∷ [] ≡ last_digits k n
unfolding last_digits
digits_more zero n some = absurd (omega arith)
digits_more (suc k) n some = ap (λ j. last_digits j (n / 10) ++ (48 + n % 10) ∷ []) (sub-one (suc k))

pub digits_none : (k n : ℕ) (line : List ℕ) → k ≡ 0 → line ≡ line ++ last_digits k n
unfolding last_digits
digits_none zero n line e = sym (append-nil line)
digits_none (suc k) n line e = absurd (omega arith)
