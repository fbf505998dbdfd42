-- Numbers of the command line: digits, and optionally a point with one to nine digits.
use Rattle.std.specs.Prelude.{ℕ, ◌+◌, ◌*◌, ◌-◌, ◌^◌, List, length, Option, Some, None, Bool, not, ◌&&◌, nat_le, nat_lt, if◌then◌else◌}
use Rattle.std.specs.Option.{option_and_then}
use Rattle.std.specs.Str.{all_ascii_digits}
use Rattle.std.specs.Str.Parse.{digits_value}
use Rattle.lsv_replay_args.specs.Texts.{before, behind, is_empty}

-- one digit or more, and nothing else
abbrev pub is_digits : List ℕ → Bool
is_digits text = not (is_empty text) && all_ascii_digits text

-- the number below 2 ^ 64 that digits alone are
abbrev pub digits_in : List ℕ → Option ℕ
digits_in digits = if is_digits digits && nat_lt (digits_value 10 digits) (2 ^ 64) then Some (digits_value 10 digits) else None

-- the billionths that one to nine digits after a point are
abbrev pub fraction_in : List ℕ → Option ℕ
fraction_in digits = if is_digits digits && nat_le (length digits) 9 then Some (digits_value 10 digits * 10 ^ (9 - length digits)) else None

-- the billionths after a point, none if there is no point
abbrev pub fraction_of : Option (List ℕ) → Option ℕ
fraction_of None = Some 0
fraction_of (Some digits) = fraction_in digits

-- a number below 2 ^ 63
abbrev pub if_small : ℕ → Option ℕ
if_small n = if nat_lt n (2 ^ 63) then Some n else None

-- a number in billionths, if it is one and is below 2 ^ 63 billionths
abbrev pub billionths : List ℕ → Option ℕ
billionths text =
    option_and_then (λ whole. option_and_then (λ fraction. if_small (whole * 1000000000 + fraction)) (fraction_of (behind 46 text))) (digits_in (before 46 text))
