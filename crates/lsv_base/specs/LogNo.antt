-- Log numbers as six digits in base 36, which name the folders of the logs.
use Rattle.std.specs.Prelude.{ℕ, ◌+◌, ◌-◌, ◌*◌, ◌/◌, ◌%◌, ◌≤◌, ◌≡◌, ◌⊎◌, List, [], ◌∷◌, length, All, fold, Option, Some, None, Bool, ◌&&◌, ◌||◌, ◌==◌, nat_lt, nat_le, if◌then◌else◌}
use Rattle.std.specs.List.{list_all}

-- the byte of a digit below 36: 0 to 9, then A to Z
abbrev pub digit_byte : ℕ → ℕ
digit_byte digit = if nat_lt digit 10 then 48 + digit else 55 + digit

-- a byte from 0 to 9 or from A to Z
abbrev pub IsDigit : ℕ → Type 0
IsDigit byte = ((48 ≤ byte) × (byte ≤ 57)) ⊎ ((65 ≤ byte) × (byte ≤ 90))

-- the digit that such a byte stands for
abbrev pub digit_value : ℕ → ℕ
digit_value byte = if nat_lt byte 65 then byte - 48 else byte - 55

-- the six digits of a number, the most significant first: the remainders by 36 of its quotients by 36 ^ 5 down to 1
abbrev pub digits_of : ℕ → List ℕ
digits_of n =
    digit_byte (n / 60466176 % 36) ∷ digit_byte (n / 1679616 % 36) ∷ digit_byte (n / 46656 % 36) ∷ digit_byte (n / 1296 % 36) ∷ digit_byte (n / 36 % 36) ∷ digit_byte (n % 36) ∷ []

-- the number that digits in base 36 stand for, the most significant first
abbrev pub number_of : List ℕ → ℕ
number_of = fold (λ n byte. 36 * n + digit_value byte) 0

-- the six digits of a number other than 0
pub record IsLogText (text : List ℕ) : Type 0 where
  pub six : length text ≡ 6
  pub digits : All IsDigit text
  pub counted : 1 ≤ number_of text

-- whether a byte is a digit
abbrev pub is_digit : ℕ → Bool
is_digit byte = (nat_le 48 byte && nat_le byte 57) || (nat_le 65 byte && nat_le byte 90)

-- the log number of which a text is the six digits, where it is that of one
abbrev pub log_no_in : List ℕ → Option ℕ
log_no_in text = if (length text == 6) && list_all is_digit text && nat_le 1 (number_of text) then Some (number_of text) else None
