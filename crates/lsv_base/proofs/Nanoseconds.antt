-- A number of nanoseconds is one time's value.
use Rattle.std.proofs.Common.{◌≡◌, ℕ, ℤ, pos, negsuc, ◌+◌, ◌*◌, ◌/◌, ◌%◌, ◌^◌, ◌<◌, Bool, true, false, cond, ltb, Some, None, refl, ap, ◌∙◌, arith}
use Rattle.std.specs.Prelude.{◌&&◌}
use Rattle.std.proofs.lemmas.Bool.{lt-ltb, ltb-true, and_from, and_parts, cond-true}
use Rattle.lsv_base.specs.declared.time.TimeSpec.{TimeSpec}
use Rattle.lsv_base.specs.Time.{nanos_of_parts, nanos_of, time_of}

abbrev is_time : ℕ → ℕ → Bool
is_time sec nsec = ltb nsec 1000000000 && ltb (sec * 1000000000 + nsec) (2 ^ 63)

pub value_told : (n : ℕ) → n < 2 ^ 63 → nanos_of (time_of n) ≡ Some n
value_told n below =
    let sec : ℕ = n / 1000000000 in
    let nsec : ℕ = n % 1000000000 in
    let whole : sec * 1000000000 + nsec ≡ n = omega arith in
    let small : nsec < 1000000000 = omega arith in
    let fits : sec * 1000000000 + nsec < 2 ^ 63 = omega arith in
    cond-true (is_time sec nsec) (Some (sec * 1000000000 + nsec)) None (and_from _ _ (lt-ltb nsec 1000000000 small) (lt-ltb (sec * 1000000000 + nsec) (2 ^ 63) fits)) ∙ ap (λ m. Some m) whole

-- what is checked was within its bounds
record Checked (sec nsec n : ℕ) : Type 0 where
  whole : sec * 1000000000 + nsec ≡ n
  small : nsec < 1000000000
  fits : n < 2 ^ 63

checked_by : (sec nsec n : ℕ) (b : Bool) → is_time sec nsec ≡ b → cond b (Some (sec * 1000000000 + nsec)) None ≡ Some n → Checked sec nsec n
checked_by sec nsec n true t e =
    let both = and_parts (ltb nsec 1000000000) (ltb (sec * 1000000000 + nsec) (2 ^ 63)) t in
    let whole : sec * 1000000000 + nsec ≡ n = cc in
    let below : sec * 1000000000 + nsec < 2 ^ 63 = ltb-true (sec * 1000000000 + nsec) (2 ^ 63) both.1 in
    record { whole = whole; small = ltb-true nsec 1000000000 both.0; fits = omega (arith, whole, below) }
checked_by sec nsec n false t e = absurd cc

parts : (sec nsec n : ℕ) → Checked sec nsec n → time_of n ≡ record { sec = pos sec; nsec = pos nsec }
parts sec nsec n c =
    let high : n / 1000000000 ≡ sec = omega (arith, c.whole, c.small) in
    let low : n % 1000000000 ≡ nsec = omega (arith, c.whole, c.small) in
    rw (high, low) refl

told : (sec nsec : ℤ) (n : ℕ) → nanos_of_parts sec nsec ≡ Some n → (time_of n ≡ record { sec = sec; nsec = nsec }) × (n < 2 ^ 63)
told (pos sec) (pos nsec) n e =
    let c = checked_by sec nsec n (is_time sec nsec) refl e in (parts sec nsec n c, c.fits)
told (pos sec) (negsuc nsec) n e = absurd cc
told (negsuc sec) nsec n e = absurd cc

pub time_told : (time : TimeSpec) (n : ℕ) → nanos_of time ≡ Some n → (time_of n ≡ time) × (n < 2 ^ 63)
time_told time n e = told time.sec time.nsec n e
