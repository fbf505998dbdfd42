-- The day of a number of days, and the date that jiff writes.
use Rattle.std.proofs.Common.{◌≡◌, ℕ, zero, suc, ◌+◌, ◌*◌, ◌/◌, ◌%◌, ◌<◌, ◌≤◌, ◌⊎◌, inl, inr, ℤ, pos, negsuc, List, [], ◌∷◌, ◌++◌, Bool, true, false, refl, sym, ap, ◌∙◌, arith, Option, None, ◌+ℤ◌, ◌*ℤ◌, ◌-ℤ◌}
use Rattle.std.specs.Prelude.{nat_lt, if◌then◌else◌, ◌&&◌, ◌^◌, IsSome, Some, unsigned_abs}
use Rattle.std.specs.Int.{IsInRange}
use Rattle.std.proofs.lemmas.Bool.{cases_lt, lt-ltb, le-ltb, ltb-true, and_parts, false≢true}
use Rattle.jiff_core.specs.Calendar.{days_in_month, days_of_years, days_from_civil, day_count}
use Rattle.jiff_core.specs.Date.{epoch_day}
use Rattle.jiff_core.specs.declared.civil.date.Date.{Date}
use Rattle.jiff_core.specs.declared.civil.datetime.DateTime.{DateTime}
use Rattle.jiff_core.specs.declared.civil.time.Time.{Time}
use Rattle.jiff_core.specs.DateTime.{civil_nanos}
use Rattle.jiff_core.specs.Time.{time_nanos}
use Rattle.jiff_core.proofs.SignedLemmas.{signed_arith}
use Rattle.jiff_core.proofs.CalendarLemmas.{days_from_civil-day_count, days_in_month_bounds, days_in_year_bounds}
use Rattle.jiff_core.proofs.DateLemmas.{epoch_day_injective, days_from_civil-day, days_from_civil-next_month, days_from_civil-next_year}
use Rattle.jiff_core.proofs.DateTimeLemmas.{civil_nanos-parts, time_nanos_bound}
use Rattle.jiff_fmt.specs.Text.{datetime_text, pad2, zulu_text}
use Rattle.jiff_fmt.specs.Printer.{options, IsTimestampText}
use Rattle.jiff_fmt.specs.declared.temporal.printer.DateTimePrinter.{DateTimePrinter}
use Rattle.jiff_core.specs.declared.timestamp.Timestamp.{Timestamp}
use Rattle.lsv_base.specs.Time.{nanos_of, nanos_of_parts}
use Rattle.lsv_base.specs.declared.time.TimeSpec.{TimeSpec}
use Rattle.lsv_event.specs.Dates.{Day, day_after, day_of, day_text, clock_text, date_of, date_text}

-- a day of the calendar, of which this many have passed since 1970 began
record IsDay (n : ℕ) (d : Day) : Type 0 where
  month : IsInRange 1 12 d.month
  day : IsInRange 1 (days_in_month (pos d.year) d.month) d.day
  counted : days_from_civil (pos d.year) d.month d.day ≡ pos n

-- the next day of the month, the first of the next one, and the first of the next year
same_month : (n : ℕ) (d : Day) → IsDay n d → d.day < days_in_month (pos d.year) d.month → IsDay (suc n) (record { year = d.year; month = d.month; day = d.day + 1 })
same_month n d is more = record {
  month = is.month;
  day = omega (arith, is.day);
  counted = omega (arith, signed_arith, is.counted, days_from_civil-day (pos d.year) d.month d.day (d.day + 1) is.day.0 (omega arith));
}

next_month : (n : ℕ) (d : Day) → IsDay n d → days_in_month (pos d.year) d.month ≤ d.day → d.month < 12 → IsDay (suc n) (record { year = d.year; month = d.month + 1; day = 1 })
next_month n d is last more = record {
  month = omega (arith, is.month);
  day = omega (arith, days_in_month_bounds (pos d.year) (d.month + 1));
  counted = days_from_civil-next_month (pos d.year) d.month d.day is.month.0 (omega (arith, is.day)) ∙ (ap (λ (z : ℤ). z +ℤ pos 1) is.counted ∙ omega (arith, signed_arith));
}

next_year : (n : ℕ) (d : Day) → IsDay n d → days_in_month (pos d.year) d.month ≤ d.day → 12 ≤ d.month → IsDay (suc n) (record { year = d.year + 1; month = 1; day = 1 })
next_year n d is last more =
    let december : d.month ≡ 12 = omega (arith, is.month) in
    let end : d.day ≡ 31 = omega (arith, is.day, ap (days_in_month (pos d.year)) december) in
    record {
      month = omega arith;
      day = omega (arith, days_in_month_bounds (pos (d.year + 1)) 1);
      counted = days_from_civil-next_year (pos d.year) (pos (d.year + 1)) (omega (arith, signed_arith)) (omega (arith, signed_arith))
          ∙ (ap (λ (z : ℤ). z +ℤ pos 1) (sym (ap (λ (m : ℕ). days_from_civil (pos d.year) m 31) december) ∙ (sym (ap (days_from_civil (pos d.year) d.month) end) ∙ is.counted)) ∙ omega (arith, signed_arith));
    }

next_day : (n : ℕ) (d : Day) → IsDay n d → IsDay (suc n) (day_after d)
next_day n d is = by_day (cases_lt d.day (days_in_month (pos d.year) d.month))
  where
    by_month : days_in_month (pos d.year) d.month ≤ d.day → (d.month < 12) ⊎ (12 ≤ d.month) → IsDay (suc n) (day_after d)
    by_month last (inl more) = rw (le-ltb _ _ last, lt-ltb _ _ more) (next_month n d is last more)
    by_month last (inr more) = rw (le-ltb _ _ last, le-ltb _ _ more) (next_year n d is last more)

    by_day : (d.day < days_in_month (pos d.year) d.month) ⊎ (days_in_month (pos d.year) d.month ≤ d.day) → IsDay (suc n) (day_after d)
    by_day (inl more) = rw (lt-ltb _ _ more) (same_month n d is more)
    by_day (inr last) = by_month last (cases_lt d.month 12)

is_day : (n : ℕ) → IsDay n (day_of n)
unfolding day_of days_from_civil
is_day zero = record { month = omega arith; day = omega arith; counted = omega (arith, signed_arith) }
is_day (suc n) = next_day n (day_of n) (is_day n)

-- this many years have at least 365 days each
many_days : (n : ℕ) → 365 * n ≤ days_of_years n
unfolding days_of_years
many_days zero = omega arith
many_days (suc n) = omega (arith, many_days n, days_in_year_bounds (pos n -ℤ pos 10000))

year_bound : (n : ℕ) (d : Day) → IsDay n d → n ≤ 106752 → d.year ≤ 9999
unfolding day_count
year_bound n d is few =
    let at : days_of_years (d.year + 10000) ≤ day_count (pos d.year) d.month d.day = omega (arith, signed_arith) in
    omega (arith, signed_arith, is.counted, days_from_civil-day_count (pos d.year) d.month d.day, many_days (d.year + 10000))

-- the day of jiff's calendar with this number is ours
pub date_is : (n : ℕ) (date : Date) → epoch_day date ≡ pos n → n ≤ 106752 → (date.year ≡ pos (day_of n).year) × (date.month ≡ (day_of n).month) × (date.day ≡ (day_of n).day)
date_is n date at few =
    let is : IsDay n (day_of n) = is_day n in
    let early : (day_of n).year ≤ 9999 = year_bound n (day_of n) is few in
    let ours : Date = record { year = pos (day_of n).year; month = (day_of n).month; day = (day_of n).day; year_in = omega (arith, signed_arith); month_in = is.month; day_in = is.day } in
    epoch_day_injective date ours (at ∙ sym is.counted)

-- the time of day this many seconds after midnight
clock_is : (t : Time) (seconds : ℕ) → time_nanos t ≡ seconds * 1000000000 → seconds < 86400 → (t.hour ≡ seconds / 3600) × (t.minute ≡ seconds / 60 % 60) × (t.second ≡ seconds % 60) × (t.subsec_nanosecond ≡ 0)
clock_is t seconds e few = omega arith

-- what a clock in UTC shows this many seconds after the start of 1970
whole_days : (seconds : ℕ) (dt : DateTime) → civil_nanos dt ≡ pos seconds *ℤ pos 1000000000 → (epoch_day dt.date ≡ pos (seconds / 86400)) × (time_nanos dt.time ≡ seconds % 86400 * 1000000000)
whole_days seconds dt e = omega (arith, signed_arith, civil_nanos-parts dt, time_nanos_bound dt.time)

-- two digits in jiff's way
same_digits : (d : Day) (seconds : ℕ) → d.year ≤ 9999 → d.month ≤ 12 → d.day ≤ 31 → seconds < 86400
    → ((pad2 (d.year / 100) ++ pad2 (d.year % 100)) ++ 45 ∷ pad2 d.month ++ 45 ∷ pad2 d.day) ++ 84 ∷ (pad2 (seconds / 3600) ++ 58 ∷ pad2 (seconds / 60 % 60) ++ 58 ∷ pad2 (seconds % 60)) ++ 90 ∷ []
    ≡ day_text d ++ 84 ∷ clock_text seconds ++ 90 ∷ []
same_digits d seconds year month day few =
    let e1 : d.year / 100 / 10 % 10 ≡ d.year / 100 / 10 = omega arith in
    let e2 : d.year / 10 % 10 ≡ d.year % 100 / 10 = omega arith in
    let e3 : d.year % 10 ≡ d.year % 100 % 10 = omega arith in
    let e4 : d.month / 10 % 10 ≡ d.month / 10 = omega arith in
    let e5 : d.day / 10 % 10 ≡ d.day / 10 = omega arith in
    let e6 : seconds / 3600 / 10 % 10 ≡ seconds / 3600 / 10 = omega arith in
    let e7 : seconds / 60 % 60 / 10 % 10 ≡ seconds / 60 % 60 / 10 = omega arith in
    let e8 : seconds % 60 / 10 % 10 ≡ seconds % 60 / 10 = omega arith in
    rw (e1, e2, e3, e4, e5, e6, e7, e8) refl

-- what jiff writes of these parts
pub text_is : (seconds : ℕ) (dt : DateTime) → civil_nanos dt ≡ pos seconds *ℤ pos 1000000000 → seconds < 9223372037 → datetime_text false 84 None dt ++ 90 ∷ [] ≡ date_text seconds
text_is seconds dt e few =
    let parts : (epoch_day dt.date ≡ pos (seconds / 86400)) × (time_nanos dt.time ≡ seconds % 86400 * 1000000000) = whole_days seconds dt e in
    let date : (dt.date.year ≡ pos (day_of (seconds / 86400)).year) × (dt.date.month ≡ (day_of (seconds / 86400)).month) × (dt.date.day ≡ (day_of (seconds / 86400)).day) = date_is (seconds / 86400) dt.date parts.0 (omega arith) in
    let clock : (dt.time.hour ≡ seconds % 86400 / 3600) × (dt.time.minute ≡ seconds % 86400 / 60 % 60) × (dt.time.second ≡ seconds % 86400 % 60) × (dt.time.subsec_nanosecond ≡ 0) = clock_is dt.time (seconds % 86400) parts.1 (omega arith) in
    let known : IsDay (seconds / 86400) (day_of (seconds / 86400)) = is_day (seconds / 86400) in
    let early : (day_of (seconds / 86400)).year ≤ 9999 = year_bound (seconds / 86400) (day_of (seconds / 86400)) known (omega arith) in
    let short : (day_of (seconds / 86400)).day ≤ 31 = omega (arith, known.day, days_in_month_bounds (pos (day_of (seconds / 86400)).year) (day_of (seconds / 86400)).month) in
    rw (date.0, date.1, date.2, clock.0, clock.1, clock.2, clock.3) (same_digits (day_of (seconds / 86400)) (seconds % 86400) early known.month.1 short (omega arith))

valid_seconds : (sec nsec : ℤ) → IsSome (nanos_of_parts sec nsec) → (k : ℕ) × (sec ≡ pos k) × (k < 9223372037)
valid_seconds (pos k) (pos n) some = (k, refl, by_test (nat_lt n 1000000000 && nat_lt (k * 1000000000 + n) (2 ^ 63)) refl some)
  where
    by_test : (b : Bool) → (nat_lt n 1000000000 && nat_lt (k * 1000000000 + n) (2 ^ 63)) ≡ b → IsSome (if b then Some (k * 1000000000 + n) else None) → k < 9223372037
    by_test true e some = omega (arith, ltb-true (k * 1000000000 + n) (2 ^ 63) (and_parts (nat_lt n 1000000000) (nat_lt (k * 1000000000 + n) (2 ^ 63)) e).1)
    by_test false e some = absurd (false≢true some)
valid_seconds (pos k) (negsuc n) some = absurd (false≢true some)
valid_seconds (negsuc k) n some = absurd (false≢true some)

-- what jiff writes of a valid time
pub date_written : (p : DateTimePrinter) (t : Timestamp) (text : List ℕ) (time : TimeSpec) → options p ≡ (false, 84, None) → t.nanosecond ≡ time.sec *ℤ pos 1000000000 → IsSome (nanos_of time) → IsTimestampText p t text → text ≡ date_of time
date_written p t text time set at valid (dt, shows, is) = go (valid_seconds time.sec time.nsec valid)
  where
    go : (k : ℕ) × (time.sec ≡ pos k) × (k < 9223372037) → text ≡ date_of time
    go (k, e, few) =
        is ∙ (ap (λ (o : Bool × ℕ × Option ℕ). datetime_text o.0 o.1 o.2 dt ++ zulu_text o.0) set
        ∙ (text_is k dt (shows ∙ (at ∙ ap (λ (z : ℤ). z *ℤ pos 1000000000) e)) few ∙ ap (λ (z : ℤ). date_text (unsigned_abs z)) (sym e)))
