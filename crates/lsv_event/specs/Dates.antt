-- The date of a moment in UTC (RFC 3339), by the Gregorian calendar.
use Rattle.std.specs.Prelude.{ℕ, zero, suc, ◌+◌, ◌/◌, ◌%◌, pos, List, [], ◌∷◌, ◌++◌, nat_lt, if◌then◌else◌, unsigned_abs}
use Rattle.jiff_core.specs.Calendar.{days_in_month}
use Rattle.lsv_base.specs.declared.time.TimeSpec.{TimeSpec}

-- a day of the calendar: its month from 1 to 12, and its day of that month from 1 on
pub record Day : Type 0 where
  pub year : ℕ
  pub month : ℕ
  pub day : ℕ

-- the day after a day
abbrev pub day_after : Day → Day
day_after d =
    if nat_lt d.day (days_in_month (pos d.year) d.month) then record { year = d.year; month = d.month; day = d.day + 1 }
    else (if nat_lt d.month 12 then record { year = d.year; month = d.month + 1; day = 1 }
    else record { year = d.year + 1; month = 1; day = 1 })

-- the day this many days after 1 January 1970
unfoldable pub day_of : ℕ → Day
day_of zero = record { year = 1970; month = 1; day = 1 }
day_of (suc n) = day_after (day_of n)

-- the last two digits of a number
abbrev pub two_digits : ℕ → List ℕ
two_digits n = (48 + n / 10 % 10) ∷ (48 + n % 10) ∷ []

-- a day as YYYY-MM-DD
abbrev pub day_text : Day → List ℕ
day_text d = two_digits (d.year / 100) ++ two_digits d.year ++ 45 ∷ two_digits d.month ++ 45 ∷ two_digits d.day

-- the time of day this many seconds after midnight, as HH:MM:SS
abbrev pub clock_text : ℕ → List ℕ
clock_text seconds = two_digits (seconds / 3600) ++ 58 ∷ two_digits (seconds / 60 % 60) ++ 58 ∷ two_digits (seconds % 60)

-- the date of the moment this many seconds after the start of 1970, as YYYY-MM-DDTHH:MM:SSZ
abbrev pub date_text : ℕ → List ℕ
date_text seconds = day_text (day_of (seconds / 86400)) ++ 84 ∷ clock_text (seconds % 86400) ++ 90 ∷ []

-- the date of a valid time, without the fraction of its second
abbrev pub date_of : TimeSpec → List ℕ
date_of time = date_text (unsigned_abs time.sec)
