-- Dates of searches: YYYY-MM-DDTHH:MM:SSZ, from 1970 to 2261, and the moments that they name.
use Rattle.std.specs.Prelude.{ℕ, pos, unsigned_abs, ◌+◌, ◌*◌, ◌-◌, List, map, slice_index_or, Option, Some, None, Bool, ◌&&◌, nat_le, if◌then◌else◌, codes}
use Rattle.std.specs.Char.{is_ascii_digit}
use Rattle.std.specs.Str.{bytes_eq}
use Rattle.jiff_core.specs.Calendar.{days_in_month, days_from_civil}

-- a byte, with 0 for each digit
abbrev pub blurred : ℕ → ℕ
blurred byte = if is_ascii_digit byte then 48 else byte

-- a text in the form of a date
abbrev pub is_form : List ℕ → Bool
is_form text = bytes_eq (map blurred text) (codes "0000-00-00T00:00:00Z")

-- the number of the two digits from that place on
abbrev pub two_at : List ℕ → ℕ → ℕ
two_at text at = (slice_index_or text at 48 - 48) * 10 + (slice_index_or text (at + 1) 48 - 48)

abbrev pub year_in : List ℕ → ℕ
year_in text = two_at text 0 * 100 + two_at text 2

-- a day of the calendar in these years
abbrev pub is_day : ℕ → ℕ → ℕ → Bool
is_day year month day =
    nat_le 1970 year && nat_le year 2261 && nat_le 1 month && nat_le month 12 && nat_le 1 day && nat_le day (days_in_month (pos year) month)

-- the days from the start of 1970 to a day
abbrev pub days_to : ℕ → ℕ → ℕ → ℕ
days_to year month day = unsigned_abs (days_from_civil (pos year) month day)

abbrev pub has_day : List ℕ → Bool
has_day text = is_day (year_in text) (two_at text 5) (two_at text 8)

-- a time of day
abbrev pub has_clock : List ℕ → Bool
has_clock text = nat_le (two_at text 11) 23 && nat_le (two_at text 14) 59 && nat_le (two_at text 17) 59

-- the seconds from the start of 1970 to the date's moment
abbrev pub seconds_of : List ℕ → ℕ
seconds_of text =
    days_to (year_in text) (two_at text 5) (two_at text 8) * 86400 + two_at text 11 * 3600 + two_at text 14 * 60 + two_at text 17

-- the moment that a text names, if it is a date
unfoldable pub date_in : List ℕ → Option ℕ
date_in text = if is_form text && has_day text && has_clock text then Some (seconds_of text) else None
