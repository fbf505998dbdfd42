-- Times as sudo_logsrv.proto(5) has them: seconds and nanoseconds, each with a sign.
use Rattle.std.specs.Prelude.{ℕ, ℤ, pos, ◌+◌, ◌*◌, ◌/◌, ◌%◌, ◌^◌, Option, Some, None, ◌&&◌, nat_lt, if◌then◌else◌}
use Rattle.lsv_base.specs.declared.time.TimeSpec.{TimeSpec}

-- the nanoseconds of this many seconds and nanoseconds, where these are below 10 ^ 9 and all of it below 2 ^ 63
abbrev pub checked_nanos : ℕ → ℕ → Option ℕ
checked_nanos sec nsec = if nat_lt nsec 1000000000 && nat_lt (sec * 1000000000 + nsec) (2 ^ 63) then Some (sec * 1000000000 + nsec) else None

-- the value of the two parts, in nanoseconds: there is none where one of them is negative
abbrev pub nanos_of_parts : ℤ → ℤ → Option ℕ
nanos_of_parts (pos sec) (pos nsec) = checked_nanos sec nsec
nanos_of_parts _ _ = None

-- the value of a time in nanoseconds, where it is a valid time
abbrev pub nanos_of : TimeSpec → Option ℕ
nanos_of t = nanos_of_parts t.sec t.nsec

-- this many nanoseconds as a time, its second part below 10 ^ 9
abbrev pub time_of : ℕ → TimeSpec
time_of nanos = record { sec = pos (nanos / 1000000000); nsec = pos (nanos % 1000000000) }
