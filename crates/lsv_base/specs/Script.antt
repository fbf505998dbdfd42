-- How the fallible calls of an object in memory go.
use Rattle.std.specs.Prelude.{ℕ, ◌+◌, ◌-◌, ◌^◌, min, List, Contains}
use Rattle.lsv_base.specs.declared.script.Script.{Script}

-- one more, where a count stands still at its type's end
abbrev pub one_more : ℕ → ℕ
one_more n = min (n + 1) (2 ^ 64 - 1)

-- the next call's number is one of those that fail
abbrev pub IsListed : Script → Type 0
IsListed s = Contains s.fail (one_more s.calls)

-- the script before the first call
abbrev pub script_of : List ℕ → Script
script_of fail = record { fail = fail; calls = 0; faults = 0; refused = 0 }

-- the script after a call that was answered
abbrev pub answered : Script → Script
answered s = record s { calls = one_more s.calls }

-- the script after a call that is one of those that fail
abbrev pub failed : Script → Script
failed s = record s { calls = one_more s.calls; faults = one_more s.faults }

-- the script after a call to which memory was refused
abbrev pub unserved : Script → Script
unserved s = record s { calls = one_more s.calls; faults = one_more s.faults; refused = one_more s.refused }
