-- What is read of a head or an exit that was written: the same, as text shows it.
use Rattle.std.specs.Prelude.{ℕ, List, [], ◌∷◌, map, fold, FitsSigned, IsSome}
use Rattle.std.specs.Cmp.Lexicographic.{slice_cmp}
use Rattle.std.specs.Int.{w32}
use Rattle.std.specs.List.{AllByRecursion}
use Rattle.std.specs.List.Sorted.{IsStrictlySortedBy}
use Rattle.std.specs.Ordering.{nat_cmp, match_ordering}
use Rattle.std.specs.Str.Lossy.{utf8_lossy}
use Rattle.lsv_base.specs.Time.{nanos_of}
use Rattle.serde_json.specs.Data.{Members, no_members, member}
use Rattle.lsv_info.specs.declared.info.Entry.{Entry}
use Rattle.lsv_info.specs.declared.info.Value.{Value}
use Rattle.lsv_info.specs.declared.info.Value.TheVariants.{Num, Text, Texts, Nums}
use Rattle.lsv_info.specs.declared.times.Head.{Head}
use Rattle.lsv_info.specs.declared.times.Exit.{Exit}
use Rattle.lsv_info.specs.Fitting.{FitsEntry}

-- the value, its bytes as text: an empty list of numbers is one of texts
abbrev pub seen_value : Value → Value
seen_value (Num n) = Num n
seen_value (Text bytes) = Text (utf8_lossy bytes)
seen_value (Texts texts) = Texts (map utf8_lossy texts)
seen_value (Nums []) = Texts []
seen_value (Nums (n ∷ numbers)) = Nums (n ∷ numbers)

abbrev pub seen_entry : Entry → Entry
seen_entry entry = record { key = utf8_lossy entry.key; value = seen_value entry.value }

-- entries in byte order of their keys, with one more, in the place of what was there at its key
abbrev pub and_entry : List Entry → Entry → List Entry
and_entry [] entry = entry ∷ []
and_entry (first ∷ entries) entry = match_ordering (slice_cmp nat_cmp entry.key first.key) (entry ∷ first ∷ entries) (entry ∷ entries) (first ∷ and_entry entries entry)

-- the entries as text shows them, in byte order of their keys, each key once: the last entry of a key counts
abbrev pub seen_entries : List Entry → List Entry
seen_entries entries = fold and_entry [] (map seen_entry entries)

abbrev pub seen_head : Head → Head
seen_head head = record { submit = head.submit; info = record { entries = seen_entries head.info.entries } }

abbrev pub seen_exit : Exit → Exit
seen_exit exit = record { run = exit.run; value = exit.value; dumped = exit.dumped; signal = utf8_lossy exit.signal; error = utf8_lossy exit.error }

-- an entry, its key as text
abbrev pub keyed_as_shown : Entry → Entry
keyed_as_shown entry = record { key = utf8_lossy entry.key; value = entry.value }

-- keys in byte order, none of them twice
abbrev pub InByteOrder : List (List ℕ) → Type 0
InByteOrder keys = IsStrictlySortedBy (slice_cmp nat_cmp) keys

abbrev pub keys_in : Members → List (List ℕ)
keys_in no_members = []
keys_in (member key json later) = key ∷ keys_in later

-- a head with a valid time
abbrev pub IsTimedHead : Head → Type 0
IsTimedHead head = IsSome (nanos_of head.submit) × AllByRecursion FitsEntry head.info.entries

-- an exit with a valid time
abbrev pub IsTimedExit : Exit → Type 0
IsTimedExit exit = IsSome (nanos_of exit.run) × FitsSigned w32 exit.value
