-- What is shown of a log's records: before each its wait, and then its bytes, if they are asked for.
use Rattle.std.specs.Prelude.{ℕ, ◌*◌, ◌/◌, ◌-◌, ◌^◌, min, get_or, Bool, false, not, ◌&&◌, if◌then◌else◌, List, [], ◌∷◌, Option, Some, None, codes}
use Rattle.std.specs.List.{flat_map}
use Rattle.std.specs.Str.{bytes_eq}
use Rattle.lsv_record.specs.declared.records.Record.{Record}
use Rattle.lsv_record.specs.declared.records.Record.TheVariants.{Io, Winsize, Suspend}
use Rattle.lsv_record.specs.declared.records.Stream.{Stream}
use Rattle.lsv_record.specs.Records.{delay_of, event_of}
use Rattle.lsv_play.specs.declared.options.Options.{Options}
use Rattle.lsv_play.specs.declared.screen.Item.{Item}
use Rattle.lsv_play.specs.declared.screen.Item.TheVariants.{Wait, Put}

-- the record ends a suspension, so that its delay is the time during which the command was suspended
abbrev pub resumes : Record → Bool
resumes (Io delay stream bytes) = false
resumes (Winsize delay rows cols) = false
resumes (Suspend delay signal) = bytes_eq signal (codes "CONT")

-- no more than the longest wait, if there is one
abbrev pub at_most : Option ℕ → ℕ → ℕ
at_most None nanos = nanos
at_most (Some longest) nanos = min nanos longest

-- a delay at the options' speed, rounded down, no longer than the longest wait, and below 2 ^ 63 ns
abbrev pub scaled : Options → ℕ → ℕ
scaled o delay = min (at_most o.longest (delay * 1000000000 / o.speed)) (2 ^ 63 - 1)

-- how long is waited for a delay; a time of suspension is skipped, unless it is asked for
abbrev pub wait_of : Options → ℕ → Bool → ℕ
wait_of o delay resumes = if resumes && not o.suspended then 0 else scaled o delay

-- the bytes of this stream are shown
abbrev pub is_selected : Options → Stream → Bool
is_selected o stream = get_or o.streams (event_of stream) false

-- bytes are put if there are any
abbrev pub put_of : List ℕ → List Item
put_of [] = []
put_of (byte ∷ bytes) = Put (byte ∷ bytes) ∷ []

-- the bytes that are shown of a record
abbrev pub bytes_shown : Options → Record → List Item
bytes_shown o (Io delay stream bytes) = if is_selected o stream then put_of bytes else []
bytes_shown o (Winsize delay rows cols) = []
bytes_shown o (Suspend delay signal) = []

-- what is shown of a record: its wait, and then its bytes
abbrev pub items_of : Options → Record → List Item
items_of o r = Wait (wait_of o (delay_of r) (resumes r)) ∷ bytes_shown o r

-- the playback schedule: what is shown of these records, in order
abbrev pub play : Options → List Record → List Item
play o records = flat_map (items_of o) records
