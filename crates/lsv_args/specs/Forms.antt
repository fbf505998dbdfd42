-- Options of a command, as they stand after it in any order.
use Rattle.std.specs.Prelude.{◌==◌, ◌&&◌, ℕ, List, [], ◌∷◌, Option, Some, None, Bool, true, false, not, is_some, codes, unwrap_or, option_and_then}
use Rattle.std.specs.List.{flat_map}
use Rattle.clap.specs.ValueTests.{accepts}
use Rattle.lsv_args.specs.Commands.{from_to, most_lanes, most_workers}
use Rattle.lsv_args.specs.Reading.{Options, number_in}

-- an option with its value
pub data Given : Type 0 where
  -- `-f FILE`
  File : List ℕ → Given
  -- `--lanes N`
  Lanes : List ℕ → Given
  -- `--workers N`
  Workers : List ℕ → Given
  -- `--stop-after N`
  StopAfter : List ℕ → Given

-- its words
abbrev pub words_of : Given → List (List ℕ)
words_of (File v) = codes "-f" ∷ v ∷ []
words_of (Lanes v) = codes "--lanes" ∷ v ∷ []
words_of (Workers v) = codes "--workers" ∷ v ∷ []
words_of (StopAfter v) = codes "--stop-after" ∷ v ∷ []

-- the words of all, in their order
abbrev pub words_in : List Given → List (List ℕ)
words_in given = flat_map words_of given

-- a value isn't empty and doesn't begin with a hyphen
abbrev pub is_value : List ℕ → Bool
is_value [] = false
is_value (b ∷ bytes) = not (b == 45)

-- the value of an option is one, and a number is within its range
abbrev pub is_good : Given → Bool
is_good (File v) = is_value v
is_good (Lanes v) = is_value v && accepts false (from_to 1 most_lanes) v
is_good (Workers v) = is_value v && accepts false (from_to 1 most_workers) v
is_good (StopAfter v) = is_value v && accepts false (from_to 1 4294967295) v

-- the value of each option, where it is given
abbrev pub file_in : List Given → Option (List ℕ)
file_in [] = None
file_in (File v ∷ more) = Some v
file_in (Lanes v ∷ more) = file_in more
file_in (Workers v ∷ more) = file_in more
file_in (StopAfter v ∷ more) = file_in more

abbrev pub lanes_in : List Given → Option (List ℕ)
lanes_in [] = None
lanes_in (File v ∷ more) = lanes_in more
lanes_in (Lanes v ∷ more) = Some v
lanes_in (Workers v ∷ more) = lanes_in more
lanes_in (StopAfter v ∷ more) = lanes_in more

abbrev pub workers_in : List Given → Option (List ℕ)
workers_in [] = None
workers_in (File v ∷ more) = workers_in more
workers_in (Lanes v ∷ more) = workers_in more
workers_in (Workers v ∷ more) = Some v
workers_in (StopAfter v ∷ more) = workers_in more

abbrev pub stop_after_in : List Given → Option (List ℕ)
stop_after_in [] = None
stop_after_in (File v ∷ more) = stop_after_in more
stop_after_in (Lanes v ∷ more) = stop_after_in more
stop_after_in (Workers v ∷ more) = stop_after_in more
stop_after_in (StopAfter v ∷ more) = Some v

-- whether the first of these is another option than all after it
abbrev pub is_other : Given → List Given → Bool
is_other (File v) more = not (is_some (file_in more))
is_other (Lanes v) more = not (is_some (lanes_in more))
is_other (Workers v) more = not (is_some (workers_in more))
is_other (StopAfter v) more = not (is_some (stop_after_in more))

-- each option stands at most once
abbrev pub is_once : List Given → Bool
is_once [] = true
is_once (g ∷ more) = is_other g more && is_once more

-- what a command is told by them, and by the defaults
abbrev pub told : List Given → Options
told given = record {
  conf = unwrap_or (file_in given) (codes "/etc/sudo_logsrvd.conf");
  lanes = unwrap_or (option_and_then number_in (lanes_in given)) 1;
  workers = unwrap_or (option_and_then number_in (workers_in given)) 4;
  stop_after = option_and_then number_in (stop_after_in given);
}

-- ---- `once`, `load`, `relay` and `check`

-- the words of `-f FILE`, where it is given
abbrev pub file_words : Option (List ℕ) → List (List ℕ)
file_words None = []
file_words (Some v) = codes "-f" ∷ v ∷ []

-- the file is a value, where it is given
abbrev pub is_file : Option (List ℕ) → Bool
is_file None = true
is_file (Some v) = is_value v

-- the N of `load` is a value, from 1 to 10,000
abbrev pub is_count : List ℕ → Bool
is_count n = is_value n && accepts false (from_to 1 10000) n

-- what a command is told by its settings file alone, and by the defaults
abbrev pub told_file : Option (List ℕ) → Options
told_file file = record { conf = unwrap_or file (codes "/etc/sudo_logsrvd.conf"); lanes = 1; workers = 4; stop_after = None }
