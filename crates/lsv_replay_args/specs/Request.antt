-- What the words of the command line ask for.
use Rattle.std.specs.Prelude.{◌≡◌, ◌≢◌, ◌⊎◌, ◌==◌, ℕ, List, [], ◌∷◌, Option, Some, None, Bool, true, false, unwrap_or, option_map, codes, if◌then◌else◌}
use Prim.Native.String.{String}
use Rattle.std.specs.Option.{option_and_then, option_map_or}
use Rattle.std.specs.Str.{bytes_eq}
use Rattle.clap.specs.Faults.{fault_of}
use Rattle.clap.specs.Simple.{matches_of}
use Rattle.clap.specs.Walk.{Row, all_of, first_of}
use Rattle.lsv_replay_args.specs.Decimal.{billionths}
use Rattle.lsv_replay_args.specs.Program.{program}
use Rattle.lsv_replay_args.specs.Streams.{streams_in}

-- how a log is to be played: which streams are shown, the longest wait if there is one, the speed in billionths, and whether suspensions are waited
pub record Manner : Type 0 where
  pub streams : List Bool
  pub longest : Option ℕ
  pub speed : ℕ
  pub suspended : Bool

-- what is asked for: a folder, and there the log with this identifier, played or followed, or the logs that these words search for
pub data Asked : Type 0 where
  Play : List ℕ → Manner → List ℕ → Asked
  Follow : List ℕ → Manner → List ℕ → Asked
  Search : List ℕ → List (List ℕ) → Asked

-- an option without a value is among the words
abbrev pub is_set_text : List Row → List ℕ → Bool
is_set_text rows id = option_map_or (λ text. bytes_eq text (codes "true")) (first_of id rows) false

abbrev pub is_set : List Row → String → Bool
is_set rows id = is_set_text rows (codes id)

-- the streams that are shown: standard output and error and the terminal's output, if the words don't list others
abbrev pub streams_asked : Option (List ℕ) → Option (List Bool)
streams_asked None = Some (false ∷ true ∷ true ∷ false ∷ true ∷ [])
streams_asked (Some list) = streams_in list

-- the longest wait, if the words say one
abbrev pub longest_asked : Option (List ℕ) → Option (Option ℕ)
longest_asked None = Some None
longest_asked (Some text) = option_map (λ n. Some n) (billionths text)

-- a speed is not 0
abbrev pub if_some_speed : ℕ → Option ℕ
if_some_speed n = if n == 0 then None else Some n

-- the speed, as it was if the words don't say another
abbrev pub speed_asked : Option (List ℕ) → Option ℕ
speed_asked None = Some 1000000000
speed_asked (Some text) = option_and_then if_some_speed (billionths text)

-- how a log is to be played, if each value is in its form
abbrev pub manner_of : List Row → Option Manner
manner_of rows =
    option_and_then (λ streams. option_and_then (λ longest. option_map (λ speed. record {
      streams = streams;
      longest = longest;
      speed = speed;
      suspended = is_set rows "suspended";
    }) (speed_asked (first_of (codes "speed") rows))) (longest_asked (first_of (codes "longest") rows))) (streams_asked (first_of (codes "streams") rows))

-- the folder of the logs
abbrev pub dir_of : List Row → List ℕ
dir_of rows = unwrap_or (first_of (codes "dir") rows) (codes "/var/log/sudo-io")

-- the words that belong to no option
abbrev pub words_of : List Row → List (List ℕ)
words_of rows = unwrap_or (all_of (codes "words") rows) []

-- a log is shown by one identifier: it is followed with `-F`, else it is played
abbrev pub play_of : Bool → List ℕ → Manner → List (List ℕ) → Option Asked
play_of follows dir manner [] = None
play_of follows dir manner (id ∷ []) = Some (if follows then Follow dir manner id else Play dir manner id)
play_of follows dir manner (id ∷ other ∷ more) = None

-- a listing doesn't go with `-F`
abbrev pub search_of : Bool → List ℕ → List (List ℕ) → Option Asked
search_of follows dir words = if follows then None else Some (Search dir words)

-- what is asked for, if a log is to be shown in this manner
abbrev pub task_of : List Row → Manner → Option Asked
task_of rows manner = if is_set rows "list" then search_of (is_set rows "follow") (dir_of rows) (words_of rows) else play_of (is_set rows "follow") (dir_of rows) manner (words_of rows)

-- what is asked for, with these values of the options
abbrev pub asked_by : List Row → Option Asked
asked_by rows = option_and_then (task_of rows) (manner_of rows)

-- what words ask for that clap doesn't refuse
abbrev pub asked : List (List ℕ) → Option Asked
asked words = asked_by (matches_of program words)

-- words are refused: by clap, or because a value is out of its form, or `-l` stands with `-F`, or there isn't one identifier
abbrev pub IsRefused : List (List ℕ) → Type 0
IsRefused words = (fault_of program words ≢ []) ⊎ (asked words ≡ None)

-- the folder that is asked for
abbrev pub dir_asked : Asked → List ℕ
dir_asked (Play dir manner id) = dir
dir_asked (Follow dir manner id) = dir
dir_asked (Search dir words) = dir
