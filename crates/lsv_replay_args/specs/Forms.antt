-- Options and further words, as they stand in any order.
use Rattle.std.specs.Prelude.{◌≡◌, ◌==◌, ◌<◌, ◌^◌, ℕ, List, [], ◌∷◌, Option, Some, None, Bool, true, false, not, ◌&&◌, length, is_some, codes, unwrap_or, option_map, if◌then◌else◌}
use Rattle.std.specs.List.{flat_map, list_all}
use Rattle.std.specs.Option.{option_and_then}
use Rattle.lsv_replay_args.specs.Request.{Asked, Manner, longest_asked, play_of, search_of, speed_asked, streams_asked}

-- an option, or a further word
pub data Given : Type 0 where
  -- `-d DIR`
  Dir : List ℕ → Given
  -- `-f LIST`
  Streams : List ℕ → Given
  -- `-m N`
  Longest : List ℕ → Given
  -- `-s N`
  Speed : List ℕ → Given
  -- `-S`
  Suspended : Given
  -- `-n`
  Unused : Given
  -- `-l`
  Listing : Given
  -- `-F`
  Following : Given
  -- the identifier of a log, or a word of a search
  Further : List ℕ → Given

-- its words
abbrev pub words_of : Given → List (List ℕ)
words_of (Dir v) = codes "-d" ∷ v ∷ []
words_of (Streams v) = codes "-f" ∷ v ∷ []
words_of (Longest v) = codes "-m" ∷ v ∷ []
words_of (Speed v) = codes "-s" ∷ v ∷ []
words_of Suspended = codes "-S" ∷ []
words_of Unused = codes "-n" ∷ []
words_of Listing = codes "-l" ∷ []
words_of Following = codes "-F" ∷ []
words_of (Further v) = v ∷ []

-- the words of all, in their order
abbrev pub words_in : List Given → List (List ℕ)
words_in given = flat_map words_of given

-- a value or a further word isn't empty and doesn't begin with a hyphen
abbrev pub is_value : List ℕ → Bool
is_value [] = false
is_value (b ∷ bytes) = not (b == 45)

-- the value of an option and a further word are such
abbrev pub is_good : Given → Bool
is_good (Dir v) = is_value v
is_good (Streams v) = is_value v
is_good (Longest v) = is_value v
is_good (Speed v) = is_value v
is_good (Further v) = is_value v
is_good _ = true

-- the value of each option, if it is given
abbrev pub dir_in : List Given → Option (List ℕ)
dir_in [] = None
dir_in (Dir v ∷ more) = Some v
dir_in (_ ∷ more) = dir_in more

abbrev pub list_in : List Given → Option (List ℕ)
list_in [] = None
list_in (Streams v ∷ more) = Some v
list_in (_ ∷ more) = list_in more

abbrev pub longest_in : List Given → Option (List ℕ)
longest_in [] = None
longest_in (Longest v ∷ more) = Some v
longest_in (_ ∷ more) = longest_in more

abbrev pub speed_in : List Given → Option (List ℕ)
speed_in [] = None
speed_in (Speed v ∷ more) = Some v
speed_in (_ ∷ more) = speed_in more

-- whether an option without a value is given
abbrev pub has_suspended : List Given → Bool
has_suspended [] = false
has_suspended (Suspended ∷ more) = true
has_suspended (_ ∷ more) = has_suspended more

abbrev pub has_unused : List Given → Bool
has_unused [] = false
has_unused (Unused ∷ more) = true
has_unused (_ ∷ more) = has_unused more

abbrev pub has_listing : List Given → Bool
has_listing [] = false
has_listing (Listing ∷ more) = true
has_listing (_ ∷ more) = has_listing more

abbrev pub has_following : List Given → Bool
has_following [] = false
has_following (Following ∷ more) = true
has_following (_ ∷ more) = has_following more

-- the further words, in their order
abbrev pub further_in : List Given → List (List ℕ)
further_in [] = []
further_in (Further v ∷ more) = v ∷ further_in more
further_in (_ ∷ more) = further_in more

-- whether the first of these is another option than all after it, or no option
abbrev pub is_other : Given → List Given → Bool
is_other (Dir v) more = not (is_some (dir_in more))
is_other (Streams v) more = not (is_some (list_in more))
is_other (Longest v) more = not (is_some (longest_in more))
is_other (Speed v) more = not (is_some (speed_in more))
is_other Suspended more = not (has_suspended more)
is_other Unused more = not (has_unused more)
is_other Listing more = not (has_listing more)
is_other Following more = not (has_following more)
is_other (Further v) more = true

-- each option stands at most once
abbrev pub is_once : List Given → Bool
is_once [] = true
is_once (g ∷ more) = is_other g more && is_once more

-- the words are of a form: each option stands at most once, in any order and wherever the further words stand, no value and no further word is empty or begins with a hyphen, and there are fewer than 2 ^ 64 further words
abbrev pub IsForm : List Given → Type 0
IsForm given = (list_all is_good given ≡ true) × (is_once given ≡ true) × (length (further_in given) < 2 ^ 64)

-- how a log is to be played, if each value is in its form
abbrev pub manner_told : List Given → Option Manner
manner_told given =
    option_and_then (λ streams. option_and_then (λ longest. option_map (λ speed. record {
      streams = streams;
      longest = longest;
      speed = speed;
      suspended = has_suspended given;
    }) (speed_asked (speed_in given))) (longest_asked (longest_in given))) (streams_asked (list_in given))

-- the folder of the logs
abbrev pub dir_told : List Given → List ℕ
dir_told given = unwrap_or (dir_in given) (codes "/var/log/sudo-io")

-- what they ask for: with `-l` the logs that the further words search for, else the log of the one further word, which is followed with `-F`; nothing if a value is out of its form, or `-l` stands with `-F`, or a log is to be shown and there isn't one further word
abbrev pub told : List Given → Option Asked
told given =
    option_and_then (λ manner. if has_listing given then search_of (has_following given) (dir_told given) (further_in given) else play_of (has_following given) (dir_told given) manner (further_in given)) (manner_told given)
