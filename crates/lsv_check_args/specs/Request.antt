-- What the words of the command line ask for.
use Rattle.std.specs.Prelude.{◌≡◌, ◌≢◌, ◌⊎◌, ℕ, List, [], ◌∷◌, Option, Some, None, IsTrue, false, unwrap_or, option_map, codes}
use Rattle.std.specs.List.{list_all}
use Rattle.std.specs.Option.{option_and_then}
use Rattle.std.specs.Str.{is_utf8}
use Rattle.clap.specs.Faults.{fault_of}
use Rattle.clap.specs.Simple.{matches_of}
use Rattle.clap.specs.Walk.{Row, all_of, first_of}
use Rattle.lsv_base.specs.LogNo.{log_no_in}
use Rattle.lsv_replay_args.specs.Request.{dir_of, is_set}
use Rattle.lsv_check_args.specs.Program.{program}
use Rattle.lsv_check_args.specs.declared.request.Form.{Form}

-- what is asked for: the folder of the logs, the path of the event log's lines or nothing, what is shown and how, and the logs that are named
pub record Asked : Type 0 where
  pub dir : List ℕ
  pub events : List ℕ
  pub form : Form
  pub numbers : List ℕ

-- the numbers of the logs with these identifiers, if each is one
abbrev pub numbers_in : List (List ℕ) → Option (List ℕ)
numbers_in [] = Some []
numbers_in (id ∷ ids) = option_and_then (λ number. option_map (λ numbers. number ∷ numbers) (numbers_in ids)) (log_no_in id)

-- those of the words that belong to no option
abbrev pub numbers_of : List Row → Option (List ℕ)
numbers_of rows = numbers_in (unwrap_or (all_of (codes "ids") rows) [])

-- what is shown, and how
abbrev pub form_of : List Row → Form
form_of rows = record { quiet = is_set rows "quiet"; json = is_set rows "json"; digest = is_set rows "digest" }

-- what is asked for, with these values of the options, if each further word is the identifier of a log
abbrev pub asked_by : List Row → Option Asked
asked_by rows = option_map (λ numbers. record {
  dir = dir_of rows;
  events = unwrap_or (first_of (codes "events") rows) [];
  form = form_of rows;
  numbers = numbers;
}) (numbers_of rows)

-- the words are a command, and ask for this
pub record Asks (words : List (List ℕ)) (asked : Asked) : Type 0 where
  pub text : IsTrue (list_all is_utf8 words)
  pub taken : fault_of program words ≡ []
  pub asks : asked_by (matches_of program words) ≡ Some asked

-- the words are no command: one isn't UTF-8, or clap refuses them, or one that is to name a log isn't its identifier
abbrev pub IsUsage : List (List ℕ) → Type 0
IsUsage words = (list_all is_utf8 words ≡ false) ⊎ (fault_of program words ≢ []) ⊎ (asked_by (matches_of program words) ≡ None)
