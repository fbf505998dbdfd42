-- What the words ask for.
use Rattle.std.specs.Prelude.{◌≤◌, ◌^◌, ◌&&◌, IfSome, ℕ, List, Option, Some, None, nat_lt, codes, unwrap_or, option_map, option_and_then, if◌then◌else◌}
use Rattle.std.specs.Str.{bytes_eq}
use Rattle.std.specs.Str.Parse.{digits_value, without_leading_plus}
use Prim.Native.String.{String}
use Rattle.clap.specs.Simple.{subcommand_of}
use Rattle.clap.specs.ValueTests.{is_numeral}
use Rattle.clap.specs.Walk.{Row, first_of}
use Rattle.lsv_args.specs.Commands.{commands, most_lanes, most_workers}
use Rattle.lsv_args.specs.declared.command.Command.{Command}
use Rattle.lsv_args.specs.declared.command.Command.TheVariants as command
use Rattle.lsv_args.specs.declared.command.Opts.{Opts}

-- the number below 2 ^ 32 that decimal digits state, before which a plus sign may stand
abbrev pub number_in : List ℕ → Option ℕ
number_in text =
    let digits = without_leading_plus text in
    if is_numeral digits && nat_lt (digits_value 10 digits) (2 ^ 32) then Some (digits_value 10 digits) else None

-- the number that is the value of an argument, if there is one
abbrev pub number_of : List Row → List ℕ → Option ℕ
number_of rows id = option_and_then number_in (first_of id rows)

abbrev pub number : List Row → String → Option ℕ
number rows id = number_of rows (codes id)

-- what each command is told
pub record Options : Type 0 where
  pub conf : List ℕ
  pub lanes : ℕ
  pub workers : ℕ
  pub stop_after : Option ℕ

-- the options, by the values of the arguments
abbrev pub options_of : List Row → Options
options_of rows = record {
  conf = unwrap_or (first_of (codes "conf") rows) (codes "/etc/sudo_logsrvd.conf");
  lanes = unwrap_or (number rows "lanes") 1;
  workers = unwrap_or (number rows "workers") 4;
  stop_after = number rows "stop-after";
}

-- what the program is to do
pub data Asked : Type 0 where
  Once : Options → Asked
  Serve : Options → Asked
  Relay : Options → Asked
  Check : Options → Asked
  Load : Options → ℕ → Asked

-- what a command of this name asks for, with these values of its arguments
abbrev pub asked_by : List ℕ → List Row → Option Asked
asked_by name rows =
    if bytes_eq name (codes "once") then Some (Once (options_of rows))
    else if bytes_eq name (codes "serve") then Some (Serve (options_of rows))
    else if bytes_eq name (codes "load") then option_map (Load (options_of rows)) (number rows "count")
    else if bytes_eq name (codes "relay") then Some (Relay (options_of rows))
    else if bytes_eq name (codes "check") then Some (Check (options_of rows))
    else None

-- what words ask for that clap doesn't refuse
abbrev pub asked : List (List ℕ) → Option Asked
asked words = option_and_then (λ s. asked_by s.0 s.1) (subcommand_of commands words)

-- what a value of the program says
abbrev pub options_in : Opts → Options
options_in opts = record { conf = opts.conf; lanes = opts.lanes; workers = opts.workers; stop_after = opts.stop_after }

abbrev pub asked_in : Command → Asked
asked_in (command.Once opts) = Once (options_in opts)
asked_in (command.Serve opts) = Serve (options_in opts)
asked_in (command.Relay opts) = Relay (options_in opts)
asked_in (command.Check opts) = Check (options_in opts)
asked_in (command.Load opts count) = Load (options_in opts) count

-- the options are in their ranges
pub record HasRanges (o : Options) : Type 0 where
  pub least_lanes : 1 ≤ o.lanes
  pub most_lanes : o.lanes ≤ most_lanes
  pub least_workers : 1 ≤ o.workers
  pub most_workers : o.workers ≤ most_workers
  pub stop_after : IfSome o.stop_after (λ n. 1 ≤ n)

-- the numbers are in their ranges
abbrev pub IsInRange : Asked → Type 0
IsInRange (Once o) = HasRanges o
IsInRange (Serve o) = HasRanges o
IsInRange (Relay o) = HasRanges o
IsInRange (Check o) = HasRanges o
IsInRange (Load o count) = HasRanges o × (1 ≤ count) × (count ≤ 10000)
