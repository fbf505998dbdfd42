-- The commands of the program, as clap reads them.
use Rattle.std.specs.Prelude.{ℕ, pos, true, Some, codes}
use Rattle.clap.specs.Simple.{App, new_app, new_rule, with_rule, with_subcommand}
use Rattle.clap.specs.Walk.{Rule}
use Rattle.clap.specs.declared.builder.value_parser.ValueParser.{ValueParser}
use Rattle.clap.specs.declared.builder.value_parser.ValueParser.TheVariants.{Signed}

-- a decimal number from one to another
abbrev pub from_to : ℕ → ℕ → ValueParser
from_to low high = Signed (pos low) (pos high)

-- how many lanes may be asked for
abbrev pub most_lanes : ℕ
most_lanes = 8

-- how many workers may be asked for
abbrev pub most_workers : ℕ
most_workers = 64

-- `-f FILE`
abbrev pub conf : Rule
conf = record (new_rule (codes "conf")) { short = Some 102 }

-- `--lanes N`
abbrev pub lanes : Rule
lanes = record (new_rule (codes "lanes")) { long = Some (codes "lanes"); parser = Some (from_to 1 most_lanes) }

-- `--workers N`
abbrev pub workers : Rule
workers = record (new_rule (codes "workers")) { long = Some (codes "workers"); parser = Some (from_to 1 most_workers) }

-- `--stop-after N`
abbrev pub stop_after : Rule
stop_after = record (new_rule (codes "stop-after")) { long = Some (codes "stop-after"); parser = Some (from_to 1 4294967295) }

-- `N` of `load N`
abbrev pub count : Rule
count = record (new_rule (codes "count")) { required = true; parser = Some (from_to 1 10000) }

-- `once [-f FILE]`
abbrev pub once : App
once = with_rule (new_app (codes "once")) conf

-- `serve [-f FILE] [--lanes N] [--workers N] [--stop-after N]`
abbrev pub serve : App
serve = with_rule (with_rule (with_rule (with_rule (new_app (codes "serve")) conf) lanes) workers) stop_after

-- `relay [-f FILE]`
abbrev pub relay : App
relay = with_rule (new_app (codes "relay")) conf

-- `check [-f FILE]`
abbrev pub check : App
check = with_rule (new_app (codes "check")) conf

-- `load [-f FILE] N`
abbrev pub load : App
load = with_rule (with_rule (new_app (codes "load")) conf) count

-- a program of subcommands, whose first word is the first of these, with no word for help or for the version
abbrev pub program : App
program = let a = new_app (codes "sudo_logsrvd") in record a {
  top = record a.top { no_binary_name = true; disable_help_flag = true; disable_help_subcommand = true; disable_version_flag = true; subcommand_required = true };
}

-- the commands
abbrev pub commands : App
commands = with_subcommand (with_subcommand (with_subcommand (with_subcommand (with_subcommand program once.top) serve.top) load.top) relay.top) check.top
