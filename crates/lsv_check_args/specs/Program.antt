-- The command line, as clap reads it.
use Rattle.std.specs.Prelude.{ℕ, true, Some, codes, List}
use Rattle.clap.specs.Lexer.{usize_max}
use Rattle.clap.specs.Simple.{App, new_app, new_rule, with_rule}
use Rattle.clap.specs.Walk.{Rule}
use Rattle.clap.specs.declared.builder.action.ArgAction.TheVariants.{Append, SetTrue}
use Rattle.lsv_replay_args.specs.Program.{flag, value}

-- an option of a word without a value: two hyphens and its name
abbrev pub long_flag : List ℕ → Rule
long_flag id = record (new_rule id) { long = Some id; action = Some SetTrue }

-- the identifiers of logs
abbrev pub ids : Rule
ids = record (new_rule (codes "ids")) { range = Some (record { start_inclusive = 1; end_inclusive = usize_max }); action = Some Append }

-- no word for help or for the version, and no program's name before the words
abbrev pub bare : App
bare = let a = new_app (codes "sudo_logcheck") in record a {
  top = record a.top { no_binary_name = true; disable_help_flag = true; disable_version_flag = true };
}

-- `-d DIR`, `-e FILE`
abbrev pub with_values : App
with_values = with_rule (with_rule bare (value (codes "dir") 100)) (value (codes "events") 101)

-- `-q`, `--json`, `--digest`, and ID..
abbrev pub program : App
program = with_rule (with_rule (with_rule (with_rule with_values (flag (codes "quiet") 113)) (long_flag (codes "json"))) (long_flag (codes "digest"))) ids
