-- The command line, as clap reads it.
use Rattle.std.specs.Prelude.{ℕ, true, Some, codes, List}
use Rattle.clap.specs.Lexer.{usize_max}
use Rattle.clap.specs.Simple.{App, new_app, new_rule, with_rule}
use Rattle.clap.specs.Walk.{Rule}
use Rattle.clap.specs.declared.builder.action.ArgAction.TheVariants.{Append, SetTrue}

-- an option with a value
abbrev pub value : List ℕ → ℕ → Rule
value id short = record (new_rule id) { short = Some short }

-- an option without one
abbrev pub flag : List ℕ → ℕ → Rule
flag id short = record (new_rule id) { short = Some short; action = Some SetTrue }

-- the identifier of a log, or the words of a search
abbrev pub words : Rule
words = record (new_rule (codes "words")) { range = Some (record { start_inclusive = 1; end_inclusive = usize_max }); action = Some Append }

-- no word for help or for the version, and no program's name before the words
abbrev pub bare : App
bare = let a = new_app (codes "sudoreplay") in record a {
  top = record a.top { no_binary_name = true; disable_help_flag = true; disable_version_flag = true };
}

-- `-d DIR`, `-f LIST`, `-m N`, `-s N`
abbrev pub with_values : App
with_values = with_rule (with_rule (with_rule (with_rule bare (value (codes "dir") 100)) (value (codes "streams") 102)) (value (codes "longest") 109)) (value (codes "speed") 115)

-- `-S`, `-n`, `-l`, `-F`, and ID or WORDS
abbrev pub program : App
program = with_rule (with_rule (with_rule (with_rule (with_rule with_values (flag (codes "suspended") 83)) (flag (codes "unused") 110)) (flag (codes "list") 108)) (flag (codes "follow") 70)) words
