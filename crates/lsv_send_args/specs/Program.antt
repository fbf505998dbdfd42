-- The command line, as clap reads it.
use Rattle.std.specs.Prelude.{true, codes}
use Rattle.clap.specs.Simple.{App, new_app, new_rule, with_rule}
use Rattle.clap.specs.Walk.{Rule}
use Rattle.lsv_replay_args.specs.Program.{flag, value}

-- the identifier of the log, which must be given
abbrev pub number : Rule
number = record (new_rule (codes "number")) { required = true }

-- no word for help or for the version, and no program's name before the words
abbrev pub bare : App
bare = let a = new_app (codes "sudo_sendlog") in record a {
  top = record a.top { no_binary_name = true; disable_help_flag = true; disable_version_flag = true };
}

-- `-d DIR`, `-h HOST`, `-p PORT`
abbrev pub with_places : App
with_places = with_rule (with_rule (with_rule bare (value (codes "dir") 100)) (value (codes "host") 104)) (value (codes "port") 112)

-- `-i ID`, `-r POINT`, `-s POINT`
abbrev pub with_points : App
with_points = with_rule (with_rule (with_rule with_places (value (codes "id") 105)) (value (codes "resume") 114)) (value (codes "stop") 115)

-- `-A`, `-R REASON`, and NO
abbrev pub program : App
program = with_rule (with_rule (with_rule with_points (flag (codes "accept") 65)) (value (codes "reject") 82)) number
