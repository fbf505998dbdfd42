-- What a request of the program asks for.
use Rattle.std.specs.Prelude.{List, ℕ, IsTrue}
use Rattle.std.specs.List.{list_all}
use Rattle.std.specs.Str.{is_utf8}
use Rattle.std.specs.String.{string_bytes}
use Rattle.lsv_play.specs.declared.options.Options.{Options}
use Rattle.lsv_replay_args.specs.Request.{Asked, Follow, Manner, Play, Search}
use Rattle.lsv_replay_args.specs.declared.request.Request.{Request}
use Rattle.lsv_replay_args.specs.declared.request.Task.{Task}
use Rattle.lsv_replay_args.specs.declared.request.Task.TheVariants as tasks

-- options say how a log is to be played
abbrev pub manner_in : Options → Manner
manner_in o = record { streams = o.streams; longest = o.longest; speed = o.speed; suspended = o.suspended }

-- what a task asks for, in this folder
abbrev pub task_in : List ℕ → Task → Asked
task_in dir (tasks.Play o id) = Play dir (manner_in o) id
task_in dir (tasks.Follow o id) = Follow dir (manner_in o) id
task_in dir (tasks.List words) = Search dir words

-- what a request asks for
abbrev pub asked_in : Request → Asked
asked_in r = task_in (string_bytes r.dir) r.task

-- the words of a search are text
abbrev pub IsTextual : Task → Type 0
IsTextual (tasks.Play o id) = Unit {0}
IsTextual (tasks.Follow o id) = Unit {0}
IsTextual (tasks.List words) = IsTrue (list_all is_utf8 words)
