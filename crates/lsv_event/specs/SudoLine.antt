-- An event as a line in the style of sudo's own event log: the date, who, the parts, and a line feed.
use Rattle.std.specs.Prelude.{ℕ, List, [], ◌∷◌, ◌++◌, drop, Option, Some, None, option_map, unwrap_or, if◌then◌else◌, ◌==◌, Bool, codes}
use Rattle.std.specs.Fmt.{signed_decimal}
use Rattle.std.specs.List.{flat_map, starts_with}
use Rattle.lsv_base.specs.LogNo.{digits_of}
use Rattle.lsv_base.specs.declared.time.TimeSpec.{TimeSpec}
use Rattle.lsv_info.specs.Info.{text_of, value_of}
use Rattle.lsv_info.specs.declared.info.Info.{Info}
use Rattle.lsv_info.specs.declared.info.Value.{Value}
use Rattle.lsv_info.specs.declared.info.Value.TheVariants.{Num, Text, Texts, Nums}
use Rattle.lsv_info.specs.declared.times.Exit.{Exit as Ended}
use Rattle.lsv_event.specs.Dates.{date_of}
use Rattle.lsv_event.specs.Escapes.{escaped}
use Rattle.lsv_event.specs.Events.{peer_text}
use Rattle.lsv_event.specs.declared.event.Event.{Event}
use Rattle.lsv_event.specs.declared.event.Event.TheVariants.{Accept, Reject, Alert, Exit}

-- a part of a line: what it is named by, and its text
abbrev pub part : List ℕ → List ℕ → List (List ℕ)
part name text = (name ++ escaped text) ∷ []

-- a part that is left out where it has no text
abbrev pub part_if : List ℕ → Option (List ℕ) → List (List ℕ)
part_if name (Some text) = part name text
part_if name None = []

-- a part that is left out where its text is empty
abbrev pub part_unless_empty : List ℕ → List ℕ → List (List ℕ)
part_unless_empty name [] = []
part_unless_empty name (byte ∷ text) = part name (byte ∷ text)

-- parts with ` ; ` between them
abbrev pub joined : List (List ℕ) → List ℕ
joined [] = []
joined (first ∷ rest) = first ++ flat_map (λ part. codes " ; " ++ part) rest

-- the arguments of a command, each after a space: the first text is the command itself
abbrev pub arguments_in : Option Value → List ℕ
arguments_in None = []
arguments_in (Some (Num n)) = []
arguments_in (Some (Text text)) = []
arguments_in (Some (Nums numbers)) = []
arguments_in (Some (Texts texts)) = flat_map (λ text. 32 ∷ text) (drop 1 texts)

-- the text of a command with its arguments, where it has one
abbrev pub command_text : Info → Option (List ℕ)
command_text info = option_map (λ command. command ++ arguments_in (value_of info (codes "runargv"))) (text_of info (codes "command"))

-- the name of a terminal without `/dev/`
abbrev pub terminal : List ℕ → List ℕ
terminal name = if starts_with (◌==◌) name (codes "/dev/") then drop 5 name else name

-- the parts that tell of a command
abbrev pub command_parts : Option ℕ → Info → List (List ℕ)
command_parts log info =
    part_if (codes "HOST=") (text_of info (codes "submithost"))
    ++ part_if (codes "TTY=") (option_map terminal (text_of info (codes "ttyname")))
    ++ part_if (codes "PWD=") (text_of info (codes "submitcwd"))
    ++ part_if (codes "USER=") (text_of info (codes "runuser"))
    ++ part_if (codes "TSID=") (option_map digits_of log)
    ++ part_if (codes "COMMAND=") (command_text info)

-- the part that tells of a core dump
abbrev pub core_part : Bool → List (List ℕ)
core_part dumped = if dumped then codes "CORE" ∷ [] else []

-- the parts that tell how a command ended
abbrev pub exit_parts : Option ℕ → Ended → List (List ℕ)
exit_parts log exit =
    part_if (codes "TSID=") (option_map digits_of log)
    ++ part (codes "EXIT=") (signed_decimal exit.value)
    ++ part_unless_empty (codes "SIGNAL=") exit.signal
    ++ part_unless_empty (codes "ERROR=") exit.error
    ++ core_part exit.dumped

-- the parts of an event's line
abbrev pub parts_of : Event → List (List ℕ)
parts_of (Accept at peer log head) = command_parts log head.info
parts_of (Reject at peer reason head) = part_unless_empty [] reason ++ command_parts None head.info
parts_of (Alert at peer reason head) = part_unless_empty [] reason ++ command_parts None head.info
parts_of (Exit at peer log exit) = exit_parts log exit

-- who is told of: the user who asked for the command, or at its end the connection
abbrev pub user_in : Info → List ℕ
user_in info = unwrap_or (text_of info (codes "submituser")) (codes "unknown")

abbrev pub who_of : Event → List ℕ
who_of (Accept at peer log head) = user_in head.info
who_of (Reject at peer reason head) = user_in head.info
who_of (Alert at peer reason head) = user_in head.info
who_of (Exit at peer log exit) = peer_text peer

-- the time that a line is dated by: when the command was submitted, or at its end the server's moment
abbrev pub dated : Event → TimeSpec
dated (Accept at peer log head) = head.submit
dated (Reject at peer reason head) = head.submit
dated (Alert at peer reason head) = head.submit
dated (Exit at peer log exit) = at

-- the start of a line
abbrev pub line_start : TimeSpec → List ℕ → List ℕ
line_start time who = date_of time ++ codes " : " ++ escaped who ++ codes " : "

-- the line of an event in sudo's style
unfoldable pub sudo_line : Event → List ℕ
sudo_line event = line_start (dated event) (who_of event) ++ joined (parts_of event) ++ 10 ∷ []
