-- The transcript of a connection of a relay, by what was kept when it began.
use Rattle.std.specs.Prelude.{◌≡◌, ◌++◌, List, Option, Some, None}
use Rattle.lsv_info.specs.declared.times.Exit.{Exit}
use Rattle.lsv_info.specs.declared.times.Head.{Head}
use Rattle.lsv_kept.specs.declared.state.State.{State}
use Rattle.lsv_kept.specs.declared.state.State.TheVariants as states
use Rattle.lsv_msg.specs.declared.messages.ClientMessage.{ClientMessage}
use Rattle.lsv_record.specs.declared.records.Record.{Record}
use Rattle.lsv_transcript.specs.Transcript.{KeptPlace, Transcript, relayed}

-- the identifier that is kept, with its commit point
abbrev pub kept_of : State → Option KeptPlace
kept_of states.Nothing = None
kept_of (states.Kept kept) = Some (record { id = kept.id; point = kept.point })
kept_of states.Done = None

-- the log goes on at a kept point, if a record ends there; else it is sent whole
abbrev pub begins_at : List Record → Head → Option Exit → State → Transcript
begins_at rs head exit state = relayed rs head exit (kept_of state)

-- these are the first of those messages, or all
abbrev pub IsStartOf : (messages all : List ClientMessage) → Type 0
IsStartOf messages all = (rest : List ClientMessage) × (all ≡ messages ++ rest)
