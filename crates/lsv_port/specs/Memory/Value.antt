-- A port in memory: a script, and what its steps have made so far.
use Rattle.std.specs.Prelude.{◌≡◌, ◌⊎◌, ℕ, nat_eq, ◌+◌, ◌≤◌, Bool, true, false, List, length, take, map, min, if◌then◌else◌, Option, Some, None}
use Rattle.std.specs.List.{Contains, slice_get}
use Rattle.std.specs.Map.{lookup}
use Rattle.lsv_defs.specs.Pieces.{IsPrefix}
use Rattle.lsv_base.specs.Script.{one_more}
use Rattle.lsv_port.specs.declared.memory.asked.Asked.{Asked}
use Rattle.lsv_port.specs.declared.memory.link.MemLink.{MemLink}
use Rattle.lsv_port.specs.declared.memory.run.Run.{Run}
use Rattle.lsv_port.specs.declared.port.Ready.{Ready}
use Rattle.lsv_port.specs.declared.port.Ready.TheVariants as ready
use Rattle.lsv_port.specs.declared.step.Step.{Step}
use Rattle.lsv_port.specs.declared.step.Step.TheVariants as step
use Rattle.lsv_port.specs.Ledger.{Noted, PortLedger}
use Rattle.lsv_port.specs.Port.{LinkState, PortState}
use Rattle.lsv_port.specs.Memory.Numbers.{has}
use Rattle.lsv_port.specs.Memory.Script.{Sent, sent_by, fails_turn, is_stop}
use Rattle.lsv_port.specs.Memory.Links.{LinkMap, PortOver, links_of, state_of, faults_of, ready_of, AreSentBy, AreOpened, AreOpen}

-- what a port in memory was asked to listen on, and whether it had made a turn by then
abbrev pub noted_of : Asked → Noted
noted_of note = record { asked = record { address = note.address.items; stop_after = note.stop_after }; turned = note.turned }

-- whether a run told Stop, and whether it failed as a whole
abbrev pub over_by : Run → PortOver
over_by p = record { stopped = p.stopped; failed = p.failed }

-- what a run tells
abbrev pub told_by : Run → PortState
told_by p = state_of (links_of p.links) p.links.opened.items (over_by p)

-- what stays of a run from call to call
abbrev pub ledger_of : Run → PortLedger
ledger_of p = record { script = p.script.items; listens = map noted_of p.listens.items; turned = p.turned; deaf = p.deaf; turns = p.turns; links = λ l. faults_of (links_of p.links l) }

-- A port in memory: its script, how many of its steps were taken, what it was asked to listen on, whether it made a turn, and how often listening failed.
-- Then its links, those that were opened and those that are open, whether Stop was told, whether it failed as a whole, how often it did, and how often a call failed for lack of memory.
pub record PortValue : Type 0 where
  pub script : List Step
  pub done : ℕ
  pub listens : List Noted
  pub turned : Bool
  pub deaf : ℕ
  pub links : List (ℕ × MemLink)
  pub opened : List ℕ
  pub open_now : List ℕ
  pub stopped : Bool
  pub failed : Bool
  pub turns : ℕ
  pub refused : ℕ

-- a run is such a port
abbrev pub value_of : Run → PortValue
value_of p = record { script = p.script.items; done = p.done; listens = map noted_of p.listens.items; turned = p.turned; deaf = p.deaf; links = p.links.by_number.entries; opened = p.links.opened.items; open_now = p.links.open_now.items; stopped = p.stopped; failed = p.failed; turns = p.turns; refused = p.refused }

-- the links by their numbers
abbrev pub link_map : PortValue → LinkMap
link_map p l = lookup (nat_eq l) p.links

-- those of the numbers that were opened
abbrev pub listed : PortValue → LinkMap
listed p l = if has p.opened l then link_map p l else None

-- what a port in memory tells
abbrev pub port_state : PortValue → PortState
port_state p = state_of (listed p) p.opened (record { stopped = p.stopped; failed = p.failed })

-- what stays of it from call to call
abbrev pub port_ledger : PortValue → PortLedger
port_ledger p = record { script = p.script; listens = p.listens; turned = p.turned; deaf = p.deaf; turns = p.turns; links = λ l. faults_of (link_map p l) }

-- the next step of the script, where there is one
abbrev pub next_step : PortValue → Option Step
next_step p = slice_get p.script p.done

-- what a step tells, None where it makes the turn fail
abbrev pub answer_of : LinkMap → Step → Option Ready
answer_of links step = if fails_turn step then None else (if is_stop step then Some ready.Stop else Some (ready_of links step))

-- what a turn tells, None where it fails: after the last step it tells Stop
abbrev pub turn_of : LinkMap → Option Step → Option Ready
turn_of links None = Some ready.Stop
turn_of links (Some step) = answer_of links step

-- it noted what it was asked to listen on; it failed exactly if memory was refused for that. No step was taken
pub record HasNoted (failed : Type 0) (old new : PortValue) : Type 0 where
  pub done : new.done ≡ old.done
  pub refused : ((failed → ⊥) × (new.refused ≡ old.refused)) ⊎ (failed × (new.refused ≡ one_more old.refused))

-- a turn that told this: a step more was taken, where there was one
pub record IsTurn (answer : Option Ready) (old new : PortValue) : Type 0 where
  pub told : answer ≡ turn_of (link_map old) (next_step old)
  pub done : new.done ≡ min (old.done + 1) (length old.script)
  pub refused : new.refused ≡ old.refused

-- a turn to which memory was refused: no step was taken
pub record IsRefusedTurn (answer : Option Ready) (old new : PortValue) : Type 0 where
  pub told : answer ≡ None
  pub done : new.done ≡ old.done
  pub refused : new.refused ≡ one_more old.refused

-- where Stop was told, such a step was taken, or the last step was
abbrev pub HasStopped : Run → Type 0
HasStopped p = p.stopped ≡ true → Contains (take p.done p.script.items) step.Stop ⊎ (p.done ≡ length p.script.items)

-- a port as it can come about by the steps that were taken
pub record IsRun (p : Run) : Type 0 where
  pub done : p.done ≤ length p.script.items
  pub sent : AreSentBy (λ l. sent_by l (take p.done p.script.items)) (links_of p.links)
  pub opened : AreOpened p.links.opened.items (links_of p.links)
  pub open_now : AreOpen p.links.open_now.items (links_of p.links)
  pub stopped : HasStopped p

-- what is told of a link agrees with what was sent on it: what was read is a prefix of what was sent; and of an open link that isn't owed a read, and of which no call failed, all was read, and where its end was sent, that was read too
pub record TellsSent (sent : Sent) (link : LinkState) : Type 0 where
  pub prefix : IsPrefix link.input sent.bytes
  pub end : link.ended ≡ true → (sent.ended ≡ true) × (link.input ≡ sent.bytes)
  pub all : link.is_open ≡ true → link.owed ≡ false → link.failed ≡ false → (link.input ≡ sent.bytes) × (sent.ended ≡ true → link.ended ≡ true)

-- what a port tells agrees with these steps of its script: those links were opened that they open, and each tells what they sent on it
pub record TellsSteps (steps : List Step) (port : PortState) : Type 0 where
  pub links : (l : ℕ) → TellsSent (sent_by l steps) (port.link l)
  pub opened : (l : ℕ) → has port.opened l ≡ (sent_by l steps).opened

-- what a port tells agrees with a first part of its script, and with all of it up to a Stop where Stop was told
pub record TellsScript (script : List Step) (port : PortState) : Type 0 where
  pub done : ℕ
  pub tells : TellsSteps (take done script) port
  pub stopped : port.stopped ≡ true → Contains (take done script) step.Stop ⊎ (take done script ≡ script)
