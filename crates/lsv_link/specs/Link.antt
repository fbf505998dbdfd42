-- What is known of an outgoing link, and what each answer of it says.
use Rattle.std.specs.Prelude.{◌≡◌, ◌≢◌, ◌⊎◌, ℕ, ◌≤◌, Bool, true, false, List, [], ◌∷◌, ◌++◌, length, take, Option, Some, None, option_map, unwrap_or, Result, Ok, Err}
use Rattle.lsv_defs.specs.Causes.{HasRisen}
use Rattle.lsv_base.specs.Script.{one_more}
use Rattle.lsv_port.specs.declared.port.Took.{Took}
use Rattle.lsv_port.specs.declared.port.Took.TheVariants as took
use Rattle.lsv_port.specs.declared.port.Gave.{Gave}
use Rattle.lsv_port.specs.declared.port.Gave.TheVariants as gave
use Rattle.lsv_link.specs.declared.connection.Connection.{Connection}
use Rattle.lsv_link.specs.declared.connection.Look.{Look}
use Rattle.lsv_link.specs.declared.link.LinkFault.{LinkFault}

-- the connections that were closed or failed, in order, the one that is open, and the number of failed ones that are missing among them, since a link in memory had no room
pub record LinkState : Type 0 where
  pub past : List Connection
  pub now : Option Connection
  pub missed : ℕ

-- how often a call failed, a write answered NotYet, and a read that may wait answered NotYet
pub record LinkCounts : Type 0 where
  pub faults : ℕ
  pub full : ℕ
  pub waits : ℕ

-- a connection is open
pub record IsConnected (s : LinkState) : Type 0 where
  pub conn : Connection
  pub is_open : s.now ≡ Some conn

-- a connection to this host on which nothing was read or written
abbrev pub unused : List ℕ → Bool → Connection
unused host connected = record { host = host; connected = connected; input = []; output = []; ended = false; dry = false; looks = []; renewed = 0 }

-- the connections, with one more if there is one
abbrev pub joined : List Connection → Option Connection → List Connection
joined past None = past
joined past (Some conn) = past ++ conn ∷ []

-- all connections, in order
abbrev pub all_of : LinkState → List Connection
all_of s = joined s.past s.now

-- the link after its open connection was closed
abbrev pub after_close : LinkState → LinkState
after_close s = record s { past = all_of s; now = None }

-- the link after a connection to this host was made
abbrev pub after_connect : List ℕ → LinkState → LinkState
after_connect host s = record s { past = all_of s; now = Some (unused host true) }

-- the link after a connection to this host couldn't be made: it is one of the connections too
abbrev pub after_refusal : List ℕ → LinkState → LinkState
after_refusal host s = record s { past = all_of s ++ unused host false ∷ []; now = None }

-- the link after a connection couldn't be made, and isn't among the connections, since a link in memory had no room for it: that is counted
abbrev pub after_miss : LinkState → LinkState
after_miss s = record { past = all_of s; now = None; missed = one_more s.missed }

-- what a connect says. If it failed, it is among the connections, or it is missing, and that was counted
abbrev pub Connects : Result (Unit {0}) LinkFault → List ℕ → LinkState → LinkState → Type 0
Connects (Ok u) host old new = new ≡ after_connect host old
Connects (Err fault) host old new = (new ≡ after_refusal host old) ⊎ (new ≡ after_miss old)

-- a read now that gives n bytes: it notes how much had been written before it, whether it might wait, and how often the connection was renewed since the read before it
abbrev pub look_of : (wait : Bool) → ℕ → Connection → Look
look_of wait n conn = record { put = length conn.output; came = n; waited = wait; renewed = conn.renewed }

-- the reads so far, and this one
abbrev pub looks_after : (wait : Bool) → ℕ → Connection → List Look
looks_after wait n conn = conn.looks ++ look_of wait n conn ∷ []

-- the connection after a read with this answer, if its buffer then holds these bytes
abbrev pub read_on : Took → (wait : Bool) → List ℕ → Connection → Connection
read_on (took.Bytes n) wait buf conn = record conn { input = conn.input ++ take n buf; dry = false; looks = looks_after wait n conn; renewed = 0 }
read_on took.NotYet wait buf conn = record conn { dry = true; looks = looks_after wait 0 conn; renewed = 0 }
read_on took.End wait buf conn = record conn { ended = true; dry = true; looks = looks_after wait 0 conn; renewed = 0 }
read_on took.Failed wait buf conn = record conn { dry = true }

-- the connection after a write of these bytes with this answer
abbrev pub written_on : Gave → List ℕ → Connection → Connection
written_on (gave.Bytes n) bytes conn = record conn { output = conn.output ++ take n bytes; dry = false }
written_on gave.NotYet bytes conn = record conn { dry = false }
written_on gave.Failed bytes conn = record conn { dry = false }

-- the link after a read
abbrev pub after_read : Took → (wait : Bool) → List ℕ → LinkState → LinkState
after_read answer wait buf s = record s { now = option_map (read_on answer wait buf) s.now }

-- the link after a write
abbrev pub after_write : Gave → List ℕ → LinkState → LinkState
after_write answer bytes s = record s { now = option_map (written_on answer bytes) s.now }

-- the connection after it was renewed
abbrev pub renewed_on : Connection → Connection
renewed_on conn = record conn { renewed = one_more conn.renewed }

-- the link after its open connection was renewed
abbrev pub after_renew : LinkState → LinkState
after_renew s = record s { now = option_map renewed_on s.now }

-- no count fell
pub record Continues (old new : LinkCounts) : Type 0 where
  pub faults : old.faults ≤ new.faults
  pub full : old.full ≤ new.full
  pub waits : old.waits ≤ new.waits

-- no count fell; that of the faults rose if the connect failed, and no other did
pub record HasConnectCause (failed : Type 0) (old new : LinkCounts) : Type 0 where
  pub continues : Continues old new
  pub risen : failed → HasRisen old.faults new.faults
  pub made : (failed → ⊥) → new.faults ≡ old.faults
  pub full : new.full ≡ old.full
  pub waits : new.waits ≡ old.waits

-- no count fell; that of the faults rose if the read failed, that of the waits if it waited for nothing, and no other did
pub record HasReadCause (answer : Took) (wait : Bool) (old new : LinkCounts) : Type 0 where
  pub continues : Continues old new
  pub failed : answer ≡ took.Failed → HasRisen old.faults new.faults
  pub waited : answer ≡ took.NotYet → wait ≡ true → HasRisen old.waits new.waits
  pub answered : answer ≢ took.Failed → new.faults ≡ old.faults
  pub full : new.full ≡ old.full
  pub came : (answer ≡ took.NotYet → wait ≡ true → ⊥) → new.waits ≡ old.waits

-- no count fell; that of the faults rose if the write failed, that of the full ones if it put nothing, and no other did
pub record HasWriteCause (answer : Gave) (old new : LinkCounts) : Type 0 where
  pub continues : Continues old new
  pub failed : answer ≡ gave.Failed → HasRisen old.faults new.faults
  pub full : answer ≡ gave.NotYet → HasRisen old.full new.full
  pub answered : answer ≢ gave.Failed → new.faults ≡ old.faults
  pub put : answer ≢ gave.NotYet → new.full ≡ old.full
  pub waits : new.waits ≡ old.waits

-- the open connection, or an unused one if there is none
abbrev pub open_of : LinkState → Connection
open_of s = unwrap_or s.now (unused [] false)
