-- What one connection matches: its link of the port, its jobs, its replies.
use Rattle.std.specs.Prelude.{◌≡◌, ◌≢◌, ◌⊎◌, ℕ, zero, suc, ◌<◌, ◌≤◌, ◌+◌, ◌%◌, ◌&&◌, ◌||◌, not, Bool, true, false, List, [], ◌∷◌, ◌++◌, length, map}
use Rattle.std.specs.List.{All}
use Rattle.lsv_defs.specs.Causes.{HasRisen}
use Rattle.lsv_port.specs.Ledger.{PortLedger}
use Rattle.lsv_port.specs.Port.{IsOwed, LinkState, PortState}
use Rattle.lsv_session.specs.Transcript.{answers}
use Rattle.lsv_session.specs.declared.connection.ConnId.{ConnId}
use Rattle.lsv_session.specs.declared.job.Body.{Body}
use Rattle.lsv_session.specs.declared.job.Job.{Job}
use Rattle.lsv_session.specs.declared.reply.Reply.{Reply}
use Rattle.lsv_worker.specs.Lanes.{job_of}
use Rattle.lsv_worker.specs.Incoming.{Receives, IncomingKeeps, Marks, ReportsNoMemory, WasFull, has_left, stage_out_of_memory}
use Rattle.lsv_worker.specs.Outgoing.{Alone, HasEarlyShut, HasShut, Sends, RepliesAfterShut, kept_up}
use Rattle.lsv_worker.specs.declared.outgoing.Sending.TheVariants as sendings
use Rattle.lsv_worker.specs.declared.link.Link.{Link}
use Rattle.lsv_worker.specs.declared.link.Blocked.{Blocked}
use Rattle.lsv_worker.specs.declared.link.Blocked.TheVariants as blocks
use Rattle.lsv_worker.specs.declared.link.Phase.{Phase}
use Rattle.lsv_worker.specs.declared.link.Phase.TheVariants.{Going, Stopping, Failed, Stopped}

-- the phase of a worker allows a link in this state to end
abbrev pub LetsEnd : Phase → LinkState → Type 0
LetsEnd Going s = ⊥
LetsEnd Stopping s = s.owed ≡ false
LetsEnd Failed s = Unit {0}
LetsEnd Stopped s = Unit {0}

-- why no more bytes come: the input ended, the link failed, Stop came and it is owed no more, or the port failed
abbrev pub MayEnd : Phase → LinkState → Type 0
MayEnd phase s = (s.ended ≡ true) ⊎ ((s.failed ≡ true) ⊎ LetsEnd phase s)

-- a worker in this phase knows that its port has not announced Stop, has announced it, or has failed as a whole
abbrev pub KnowsPort : Phase → PortState → Type 0
KnowsPort Going port = port.stopped ≡ false
KnowsPort Stopping port = port.stopped ≡ true
KnowsPort Failed port = port.failed ≡ true
KnowsPort Stopped port = Unit {0}

-- the home lane of this connection, among `count` lanes, is that of its number
pub record IsAtHome (count : ℕ) (c : ConnId) (marks : Marks) : Type 0 where
  pub lanes : marks.lanes ≡ count
  pub home : marks.home ≡ c.seq % count

-- If a link was closed before Stop and before a port failure, its bytes end for a cause of its own. The causes: its input ended, it
-- failed, a keeper shut it, or the worker was stopped.
abbrev pub HasOwnCause : Phase → LinkState → (shut : Type 0) → Type 0
HasOwnCause phase s shut = s.is_open ≡ false → s.late ≡ false → (s.ended ≡ true) ⊎ ((s.failed ≡ true) ⊎ (shut ⊎ (phase ≡ Stopped)))

-- A connection matches its link, the bodies that were put to each lane and the replies that were taken, in this phase of its worker.
-- lanes: the number of lanes
pub record LinkStands (lanes : ℕ) (phase : Phase) (link : Link) (s : LinkState) (put : ℕ → List Body) (replies : List Reply) : Type 0 where
  pub marks : Marks
  pub home : IsAtHome lanes link.conn marks
  pub inward : Receives link.incoming s.input put marks
  pub outward : Sends link.outgoing s.output (answers link.conn replies)
  pub small : All (λ b. b < 256) s.input
  pub live : s.is_open ≡ link.live
  pub owed : s.owed ≡ link.owed
  pub paid : s.ended ≡ true → s.owed ≡ false
  pub broken : s.failed ≡ true → link.live ≡ false
  pub may_end : marks.over ≡ true → MayEnd phase s
  pub own_cause : marks.over ≡ true → HasOwnCause phase s (marks.shut ≡ true)
  pub shut_by : link.shut ≡ true → (marks.shut ≡ true) ⊎ (has_left link.incoming.stage ≡ true)
  pub told : marks.shut ≡ true → HasEarlyShut link.conn replies
  pub shut : link.shut ≡ true → HasShut link.conn replies
  pub silent : link.outgoing.sending ≡ sendings.Failed → s.failed ≡ true
  pub over : link.outgoing.sending ≡ sendings.Over → RepliesAfterShut link.conn replies ⊎ ((s.failed ≡ true) ⊎ (phase ≡ Stopped))
  pub closed : link.live ≡ false → (s.failed ≡ true) ⊎ ((link.shut ≡ true) ⊎ (phase ≡ Stopped))
  pub sent : link.live ≡ false → s.full ≡ false → link.outgoing.unsent ≡ []
  pub kept : phase ≡ Going → link.live ≡ false → link.outgoing.unsent ≡ []
  pub wants : link.outgoing.sending ≡ sendings.OutOfMemory → ReportsNoMemory link.incoming

-- what a call does for one connection, whatever was put and taken before
pub record LinkStep (phase : Phase) (old new : Link) (before after : PortState) (jobs_before jobs_after : ℕ → List Job) : Type 0 where
  pub number : new.number ≡ old.number
  pub conn : new.conn ≡ old.conn
  pub alone : Alone old.number before after
  pub added : ℕ → List Body
  pub put : (lane : ℕ) → jobs_after lane ≡ jobs_before lane ++ map (job_of old.conn) (added lane)
  pub goes : (n : ℕ) (past : ℕ → List Body) (replies : List Reply) → KnowsPort phase before → LinkStands n phase old (before.link old.number) past replies
      → LinkStands n phase new (after.link old.number) (λ lane. past lane ++ added lane) replies

-- a worker in this phase reads its links
abbrev pub reads_in : Phase → Bool
reads_in Going = true
reads_in Stopping = true
reads_in Failed = false
reads_in Stopped = false

-- a number, k times
abbrev pub repeated : ℕ → ℕ → List ℕ
repeated zero n = []
repeated (suc k) n = n ∷ repeated k n

-- a link was read k times, each time into a buffer of 65,536 bytes
abbrev pub WasRead : ℕ → LinkState → LinkState → Type 0
WasRead k old new = new.reads ≡ old.reads ++ repeated k 65536

-- a link was read at most this many times
pub record WasReadAtMost (most : ℕ) (old new : LinkState) : Type 0 where
  pub times : ℕ
  pub few : times ≤ most
  pub were : WasRead times old new

-- no link was read
abbrev pub ReadsNone : PortState → PortState → Type 0
ReadsNone before after = (l : ℕ) → (after.link l).reads ≡ (before.link l).reads

-- nothing was put on a link
abbrev pub WritesNone : PortState → PortState → Type 0
WritesNone before after = (l : ℕ) → (after.link l).output ≡ (before.link l).output

-- no link was read, and nothing was put on one
pub record TouchesNone (before after : PortState) : Type 0 where
  pub unread : ReadsNone before after
  pub unwritten : WritesNone before after

-- a link to which 65,536 bytes or more are still unsent wasn't read
abbrev pub IsSpared : Link → LinkState → LinkState → Type 0
IsSpared link before after = 65536 ≤ length link.outgoing.unsent → after.reads ≡ before.reads

-- a link is read at most 16 times in a call; before Stop not while 65,536 bytes or more are unsent; and not in a phase without reads
pub record IsReadWithin (phase : Phase) (new : Link) (before after : LinkState) : Type 0 where
  pub most : WasReadAtMost 16 before after
  pub output_full : phase ≡ Going → IsSpared new before after
  pub unread : reads_in phase ≡ false → after.reads ≡ before.reads

-- a connection is over: its link is closed, its Gone was put, its Shut was taken, and no reply was lost because memory ran out
abbrev pub is_done : Link → Bool
is_done link = (not link.live && (link.shut && has_left link.incoming.stage)) && kept_up link.outgoing.sending

-- memory ran out for a connection: for what was read, or for a reply
abbrev pub is_out_of_memory : Link → Bool
is_out_of_memory link = stage_out_of_memory link.incoming.stage || not (kept_up link.outgoing.sending)

-- it is the same connection, of the same lanes; if it is closed, memory ran out for it or nothing more is sent to it, that stays so
pub record Remains (old new : Link) : Type 0 where
  pub number : new.number ≡ old.number
  pub conn : new.conn ≡ old.conn
  pub lanes : new.incoming.route.lanes ≡ old.incoming.route.lanes
  pub live : new.live ≡ true → old.live ≡ true
  pub out_of_memory : is_out_of_memory old ≡ true → is_out_of_memory new ≡ true
  pub mute : old.outgoing.sending ≢ sendings.Open → new.outgoing.sending ≡ old.outgoing.sending

-- The rules of a connection in a call. If memory ran out, it isn't read. If nothing more is sent to it, nothing is written.
-- Before Stop it isn't read if 65,536 bytes or more of those that were unsent weren't written.
pub record KeepsRules (phase : Phase) (old new : Link) (before after : LinkState) : Type 0 where
  pub remains : Remains old new
  pub out_of_memory : is_out_of_memory old ≡ true → after.reads ≡ before.reads
  pub mute : old.outgoing.sending ≢ sendings.Open → after.output ≡ before.output
  pub waiting : phase ≡ Going → 65536 + length after.output ≤ length old.outgoing.unsent + length before.output → after.reads ≡ before.reads

-- nothing is unsent if the link is open and isn't full
abbrev pub IsSent : Link → LinkState → Type 0
IsSent link s = link.live ≡ true → s.full ≡ false → link.outgoing.unsent ≡ []

-- a read writes nothing, and makes nothing more unsent
pub record LeavesOutput (old new : Link) (before after : LinkState) : Type 0 where
  pub output : after.output ≡ before.output
  pub sent : IsSent old before → IsSent new after
  pub unsent : length new.outgoing.unsent ≤ length old.outgoing.unsent

-- a link may be read: it is open and owed a read, memory didn't run out for it, and before Stop fewer than 65,536 bytes are unsent
pub record MayRead (phase : Phase) (link : Link) : Type 0 where
  pub live : link.live ≡ true
  pub owed : link.owed ≡ true
  pub well : is_out_of_memory link ≡ false
  pub light : phase ≡ Going → length link.outgoing.unsent < 65536

-- a link was read at most once, and once if it is still owed a read
pub record IsReadOnce (new : Link) (before after : LinkState) : Type 0 where
  pub once : new.owed ≡ true → WasRead 1 before after
  pub most : WasReadAtMost 1 before after

-- what reading on does for a connection
pub record ReadsOn (phase : Phase) (old new : Link) (before after : LinkState) : Type 0 where
  pub remains : Remains old new
  pub out_of_memory : is_out_of_memory old ≡ true → after.reads ≡ before.reads
  pub output_full : phase ≡ Going → 65536 ≤ length old.outgoing.unsent → after.reads ≡ before.reads
  pub closed : old.live ≡ false → after.reads ≡ before.reads
  pub output : after.output ≡ before.output
  pub sent : IsSent old before → IsSent new after

-- only the way in of a connection changed
pub record SameSides (old new : Link) : Type 0 where
  pub number : new.number ≡ old.number
  pub conn : new.conn ≡ old.conn
  pub live : new.live ≡ old.live
  pub owed : new.owed ≡ old.owed
  pub shut : new.shut ≡ old.shut
  pub outgoing : new.outgoing ≡ old.outgoing

-- a connection failed: its link is closed, nothing more is sent to it, and no more bytes come
pub record Fails (old new : Link) : Type 0 where
  pub number : new.number ≡ old.number
  pub conn : new.conn ≡ old.conn
  pub live : new.live ≡ false
  pub owed : new.owed ≡ old.owed
  pub shut : new.shut ≡ old.shut
  pub lanes : new.incoming.route.lanes ≡ old.incoming.route.lanes
  pub incoming : (read : List ℕ) (put : ℕ → List Body) (marks : Marks) → Receives old.incoming read put marks → Receives new.incoming read put (record marks { over = true })
  pub outgoing : (output answers : List ℕ) → Sends old.outgoing output answers → Sends new.outgoing output answers
  pub unsent : new.outgoing.unsent ≡ []
  pub over : new.outgoing.sending ≡ sendings.Over → old.outgoing.sending ≡ sendings.Over
  pub out_of_memory : new.outgoing.sending ≡ sendings.OutOfMemory → old.outgoing.sending ≡ sendings.OutOfMemory
  pub keeps : IncomingKeeps old.incoming new.incoming
  pub remains : Remains old new

-- each link that is open and owed a read was so before
abbrev pub OwesNoMore : PortState → PortState → Type 0
OwesNoMore before after = (l : ℕ) → IsOwed after l → IsOwed before l

-- a connection that was shut is closed, or stays as it is
pub record Closes (old new : Link) (before after : PortState) : Type 0 where
  pub number : new.number ≡ old.number
  pub conn : new.conn ≡ old.conn
  pub lanes : new.incoming.route.lanes ≡ old.incoming.route.lanes
  pub alone : Alone old.number before after
  pub open_before : (after.link old.number).is_open ≡ true → (before.link old.number).is_open ≡ true
  pub owed : (after.link old.number).owed ≡ (before.link old.number).owed
  pub goes : (n : ℕ) (phase : Phase) (past : ℕ → List Body) (replies : List Reply) → KnowsPort phase before → LinkStands n phase old (before.link old.number) past replies
      → LinkStands n phase new (after.link old.number) past replies

-- what a reply does to its connection, whatever was put and taken before
pub record Takes (reply : Reply) (old new : Link) (before after : PortState) : Type 0 where
  pub number : new.number ≡ old.number
  pub conn : new.conn ≡ old.conn
  pub lanes : new.incoming.route.lanes ≡ old.incoming.route.lanes
  pub alone : Alone old.number before after
  pub open_before : (after.link old.number).is_open ≡ true → (before.link old.number).is_open ≡ true
  pub owed : (after.link old.number).owed ≡ (before.link old.number).owed
  pub goes : (n : ℕ) (phase : Phase) (past : ℕ → List Body) (replies : List Reply) → KnowsPort phase before → LinkStands n phase old (before.link old.number) past replies
      → LinkStands n phase new (after.link old.number) past (replies ++ reply ∷ [])

-- what a link's block means: its lane was full, 65,536 bytes are unsent, it was read 16 times, or memory ran out
abbrev pub ReasonOf : Blocked → Link → LinkState → LinkState → (ℕ → ℕ) → (ℕ → ℕ) → Type 0
ReasonOf blocks.No link before after refused_before refused_after = Unit {0}
ReasonOf blocks.InboxFull link before after refused_before refused_after = WasFull link.incoming.route refused_before refused_after
ReasonOf blocks.OutputFull link before after refused_before refused_after = 65536 ≤ length link.outgoing.unsent
ReasonOf blocks.ReadBudget link before after refused_before refused_after = WasRead 16 before after
ReasonOf blocks.OutOfMemory link before after refused_before refused_after = is_out_of_memory link ≡ true

abbrev pub BlockHasReason : Link → LinkState → LinkState → (ℕ → ℕ) → (ℕ → ℕ) → Type 0
BlockHasReason link before after refused_before refused_after = ReasonOf link.blocked link before after refused_before refused_after

-- what a pass does for a connection: it keeps its rules, its block has its reason, and what is unsent is written
pub record IsPassed (phase : Phase) (old new : Link) (before after : LinkState) (refused_before refused_after : ℕ → ℕ) : Type 0 where
  pub rules : KeepsRules phase old new before after
  pub reason : BlockHasReason new before after refused_before refused_after
  pub sent : IsSent new after

-- each link that has failed had failed before, or its count rose
abbrev pub AreBlamed : PortState → PortLedger → PortState → PortLedger → Type 0
AreBlamed before ledger_before after ledger_after = (l : ℕ) → (after.link l).failed ≡ true → ((before.link l).failed ≡ true) ⊎ HasRisen (ledger_before.links l) (ledger_after.links l)

-- the same; and the port failed as a whole exactly if it had before
pub record HasBlame (before : PortState) (ledger_before : PortLedger) (after : PortState) (ledger_after : PortLedger) : Type 0 where
  pub links : AreBlamed before ledger_before after ledger_after
  pub whole : after.failed ≡ before.failed
