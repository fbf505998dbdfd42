-- What a worker matches: the links of its port, the jobs that it put and the replies that it took.
use Rattle.std.specs.Prelude.{◌≡◌, ◌≢◌, ◌⊎◌, ℕ, ◌<◌, ◌≤◌, ◌+◌, ◌%◌, ◌==◌, not, Bool, true, false, List, [], ◌∷◌, ◌++◌, length, map, slice_index_or}
use Rattle.std.specs.List.{Contains, filter}
use Rattle.std.specs.Vec.{vec_capacity, vec_len}
use Rattle.lsv_port.specs.Port.{PortState, IsOpen, IsOwed}
use Rattle.lsv_port.specs.declared.port.Ready.{Ready}
use Rattle.lsv_port.specs.declared.port.Ready.TheVariants.{Opened, Readable, Writable, Woken, Stop}
use Rattle.lsv_wire.specs.Frame.{frame_of}
use Rattle.lsv_msg.specs.Messages.{server_bytes}
use Rattle.lsv_session.specs.Connections.{same, server_hello}
use Rattle.lsv_session.specs.Transcript.{bodies_of}
use Rattle.lsv_session.specs.declared.connection.ConnId.{ConnId}
use Rattle.lsv_session.specs.declared.job.Job.{Job}
use Rattle.lsv_session.specs.declared.reply.Reply.{Reply}
use Rattle.lsv_links.specs.Views.{IsCrowded}
use Rattle.lsv_worker.specs.Incoming.{Receives, has_left}
use Rattle.lsv_worker.specs.Outgoing.{Sends}
use Rattle.lsv_worker.specs.Links.{IsPassed, IsSent, IsSpared, KnowsPort, KeepsRules, LinkStands, BlockHasReason, ReadsNone, Remains, WasReadAtMost, is_done, reads_in}
use Rattle.lsv_worker.specs.declared.link.Link.{Link}
use Rattle.lsv_worker.specs.declared.link.Blocked.TheVariants as blocks
use Rattle.lsv_worker.specs.declared.link.Phase.{Phase}
use Rattle.lsv_worker.specs.declared.link.Phase.TheVariants.{Going, Stopping}
use Rattle.lsv_worker.specs.declared.outgoing.Sending.TheVariants.{Open}
use Rattle.lsv_worker.specs.declared.worker.Worker.{Worker}

-- a worker's number, its number of lanes, the number of its next connection, its count of links turned away, and its phase
pub record Setting : Type 0 where
  pub number : ℕ
  pub lanes : ℕ
  pub next : ℕ
  pub turned_away : ℕ
  pub phase : Phase

abbrev pub setting : Worker → Setting
setting w = record { number = w.number; lanes = w.lanes; next = w.next; turned_away = w.turned_away; phase = w.phase }

-- the links that something keeps from being read are held
abbrev pub AreHeld : List ℕ → List Link → Type 0
AreHeld held [] = Unit {0}
AreHeld held (link ∷ links) = (link.blocked ≢ blocks.No → Contains held link.number) × AreHeld held links

-- a link that nothing keeps from being read is owed no read
abbrev pub IsReadOut : Link → Type 0
IsReadOut link = link.blocked ≡ blocks.No → link.live ≡ true → link.owed ≡ false

abbrev pub AreReadOut : List Link → Type 0
AreReadOut [] = Unit {0}
AreReadOut (link ∷ links) = IsReadOut link × AreReadOut links

-- the connections that aren't over
abbrev pub undone : List Link → List Link
undone links = filter (λ link. not (is_done link)) links

-- no link of a table was read to which 65,536 bytes or more are still unsent
abbrev pub AreSpared : List Link → PortState → PortState → Type 0
AreSpared [] before after = Unit {0}
AreSpared (link ∷ links) before after = IsSpared link (before.link link.number) (after.link link.number) × AreSpared links before after

-- each link is read at most 16 times in a call; before Stop not while 65,536 bytes or more are unsent; and not in a phase without reads
pub record AreReadWithin (phase : Phase) (links : List Link) (before after : PortState) : Type 0 where
  pub reads : (l : ℕ) → WasReadAtMost 16 (before.link l) (after.link l)
  pub output_full : phase ≡ Going → AreSpared links before after
  pub unread : reads_in phase ≡ false → ReadsNone before after

-- each connection goes to one of `lanes` lanes
abbrev pub AreOfLanes : ℕ → List Link → Type 0
AreOfLanes lanes [] = Unit {0}
AreOfLanes lanes (link ∷ links) = (link.incoming.route.lanes ≡ lanes) × AreOfLanes lanes links

-- each connection is of the worker of this number
abbrev pub AreOfWorker : ℕ → List Link → Type 0
AreOfWorker worker [] = Unit {0}
AreOfWorker worker (link ∷ links) = (link.conn.worker ≡ worker) × AreOfWorker worker links

-- the numbers of the links that a worker holds
abbrev pub held_by : Worker → List ℕ
held_by w = w.held.items

-- a worker's connection of this number
abbrev pub conn_at : Setting → ℕ → ConnId
conn_at set seq = record { worker = set.number; seq = seq }

-- the worker has made a connection of this number
pub record IsMade (set : Setting) (seq : ℕ) : Type 0 where
  pub first : 1 ≤ seq
  pub below : seq < set.next

-- no connection in a table has this number
abbrev pub IsApart : ℕ → List Link → Type 0
IsApart seq [] = Unit {0}
IsApart seq (link ∷ links) = (link.conn.seq ≢ seq) × IsApart seq links

-- the connections in a table are as they were last, and each is there once
abbrev pub AreLast : (ℕ → Link) → Setting → List Link → Type 0
AreLast last set [] = Unit {0}
AreLast last set (link ∷ links) = IsMade set link.conn.seq × (last link.conn.seq ≡ link) × IsApart link.conn.seq links × AreLast last set links

-- a connection of this number is in a table
abbrev pub IsIn : ℕ → List Link → Type 0
IsIn seq [] = ⊥
IsIn seq (link ∷ links) = (link.conn.seq ≡ seq) ⊎ IsIn seq links

-- A link that is no connection. It was closed unread and unwritten, before the port opened another one, announced Stop or failed as
-- a whole. Either 128 others were open then, or the worker has counted at least one link as turned away because memory or numbers
-- ran out. It isn't said that this link is the counted one.
pub record IsTurnedAway (set : Setting) (port : PortState) (l : ℕ) : Type 0 where
  pub input : (port.link l).input ≡ []
  pub reads : (port.link l).reads ≡ []
  pub output : (port.link l).output ≡ []
  pub closed : (port.link l).is_open ≡ false
  pub at_once : (m : ℕ) → Contains port.opened m → (port.link m).beside l ≡ false
  pub early : (port.link l).late ≡ false
  pub why : IsCrowded (port.link l).beside ⊎ (1 ≤ set.turned_away)

-- no reply is to this connection
abbrev pub IsUnasked : ConnId → List Reply → Type 0
IsUnasked c [] = Unit {0}
IsUnasked c (reply ∷ replies) = (same reply.conn c ≡ false) × IsUnasked c replies

-- The connections made so far match all jobs that were put to each lane and all replies that were taken. Each counts as it was last,
-- also if it is over. The table has all that aren't over.
pub record Stands (set : Setting) (links : List Link) (port : PortState) (jobs : ℕ → List Job) (replies : List Reply) : Type 0 where
  pub last : ℕ → Link
  pub table : AreLast last set links
  pub complete : (k : ℕ) → IsMade set k → is_done (last k) ≡ false → IsIn k links
  pub conn : (k : ℕ) → IsMade set k → (last k).conn ≡ conn_at set k
  pub each : (k : ℕ) → IsMade set k → LinkStands set.lanes set.phase (last k) (port.link (last k).number) (λ lane. bodies_of (last k).conn (jobs lane)) replies
  pub apart : (j k : ℕ) → IsMade set j → IsMade set k → j ≢ k → (last j).number ≢ (last k).number
  pub known : (k : ℕ) → IsMade set k → Contains port.opened (last k).number
  pub few : (k : ℕ) → IsMade set k → IsCrowded (port.link (last k).number).beside → ⊥
  pub linked : (l : ℕ) → IsOpen port l → (k : ℕ) × IsMade set k × ((last k).number ≡ l)
  pub unused : (k : ℕ) → (IsMade set k → ⊥) → (lane : ℕ) → bodies_of (conn_at set k) (jobs lane) ≡ []
  pub unasked : (k : ℕ) → (IsMade set k → ⊥) → IsUnasked (conn_at set k) replies
  pub away : (l : ℕ) → Contains port.opened l → ((k : ℕ) → IsMade set k → (last k).number ≢ l) → IsTurnedAway set port l
  pub beside : (m l : ℕ) → Contains port.opened m → (port.link m).beside l ≡ true → Contains port.opened l
  pub told : KnowsPort set.phase port

-- what calls for a worker's connections put to each lane, whatever was put and taken before
pub record Steps (set : Setting) (old new : List Link) (before after : PortState) (jobs_before jobs_after : ℕ → List Job) : Type 0 where
  pub added : ℕ → List Job
  pub put : (lane : ℕ) → jobs_after lane ≡ jobs_before lane ++ added lane
  pub goes : (jobs : ℕ → List Job) (replies : List Reply) → Stands set old before jobs replies → Stands set new after (λ lane. jobs lane ++ added lane) replies

-- the table of a worker in this phase matches its port
pub record IsTable (phase : Phase) (links : List Link) (port : PortState) : Type 0 where
  pub set : Setting
  pub phase_is : set.phase ≡ phase
  pub jobs : ℕ → List Job
  pub replies : List Reply
  pub stands : Stands set links port jobs replies

-- a worker matches its port, the jobs that were put to each lane and the replies that were taken
abbrev pub Represents : Worker → PortState → (ℕ → List Job) → List Reply → Type 0
Represents w port jobs replies = Stands (setting w) w.links.items port jobs replies

-- a worker matches its port
pub record IsAt (w : Worker) (port : PortState) : Type 0 where
  pub jobs : ℕ → List Job
  pub replies : List Reply
  pub represents : Represents w port jobs replies

-- what a call puts to each lane, whatever was put and taken before
pub record Goes (old new : Worker) (before after : PortState) (jobs_before jobs_after : ℕ → List Job) : Type 0 where
  pub added : ℕ → List Job
  pub put : (lane : ℕ) → jobs_after lane ≡ jobs_before lane ++ added lane
  pub goes : (jobs : ℕ → List Job) (replies : List Reply) → Represents old before jobs replies → Represents new after (λ lane. jobs lane ++ added lane) replies

-- it is the same worker, and it forgot no connection's number
pub record IsSameWorker (old new : Worker) : Type 0 where
  pub number : new.number ≡ old.number
  pub lanes : new.lanes ≡ old.lanes
  pub next : old.next ≤ new.next

-- each link that is open and owed a read is held
abbrev pub HoldsOwed : Worker → PortState → Type 0
HoldsOwed w port = (l : ℕ) → IsOwed port l → Contains (held_by w) l

-- a link is held for a reason
pub record IsHeldFor (w : Worker) (l : ℕ) (before after : PortState) (refused_before refused_after : ℕ → ℕ) : Type 0 where
  pub link : Link
  pub is : Contains w.links.items link
  pub number : link.number ≡ l
  pub blocked_by : link.blocked ≢ blocks.No
  pub reason : BlockHasReason link (before.link l) (after.link l) refused_before refused_after

-- nothing is unsent to any open link that isn't full
abbrev pub IsWritten : List Link → PortState → Type 0
IsWritten links port = (link : Link) → Contains links link → IsSent link (port.link link.number)

-- a connection of a table has this later form, which is in the later table unless it is over
pub record HasLater (phase : Phase) (link : Link) (links : List Link) (before after : PortState) : Type 0 where
  pub new : Link
  pub stands : is_done new ≡ false → Contains links new
  pub rules : KeepsRules phase link new (before.link link.number) (after.link link.number)

-- each connection of a table keeps its rules in a call
abbrev pub KeepRules : Phase → List Link → List Link → PortState → PortState → Type 0
KeepRules phase olds links before after = (link : Link) → Contains olds link → HasLater phase link links before after

-- What a worker does for its links in a call. Each that is owed a read is held, and none is held without a reason. Each is read within
-- the limits, what is unsent is written, and each connection keeps its rules.
pub record ServicesLinks (old new : Worker) (before after : PortState) (refused_before refused_after : ℕ → ℕ) : Type 0 where
  pub owed : reads_in new.phase ≡ true → HoldsOwed new after
  pub held : (l : ℕ) → Contains (held_by new) l → IsHeldFor new l before after refused_before refused_after
  pub limits : AreReadWithin new.phase new.links.items before after
  pub written : IsWritten new.links.items after
  pub rules : KeepRules new.phase old.links.items new.links.items before after

-- only the connections of a worker's table changed
pub record OnlyLinksChange (old new : Worker) : Type 0 where
  pub set : setting new ≡ setting old
  pub held : held_by new ≡ held_by old

-- what a pass does for each connection of a table
pub record ArePassed (phase : Phase) (olds links : List Link) (before after : PortState) (refused_before refused_after : ℕ → ℕ) : Type 0 where
  pub size : length links ≡ length olds
  pub each : (i : ℕ) (d : Link) → i < length olds
      → IsPassed phase (slice_index_or olds i d) (slice_index_or links i d) (before.link (slice_index_or olds i d).number) (after.link (slice_index_or olds i d).number) refused_before refused_after

-- each connection of a table stays the same one
pub record AllRemain (olds links : List Link) : Type 0 where
  pub size : length links ≡ length olds
  pub each : (i : ℕ) (d : Link) → i < length olds → Remains (slice_index_or olds i d) (slice_index_or links i d)

-- a link that something keeps from being read is one of a table
pub record IsBlocked (links : List Link) (l : ℕ) : Type 0 where
  pub link : Link
  pub is : Contains links link
  pub number : link.number ≡ l
  pub blocked_by : link.blocked ≢ blocks.No

-- no connection of a table is open
abbrev pub AreClosed : List Link → Type 0
AreClosed links = (i : ℕ) (d : Link) → i < length links → (slice_index_or links i d).live ≡ false

-- if a connection of this number is in a table, its Gone wasn't put
abbrev pub IsThere : ℕ → List Link → Type 0
IsThere seq links = (link : Link) → Contains links link → link.conn.seq ≡ seq → has_left link.incoming.stage ≡ false

-- the connections whose links are open
abbrev pub open_in : List Link → List Link
open_in links = filter (λ link. link.live) links

-- a worker has from 1 to 8 lanes, room for the numbers of all its links, and at most 128 open links; and its connections have its number
pub record IsFit (w : Worker) : Type 0 where
  pub first : 1 ≤ w.next
  pub some : 1 ≤ w.lanes
  pub few : w.lanes ≤ 8
  pub room : vec_len w.links ≤ vec_capacity w.held
  pub lanes : AreOfLanes w.lanes w.links.items
  pub workers : AreOfWorker w.number w.links.items
  pub open_few : length (open_in w.links.items) ≤ 128

-- each connection's Gone was put, and each was shut
abbrev pub HaveLeft : List Link → Type 0
HaveLeft links = (i : ℕ) (d : Link) → i < length links → ((slice_index_or links i d).shut ≡ true) × (has_left (slice_index_or links i d).incoming.stage ≡ true)

-- the phase after the port reported this
abbrev pub phase_after : Ready → Phase
phase_after (Opened l) = Going
phase_after (Readable l) = Going
phase_after (Writable l) = Going
phase_after Woken = Going
phase_after Stop = Stopping

-- the link, owed a read if its number is the one that was asked for
abbrev pub owed_if : Bool → Link → Link
owed_if true link = record link { owed = true }
owed_if false link = link

abbrev pub marked : ℕ → List Link → List Link
marked number links = map (λ link. owed_if (link.number == number) link) links

-- a connection is in a table, perhaps with another note of whether it is owed a read
pub record IsNoted (link : Link) (links : List Link) : Type 0 where
  pub owed : Bool
  pub is : Contains links (record link { owed = owed })

-- a connection that was just made for a link: the server's hello is unsent, and nothing else came or went
pub record IsFresh (set : Setting) (number : ℕ) (link : Link) : Type 0 where
  pub number_is : link.number ≡ number
  pub conn : link.conn ≡ conn_at set set.next
  pub lanes : link.incoming.route.lanes ≡ set.lanes
  pub incoming : Receives link.incoming [] (λ lane. []) (record { lanes = set.lanes; home = set.next % set.lanes; shut = false; over = false })
  pub outgoing : Sends link.outgoing [] (frame_of (server_bytes server_hello))
  pub sending : link.outgoing.sending ≡ Open
  pub live : link.live ≡ true
  pub owed : link.owed ≡ true
  pub shut : link.shut ≡ false

-- a connection was made
pub record Admits (link : Link) (old new : Worker) : Type 0 where
  pub set : setting new ≡ record (setting old) { next = old.next + 1 }
  pub links : new.links.items ≡ old.links.items ++ link ∷ []
