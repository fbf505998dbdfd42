-- Which links of a server are served to their end, and how: each over which a legal conversation comes that opens a log, where nothing is in its way.
use Rattle.std.specs.Prelude.{◌≡◌, ◌≤◌, ◌<◌, ◌%◌, ◌++◌, ℕ, List, [], ◌∷◌, map, Some, Contains, slice_get}
use Rattle.std.specs.List.{flat_map}
use Rattle.lsv_defs.specs.Causes.{HasRisen}
use Rattle.lsv_disk.specs.View.{DiskView}
use Rattle.lsv_disk.specs.declared.file.FileId.{FileId}
use Rattle.lsv_iolog.specs.Recovered.{Replays}
use Rattle.lsv_msg.specs.Messages.{server_bytes}
use Rattle.lsv_msg.specs.declared.messages.ServerMessage.{ServerMessage}
use Rattle.lsv_port.specs.Port.{LinkState}
use Rattle.lsv_wire.specs.Frame.{frame_of}
use Rattle.lsv_session.specs.Connections.{server_hello}
use Rattle.lsv_session.specs.Transcript.{AreJobs, bodies_of, frames_of, messages_in, said_to}
use Rattle.lsv_session.specs.declared.connection.ConnId.{ConnId}
use Rattle.lsv_session.specs.declared.connection.ConnState.TheVariants.{Fresh}
use Rattle.lsv_session.specs.declared.job.Body.{Body}
use Rattle.lsv_session.specs.declared.job.Body.TheVariants.{Bad, Gone}
use Rattle.lsv_session.specs.declared.job.Fault.TheVariants as fault
use Rattle.lsv_machine.specs.Answers.{Saying, body_of}
use Rattle.lsv_machine.specs.Failures.{Act, WantsMemory}
use Rattle.lsv_machine.specs.Legal.{IsLegal, told_of, whole_log}
use Rattle.lsv_machine.specs.Machine.{IsOfLane, Machine, Settings}
use Rattle.lsv_machine.specs.Recovery.{Story, Turn}
use Rattle.lsv_machine.specs.Work.{last_number}
use Rattle.lsv_progress.specs.Among.{FitsAmong}
use Rattle.lsv_keeper.specs.Reading.{IsDrawn}
use Rattle.lsv_turn.specs.Turns.{LaneTurn, jobs_in, replies_in}
use Rattle.lsv_lane.specs.Store.{KeepsStore}
use Rattle.lsv_links.specs.Lanes.{one_lane}
use Rattle.lsv_links.specs.Links.{Puts, ServesPort, conn_of}
use Rattle.lsv_links.specs.Views.{LinkFailed, PortView}
use Rattle.lsv_service.specs.Lanes.{BayView}

-- ---- What may be in the way

-- memory was ample for the connection in each of these jobs that is its own
abbrev pub AreAmple : ConnId → List Act → Type 0
AreAmple k [] = Unit {0}
AreAmple k (act ∷ acts) = (act.job.conn ≡ k → WantsMemory k act.answers → ⊥) × AreAmple k acts

-- and in each of these turns
abbrev pub AllAmple : ConnId → List Turn → Type 0
AllAmple k [] = Unit {0}
AllAmple k (turn ∷ turns) = AreAmple k turn.acts × AllAmple k turns

-- nothing was in the way of a connection over which a legal conversation came. input: all bytes that were read of its link. start: the machine at the start of the run. story: the turns as the machine did them. bodies: the conversation
pub record IsUnhindered (set : Settings) (found left : DiskView) (k : ConnId) (input : List ℕ) (turns : List LaneTurn) (start : Machine) (story : Story) (bodies : List Body) : Type 0 where
  -- all that was read is the conversation, and it opens a log. number: stands for the log's in the states of the conversation; it is legal with any, if with one
  pub sent : AreJobs input bodies
  pub number : ℕ
  pub legal : IsLegal number Fresh bodies
  -- whichever number its log gets, no file, elapsed time or log number passes its limit
  pub fits : FitsAmong set k start story.turns bodies
  -- no call of the disk failed
  pub no_call_failed : (file : FileId) → HasRisen (found.faults file) (left.faults file) → ⊥
  -- memory was ample for this connection, where its bytes were cut into jobs and where these were done
  pub had_memory : Contains (bodies_of k (jobs_in turns)) (Bad fault.NoMem) → ⊥
  pub ample : AllAmple k story.turns

-- ---- What comes of it

-- what came of the connection, turn by turn
abbrev pub came_by : ConnId → List LaneTurn → List (List Body)
came_by k turns = map (λ t. bodies_of k t.jobs) turns

-- what is told, as messages
abbrev pub messages_of : List Saying → List ServerMessage
messages_of sayings = flat_map (λ says. messages_in (body_of says)) sayings

-- all bytes for a connection that is told this: the server's hello, and the frames of these messages
abbrev pub answers_of : List Saying → List ℕ
answers_of sayings = frame_of (server_bytes server_hello) ++ frames_of (messages_of sayings)

-- the conversation was served, and n is the number of its log
pub record IsServedBy (set : Settings) (texts : List (List ℕ)) (found left : DiskView) (k : ConnId) (link : LinkState) (failed : Type 0) (turns : List LaneTurn) (bodies : List Body) (n : ℕ) : Type 0 where
  -- all of it came, and then the connection's end
  pub came : bodies_of k (jobs_in turns) ≡ bodies ++ Gone ∷ []
  -- the number is one of the lane, so the log is of its store
  pub own : IsOfLane set.lane set.lanes n
  -- it is above the last one that was drawn before the run
  pub above : (last : ℕ) → IsDrawn set.lane set.lanes found.reads last → last < n
  -- and at most the last number of a log
  pub within : n ≤ last_number
  -- what was said to it are the log's number, a commit point for each turn with records, and the exit's
  pub said : said_to k (replies_in turns) ≡ messages_of (told_of n (came_by k turns))
  -- what was put on the link is the hello and these: a prefix of it, and all of it where no call on the link failed and it wasn't full when it was last open
  pub put : Puts link failed (answers_of (told_of n (came_by k turns)))
  -- the log replays as all that was sent, as it is masked, with its exit
  pub log : Replays left.reads n (Some (whole_log texts bodies))

-- each link of this worker's port that was opened as a connection, and over which a legal conversation came, was served so, where nothing was in the way
abbrev pub Completes : {disk_tells : Type 0} (set : Settings) (texts : List (List ℕ)) (found left : DiskView) (turns : List LaneTurn) (keeps : KeepsStore (Unit {0}) set texts (record { found = found; left = left }) turns)
    → (worker : ℕ) (before after : PortView) → ServesPort (λ lane. disk_tells) 1 worker (λ lane. jobs_in (one_lane lane turns)) (λ lane. replies_in (one_lane lane turns)) before after → Type 0
Completes set texts found left turns keeps worker before after served =
    (l seq : ℕ) (bodies : List Body) → Contains served.seats.opened l → served.seats.seat l ≡ Some seq
    → IsUnhindered set found left (conn_of worker seq) (after.state.link l).input turns (keeps.conforms tt).ran.start keeps.story bodies
    → (n : ℕ) × IsServedBy set texts found left (conn_of worker seq) (after.state.link l) (LinkFailed l before after) turns bodies n

-- ---- Of several lanes

-- what the turns of each lane did with its store, of this many that were opened
abbrev pub KeepLanes : {X : Type 0} (view : X → BayView) (set : ℕ → Settings) (texts : List (List ℕ)) (opened : ℕ) (olds news : List X) (turns : ℕ → List LaneTurn) → Type 0
KeepLanes {X} view set texts opened olds news turns = (m : ℕ) (found left : X) → m < opened → slice_get olds m ≡ Some found → slice_get news m ≡ Some left
    → KeepsStore (Unit {0}) (set m) texts (record { found = (view found).disk; left = (view left).disk }) (turns m)

-- Each link of this worker's port that was opened as a connection, and over which a legal conversation came, was served so by its home
-- lane, if nothing was in the way.
abbrev pub CompletesLanes : {X disk_tells : Type 0} (view : X → BayView) (set : ℕ → Settings) (texts : List (List ℕ)) (lanes opened : ℕ) (olds news : List X) (turns : ℕ → List LaneTurn) → KeepLanes view set texts opened olds news turns
    → (worker : ℕ) (before after : PortView) → ServesPort (λ m. disk_tells) lanes worker (λ m. jobs_in (turns m)) (λ m. replies_in (turns m)) before after → Type 0
CompletesLanes {X} view set texts lanes opened olds news turns keeps worker before after served =
    (l seq : ℕ) (bodies : List Body) (found left : X) → Contains served.seats.opened l → served.seats.seat l ≡ Some seq
    → (below : seq % lanes < opened) (was : slice_get olds (seq % lanes) ≡ Some found) (is : slice_get news (seq % lanes) ≡ Some left)
    → IsUnhindered (set (seq % lanes)) (view found).disk (view left).disk (conn_of worker seq) (after.state.link l).input (turns (seq % lanes)) ((keeps (seq % lanes) found left below was is).conforms tt).ran.start (keeps (seq % lanes) found left below was is).story bodies
    → (n : ℕ) × IsServedBy (set (seq % lanes)) texts (view found).disk (view left).disk (conn_of worker seq) (after.state.link l) (LinkFailed l before after) (turns (seq % lanes)) bodies n
