-- A conversation goes in rounds: what had come is heard, then at most sixteen messages are said, and then it is looked what has come.
use Rattle.std.specs.Prelude.{◌≡◌, ◌≢◌, ◌≤◌, ◌<◌, ◌+◌, ℕ, Bool, true, false, List, [], ◌∷◌, ◌++◌, length}
use Rattle.std.specs.List.{flat_map, AllByRecursion}
use Rattle.lsv_link.specs.declared.connection.Connection.{Connection}
use Rattle.lsv_link.specs.declared.connection.Look.{Look}
use Rattle.lsv_msg.specs.declared.messages.ClientMessage.{ClientMessage}
use Rattle.lsv_dialogue.specs.Events.{Event, frames_of, said}
use Rattle.lsv_dialogue.specs.Manner.{Manner}
use Rattle.lsv_dialogue.specs.Progress.{no_reach, progress, reach_of}
use Rattle.lsv_dialogue.specs.Taken.{Comes}
use Rattle.lsv_dialogue.specs.declared.ends.TheConstants.{MOST_PUT}
use Rattle.lsv_dialogue.specs.declared.ends.Wants.TheVariants as wants

-- a round: what was heard, and then said, and whether the read at its end might wait
pub record Round : Type 0 where
  pub events : List Event
  pub waits : Bool

-- the speaker wants something. If it is waited, it may say nothing more before a further message; else sixteen messages were said
pub record IsPaused {S W F : Type 0} (manner : Manner S W F) (round : Round) (speaker : S) : Type 0 where
  pub wanting : manner.wants speaker ≢ wants.Nothing
  pub still : round.waits ≡ true → manner.quiet speaker
  pub full : round.waits ≡ false → MOST_PUT ≤ length (said round.events)

-- at most sixteen messages were said in a round, and at its end the speaker had paused; before: the events of the rounds before
pub record IsRound {S W F : Type 0} (manner : Manner S W F) (before : List Event) (round : Round) : Type 0 where
  pub few : length (said round.events) ≤ MOST_PUT
  pub paused : Comes manner (before ++ round.events) (IsPaused manner round)

-- the same of each of these rounds
abbrev pub AreRounds : {S W F : Type 0} → Manner S W F → (before : List Event) → List Round → Type 0
AreRounds manner before [] = Unit {0}
AreRounds manner before (round ∷ rounds) = IsRound manner before round × AreRounds manner (before ++ round.events) rounds

-- a connection was renewed as often as this, by this much progress: not more often, and at least once if there was any
pub record AreRenewals (progressed renewed : ℕ) : Type 0 where
  pub few : renewed ≤ progressed
  pub some : 1 ≤ progressed → 1 ≤ renewed

-- the read at the end of a round: all that was said had been written, it waited as the round says, and the connection was renewed for the progress of the round
pub record IsLook (before : List Event) (round : Round) (look : Look) : Type 0 where
  pub put : look.put ≡ length (frames_of (said (before ++ round.events)))
  pub waited : look.waited ≡ round.waits
  pub renewed : AreRenewals (progress (reach_of no_reach before) round.events) look.renewed

-- after each of these rounds there was one read
abbrev pub AreLooks : (before : List Event) → List Round → List Look → Type 0
AreLooks before [] looks = looks ≡ []
AreLooks before (round ∷ rounds) [] = ⊥
AreLooks before (round ∷ rounds) (look ∷ looks) = IsLook before round look × AreLooks (before ++ round.events) rounds looks

-- the events of these rounds
abbrev pub events_of : List Round → List Event
events_of rounds = flat_map (λ round. round.events) rounds

-- how often a connection was renewed between these reads
abbrev pub renewals : List Look → ℕ
renewals [] = 0
renewals (look ∷ looks) = look.renewed + renewals looks

-- none of these reads might wait
abbrev pub AreBrief : List Look → Type 0
AreBrief looks = AllByRecursion (λ look. look.waited ≡ false) looks

-- fewer bytes were written than the frames of what was said have
abbrev pub IsUnput : (tells : Type 0) → (output : List ℕ) → List ClientMessage → Type 0
IsUnput tells output messages = tells → length output < length (frames_of messages)

-- a conversation on this connection: rounds, each with one read at its end, and what was heard and said since. If a write stopped, what had come was read then, without waiting
pub record GoesInRounds {S W F : Type 0} (manner : Manner S W F) (tells : Type 0) (conn : Connection) (events : List Event) : Type 0 where
  pub rounds : List Round
  pub last : List Event
  pub are : events ≡ events_of rounds ++ last
  pub each : AreRounds manner [] rounds
  pub few : length (said last) ≤ MOST_PUT
  -- the reads after the rounds, and those after a write that stopped
  pub looks : List Look
  pub late : List Look
  pub looked : tells → conn.looks ≡ looks ++ late
  pub timely : tells → AreLooks [] rounds looks
  pub brief : tells → AreBrief late
  pub unput : late ≢ [] → IsUnput tells conn.output (said events)
  -- since the last round the connection wasn't renewed more often than there was progress
  pub renewed : tells → renewals late + conn.renewed ≤ progress (reach_of no_reach (events_of rounds)) last
