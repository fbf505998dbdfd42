-- A conversation of a sender, told by how far it handed out a log.
use Rattle.std.proofs.Common.{◌≡◌, ◌++◌, ℕ, List, [], ◌∷◌}
use Rattle.lsv_dialogue.specs.Ends.{Broke, Ended, FailsBy, Matches}
use Rattle.lsv_dialogue.specs.Events.{AtEach, Event, Event.Heard, Event.Late, Event.Said}
use Rattle.lsv_dialogue.specs.Judging.{judged_at}
use Rattle.lsv_dialogue.specs.Manner.{Manner}
use Rattle.lsv_dialogue.specs.Rounds.{AreRounds, GoesInRounds, IsPaused, Round}
use Rattle.lsv_dialogue.specs.Taken.{AreTaken, Comes, Takes}
use Rattle.lsv_dialogue.specs.declared.ends.End.{End}
use Rattle.lsv_dialogue.specs.declared.ends.TalkFault.{TalkFault}
use Rattle.lsv_dialogue.specs.declared.ends.TalkFault.TheVariants as talks
use Rattle.lsv_disk.specs.View.{Image}
use Rattle.lsv_link.specs.Link.{LinkCounts}
use Rattle.lsv_link.specs.declared.connection.Connection.{Connection}
use Rattle.lsv_msg.specs.declared.messages.ServerMessage.{ServerMessage}
use Rattle.lsv_send.specs.Faults.{HandsUntil}
use Rattle.lsv_send.specs.Handing.{Far, HandsOut, IsQuiet, Source, wants_at}
use Rattle.lsv_send.specs.Sending.{sending}
use Rattle.lsv_send.specs.Talks.{far_of}
use Rattle.lsv_send.specs.declared.fault.SendFault.{SendFault}
use Rattle.lsv_send.specs.declared.sender.Place.TheVariants.{Opening}
use Rattle.lsv_send.specs.declared.sender.Sender.{Sender}
use Rattle.std.specs.Prelude.{◌≢◌}

-- the manner of a sender
abbrev pub manner_by : {W : Type 0} → (talks_ : Sender → W → List Event → Type 0) (fails_ : Sender → W → List Event → SendFault → Type 0) → Manner Sender W SendFault
manner_by talks_ fails_ = record {
  talks = talks_;
  fails = fails_;
  judges = λ s m. judged_at s.sent m;
  opened = λ s. s.place ≢ Opening;
  quiet = λ s. IsQuiet (far_of s);
  wants = λ s. wants_at (far_of s);
}

each_map : {A B C D : List Event → ServerMessage → Type 0} → ((before : List Event) (m : ServerMessage) → A before m → C before m) → ((before : List Event) (m : ServerMessage) → B before m → D before m) → (before events : List Event) → AtEach A B before events → AtEach C D before events
each_map f g before [] each = tt
each_map f g before (Heard m ∷ events) (one, rest) = (f before m one, each_map f g (before ++ Heard m ∷ []) events rest)
each_map f g before (Said m ∷ events) rest = each_map f g (before ++ Said m ∷ []) events rest
each_map f g before (Late m ∷ events) (one, rest) = (g before m one, each_map f g (before ++ Late m ∷ []) events rest)

module _ {W : Type 0} (talks_ : Sender → W → List Event → Type 0) (fails_ : Sender → W → List Event → SendFault → Type 0) (source : Source) (image : Image)
    (hands : (s : Sender) (w : W) (events : List Event) → talks_ s w events → HandsOut source image (far_of s) events)
    (until : (s : Sender) (w : W) (events : List Event) (fault : SendFault) → fails_ s w events fault → HandsUntil source image events fault) where
  comes_as : (Is : Sender → Type 0) (Was : Far → Type 0) (events : List Event) → ((s : Sender) → Is s → Was (far_of s)) → Comes (manner_by talks_ fails_) events Is → Comes (sending source image) events Was
  comes_as Is Was events f c = record { speaker = far_of c.speaker; world = tt; talks = hands c.speaker c.world events c.talks; is = f c.speaker c.is }

  takes_as : (m : ServerMessage) (s : Sender) → Takes (manner_by talks_ fails_) m s → Takes (sending source image) m (far_of s)
  takes_as m s t = record { wanting = t.wanting; takes = t.takes }

  pub taken_as : (events : List Event) → AreTaken (manner_by talks_ fails_) events → AreTaken (sending source image) events
  taken_as events taken = each_map
      (λ before m c. comes_as (Takes (manner_by talks_ fails_) m) (Takes (sending source image) m) before (takes_as m) c)
      (λ before m c. comes_as (Takes (manner_by talks_ fails_) m) (Takes (sending source image) m) before (takes_as m) c) [] events taken

  paused_as : (round : Round) (s : Sender) → IsPaused (manner_by talks_ fails_) round s → IsPaused (sending source image) round (far_of s)
  paused_as round s p = record { wanting = p.wanting; still = p.still; full = p.full }

  pub rounds_as : (before : List Event) (rounds : List Round) → AreRounds (manner_by talks_ fails_) before rounds → AreRounds (sending source image) before rounds
  rounds_as before [] each = tt
  rounds_as before (round ∷ rounds) (one, rest) =
      (record { few = one.few; paused = comes_as (IsPaused (manner_by talks_ fails_) round) (IsPaused (sending source image) round) (before ++ round.events) (paused_as round) one.paused }, rounds_as (before ++ round.events) rounds rest)

  abbrev pub goes_as : (tells : Type 0) (conn : Connection) (events : List Event) → GoesInRounds (manner_by talks_ fails_) tells conn events → GoesInRounds (sending source image) tells conn events
  goes_as tells conn events g = record {
    rounds = g.rounds;
    last = g.last;
    are = g.are;
    each = rounds_as [] g.rounds g.each;
    few = g.few;
    looks = g.looks;
    late = g.late;
    looked = g.looked;
    timely = g.timely;
    brief = g.brief;
    unput = g.unput;
    renewed = g.renewed;
  }

  abbrev pub matches_as : (tells : Type 0) (c : _) → Matches (manner_by talks_ fails_) tells c → Matches (sending source image) tells c
  matches_as tells c m = record { hears = m.hears; puts = m.puts; first = m.first; late = m.late; late_last = m.late_last; rounds = goes_as tells c.conn c.events m.rounds; made = m.made; few = m.few; continues = m.continues }

  abbrev pub ended_as : (tells : Type 0) (s : Sender) (w : W) (before after : LinkCounts) (conn : Connection) (end : End) → Ended (manner_by talks_ fails_) tells s w before after conn end → Ended (sending source image) tells (far_of s) tt before after conn end
  ended_as tells s w before after conn end e = record {
    events = e.events;
    talks = hands s w e.events e.talks;
    taken = taken_as e.events e.taken;
    refused = e.refused;
    rest = e.rest;
    matches = matches_as tells _ e.matches;
    cause = e.cause;
    unsaid = e.unsaid;
  }

  pub fails_as : (s : Sender) (w : W) (fault : TalkFault SendFault) (events : List Event) → FailsBy (manner_by talks_ fails_) s w fault events → FailsBy (sending source image) (far_of s) tt fault events
  fails_as s w talks.NoMem events f = hands s w events f
  fails_as s w (talks.Speaker fault) events f = until s w events fault f

  abbrev pub broke_as : (tells : Type 0) (s : Sender) (w : W) (before after : LinkCounts) (conn : Connection) (fault : TalkFault SendFault) → Broke (manner_by talks_ fails_) tells s w before after conn fault → Broke (sending source image) tells (far_of s) tt before after conn fault
  broke_as tells s w before after conn fault b = record {
    events = b.events;
    fails = fails_as s w fault b.events b.fails;
    taken = taken_as b.events b.taken;
    rest = b.rest;
    matches = matches_as tells _ b.matches;
    waited = b.waited;
    made = b.made;
  }
