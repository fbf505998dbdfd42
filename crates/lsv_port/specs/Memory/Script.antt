-- What a script makes of each link.
use Rattle.std.specs.Prelude.{ℕ, ◌==◌, ◌&&◌, Bool, true, false, not, nat_lt, if◌then◌else◌, List, [], ◌++◌}
use Rattle.std.specs.List.{fold}
use Rattle.lsv_port.specs.declared.step.Step.{Step}
use Rattle.lsv_port.specs.declared.step.Step.TheVariants.{Open, Give, Room, Last, Break, BreakTurn, Wake, Stop}

-- what was sent on a link: whether it was opened, the bytes, and whether they have ended
pub record Sent : Type 0 where
  pub opened : Bool
  pub bytes : List ℕ
  pub ended : Bool

-- a link that wasn't opened
abbrev pub unsent : Sent
unsent = record { opened = false; bytes = []; ended = false }

-- a link may have this number: it is at most 1,000,000
abbrev pub may_open : ℕ → Bool
may_open l = nat_lt l 1000001

-- more may be sent on the link
abbrev pub goes_on : Sent → Bool
goes_on sent = sent.opened && not sent.ended

-- what was sent on this link after one step more
abbrev pub sent_next : ℕ → Sent → Step → Sent
sent_next l sent (Open k) = if k == l && may_open l then record sent { opened = true } else sent
sent_next l sent (Give k bytes) = if k == l && goes_on sent then record sent { bytes = sent.bytes ++ bytes } else sent
sent_next l sent (Room k n) = sent
sent_next l sent (Last k) = if k == l && goes_on sent then record sent { ended = true } else sent
sent_next l sent (Break k) = sent
sent_next l sent BreakTurn = sent
sent_next l sent Wake = sent
sent_next l sent Stop = sent

-- what was sent on this link by these steps
abbrev pub sent_by : ℕ → List Step → Sent
sent_by l steps = fold (sent_next l) unsent steps

-- the step makes the turn fail
abbrev pub fails_turn : Step → Bool
fails_turn (Open l) = false
fails_turn (Give l bytes) = false
fails_turn (Room l count) = false
fails_turn (Last l) = false
fails_turn (Break l) = false
fails_turn BreakTurn = true
fails_turn Wake = false
fails_turn Stop = false

-- the step tells Stop
abbrev pub is_stop : Step → Bool
is_stop (Open l) = false
is_stop (Give l bytes) = false
is_stop (Room l count) = false
is_stop (Last l) = false
is_stop (Break l) = false
is_stop BreakTurn = false
is_stop Wake = false
is_stop Stop = true
