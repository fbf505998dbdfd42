-- Room for a turn.
use Rattle.std.specs.Prelude.{ℕ, ◌*◌, ◌≡◌, ◌≤◌}
use Rattle.std.specs.Global.{Vec}
use Rattle.lsv_session.specs.declared.reply.Reply.{Reply}
use Rattle.lsv_keeper.specs.Replies.{room_in}
use Rattle.lsv_keeper.specs.Value.{KeeperView, room, sessions_of}

-- there is room for a turn of this many jobs: for two connections and four replies a job
pub record HasRoom (jobs : ℕ) (v : KeeperView) (out : Vec Reply) : Type 0 where
  pub places : 2 * jobs ≤ room v
  pub replies : 4 * jobs ≤ room_in out

-- there may be more room for connections, and nothing else is otherwise
pub record IsRoomier (old new : KeeperView) : Type 0 where
  pub sessions_are : sessions_of new ≡ sessions_of old
  pub room_is : room old ≤ room new
  pub others : record new { table = old.table } ≡ old
