-- Room for replies, and replies that are put at the end.
use Rattle.std.specs.Prelude.{ℕ, ◌≡◌, ◌≤◌, ◌+◌, ◌-◌, ◌++◌, List, map}
use Rattle.std.specs.Global.{Vec}
use Rattle.std.specs.Vec.{vec_capacity, vec_len}
use Rattle.lsv_session.specs.declared.reply.Reply.{Reply}
use Rattle.lsv_machine.specs.Answers.{Answer, reply_of}

-- for how many replies more there is room
abbrev pub room_in : Vec Reply → ℕ
room_in out = vec_capacity out - vec_len out

-- these replies were put at the end, and took at most n places
pub record Puts (replies : List Reply) (n : ℕ) (out out' : Vec Reply) : Type 0 where
  pub items : out'.items ≡ out.items ++ replies
  pub room : room_in out ≤ room_in out' + n

-- such answers were put at the end as replies, and took at most two places
pub record PutsAnswers (Says : List Answer → Type 0) (out out' : Vec Reply) : Type 0 where
  pub answers : List Answer
  pub says : Says answers
  pub items : out'.items ≡ out.items ++ map reply_of answers
  pub room : room_in out ≤ room_in out' + 2
