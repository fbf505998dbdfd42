use Rattle.std.proofs.Common.{rules}
use Rattle.lsvt_conversations.proofs.converse.Goals as goal
use Rattle.lsvt_conversations.proofs.converse.Goals.{in-turn+in_ok-turn-in-turn, in-stop+in_ok-stop-in-stop, in_default+in_ok-push-in_default}

pub loop-line-preserved : goal.loop-line-preserved
loop-line-preserved c = elim c.match-as_str.branch [
  | in-turn+in_ok-turn-in-turn w ↦ search rules
  | in-stop+in_ok-stop-in-stop w ↦ search rules
  | in_default+in_ok-push-in_default w ↦ search rules
]
