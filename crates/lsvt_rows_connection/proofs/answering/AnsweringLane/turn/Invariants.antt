use Rattle.std.proofs.Common.{◌≡◌, []}
use Rattle.lsv_session.specs.Transcript.{bodies_of}
use Rattle.lsv_session.specs.declared.connection.ConnId.{ConnId}
use Rattle.lsv_turn.specs.Turns.{NoneFor}
use Rattle.lsvt_rows_connection.proofs.answering.AnsweringLane.turn.Given as goal

-- who brought none of these jobs was replied to in none of these replies
abbrev pub invariant-loop-job : goal.invariant-loop-job
invariant-loop-job l = (k : ConnId) → bodies_of k l.job-items ≡ [] → NoneFor k l.replies.items
