use Rattle.lsv_transcript.specs.Transcript.{all_of}
use Rattle.lsv_upstream.specs.Held.{GetsPoint}
use Rattle.lsv_upstream.proofs.laws.a_log_that_was_sent_is_held.Goals as goal

pub returns : goal.returns
returns c = λ image m log n head exit from stop plan before r k read replays is exits lane runs planned talked alike_ point writing.
    let visit = c.a_conversation_is_a_visit.ensures in
    let (past, later, event, at, has) = c.what_was_read_was_answered.ensures k read r.events plan.aim (visit.reads (all_of plan.transcript) read r k talked) point in
    let gets : GetsPoint n before r k plan.aim = record { past = past; event = event; later = later; is = at; writing = writing past later event at has; brings = has } in
    (gets, c.a_sent_log_is_held.ensures.held n head log.records exit from stop plan before r k (c.what_is_replayed_is_storable.ensures image m log head exit replays is exits) lane runs planned (visit.brings (all_of plan.transcript) read r k talked) alike_ gets)
