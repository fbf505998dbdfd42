use Rattle.lsv_record.specs.Records.{elapsed}
use Rattle.lsv_transcript.specs.Transcript.{all_of, relayed}
use Rattle.lsv_upstream.specs.Relayed.{IsAcknowledged, IsRelayed}
use Rattle.lsv_upstream.proofs.laws.a_marked_log_is_held.Goals as goal

pub returns : goal.returns
returns c = λ image m log lane lanes n head exit runs visits v replays is read told among point writing.
    let visit = c.a_conversation_is_a_visit.ensures in
    let talk = told.each v among in
    let brought : IsRelayed lane lanes n head log.records exit runs visits = record {
      of_lane = told.of_lane;
      whole = told.whole;
      each = λ u one. record {
        at = (told.each u one).at;
        jobs = visit.brings (all_of (relayed log.records head exit u.kept)) u.read (told.each u one).at.its u.conn (told.each u one).talked;
        read = visit.reads (all_of (relayed log.records head exit u.kept)) u.read (told.each u one).at.its u.conn (told.each u one).talked;
      };
      kept = told.kept;
      alone = told.alone;
    } in
    let (past, later, event, at, has) = c.what_was_read_was_answered.ensures v.conn v.read talk.at.its.events (elapsed log.records) (visit.reads (all_of (relayed log.records head exit v.kept)) v.read talk.at.its v.conn talk.talked) point in
    let a : IsAcknowledged n log.records runs visits = record {
      visit = v;
      among = among;
      run = talk.at;
      at = record { past = past; event = event; later = later; is = at; writing = writing past later event at has; brings = has };
    } in
    (a, c.a_relayed_log_is_held.ensures.held lane lanes n head log.records exit runs visits (c.what_is_replayed_is_storable.ensures image m log head exit replays is read) brought a)
