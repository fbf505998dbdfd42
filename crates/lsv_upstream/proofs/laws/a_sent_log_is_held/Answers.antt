use Rattle.lsv_upstream.proofs.Asks.{Words}
use Rattle.lsv_upstream.proofs.Sending.{sent_held}
use Rattle.lsv_upstream.proofs.laws.a_sent_log_is_held.Goals as goal

pub returns : goal.returns
returns c =
    let by = c.a_cut_ends_at_the_first_record_of_its_point.ensures.delays in
    let asks = c.what_is_stored_is_requested_again.ensures in
    let words : Words = record { record_asks = asks.record; head_asks = asks.head; exit_asks = asks.exit; time_is = c.nanoseconds_are_one_time.ensures.value; number_is = c.digits_are_read_back.ensures.computed } in
    record { held = λ n head rs exit from stop plan before r k stored of_lane on planned brings alike_ at. sent_held by words n head rs exit stop before r k stored of_lane on from plan planned brings alike_ at }
