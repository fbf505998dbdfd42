use Rattle.lsv_upstream.proofs.Asks.{Words}
use Rattle.lsv_upstream.proofs.Relaying.{relayed_held, relayed_stays}
use Rattle.lsv_upstream.proofs.laws.a_relayed_log_is_held.Goals as goal

pub returns : goal.returns
returns c =
    let by = c.a_cut_ends_at_the_first_record_of_its_point.ensures.delays in
    let asks = c.what_is_stored_is_requested_again.ensures in
    let words : Words = record { record_asks = asks.record; head_asks = asks.head; exit_asks = asks.exit; time_is = c.nanoseconds_are_one_time.ensures.value; number_is = c.digits_are_read_back.ensures.computed } in
    record {
      held = λ lane lanes n head rs exit runs visits stored relayed a. relayed_held by words lane lanes n head rs exit runs visits stored relayed a;
      stays = λ lane lanes n head rs exit runs visits stored relayed a more rest at alone. relayed_stays by words lane lanes n head rs exit runs visits stored relayed a more rest at alone;
    }
