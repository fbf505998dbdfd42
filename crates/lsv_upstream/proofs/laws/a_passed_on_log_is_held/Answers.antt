use Rattle.lsv_upstream.proofs.Bringing.{brought_all}
use Rattle.lsv_upstream.proofs.Passing.{passed_opened, passed_resumed}
use Rattle.lsv_upstream.proofs.laws.a_passed_on_log_is_held.Goals as goal

pub returns : goal.returns
returns c =
    let by = c.a_cut_ends_at_the_first_record_of_its_point.ensures.delays in
    record {
      opened = λ n before r k point rs of_lane on at opened. passed_opened by r.set.lane r.set.lanes n before r k point on at rs opened;
      resumed = λ n before r k point start rs of_lane on at resumed. passed_resumed by r.set.lane r.set.lanes n before r k point on at start rs resumed;
      all = λ n before r k point messages on brings at. brought_all n before r k point messages on brings at;
    }
