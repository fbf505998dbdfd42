use Rattle.std.proofs.Common.{◌≡◌, ◌≤◌, length, arith}
use Rattle.lsvt_tests_threads.proofs.outside.run.Goals as goal

pub logsrvd-out-requires-clause-bays : goal.logsrvd-out-requires-clause-bays
logsrvd-out-requires-clause-bays g c κs within o asks =
    let few : o.lanes ≤ 8 = (c.words_ask_for_few_lanes.ensures o asks).1 in
    let bays : length c.in_ok-out.out.others.items ≡ 7 = c.in_ok-out.ensures.others in
    omega (arith, few, bays)
