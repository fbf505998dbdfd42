-- Each lane's last number is read, and the greatest kept.
use Rattle.std.proofs.Common.{◌≡◌, ◌≢◌, ◌<◌, max, None, arith, rules}
use Rattle.lsv_replay.specs.Numbers.{greatest}
use Rattle.lsv_replay.specs.declared.fault.ListFault.{ListFault}
use Rattle.lsv_replay.specs.declared.fault.ListFault.TheVariants as faults
use Rattle.lsv_replay.proofs.Cases.{if_err}
use Rattle.lsv_replay.proofs.Drawing.{counting_goes_on, counting_stops}
use Rattle.lsv_replay.proofs.numbers.greatest.Goals as goal

pub loop-lane-preserved : goal.loop-lane-preserved
loop-lane-preserved g c =
    let more : c.max-most.result ≡ max c.loop-lane.most c.in_ok-last.last = search rules in
    counting_goes_on g.D.Disk.tells c.loop-lane.lane c.loop-lane.most c.max-most.result (c.in_ok-last.last, c.in_ok-last.field-0-1) (g.D.Disk.view c.args.disk.now) (g.D.Disk.view c.loop-lane.disk) (g.D.Disk.view c.drawn.new.disk)
    c.loop-lane.invariant (λ told. c.in_ok-last.ensures.found told) more c.drawn.ensures.cause.monotone (λ told. c.drawn.ensures.reads told)

pub returns-in_err-last-clause-refused : goal.returns-in_err-last-clause-refused
returns-in_err-last-clause-refused g c told =
    let less : c.loop-lane.lane < c.args.lanes = omega arith in
    if_err c.from_residual.result c.in_err-last.field-0.0 (λ (e : ListFault). e ≢ faults.Disk → greatest c.args.lanes (g.D.Disk.view c.args.disk.now).reads ≡ None) c.from_residual.ensures.1
    (λ other. counting_stops g.D.Disk.tells c.loop-lane.lane c.loop-lane.most c.args.lanes (g.D.Disk.view c.args.disk.now) (g.D.Disk.view c.loop-lane.disk) c.loop-lane.invariant less told (c.in_err-last.ensures.refused told other))
