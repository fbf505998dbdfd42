-- Each lane's last number is read, and the greatest kept.
use Rattle.std.proofs.Common.{◌≡◌, max, arith, rules}
use Rattle.lsv_disk.proofs.Composition.{reads_trans}
use Rattle.lsv_forward.proofs.Drawing.{counting_goes_on, if_cause_of, if_lane_of}
use Rattle.lsv_forward.proofs.numbers.greatest.Goals as goal

pub loop-lane-preserved : goal.loop-lane-preserved
loop-lane-preserved g c =
    let more : c.max-most.result ≡ max c.loop-lane.most c.in_ok-last.last = search rules in
    counting_goes_on g.D.Disk.tells c.loop-lane.lane c.loop-lane.most c.max-most.result (c.in_ok-last.last, c.in_ok-last.field-0-1) (g.D.Disk.view c.args.disk.now) (g.D.Disk.view c.loop-lane.disk) (g.D.Disk.view c.drawn.new.disk)
    c.loop-lane.invariant (λ told. c.in_ok-last.ensures.found told) more c.drawn.ensures.monotone (λ told. c.drawn.ensures.reads told)

pub returns-in_err-last-clause-cause : goal.returns-in_err-last-clause-cause
returns-in_err-last-clause-cause g c =
    if_cause_of c.from_residual.result c.in_err-last.field-0.0 c.from_residual.ensures.1 g.D.Disk.tells (g.D.Disk.view c.args.disk.now) (g.D.Disk.view c.loop-lane.disk) (g.D.Disk.view c.drawn.new.disk)
    c.loop-lane.invariant.monotone c.loop-lane.invariant.reads c.in_err-last.ensures.cause

pub returns-in_err-last-clause-reads : goal.returns-in_err-last-clause-reads
returns-in_err-last-clause-reads g c told = reads_trans (g.D.Disk.view c.args.disk.now) (g.D.Disk.view c.loop-lane.disk) (g.D.Disk.view c.drawn.new.disk) (c.loop-lane.invariant.reads told) (c.drawn.ensures.reads told)

pub returns-in_err-last-clause-monotone : goal.returns-in_err-last-clause-monotone
returns-in_err-last-clause-monotone g c file = omega (arith, c.loop-lane.invariant.monotone file, c.drawn.ensures.monotone file)

pub returns-in_err-last-clause-lane : goal.returns-in_err-last-clause-lane
returns-in_err-last-clause-lane g c =
    if_lane_of c.from_residual.result c.in_err-last.field-0.0 c.from_residual.ensures.1 c.loop-lane.lane c.args.lanes c.in_err-last.ensures.lane c.loop-lane-test.true
