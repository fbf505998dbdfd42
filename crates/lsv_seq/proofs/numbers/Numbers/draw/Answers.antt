use Rattle.std.proofs.Common.{◌≡◌, subst}
use Rattle.lsv_disk.specs.Throughout.{CallsAtMost}
use Rattle.lsv_seq.specs.Drawn.{numbers_file}
use Rattle.lsv_seq.specs.Value.{lane_of, pending_of}
use Rattle.lsv_seq.proofs.Runs.{draw_moments, drawn_durable, draw_calls}
use Rattle.lsv_seq.proofs.numbers.Numbers.draw.Goals as goal

pub returns-in_err-write-clause-any_moment : goal.returns-in_err-write-clause-any_moment
returns-in_err-write-clause-any_moment g c told =
    draw_moments c.args.self.now c.settle.new.self c.write.new.self.kept (pending_of c.write.new.self) (g.D.Disk.view c.args.disk.now) (g.D.Disk.view c.settle.new.disk) (g.D.Disk.view c.write.new.disk)
    c.settle.ensures.lane c.settle.ensures.last c.in_ok-settle.ensures.settled (c.settle.ensures.any_moment told) (c.write.ensures.any_moment told)

pub returns-in_err-write-clause-calls : goal.returns-in_err-write-clause-calls
returns-in_err-write-clause-calls g c told =
    draw_calls 3 5 2 2 (lane_of c.args.self.now) (lane_of c.settle.new.self) (g.D.Disk.view c.args.disk.now) (g.D.Disk.view c.settle.new.disk) (g.D.Disk.view c.write.new.disk)
    c.settle.ensures.lane.lane_is (c.settle.ensures.calls told) (c.write.ensures.calls told)

pub returns-clause-any_moment : goal.returns-clause-any_moment
returns-clause-any_moment g c told =
    draw_moments c.args.self.now c.settle.new.self c.write.new.self.kept (pending_of c.write.new.self) (g.D.Disk.view c.args.disk.now) (g.D.Disk.view c.settle.new.disk) (g.D.Disk.view c.write.new.disk)
    c.settle.ensures.lane c.settle.ensures.last c.in_ok-settle.ensures.settled (c.settle.ensures.any_moment told) (c.write.ensures.any_moment told)

pub returns-clause-durable : goal.returns-clause-durable
returns-clause-durable g c told =
    drawn_durable c.args.self.now c.settle.new.self c.write.new.self c.in-Some.number (g.D.Disk.view c.write.new.disk) c.settle.ensures.lane c.write.ensures.lane
    c.in_ok-write.ensures.drawn.0 c.in_ok-write.ensures.drawn.1 (c.write.ensures.represents told)

pub returns-clause-calls : goal.returns-clause-calls
returns-clause-calls g c told =
    draw_calls 3 5 2 2 (lane_of c.args.self.now) (lane_of c.settle.new.self) (g.D.Disk.view c.args.disk.now) (g.D.Disk.view c.settle.new.disk) (g.D.Disk.view c.write.new.disk)
    c.settle.ensures.lane.lane_is (c.settle.ensures.calls told) (c.write.ensures.calls told)

pub returns-clause-few : goal.returns-clause-few
returns-clause-few g c told none =
    let now = g.D.Disk.view c.write.new.disk in
    subst (λ disk. CallsAtMost 2 2 (λ f. f ≡ numbers_file (lane_of c.args.self.now)) (g.D.Disk.view disk) now) (c.settle.ensures.untouched none)
    (subst (λ lane. CallsAtMost 2 2 (λ f. f ≡ numbers_file lane) (g.D.Disk.view c.settle.new.disk) now) c.settle.ensures.lane.lane_is (c.write.ensures.calls told))

pub returns-in_err-write-clause-few : goal.returns-in_err-write-clause-few
returns-in_err-write-clause-few g c told none =
    let now = g.D.Disk.view c.write.new.disk in
    subst (λ disk. CallsAtMost 2 2 (λ f. f ≡ numbers_file (lane_of c.args.self.now)) (g.D.Disk.view disk) now) (c.settle.ensures.untouched none)
    (subst (λ lane. CallsAtMost 2 2 (λ f. f ≡ numbers_file lane) (g.D.Disk.view c.settle.new.disk) now) c.settle.ensures.lane.lane_is (c.write.ensures.calls told))
