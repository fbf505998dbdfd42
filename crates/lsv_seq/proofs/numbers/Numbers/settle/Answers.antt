use Rattle.std.proofs.Common.{◌≡◌}
use Rattle.lsv_seq.specs.Drawn.{numbers_file}
use Rattle.lsv_seq.specs.Inner.{last_in}
use Rattle.lsv_seq.specs.Value.{HasDrawn, lane_of}
use Rattle.lsv_seq.proofs.Images.{represents_pending, now_of_run}
use Rattle.lsv_seq.proofs.Runs.{reopened_moments, reopened_entry, never_changed, taken_on}
use Rattle.lsv_seq.proofs.Sounds.{changed_from, another_from}
use Rattle.lsv_seq.proofs.numbers.Numbers.settle.Goals as goal

pub returns-in_err-now-clause-any_moment : goal.returns-in_err-now-clause-any_moment
returns-in_err-now-clause-any_moment g c told =
    reopened_moments c.args.self.now c.numbers_file.result (g.D.Disk.view c.args.disk.now) (g.D.Disk.view c.open.new.disk) c.numbers_file.ensures (c.requires.represents told) (c.open.ensures.any_moment told)

pub returns-in_err-now-clause-represents : goal.returns-in_err-now-clause-represents
returns-in_err-now-clause-represents g c told =
    represents_pending c.args.self.now c.in-Some.pending (g.D.Disk.view c.open.new.disk) c.in-Some.is (g.met.D.Disk.reads_itself told c.open.new.disk)
    (now_of_run (λ f. f ≡ numbers_file (lane_of c.args.self.now)) (HasDrawn c.args.self.now) (g.D.Disk.view c.args.disk.now) (g.D.Disk.view c.open.new.disk) (g.met.D.Disk.is_now told c.open.new.disk) (returns-in_err-now-clause-any_moment g c told))

pub returns-clause-changed : goal.returns-clause-changed
returns-clause-changed g c kept now is = changed_from c.args.self.now (last_in c.in_ok-now.now) c.take.result (λ none. cc (c.in-Some.is, none)) c.take.ensures.changed kept now is

pub returns-clause-unchanged : goal.returns-clause-unchanged
returns-clause-unchanged g c told kept now is =
    never_changed c.args.self.now (g.D.Disk.view c.args.disk.now) (last_in c.in_ok-now.now) (c.requires.represents told) (g.met.D.Disk.reads_itself told c.args.disk.now)
    (reopened_entry (lane_of c.args.self.now) c.numbers_file.result (g.D.Disk.view c.args.disk.now).reads c.in_ok-now.now c.numbers_file.ensures (c.in_ok-now.ensures.absent told).0 (c.in_ok-now.ensures.last told))
    (another_from c.args.self.now (last_in c.in_ok-now.now) c.take.result c.take.ensures.changed _ is)

pub returns-clause-any_moment : goal.returns-clause-any_moment
returns-clause-any_moment g c told =
    reopened_moments c.args.self.now c.numbers_file.result (g.D.Disk.view c.args.disk.now) (g.D.Disk.view c.open.new.disk) c.numbers_file.ensures (c.requires.represents told) (c.open.ensures.any_moment told)

pub returns-clause-represents : goal.returns-clause-represents
returns-clause-represents g c told =
    taken_on c.args.self.now c.take.new.self c.in-Some.pending (g.D.Disk.view c.open.new.disk) c.in_ok-now.now c.take.result c.in-Some.is (g.met.D.Disk.reads_itself told c.open.new.disk)
    (now_of_run (λ f. f ≡ numbers_file (lane_of c.args.self.now)) (HasDrawn c.args.self.now) (g.D.Disk.view c.args.disk.now) (g.D.Disk.view c.open.new.disk) (g.met.D.Disk.is_now told c.open.new.disk) (returns-clause-any_moment g c told))
    (c.in_ok-now.ensures.represents told) c.take.ensures.journal c.take.ensures.err
