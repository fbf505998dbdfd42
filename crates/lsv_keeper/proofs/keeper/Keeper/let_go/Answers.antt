use Rattle.std.proofs.Common.{Some}
use Rattle.lsv_disk.specs.View.{DiskView}
use Rattle.lsv_iolog.specs.Value.{IoLogView}
use Rattle.lsv_keeper.specs.Views.{view_of}
use Rattle.lsv_keeper.proofs.Departing.{departs_fewer, departs_keeps, departs_owed, ends_flush, out_left, out_value}
use Rattle.lsv_keeper.proofs.Frames.{Laws}
use Rattle.lsv_keeper.proofs.Syncing.{let_go_once}
use Rattle.lsv_keeper.proofs.Causes.{departs_goes}
use Rattle.lsv_keeper.proofs.keeper.Keeper.let_go.Goals as goal

pub flush-requires : goal.flush-requires
flush-requires g c = record {
  represents = λ told whole. let (before, m, out, at) = c.requires.taken_out told in out_value c.args.log c.args.its before (view_of c.args.self.now) (g.D.Disk.view c.args.disk.now) m out at;
}

pub returns-clause-gone : goal.returns-clause-gone
returns-clause-gone g c = record {
  keeps = departs_keeps (Some c.args.log) c.args.conn c.args.state (view_of c.args.self.now) (view_of c.release.new.self) c.release.ensures.departs c.release.ensures.room;
  left = λ told before m out at is.
      let old : DiskView = g.D.Disk.view c.args.disk.now in
      let new : DiskView = g.D.Disk.view c.flush.new.disk in
      let laws : Laws old = record { reads_itself = g.met.D.Disk.reads_itself told c.args.disk.now; is_now = g.met.D.Disk.is_now told c.args.disk.now; only_now = g.met.D.Disk.only_now told c.args.disk.now } in
      let laws' : Laws new = record { reads_itself = g.met.D.Disk.reads_itself told c.flush.new.disk; is_now = g.met.D.Disk.is_now told c.flush.new.disk; only_now = g.met.D.Disk.only_now told c.flush.new.disk } in
      let after : IoLogView = c.flush.new.self in
      out_left c.args.log c.args.its before (view_of c.args.self.now) (view_of c.release.new.self) old new m c.args.conn c.args.state laws laws' at is c.requires.writes_none out
      c.release.ensures.departs c.release.ensures.logs
      (λ value represents. ends_flush c.args.its.log after value old new c.flush.result represents c.flush.ensures.counts.number (c.flush.ensures.represents told)
      (c.flush.ensures.any_moment told value represents) c.flush.ensures.fault c.flush.ensures.broken c.flush.ensures.cause);
  syncs = λ told before m out at is.
      let_go_once c.args.log c.args.its before (view_of c.args.self.now) (view_of c.release.new.self) (g.D.Disk.view c.args.disk.now) (g.D.Disk.view c.flush.new.disk) m c.args.conn c.args.state at is out
      c.release.ensures.departs (c.flush.ensures.calls told);
  does = λ is.
      departs_goes c.args.log c.args.conn c.args.state (view_of c.args.self.now) (view_of c.release.new.self) (g.D.Disk.view c.args.disk.now) (g.D.Disk.view c.flush.new.disk) c.requires.writes_none c.release.ensures.departs c.release.ensures.logs
      (λ linked. linked c.args.conn c.args.log is) c.flush.ensures.cause.monotone;
}

pub returns-clause-enters : goal.returns-clause-enters
returns-clause-enters g c = record {
  states = λ t j. c.release.ensures.departs.states j t;
  shrinks = departs_owed (Some c.args.log) c.args.conn c.args.state (view_of c.args.self.now) (view_of c.release.new.self) c.release.ensures.departs;
  noting = c.release.ensures.departs.beside.noting;
  fewer = departs_fewer (Some c.args.log) c.args.conn c.args.state (view_of c.args.self.now) (view_of c.release.new.self) c.release.ensures.departs;
}
