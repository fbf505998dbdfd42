-- After the turns the disk was only read.
use Rattle.std.proofs.Common.{◌∙◌}
use Rattle.lsv_reactor.specs.declared.rounds.PortsEnd.TheVariants.{Stopped}
use Rattle.lsv_service.specs.declared.run.End.TheVariants as ends
use Rattle.lsv_iolog.proofs.Scans.{reads_nothing}
use Rattle.lsv_load.proofs.Running.{at_err, at_ok, fresh_read, served_ends}
use Rattle.lsv_load.proofs.run.load_lane.Goals as goal

pub returns-in-Ok-clause-runs : goal.returns-in-Ok-clause-runs
returns-in-Ok-clause-runs g c start made =
    let ran = at_ok c.serve_lane-bay.result.1 c.in-Ok.numbers _ c.in-Ok.is c.serve_lane-bay.ensures.ok start made in
    record {
      turns = ran.0;
      served = c.serve_lane-bay.result.0.disk;
      up = ends.Over Stopped;
      sized = ran.2;
      store = ran.1;
      read = λ told. c.sum_logs-end.ensures.reads told;
      ends = served_ends g.D.Disk.tells c.args.count ran.0 (g.D.Disk.view start.disk) (g.D.Disk.view c.serve_lane-bay.result.0.disk) (g.D.Disk.view c.sum_logs-end.new.disk) c.deref.result.now c.sum_logs-end.result ran.3
          (c.deref.ensures.value ∙ ran.4) c.sum_logs-end.ensures.is;
    }

pub returns-in-Err-clause-runs : goal.returns-in-Err-clause-runs
returns-in-Err-clause-runs g c start made =
    let ran = at_err c.serve_lane-bay.result.1 c.in-Err.field-0 _ c.in-Err.is c.serve_lane-bay.ensures.err start made in
    record {
      turns = ran.0;
      served = c.serve_lane-bay.result.0.disk;
      up = ends.NoMem;
      sized = ran.2;
      store = ran.1;
      read = λ told. reads_nothing (g.D.Disk.view c.serve_lane-bay.result.0.disk) (g.met.D.Disk.only_now told c.serve_lane-bay.result.0.disk);
      ends = ran.3;
    }

pub returns-in-Ok-clause-places : goal.returns-in-Ok-clause-places
returns-in-Ok-clause-places g c told start made = (c.sum_logs-end.ensures.reads told).unchanged.places ∙ c.serve_lane-bay.ensures.places told start made

pub returns-in-Err-clause-places : goal.returns-in-Err-clause-places
returns-in-Err-clause-places g c told start made = c.serve_lane-bay.ensures.places told start made

pub returns-in-Ok-clause-fresh : goal.returns-in-Ok-clause-fresh
returns-in-Ok-clause-fresh g c told start made =
    fresh_read start.set.lane start.set.lanes (g.D.Disk.view c.serve_lane-bay.result.0.disk) (g.D.Disk.view c.sum_logs-end.new.disk) (c.sum_logs-end.ensures.reads told) (c.serve_lane-bay.ensures.fresh told start made)

pub returns-in-Err-clause-fresh : goal.returns-in-Err-clause-fresh
returns-in-Err-clause-fresh g c told start made = c.serve_lane-bay.ensures.fresh told start made
