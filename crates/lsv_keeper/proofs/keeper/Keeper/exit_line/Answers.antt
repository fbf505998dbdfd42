use Rattle.std.proofs.Common.{None, refl, rules}
use Rattle.lsv_disk.specs.View.{DiskView}
use Rattle.lsv_keeper.specs.Views.{view_of}
use Rattle.lsv_keeper.proofs.Frames.{Laws, beside_none}
use Rattle.lsv_keeper.proofs.Numbering.{numbers_fit}
use Rattle.lsv_keeper.proofs.Causes.{does_none}
use Rattle.lsv_keeper.proofs.Syncing.{unused}
use Rattle.lsv_keeper.proofs.Departing.{keeps_same}
use Rattle.lsv_keeper.proofs.keeper.Keeper.exit_line.Goals as goal

pub returns-then-not-self-clause-frame : goal.returns-then-not-self-clause-frame
returns-then-not-self-clause-frame g c = record {
  keeps = keeps_same (view_of c.args.self.now);
  same = record { table = refl; logs = refl; numbers = refl; waiting = refl };
  noting = search rules;
  beside = λ told m at.
      let disk : DiskView = g.D.Disk.view c.args.disk.now in
      let laws : Laws disk = record { reads_itself = g.met.D.Disk.reads_itself told c.args.disk.now; is_now = g.met.D.Disk.is_now told c.args.disk.now; only_now = g.met.D.Disk.only_now told c.args.disk.now } in
      beside_none c.args.self.now.lane c.args.self.now.lanes None disk laws (numbers_fit (view_of c.args.self.now) disk m at);
  syncs = λ told n. unused n (g.D.Disk.view c.args.disk.now);
  does = does_none (λ e. cc);
}
