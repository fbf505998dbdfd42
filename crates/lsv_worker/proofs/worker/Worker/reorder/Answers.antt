use Rattle.std.proofs.Common.{◌≤◌, List, length, sym, subst, arith}
use Rattle.std.specs.List.{Contains}
use Rattle.lsv_worker.specs.Worker.{AreOfLanes, AreOfWorker, Stands, open_in, setting}
use Rattle.lsv_worker.specs.declared.link.Link.{Link}
use Rattle.lsv_worker.proofs.Order.{contains_rotated, lanes_rotated, open_rotated, stands_rotated}
use Rattle.lsv_worker.proofs.Owning.{workers_rotated}
use Rattle.lsv_worker.proofs.worker.Worker.reorder.Goals as goal

pub returns-clause-fit : goal.returns-clause-fit
returns-clause-fit c = record {
  first = c.requires.fit.first;
  some = c.requires.fit.some;
  few = c.requires.fit.few;
  room = omega (arith, c.requires.fit.room, c.rotate.ensures.size);
  lanes = subst (AreOfLanes c.args.self.now.lanes) (sym c.rotate.ensures.items) (lanes_rotated c.count_served-count.result c.args.self.now.lanes c.args.self.now.links.items c.requires.fit.lanes);
  workers = subst (AreOfWorker c.args.self.now.number) (sym c.rotate.ensures.items) (workers_rotated c.count_served-count.result c.args.self.now.number c.args.self.now.links.items c.requires.fit.workers);
  open_few = subst (λ (l : List Link). length (open_in l) ≤ 128) (sym c.rotate.ensures.items) (open_rotated c.count_served-count.result c.args.self.now.links.items c.requires.fit.open_few);
}

pub returns-clause-stands : goal.returns-clause-stands
returns-clause-stands c = λ port jobs replies h.
    subst (λ (l : List Link). Stands (setting c.args.self.now) l port jobs replies) (sym c.rotate.ensures.items) (stands_rotated c.count_served-count.result (setting c.args.self.now) c.args.self.now.links.items port jobs replies h)

pub returns-clause-has : goal.returns-clause-has
returns-clause-has c = λ link has.
    subst (λ (l : List Link). Contains l link) (sym c.rotate.ensures.items) (contains_rotated c.count_served-count.result c.args.self.now.links.items link has)
