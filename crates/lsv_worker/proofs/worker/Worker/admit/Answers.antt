use Rattle.std.proofs.Common.{◌≡◌, ◌≤◌, ◌+◌, ◌++◌, ◌∷◌, [], List, length, sym, subst, arith, rules}
use Rattle.std.specs.Vec.{vec_capacity, vec_len}
use Rattle.lsv_worker.specs.Worker.{AreOfLanes, AreOfWorker, open_in}
use Rattle.lsv_worker.specs.declared.link.Link.{Link}
use Rattle.lsv_worker.proofs.Notes.{lanes_push}
use Rattle.lsv_worker.proofs.Passing.{open_push}
use Rattle.lsv_worker.proofs.Owning.{workers_push}
use Rattle.lsv_worker.proofs.worker.Worker.admit.Goals as goal

pub returns-in-Ok-clause-fit : goal.returns-in-Ok-clause-fit
returns-in-Ok-clause-fit c =
    let pushed : c.push.new.self.items ≡ c.args.self.now.links.items ++ c.args.link ∷ [] = search rules in
    let room : vec_len c.args.self.now.held + (c.len.result + 1) ≤ vec_capacity c.reserve.new.self = search rules in
    let len : c.len.result ≡ vec_len c.args.self.now.links = c.len.ensures in
    record {
      first = let first = c.requires.fit.first in omega arith;
      some = c.requires.fit.some;
      few = c.requires.fit.few;
      room = omega (arith, c.push.ensures.upper_bound, room, len);
      open_few =
          let more = open_push c.args.self.now.links.items c.args.link in
          let few = c.requires.few in
          subst (λ (l : List Link). length (open_in l) ≤ 128) (sym pushed) (omega (arith, more, few));
      workers = subst (AreOfWorker c.args.self.now.number) (sym pushed) (workers_push c.args.self.now.number c.args.self.now.links.items c.args.link c.requires.worker c.requires.fit.workers);
      lanes = subst (AreOfLanes c.args.self.now.lanes) (sym pushed) (lanes_push c.args.self.now.lanes c.args.self.now.links.items c.args.link c.requires.lanes c.requires.fit.lanes);
    }
