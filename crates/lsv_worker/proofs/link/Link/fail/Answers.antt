use Rattle.std.proofs.Common.{◌≡◌, false, refl, rules, ⊎_elim}
use Rattle.lsv_worker.specs.declared.outgoing.Sending.TheVariants.{Failed, OutOfMemory}
use Rattle.lsv_worker.proofs.Ruling.{remains_so}
use Rattle.lsv_worker.proofs.link.Link.fail.Goals as goal

pub returns-clause-is : goal.returns-clause-is
returns-clause-is g c = record {
  number = refl;
  conn = refl;
  live = refl;
  owed = refl;
  shut = refl;
  lanes = c.end.ensures.keeps.lanes;
  incoming = c.end.ensures.goes;
  outgoing = c.stop_sending.ensures.goes;
  unsent = c.stop_sending.ensures.unsent;
  over = search rules;
  out_of_memory = λ e. ⊎_elim (λ (no : Failed ≡ OutOfMemory). absurd cc) (λ was. was) (c.stop_sending.ensures.out_of_memory e);
  keeps = c.end.ensures.keeps;
  remains = remains_so c.args.self.now (record c.args.self.now { live = false; outgoing = c.stop_sending.new.self; incoming = c.end.new.self }) refl refl (λ e. absurd cc) c.end.ensures.keeps c.stop_sending.ensures.was;
}
