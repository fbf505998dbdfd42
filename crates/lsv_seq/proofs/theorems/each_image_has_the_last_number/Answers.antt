use Rattle.lsv_seq.proofs.Laws.{numbers_hold, numbers_last}
use Rattle.lsv_seq.proofs.theorems.each_image_has_the_last_number.Goals as goal

pub returns : goal.returns
returns g c = record {
  drawn = numbers_hold c.args.numbers.now (g.D.Disk.view c.args.disk.now);
  last = numbers_last c.args.numbers.now (g.D.Disk.view c.args.disk.now);
}
