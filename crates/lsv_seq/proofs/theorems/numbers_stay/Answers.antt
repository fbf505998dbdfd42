use Rattle.lsv_seq.proofs.Laws.{numbers_stay}
use Rattle.lsv_seq.proofs.theorems.numbers_stay.Goals as goal

pub returns : goal.returns
returns g c = numbers_stay c.args.numbers.now g.C.Claim.touched (g.D.Disk.view c.args.old.now) (g.D.Disk.view c.args.new.now)
