use Rattle.lsv_iolog.proofs.Representing.{every_image, log_stays, stages_represents}
use Rattle.lsv_iolog.proofs.laws.logs_stay.Goals as goal

pub returns : goal.returns
returns g c = record {
  every_image = λ value image at is. every_image c.args.log.now value (g.D.Disk.view c.args.old.now) at image is;
  untouched = λ value elsewhere apart at. log_stays c.args.log.now value g.C.Claim.touched (g.D.Disk.view c.args.old.now) (g.D.Disk.view c.args.new.now) elsewhere apart at;
  staged = λ value r stages valid going at. stages_represents c.args.log.now c.args.next.now value r (g.D.Disk.view c.args.old.now) stages valid going at;
}
