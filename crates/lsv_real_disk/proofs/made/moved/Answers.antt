use Rattle.lsv_real_disk.proofs.MadeLemmas.{moved_permutes}
use Rattle.lsv_real_disk.proofs.made.moved.Goals as goal

pub returns : goal.returns
returns c = moved_permutes c.args.order.items c.remove-part.new.self.items c.insert.new.self.items c.args.from _ c.remove-part.result c.requires c.remove-part.ensures.value c.remove-part.ensures.items c.in_ok-insert.ensures.items
