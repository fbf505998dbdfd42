use Rattle.std.proofs.Common.{refl, rules}
use Rattle.lsv_port.proofs.memory.links.Links.read.Goals as goal

pub read-requires-clause-sound : goal.read-requires-clause-sound
read-requires-clause-sound c = c.requires.sound c.args.number c.in-Some.link.now (search rules)

pub returns-clause-used : goal.returns-clause-used
returns-clause-used c = record {
  was = c.in-Some.link.now;
  now = c.read.new.self;
  here = search rules;
  links = λ i q. ((c.get_mut.follows.holds c.read.new.self).3 (search rules)).0 q i;
  opened = refl;
  open_now = refl;
  used = record { view = c.read.ensures.view; may = c.read.ensures.not_after_end; sound = c.read.ensures.sound; sent = c.read.ensures.sent; cause = c.read.ensures.cause };
}
