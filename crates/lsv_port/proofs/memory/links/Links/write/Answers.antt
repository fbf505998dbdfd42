use Rattle.std.proofs.Common.{refl, rules}
use Rattle.lsv_port.proofs.memory.links.Links.write.Goals as goal

pub write-requires-clause-sound : goal.write-requires-clause-sound
write-requires-clause-sound c = c.requires.sound c.args.number c.in-Some.link.now (search rules)

pub returns-clause-used : goal.returns-clause-used
returns-clause-used c = record {
  was = c.in-Some.link.now;
  now = c.write.new.self;
  here = search rules;
  links = λ i q. ((c.get_mut.follows.holds c.write.new.self).3 (search rules)).0 q i;
  opened = refl;
  open_now = refl;
  used = record { view = c.write.ensures.view; sound = c.write.ensures.sound; sent = c.write.ensures.sent; cause = c.write.ensures.cause };
}
