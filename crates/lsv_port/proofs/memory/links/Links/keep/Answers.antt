use Rattle.std.proofs.Common.{List, ℕ, subst, rules}
use Rattle.lsv_port.specs.Memory.Link.{IsFresh}
use Rattle.lsv_port.proofs.memory.links.Links.keep.Goals as goal

pub returns-clause-ok : goal.returns-clause-ok
returns-clause-ok c = record {
  link = c.new.result;
  fresh = subst (λ (ns : List ℕ). IsFresh ns c.new.result) (search rules) c.new.ensures.fresh;
  sound = c.new.ensures.sound;
  links = λ i q. c.in_ok-insert.ensures.updates.0 q i;
  opened = search rules;
  open_now = search rules;
}
