use Rattle.std.proofs.Common.{subst, sym, IfOk}
use Rattle.lsv_port.specs.declared.step.Step.{Step}
use Rattle.lsv_port.specs.Memory.Links.{Takes}
use Rattle.lsv_port.proofs.StepLemmas.{give_answers, last_takes, room_takes, break_takes}
use Rattle.lsv_port.proofs.memory.links.Links.take.Goals as goal

pub returns-in-Give-clause-ok : goal.returns-in-Give-clause-ok
returns-in-Give-clause-ok c =
    subst (λ (s : Step). IfOk c.give.result (λ ready. Takes s ready c.args.self.now c.give.new.self)) (sym c.in-Give.is)
    (give_answers c.give.result c.in-Give.number c.as_slice.result.now c.in-Give.bytes c.args.self.now c.give.new.self c.as_slice.ensures c.give.ensures.answer c.give.ensures.ok)

pub returns-in-Room-clause-ok : goal.returns-in-Room-clause-ok
returns-in-Room-clause-ok c =
    subst (λ (s : Step). Takes s c.make_room.result c.args.self.now c.make_room.new.self) (sym c.in-Room.is)
    (room_takes c.in-Room.number c.in-Room.count c.make_room.result c.args.self.now c.make_room.new.self c.make_room.ensures.answer c.make_room.ensures.change)

pub returns-in-Last-clause-ok : goal.returns-in-Last-clause-ok
returns-in-Last-clause-ok c =
    subst (λ (s : Step). Takes s c.end.result c.args.self.now c.end.new.self) (sym c.in-Last.is)
    (last_takes c.in-Last.number c.end.result c.args.self.now c.end.new.self c.end.ensures.answer c.end.ensures.change)

pub returns-in-Break-clause-ok : goal.returns-in-Break-clause-ok
returns-in-Break-clause-ok c =
    subst (λ (s : Step). Takes s _ c.args.self.now c.break_one.new.self) (sym c.in-Break.is)
    (break_takes c.in-Break.number c.args.self.now c.break_one.new.self c.break_one.ensures)
