use Rattle.std.proofs.Common.{◌∙◌, ap, subst, Err}
use Rattle.lsv_iolog.specs.Represents.{Stages}
use Rattle.lsv_iolog.specs.Room.{IsRoomFor}
use Rattle.lsv_iolog.specs.Value.{IoLogView}
use Rattle.lsv_keeper.specs.Logs.{IsAppendFault}
use Rattle.lsv_keeper.proofs.Opens.{append_fault}
use Rattle.lsv_keeper.proofs.logs.OpenLog.append.Goals as goal

pub returns-in-Ok-clause-staged : goal.returns-in-Ok-clause-staged
returns-in-Ok-clause-staged g c = record {
  going = c.requires.going;
  stored = c.cover.new.r;
  covers = c.cover.ensures.covers;
  stages = subst (λ (l : IoLogView). Stages l c.cover.new.r c.append.new.self) c.cover.ensures.log c.in-Ok.ensures.staged;
  room = subst (λ (l : IoLogView). IsRoomFor l.bundle c.cover.new.r) c.cover.ensures.log c.in-Ok.ensures.room.1;
}

pub returns-in-Err-clause-refused : goal.returns-in-Err-clause-refused
returns-in-Err-clause-refused g c = record {
  going = c.requires.going;
  stored = c.cover.new.r;
  covers = c.cover.ensures.covers;
  same = c.in-Err.ensures.refused ∙ c.cover.ensures.log;
  why = subst (λ (l : IoLogView). IsAppendFault l c.cover.new.r c.in-Err.fault) c.cover.ensures.log
      (append_fault c.cover.new.self.log c.cover.new.r c.in-Err.fault c.in-Err.ensures.fault
      (λ e. (c.in-Err.ensures.too_long c.cover.new.self.log.elapsed (ap Err e)).1) c.in-Err.ensures.in_time (λ e. c.in-Err.ensures.broken (ap Err e))
      (λ part e. (c.in-Err.ensures.whole part (ap Err e)).1));
}
