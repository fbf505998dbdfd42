-- A write that fails is counted too.
use Rattle.std.proofs.Common.{◌≤◌, sym, subst, arith}
use Rattle.lsvt_doubles.specs.declared.hostile.Hostile.{Hostile}
use Rattle.lsvt_rows_replay.proofs.outside.ActsOthersHostile.act.Goals as goal
use Rattle.lsvt_rows_replay.proofs.outside.ActsOthersHostile.act.Goals.{then-write-self, else-write-self}

pub writes-preserved : goal.writes-preserved
writes-preserved g c =
    let before : c.args.disk.now.faults ≤ c.writes.disk.faults = c.writes.invariant in
    elim c.if-write-self.branch [
      | then-write-self w ↦
          let more : c.writes.disk.faults ≤ w.write_at.new.self.faults = w.write_at.ensures.cause.monotone c.write-item.result.file in
          subst (λ (d : Hostile). c.args.disk.now.faults ≤ d.faults) (sym w.disk-is) (omega (arith, before, more))
      | else-write-self w ↦ subst (λ (d : Hostile). c.args.disk.now.faults ≤ d.faults) (sym w.disk-is) before
    ]
