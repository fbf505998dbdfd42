use Rattle.std.proofs.Common.{◌∙◌, ◌+◌, ℕ, sym, subst}
use Rattle.lsv_disk.specs.declared.file.FileId.{FileId}
use Rattle.lsv_disk.specs.Memory.Stored.{count_for}
use Rattle.lsv_disk.proofs.MemoryLemmas.Durability.{DurableUpTo, all_durable, none_durable, kept_for, stays_for}
use Rattle.lsv_disk.proofs.memory.image.durable.Goals as goal
use Rattle.lsv_disk.proofs.memory.image.durable.Goals.{then-makes_durable+in_ok-insert, else-makes_durable}

pub loop-i-preserved : goal.loop-i-preserved
loop-i-preserved c =
    let call = c.index-calls-i.result in
    let i = c.loop-i.i in
    let was : FileId → ℕ = count_for c.loop-i.ends in
    let now : FileId → ℕ = count_for c.if-makes_durable.ends in
    elim c.if-makes_durable.branch [
      | then-makes_durable+in_ok-insert w ↦
          all_durable c.args.calls.now was i call c.index-calls-i.is c.loop-i-test.true c.loop-i.invariant now (sym c.makes_durable.ensures ∙ w.if-makes_durable.true)
          (kept_for c.loop-i.ends w.insert.new.self c.if-makes_durable.ends call.file (i + 1) w.ends-is w.in_ok-insert.ensures.updates.0)
      | else-makes_durable w ↦ λ f.
          subst (λ (end : ℕ). DurableUpTo c.args.calls.now f end (i + 1)) (stays_for c.loop-i.ends c.if-makes_durable.ends w.ends-is f)
          (none_durable c.args.calls.now was i call c.index-calls-i.is c.loop-i-test.true c.loop-i.invariant (sym c.makes_durable.ensures ∙ w.if-makes_durable.false) f)
    ]
