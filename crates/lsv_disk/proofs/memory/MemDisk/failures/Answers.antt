use Rattle.std.proofs.Common.{◌≡◌, ◌+◌, ◌&&◌, Bool, cond, List, [], take, get_or, count_by, arith, sym, ◌∙◌, ap}
use Rattle.lsv_disk.specs.declared.memory.call.Call.{Call}
use Rattle.lsv_disk.specs.declared.memory.call.Effect.{Effect}
use Rattle.lsv_disk.specs.Files.{same_file}
use Rattle.lsv_disk.specs.Memory.Calls.{faults_of, is_fault}
use Rattle.lsv_disk.proofs.MemoryLemmas.Past.{past_none}
use Rattle.lsv_disk.proofs.MemoryLemmas.Noting.{fault_next}
use Rattle.lsv_disk.proofs.memory.MemDisk.failures.Goals as goal
use Rattle.lsv_disk.proofs.memory.MemDisk.failures.Goals.{then-failed_on, else-failed_on}

pub loop-call-init : goal.loop-call-init
loop-call-init c = let e : faults_of [] c.args.f ≡ 0 = ap (λ (past : List Effect). count_by is_fault past) (past_none c.args.f) in omega (arith, e)

pub loop-call-preserved : goal.loop-call-preserved
loop-call-preserved c =
    let calls = c.deref-call-items.result.now in
    let i = c.loop-call.call-index in
    let call = c.call-item.result in
    let more = fault_next calls i call c.args.f c.loop-call-test.true in
    let test : c.failed_on.result ≡ (same_file (get_or calls i call).file c.args.f && is_fault (get_or calls i call).effect) =
    c.failed_on.ensures ∙ ap (λ (k : Call). same_file k.file c.args.f && is_fault k.effect) c.call-item.is in
    let next : faults_of (take (i + 1) calls) c.args.f ≡ faults_of (take i calls) c.args.f + cond c.failed_on.result 1 0 =
    more ∙ ap (λ (b : Bool). faults_of (take i calls) c.args.f + cond b 1 0) (sym test) in
    let so_far = c.loop-call.invariant in
    elim c.if-failed_on.branch [
      | then-failed_on w ↦
          let one : faults_of (take (i + 1) calls) c.args.f ≡ faults_of (take i calls) c.args.f + 1 = next ∙ ap (λ (b : Bool). faults_of (take i calls) c.args.f + cond b 1 0) w.if-failed_on.true in
          omega (arith, one, so_far)
      | else-failed_on w ↦
          let none : faults_of (take (i + 1) calls) c.args.f ≡ faults_of (take i calls) c.args.f + 0 = next ∙ ap (λ (b : Bool). faults_of (take i calls) c.args.f + cond b 1 0) w.if-failed_on.false in
          omega (arith, none, so_far)
    ]
