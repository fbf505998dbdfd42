use Rattle.std.proofs.Common.{◌≡◌, ◌∙◌, ℕ, Option, List, cond, nat_lt, unwrap_or, sym, ap, subst}
use Rattle.lsv_disk.specs.declared.file.FileId.{FileId}
use Rattle.lsv_disk.specs.declared.memory.fill.Fill.TheVariants.{Read}
use Rattle.lsv_disk.specs.Memory.Stored.{content_of, count_for}
use Rattle.lsv_disk.proofs.MemoryLemmas.Found.{no_file}
use Rattle.lsv_disk.proofs.MemoryLemmas.Leaving.{LeftUpTo, left_first, each_more}
use Rattle.lsv_disk.proofs.memory.image.left.Goals as goal

pub loop-i-init : goal.loop-i-init
loop-i-init c f =
    subst (λ (o : Option (List ℕ)). LeftUpTo c.args.calls.now f c.args.fill (count_for c.in_ok-ends.ends f) 0 o) (sym (no_file c.new-left.result c.new-left.ensures.empty f))
    (left_first c.args.calls.now f c.args.fill (count_for c.in_ok-ends.ends f))

pub loop-i-preserved : goal.loop-i-preserved
loop-i-preserved c =
    let call = c.index-calls-i.result in
    let i = c.loop-i.i in
    let ends : FileId → ℕ = count_for c.in_ok-ends.ends in
    let end_is : c.unwrap_or-end.result ≡ ends call.file = c.unwrap_or-end.ensures ∙ ap (λ (o : Option ℕ). unwrap_or o 0) (c.copied.ensures ∙ c.get.ensures.value) in
    let by_is : c.fill_at.result ≡ cond (nat_lt i (ends call.file)) Read c.args.fill = c.fill_at.ensures ∙ ap (λ (end : ℕ). cond (nat_lt i end) Read c.args.fill) end_is in
    each_more c.args.calls.now c.args.fill ends i call c.fill_at.result (content_of c.loop-i.left) (content_of c.left_by_call.new.left)
    c.index-calls-i.is c.loop-i-test.true c.in_ok-ends.ensures by_is c.in_ok-left_by_call.ensures c.loop-i.invariant
