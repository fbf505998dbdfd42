use Rattle.std.proofs.Common.{◌==◌, false, ap, ◌∙◌}
use Rattle.std.specs.Option.{option_map_or}
use Rattle.lsv_bundle.specs.declared.body.Body.{Body}
use Rattle.lsv_bundle.specs.Value.{BundleView}
use Rattle.lsvt_bench.proofs.logs.append_all.Goals as goal

pub loop-preserved : goal.loop-preserved
loop-preserved c = ap (λ (b : BundleView). option_map_or (λ (body : Body). body.kind == 3) b.last false) c.in_ok-append.ensures.staged.committed ∙ c.loop.invariant
