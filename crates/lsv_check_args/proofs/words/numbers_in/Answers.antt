use Rattle.std.proofs.Common.{◌∙◌, ◌++◌, ◌∷◌, [], Some, ap, map, sym, take, arith, refl}
use Rattle.lsv_base.specs.LogNo.{log_no_in}
use Rattle.lsv_replay_args.proofs.Parsed.{words_more}
use Rattle.lsv_check_args.specs.Request.{numbers_in}
use Rattle.lsv_check_args.proofs.Identifiers.{none_at, one_more}
use Rattle.lsv_check_args.proofs.words.numbers_in.Goals as goal

pub loop-id-init : goal.loop-id-init
loop-id-init c = ap (λ ns. Some ns) (sym c.new-numbers.ensures.items)

pub loop-id-preserved : goal.loop-id-preserved
loop-id-preserved c =
    let before = take c.loop-id.id-index (map (λ t. t.now) c.args.ids.now) in
    let grown = words_more c.args.ids.now before (before ++ c.as_bytes.result.now ∷ []) c.loop-id.id-index _ c.as_bytes.result.now (omega arith) refl c.as_bytes.ensures.value refl in
    ap numbers_in (sym grown)
    ∙ one_more before c.as_bytes.result.now c.loop-id.numbers.items c.in-Some.number c.loop-id.invariant (sym c.in-Some.ensures.computed)
    ∙ ap (λ ns. Some ns) (sym c.in-Ok.ensures.items)

pub returns-in_default-clause-usage : goal.returns-in_default-clause-usage
returns-in_default-clause-usage c = λ usage.
    none_at c.args.ids.now c.loop-id.id-index _ (omega arith)
    (ap log_no_in (sym c.as_bytes.ensures.value) ∙ sym c.in_default.ensures.computed)
