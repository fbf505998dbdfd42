-- A mask of no texts looks at nothing.
use Rattle.std.proofs.Common.{◌∙◌, ℕ, List, length, ap, sym}
use Rattle.std.specs.Prelude.{◌==◌}
use Rattle.lsv_keeper.proofs.Masking.{covers_none, empty_of}
use Rattle.lsv_keeper.proofs.logs.OpenLog.cover.Goals as goal

pub returns-then-is_empty-clause-covers : goal.returns-then-is_empty-clause-covers
returns-then-is_empty-clause-covers g c =
    covers_none c.args.texts.now c.args.self.now.mask c.args.r.now
    (empty_of c.args.texts.now (ap (λ (xs : List (List ℕ)). length xs == 0) (sym c.as_slice.ensures) ∙ (sym c.is_empty.ensures ∙ c.if-is_empty.true)))
