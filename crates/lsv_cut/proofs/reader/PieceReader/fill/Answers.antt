use Rattle.std.proofs.Common.{◌≡◌, ◌+◌, List, ℕ, ap, length, subst, rules, ◌∙◌}
use Rattle.lsv_wire.specs.Frame.{IsCutShort, stated_length}
use Rattle.lsv_cut.specs.Cuts.{unread}
use Rattle.lsv_cut.proofs.CutLemmas.{fed, filled}
use Rattle.lsv_cut.proofs.reader.PieceReader.fill.Goals as goal

pub returns-in_ok-keep-clause-same : goal.returns-in_ok-keep-clause-same
returns-in_ok-keep-clause-same c = ap (λ (k : List ℕ). unread k c.args.piece.now (c.args.at.now + c.min-lacks.result)) c.in_ok-keep.ensures.ok ∙ fed c.args.self.now c.args.piece.now c.args.at.now c.min-lacks.result

pub returns-in_ok-keep-clause-whole : goal.returns-in_ok-keep-clause-whole
returns-in_ok-keep-clause-whole c =
    let held : c.held.result.now ≡ c.args.self.now = search rules in
    rw c.in_ok-keep.ensures.ok (filled c.args.self.now c.args.piece.now c.args.at.now c.lacking.result c.min-lacks.result c.requires.within c.min-lacks.ensures
    (subst (λ (k : List ℕ). IsCutShort k → length k + c.lacking.result ≡ 4 + stated_length k) held c.lacking.ensures.message))
