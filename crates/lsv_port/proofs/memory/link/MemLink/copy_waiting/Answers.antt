use Rattle.std.proofs.Common.{ℕ, List, ap, ◌∙◌, ◌++◌, sym, take, drop}
use Rattle.std.proofs.Math.Seq.{take-add}
use Rattle.std.proofs.lemmas.List.{take_rest}
use Rattle.lsv_port.proofs.memory.link.MemLink.copy_waiting.Goals as goal

pub returns-clause-copied : goal.returns-clause-copied
returns-clause-copied c =
    let v = c.args.self.now in
    let piece = c.copy_prefix.ensures.copied ∙ ap (take c.copy_prefix.result) (take_rest c.as_slice.result.now v.taken) ∙ ap (λ (bs : List ℕ). take c.copy_prefix.result (drop v.taken bs)) c.as_slice.ensures in
    take-add v.taken c.copy_prefix.result v.arrived ∙ ap (λ (ys : List ℕ). take v.taken v.arrived ++ ys) (sym piece)
