use Rattle.std.proofs.Common.{◌∙◌, ◌++◌, ℕ, List, ap}
use Rattle.lsv_mask.specs.Masking.{last_bytes}
use Rattle.lsv_mask.proofs.Tails.{appended}
use Rattle.lsv_mask.proofs.tail.Tail.append.Goals as goal

pub returns : goal.returns
returns c =
    rw c.copy_from_slice.ensures.after
    (appended c.self.inside.bytes c.copy_within.new.self c.args.recent.now c.self.inside.len c.min-kept.result _ c.self.told c.self.invariant c.requires c.min-kept.ensures c.copy_within.ensures.after
    ∙ ap (λ (t : List ℕ). last_bytes 256 (t ++ c.args.recent.now)) c.self.view_is)
