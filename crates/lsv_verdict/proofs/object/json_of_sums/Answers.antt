use Rattle.std.proofs.Common.{◌≡◌, ◌∙◌, ap, false, subst, sym}
use Rattle.serde_json.proofs.Views.{view-Object}
use Rattle.serde_json.specs.Data.{Members}
use Rattle.serde_json.specs.Written.{has_float, members_have_float}
use Rattle.lsv_verdict.proofs.Plain.{sums_plain}
use Rattle.lsv_verdict.proofs.object.json_of_sums.Goals as goal

pub json_line-requires : goal.json_line-requires
json_line-requires c = ap has_float (view-Object c.in_ok-members.members) ∙ subst (λ (members : Members). members_have_float members ≡ false) (sym c.in_ok-members.ensures) (sums_plain c.args.sums)
