use Rattle.std.proofs.Common.{codes, sym, ap, ◌∙◌, option_map}
use Rattle.serde_json.specs.Find.{get}
use Rattle.serde_json.specs.View.{view}
use Rattle.serde_json.proofs.Views.{view-Object, view-lookup}
use Rattle.lsv_info.proofs.read.member_of.Goals as goal

pub returns-in-Object : goal.returns-in-Object
returns-in-Object c =
    let members = c.in-Object.members in
    ap (option_map view) c.remove.ensures.value ∙ view-lookup (codes "info") members.entries ∙ sym (ap (get (codes "info")) (ap view c.in-Object.is ∙ view-Object members))
