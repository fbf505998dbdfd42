use Rattle.lsv_info.proofs.Writing.{head_plain}
use Rattle.lsv_info.proofs.write.write_head.Goals as goal

pub json_line-requires : goal.json_line-requires
json_line-requires c = head_plain c.args.head.now _ c.in_ok-head_json.ensures
