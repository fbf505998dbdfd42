use Rattle.std.proofs.Common.{◌≡◌, ◌++◌, arith}
use Rattle.std.proofs.lemmas.Int.{to_z-of_z}
use Rattle.lsv_msg.specs.Format.{canon, single, int32}
use Rattle.lsv_msg.proofs.Parts.{three_parts}
use Rattle.lsv_msg.proofs.encode.size_bytes.Goals as goal

pub returns : goal.returns
unfolding canon
returns c =
    let rows : c.put_int32.new.out ≡ c.put_time.new.out ++ (single 2 int32).write c.args.m.now.rows = grind (arith, to_z-of_z, c.in_ok-put_int32.ensures) in
    let cols : c.put_int32-2.new.out ≡ c.put_int32.new.out ++ (single 3 int32).write c.args.m.now.cols = grind (arith, to_z-of_z, c.in_ok-put_int32-2.ensures) in
    three_parts _ _ _ _ _ _ _ c.new-out.ensures c.in_ok-put_time.ensures rows cols
