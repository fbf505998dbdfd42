use Rattle.std.proofs.Common.{◌≡◌, ◌++◌, arith}
use Rattle.std.proofs.lemmas.Int.{to_z-of_z}
use Rattle.lsv_msg.specs.Format.{canon, single, int32}
use Rattle.lsv_msg.proofs.Parts.{five_parts}
use Rattle.lsv_msg.proofs.encode.exit_bytes.Goals as goal

pub returns : goal.returns
unfolding canon
returns c =
    let value : c.put_int32.new.out ≡ c.put_time.new.out ++ (single 2 int32).write c.args.m.now.exit_value = grind (arith, to_z-of_z, c.in_ok-put_int32.ensures) in
    five_parts _ _ _ _ _ _ _ _ _ _ _ c.new-out.ensures c.in_ok-put_time.ensures value c.in_ok-put_flag.ensures c.in_ok-put_text.ensures c.in_ok-put_text-2.ensures
