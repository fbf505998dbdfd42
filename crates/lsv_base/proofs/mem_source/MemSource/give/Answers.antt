use Rattle.std.proofs.Common.{◌≡◌, ◌≤◌, ◌++◌, length, take, drop, arith}
use Rattle.std.proofs.lemmas.Grind.{common_steps}
use Rattle.std.specs.List.{concat}
use Rattle.lsv_base.specs.MemSource.{first_piece, from_filled, without_front}
use Rattle.lsv_base.proofs.Filled.{concat-without_front}
use Rattle.lsv_base.proofs.mem_source.MemSource.give.Goals as goal

pub returns-clause-rest : goal.returns-clause-rest
returns-clause-rest c =
    let old = c.args.self.now.pieces in
    let n = c.min-n.result in
    let within : n ≤ length (first_piece old) = grind (arith, common_steps) in
    let parts : concat old ≡ take n (first_piece old) ++ concat (from_filled (without_front n old)) = concat-without_front old n within in
    let given : take n (c.copy_from_slice.new.self ++ drop n c.args.buf.now) ≡ take n (first_piece old) = grind (arith, common_steps) in
    let left : c.advance.new.self ≡ from_filled (without_front n old) = grind (arith, common_steps) in
    rw (given, left) parts
