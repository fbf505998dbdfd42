use Rattle.std.proofs.Common.{arith}
use Rattle.lsv_once.proofs.run.OnceRun.read_into.Goals as goal

pub loop-end-init : goal.loop-end-init
loop-end-init g c = λ start s k u. u

pub read_piece-requires : goal.read_piece-requires
read_piece-requires g c = let n = c.requires.known in record { room = omega arith; small = omega arith; known = (n.0, n.1, n.2, c.loop-end.invariant n.0 n.1 n.2 n.3) }

pub loop-end-preserved : goal.loop-end-preserved
loop-end-preserved g c = λ start s k u. c.in_default.ensures.on start s k (c.loop-end.invariant start s k u)

pub returns-in-Err : goal.returns-in-Err
returns-in-Err g c = λ start s k u. c.in-Err.ensures.ends start s k (c.loop-end.invariant start s k u)
