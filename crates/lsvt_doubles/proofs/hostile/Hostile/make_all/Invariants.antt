use Rattle.std.proofs.Common.{◌≡◌}
use Rattle.lsvt_doubles.proofs.hostile.Hostile.make_all.Given as goal

abbrev pub invariant-loop-part : goal.invariant-loop-part
invariant-loop-part l = l.self.faults ≡ l.fn.self.faults
