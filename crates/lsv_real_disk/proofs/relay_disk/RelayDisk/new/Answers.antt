use Rattle.std.proofs.Common.{◌+◌, ◌≡◌, ℕ, arith}
use Rattle.lsv_real_disk.proofs.relay_disk.RelayDisk.new.Goals as goal

-- neither disk has counted a fault
pub returns-in-Ok : goal.returns-in-Ok
returns-in-Ok o c = λ f. let first = c.in-Ok.ensures f in let second = c.new-in-Ok.ensures f in omega (arith, first, second)
