use Rattle.std.proofs.Common.{◌-◌, ◌≤◌}
use Rattle.lsv_play.specs.Playing.{text_at}
use Rattle.lsv_verdict.proofs.Feeding.{IsFeeding}
use Rattle.lsv_verdict.proofs.digest.seal_bytes.Given as goal

-- the first bytes of the file are fed
abbrev pub invariant-blocks-2 : goal.invariant-blocks-2
invariant-blocks-2 g l = IsFeeding g.D.Disk.tells (text_at l.fn.number l.body (g.D.Disk.view l.initial.disk).reads l.part) l.at (g.D.Disk.view l.initial.disk) (g.D.Disk.view l.disk) l.initial.hasher l.hasher

abbrev pub decreases-blocks-2 : goal.decreases-blocks-2
decreases-blocks-2 g l = l.length - l.at
