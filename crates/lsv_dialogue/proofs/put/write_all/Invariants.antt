use Rattle.std.proofs.Common.{◌≡◌, ◌≤◌, ◌+◌, ◌++◌, List, ℕ, length}
use Rattle.lsv_link.specs.Link.{IsConnected, open_of}
use Rattle.lsv_dialogue.specs.Stands.{HasPut, Writes}
use Rattle.lsv_dialogue.proofs.put.write_all.Given as goal

abbrev pub invariant-writes : goal.invariant-writes
invariant-writes g l = record {
  puts : (front : List ℕ) × (l.fn.bytes ≡ front ++ l.rest) × (g.L.Link.tells → Writes front (g.L.Link.state l.fn.link) (g.L.Link.state l.link));
  spent : g.L.Link.tells → (open_of (g.L.Link.state l.link)).renewed + l.left ≤ (open_of (g.L.Link.state l.fn.link)).renewed + l.fn.most;
  connected : g.L.Link.tells → IsConnected (g.L.Link.state l.link);
  counts : HasPut (Unit {0}) (Unit {0}) (g.L.Link.counts l.fn.link) (g.L.Link.counts l.link);
}

abbrev pub decreases-writes : goal.decreases-writes
decreases-writes g l = length l.rest
