use Rattle.std.proofs.Common.{◌≡◌, false, length}
use Rattle.lsv_port.specs.Port.{LinkState}
use Rattle.lsv_live.specs.Pairs.{IsHearing, IsNoticed, PairStands, SameLinks}
use Rattle.lsv_live.proofs.pair.Pair.hear_on.Given as goal

abbrev pub invariant-messages : goal.invariant-messages
invariant-messages l = record {
  goes : (c u : LinkState) → PairStands l.initial.self c u → PairStands l.self c u;
  same : SameLinks l.initial.self l.self;
  hearing : IsHearing l.self;
  going : l.self.is_leaving ≡ false;
  noticed : IsNoticed l.self;
  client_rest : l.self.client.rest ≡ l.initial.self.client.rest;
}

abbrev pub decreases-messages : goal.decreases-messages
decreases-messages l = length l.self.upstream.rest
