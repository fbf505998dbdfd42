use Rattle.std.proofs.Common.{ℕ, inr, subst, sym}
use Rattle.lsv_live.specs.Relays.{Relays}
use Rattle.lsv_live.proofs.EndLemmas.{end_closed}
use Rattle.lsv_live.proofs.PairLemmas.{pair_client}
use Rattle.lsv_live.proofs.RelayLemmas.{relays_closed_client}
use Rattle.lsv_live.proofs.pair.Pair.shut_client.Goals as goal

pub returns-then-self-clause-at : goal.returns-then-self-clause-at
returns-then-self-clause-at g c = λ told.
    let s = g.P.Port.state c.args.port.now in
    let t = g.P.Port.state c.close.new.port in
    pair_client c.args.self.now c.close.new.self s t (end_closed c.args.self.now.client c.close.new.self s t c.if-self.true c.close.ensures.is (c.close.ensures.change told)) (inr c.close.ensures.is.rest) (c.requires.at told)

pub returns-then-self-clause-relays : goal.returns-then-self-clause-relays
returns-then-self-clause-relays g c = λ told.
    let p = c.args.self.now in
    let s = g.P.Port.state c.args.port.now in
    let t = g.P.Port.state c.close.new.port in
    subst (λ (n : ℕ). Relays p.is_dialled (t.link n) (t.link p.upstream.number)) (sym c.close.ensures.is.number)
    (relays_closed_client p.is_dialled p.client.number p.upstream.number s t (c.close.ensures.change told) (c.requires.over told) (c.requires.at told).apart (c.requires.relays told))
