use Rattle.std.proofs.Common.{ℕ, subst, sym}
use Rattle.lsv_live.specs.Relays.{Relays}
use Rattle.lsv_live.proofs.PairLemmas.{dialled_open}
use Rattle.lsv_live.proofs.RelayLemmas.{relays_closed_upstream}
use Rattle.lsv_live.proofs.pair.Pair.shut_upstream.Goals as goal

pub returns-then-self-clause-relays : goal.returns-then-self-clause-relays
returns-then-self-clause-relays g c = λ told.
    let p = c.args.self.now in
    let s = g.P.Port.state c.args.port.now in
    let t = g.P.Port.state c.close.new.port in
    subst (λ (n : ℕ). Relays p.is_dialled (t.link p.client.number) (t.link n)) (sym c.close.ensures.is.number)
    (relays_closed_upstream p.is_dialled p.client.number p.upstream.number s t (dialled_open p s (c.requires.at told) c.if-self.true) (c.close.ensures.change told) (c.requires.over told) (c.requires.at told).apart (c.requires.relays told))
