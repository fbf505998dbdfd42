use Rattle.lsv_live.proofs.RelayLemmas.{pair_relays}
use Rattle.lsv_live.proofs.pair.Pair.note_relays.Goals as goal

pub returns : goal.returns
returns g c = λ told.
    let s = g.P.Port.state c.args.port.now in
    let p = c.args.self.now in
    pair_relays p (s.link p.client.number) (s.link p.upstream.number) (c.requires.at told).stands c.requires.hearing c.requires.taken.0 c.requires.taken.1 (record { client = (c.requires.written told).client; upstream = (c.requires.written told).upstream })
