use Rattle.std.proofs.Common.{◌≡◌, inr, true, rules}
use Rattle.lsv_live.proofs.EndLemmas.{end_closed}
use Rattle.lsv_live.proofs.PairLemmas.{pair_client}
use Rattle.lsv_live.proofs.pair.Pair.close_down.Goals as goal

pub returns-then-is_empty-clause-at : goal.returns-then-is_empty-clause-at
returns-then-is_empty-clause-at g c = λ told.
    let s = g.P.Port.state c.args.port.now in
    let t = g.P.Port.state c.close.new.port in
    let here : c.args.self.now.client.is_open ≡ true = search rules in
    pair_client c.args.self.now c.close.new.self s t (end_closed c.args.self.now.client c.close.new.self s t here c.close.ensures.is (c.close.ensures.change told)) (inr c.close.ensures.is.rest) (c.requires.at told)
