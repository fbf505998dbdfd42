use Rattle.std.proofs.Common.{◌≡◌, ◌∙◌, ℕ, ap, inr, subst, sym}
use Rattle.lsv_port.specs.Port.{TellsReadable}
use Rattle.lsv_live.specs.Pairs.{PairAt}
use Rattle.lsv_live.specs.declared.pair.Pair.{Pair}
use Rattle.lsv_live.proofs.EndLemmas.{end_marked}
use Rattle.lsv_live.proofs.PairLemmas.{pair_client}
use Rattle.lsv_live.proofs.pair.Pair.mark.Goals as goal

pub returns-then-self-number-clause-goes : goal.returns-then-self-number-clause-goes
returns-then-self-number-clause-goes c = λ s t yes tells at.
    let p = c.args.self.now in
    let new = c.mark_client.new.self in
    let is : new ≡ record p { client = new.client } = c.mark_client.ensures.is ∙ sym (ap (λ (q : Pair). record p { client = q.client }) c.mark_client.ensures.is) in
    let tells-here : TellsReadable p.client.number s t = subst (λ (n : ℕ). TellsReadable n s t) (sym c.if-self-number.true) tells in
    subst (λ (q : Pair). PairAt q t) (sym is)
    (pair_client p new.client s t (end_marked p.client new.client s t (ap (λ (q : Pair). q.client) c.mark_client.ensures.is) c.mark_client.ensures.owed tells-here) (inr (ap (λ (q : Pair). q.client.rest) c.mark_client.ensures.is)) at)
