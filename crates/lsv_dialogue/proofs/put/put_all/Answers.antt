use Rattle.std.proofs.Common.{◌≡◌, ◌∙◌, ap, subst, List, ℕ, Some, None}
use Rattle.lsv_dialogue.specs.Stands.{WritesFront}
use Rattle.lsv_dialogue.proofs.BatchLemmas.{put_halted, some_not_none}
use Rattle.lsv_dialogue.proofs.put.put_all.Goals as goal

pub returns-in-Some-clause-puts : goal.returns-in-Some-clause-puts
returns-in-Some-clause-puts g c =
    put_halted g.L.Link.tells (c.write_all.result ≡ None) c.saturating_sub.result c.in-Some.halt c.args.messages.now c.in_ok-batch.batch (g.L.Link.state c.args.link.now) (g.L.Link.state c.write_all.new.link) c.in_ok-batch.ensures
    (subst (λ (x : List ℕ). WritesFront g.L.Link.tells (c.write_all.result ≡ None) c.saturating_sub.result x (g.L.Link.state c.args.link.now) (g.L.Link.state c.write_all.new.link)) c.as_slice.ensures c.write_all.ensures.wrote) c.saturating_sub.ensures
    (λ none. some_not_none c.in-Some.halt c.write_all.result c.in-Some.is none) (λ n e. c.write_all.ensures.link n (c.in-Some.is ∙ ap (λ x. Some x) e))
