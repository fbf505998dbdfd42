use Rattle.std.proofs.Common.{◌≡◌, [], inl}
use Rattle.std.specs.Prelude.{vec_len}
use Rattle.lsv_serve.proofs.PostLemmas.{no_items}
use Rattle.lsv_serve.proofs.posts.seat.Goals as goal

pub returns-in-Ok-clause-seated : goal.returns-in-Ok-clause-seated
returns-in-Ok-clause-seated g c =
    let none : c.args.left.now.items ≡ [] = no_items (vec_len c.args.left.now) c.args.left.now.items c.args.left.now.ok.0 c.if-is_empty.ensures in
    inl (record { post = c.in-Ok.post; last = c.put.ensures.items; none = none; still = none; numbered = c.in-Ok.ensures.number; laned = c.in-Ok.ensures.lanes; made = c.in-Ok.ensures.made; seen = c.in-Ok.ensures.view })
