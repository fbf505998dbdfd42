-- An endpoint alone has place 0.
use Rattle.std.proofs.Common.{◌≡◌, ℕ, []}
use Rattle.lsvt_rows_serve.proofs.Single.{only_one, only_place}
use Rattle.lsvt_rows_serve.proofs.alone.serve_one.Goals as goal

pub serve-requires-clause-numbered : goal.serve-requires-clause-numbered
serve-requires-clause-numbered g c i post at = only_place (λ (p : g.row.T.Denot) (j : ℕ). g.T.Endpoint.number p ≡ j) c.from_mut.result.now c.args.endpoint.now c.from_mut.ensures.value c.requires.number i post at

pub serve-requires-clause-lanes : goal.serve-requires-clause-lanes
serve-requires-clause-lanes g c i post at = only_one (λ (p : g.row.T.Denot). g.T.Endpoint.lanes p ≡ 1) c.from_mut.result.now c.args.endpoint.now c.from_mut.ensures.value c.requires.lanes i post at

pub serve-requires-clause-posts : goal.serve-requires-clause-posts
serve-requires-clause-posts g c =
    (λ i. c.requires.begun.0, λ i post at. only_one (λ (p : g.row.T.Denot). g.T.Endpoint.made_by c.requires.begun.0 p (λ lane. []) []) c.from_mut.result.now c.args.endpoint.now c.from_mut.ensures.value c.requires.begun.1 i post at)
