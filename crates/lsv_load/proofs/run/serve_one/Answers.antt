-- A post alone has place 0.
use Rattle.std.proofs.Common.{◌≡◌, ◌∙◌, ℕ, [], Some, length, arith}
use Rattle.std.specs.Prelude.{slice_get, slice_index_or}
use Rattle.lsv_links.proofs.PrefixLemmas.{served_prefixes}
use Rattle.lsv_links.specs.Lanes.{one_lane}
use Rattle.lsv_turn.specs.Turns.{jobs_in, replies_in}
use Rattle.lsv_load.proofs.Running.{first_there, only_one, only_place, same_script}
use Rattle.lsv_load.proofs.run.serve_one.Goals as goal

pub serve-requires-clause-numbered : goal.serve-requires-clause-numbered
serve-requires-clause-numbered g c i post at = only_place (λ (p : g.row.T.Denot) (j : ℕ). g.T.Endpoint.number p ≡ j) c.from_mut.result.now c.args.post.now c.from_mut.ensures.value c.requires.number i post at

pub serve-requires-clause-lanes : goal.serve-requires-clause-lanes
serve-requires-clause-lanes g c i post at = only_one (λ (p : g.row.T.Denot). g.T.Endpoint.lanes p ≡ 1) c.from_mut.result.now c.args.post.now c.from_mut.ensures.value c.requires.lanes i post at

pub serve-requires-clause-posts : goal.serve-requires-clause-posts
serve-requires-clause-posts g c =
    (λ i. c.requires.post.0, λ i post at. only_one (λ (p : g.row.T.Denot). g.T.Endpoint.made_by c.requires.post.0 p (λ lane. []) []) c.from_mut.result.now c.args.post.now c.from_mut.ensures.value c.requires.post.1 i post at)

pub returns-in-Ok-Failed-clause-err : goal.returns-in-Ok-Failed-clause-err
returns-in-Ok-Failed-clause-err g c begun start made_post made =
    let ran = (rw c.in-Ok-Failed.field-0-is at c.in-Ok-Failed.ensures.ok) (λ i. begun) start
    (λ i post at. only_one (λ (p : g.row.T.Denot). g.T.Endpoint.made_by begun p (λ lane. []) []) c.from_mut.result.now c.args.post.now c.from_mut.ensures.value made_post i post at) made in
    let one : length c.serve.new.posts ≡ 1 = c.serve.auto.posts ∙ c.from_mut.ensures.len in
    let at : slice_get c.serve.new.posts 0 ≡ Some (slice_index_or c.serve.new.posts 0 c.args.post.now) = first_there c.serve.new.posts c.args.post.now one in (
      ran.0,
      ran.1,
      ran.2,
      λ told. record {
        put = served_prefixes (λ lane. g.L.Lane.tells) 1 0 (λ lane. jobs_in (one_lane lane ran.0)) (λ lane. replies_in (one_lane lane ran.0)) (g.T.Endpoint.begun begun) (g.T.Endpoint.view (slice_index_or c.serve.new.posts 0 c.args.post.now)) (ran.3.each told 0 (slice_index_or c.serve.new.posts 0 c.args.post.now) at);
        only = λ job here. let few = ran.3.within job here in omega (arith, few, one);
      },
    )

pub returns-in-Ok-Stopped-clause-ok : goal.returns-in-Ok-Stopped-clause-ok
returns-in-Ok-Stopped-clause-ok g c begun start made_post made =
    let ran = (rw c.in-Ok-Stopped.field-0-is at c.in-Ok-Stopped.ensures.ok) (λ i. begun) start
    (λ i post at. only_one (λ (p : g.row.T.Denot). g.T.Endpoint.made_by begun p (λ lane. []) []) c.from_mut.result.now c.args.post.now c.from_mut.ensures.value made_post i post at) made in
    let one : length c.serve.new.posts ≡ 1 = c.serve.auto.posts ∙ c.from_mut.ensures.len in
    let at : slice_get c.serve.new.posts 0 ≡ Some (slice_index_or c.serve.new.posts 0 c.args.post.now) = first_there c.serve.new.posts c.args.post.now one in (
      ran.0,
      ran.1,
      ran.2,
      λ told. record { served = ran.3.each told 0 (slice_index_or c.serve.new.posts 0 c.args.post.now) at; only = λ job here. let few = ran.3.within job here in omega (arith, few, one); stopped = ran.3.ended told 0 (slice_index_or c.serve.new.posts 0 c.args.post.now) at },
    )

pub returns-in-Err-clause-err : goal.returns-in-Err-clause-err
returns-in-Err-clause-err g c begun start made_post made =
    let ran = c.in-Err.ensures.err (λ i. begun) start
    (λ i post at. only_one (λ (p : g.row.T.Denot). g.T.Endpoint.made_by begun p (λ lane. []) []) c.from_mut.result.now c.args.post.now c.from_mut.ensures.value made_post i post at) made in
    let one : length c.serve.new.posts ≡ 1 = c.serve.auto.posts ∙ c.from_mut.ensures.len in
    let at : slice_get c.serve.new.posts 0 ≡ Some (slice_index_or c.serve.new.posts 0 c.args.post.now) = first_there c.serve.new.posts c.args.post.now one in (
      ran.0,
      ran.1,
      ran.2,
      λ told. record { put = ran.3.each told 0 (slice_index_or c.serve.new.posts 0 c.args.post.now) at; only = λ job here. let few = ran.3.within job here in omega (arith, few, one) },
    )

pub returns-in-Ok-Failed-clause-script : goal.returns-in-Ok-Failed-clause-script
returns-in-Ok-Failed-clause-script g c = same_script g.T.Endpoint.view c.from_mut.result.now c.serve.new.posts c.args.post.now c.from_mut.ensures.value (c.serve.auto.posts ∙ c.from_mut.ensures.len) c.serve.ensures.ports

pub returns-in-Ok-Stopped-clause-script : goal.returns-in-Ok-Stopped-clause-script
returns-in-Ok-Stopped-clause-script g c = same_script g.T.Endpoint.view c.from_mut.result.now c.serve.new.posts c.args.post.now c.from_mut.ensures.value (c.serve.auto.posts ∙ c.from_mut.ensures.len) c.serve.ensures.ports

pub returns-in-Err-clause-script : goal.returns-in-Err-clause-script
returns-in-Err-clause-script g c = same_script g.T.Endpoint.view c.from_mut.result.now c.serve.new.posts c.args.post.now c.from_mut.ensures.value (c.serve.auto.posts ∙ c.from_mut.ensures.len) c.serve.ensures.ports
