use Rattle.std.proofs.Common.{◌≡◌, ◌++◌, ◌∷◌, [], List, map, length, sym, ap, ◌∙◌, arith, append_assoc, append-nil}
use Rattle.std.proofs.lemmas.List.{length-append, map-append}
use Rattle.std.specs.Vec.Iter.{into_iter_items}
use Rattle.lsv_endpoint.specs.Ports.{view_by}
use Rattle.lsv_endpoint.specs.declared.endpoint.WorkerEndpoint.{WorkerEndpoint}
use Rattle.lsv_links.specs.Views.{PortView}
use Rattle.lsv_serve.proofs.PostLemmas.{nothing_left}
use Rattle.lsv_serve.proofs.posts.ports_of.Goals as goal

pub loop-post-init : goal.loop-post-init
loop-post-init g c =
    let gives = c.into_iter-post-iterator.ensures.into_iter_gives in
    let none : c.args.room.items ≡ [] = nothing_left c.args.room.items (omega (arith, c.args.room.ok.0, c.requires.empty)) in
    record {
      items = gives.0;
      counted = let e = ap length gives.0 in omega (arith, gives.1, c.args.posts.ok.0, e);
      size = ap length none;
      room = c.requires.room;
      kept = omega arith;
      ports = ap (map (view_by g.P.Port.state g.P.Port.ledger)) none;
    }

pub loop-post-preserved : goal.loop-post-preserved
loop-post-preserved g c =
    let steps : into_iter_items c.loop-post.post-iterator ≡ c.in-Some.post ∷ into_iter_items c.next.new.self = c.in-Some.ensures.steps.0 in
    let view : g.row.P.Denot → PortView = view_by g.P.Port.state g.P.Port.ledger in
    let its : WorkerEndpoint g.row.P.Denot → PortView = λ post. view_by g.P.Port.state g.P.Port.ledger post.port in
    record {
      items = append_assoc c.loop-post.yielded (c.in-Some.post ∷ []) (into_iter_items c.next.new.self) ∙ (ap (λ (x : List (WorkerEndpoint g.row.P.Denot)). c.loop-post.yielded ++ x) (sym steps) ∙ c.loop-post.invariant.items);
      counted = let was = c.loop-post.invariant.counted in let gone = c.in-Some.ensures.steps.1 in let short = ap length steps in omega arith;
      size =
          let n = c.loop-post.invariant.size in
          ap length c.put.ensures.items ∙ (let a = length-append c.loop-post.ports.items (c.into_port.result ∷ []) in let b = length-append c.loop-post.yielded (c.in-Some.post ∷ []) in omega (arith, n, a, b));
      room = let r = c.loop-post.invariant.room in let k = c.put.ensures.room in omega (arith, r, k);
      kept = let r = c.loop-post.invariant.kept in let k = c.put.ensures.room in omega (arith, r, k);
      ports =
          ap (map view) c.put.ensures.items
          ∙ (map-append view c.loop-post.ports.items (c.into_port.result ∷ [])
          ∙ (ap (λ (x : List PortView). x ++ view c.into_port.result ∷ []) c.loop-post.invariant.ports ∙ (ap (λ (v : PortView). map its c.loop-post.yielded ++ v ∷ []) c.into_port.ensures ∙ sym (map-append its c.loop-post.yielded (c.in-Some.post ∷ [])))));
    }

pub returns-clause-ports : goal.returns-clause-ports
returns-clause-ports g c =
    let empty : into_iter_items c.loop-post.post-iterator ≡ [] = nothing_left (into_iter_items c.loop-post.post-iterator) (sym c.loop-post.invariant.counted ∙ c.in-None.ensures.steps.0) in
    let whole : c.loop-post.yielded ≡ c.args.posts.items = sym (append-nil c.loop-post.yielded) ∙ (ap (λ (x : List (WorkerEndpoint g.row.P.Denot)). c.loop-post.yielded ++ x) (sym empty) ∙ c.loop-post.invariant.items) in
    c.loop-post.invariant.ports ∙ ap (map (λ (post : WorkerEndpoint g.row.P.Denot). view_by g.P.Port.state g.P.Port.ledger post.port)) whole

pub put-requires : goal.put-requires
put-requires g c =
    let steps : into_iter_items c.loop-post.post-iterator ≡ c.in-Some.post ∷ into_iter_items c.next.new.self = c.in-Some.ensures.steps.0 in
    let all = ap length c.loop-post.invariant.items in
    let a = length-append c.loop-post.yielded (into_iter_items c.loop-post.post-iterator) in
    let b = ap length steps in
    let n = c.loop-post.invariant.size in
    let r = c.loop-post.invariant.room in
    let o = c.loop-post.ports.ok.0 in
    omega (arith, all, a, b, n, r, o)
