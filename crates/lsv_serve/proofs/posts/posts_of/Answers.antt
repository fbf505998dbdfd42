use Rattle.std.proofs.Common.{◌≡◌, ◌++◌, ◌∷◌, [], List, Some, map, length, refl, sym, ap, subst, ◌∙◌, arith, append_assoc, append-nil}
use Rattle.std.specs.Prelude.{slice_get, vec_len}
use Rattle.std.proofs.lemmas.List.{length-append, length-map, map-append}
use Rattle.std.specs.Vec.Iter.{into_iter_items}
use Rattle.lsv_worker.specs.Worker.{setting}
use Rattle.lsv_endpoint.specs.InnerEndpoint.{IsMade}
use Rattle.lsv_endpoint.specs.Ports.{view_by}
use Rattle.lsv_links.specs.Views.{PortView}
use Rattle.lsv_serve.specs.InnerServe.{ArePosts}
use Rattle.lsv_serve.proofs.PostLemmas.{no_items, nothing_left, posts_none, seated_more, stands_there}
use Rattle.lsv_serve.proofs.posts.posts_of.Goals as goal

pub loop-port-init : goal.loop-port-init
loop-port-init g c =
    let gives = c.into_iter-port-iterator.ensures.into_iter_gives in
    let posts = c.in-Ok.ensures.items in
    let left = c.in-Ok-with_capacity.ensures.items in
    record {
      items = gives.0;
      counted = let e = ap length gives.0 in omega (arith, gives.1, c.args.ports.ok.0, e);
      number = refl;
      size = let a = ap length posts in let b = ap length left in omega (arith, a, b);
      posts_room = let k = c.in-Ok.ensures.capacity in let n = c.len.ensures in let o = c.args.ports.ok.0 in omega (arith, k, n, o);
      left_room = let k = c.in-Ok-with_capacity.ensures.capacity in let n = c.len-2.ensures in let o = c.args.ports.ok.0 in omega (arith, k, n, o);
      views = rw (posts, left) refl;
      posts = λ none. rw posts (posts_none (λ post. (setting post.worker).number) (λ post. (setting post.worker).lanes) (λ start post gave took. IsMade g.P.Port.tells g.P.Port.state g.P.Port.ledger start post gave took) (λ post. view_by g.P.Port.state g.P.Port.ledger post.port) c.args.lanes);
    }

pub seat-requires : goal.seat-requires
seat-requires g c =
    let steps : into_iter_items c.loop-port.port-iterator ≡ c.in-Some.port ∷ into_iter_items c.next.new.self = c.in-Some.ensures.steps.0 in
    let whole : c.loop-port.yielded ++ c.in-Some.port ∷ into_iter_items c.next.new.self ≡ c.args.ports.items = ap (λ (x : List g.row.P.Denot). c.loop-port.yielded ++ x) (sym steps) ∙ c.loop-port.invariant.items in
    let all = ap length whole in
    let a = length-append c.loop-port.yielded (c.in-Some.port ∷ into_iter_items c.next.new.self) in
    let n = c.loop-port.invariant.size in
    record {
      lanes = c.requires.lanes;
      idle = λ told. c.requires.idle told (length c.loop-port.yielded) c.in-Some.port (subst (λ (x : List g.row.P.Denot). slice_get x (length c.loop-port.yielded) ≡ Some c.in-Some.port) whole (stands_there c.loop-port.yielded c.in-Some.port (into_iter_items c.next.new.self)));
      posts_room = let r = c.loop-port.invariant.posts_room in let o = c.loop-port.posts.ok.0 in omega (arith, all, a, n, r, o);
      left_room = let r = c.loop-port.invariant.left_room in let o = c.loop-port.left.ok.0 in omega (arith, all, a, n, r, o);
    }

pub overflow_add-number : goal.overflow_add-number
overflow_add-number g c =
    let all : length (c.loop-port.yielded ++ into_iter_items c.loop-port.port-iterator) ≡ length c.args.ports.items = ap length c.loop-port.invariant.items in
    let few = c.requires.few in
    omega (arith, all, few, c.loop-port.invariant.number, length-append c.loop-port.yielded (into_iter_items c.loop-port.port-iterator))

pub loop-port-preserved : goal.loop-port-preserved
loop-port-preserved g c =
    let steps : into_iter_items c.loop-port.port-iterator ≡ c.in-Some.port ∷ into_iter_items c.next.new.self = c.in-Some.ensures.steps.0 in
    let s = seated_more (λ post. (setting post.worker).number) (λ post. (setting post.worker).lanes) (λ start post gave took. IsMade g.P.Port.tells g.P.Port.state g.P.Port.ledger start post gave took) (λ post. view_by g.P.Port.state g.P.Port.ledger post.port) (view_by g.P.Port.state g.P.Port.ledger) c.args.lanes c.loop-port.yielded c.loop-port.number c.in-Some.port c.loop-port.posts.items c.seat.new.posts.items c.loop-port.left.items c.seat.new.left.items
    c.loop-port.invariant.number c.loop-port.invariant.size c.loop-port.invariant.views c.loop-port.invariant.posts c.seat.ensures.seated in
    record {
      items = append_assoc c.loop-port.yielded (c.in-Some.port ∷ []) (into_iter_items c.next.new.self) ∙ (ap (λ (x : List g.row.P.Denot). c.loop-port.yielded ++ x) (sym steps) ∙ c.loop-port.invariant.items);
      counted = let was = c.loop-port.invariant.counted in let gone = c.in-Some.ensures.steps.1 in let short = ap length steps in omega arith;
      number = let n = c.loop-port.invariant.number in omega (arith, n, length-append c.loop-port.yielded (c.in-Some.port ∷ []));
      size = s.size;
      posts_room = let r = c.loop-port.invariant.posts_room in let k = c.seat.ensures.posts_room in omega (arith, r, k);
      left_room = let r = c.loop-port.invariant.left_room in let k = c.seat.ensures.left_room in omega (arith, r, k);
      views = s.views;
      posts = s.all;
    }

pub returns-then-is_empty-clause-made : goal.returns-then-is_empty-clause-made
returns-then-is_empty-clause-made g c =
    let empty : into_iter_items c.loop-port.port-iterator ≡ [] = nothing_left (into_iter_items c.loop-port.port-iterator) (sym c.loop-port.invariant.counted ∙ c.in-None.ensures.steps.0) in
    let whole : c.loop-port.yielded ≡ c.args.ports.items = sym (append-nil c.loop-port.yielded) ∙ (ap (λ (x : List g.row.P.Denot). c.loop-port.yielded ++ x) (sym empty) ∙ c.loop-port.invariant.items) in
    let none : c.loop-port.left.items ≡ [] = no_items (vec_len c.loop-port.left) c.loop-port.left.items c.loop-port.left.ok.0 c.if-is_empty.ensures in
    subst (λ (x : List g.row.P.Denot). ArePosts (λ post. (setting post.worker).number) (λ post. (setting post.worker).lanes) (λ start post gave took. IsMade g.P.Port.tells g.P.Port.state g.P.Port.ledger start post gave took) (λ post. view_by g.P.Port.state g.P.Port.ledger post.port) c.args.lanes (map (view_by g.P.Port.state g.P.Port.ledger) x) c.loop-port.posts.items) whole (c.loop-port.invariant.posts none)

pub ports_of-requires-clause-room : goal.ports_of-requires-clause-room
ports_of-requires-clause-room g c =
    let empty : into_iter_items c.loop-port.port-iterator ≡ [] = nothing_left (into_iter_items c.loop-port.port-iterator) (sym c.loop-port.invariant.counted ∙ c.in-None.ensures.steps.0) in
    let whole : c.loop-port.yielded ≡ c.args.ports.items = sym (append-nil c.loop-port.yielded) ∙ (ap (λ (x : List g.row.P.Denot). c.loop-port.yielded ++ x) (sym empty) ∙ c.loop-port.invariant.items) in
    let all = ap length whole in
    let n = c.loop-port.invariant.size in
    let r = c.requires.room in
    omega (arith, all, n, r)

pub joined-requires : goal.joined-requires
joined-requires g c =
    let empty : into_iter_items c.loop-port.port-iterator ≡ [] = nothing_left (into_iter_items c.loop-port.port-iterator) (sym c.loop-port.invariant.counted ∙ c.in-None.ensures.steps.0) in
    let whole : c.loop-port.yielded ≡ c.args.ports.items = sym (append-nil c.loop-port.yielded) ∙ (ap (λ (x : List g.row.P.Denot). c.loop-port.yielded ++ x) (sym empty) ∙ c.loop-port.invariant.items) in
    let all = ap length whole in
    let n = c.loop-port.invariant.size in
    let r = c.requires.room in
    let k = c.ports_of.ensures.room in
    let e = ap length c.ports_of.ensures.ports in
    let a = length-map c.ports_of.result.items (view_by g.P.Port.state g.P.Port.ledger) in
    let b = length-map c.loop-port.posts.items (λ post. view_by g.P.Port.state g.P.Port.ledger post.port) in
    omega (arith, all, n, r, k, e, a, b)

pub returns-clause-back : goal.returns-clause-back
returns-clause-back g c =
    let empty : into_iter_items c.loop-port.port-iterator ≡ [] = nothing_left (into_iter_items c.loop-port.port-iterator) (sym c.loop-port.invariant.counted ∙ c.in-None.ensures.steps.0) in
    let whole : c.loop-port.yielded ≡ c.args.ports.items = sym (append-nil c.loop-port.yielded) ∙ (ap (λ (x : List g.row.P.Denot). c.loop-port.yielded ++ x) (sym empty) ∙ c.loop-port.invariant.items) in
    let view : g.row.P.Denot → PortView = view_by g.P.Port.state g.P.Port.ledger in
    ap (map view) c.joined.ensures
    ∙ (map-append view c.ports_of.result.items c.loop-port.left.items
    ∙ (ap (λ (l : List PortView). l ++ map view c.loop-port.left.items) c.ports_of.ensures.ports ∙ (c.loop-port.invariant.views ∙ ap (map view) whole)))
