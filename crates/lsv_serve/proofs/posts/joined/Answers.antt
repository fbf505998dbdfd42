use Rattle.std.proofs.Common.{◌≡◌, ◌++◌, ◌∷◌, [], List, length, sym, ap, ◌∙◌, arith, append_assoc, append-nil}
use Rattle.std.proofs.lemmas.List.{length-append}
use Rattle.std.specs.Vec.Iter.{into_iter_items}
use Rattle.lsv_serve.proofs.PostLemmas.{nothing_left}
use Rattle.lsv_serve.proofs.posts.joined.Goals as goal

pub loop-port-init : goal.loop-port-init
loop-port-init g c =
    let gives = c.into_iter-port-iterator.ensures.into_iter_gives in
    record { items = gives.0; counted = let e = ap length gives.0 in omega (arith, gives.1, c.args.back.ok.0, e); room = c.requires; ports = sym (append-nil c.args.front.items) }

pub loop-port-preserved : goal.loop-port-preserved
loop-port-preserved g c =
    let steps : into_iter_items c.loop-port.port-iterator ≡ c.in-Some.port ∷ into_iter_items c.next.new.self = c.in-Some.ensures.steps.0 in
    record {
      items = append_assoc c.loop-port.yielded (c.in-Some.port ∷ []) (into_iter_items c.next.new.self) ∙ (ap (λ (x : List g.row.P.Denot). c.loop-port.yielded ++ x) (sym steps) ∙ c.loop-port.invariant.items);
      counted = let was = c.loop-port.invariant.counted in let gone = c.in-Some.ensures.steps.1 in let short = ap length steps in omega arith;
      room = let r = c.loop-port.invariant.room in let k = c.put.ensures.room in omega (arith, r, k);
      ports = c.put.ensures.items ∙ (ap (λ (x : List g.row.P.Denot). x ++ c.in-Some.port ∷ []) c.loop-port.invariant.ports ∙ append_assoc c.args.front.items c.loop-port.yielded (c.in-Some.port ∷ []));
    }

pub returns : goal.returns
returns g c =
    let empty : into_iter_items c.loop-port.port-iterator ≡ [] = nothing_left (into_iter_items c.loop-port.port-iterator) (sym c.loop-port.invariant.counted ∙ c.in-None.ensures.steps.0) in
    let whole : c.loop-port.yielded ≡ c.args.back.items = sym (append-nil c.loop-port.yielded) ∙ (ap (λ (x : List g.row.P.Denot). c.loop-port.yielded ++ x) (sym empty) ∙ c.loop-port.invariant.items) in
    c.loop-port.invariant.ports ∙ ap (λ (x : List g.row.P.Denot). c.args.front.items ++ x) whole

pub put-requires : goal.put-requires
put-requires g c =
    let steps : into_iter_items c.loop-port.port-iterator ≡ c.in-Some.port ∷ into_iter_items c.next.new.self = c.in-Some.ensures.steps.0 in
    let all = ap length c.loop-port.invariant.items in
    let a = length-append c.loop-port.yielded (into_iter_items c.loop-port.port-iterator) in
    let b = ap length steps in
    let e = ap length c.loop-port.invariant.ports in
    let f = length-append c.args.front.items c.loop-port.yielded in
    let r = c.loop-port.invariant.room in
    let o = c.loop-port.ports.ok.0 in
    omega (arith, all, a, b, e, f, r, o)
