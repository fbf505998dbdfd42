use Rattle.std.proofs.Common.{◌≡◌, ◌∷◌, ◌++◌, List, [], length, refl, sym, ◌∙◌, ap, subst, arith, append_assoc, append-nil}
use Rattle.std.specs.Vec.Iter.{into_iter_items}
use Rattle.lsv_session.specs.declared.reply.Reply.{Reply}
use Rattle.lsv_reactor.specs.InnerLoop.{ArePosts}
use Rattle.lsv_reactor.proofs.deliver.deliver.Goals as goal

nothing_left : (replies : List Reply) → length replies ≡ 0 → replies ≡ []
nothing_left [] none = refl
nothing_left (reply ∷ replies) none = absurd (omega arith)

pub loop-reply-init : goal.loop-reply-init
loop-reply-init g c =
    let gives = c.into_iter-reply-iterator.ensures.into_iter_gives in
    record {
      items = gives.0;
      counted = let e = ap length gives.0 in omega (arith, gives.1, c.args.replies.ok.0, e);
      took = λ starts ledgers calls took all. subst (λ (l : List Reply). ArePosts g.T.Endpoint.number g.T.Endpoint.lanes g.T.Endpoint.view g.T.Endpoint.made_by g.T.Endpoint.called starts ledgers c.args.posts.now calls l) (sym (append-nil took)) all;
    }

pub deliver_one-requires : goal.deliver_one-requires
deliver_one-requires g c = let b = c.requires.begun in record { begun = (b.0, b.1, b.2, b.3 ++ c.loop-reply.yielded, c.loop-reply.invariant.took b.0 b.1 b.2 b.3 b.4) }

pub loop-reply-preserved : goal.loop-reply-preserved
loop-reply-preserved g c =
    let steps : into_iter_items c.loop-reply.reply-iterator ≡ c.in-Some.reply ∷ into_iter_items c.next.new.self = c.in-Some.ensures.steps.0 in
    record {
      items = append_assoc c.loop-reply.yielded (c.in-Some.reply ∷ []) (into_iter_items c.next.new.self) ∙ (ap (λ (x : List Reply). c.loop-reply.yielded ++ x) (sym steps) ∙ c.loop-reply.invariant.items);
      counted = let was = c.loop-reply.invariant.counted in let gone = c.in-Some.ensures.steps.1 in let short = ap length steps in omega arith;
      took = λ starts ledgers calls took all.
          subst (λ (l : List Reply). ArePosts g.T.Endpoint.number g.T.Endpoint.lanes g.T.Endpoint.view g.T.Endpoint.made_by g.T.Endpoint.called starts ledgers c.deliver_one.new.posts calls l) (append_assoc took c.loop-reply.yielded (c.in-Some.reply ∷ []))
          (c.deliver_one.ensures.took starts ledgers calls (took ++ c.loop-reply.yielded) (c.loop-reply.invariant.took starts ledgers calls took all));
    }

pub returns-clause-took : goal.returns-clause-took
returns-clause-took g c = λ starts ledgers calls took all.
    let empty : into_iter_items c.loop-reply.reply-iterator ≡ [] = nothing_left (into_iter_items c.loop-reply.reply-iterator) (sym c.loop-reply.invariant.counted ∙ c.in-None.ensures.steps.0) in
    let whole : c.loop-reply.yielded ≡ c.args.replies.items = sym (append-nil c.loop-reply.yielded) ∙ (ap (λ (x : List Reply). c.loop-reply.yielded ++ x) (sym empty) ∙ c.loop-reply.invariant.items) in
    subst (λ (l : List Reply). ArePosts g.T.Endpoint.number g.T.Endpoint.lanes g.T.Endpoint.view g.T.Endpoint.made_by g.T.Endpoint.called starts ledgers c.loop-reply.posts calls (took ++ l)) whole (c.loop-reply.invariant.took starts ledgers calls took all)
