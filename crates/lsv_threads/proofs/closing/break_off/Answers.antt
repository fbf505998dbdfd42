use Rattle.std.proofs.Common.{◌≡◌, [], Err, length, sym, ap, subst, ◌∙◌, arith}
use Rattle.lsv_reactor.specs.Served.{KeepPorts}
use Rattle.lsv_threads.specs.AtEnd.{AreAtEnd}
use Rattle.lsv_threads.specs.Served.{AreServed}
use Rattle.lsv_threads.proofs.Ending.{fresh_ends, fresh_served, written}
use Rattle.lsv_threads.proofs.closing.break_off.Goals as goal

pub stop_all-requires : goal.stop_all-requires
stop_all-requires g c =
    let b = c.requires.fresh in
    let ends : AreAtEnd g.T.Endpoint b.0 (length c.args.lanes.items) c.args.endpoints.items [] (λ w l. []) (λ w. []) = fresh_ends g.T.Endpoint g.L.Lane c.args.endpoints.items c.args.lanes.items b.0 b.1 in
    record { ends = (b.0, length c.args.lanes.items, (λ w l. []), (λ w. []), subst (λ x. AreAtEnd g.T.Endpoint b.0 (length c.args.lanes.items) x [] (λ w l. []) (λ w. [])) (sym c.deref_mut.ensures.value) ends) }

pub returns : goal.returns
returns g c = λ starts begins fresh fresh_lanes.
    let olds = c.args.endpoints.items in
    let news = c.stop_all.new.endpoints in
    let size : length news ≡ length olds = c.stop_all.ensures.count ∙ ap length c.deref_mut.ensures.value in
    let ends : AreAtEnd g.T.Endpoint starts (length c.args.lanes.items) c.deref_mut.result.now [] (λ w l. []) (λ w. []) = subst (λ x. AreAtEnd g.T.Endpoint starts (length c.args.lanes.items) x [] (λ w l. []) (λ w. [])) (sym c.deref_mut.ensures.value) (fresh_ends g.T.Endpoint g.L.Lane olds c.args.lanes.items starts fresh) in
    let keep : KeepPorts g.T.Endpoint.view olds news = subst (λ x. KeepPorts g.T.Endpoint.view x news) c.deref_mut.ensures.value c.stop_all.ensures.keep in
    subst (λ x. AreServed g.T.Endpoint g.L.Lane starts begins olds (length c.args.lanes.items) x c.args.lanes.items (Err _)) (sym (written c.args.endpoints.len news _ (let d = c.args.endpoints.ok.0 in omega (arith, d, size))))
    (fresh_served g.T.Endpoint g.L.Lane olds c.args.lanes.items starts begins fresh_lanes news _ size keep (c.stop_all.ensures.stopped starts (length c.args.lanes.items) (λ w l. []) (λ w. []) ends))
