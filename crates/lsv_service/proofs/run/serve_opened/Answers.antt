use Rattle.std.proofs.Common.{◌≡◌, length, sym, ap, subst, ◌∙◌, arith}
use Rattle.lsv_threads.specs.Run.{AreFresh}
use Rattle.lsv_threads.specs.Served.{AreServed}
use Rattle.lsv_port.specs.Ledger.{Listening}
use Rattle.lsv_service.specs.Runs.{ListenAt}
use Rattle.lsv_service.proofs.Places.{written}
use Rattle.lsv_service.proofs.RunLemmas.{listen_on}
use Rattle.lsv_service.proofs.run.serve_opened.Goals as goal

pub open_all-requires : goal.open_all-requires
open_all-requires g c = record {
  fresh = (length c.args.lanes.items, c.requires.fresh.0, subst (λ x. AreFresh g.T.Endpoint x (length c.args.lanes.items) c.requires.fresh.0) (sym c.deref_mut.ensures.value) c.requires.fresh.1);
}

pub serve_threads-requires-clause-fresh : goal.serve_threads-requires-clause-fresh
serve_threads-requires-clause-fresh g c κs within =
    let news = c.open_all.new.endpoints in
    let size : length news ≡ length c.args.endpoints.items = c.open_all.ensures.count ∙ ap length c.deref_mut.ensures.value in
    let held : c.args.endpoints.len ≡ length news = let d = c.args.endpoints.ok.0 in omega (arith, d, size) in
    let at = subst (λ x. AreFresh g.T.Endpoint x (length c.args.lanes.items) c.requires.fresh.0) (sym c.deref_mut.ensures.value) c.requires.fresh.1 in
    (c.requires.fresh.0, subst (λ x. AreFresh g.T.Endpoint x (length c.args.lanes.items) c.requires.fresh.0) (sym (written c.args.endpoints.len news _ held)) (c.open_all.ensures.fresh (length c.args.lanes.items) c.requires.fresh.0 at))

pub returns : goal.returns
returns g c = λ starts begins fresh fresh_lanes.
    let asked : Listening = record { address = c.args.site.now.address.now; stop_after = c.args.site.now.stop_after } in
    let news = c.open_all.new.endpoints in
    let count = length c.args.lanes.items in
    let size : length news ≡ length c.args.endpoints.items = c.open_all.ensures.count ∙ ap length c.deref_mut.ensures.value in
    let held : c.args.endpoints.len ≡ length news = let d = c.args.endpoints.ok.0 in omega (arith, d, size) in
    let same = written c.args.endpoints.len news _ held in
    let opened = c.open_all.ensures.fresh count starts (subst (λ x. AreFresh g.T.Endpoint x count starts) (sym c.deref_mut.ensures.value) fresh) in
    let ran = c.serve_threads.ensures starts begins (subst (λ x. AreFresh g.T.Endpoint x count starts) (sym same) opened) fresh_lanes in
    let served : AreServed g.T.Endpoint g.L.Lane starts begins news count c.serve_threads.result.endpoints.items c.serve_threads.result.lanes.items c.serve_threads.result.end =
    subst (λ x. AreServed g.T.Endpoint g.L.Lane starts begins x count c.serve_threads.result.endpoints.items c.serve_threads.result.lanes.items c.serve_threads.result.end) same ran in
    record {
      mids = news;
      size = size;
      served = served;
      listens = λ told. listen_on g.T.Endpoint.view asked c.args.endpoints.items news c.serve_threads.result.endpoints.items size (subst (λ x. ListenAt g.T.Endpoint.view asked x news) c.deref_mut.ensures.value (c.open_all.ensures.asked told)) served.keep;
    }
