use Rattle.std.proofs.Common.{◌≡◌, ◌<◌, ◌∙◌, [], length, arith}
use Rattle.std.proofs.lemmas.Option.{slice_get-get_or, slice_get_within}
use Rattle.lsv_reactor.proofs.Places.{set_there}
use Rattle.lsv_service.proofs.RunLemmas.{asked_more, set_all}
use Rattle.lsv_service.proofs.run.open_all.Goals as goal

pub endpoints-init : goal.endpoints-init
endpoints-init g c = record { fresh = λ lanes starts f. f; later = λ i endpoint low e. e; asked = λ told i old new less was is. absurd (omega (arith, less)) }

pub open-requires : goal.open-requires
open-requires g c =
    let p = c.requires.fresh in
    let f = c.endpoints.invariant.fresh p.0 p.1 p.2 in
    record { begun = (p.1 c.endpoints.place, (λ lane. []), [], f.begun c.endpoints.place _ (slice_get-get_or c.endpoints.endpoints c.endpoints.place c.index-endpoints-place.result (omega (arith, c.endpoints-test.true, c.endpoints.auto.endpoints)))) }

pub endpoints-preserved : goal.endpoints-preserved
endpoints-preserved g c =
    let less : c.endpoints.place < length c.endpoints.endpoints = omega (arith, c.endpoints-test.true, c.endpoints.auto.endpoints) in
    let here = slice_get-get_or c.endpoints.endpoints c.endpoints.place c.index-endpoints-place.result less in
    let at = c.endpoints.invariant.later c.endpoints.place _ (omega arith) here in
    record {
      fresh = λ lanes starts old. let f = c.endpoints.invariant.fresh lanes starts old in record {
        numbered = set_all (λ i e. g.T.Endpoint.number e ≡ i) c.endpoints.endpoints c.endpoints.place c.open.new.self less (c.open.ensures.number ∙ f.numbered c.endpoints.place _ here) f.numbered;
        lanes_are = set_all (λ i e. g.T.Endpoint.lanes e ≡ lanes) c.endpoints.endpoints c.endpoints.place c.open.new.self less (c.open.ensures.lanes ∙ f.lanes_are c.endpoints.place _ here) f.lanes_are;
        begun = set_all (λ i e. g.T.Endpoint.made_by (starts i) e (λ lane. []) []) c.endpoints.endpoints c.endpoints.place c.open.new.self less (c.open.ensures.made (starts c.endpoints.place) (λ lane. []) [] (f.begun c.endpoints.place _ here)) f.begun;
      };
      later = λ i endpoint low e. c.endpoints.invariant.later i endpoint (omega (arith, low)) (set_there c.endpoints.endpoints c.endpoints.place i c.open.new.self endpoint (λ p. omega (arith, low, p)) e);
      asked = λ told. asked_more g.T.Endpoint.view _ c.args.endpoints.now c.endpoints.endpoints c.endpoints.place _ c.open.new.self _ less at (c.open.ensures.deaf told) (c.open.ensures.asked told) (c.endpoints.invariant.asked told);
    }

pub returns-clause-asked : goal.returns-clause-asked
returns-clause-asked g c = λ told i old new was is.
    let under : i < length c.args.endpoints.now = slice_get_within c.args.endpoints.now i old was in
    c.endpoints.invariant.asked told i old new (omega (arith, under, c.endpoints-test.false, c.endpoints.auto.endpoints)) was is
