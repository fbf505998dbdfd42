use Rattle.std.proofs.lemmas.Option.{MatchOption-at_none, MatchOption-at_some}
use Rattle.lsv_dialogue.proofs.EndLemmas.{stopped_broken}
use Rattle.lsv_dialogue.proofs.ReadLemmas.{at_exit}
use Rattle.lsv_dialogue.proofs.talk.Talk.drain.Goals as goal

pub drain_on-requires-clause-stopped : goal.drain_on-requires-clause-stopped
drain_on-requires-clause-stopped g c =
    let (start, begun, st) = c.requires.stopped in
    (start, begun, c.rounds.invariant.stopped start begun st)

pub returns-in_err-end-clause-broke : goal.returns-in_err-end-clause-broke
returns-in_err-end-clause-broke g c = at_exit _ c.from_residual.result _ c.from_residual.ensures.1 (λ start begun st. c.in_err-end.ensures.broke start begun (c.rounds.invariant.stopped start begun st))

pub returns-in-Some-clause-ended : goal.returns-in-Some-clause-ended
returns-in-Some-clause-ended g c = λ start begun st. MatchOption-at_some _ _ c.in-Some.end c.in-Some.is (c.in_ok-end.ensures.goes start begun (c.rounds.invariant.stopped start begun st))

pub rounds-preserved : goal.rounds-preserved
rounds-preserved g c = record {
  stopped = λ start begun st. MatchOption-at_none _ _ c.in_default.is (c.in_ok-end.ensures.goes start begun (c.rounds.invariant.stopped start begun st));
  wants = c.in_ok-end.ensures.wants;
}

pub returns-clause-broke : goal.returns-clause-broke
returns-clause-broke g c = λ start begun st. stopped_broken (g.S.Speaker.manner start) g.L.Link.tells begun c.args.halt _ _ _ _ (c.rounds.invariant.stopped start begun st)
