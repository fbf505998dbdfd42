use Rattle.std.proofs.lemmas.Option.{MatchOption-at_none, MatchOption-at_some}
use Rattle.lsv_dialogue.proofs.EndLemmas.{broken}
use Rattle.lsv_dialogue.proofs.LinkLemmas.{continues_same, stays_same}
use Rattle.lsv_dialogue.proofs.OpenLemmas.{fresh_connects}
use Rattle.lsv_dialogue.proofs.ReadLemmas.{at_exit}
use Rattle.lsv_dialogue.proofs.RunLemmas.{broke_first}
use Rattle.lsv_dialogue.proofs.conversation.converse.Goals as goal

pub returns-in_default-clause-broke : goal.returns-in_default-clause-broke
returns-in_default-clause-broke g c = λ start talks. broke_first (g.S.Speaker.manner start) g.L.Link.tells c.args.speaker.now c.args.world.now (g.L.Link.counts c.args.link.now) (g.L.Link.state c.args.link.now) talks c.requires.fresh (continues_same (g.L.Link.counts c.args.link.now))

pub returns-in_default-clause-stays : goal.returns-in_default-clause-stays
returns-in_default-clause-stays g c = λ t. stays_same _ (fresh_connects _ (c.requires.fresh t))

pub returns-in_err-end-clause-broke : goal.returns-in_err-end-clause-broke
returns-in_err-end-clause-broke g c = at_exit _ c.from_residual.result _ c.from_residual.ensures.1 (λ start talks. (c.in_err-end.ensures.broke start talks).broke)

pub returns-in_err-end-clause-stays : goal.returns-in_err-end-clause-stays
returns-in_err-end-clause-stays g c = λ t. let (start, talks) = c.requires.begun in (c.in_err-end.ensures.broke start talks).stays t

pub returns-in-Some-clause-ended : goal.returns-in-Some-clause-ended
returns-in-Some-clause-ended g c = λ start talks. (MatchOption-at_some _ _ c.in-Some.end c.in-Some.is (c.in_ok-end.ensures.goes start talks)).ended

pub returns-in-Some-clause-stays : goal.returns-in-Some-clause-stays
returns-in-Some-clause-stays g c = λ t. let (start, talks) = c.requires.begun in (MatchOption-at_some _ _ c.in-Some.end c.in-Some.is (c.in_ok-end.ensures.goes start talks)).stays t

pub rounds-init : goal.rounds-init
rounds-init g c = λ start talks. MatchOption-at_none _ _ c.in_default-2.is (c.in_ok-end.ensures.goes start talks)

pub round-requires : goal.round-requires
round-requires g c = record { speaks = let (start, talks) = c.requires.begun in (start, (g.L.Link.counts c.args.link.now, g.L.Link.state c.args.link.now), c.rounds.invariant start talks) }

pub returns-in_err-end-2-clause-broke : goal.returns-in_err-end-2-clause-broke
returns-in_err-end-2-clause-broke g c = at_exit _ c.from_residual-in_err-end-2.result _ c.from_residual-in_err-end-2.ensures.1 (λ start talks. (c.in_err-end-2.ensures.broke start _ (c.rounds.invariant start talks)).broke)

pub returns-in_err-end-2-clause-stays : goal.returns-in_err-end-2-clause-stays
returns-in_err-end-2-clause-stays g c = λ t. let (start, talks) = c.requires.begun in (c.in_err-end-2.ensures.broke start _ (c.rounds.invariant start talks)).stays t

pub returns-in-Some-2-clause-ended : goal.returns-in-Some-2-clause-ended
returns-in-Some-2-clause-ended g c = λ start talks. (MatchOption-at_some _ _ c.in-Some-2.end c.in-Some-2.is (c.in_ok-end-2.ensures.goes start _ (c.rounds.invariant start talks))).ended

pub returns-in-Some-2-clause-stays : goal.returns-in-Some-2-clause-stays
returns-in-Some-2-clause-stays g c = λ t. let (start, talks) = c.requires.begun in (MatchOption-at_some _ _ c.in-Some-2.end c.in-Some-2.is (c.in_ok-end-2.ensures.goes start _ (c.rounds.invariant start talks))).stays t

pub rounds-preserved : goal.rounds-preserved
rounds-preserved g c = λ start talks. MatchOption-at_none _ _ c.in_default-3.is (c.in_ok-end-2.ensures.goes start _ (c.rounds.invariant start talks))

pub returns-clause-broke : goal.returns-clause-broke
returns-clause-broke g c = λ start talks. (broken (g.S.Speaker.manner start) g.L.Link.tells _ 0 _ _ _ _ (c.rounds.invariant start talks).stands).broke

pub returns-clause-stays : goal.returns-clause-stays
returns-clause-stays g c = λ t. let (start, talks) = c.requires.begun in (c.rounds.invariant start talks).stands.holds.stays t
