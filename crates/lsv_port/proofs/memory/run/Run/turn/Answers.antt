use Rattle.std.proofs.Common.{◌≡◌, inl, inr, true, rules}
use Rattle.lsv_port.specs.Memory.Links.{links_of}
use Rattle.lsv_port.proofs.TurnLemmas.{step_runs, plain_runs, fails_same, stop_same, stop_is, turn_told, fails_answer, stop_answer, link_answer, link_told, refused_runs, refused_told, refused_cause}
use Rattle.lsv_port.proofs.memory.run.Run.turn.Goals as goal

pub returns-then-fails_turn-clause-run : goal.returns-then-fails_turn-clause-run
returns-then-fails_turn-clause-run c =
    plain_runs c.args.self.now c.in-Some.step.now c.args.self.now.stopped true _ (search rules) c.requires.run (fails_same c.in-Some.step.now (search rules)) (λ e. inl e)

pub returns-then-fails_turn-clause-answer : goal.returns-then-fails_turn-clause-answer
returns-then-fails_turn-clause-answer c =
    inl (turn_told _ c.args.self.now c.in-Some.step.now c.args.self.now.links c.args.self.now.stopped true _ (search rules) (fails_answer (links_of c.args.self.now.links) c.in-Some.step.now (search rules)))

pub returns-then-is_stop-clause-run : goal.returns-then-is_stop-clause-run
returns-then-is_stop-clause-run c =
    plain_runs c.args.self.now c.in-Some.step.now true c.args.self.now.failed c.args.self.now.turns (search rules) c.requires.run (stop_same c.in-Some.step.now (search rules)) (λ e. inr (stop_is c.in-Some.step.now (search rules)))

pub returns-then-is_stop-clause-answer : goal.returns-then-is_stop-clause-answer
returns-then-is_stop-clause-answer c =
    inl (turn_told _ c.args.self.now c.in-Some.step.now c.args.self.now.links true c.args.self.now.failed c.args.self.now.turns (search rules) (stop_answer (links_of c.args.self.now.links) c.in-Some.step.now (search rules) (search rules)))

pub returns-in-Ok-clause-run : goal.returns-in-Ok-clause-run
returns-in-Ok-clause-run c =
    let h = c.in-Ok.ensures.ok in
    step_runs c.args.self.now c.in-Some.step.now c.take.new.self c.args.self.now.stopped c.args.self.now.failed c.args.self.now.turns c.args.self.now.refused (search rules) c.requires.run h.sent h.opened h.open_now (λ e. inl e)

pub returns-in-Ok-clause-told : goal.returns-in-Ok-clause-told
returns-in-Ok-clause-told c = link_told c.args.self.now c.in-Some.step.now c.in-Ok.ready c.take.new.self c.requires.run c.in-Ok.ensures.ok

pub returns-in-Ok-clause-answer : goal.returns-in-Ok-clause-answer
returns-in-Ok-clause-answer c =
    inl (turn_told _ c.args.self.now c.in-Some.step.now c.take.new.self c.args.self.now.stopped c.args.self.now.failed c.args.self.now.turns (search rules)
    (link_answer (links_of c.args.self.now.links) c.in-Some.step.now c.in-Ok.ready (search rules) (search rules) c.in-Ok.ensures.ok.answer))

pub returns-in-Err-clause-run : goal.returns-in-Err-clause-run
returns-in-Err-clause-run c = refused_runs c.args.self.now c.take.new.self true _ _ c.requires.run c.in-Err.ensures.err

pub returns-in-Err-clause-failed : goal.returns-in-Err-clause-failed
returns-in-Err-clause-failed c = refused_told c.args.self.now c.take.new.self c.args.self.now.stopped c.in-Err.ensures.err

pub returns-in-Err-clause-cause : goal.returns-in-Err-clause-cause
returns-in-Err-clause-cause c = refused_cause c.args.self.now c.take.new.self true c.saturating_add-self-in-Err.result c.saturating_add-self-in-Err-2.result (true ≡ true) c.in-Err.ensures.err (search rules) (search rules)
