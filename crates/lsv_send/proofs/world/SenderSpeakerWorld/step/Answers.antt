use Rattle.std.proofs.Common.{◌∙◌, ap, Err}
use Rattle.lsv_send.specs.declared.fault.SendFault.TheVariants as faults
use Rattle.lsv_send.proofs.Exits.{at_exit}
use Rattle.lsv_send.proofs.Stepping.{fails_saying, own_cause, talks_said, wants_more}
use Rattle.lsv_send.proofs.world.SenderSpeakerWorld.step.Goals as goal

pub returns-clause-talks : goal.returns-clause-talks
returns-clause-talks g c = λ start events t.
    talks_said _ _ _ _ c.args.self.now c.say.new.self _ _ _ _ events c.in_ok-messages.messages c.in_ok-messages.ensures.start c.requires.begun.3 (c.in_ok-messages.ensures.opened c.requires.begun.3) (λ d is told. c.in_ok-messages.ensures.told d (start.source d) start.disk events is told)
    c.say.ensures.cause.monotone t

pub returns-clause-quiet : goal.returns-clause-quiet
returns-clause-quiet g c = λ none start. c.in_ok-messages.ensures.quiet none c.requires.begun.3

pub returns-clause-busy : goal.returns-clause-busy
returns-clause-busy g c = λ some start. wants_more c.say.new.self (c.in_ok-messages.ensures.busy some)

pub returns-clause-opens : goal.returns-clause-opens
returns-clause-opens g c = λ start. c.in_ok-messages.ensures.opened c.requires.begun.3

pub returns-in_err-messages-clause-fails : goal.returns-in_err-messages-clause-fails
returns-in_err-messages-clause-fails g c = at_exit _ c.from_residual.result (faults.Log c.in_err-messages.field-0.0) c.from_residual.ensures.1
    (λ start events t. fails_saying _ _ _ _ c.args.self.now _ _ _ _ events c.in_err-messages.field-0.0 c.say.ensures.reads (own_cause c.say.result c.in_err-messages.field-0.0 _ _ _ c.in_err-messages.was c.say.ensures.cause)
    (λ d is told. c.in_err-messages.ensures.stuck d (start.source d) start.disk events is told) c.in_err-messages.ensures.going t)
