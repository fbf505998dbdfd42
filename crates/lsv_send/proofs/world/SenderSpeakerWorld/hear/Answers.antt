use Rattle.std.proofs.Common.{◌∙◌, ap, sym, Err}
use Rattle.std.proofs.lemmas.Result.{on_ok_weaker}
use Rattle.lsv_send.proofs.Exits.{if_both, on_both}
use Rattle.lsv_send.proofs.Stepping.{fails_hearing, same_wants, talks_heard}
use Rattle.lsv_send.proofs.world.SenderSpeakerWorld.hear.Goals as goal

pub returns-clause-talks : goal.returns-clause-talks
returns-clause-talks g c = on_both c.hear.result _ _ _ _ c.hear.ensures.ok c.hear.ensures.put
    (λ ok put start events t. talks_heard _ _ _ _ c.args.self.now c.hear.new.self _ _ _ _ _ events c.args.message.now ok put c.hear.ensures.cause.monotone t)

pub returns-clause-opens : goal.returns-clause-opens
returns-clause-opens g c = on_ok_weaker c.hear.result (λ ok start e. c.requires.begun.3 (ap (λ s. s.place) (sym ok) ∙ e)) c.hear.ensures.ok

pub returns-clause-last : goal.returns-clause-last
returns-clause-last g c = on_ok_weaker c.hear.result (λ ok error start. same_wants c.args.self.now c.hear.new.self c.args.message.now ok error) c.hear.ensures.ok

pub returns-clause-fails : goal.returns-clause-fails
returns-clause-fails g c = if_both c.hear.result _ _ _ _ c.hear.ensures.fault c.hear.ensures.some
    (λ e is fault some start events t. fails_hearing _ _ _ _ c.args.self.now _ _ _ _ _ events c.args.message.now e fault some c.hear.ensures.cause.monotone (λ s. c.hear.ensures.cause.risen (is ∙ ap (λ f. Err f) s)) t)
