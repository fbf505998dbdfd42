use Rattle.std.proofs.Common.{◌∙◌, ap, sym, Err}
use Rattle.std.proofs.lemmas.Result.{on_ok_weaker}
use Rattle.lsv_send.specs.Handing.{wants_at}
use Rattle.lsv_send.specs.Talks.{far_of}
use Rattle.lsv_send.proofs.Exits.{if_both, on_both}
use Rattle.lsv_send.proofs.Stepping.{fails_late, talks_late}
use Rattle.lsv_send.proofs.world.SenderSpeakerWorld.hear_late.Goals as goal

pub returns-clause-talks : goal.returns-clause-talks
returns-clause-talks g c = on_both c.hear_late.result _ _ _ _ c.hear_late.ensures.ok c.hear_late.ensures.put
    (λ ok put start events t. talks_late _ _ _ _ c.args.self.now c.hear_late.new.self _ _ _ _ _ events c.args.message.now ok put c.hear_late.ensures.cause.monotone t)

pub returns-clause-wants : goal.returns-clause-wants
returns-clause-wants g c = on_ok_weaker c.hear_late.result (λ ok start. ap (λ s. wants_at (far_of s)) ok ∙ c.requires.wants start) c.hear_late.ensures.ok

pub returns-clause-opens : goal.returns-clause-opens
returns-clause-opens g c = on_ok_weaker c.hear_late.result (λ ok start e. c.requires.begun.3 (ap (λ s. s.place) (sym ok) ∙ e)) c.hear_late.ensures.ok

pub returns-clause-fails : goal.returns-clause-fails
returns-clause-fails g c = if_both c.hear_late.result _ _ _ _ c.hear_late.ensures.fault c.hear_late.ensures.some
    (λ e is fault some start events t. fails_late _ _ _ _ c.args.self.now _ _ _ _ _ events c.args.message.now e fault some c.hear_late.ensures.cause.monotone (λ s. c.hear_late.ensures.cause.risen (is ∙ ap (λ f. Err f) s)) t)
