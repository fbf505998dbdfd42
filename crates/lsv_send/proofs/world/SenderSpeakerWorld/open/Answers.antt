use Rattle.std.proofs.Common.{◌≡◌, ◌∙◌, ◌≤◌, length, ap, arith, refl, sym}
use Rattle.lsv_send.specs.Judging.{is_done}
use Rattle.lsv_send.proofs.Stepping.{talks_opened, wants_more}
use Rattle.lsv_send.proofs.world.SenderSpeakerWorld.open.Goals as goal

pub returns-clause-talks : goal.returns-clause-talks
returns-clause-talks g c = λ start t. talks_opened _ _ _ _ c.args.self.now c.say_opening.new.self _ _ _ c.say_opening.result c.say_opening.ensures.0 c.say_opening.ensures.1 t

pub returns-clause-few : goal.returns-clause-few
returns-clause-few g c =
    let t = c.requires.begun.1 in
    let two = ap length c.say_opening.ensures.0 ∙ t.two (t.starts refl) in
    omega (arith, two)

pub returns-clause-opens : goal.returns-clause-opens
returns-clause-opens g c = λ start e. c.requires.begun.1.begins (ap (λ s. s.place) (sym c.say_opening.ensures.1) ∙ e)

pub returns-clause-wants : goal.returns-clause-wants
returns-clause-wants g c = λ start. wants_more c.say_opening.new.self (ap (λ s. is_done s.place) c.say_opening.ensures.1 ∙ c.requires.begun.1.goes_on)
