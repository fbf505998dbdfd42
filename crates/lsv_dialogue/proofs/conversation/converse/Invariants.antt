use Rattle.std.proofs.Common.{[]}
use Rattle.lsv_dialogue.specs.Stands.{Speaks}
use Rattle.lsv_dialogue.proofs.conversation.converse.Given as goal

abbrev pub invariant-rounds : goal.invariant-rounds
invariant-rounds g l =
    (start : g.S.Speaker.Start) → (g.S.Speaker.manner start).talks l.fn.speaker l.fn.world []
    → Speaks (g.S.Speaker.manner start) g.L.Link.tells (g.L.Link.counts l.fn.link, g.L.Link.state l.fn.link) [] 0 l.talk l.speaker l.world (g.L.Link.counts l.link, g.L.Link.state l.link)
