use Rattle.std.proofs.Common.{◌≡◌, []}
use Rattle.lsv_dialogue.specs.Stands.{Stopped, View}
use Rattle.lsv_dialogue.specs.declared.ends.Wants.TheVariants as wants
use Rattle.lsv_dialogue.proofs.talk.Talk.drain.Given as goal

abbrev pub invariant-rounds : goal.invariant-rounds
invariant-rounds g l = record {
  stopped : (start : g.S.Speaker.Start) (begun : View) → Stopped (g.S.Speaker.manner start) g.L.Link.tells begun [] l.fn.halt l.fn.self l.fn.speaker l.fn.world (g.L.Link.counts l.fn.link, g.L.Link.state l.fn.link)
      → Stopped (g.S.Speaker.manner start) g.L.Link.tells begun [] l.fn.halt l.self l.speaker l.world (g.L.Link.counts l.link, g.L.Link.state l.link);
  wants : (start : g.S.Speaker.Start) → (g.S.Speaker.manner start).wants l.speaker ≡ wants.More;
}
