use Rattle.std.proofs.Common.{◌≡◌, ◌≢◌, ◌≤◌, ◌⊎◌, []}
use Rattle.lsv_dialogue.specs.Stands.{Speaks, View}
use Rattle.lsv_dialogue.specs.declared.ends.TheConstants.{MOST_PUT}
use Rattle.lsv_dialogue.specs.declared.ends.Wants.TheVariants as wants
use Rattle.lsv_dialogue.proofs.talk.Talk.say_on.Given as goal

abbrev pub invariant-steps : goal.invariant-steps
invariant-steps g l = record {
  speaks : (start : g.S.Speaker.Start) (begun : View) → Speaks (g.S.Speaker.manner start) g.L.Link.tells begun [] l.fn.put l.fn.self l.fn.speaker l.fn.world (g.L.Link.counts l.fn.link, g.L.Link.state l.fn.link)
      → Speaks (g.S.Speaker.manner start) g.L.Link.tells begun [] l.all l.self l.speaker l.world (g.L.Link.counts l.link, g.L.Link.state l.link);
  same : l.self ≡ l.fn.self;
  wants : (start : g.S.Speaker.Start) → ((g.S.Speaker.manner start).wants l.speaker ≡ wants.More) ⊎ ((l.all ≡ 0) × ((g.S.Speaker.manner start).wants l.speaker ≢ wants.Nothing));
  many : l.counter ≤ l.all;
  few : l.all ≤ MOST_PUT;
}
