use Rattle.std.proofs.Common.{◌≢◌, refl, sym, ◌∙◌, subst, Option, Some, IfSome}
use Rattle.lsv_dialogue.specs.Stands.{HasPut, IsHaltedBy, PutsMore}
use Rattle.lsv_dialogue.specs.declared.talk.Halt.{Halt}
use Rattle.lsv_dialogue.specs.declared.talk.Halt.TheVariants as halts
use Rattle.lsv_dialogue.proofs.BatchLemmas.{none_not_some}
use Rattle.lsv_dialogue.proofs.LinkLemmas.{put_by, renews_by, stays_connected}
use Rattle.lsv_dialogue.proofs.ReadLemmas.{empty_by, some_by, some_length}
use Rattle.lsv_dialogue.proofs.SayLemmas.{sends_halt, sends_none, sends_whole}
use Rattle.lsv_dialogue.proofs.talk.Talk.put.Goals as goal

pub returns-then-is_empty-clause-sends : goal.returns-then-is_empty-clause-sends
returns-then-is_empty-clause-sends g c = sends_none c.args.others g.L.Link.tells c.args.messages.now (g.L.Link.counts c.args.link.now, g.L.Link.state c.args.link.now) (empty_by c.args.messages.now (sym c.is_empty.ensures ∙ c.if-is_empty.true)) c.requires.connected

pub returns-in-Some-clause-sends : goal.returns-in-Some-clause-sends
returns-in-Some-clause-sends g c =
    sends_halt c.args.others c.in-Some.halt g.L.Link.tells c.args.messages.now (g.L.Link.counts c.args.link.now, g.L.Link.state c.args.link.now) (g.L.Link.counts c.put_all.new.link, g.L.Link.state c.put_all.new.link)
    (subst (λ (h : Option Halt). PutsMore h g.L.Link.tells c.args.messages.now (g.L.Link.state c.args.link.now) (g.L.Link.state c.put_all.new.link)) c.in-Some.is c.in_ok-halt.ensures.puts)
    (subst (λ (h : Option Halt). IfSome h (IsHaltedBy (g.L.Link.counts c.args.link.now) (g.L.Link.counts c.put_all.new.link))) c.in-Some.is c.in_ok-halt.ensures.cause)
    (subst (λ (h : Option Halt). HasPut (h ≢ Some halts.Failed) (h ≢ Some halts.NotYet) (g.L.Link.counts c.args.link.now) (g.L.Link.counts c.put_all.new.link)) c.in-Some.is c.in_ok-halt.ensures.counts)

pub renew-requires : goal.renew-requires
renew-requires g c = record { connected = λ t. stays_connected _ _ (c.in_ok-halt.ensures.puts.wrote t).stays }

pub returns-clause-sends : goal.returns-clause-sends
returns-clause-sends g c =
    let more = subst (λ (h : Option Halt). PutsMore h g.L.Link.tells c.args.messages.now (g.L.Link.state c.args.link.now) (g.L.Link.state c.put_all.new.link)) c.in_default.is c.in_ok-halt.ensures.puts in
    sends_whole c.args.others _ g.L.Link.tells c.args.messages.now (g.L.Link.counts c.args.link.now, g.L.Link.state c.args.link.now) (g.L.Link.counts c.put_all.new.link, g.L.Link.state c.put_all.new.link) (g.L.Link.counts c.renew.new.self, g.L.Link.state c.renew.new.self)
    more
    (put_by _ (Unit {0}) _ (Unit {0}) _ _ (λ u e. none_not_some halts.Failed e) (λ u e. none_not_some halts.NotYet e) (subst (λ (h : Option Halt). HasPut (h ≢ Some halts.Failed) (h ≢ Some halts.NotYet) (g.L.Link.counts c.args.link.now) (g.L.Link.counts c.put_all.new.link)) c.in_default.is c.in_ok-halt.ensures.counts))
    (some_length c.args.messages.now (some_by c.args.messages.now (sym c.is_empty.ensures ∙ c.if-is_empty.false)))
    (λ t. renews_by _ _ (stays_connected _ _ (more.wrote t).stays) (c.renew.ensures.change t)) c.renew.ensures.same refl
