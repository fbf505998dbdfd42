use Rattle.std.proofs.Common.{◌≡◌, ◌≤◌, ℕ, false, inl, inr, sym, ap, subst, ◌∙◌, refl, arith}
use Rattle.lsv_port.specs.Port.{Opens, PortState, is_over}
use Rattle.lsv_worker.specs.Links.{KnowsPort}
use Rattle.lsv_worker.specs.declared.link.Phase.{Phase}
use Rattle.lsv_worker.specs.declared.link.Phase.TheVariants.{Going}
use Rattle.lsv_worker.specs.Worker.{IsNoted, Setting, setting}
use Rattle.lsv_worker.proofs.Crowds.{crowds, uncrowded}
use Rattle.lsv_worker.proofs.FrameLemmas.{port_closed, port_here}
use Rattle.lsv_worker.proofs.Reading.{quiet_closed, quiet_here}
use Rattle.lsv_worker.proofs.Notes.{admitted_stands, refused_stands}
use Rattle.lsv_worker.proofs.Ports.{not_over}
use Rattle.lsv_worker.proofs.Passing.{noted_more, noted_same}
use Rattle.lsv_worker.proofs.worker.Worker.opened.Goals as goal

-- a link that is closed at once is closed before Stop and before a port failure
early : (phase : Phase) (l : ℕ) (before now : PortState) → phase ≡ Going → KnowsPort phase before → Opens l before now → now.failed ≡ false → is_over now ≡ false
early phase l before now going told opens well = not_over now (opens.stopped ∙ subst (λ (p : Phase). KnowsPort p before) going told) well

pub returns-then-is_crowded-clause-opens : goal.returns-then-is_crowded-clause-opens
returns-then-is_crowded-clause-opens g c = λ told before jobs replies opens h.
    refused_stands (setting c.args.self.now) (setting c.args.self.now) c.args.self.now.links.items c.args.self.now.links.items c.args.number before (g.P.Port.state c.args.port.now) (g.P.Port.state c.close.new.self) jobs replies refl refl (omega arith)
    (early (setting c.args.self.now).phase c.args.number before (g.P.Port.state c.args.port.now) c.requires.going h.told opens (c.requires.well told))
    (inl (crowds (setting c.args.self.now) c.args.self.now.links.items c.args.number before (g.P.Port.state c.args.port.now) jobs replies (c.is_crowded.ensures.many c.if-is_crowded.true) opens h))
    opens (c.close.ensures.change told) h

pub returns-then-accept-clause-opens : goal.returns-then-accept-clause-opens
returns-then-accept-clause-opens g c = λ told before jobs replies opens h.
    let made = c.accept.ensures.yes c.if-accept.true in
    admitted_stands (setting c.args.self.now) (setting c.accept.new.self) c.args.self.now.links.items c.accept.new.self.links.items c.args.number made.0 before (g.P.Port.state c.args.port.now) jobs replies made.2.set made.2.links c.requires.fit.first made.1
    (uncrowded (setting c.args.self.now) c.args.self.now.links.items c.args.number before (g.P.Port.state c.args.port.now) jobs replies (c.is_crowded.ensures.few c.if-is_crowded.false) opens h) opens h

pub returns-clause-opens : goal.returns-clause-opens
returns-clause-opens g c = λ told before jobs replies opens h.
    let same = c.accept.ensures.no c.if-accept.false in
    let more = c.turn_away.ensures.more in
    let counted : ℕ = (setting c.turn_away.new.self).turned_away in
    refused_stands (setting c.args.self.now) (setting c.turn_away.new.self) c.args.self.now.links.items c.turn_away.new.self.links.items c.args.number before (g.P.Port.state c.args.port.now) (g.P.Port.state c.turn_away.new.port) jobs replies
    (c.turn_away.ensures.set ∙ ap (λ (s : Setting). record s { turned_away = counted }) same.0) (c.turn_away.ensures.links ∙ same.1)
    (subst (λ (s : Setting). s.turned_away ≤ counted) same.0 more)
    (early (setting c.args.self.now).phase c.args.number before (g.P.Port.state c.args.port.now) c.requires.going h.told opens (c.requires.well told))
    (inr c.turn_away.ensures.counted) opens (c.turn_away.ensures.change told) h

pub returns-then-is_crowded-clause-quiet : goal.returns-then-is_crowded-clause-quiet
returns-then-is_crowded-clause-quiet g c = λ told. quiet_closed c.args.number (g.P.Port.state c.args.port.now) (g.P.Port.state c.close.new.self) (c.close.ensures.change told)

pub returns-then-is_crowded-clause-port : goal.returns-then-is_crowded-clause-port
returns-then-is_crowded-clause-port g c = port_closed g.P.Port.tells g.P.Port.state g.P.Port.ledger c.args.port.now c.close.new.self c.args.number c.close.ensures.continues c.close.ensures.change

pub returns-clause-quiet : goal.returns-clause-quiet
returns-clause-quiet g c = λ told. quiet_closed c.args.number (g.P.Port.state c.args.port.now) (g.P.Port.state c.turn_away.new.port) (c.turn_away.ensures.change told)

pub returns-clause-port : goal.returns-clause-port
returns-clause-port g c = port_closed g.P.Port.tells g.P.Port.state g.P.Port.ledger c.args.port.now c.turn_away.new.port c.args.number c.turn_away.ensures.continues c.turn_away.ensures.change

pub returns-then-accept-clause-quiet : goal.returns-then-accept-clause-quiet
returns-then-accept-clause-quiet g c = λ told. quiet_here (g.P.Port.state c.args.port.now)

pub returns-then-accept-clause-port : goal.returns-then-accept-clause-port
returns-then-accept-clause-port g c = port_here g.P.Port.tells g.P.Port.state g.P.Port.ledger c.args.port.now

pub returns-then-is_crowded-clause-noted : goal.returns-then-is_crowded-clause-noted
returns-then-is_crowded-clause-noted g c = λ link has. noted_same link c.args.self.now.links.items has

pub returns-then-accept-clause-noted : goal.returns-then-accept-clause-noted
returns-then-accept-clause-noted g c = λ link has.
    let made = c.accept.ensures.yes c.if-accept.true in
    subst (IsNoted link) (sym made.2.links) (noted_more link made.0 c.args.self.now.links.items has)

pub returns-clause-noted : goal.returns-clause-noted
returns-clause-noted g c = λ link has.
    let same = c.accept.ensures.no c.if-accept.false in
    subst (IsNoted link) (sym (c.turn_away.ensures.links ∙ same.1)) (noted_same link c.args.self.now.links.items has)
