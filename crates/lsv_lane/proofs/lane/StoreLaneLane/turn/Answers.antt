use Rattle.std.proofs.Common.{◌++◌, List, ap, sym, ◌∙◌, subst}
use Rattle.std.specs.List.{AllByRecursion}
use Rattle.lsv_session.specs.declared.reply.Reply.{Reply}
use Rattle.lsv_keeper.specs.Causes.{AnyIsOf, MayAnswerTo, Says}
use Rattle.lsv_keeper.specs.Views.{view_of}
use Rattle.lsv_turn.specs.Turns.{LaneTurn}
use Rattle.lsv_lane.specs.InnerLane.{IsMade}
use Rattle.lsv_lane.proofs.Laws.{are_asked, to_these}
use Rattle.lsv_lane.proofs.Standing.{gives_first, made_roomier, made_taped, made_turn, roomier_rests, roomier_stands}
use Rattle.lsv_lane.proofs.lane.StoreLaneLane.turn.Goals as goal

pub returns-in_default-clause-lost : goal.returns-in_default-clause-lost
returns-in_default-clause-lost g c = λ start turns made. made_roomier g.D.Disk.tells g.G.Tape.tells start.set start.texts (g.D.Disk.view start.disk) (g.G.Tape.turns start.tape) _ _ _ _ turns c.ready.ensures.same made

pub returns-in_default-room-clause-lost : goal.returns-in_default-room-clause-lost
returns-in_default-room-clause-lost g c = λ start turns made.
    made_taped g.D.Disk.tells g.G.Tape.tells start.set start.texts (g.D.Disk.view start.disk) (g.G.Tape.turns start.tape) _ _ _ _ turns c.room.ensures.same
    (made_roomier g.D.Disk.tells g.G.Tape.tells start.set start.texts (g.D.Disk.view start.disk) (g.G.Tape.turns start.tape) _ _ _ _ turns c.ready.ensures.same made)

pub turn-requires-clause-stands : goal.turn-requires-clause-stands
turn-requires-clause-stands g c = λ told. let s = c.requires.begun.2.standing told in (s.machine, roomier_stands _ _ _ s.machine c.ready.ensures.same s.represents)

pub turn-requires-clause-rests : goal.turn-requires-clause-rests
turn-requires-clause-rests g c = roomier_rests _ _ c.ready.ensures.same c.requires.begun.2.rests

pub returns-clause-made : goal.returns-clause-made
returns-clause-made g c = λ start turns made.
    let t : LaneTurn = record { now = c.now-now.result; jobs = c.args.jobs.items; gap = c.args.gap; replies = c.turn.new.out.items } in
    let base : IsMade g.D.Disk.tells g.G.Tape.tells start.set start.texts (g.D.Disk.view start.disk) (g.D.Disk.view c.args.self.now.bay.disk) (view_of c.ready.new.self) (g.G.Tape.turns start.tape) (g.G.Tape.turns c.room.new.self) turns =
    made_taped g.D.Disk.tells g.G.Tape.tells start.set start.texts (g.D.Disk.view start.disk) (g.G.Tape.turns start.tape) _ _ _ _ turns c.room.ensures.same
    (made_roomier g.D.Disk.tells g.G.Tape.tells start.set start.texts (g.D.Disk.view start.disk) (g.G.Tape.turns start.tape) _ _ _ _ turns c.ready.ensures.same made) in
    made_turn g.D.Disk.tells g.G.Tape.tells start.set start.texts (g.D.Disk.view start.disk) (g.G.Tape.turns start.tape) (g.D.Disk.view c.args.self.now.bay.disk) (g.D.Disk.view c.turn.new.disk) (view_of c.ready.new.self) (view_of c.turn.new.self)
    (g.G.Tape.turns c.room.new.self) (g.G.Tape.turns c.keep.new.self) turns t c.now-now.ensures (λ told. rw c.deref-2.ensures.value at (c.keep.ensures.kept told)) c.turn.ensures.rests c.turn.ensures.set
    (λ told m is. gives_first _ _ _ m _ _ _ _ _ (c.ready.ensures.replies ∙ c.clear.ensures.items) (c.turn.ensures.turned told m is)) c.turn.ensures.spared
    (subst (λ (s : List Reply). Says (AnyIsOf c.args.jobs.items) (MayAnswerTo (view_of c.ready.new.self) c.args.jobs.items (g.D.Disk.view c.args.self.now.bay.disk) (g.D.Disk.view c.turn.new.disk)) s c.turn.new.out.items) (c.ready.ensures.replies ∙ c.clear.ensures.items) c.turn.ensures.says) c.turn.ensures.failed c.turn.ensures.monotone base

pub returns-clause-asked : goal.returns-clause-asked
returns-clause-asked g c = λ told start turns made.
    let t : LaneTurn = record { now = c.now-now.result; jobs = c.args.jobs.items; gap = c.args.gap; replies = c.turn.new.out.items } in
    let base : IsMade g.D.Disk.tells g.G.Tape.tells start.set start.texts (g.D.Disk.view start.disk) (g.D.Disk.view c.args.self.now.bay.disk) (view_of c.ready.new.self) (g.G.Tape.turns start.tape) (g.G.Tape.turns c.room.new.self) turns =
    made_taped g.D.Disk.tells g.G.Tape.tells start.set start.texts (g.D.Disk.view start.disk) (g.G.Tape.turns start.tape) _ _ _ _ turns c.room.ensures.same
    (made_roomier g.D.Disk.tells g.G.Tape.tells start.set start.texts (g.D.Disk.view start.disk) (g.G.Tape.turns start.tape) _ _ _ _ turns c.ready.ensures.same made) in
    let new = made_turn g.D.Disk.tells g.G.Tape.tells start.set start.texts (g.D.Disk.view start.disk) (g.G.Tape.turns start.tape) (g.D.Disk.view c.args.self.now.bay.disk) (g.D.Disk.view c.turn.new.disk) (view_of c.ready.new.self) (view_of c.turn.new.self)
    (g.G.Tape.turns c.room.new.self) (g.G.Tape.turns c.keep.new.self) turns t c.now-now.ensures (λ told. rw c.deref-2.ensures.value at (c.keep.ensures.kept told)) c.turn.ensures.rests c.turn.ensures.set
    (λ told m is. gives_first _ _ _ m _ _ _ _ _ (c.ready.ensures.replies ∙ c.clear.ensures.items) (c.turn.ensures.turned told m is)) c.turn.ensures.spared
    (subst (λ (s : List Reply). Says (AnyIsOf c.args.jobs.items) (MayAnswerTo (view_of c.ready.new.self) c.args.jobs.items (g.D.Disk.view c.args.self.now.bay.disk) (g.D.Disk.view c.turn.new.disk)) s c.turn.new.out.items) (c.ready.ensures.replies ∙ c.clear.ensures.items) c.turn.ensures.says) c.turn.ensures.failed c.turn.ensures.monotone base in
    are_asked start.set start.texts (g.D.Disk.view start.disk) (g.D.Disk.view c.turn.new.disk) (view_of c.turn.new.self) _ (new.standing told)

pub returns-clause-to_these : goal.returns-clause-to_these
returns-clause-to_these g c = to_these c.args.jobs.items c.turn.new.out.items
    (subst (AllByRecursion (λ r. AnyIsOf c.args.jobs.items r.conn)) (sym (c.turn.ensures.says.behind ∙ ap (λ (l : List Reply). l ++ c.turn.ensures.says.replies) (c.ready.ensures.replies ∙ c.clear.ensures.items))) c.turn.ensures.says.asked)
