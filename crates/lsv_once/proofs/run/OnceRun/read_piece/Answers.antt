use Rattle.std.proofs.Common.{◌≤◌, List, length, map, take, refl, sym, ◌∙◌, arith}
use Rattle.std.proofs.lemmas.List.{length-take}
use Rattle.lsv_turn.specs.Turns.{LaneTurn}
use Rattle.lsv_once.specs.Course.{turn_of}
use Rattle.lsv_once.specs.declared.run.ReadsEnd.TheVariants as ends
use Rattle.lsv_once.specs.World.{wires_of}
use Rattle.lsv_once.proofs.ReadLemmas.{ended_answering, ended_lost, ended_reading, risen_since, under_way, unput_turn}
use Rattle.lsv_once.proofs.run.OnceRun.read_piece.Goals as goal

pub returns-in_default-clause-ends : goal.returns-in_default-clause-ends
returns-in_default-clause-ends g c = λ start s k u.
    ended_reading (wires_of g.S.Source g.K.Sink s k) (ends.Open _) (g.L.Lane.made_by start c.args.self.now.lane) _ _ _ _ _ _ _ u refl (λ reads bytes all. all) (λ told. (c.in_default.ensures.failed told).0) (λ told. (c.in_default.ensures.failed told).1)
    c.in_default.ensures.cause.monotone (λ e. absurd (cc)) (λ more. risen_since _ _ _ more (c.in_default.ensures.cause.risen refl))

pub returns-then-count-eq0-clause-ends : goal.returns-then-count-eq0-clause-ends
returns-then-count-eq0-clause-ends g c = λ start s k u.
    ended_reading (wires_of g.S.Source g.K.Sink s k) (ends.Open _) (g.L.Lane.made_by start c.args.self.now.lane) _ _ _ _ _ _ _ u refl (λ reads bytes all. all) (λ told. c.in-Ok.ensures.no_piece told c.if-count-eq0.true)
    (λ told. sym (rw c.if-count-eq0.true at c.in-Ok.ensures.rest told)) c.in-Ok.ensures.cause.monotone
    (λ e told few.
    let all = rw c.if-count-eq0.true at c.in-Ok.ensures.rest told in
    let counted = c.in-Ok.ensures.counted in
    sym all ∙ c.in-Ok.ensures.end told c.if-count-eq0.true c.requires.room (omega arith)) (λ more. tt)

pub returns-in_default-take-clause-ends : goal.returns-in_default-take-clause-ends
returns-in_default-take-clause-ends g c = λ start s k u.
    let short : length (take c.in-Ok.count c.read.new.buf) ≤ 65536 = omega (arith, length-take c.in-Ok.count c.read.new.buf) in
    ended_lost (wires_of g.S.Source g.K.Sink s k) (g.L.Lane.made_by start c.args.self.now.lane) (g.L.Lane.made_by start c.args.self.now.lane) _ _ _ _ _ _ _ (take c.in-Ok.count c.read.new.buf) u (λ told. c.in-Ok.ensures.piece told (omega arith)) (λ told. c.in-Ok.ensures.rest told) short
    c.in-Ok.ensures.cause.monotone (λ turns made. made)

-- a turn may be made
pub turn-requires : goal.turn-requires
turn-requires g c = let n = c.requires.known in record { begun = (n.0, map turn_of n.3.reads, n.3.made) }

pub returns-in_default-turn-clause-ends : goal.returns-in_default-turn-clause-ends
returns-in_default-turn-clause-ends g c = λ start s k u.
    let short : length (take c.in-Ok.count c.read.new.buf) ≤ 65536 = omega (arith, length-take c.in-Ok.count c.read.new.buf) in
    ended_lost (wires_of g.S.Source g.K.Sink s k) (g.L.Lane.made_by start c.args.self.now.lane) (g.L.Lane.made_by start c.turn.new.self.lane) _ _ _ _ _ _ _ (take c.in-Ok.count c.read.new.buf) u (λ told. c.in-Ok.ensures.piece told (omega arith)) (λ told. c.in-Ok.ensures.rest told) short
    c.in-Ok.ensures.cause.monotone (c.in_default-turn.ensures.lost start)

pub returns-in-Err-clause-ends : goal.returns-in-Err-clause-ends
returns-in-Err-clause-ends g c = λ start s k u.
    let short : length (take c.in-Ok.count c.read.new.buf) ≤ 65536 = omega (arith, length-take c.in-Ok.count c.read.new.buf) in
    let p = unput_turn (wires_of g.S.Source g.K.Sink s k) (λ begin (turns : List LaneTurn). g.L.Lane.made_by begin c.args.self.now.lane turns) (λ begin (turns : List LaneTurn). g.L.Lane.made_by begin c.turn.new.self.lane turns) start _ _ _ _ _ (g.S.Source.given c.read.new.self) (g.S.Source.rest c.read.new.self) (g.S.Source.count c.read.new.self) (g.S.Source.faults c.read.new.self)
    (take c.in-Ok.count c.read.new.buf) _ _ u (λ told. c.in-Ok.ensures.piece told (omega arith)) (λ told. c.in-Ok.ensures.rest told) short c.in-Ok.ensures.cause.monotone c.in-Ok-take.ensures c.in-Ok-turn.ensures.made in
    rw c.answer.ensures.lane (ended_answering (wires_of g.S.Source g.K.Sink s k) _ (g.L.Lane.made_by start c.turn.new.self.lane) _ _ _ _ _ _ p c.answer.ensures.faults c.in-Err.ensures.ends)

pub returns-clause-on : goal.returns-clause-on
returns-clause-on g c = λ start s k u.
    let short : length (take c.in-Ok.count c.read.new.buf) ≤ 65536 = omega (arith, length-take c.in-Ok.count c.read.new.buf) in
    let p = unput_turn (wires_of g.S.Source g.K.Sink s k) (λ begin (turns : List LaneTurn). g.L.Lane.made_by begin c.args.self.now.lane turns) (λ begin (turns : List LaneTurn). g.L.Lane.made_by begin c.turn.new.self.lane turns) start _ _ _ _ _ (g.S.Source.given c.read.new.self) (g.S.Source.rest c.read.new.self) (g.S.Source.count c.read.new.self) (g.S.Source.faults c.read.new.self)
    (take c.in-Ok.count c.read.new.buf) _ _ u (λ told. c.in-Ok.ensures.piece told (omega arith)) (λ told. c.in-Ok.ensures.rest told) short c.in-Ok.ensures.cause.monotone c.in-Ok-take.ensures c.in-Ok-turn.ensures.made in
    rw (c.answer.ensures.lane, c.answer.ensures.reader, c.in-Ok-turn.ensures.reader)
    (under_way (wires_of g.S.Source g.K.Sink s k) (g.L.Lane.made_by start c.turn.new.self.lane) _ _ _ _ _ _ p c.in_default-answer.ensures.on c.in_default-answer.ensures.put c.answer.ensures.faults)
