use Rattle.lsv_once.specs.World.{wires_of}
use Rattle.lsv_once.proofs.ReadLemmas.{ended_greeting, under_way_begun}
use Rattle.lsv_once.proofs.run.OnceRun.take_in.Goals as goal

pub read-requires : goal.read-requires
read-requires g c =
    let n = c.requires.begun in
    record {
      known = (
        n.0,
        c.args.source.now,
        c.args.sink.now,
        rw (c.greet.ensures.lane, c.greet.ensures.reader)
            (under_way_begun (wires_of g.S.Source g.K.Sink c.args.source.now c.args.sink.now) (g.L.Lane.made_by n.0 c.args.self.now.lane) _ _ _ _ n.1 c.requires.not_over c.requires.unread c.in-Ok.ensures.put c.greet.ensures.faults),
      );
    }

pub returns-in-Ok : goal.returns-in-Ok
returns-in-Ok g c = λ start made.
    c.read.ensures start c.args.source.now c.args.sink.now
    (rw (c.greet.ensures.lane, c.greet.ensures.reader)
    (under_way_begun (wires_of g.S.Source g.K.Sink c.args.source.now c.args.sink.now) (g.L.Lane.made_by start c.args.self.now.lane) _ _ _ _ made c.requires.not_over c.requires.unread c.in-Ok.ensures.put c.greet.ensures.faults))

pub returns-in-Err : goal.returns-in-Err
returns-in-Err g c = λ start made.
    rw c.greet.ensures.lane (ended_greeting (wires_of g.S.Source g.K.Sink c.args.source.now c.args.sink.now) _ (g.L.Lane.made_by start c.args.self.now.lane) _ _ made c.greet.ensures.faults c.in-Err.ensures.ends)
