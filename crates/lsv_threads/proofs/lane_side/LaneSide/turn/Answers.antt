use Rattle.std.proofs.Common.{refl}
use Rattle.lsv_threads.proofs.Turning.{from_dropped, from_turn}
use Rattle.lsv_threads.proofs.lane_side.LaneSide.turn.Goals as goal

pub returns-in-Ok-clause-from : goal.returns-in-Ok-clause-from
returns-in-Ok-clause-from g c = λ first from.
    from_turn g.L.Lane c.args.outs.now c.args.self.now _ refl (record { now = c.in-Ok.field-0; jobs = c.args.jobs.items; gap = c.args.gap; replies = c.turn.new.replies.items })
    c.requires.going refl c.requires.some c.requires.most c.requires.gap c.give_all.ensures.gives c.in-Ok.ensures.made c.in-Ok.ensures.to_these (λ told. c.in-Ok.ensures.asked told) first c.requires.none refl from

pub returns-in-Err-clause-from : goal.returns-in-Err-clause-from
returns-in-Err-clause-from g c = λ first from.
    from_dropped g.L.Lane c.args.outs.now c.args.self.now _ refl c.args.jobs.items refl c.in-Err.ensures.lost refl refl refl first from
