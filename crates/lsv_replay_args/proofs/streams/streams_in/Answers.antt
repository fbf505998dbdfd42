use Rattle.std.proofs.Common.{◌∙◌, refl, sym}
use Rattle.lsv_replay_args.proofs.Cuts.{left_cut, left_less}
use Rattle.lsv_replay_args.proofs.Names.{named_more, named_none}
use Rattle.lsv_replay_args.proofs.streams.streams_in.Goals as goal

pub returns-in_err-i : goal.returns-in_err-i
returns-in_err-i c =
    c.from_residual.ensures
    ∙ sym (named_none c.args.list.now c.loop-rest.streams c.loop-rest.rest c.cut.result.1 c.in-Some.names c.cut.result.0.now c.in-Some.is c.loop-rest.invariant (left_cut 44 c.in-Some.names.now c.cut.result.1 c.cut.ensures.behind) c.cut.ensures.before
    (sym c.in_err-i.ensures.name))

pub loop-rest-smaller : goal.loop-rest-smaller
loop-rest-smaller c =
    let less = left_less 44 c.in-Some.names.now c.cut.result.1 c.cut.ensures.behind in
    rw c.in-Some.is less

pub loop-rest-preserved : goal.loop-rest-preserved
loop-rest-preserved c =
    named_more c.args.list.now c.loop-rest.streams c.loop-rest.rest c.cut.result.1 c.in-Some.names c.cut.result.0.now c.in-Some.is c.loop-rest.invariant (left_cut 44 c.in-Some.names.now c.cut.result.1 c.cut.ensures.behind) c.cut.ensures.before
    c.in_ok-i.i _ (sym c.in_ok-i.ensures.name) refl
