use Rattle.std.proofs.Common.{◌≡◌}
use Rattle.lsv_replay_args.specs.Streams.{named, streams_in}
use Rattle.lsv_replay_args.proofs.Cuts.{left_of, pieces_left}
use Rattle.lsv_replay_args.proofs.streams.streams_in.Given as goal

-- the streams so far, and those of the names that are left
abbrev pub invariant-loop-rest : goal.invariant-loop-rest
invariant-loop-rest l = streams_in l.list ≡ named l.streams (pieces_left 44 l.rest)

abbrev pub decreases-loop-rest : goal.decreases-loop-rest
decreases-loop-rest l = left_of l.rest
