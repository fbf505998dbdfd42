use Rattle.lsv_follow.proofs.Shown.{put_as_played, put_at_once}
use Rattle.lsv_follow.proofs.following.options_after.Goals as goal

pub returns-then-quiet-eq0 : goal.returns-then-quiet-eq0
returns-then-quiet-eq0 c r = put_as_played c.args.o.now c.args.quiet r c.if-quiet-eq0.true

pub returns : goal.returns
returns c r = put_at_once c.args.o.now c.args.quiet r c.if-quiet-eq0.false
