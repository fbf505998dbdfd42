use Rattle.std.proofs.Common.{◌++◌, arith, ap, ◌∙◌}
use Rattle.std.proofs.lemmas.Result.{on_ok_weaker}
use Rattle.lsv_msg.proofs.Replies.{commit_framed, commit_short}
use Rattle.lsv_msg.proofs.reply.put_commit_point.Goals as goal

pub returns-clause-ok : goal.returns-clause-ok
returns-clause-ok c =
    let end = c.write_time-end.result in
    let framed = commit_framed end c.write_time-end.new.bytes c.args.t c.write_time-end.ensures.written (omega (arith, c.write_time-end.auto.bytes)) c.write_time-end.ensures.after c.write_time-end.ensures.there in
    on_ok_weaker c.add.result (λ put. put ∙ ap (λ b. c.args.out.now ++ b) framed) c.add.ensures.ok

pub returns-clause-within : goal.returns-clause-within
returns-clause-within c = commit_short c.write_time-end.result c.write_time-end.new.bytes c.args.t c.write_time-end.ensures.written c.write_time-end.ensures.there
