use Rattle.std.proofs.Common.{◌∙◌, ap, sym, arith, append-nil, ◌≡◌, take, List, ◌++◌}
use Rattle.std.proofs.lemmas.List.{take_all}
use Rattle.lsv_session.specs.Transcript.{frames_of, said_to}
use Rattle.lsv_session.specs.declared.reply.Reply.{Reply}
use Rattle.lsv_once.specs.Course.{once_conn}
use Rattle.lsv_once.proofs.AnswerLemmas.{frames_more}
use Rattle.lsv_once.proofs.answers.put_replies.Goals as goal

pub loop-reply-init : goal.loop-reply-init
loop-reply-init c = sym (append-nil c.args.answers.now)

pub loop-reply-preserved : goal.loop-reply-preserved
loop-reply-preserved c = c.in_ok-put_reply.ensures ∙ frames_more c.args.answers.now c.loop-reply.answers c.args.replies.now c.loop-reply.reply-index c.reply-item.result (omega arith) c.reply-item.is c.loop-reply.invariant

pub returns : goal.returns
returns c =
    let all : take c.loop-reply.reply-index c.args.replies.now ≡ c.args.replies.now = take_all c.loop-reply.reply-index c.args.replies.now (omega arith) in
    c.loop-reply.invariant ∙ ap (λ (r : List Reply). c.args.answers.now ++ frames_of (said_to once_conn r)) all
