use Rattle.std.proofs.Common.{List, sym, subst}
use Rattle.lsv_session.specs.declared.reply.Reply.{Reply}
use Rattle.lsv_turn.specs.Turns.{NoneFor}
use Rattle.lsvt_rows_connection.proofs.Asked.{none_more}
use Rattle.lsvt_rows_connection.proofs.answering.Answering.judge.Goals as goal

pub returns-in_ok-push-in-Msg-Ttyout : goal.returns-in_ok-push-in-Msg-Ttyout
returns-in_ok-push-in-Msg-Ttyout c = record {
  to_it = λ k ne none. subst (λ (rs : List Reply). NoneFor k rs) (sym c.in_ok-push-in-Msg-Ttyout.ensures.items) (none_more k c.args.replies.now.items _ none ne);
}
