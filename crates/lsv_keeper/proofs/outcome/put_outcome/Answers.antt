use Rattle.std.proofs.Common.{◌≡◌, ◌∷◌, ◌++◌, false, List, [], refl, sym, ◌∙◌, ap, subst, append_assoc, rules}
use Rattle.std.specs.Prelude.{ℕ}
use Rattle.lsv_base.specs.LogNo.{digits_of}
use Rattle.lsv_base.specs.declared.time.TimeSpec.{TimeSpec}
use Rattle.lsv_msg.specs.declared.messages.ServerMessage.TheVariants as server
use Rattle.lsv_session.specs.declared.reply.Reply.{Reply}
use Rattle.lsv_session.specs.declared.reply.ReplyBody.TheVariants as body
use Rattle.lsv_machine.specs.Answers.{CommitPoint, LogId, Shut, farewell, say}
use Rattle.lsv_keeper.specs.declared.outcome.Outcome.{Outcome}
use Rattle.lsv_keeper.specs.Rows.{NamesLog, AnswersWith}
use Rattle.lsv_keeper.proofs.outcome.put_outcome.Goals as goal

pub returns-in-Log : goal.returns-in-Log
returns-in-Log c =
    let id_is : c.in-Log.id ≡ digits_of c.in-Log.field-0 = subst NamesLog c.in-Log.is c.requires.named in
    record {
      answers = say c.args.conn (LogId c.in-Log.field-0) ∷ [];
      says = subst (λ (t : Outcome). AnswersWith c.args.conn t (say c.args.conn (LogId c.in-Log.field-0) ∷ [])) (sym c.in-Log.is) refl;
      items = c.put.ensures.items ∙ ap (λ (r : Reply). c.args.out.now.items ++ r ∷ []) (c.say.ensures ∙ ap (λ (t : List ℕ). let r : Reply = record { conn = c.args.conn; body = body.Say (server.LogId t); last = false } in r) id_is);
      room = search rules;
    }

pub returns-in-Finished : goal.returns-in-Finished
returns-in-Finished c = record {
  answers = say c.args.conn (CommitPoint c.in-Finished.point) ∷ say c.args.conn Shut ∷ [];
  says = subst (λ (t : Outcome). AnswersWith c.args.conn t (say c.args.conn (CommitPoint c.in-Finished.point) ∷ say c.args.conn Shut ∷ [])) (sym c.in-Finished.is) refl;
  items = c.put-in-Finished-2.ensures.items ∙ ap (λ (rs : List Reply). rs ++ c.shut.result ∷ []) c.put-in-Finished.ensures.items ∙ append_assoc c.args.out.now.items (c.say-in-Finished.result ∷ []) (c.shut.result ∷ [])
      ∙ ap (λ (r : Reply). c.args.out.now.items ++ r ∷ c.shut.result ∷ []) (c.say-in-Finished.ensures ∙ ap (λ (t : TimeSpec). let r : Reply = record { conn = c.args.conn; body = body.Say (server.CommitPoint t); last = false } in r) c.spec.ensures.parts)
      ∙ ap (λ (r : Reply). c.args.out.now.items ++ (record { conn = c.args.conn; body = body.Say (server.CommitPoint (Rattle.lsv_base.specs.Time.time_of c.in-Finished.point)); last = false }) ∷ r ∷ []) c.shut.ensures;
  room = search rules;
}

pub returns-in-Shut : goal.returns-in-Shut
returns-in-Shut c = record {
  answers = say c.args.conn Shut ∷ [];
  says = subst (λ (t : Outcome). AnswersWith c.args.conn t (say c.args.conn Shut ∷ [])) (sym c.in-Shut.is) refl;
  items = c.put-in-Shut.ensures.items ∙ ap (λ (r : Reply). c.args.out.now.items ++ r ∷ []) c.shut-in-Shut.ensures;
  room = search rules;
}

pub returns-in-Farewell : goal.returns-in-Farewell
returns-in-Farewell c = record {
  answers = farewell c.args.conn;
  says = subst (λ (t : Outcome). AnswersWith c.args.conn t (farewell c.args.conn)) (sym c.in-Farewell.is) refl;
  items = c.put-in-Farewell.ensures.items ∙ ap (λ (r : Reply). c.args.out.now.items ++ r ∷ []) c.shut-in-Farewell.ensures;
  room = search rules;
}

pub returns-in-Refused : goal.returns-in-Refused
returns-in-Refused c =
    let p = c.put_refusal.ensures in
    record { answers = p.answers; says = subst (λ (t : Outcome). AnswersWith c.args.conn t p.answers) (sym c.in-Refused.is) p.says; items = p.items; room = p.room }

pub returns-in-Nothing : goal.returns-in-Nothing
returns-in-Nothing c = record { answers = []; says = subst (λ (t : Outcome). AnswersWith c.args.conn t []) (sym c.in-Nothing.is) refl; items = search rules; room = search rules }
