use Rattle.std.proofs.Common.{◌≡◌, ◌∷◌, ◌++◌, false, List, [], refl, ◌∙◌, ap, inl, inr, append_assoc, ◌⊎◌, rules}
use Rattle.std.specs.Prelude.{map}
use Rattle.std.specs.Global.{Vec}
use Rattle.lsv_msg.specs.declared.messages.ServerMessage.{ServerMessage}
use Rattle.lsv_request.specs.declared.refusal.Refusal.{Refusal}
use Rattle.lsv_request.specs.declared.refusal.Refusal.TheVariants.{OutOfMemory}
use Rattle.lsv_session.specs.Connections.{refusal_message}
use Rattle.lsv_session.specs.declared.reply.Reply.{Reply}
use Rattle.lsv_session.specs.declared.reply.ReplyBody.TheVariants as body
use Rattle.lsv_session.specs.declared.connection.ConnId.{ConnId}
use Rattle.lsv_machine.specs.Answers.{Answer, Shut, refusal, reply_of, say}
use Rattle.lsv_machine.specs.Failures.{WantsMemory}
use Rattle.lsv_keeper.proofs.outcome.put_refusal.Goals.{in-Some, in_default}
use Rattle.lsv_keeper.proofs.outcome.put_refusal.Goals as goal

-- the replies of a refusal by this message
refused_with : (k : ConnId) (why : Refusal) (message : ServerMessage) (first last : Reply) (said one two : List Reply)
    → (message ≡ refusal_message why) ⊎ (message ≡ refusal_message OutOfMemory)
    → one ≡ said ++ first ∷ [] → two ≡ one ++ last ∷ []
    → first ≡ record { conn = k; body = body.Say message; last = false } → last ≡ record { conn = k; body = body.Shut; last = false }
    → (answers : List Answer) × ((answers ≡ refusal k why) ⊎ WantsMemory k answers) × (two ≡ said ++ map reply_of answers)
refused_with k why message first last said one two (inl is) a b f l = (
  refusal k why,
  inl refl,
  b ∙ ap (λ (rs : List Reply). rs ++ last ∷ []) a ∙ append_assoc said (first ∷ []) (last ∷ [])
      ∙ ap (λ (r : Reply). said ++ r ∷ last ∷ []) (f ∙ ap (λ (m : ServerMessage). let r : Reply = record { conn = k; body = body.Say m; last = false } in r) is)
      ∙ ap (λ (r : Reply). said ++ (record { conn = k; body = body.Say (refusal_message why); last = false }) ∷ r ∷ []) l,
)
refused_with k why message first last said one two (inr is) a b f l = (
  refusal k OutOfMemory,
  inr (inl refl),
  b ∙ ap (λ (rs : List Reply). rs ++ last ∷ []) a ∙ append_assoc said (first ∷ []) (last ∷ [])
      ∙ ap (λ (r : Reply). said ++ r ∷ last ∷ []) (f ∙ ap (λ (m : ServerMessage). let r : Reply = record { conn = k; body = body.Say m; last = false } in r) is)
      ∙ ap (λ (r : Reply). said ++ (record { conn = k; body = body.Say (refusal_message OutOfMemory); last = false }) ∷ r ∷ []) l,
)

pub returns : goal.returns
returns c =
    let t : (answers : List Answer) × ((answers ≡ refusal c.args.conn c.args.why) ⊎ WantsMemory c.args.conn answers) × (c.put-2.new.out.items ≡ c.args.out.now.items ++ map reply_of answers) = elim c.match-message_of.branch [
      | in-Some w ↦ refused_with c.args.conn c.args.why w.in-Some.message w.say.result c.shut.result c.args.out.now.items w.put.new.out.items c.put-2.new.out.items w.in-Some.ensures w.put.ensures.items
          (c.put-2.ensures.items ∙ ap (λ (v : Vec Reply). v.items ++ c.shut.result ∷ []) w.out-is) w.say.ensures c.shut.ensures
      | in_default w ↦ (say c.args.conn Shut ∷ [], inr (inr refl), c.put-2.ensures.items ∙ ap (λ (v : Vec Reply). v.items ++ c.shut.result ∷ []) w.out-is ∙ ap (λ (r : Reply). c.args.out.now.items ++ r ∷ []) c.shut.ensures)
    ] in
    record { answers = t.0; says = t.1; items = t.2; room = search rules }
