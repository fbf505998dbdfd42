-- What a turn says, and that it says that a device failed only where that is told.
use Rattle.std.proofs.Common.{◌≡◌, ℕ, List, [], ◌∷◌, ◌++◌, slice_index_or, refl, sym, ◌∙◌, ap, subst, inl, inr, arith, append_assoc}
use Rattle.std.specs.Prelude.{map}
use Rattle.std.specs.List.{AllByRecursion}
use Rattle.lsv_msg.specs.declared.messages.ServerMessage.{ServerMessage}
use Rattle.lsv_msg.specs.declared.messages.ServerMessage.TheVariants as server
use Rattle.lsv_request.specs.Refusals.{refusal_text}
use Rattle.lsv_request.specs.declared.refusal.Refusal.{Refusal}
use Rattle.lsv_request.specs.declared.refusal.Refusal.TheVariants.{UnexpectedMessage, MalformedMessage, MessageTooLarge, MissingKey, BadTime, BadSizeOrSignal, LogInUse, NoSuchLog, LogComplete, NoSuchResumePoint, LogDamaged, DeviceFault, NumbersSpent, LogFull, OutOfMemory}
use Rattle.lsv_session.specs.declared.connection.ConnId.{ConnId}
use Rattle.lsv_session.specs.declared.reply.Reply.{Reply}
use Rattle.lsv_machine.specs.Answers.{Answer, CommitPoint, Error, refusal, reply_of, say}
use Rattle.lsv_machine.specs.Failures.{WantsMemory}
use Rattle.lsv_keeper.specs.Causes.{IsDeviceFault, Says, IsFaultRefusal}
use Rattle.lsv_keeper.specs.Rows.{AnswersWith}
use Rattle.lsv_keeper.specs.declared.outcome.Outcome.{Outcome}
use Rattle.lsv_keeper.specs.declared.outcome.Outcome.TheVariants as outcome
use Rattle.lsv_keeper.proofs.Causes.{all_append, all_as, all_two}

-- ---- One after another

pub says_none : (p why : ConnId → Type 0) (said : List Reply) → Says p why said said
says_none p why said = record { replies = []; behind = nil said; asked = tt; cause = tt }
  where
    nil : (xs : List Reply) → xs ≡ xs ++ []
    nil [] = refl
    nil (x ∷ xs) = ap (λ (l : List Reply). x ∷ l) (nil xs)

pub says_as : (p q a b : ConnId → Type 0) (x y : List Reply) → ((k : ConnId) → p k → q k) → ((k : ConnId) → p k → a k → b k) → Says p a x y → Says q b x y
says_as p q a b x y more why s = record {
  replies = s.replies;
  behind = s.behind;
  asked = all_as (λ r. p r.conn) (λ r. q r.conn) s.replies (λ r is. more r.conn is) s.asked;
  cause = all_two (λ r. p r.conn) (λ r. IsDeviceFault r → a r.conn) (λ r. IsDeviceFault r → b r.conn) s.replies (λ r its is fault. why r.conn its (is fault)) s.asked s.cause;
}

pub says_then : (p why : ConnId → Type 0) (x y z : List Reply) → Says p why x y → Says p why y z → Says p why x z
says_then p why x y z s t = record {
  replies = s.replies ++ t.replies;
  behind = t.behind ∙ ap (λ (l : List Reply). l ++ t.replies) s.behind ∙ append_assoc x s.replies t.replies;
  asked = all_append (λ r. p r.conn) s.replies t.replies s.asked t.asked;
  cause = all_append (λ r. IsDeviceFault r → why r.conn) s.replies t.replies s.cause t.cause;
}

-- ---- The text of a device fault

abbrev first : List ℕ → ℕ
first xs = slice_index_or xs 0 0

-- no other refusal has the text of a device fault
text_of_fault : (why : Refusal) → refusal_text why ≡ refusal_text DeviceFault → why ≡ DeviceFault
text_of_fault DeviceFault e = refl
text_of_fault UnexpectedMessage e = absurd (let f : 117 ≡ 100 = ap first e in omega (arith, f))
text_of_fault MalformedMessage e = absurd (let f : 109 ≡ 100 = ap first e in omega (arith, f))
text_of_fault MessageTooLarge e = absurd (let f : 109 ≡ 100 = ap first e in omega (arith, f))
text_of_fault MissingKey e = absurd (let f : 109 ≡ 100 = ap first e in omega (arith, f))
text_of_fault BadTime e = absurd (let f : 98 ≡ 100 = ap first e in omega (arith, f))
text_of_fault BadSizeOrSignal e = absurd (let f : 98 ≡ 100 = ap first e in omega (arith, f))
text_of_fault LogInUse e = absurd (let f : 108 ≡ 100 = ap first e in omega (arith, f))
text_of_fault NoSuchLog e = absurd (let f : 110 ≡ 100 = ap first e in omega (arith, f))
text_of_fault LogComplete e = absurd (let f : 108 ≡ 100 = ap first e in omega (arith, f))
text_of_fault NoSuchResumePoint e = absurd (let f : 110 ≡ 100 = ap first e in omega (arith, f))
text_of_fault LogDamaged e = absurd (let f : 108 ≡ 100 = ap first e in omega (arith, f))
text_of_fault NumbersSpent e = absurd (let f : 110 ≡ 100 = ap first e in omega (arith, f))
text_of_fault LogFull e = absurd (let f : 108 ≡ 100 = ap first e in omega (arith, f))
text_of_fault OutOfMemory e = absurd (let f : 111 ≡ 100 = ap first e in omega (arith, f))

message_of : ServerMessage → List ℕ
message_of (server.Error text) = text
message_of m = []

is_fault : (k : ConnId) (why : Refusal) → IsDeviceFault (reply_of (say k (Error why))) → why ≡ DeviceFault
is_fault k why e = let f : server.Error (refusal_text why) ≡ server.Error (refusal_text DeviceFault) = cc e in text_of_fault why (cc f)

-- ---- What a job is told

abbrev AreIts : ConnId → Type 0 → List Answer → Type 0
AreIts k why answers = AllByRecursion (λ r. r.conn ≡ k) (map reply_of answers) × AllByRecursion (λ r. IsDeviceFault r → why) (map reply_of answers)

refusal_its : (k : ConnId) (why : Refusal) (cause : Type 0) → (why ≡ DeviceFault → cause) → AreIts k cause (refusal k why)
refusal_its k why cause is = ((refl, (refl, tt)), ((λ e. is (is_fault k why e)), ((λ e. absurd (cc e)), tt)))

wants_its : (k : ConnId) (cause : Type 0) (answers : List Answer) → WantsMemory k answers → AreIts k cause answers
wants_its k cause answers (inl e) = subst (AreIts k cause) (sym e) (refusal_its k OutOfMemory cause (λ f. absurd (cc f)))
wants_its k cause answers (inr e) = subst (AreIts k cause) (sym e) ((refl, tt), ((λ f. absurd (cc f)), tt))

tells_its : (k : ConnId) (t : Outcome) (answers : List Answer) → AnswersWith k t answers → AreIts k (IsFaultRefusal t) answers
tells_its k outcome.Nothing answers e = subst (AreIts k (IsFaultRefusal outcome.Nothing)) (sym e) (tt, tt)
tells_its k (outcome.Log n id) answers e = subst (AreIts k (IsFaultRefusal (outcome.Log n id))) (sym e) ((refl, tt), ((λ f. absurd (cc f)), tt))
tells_its k (outcome.Refused why) answers (inl e) = subst (AreIts k (IsFaultRefusal (outcome.Refused why))) (sym e) (refusal_its k why (IsFaultRefusal (outcome.Refused why)) (λ is. ap (λ (w : Refusal). outcome.Refused w) is))
tells_its k (outcome.Refused why) answers (inr w) = wants_its k (IsFaultRefusal (outcome.Refused why)) answers w
tells_its k (outcome.Finished point) answers e = subst (AreIts k (IsFaultRefusal (outcome.Finished point))) (sym e) ((refl, (refl, tt)), ((λ f. absurd (cc f)), ((λ f. absurd (cc f)), tt)))
tells_its k outcome.Shut answers e = subst (AreIts k (IsFaultRefusal outcome.Shut)) (sym e) ((refl, tt), ((λ f. absurd (cc f)), tt))
tells_its k outcome.Farewell answers e = subst (AreIts k (IsFaultRefusal outcome.Farewell)) (sym e) ((refl, tt), ((λ f. absurd (cc f)), tt))

-- the replies of what a job is told are its own, and one says that a device failed only where that is told
pub says_told : (k : ConnId) (t : Outcome) (answers : List Answer) (said said' : List Reply) → AnswersWith k t answers → said' ≡ said ++ map reply_of answers → Says (λ j. j ≡ k) (λ j. IsFaultRefusal t) said said'
says_told k t answers said said' tells behind = let its = tells_its k t answers tells in record { replies = map reply_of answers; behind = behind; asked = its.0; cause = its.1 }

-- a commit point is to its connection
pub says_point : (k : ConnId) (point : ℕ) (said said' : List Reply) → said' ≡ said ++ map reply_of (say k (CommitPoint point) ∷ []) → Says (λ j. j ≡ k) (λ j. ⊥) said said'
says_point k point said said' behind = record { replies = map reply_of (say k (CommitPoint point) ∷ []); behind = behind; asked = (refl, tt); cause = ((λ f. absurd (cc f)), tt) }
