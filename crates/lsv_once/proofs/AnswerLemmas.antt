-- The frames of replies, one after another.
use Rattle.std.proofs.Common.{◌≡◌, ◌+◌, ◌<◌, ◌++◌, ◌∷◌, [], List, ℕ, Bool, true, false, length, get_or, take, refl, sym, ap, ◌∙◌, append_assoc}
use Rattle.std.proofs.lemmas.List.{take_more}
use Rattle.std.proofs.lemmas.Grind.{flat_map-append}
use Rattle.lsv_defs.specs.Causes.{HasRisen}
use Rattle.lsv_defs.specs.Pieces.{IsPrefix}
use Rattle.lsv_wire.specs.Frame.{frame_of}
use Rattle.lsv_msg.specs.Messages.{server_bytes}
use Rattle.lsv_msg.specs.declared.messages.ServerMessage.{ServerMessage}
use Rattle.lsv_session.specs.Transcript.{frames_of, said_to}
use Rattle.lsv_session.specs.declared.reply.Reply.{Reply}
use Rattle.lsv_session.proofs.Replies.{said_to-append}
use Rattle.lsv_once.specs.InnerRun.{AnswerEnds, unput}
use Rattle.lsv_once.specs.Course.{once_conn}

frames_append : (xs ys : List Reply) → frames_of (said_to once_conn (xs ++ ys)) ≡ frames_of (said_to once_conn xs) ++ frames_of (said_to once_conn ys)
frames_append xs ys = ap frames_of (said_to-append once_conn xs ys) ∙ flat_map-append (λ (m : ServerMessage). frame_of (server_bytes m)) (said_to once_conn xs) (said_to once_conn ys)

-- with one reply more
pub frames_more : (start now : List ℕ) (replies : List Reply) (i : ℕ) (r : Reply) → i < length replies → r ≡ get_or replies i r → now ≡ start ++ frames_of (said_to once_conn (take i replies))
    → now ++ frames_of (said_to once_conn (r ∷ [])) ≡ start ++ frames_of (said_to once_conn (take (i + 1) replies))
frames_more start now replies i r less is e =
    ap (λ (b : List ℕ). b ++ frames_of (said_to once_conn (r ∷ []))) e
    ∙ append_assoc start (frames_of (said_to once_conn (take i replies))) (frames_of (said_to once_conn (r ∷ [])))
    ∙ ap (λ (b : List ℕ). start ++ b) (sym (frames_append (take i replies) (r ∷ [])) ∙ ap (λ (l : List Reply). frames_of (said_to once_conn l)) (ap (λ (x : Reply). take i replies ++ x ∷ []) is ∙ sym (take_more replies i r less)))

-- how reads end where answers couldn't be put
pub unput_ends : (tells : Type 0) (shut : Bool) (frames put put' : List ℕ) (faults faults' : ℕ) → HasRisen faults faults' → (tells → (front : List ℕ) × IsPrefix front frames × (put' ≡ put ++ front))
    → AnswerEnds tells shut frames put put' faults faults' (unput shut)
unput_ends tells true frames put put' faults faults' risen part = (refl, risen, part)
unput_ends tells false frames put put' faults faults' risen part = (refl, risen, part)
