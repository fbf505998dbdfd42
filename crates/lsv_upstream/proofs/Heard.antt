-- What a client reads of a first part of the frames of answers: the first of these answers.
use Rattle.std.proofs.Common.{◌≡◌, ◌<◌, ◌≤◌, ◌^◌, ℕ, List, [], ◌∷◌, ◌++◌, length, map, refl, sym, ◌∙◌, ap, append_assoc, arith}
use Rattle.std.specs.Prelude.{Ok}
use Rattle.std.specs.List.{flat_map, AllByRecursion}
use Rattle.std.specs.Int.{w32, to_be_bytes}
use Rattle.std.proofs.lemmas.List.{length-append}
use Rattle.std.proofs.lemmas.List.Concat.{flat_map-cons}
use Rattle.lsv_wire.specs.Frame.{IsMessage, frame_of}
use Rattle.lsv_wire.proofs.Streams.{same_message}
use Rattle.lsv_msg.specs.Fitting.{FitsServer}
use Rattle.lsv_msg.specs.Messages.{server_bytes, server_in}
use Rattle.lsv_msg.specs.declared.messages.ServerMessage.{ServerMessage}

-- what is written of an answer is read as it
abbrev pub ReadsAnswersBack : Type 0
ReadsAnswersBack = (m : ServerMessage) → FitsServer m → length (server_bytes m) < 2 ^ 64 → server_in (server_bytes m) ≡ Ok m

frame_some : (f rest : List ℕ) → 4 ≤ length (frame_of f ++ rest)
frame_some f rest = omega (arith, length-append (frame_of f) rest, length-append (to_be_bytes w32 (length f)) f)

pub heard_first : ReadsAnswersBack → (answers read : List ServerMessage) (frames : List (List ℕ)) (rest more : List ℕ) → AllByRecursion FitsServer answers → AllByRecursion (λ m. IsMessage (server_bytes m)) answers → AllByRecursion IsMessage frames
    → flat_map (λ m. frame_of (server_bytes m)) answers ≡ (flat_map frame_of frames ++ rest) ++ more → map server_in frames ≡ map (λ m. Ok m) read → (later : List ServerMessage) × (read ++ later ≡ answers)
heard_first back answers [] [] rest more fits each is e are = (answers, refl)
heard_first back answers (r ∷ read) [] rest more fits each is e are = absurd cc
heard_first back answers [] (f ∷ frames) rest more fits each is e are = absurd cc
heard_first back [] (r ∷ read) (f ∷ frames) rest more fits each is e are =
    let parts : (flat_map frame_of (f ∷ frames) ++ rest) ++ more ≡ frame_of f ++ ((flat_map frame_of frames ++ rest) ++ more) =
    ap (λ (x : List ℕ). (x ++ rest) ++ more) (flat_map-cons frame_of f frames) ∙ (ap (λ (x : List ℕ). x ++ more) (append_assoc (frame_of f) (flat_map frame_of frames) rest) ∙ append_assoc (frame_of f) (flat_map frame_of frames ++ rest) more) in
    let none = ap length (e ∙ parts) in
    let some = frame_some f ((flat_map frame_of frames ++ rest) ++ more) in
    absurd (omega (arith, none, some))
heard_first back (m ∷ answers) (r ∷ read) (f ∷ frames) rest more fits each is e are =
    let parts : (flat_map frame_of (f ∷ frames) ++ rest) ++ more ≡ frame_of f ++ ((flat_map frame_of frames ++ rest) ++ more) =
    ap (λ (x : List ℕ). (x ++ rest) ++ more) (flat_map-cons frame_of f frames) ∙ (ap (λ (x : List ℕ). x ++ more) (append_assoc (frame_of f) (flat_map frame_of frames) rest) ∙ append_assoc (frame_of f) (flat_map frame_of frames ++ rest) more) in
    let same = same_message (server_bytes m) f (flat_map (λ x. frame_of (server_bytes x)) answers) ((flat_map frame_of frames ++ rest) ++ more) each.0 is.0 (sym (flat_map-cons (λ x. frame_of (server_bytes x)) m answers) ∙ (e ∙ parts)) in
    let head : server_in f ≡ Ok r = cc in
    let tails : map server_in frames ≡ map (λ x. Ok x) read = cc in
    let reads : server_in (server_bytes m) ≡ Ok m = back m fits.0 (let small = each.0 in omega (arith, small)) in
    let one : Ok r ≡ Ok m = sym head ∙ (ap server_in (sym same.0) ∙ reads) in
    let first : r ≡ m = cc in
    let (later, whole) = heard_first back answers read frames rest more fits.1 each.1 is.1 same.1 tails in
    (later, ap (λ (x : ServerMessage). x ∷ (read ++ later)) first ∙ ap (λ (l : List ServerMessage). m ∷ l) whole)
