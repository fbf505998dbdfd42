-- Frames are read, and written, one after another.
use Rattle.std.proofs.Common.{◌≡◌, ◌≤◌, ◌++◌, ◌∷◌, List, [], ℕ, length, map, refl, sym, ◌∙◌, ap, append_assoc, append-nil, length-append, arith, Ok}
use Rattle.std.specs.Int.{w32, to_be_bytes}
use Rattle.std.specs.List.{flat_map, AllByRecursion}
use Rattle.lsv_wire.specs.Frame.{frame_of, IsMessage}
use Rattle.lsv_msg.specs.Messages.{client_bytes, server_in}
use Rattle.lsv_msg.specs.declared.messages.ClientMessage.{ClientMessage}
use Rattle.lsv_msg.specs.declared.messages.ServerMessage.{ServerMessage}
use Rattle.lsv_dialogue.specs.Events.{frames_of}

pub flat_push : (frames : List (List ℕ)) (f : List ℕ) (rest : List ℕ) → flat_map frame_of (frames ++ f ∷ []) ++ rest ≡ flat_map frame_of frames ++ (frame_of f ++ rest)
flat_push [] f rest = ap (λ (x : List ℕ). x ++ rest) (append-nil (frame_of f))
flat_push (g ∷ frames) f rest =
    append_assoc (frame_of g) (flat_map frame_of (frames ++ f ∷ [])) rest
    ∙ (ap (λ (x : List ℕ). frame_of g ++ x) (flat_push frames f rest) ∙ sym (append_assoc (frame_of g) (flat_map frame_of frames) (frame_of f ++ rest)))

pub each_push : (frames : List (List ℕ)) (f : List ℕ) → AllByRecursion IsMessage frames → IsMessage f → AllByRecursion IsMessage (frames ++ f ∷ [])
each_push [] f a b = (b, tt)
each_push (g ∷ frames) f a b = (a.0, each_push frames f a.1 b)

pub map_push : (frames : List (List ℕ)) (f : List ℕ) (ms : List ServerMessage) (m : ServerMessage) → map server_in frames ≡ map (λ x. Ok x) ms → server_in f ≡ Ok m → map server_in (frames ++ f ∷ []) ≡ map (λ x. Ok x) (ms ++ m ∷ [])
map_push [] f [] m a b = ap (λ x. x ∷ []) b
map_push [] f (x ∷ ms) m a b = absurd (cc)
map_push (g ∷ frames) f [] m a b = absurd (cc)
map_push (g ∷ frames) f (x ∷ ms) m a b =
    let p : server_in g ≡ Ok x = cc in
    let q : map server_in frames ≡ map (λ y. Ok y) ms = cc in
    ap (λ y. y ∷ map server_in (frames ++ f ∷ [])) p ∙ ap (λ y. Ok x ∷ y) (map_push frames f ms m q b)

pub frames_append : (xs ys : List ClientMessage) → frames_of (xs ++ ys) ≡ frames_of xs ++ frames_of ys
frames_append [] ys = refl
frames_append (x ∷ xs) ys = ap (λ (b : List ℕ). frame_of (client_bytes x) ++ b) (frames_append xs ys) ∙ sym (append_assoc (frame_of (client_bytes x)) (frames_of xs) (frames_of ys))

-- a frame has bytes
pub frames_some : (m : ClientMessage) (ms : List ClientMessage) → 4 ≤ length (frames_of (m ∷ ms))
frames_some m ms = omega (arith, length-append (frame_of (client_bytes m)) (frames_of ms), length-append (to_be_bytes w32 (length (client_bytes m))) (client_bytes m))
