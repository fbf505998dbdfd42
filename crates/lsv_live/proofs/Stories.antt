-- Stories that go on.
use Rattle.std.proofs.Common.{◌≡◌, ℕ, ◌+◌, List, [], ◌∷◌, ◌++◌, length, take, refl, sym, ap, ◌∙◌, append_assoc, arith}
use Rattle.std.proofs.lemmas.List.{append-nil, take_at, length-append}
use Rattle.std.proofs.lemmas.List.Concat.{flat_map-append}
use Rattle.lsv_wire.specs.Frame.{frame_of}
use Rattle.lsv_wire.proofs.Streams.{length-frame_of}
use Rattle.lsv_live.specs.declared.meter.Meter.{Meter}
use Rattle.lsv_live.specs.Story.{Exchange, Handed, Heard, IsLawful, after, frames, handed, heard, next, puts, put_for}

pub handed_append : (a b : List Exchange) → handed (a ++ b) ≡ handed a ++ handed b
handed_append [] b = refl
handed_append (Handed body ∷ a) b = ap (λ (x : List (List ℕ)). body ∷ x) (handed_append a b)
handed_append (Heard body ∷ a) b = handed_append a b

pub heard_append : (a b : List Exchange) → heard (a ++ b) ≡ heard a ++ heard b
heard_append [] b = refl
heard_append (Handed body ∷ a) b = heard_append a b
heard_append (Heard body ∷ a) b = ap (λ (x : List (List ℕ)). body ∷ x) (heard_append a b)

pub after_append : (m : Meter) (a b : List Exchange) → after m (a ++ b) ≡ after (after m a) b
after_append m [] b = refl
after_append m (x ∷ a) b = after_append (next m x) a b

pub puts_append : (m : Meter) (a b : List Exchange) → puts m (a ++ b) ≡ puts m a ++ puts (after m a) b
puts_append m [] b = refl
puts_append m (x ∷ a) b = ap (λ (r : List ℕ). put_for m x ++ r) (puts_append (next m x) a b) ∙ sym (append_assoc (put_for m x) (puts (next m x) a) (puts (after (next m x) a) b))

pub lawful_append : (m : Meter) (a b : List Exchange) → IsLawful m a → IsLawful (after m a) b → IsLawful m (a ++ b)
lawful_append m [] b h k = k
lawful_append m (x ∷ a) b h k = (h.0, lawful_append (next m x) a b h.1 k)

pub frames_append : (a b : List (List ℕ)) → frames (a ++ b) ≡ frames a ++ frames b
frames_append a b = flat_map-append frame_of a b

pub frames_one : (body : List ℕ) → frames (body ∷ []) ≡ frame_of body
frames_one body = append-nil (frame_of body)

pub take_frame : (body rest : List ℕ) (n : ℕ) → length body ≡ n → take (4 + n) (frame_of body ++ rest) ≡ frame_of body
take_frame body rest n e = take_at (frame_of body) rest (4 + n) (let size : length (frame_of body ++ rest) ≡ 4 + length body + length rest = length-frame_of body rest in omega (arith, size, length-append (frame_of body) rest, e))
