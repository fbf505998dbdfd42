-- A stream of frames read from the front.
use Rattle.std.proofs.Common.{◌≡◌, ℕ, zero, suc, ◌+◌, ◌<◌, ◌≤◌, List, [], ◌∷◌, ◌++◌, length, get_or, take, drop, All, refl, sym, ap, subst, ◌∙◌, append_assoc, arith, inl, inr}
use Rattle.std.specs.Prelude.{◌⊎◌}
use Rattle.std.specs.List.{flat_map, AllByRecursion}
use Rattle.std.specs.Int.{w32, to_be_bytes}
use Rattle.std.proofs.lemmas.Bool.{cases_lt}
use Rattle.std.proofs.lemmas.List.{take_at, drop_at, length-append, length-take, length-drop, take-append-drop, get_or_past, append-nil}
use Rattle.std.proofs.lemmas.List.Concat.{flat_map-cons}
use Rattle.std.proofs.lemmas.List.Elements.{All-get_or, All-take, All-drop}
use Rattle.std.proofs.lemmas.Nat.{be_bytes_4, from_be_bytes-to_be_bytes_4}
use Rattle.lsv_wire.specs.declared.framing.TheConstants.{FRAME_LIMIT}
use Rattle.lsv_wire.specs.Frame.{frame_of, IsMessage, stated_length, IsPartial, IsTooLong, framed, Cut, Over}

pub stated_length-frame_of : (m x : List ℕ) → IsMessage m → stated_length (frame_of m ++ x) ≡ length m
stated_length-frame_of m x small = from_be_bytes-to_be_bytes_4 (length m) (omega arith)

pub length-frame_of : (m x : List ℕ) → length (frame_of m ++ x) ≡ 4 + length m + length x
length-frame_of m x = omega (arith, length-append (frame_of m) x, length-append (to_be_bytes w32 (length m)) m)

behind : (m x : List ℕ) → drop 4 (frame_of m ++ x) ≡ m ++ x
behind m x = refl

-- where a stream of whole messages stops
abbrev pub IsStop : List ℕ → Type 0
IsStop rest = IsPartial rest ⊎ ((n : ℕ) × IsTooLong rest n)

partial_not_frame : (m x : List ℕ) → IsMessage m → IsPartial (frame_of m ++ x) → ⊥
partial_not_frame m x small (inl short) = omega (arith, length-frame_of m x)
partial_not_frame m x small (inr cut) = omega (arith, length-frame_of m x, stated_length-frame_of m x small, cut.missing)

pub stop_not_frame : (m x : List ℕ) → IsMessage m → IsStop (frame_of m ++ x) → ⊥
stop_not_frame m x small (inl partial) = partial_not_frame m x small partial
stop_not_frame m x small (inr over) = omega (arith, stated_length-frame_of m x small, over.1.states, over.1.above)

pub partial_not_long : (rest : List ℕ) (n : ℕ) → IsPartial rest → IsTooLong rest n → ⊥
partial_not_long rest n (inl short) long = omega (arith, long.length_is_there)
partial_not_long rest n (inr cut) long = omega (arith, cut.within, long.states, long.above)

-- what begins with the frames of two messages begins with one message
pub same_message : (m m' x x' : List ℕ) → IsMessage m → IsMessage m' → frame_of m ++ x ≡ frame_of m' ++ x' → (m ≡ m') × (x ≡ x')
same_message m m' x x' small small' e =
    let len : length m ≡ length m' = sym (stated_length-frame_of m x small) ∙ ap stated_length e ∙ stated_length-frame_of m' x' small' in
    let parts : m ++ x ≡ m' ++ x' = ap (λ (t : List ℕ). drop 4 t) e in
    let front : m ≡ m' = sym (take_at m x (length m) refl) ∙ ap (take (length m)) parts ∙ take_at m' x' (length m) (sym len) in
    let back : x ≡ x' = sym (drop_at m x (length m) refl) ∙ ap (drop (length m)) parts ∙ drop_at m' x' (length m) (sym len) in
    (front, back)

framed-cons : (m : List ℕ) (ms : List (List ℕ)) (rest : List ℕ) → framed (m ∷ ms) rest ≡ frame_of m ++ framed ms rest
framed-cons m ms rest = ap (λ (t : List ℕ). t ++ rest) (flat_map-cons frame_of m ms) ∙ append_assoc (frame_of m) (flat_map frame_of ms) rest

pub one_reading : (ms ms' : List (List ℕ)) (rest rest' : List ℕ) → framed ms rest ≡ framed ms' rest' → AllByRecursion IsMessage ms → AllByRecursion IsMessage ms' → IsStop rest → IsStop rest'
    → (ms ≡ ms') × (rest ≡ rest')
one_reading [] [] rest rest' e each each' stop stop' = (refl, e)
one_reading [] (m ∷ ms') rest rest' e each each' stop stop' = absurd (stop_not_frame m (framed ms' rest') each'.0 (subst IsStop (e ∙ framed-cons m ms' rest') stop))
one_reading (m ∷ ms) [] rest rest' e each each' stop stop' = absurd (stop_not_frame m (framed ms rest) each.0 (subst IsStop (sym e ∙ framed-cons m ms rest) stop'))
one_reading (m ∷ ms) (m' ∷ ms') rest rest' e each each' stop stop' =
    let one = same_message m m' (framed ms rest) (framed ms' rest') each.0 each'.0 (sym (framed-cons m ms rest) ∙ e ∙ framed-cons m' ms' rest') in
    let others = one_reading ms ms' rest rest' one.1 each.1 each'.1 stop stop' in
    (cc (one.0, others.0), others.1)

pub one_cut : (bytes : List ℕ) (ms ms' : List (List ℕ)) (rest rest' : List ℕ) → Cut bytes ms rest → Cut bytes ms' rest' → (ms ≡ ms') × (rest ≡ rest')
one_cut bytes ms ms' rest rest' a b = one_reading ms ms' rest rest' (sym a.whole ∙ b.whole) a.each b.each (inl a.partial) (inl b.partial)

pub cut_not_over : (bytes : List ℕ) (ms ms' : List (List ℕ)) (rest : List ℕ) (n : ℕ) → Cut bytes ms rest → Over bytes ms' n → ⊥
cut_not_over bytes ms ms' rest n a b =
    let same = one_reading ms ms' rest b.rest (sym a.whole ∙ b.whole) a.each b.each (inl a.partial) (inr (n, b.too_long)) in
    partial_not_long b.rest n (subst IsPartial same.1 a.partial) b.too_long

pub one_over : (bytes : List ℕ) (ms ms' : List (List ℕ)) (n n' : ℕ) → Over bytes ms n → Over bytes ms' n' → (ms ≡ ms') × (n ≡ n')
one_over bytes ms ms' n n' a b =
    let same = one_reading ms ms' a.rest b.rest (sym a.whole ∙ b.whole) a.each b.each (inr (n, a.too_long)) (inr (n', b.too_long)) in
    (same.0, sym a.too_long.states ∙ ap stated_length same.1 ∙ b.too_long.states)

-- a text is messages, and then a rest that is no whole frame or states a length above the limit
pub Begins : List ℕ → Type 0
Begins bytes = ((messages : List (List ℕ)) × (rest : List ℕ) × Cut bytes messages rest) ⊎ ((messages : List (List ℕ)) × (stated : ℕ) × Over bytes messages stated)

stops_here : (bytes : List ℕ) → IsPartial bytes → Begins bytes
unfolding Begins
stops_here bytes partial = inl ([], bytes, record { whole = refl; each = tt; partial = partial })

too_long_here : (bytes : List ℕ) (n : ℕ) → IsTooLong bytes n → Begins bytes
unfolding Begins
too_long_here bytes n long = inr ([], n, record { rest = bytes; whole = refl; each = tt; too_long = long })

one_more : (bytes m x : List ℕ) → bytes ≡ frame_of m ++ x → IsMessage m → Begins x → Begins bytes
unfolding Begins
one_more bytes m x e small (inl cut) =
    inl (m ∷ cut.0, cut.1, record { whole = e ∙ ap (λ (t : List ℕ). frame_of m ++ t) cut.2.whole ∙ sym (framed-cons m cut.0 cut.1); each = (small, cut.2.each); partial = cut.2.partial })
one_more bytes m x e small (inr over) =
    inr (m ∷ over.0, over.1, record { rest = over.2.rest; whole = e ∙ ap (λ (t : List ℕ). frame_of m ++ t) over.2.whole ∙ sym (framed-cons m over.0 over.2.rest); each = (small, over.2.each); too_long = over.2.too_long })

byte_at : (bytes : List ℕ) (i : ℕ) → All (λ b. b < 256) bytes → get_or bytes i 0 < 256
byte_at bytes i each =
    elim (cases_lt i (length bytes)) [
      | inl lt ↦ All-get_or (λ b. b < 256) bytes i 0 lt each
      | inr past ↦ rw (get_or_past bytes i 0 past) (omega arith)
    ]

-- what stands in front of a text that is long enough
pub frame_in_front : (bytes : List ℕ) → All (λ b. b < 256) bytes → 4 ≤ length bytes → 4 + stated_length bytes ≤ length bytes
    → (bytes ≡ frame_of (take (stated_length bytes) (drop 4 bytes)) ++ drop (stated_length bytes) (drop 4 bytes)) × (length (take (stated_length bytes) (drop 4 bytes)) ≡ stated_length bytes)
frame_in_front bytes each there long =
    let n : ℕ = stated_length bytes in
    let m : List ℕ = take n (drop 4 bytes) in
    let x : List ℕ = drop n (drop 4 bytes) in
    let four : length (take 4 bytes) ≡ 4 = omega (arith, length-take 4 bytes) in
    let head : to_be_bytes w32 n ≡ take 4 bytes = be_bytes_4 (take 4 bytes) n four (λ i. byte_at (take 4 bytes) i (All-take (λ b. b < 256) 4 bytes each)) refl in
    let len : length m ≡ n = omega (arith, length-take n (drop 4 bytes), length-drop 4 bytes) in
    let spelled : to_be_bytes w32 (length m) ≡ take 4 bytes = ap (to_be_bytes w32) len ∙ head in
    let parts : m ++ x ≡ drop 4 bytes = take-append-drop n (drop 4 bytes) in
    let whole : frame_of m ++ x ≡ bytes =
    append_assoc (to_be_bytes w32 (length m)) m x ∙ ap (λ (t : List ℕ). t ++ (m ++ x)) spelled ∙ ap (λ (t : List ℕ). take 4 bytes ++ t) parts ∙ take-append-drop 4 bytes in
    (sym whole, len)

begins_within : (fuel : ℕ) (bytes : List ℕ) → length bytes < fuel → All (λ b. b < 256) bytes → Begins bytes
begins_within zero bytes lt each = absurd (omega arith)
begins_within (suc fuel) bytes lt each =
    let n : ℕ = stated_length bytes in
    elim (cases_lt (length bytes) 4) [
      | inl short ↦ stops_here bytes (inl short)
      | inr there ↦ elim (cases_lt FRAME_LIMIT n) [
        | inl above ↦ too_long_here bytes n (record { length_is_there = there; states = refl; above = above })
        | inr within ↦ elim (cases_lt (length bytes) (4 + n)) [
          | inl missing ↦ stops_here bytes (inr (record { length_is_there = there; within = within; missing = missing }))
          | inr long ↦
              let front = frame_in_front bytes each there long in
              let x : List ℕ = drop n (drop 4 bytes) in
              let less : length x < fuel = omega (arith, length-drop n (drop 4 bytes), length-drop 4 bytes) in
              one_more bytes (take n (drop 4 bytes)) x front.0 (let len = front.1 in omega arith) (begins_within fuel x less (All-drop (λ b. b < 256) n (drop 4 bytes) (All-drop (λ b. b < 256) 4 bytes each)))
        ]
      ]
    ]

pub begins : (bytes : List ℕ) → All (λ b. b < 256) bytes
    → ((messages : List (List ℕ)) × (rest : List ℕ) × Cut bytes messages rest) ⊎ ((messages : List (List ℕ)) × (stated : ℕ) × Over bytes messages stated)
unfolding Begins
begins bytes each = begins_within (suc (length bytes)) bytes (omega arith) each

-- a message that is read from the rest is one more, and a piece that comes lengthens the rest
pub framed-more : (ms : List (List ℕ)) (m rest : List ℕ) → framed ms (frame_of m ++ rest) ≡ framed (ms ++ m ∷ []) rest
framed-more [] m rest = sym (framed-cons m [] rest)
framed-more (n ∷ ms) m rest = framed-cons n ms (frame_of m ++ rest) ∙ ap (λ (t : List ℕ). frame_of n ++ t) (framed-more ms m rest) ∙ sym (framed-cons n (ms ++ m ∷ []) rest)

pub framed-piece : (ms : List (List ℕ)) (rest piece : List ℕ) → framed ms rest ++ piece ≡ framed ms (rest ++ piece)
framed-piece ms rest piece = append_assoc (flat_map frame_of ms) rest piece

pub whole_frame : (m m' x : List ℕ) → IsMessage m → IsMessage m' → frame_of m ++ x ≡ frame_of m' → (m ≡ m') × (x ≡ [])
whole_frame m m' x small small' e = same_message m m' x [] small small' (e ∙ sym (append-nil (frame_of m')))
