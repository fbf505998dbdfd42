-- The last line of output, and the end of it.
use Rattle.std.proofs.Common.{◌≡◌, ℕ, suc, ◌+◌, ◌-◌, ◌<◌, ◌≤◌, List, [], ◌∷◌, ◌++◌, length, take, drop, get_or, Bool, true, false, ◌⊎◌, inl, inr, refl, sym, ap, ◌∙◌, arith, append_assoc, length-append, length-drop, add-one, drop-cons, min}
use Rattle.std.specs.Prelude.{◌==◌, ◌||◌, if◌then◌else◌}
use Rattle.std.specs.List.{copy_within}
use Rattle.std.proofs.lemmas.List.{drop-append-le, drop-drop, drop-take, drop_at, length-take, length-take-le, take-append-drop, take_at}
use Rattle.std.proofs.lemmas.Slice.{take-put_mid}
use borrow.Rule.Slice.PartMut.{put_mid}
use Rattle.std.proofs.lemmas.Bool.{cases_lt}
use Rattle.std.proofs.lemmas.List.Folds.{list_any-append}
use Rattle.lsv_mask.specs.Inner.{tail_with}
use Rattle.lsv_mask.specs.Masking.{has_line_feed, last_line, last_bytes}

or_true : (a b : Bool) → b ≡ true → (a || b) ≡ true
or_true true b e = refl
or_true false b e = e

or_false : (a b : Bool) → b ≡ false → (a || b) ≡ a
or_false true b e = refl
or_false false b e = e

feed_in : (a b : List ℕ) → has_line_feed (a ++ b) ≡ (has_line_feed a || has_line_feed b)
feed_in a b = list_any-append (λ byte. byte == 10) a b

-- a line feed in the last part is the last
pub line_behind : (a b : List ℕ) → has_line_feed b ≡ true → last_line (a ++ b) ≡ last_line b
line_behind [] b e = refl
line_behind (x ∷ a) b e =
    let has : has_line_feed (x ∷ (a ++ b)) ≡ true = feed_in (x ∷ a) b ∙ or_true (has_line_feed (x ∷ a)) (has_line_feed b) e in
    ap (λ (h : Bool). if h then last_line (a ++ b) else x ∷ (a ++ b)) has ∙ line_behind a b e

pub whole_line : (b : List ℕ) → has_line_feed b ≡ false → last_line b ≡ b
whole_line [] e = refl
whole_line (x ∷ b) e = ap (λ (h : Bool). if h then last_line b else x ∷ b) e

-- a part without a line feed goes on with the line
pub line_on : (a b : List ℕ) → has_line_feed b ≡ false → last_line (a ++ b) ≡ last_line a ++ b
line_on [] b e = whole_line b e
line_on (x ∷ a) b e =
    let has : has_line_feed (x ∷ (a ++ b)) ≡ has_line_feed (x ∷ a) = feed_in (x ∷ a) b ∙ or_false (has_line_feed (x ∷ a)) (has_line_feed b) e in
    ap (λ (h : Bool). if h then last_line (a ++ b) else x ∷ (a ++ b)) has ∙ go (has_line_feed (x ∷ a)) (line_on a b e)
  where
    go : (h : Bool) → last_line (a ++ b) ≡ last_line a ++ b → (if h then last_line (a ++ b) else x ∷ (a ++ b)) ≡ (if h then last_line a else x ∷ a) ++ b
    go true on = on
    go false on = refl

-- the last bytes of a list hang on the last bytes of its first part
pub last_last : (n : ℕ) (a d : List ℕ) → last_bytes n (a ++ d) ≡ last_bytes n (last_bytes n a ++ d)
last_last n a d =
    let k : ℕ = length a - n in
    let first : drop (length a - n) (a ++ d) ≡ drop (length a - n) a ++ d = drop-append-le (length a - n) a d (omega arith) in
    let long : length (drop (length a - n) a ++ d) ≡ length a - (length a - n) + length d = omega (arith, length-append (drop (length a - n) a) d, length-drop (length a - n) a) in
    let steps : length (a ++ d) - n ≡ (length a - n) + (length (drop (length a - n) a ++ d) - n) = omega (arith, length-append a d) in
    ap (λ (i : ℕ). drop i (a ++ d)) steps ∙ (sym (drop-drop (length (drop (length a - n) a ++ d) - n) (length a - n) (a ++ d)) ∙ ap (drop (length (drop (length a - n) a ++ d) - n)) first)

-- the tail of more output is the tail with it
pub tail_next : (x d : List ℕ) → last_bytes 256 (last_line (x ++ d)) ≡ tail_with (last_bytes 256 (last_line x)) d
tail_next x d = go (has_line_feed d) refl
  where
    go : (h : Bool) → has_line_feed d ≡ h → last_bytes 256 (last_line (x ++ d)) ≡ tail_with (last_bytes 256 (last_line x)) d
    go true e = ap (last_bytes 256) (line_behind x d e) ∙ sym (ap (λ (h : Bool). last_bytes 256 (if h then last_line d else last_bytes 256 (last_line x) ++ d)) e)
    go false e = ap (last_bytes 256) (line_on x d e) ∙ (last_last 256 (last_line x) d ∙ sym (ap (λ (h : Bool). last_bytes 256 (if h then last_line d else last_bytes 256 (last_line x) ++ d)) e))

-- a list as long as what is asked is its own end
pub last_own : (n : ℕ) (a b : List ℕ) → length b ≡ n → last_bytes n (a ++ b) ≡ b
last_own n a b long = ap (λ (i : ℕ). drop i (a ++ b)) (omega (arith, length-append a b)) ∙ drop_at a b (length a) refl

all_left : (xs : List ℕ) → drop 0 xs ≡ xs
all_left [] = refl
all_left (x ∷ xs) = refl

none_taken : (xs : List ℕ) → take 0 xs ≡ []
none_taken [] = refl
none_taken (x ∷ xs) = refl

-- a list at one of its elements
pub cut_at : (xs : List ℕ) (k x : ℕ) → k < length xs → get_or xs k 0 ≡ x → xs ≡ take k xs ++ x ∷ drop (k + 1) xs
cut_at xs k x below at = sym (take-append-drop k xs) ∙ ap (λ (t : List ℕ). take k xs ++ t) (rw (add-one, drop-cons xs k 0) (ap (λ (y : ℕ). y ∷ drop (suc k) xs) at))

by_feed : (h : Bool) (t output : List ℕ) → has_line_feed output ≡ h → tail_with t output ≡ last_bytes 256 (if h then last_line output else t ++ output)
by_feed h t output e = ap (λ (b : Bool). last_bytes 256 (if b then last_line output else t ++ output)) e

-- what a line feed leaves
fed : (t a b : List ℕ) → has_line_feed b ≡ false → tail_with t (a ++ 10 ∷ b) ≡ last_bytes 256 b
fed t a b none =
    by_feed true t (a ++ 10 ∷ b) (feed_in a (10 ∷ b) ∙ or_true (has_line_feed a) true refl) ∙ ap (last_bytes 256) (line_behind a (10 ∷ b) refl ∙ whole_line b none)

-- of output that ends with 256 bytes without a line feed these are left
long_tail : (t c recent : List ℕ) → has_line_feed recent ≡ false → length recent ≡ 256 → tail_with t (c ++ recent) ≡ recent
long_tail t c recent none long = go (has_line_feed (c ++ recent)) refl
  where
    go : (h : Bool) → has_line_feed (c ++ recent) ≡ h → tail_with t (c ++ recent) ≡ recent
    go true e = by_feed true t (c ++ recent) e ∙ (ap (last_bytes 256) (line_on c recent none) ∙ last_own 256 (last_line c) recent long)
    go false e = by_feed false t (c ++ recent) e ∙ (ap (last_bytes 256) (sym (append_assoc t c recent)) ∙ last_own 256 (t ++ c) recent long)

-- Output of which the last bytes have no line feed leaves the tail that these leave.
pub recent_without : (t output : List ℕ) → has_line_feed (drop (length output - 256) output) ≡ false → last_bytes 256 (t ++ drop (length output - 256) output) ≡ tail_with t output
recent_without t output none = by_length (cases_lt 256 (length output))
  where
    by_length : (256 < length output) ⊎ (length output ≤ 256) → last_bytes 256 (t ++ drop (length output - 256) output) ≡ tail_with t output
    by_length (inl long) =
        let many : length (drop (length output - 256) output) ≡ 256 = omega (arith, length-drop (length output - 256) output) in
        last_own 256 t (drop (length output - 256) output) many
        ∙ (sym (long_tail t (take (length output - 256) output) (drop (length output - 256) output) none many) ∙ ap (tail_with t) (take-append-drop (length output - 256) output))
    by_length (inr short) =
        let zero_at : length output - 256 ≡ 0 = omega arith in
        let all : drop (length output - 256) output ≡ output = ap (λ (i : ℕ). drop i output) zero_at ∙ all_left output in
        ap (λ (o : List ℕ). last_bytes 256 (t ++ o)) all ∙ sym (by_feed false t output (ap has_line_feed (sym all) ∙ none))

-- Output of which the last bytes have a line feed leaves what stands after the last one.
pub recent_with : (t output : List ℕ) (k : ℕ) → k < length (drop (length output - 256) output) → get_or (drop (length output - 256) output) k 0 ≡ 10 → has_line_feed (drop (k + 1) (drop (length output - 256) output)) ≡ false
    → last_bytes 256 (drop (k + 1) (drop (length output - 256) output)) ≡ tail_with t output
recent_with t output k below feed none =
    let recent : List ℕ = drop (length output - 256) output in
    let rest : List ℕ = drop (k + 1) (drop (length output - 256) output) in
    let cut : drop (length output - 256) output ≡ take k (drop (length output - 256) output) ++ 10 ∷ drop (k + 1) (drop (length output - 256) output) = cut_at (drop (length output - 256) output) k 10 below feed in
    let whole : output ≡ (take (length output - 256) output ++ take k (drop (length output - 256) output)) ++ 10 ∷ drop (k + 1) (drop (length output - 256) output) =
    sym (take-append-drop (length output - 256) output) ∙ (ap (λ (o : List ℕ). take (length output - 256) output ++ o) cut ∙ sym (append_assoc (take (length output - 256) output) (take k (drop (length output - 256) output)) (10 ∷ drop (k + 1) (drop (length output - 256) output)))) in
    sym (ap (tail_with t) whole ∙ fed t (take (length output - 256) output ++ take k (drop (length output - 256) output)) (drop (k + 1) (drop (length output - 256) output)) none)

-- bytes that are no line feeds
pub no_feed : (xs : List ℕ) → ((k : ℕ) → k < length xs → (get_or xs k 0 == 10) ≡ true → ⊥) → has_line_feed xs ≡ false
no_feed [] h = refl
no_feed (x ∷ xs) h = go (x == 10) refl (no_feed xs (λ k below is. h (suc k) (omega arith) is))
  where
    go : (b : Bool) → (x == 10) ≡ b → has_line_feed xs ≡ false → (x == 10 || has_line_feed xs) ≡ false
    go true e rest = absurd (h 0 (omega arith) e)
    go false e rest = ap (λ (b : Bool). b || has_line_feed xs) e ∙ rest

-- what a copy to the front and a copy after it leave
pub appended : (bytes moved recent : List ℕ) (len kept k : ℕ) → length bytes ≡ 256 → len ≤ 256 → length recent ≤ 256 → kept ≡ min len (256 - length recent) → moved ≡ copy_within bytes (len - kept) len 0
    → take (kept + length recent) (put_mid kept k moved recent) ≡ last_bytes 256 (take len bytes ++ recent)
appended bytes moved recent len kept k whole small few is after =
    let some : kept ≤ len = omega arith in
    let at : len - (len - kept) ≡ kept = omega arith in
    let part : List ℕ = take (len - (len - kept)) (drop (len - kept) bytes) in
    let long : length (take (len - (len - kept)) (drop (len - kept) bytes)) ≡ kept = omega (arith, length-take-le (len - (len - kept)) (drop (len - kept) bytes), length-drop (len - kept) bytes) in
    let front : take kept moved ≡ take (len - (len - kept)) (drop (len - kept) bytes) =
    ap (take kept) (after ∙ ap (λ (t : List ℕ). t ++ take (len - (len - kept)) (drop (len - kept) bytes) ++ drop (0 + (len - (len - kept))) bytes) (none_taken bytes)) ∙ take_at (take (len - (len - kept)) (drop (len - kept) bytes)) (drop (0 + (len - (len - kept))) bytes) kept long in
    let room : kept ≤ length moved = omega (arith, ap length front, length-take kept moved) in
    let taken : length (take len bytes) ≡ len = length-take-le len bytes (omega arith) in
    let skip : length (take len bytes ++ recent) - 256 ≡ len - kept = omega (arith, length-append (take len bytes) recent) in
    let dropped : drop (len - kept) (take len bytes ++ recent) ≡ drop (len - kept) (take len bytes) ++ recent = drop-append-le (len - kept) (take len bytes) recent (omega arith) in
    let same : drop (len - kept) (take len bytes) ≡ take (len - (len - kept)) (drop (len - kept) bytes) =
    ap (λ (n : ℕ). drop (len - kept) (take n bytes)) (omega arith) ∙ drop-take (len - kept) (len - (len - kept)) bytes in
    take-put_mid kept k moved recent (kept + length recent) refl room
    ∙ (ap (λ (t : List ℕ). t ++ recent) (front ∙ sym same) ∙ (sym dropped ∙ ap (λ (i : ℕ). drop i (take len bytes ++ recent)) (sym skip)))
