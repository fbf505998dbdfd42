-- Lines that are read byte by byte.
use Rattle.std.proofs.Common.{◌≡◌, ◌≢◌, ◌∙◌, ◌++◌, inl, inr, ℕ, zero, suc, ◌+◌, ◌-◌, ◌<◌, ◌≤◌, ◌^◌, true, false, min, List, [], ◌∷◌, length, take, drop, slice_index_or, length-append, refl, sym, ap, subst, append-nil, append_assoc, arith}
use Rattle.std.proofs.lemmas.List.{flat_map_more, take_all, length-drop, length-take}
use Rattle.std.proofs.lemmas.List.Elements.{All-append, All-cons, All-nil}
use Rattle.lsv_tally.specs.Events.{reads}
use Rattle.lsv_tally.specs.Reading.{IsAt, IsEventLine, IsReadTo, IsUnbroken, ended, text_of}
use Rattle.lsv_tally.specs.declared.reading.Ending.TheVariants as endings

-- nothing was read
pub at_start : IsAt 0 [] []
at_start = record { lines = []; events = All-nil IsEventLine; count_is = refl; whole = refl; unbroken = All-nil (λ byte. byte ≢ 10); short = omega arith }

-- one byte more of an unbroken text
unbroken_push : (line : List ℕ) (byte : ℕ) → IsUnbroken line → byte ≢ 10 → IsUnbroken (line ++ byte ∷ [])
unbroken_push line byte so_far other = All-append (λ b. b ≢ 10) line (byte ∷ []) so_far (All-cons (λ b. b ≢ 10) byte [] other (All-nil (λ b. b ≢ 10)))

-- a text of two parts, and what comes after it
after : (text a b more : List ℕ) → text ≡ a ++ b → text ++ more ≡ a ++ (b ++ more)
after text a b more is = ap (λ (xs : List ℕ). xs ++ more) is ∙ append_assoc a b more

module _ (count : ℕ) (line text : List ℕ) (at : IsAt count line text) where
  -- a byte of the line
  pub byte_more : (byte : ℕ) → byte ≢ 10 → length line < 16777216 → IsAt count (line ++ byte ∷ []) (text ++ byte ∷ [])
  byte_more byte other room = record {
    lines = at.lines;
    events = at.events;
    count_is = at.count_is;
    whole = after text (text_of at.lines) line (byte ∷ []) at.whole;
    unbroken = unbroken_push line byte at.unbroken other;
    short = omega (arith, room, length-append line (byte ∷ []));
  }

  -- the line feed of a line that is an event
  pub line_more : (after_one : ℕ) → reads line ≡ true → after_one ≡ count + 1 → IsAt after_one [] (text ++ 10 ∷ [])
  line_more after_one event is = record {
    lines = at.lines ++ line ∷ [];
    events = All-append IsEventLine at.lines (line ∷ []) at.events (All-cons IsEventLine line [] (record { unbroken = at.unbroken; event = event }) (All-nil IsEventLine));
    count_is = omega (arith, is, at.count_is, length-append at.lines (line ∷ []));
    whole = after text (text_of at.lines) line (10 ∷ []) at.whole ∙ flat_map_more ended [] at.lines line ∙ sym (append-nil (text_of (at.lines ++ line ∷ [])));
    unbroken = All-nil (λ byte. byte ≢ 10);
    short = omega arith;
  }

  -- the line feed of one that is none
  pub line_bad : (rest : List ℕ) → reads line ≡ false → IsReadTo count endings.Bad (text ++ 10 ∷ rest)
  line_bad rest none = record {
    lines = at.lines;
    events = at.events;
    count_is = at.count_is;
    rest = line ++ 10 ∷ rest;
    whole = after text (text_of at.lines) line (10 ∷ rest) at.whole;
    ends = record { line = line; more = rest; unbroken = at.unbroken; bad = inl (refl, none) };
  }

  -- a byte of a line that is too long
  pub byte_bad : (byte : ℕ) (rest : List ℕ) → byte ≢ 10 → 16777216 ≤ length line → IsReadTo count endings.Bad (text ++ byte ∷ rest)
  byte_bad byte rest other long = record {
    lines = at.lines;
    events = at.events;
    count_is = at.count_is;
    rest = line ++ byte ∷ rest;
    whole = after text (text_of at.lines) line (byte ∷ rest) at.whole;
    ends = record {
      line = line ++ byte ∷ [];
      more = rest;
      unbroken = unbroken_push line byte at.unbroken other;
      bad = inr (sym (append_assoc line (byte ∷ []) rest), omega (arith, long, length-append line (byte ∷ [])));
    };
  }

  -- the text ends with the last line feed
  pub ends_whole : line ≡ [] → IsReadTo count endings.Whole text
  ends_whole none = record {
    lines = at.lines;
    events = at.events;
    count_is = at.count_is;
    rest = line;
    whole = at.whole;
    ends = none;
  }

  -- or after it
  pub ends_torn : line ≢ [] → IsReadTo count endings.Torn text
  ends_torn some = record {
    lines = at.lines;
    events = at.events;
    count_is = at.count_is;
    rest = line;
    whole = at.whole;
    ends = (some, at.unbroken, at.short);
  }

-- there are no more lines than bytes
lines_few : (lines : List (List ℕ)) → length lines ≤ length (text_of lines)
lines_few [] = omega arith
lines_few (line ∷ lines) = let more = lines_few lines in omega (arith, more, length-append (ended line) (text_of lines), length-append line (10 ∷ []))

pub count_few : (count : ℕ) (line text : List ℕ) → IsAt count line text → count ≤ length text
count_few count line text at = let few = lines_few at.lines in omega (arith, few, at.count_is, ap length at.whole, length-append (text_of at.lines) line)

-- a count of 64 bits that isn't at its end
pub one_more : (count n : ℕ) → count ≤ n → n + 1 < 2 ^ 64 → min (count + 1) (2 ^ 64 - 1) ≡ count + 1
one_more count n few fits = omega (arith, few, fits)

-- ---- the bytes of a block

pub take_push : (xs : List ℕ) (i : ℕ) → i < length xs → take (i + 1) xs ≡ take i xs ++ slice_index_or xs i 0 ∷ []
take_push [] i within = absurd (let no_ : ⊥ = omega (arith, within) in no_)
take_push (x ∷ xs) zero within = refl
take_push (x ∷ xs) (suc i) within =
    let on : suc i + 1 ≡ suc (i + 1) = omega arith in
    ap (λ (k : ℕ). take k (x ∷ xs)) on ∙ ap (λ (ys : List ℕ). x ∷ ys) (take_push xs i (omega (arith, within)))

pub split_at : (xs : List ℕ) (i : ℕ) → i < length xs → xs ≡ take i xs ++ slice_index_or xs i 0 ∷ drop (i + 1) xs
split_at [] i within = absurd (let no_ : ⊥ = omega (arith, within) in no_)
split_at (x ∷ xs) zero within = refl
split_at (x ∷ xs) (suc i) within =
    let on : suc (i + 1) ≡ suc i + 1 = omega arith in
    ap (λ (ys : List ℕ). x ∷ ys) (split_at xs i (omega (arith, within))) ∙ ap (λ (k : ℕ). take (suc i) (x ∷ xs) ++ slice_index_or xs i 0 ∷ drop k (x ∷ xs)) on

-- the first bytes, and a piece after them
pub taken_more : (n k : ℕ) (xs : List ℕ) → take n xs ++ take k (drop n xs) ≡ take (n + k) xs
taken_more zero k xs = ap (λ (m : ℕ). take m xs) (let h : k ≡ 0 + k = omega arith in h)
taken_more (suc n) k [] = take_all k [] (omega arith) ∙ sym (take_all (suc n + k) [] (omega arith))
taken_more (suc n) k (x ∷ xs) =
    let on : suc (n + k) ≡ suc n + k = omega arith in
    ap (λ (ys : List ℕ). x ∷ ys) (taken_more n k xs) ∙ ap (λ (m : ℕ). take m (x ∷ xs)) on

-- a piece as long as this is the first part of what comes
pub same_piece : (room count : ℕ) (xs : List ℕ) → count ≡ length (take room xs) → take room xs ≡ take count xs
same_piece zero count xs is = ap (λ (k : ℕ). take k xs) (sym is)
same_piece (suc room) count [] is = sym (take_all count [] (omega arith))
same_piece (suc room) zero (x ∷ xs) is = absurd (let no_ : ⊥ = omega (arith, is) in no_)
same_piece (suc room) (suc count) (x ∷ xs) is = ap (λ (ys : List ℕ). x ∷ ys) (same_piece room count xs (omega (arith, is)))

-- a piece without bytes is past the end
pub piece_none : (text : List ℕ) (at room : ℕ) → 0 < room → 0 ≡ length (take room (drop at text)) → length text ≤ at
piece_none text at room some none = omega (arith, none, length-take room (drop at text), length-drop at text)

-- with one byte more of a block
pub push_taken : (count i : ℕ) (line text bytes : List ℕ) → i < length bytes → IsAt count line ((text ++ take i bytes) ++ slice_index_or bytes i 0 ∷ []) → IsAt count line (text ++ take (i + 1) bytes)
push_taken count i line text bytes within at =
    subst (IsAt count line) (append_assoc text (take i bytes) (slice_index_or bytes i 0 ∷ []) ∙ ap (λ (xs : List ℕ). text ++ xs) (sym (take_push bytes i within))) at

-- a line that is no event ends within a block
pub bad_taken : (count i : ℕ) (text bytes rest : List ℕ) → i < length bytes → IsReadTo count endings.Bad ((text ++ take i bytes) ++ slice_index_or bytes i 0 ∷ (drop (i + 1) bytes ++ rest)) → IsReadTo count endings.Bad (text ++ (bytes ++ rest))
bad_taken count i text bytes rest within bad =
    subst (IsReadTo count endings.Bad)
    (append_assoc text (take i bytes) (slice_index_or bytes i 0 ∷ (drop (i + 1) bytes ++ rest))
    ∙ ap (λ (xs : List ℕ). text ++ xs) (sym (append_assoc (take i bytes) (slice_index_or bytes i 0 ∷ drop (i + 1) bytes) rest))
    ∙ ap (λ (xs : List ℕ). text ++ (xs ++ rest)) (sym (split_at bytes i within)))
    bad

-- both are shorter than any count of 64 bits
pub taken_fits : (i : ℕ) (text bytes : List ℕ) → i < length bytes → length text + length bytes < 2 ^ 64 → length (text ++ take i bytes) + 1 < 2 ^ 64
taken_fits i text bytes within fits = omega (arith, within, fits, length-append text (take i bytes), length-take i bytes)

-- all bytes of a block are taken
pub all_taken : (count i : ℕ) (line text bytes : List ℕ) → length bytes ≤ i → IsAt count line (text ++ take i bytes) → IsAt count line (text ++ bytes)
all_taken count i line text bytes all at = subst (λ (xs : List ℕ). IsAt count line (text ++ xs)) (take_all i bytes all) at

-- a line feed after a line that is an event
pub end_more : (count : ℕ) (line text : List ℕ) (next : ℕ) (rest : List ℕ) → IsAt count line text → reads line ≡ true → length text + 1 < 2 ^ 64 → next ≡ min (count + 1) (2 ^ 64 - 1) → rest ≡ [] → IsAt next rest (text ++ 10 ∷ [])
end_more count line text next rest at event fits is none =
    subst (λ (l : List ℕ). IsAt next l (text ++ 10 ∷ [])) (sym none)
    (line_more count line text at next event (is ∙ one_more count (length text) (count_few count line text at) fits))
