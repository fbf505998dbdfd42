-- A text of timing and its streams are read in one way.
use Rattle.std.proofs.Common.{◌≡◌, ℕ, ◌+◌, ◌^◌, ◌<◌, ◌≤◌, List, [], ◌∷◌, ◌++◌, length, take, drop, All, ◌⊎◌, inl, inr, arith, refl, sym, ap, ◌∙◌, subst, lit<, append_assoc, append-nil, length-append, length-drop, eq-eqb, nat_eq, cond, Bool, true, false}
use Rattle.std.specs.Fmt.{decimal}
use Rattle.std.proofs.lemmas.Fmt.{decimal_injective}
use Rattle.std.proofs.lemmas.List.{drop_at, take_at, drop-drop}
use Rattle.std.proofs.lemmas.List.Elements.{All-head, All-tail}
use Rattle.lsv_defs.specs.Pieces.{IsPrefix}
use Rattle.lsv_record.specs.declared.laid.Laid.{Laid}
use Rattle.lsv_record.specs.declared.log.LayFault.{LayFault}
use Rattle.lsv_record.specs.declared.log.LayFault.TheVariants as faults
use Rattle.lsv_record.specs.declared.records.Record.{Record}
use Rattle.lsv_record.specs.declared.records.Record.TheVariants as records
use Rattle.lsv_record.specs.declared.records.Stream.{Stream}
use Rattle.lsv_record.specs.declared.records.Shaped.{Shaped}
use Rattle.lsv_record.specs.declared.records.Shaped.TheVariants.{Io, Winsize, Suspend}
use Rattle.lsv_record.specs.Records.{event_of, text_of, shape_of, shaped_line, line_of, delay_of, data_in, timing_of, stream_of, elapsed, IsGood, IsValid}
use Rattle.lsv_record.specs.Layout.{IsLayout, Begins, IsRead, IsFaulty, IsShort, Fails, stream_in}
use Rattle.lsv_record.specs.Lines.{OneBegins, IsLineAt, told_delay}
use Rattle.lsv_record.specs.Tally.{told_count}
use Rattle.lsv_record.specs.Inner.Spelled.{Parts, parts_of}
use Rattle.lsv_record.proofs.Layouts.{timing_of-append, stream_of-append, elapsed-append}
use Rattle.lsv_record.proofs.Lines.{one_line_feed}
use Rattle.lsv_record.proofs.Readers.{event_once, event_below, prefix_length}
use Rattle.lsv_record.proofs.Splits.{cut_once}
use Rattle.lsv_record.proofs.Times.{decimal_without}
use Rattle.lsv_record.proofs.Told.{text_is_joined, good_delay, joined_once, apart}

-- what a line tells by its parts
shape_by_parts : (a b : Shaped) → IsGood a → IsGood b → parts_of a ≡ parts_of b → a ≡ b
shape_by_parts (Io d s n) (Io e t m) good other is =
    let event : 48 + event_of s ≡ 48 + event_of t = ap (λ (p : Parts). p.event) is in
    let stream : s ≡ t = event_once s t (omega arith) in
    let delay : d ≡ e = ap (λ (p : Parts). p.delay) is in
    let count : n ≡ m = decimal_injective n m (omega (arith, good.1)) (omega (arith, other.1)) (ap (λ (p : Parts). p.rest) is) in
    cc
shape_by_parts (Io d s n) (Winsize e r c) good other is = let event : 48 + event_of s ≡ 53 = ap (λ (p : Parts). p.event) is in absurd (omega (arith, event_below s))
shape_by_parts (Io d s n) (Suspend e t) good other is = let event : 48 + event_of s ≡ 55 = ap (λ (p : Parts). p.event) is in absurd (omega (arith, event_below s))
shape_by_parts (Winsize d r c) (Io e t m) good other is = let event : 53 ≡ 48 + event_of t = ap (λ (p : Parts). p.event) is in absurd (omega (arith, event_below t))
shape_by_parts (Winsize d r c) (Winsize e q k) good other is =
    let delay : d ≡ e = ap (λ (p : Parts). p.delay) is in
    let cut = cut_once 32 (decimal r) (decimal c) (decimal q) (decimal k) (ap (λ (p : Parts). p.rest) is) (decimal_without 32 r (lit< tt) (omega (arith, good.1))) (decimal_without 32 q (lit< tt) (omega (arith, other.1))) in
    let rows : r ≡ q = decimal_injective r q (omega (arith, good.1)) (omega (arith, other.1)) cut.0 in
    let cols : c ≡ k = decimal_injective c k (omega (arith, good.2)) (omega (arith, other.2)) cut.1 in
    cc
shape_by_parts (Winsize d r c) (Suspend e t) good other is = absurd (apart 53 55 (ap (λ (p : Parts). p.event) is) (lit< tt))
shape_by_parts (Suspend d s) (Io e t m) good other is = let event : 55 ≡ 48 + event_of t = ap (λ (p : Parts). p.event) is in absurd (omega (arith, event_below t))
shape_by_parts (Suspend d s) (Winsize e q k) good other is = absurd (apart 53 55 (sym (ap (λ (p : Parts). p.event) is)) (lit< tt))
shape_by_parts (Suspend d s) (Suspend e t) good other is =
    let delay : d ≡ e = ap (λ (p : Parts). p.delay) is in
    let signal : s ≡ t = ap (λ (p : Parts). p.rest) is in
    cc

-- two lines that begin one text are one
pub first_line : (a b : Shaped) (x y : List ℕ) → IsGood a → IsGood b → shaped_line a ++ x ≡ shaped_line b ++ y → (a ≡ b) × (x ≡ y)
first_line a b x y good other e =
    let e' : text_of a ++ 10 ∷ x ≡ text_of b ++ 10 ∷ y = sym (append_assoc (text_of a) (10 ∷ []) x) ∙ (e ∙ append_assoc (text_of b) (10 ∷ []) y) in
    let cut = cut_once 10 (text_of a) x (text_of b) y e' (one_line_feed a good) (one_line_feed b other) in
    let parts : parts_of a ≡ parts_of b = joined_once (parts_of a) (parts_of b) (good_delay a good) (good_delay b other) (sym (text_is_joined a) ∙ (cut.0 ∙ text_is_joined b)) in
    (shape_by_parts a b good other parts, cut.1)

pub one_line : (text : List ℕ) (at next other_next : ℕ) (told other : Shaped) → IsLineAt text at told next → IsLineAt text at other other_next → (told ≡ other) × (next ≡ other_next)
one_line text at next other_next told other a b =
    let same = first_line told other (drop next text) (drop other_next text) a.good b.good (sym a.spelled ∙ b.spelled) in
    (same.0, a.after ∙ (ap (λ (s : Shaped). at + length (shaped_line s)) same.0 ∙ sym b.after))

length_cond : (b : Bool) (bytes : List ℕ) → length (cond b bytes []) ≡ cond b (length bytes) 0
length_cond true bytes = refl
length_cond false bytes = refl

pub data_length : (s : Stream) (r : Record) → length (data_in s r) ≡ told_count s (shape_of r)
data_length s (records.Io d t b) = length_cond (nat_eq (event_of s) (event_of t)) b
data_length s (records.Winsize d r c) = refl
data_length s (records.Suspend d g) = refl

pub own_data : (d : ℕ) (s : Stream) (b : List ℕ) → data_in s (records.Io d s b) ≡ b
own_data d s b = ap (λ (x : Bool). cond x b []) (eq-eqb (event_of s) (event_of s) refl)

-- a record by its line and its data
same_record : (r q : Record) → shape_of r ≡ shape_of q → ((s : Stream) → data_in s r ≡ data_in s q) → r ≡ q
same_record (records.Io d s b) (records.Io e t c) shape same =
    let stream : s ≡ t = cc in
    let delay : d ≡ e = cc in
    let bytes : b ≡ c = sym (own_data d s b) ∙ (same s ∙ (ap (λ (u : Stream). data_in s (records.Io e u c)) (sym stream) ∙ own_data e s c)) in
    cc
same_record (records.Io d s b) (records.Winsize e q k) shape same = absurd (cc)
same_record (records.Io d s b) (records.Suspend e t) shape same = absurd (cc)
same_record (records.Winsize d r c) (records.Io e t b) shape same = absurd (cc)
same_record (records.Winsize d r c) (records.Winsize e q k) shape same = cc
same_record (records.Winsize d r c) (records.Suspend e t) shape same = absurd (cc)
same_record (records.Suspend d g) (records.Io e t b) shape same = absurd (cc)
same_record (records.Suspend d g) (records.Winsize e q k) shape same = absurd (cc)
same_record (records.Suspend d g) (records.Suspend e t) shape same = cc

-- records whose layout is a prefix of a text and of each stream
pub record Prefixes (t : List ℕ) (X : Stream → List ℕ) (rs : List Record) : Type 0 where
  pub valid : All IsValid rs
  pub timing : IsPrefix (timing_of rs) t
  pub streams : (s : Stream) → IsPrefix (stream_of s rs) (X s)

prefixes_of : (l : Laid) (rs : List Record) → Begins l rs → Prefixes l.timing (λ s. stream_in s l) rs
prefixes_of l rs begins = record { valid = begins.valid; timing = begins.timing; streams = begins.streams }

-- a prefix of two parts is the first one, and then the second one
pub second_prefix : (a b t : List ℕ) → IsPrefix (a ++ b) t → IsPrefix b (drop (length a) t)
second_prefix a b t f =
    let whole : t ≡ a ++ (b ++ f.0) = f.1 ∙ append_assoc a b f.0 in
    (f.0, ap (drop (length a)) whole ∙ drop_at a (b ++ f.0) (length a) refl)

behind_first : (t : List ℕ) (X : Stream → List ℕ) (r : Record) (rs : List Record) → Prefixes t X (r ∷ rs) → Prefixes (drop (length (line_of r)) t) (λ s. drop (length (data_in s r)) (X s)) rs
behind_first t X r rs f = record {
  valid = All-tail IsValid r rs f.valid;
  timing = second_prefix (line_of r) (timing_of rs) t f.timing;
  streams = λ s. second_prefix (data_in s r) (stream_of s rs) (X s) (f.streams s);
}

same_prefix : (a b x y t : List ℕ) → length a ≡ length b → IsPrefix (a ++ x) t → IsPrefix (b ++ y) t → a ≡ b
same_prefix a b x y t long f g =
    let first : take (length a) t ≡ a = ap (take (length a)) (f.1 ∙ append_assoc a x f.0) ∙ take_at a (x ++ f.0) (length a) refl in
    let second : take (length a) t ≡ b = ap (take (length a)) (g.1 ∙ append_assoc b y g.0) ∙ take_at b (y ++ g.0) (length a) (sym long) in
    sym first ∙ second

first_record : (t : List ℕ) (X : Stream → List ℕ) (r q : Record) (rs qs : List Record) → Prefixes t X (r ∷ rs) → Prefixes t X (q ∷ qs) → r ≡ q
first_record t X r q rs qs f g =
    let lines : line_of r ++ (timing_of rs ++ f.timing.0) ≡ line_of q ++ (timing_of qs ++ g.timing.0) =
    sym (append_assoc (line_of r) (timing_of rs) f.timing.0) ∙ (sym f.timing.1 ∙ (g.timing.1 ∙ append_assoc (line_of q) (timing_of qs) g.timing.0)) in
    let shapes = first_line (shape_of r) (shape_of q) (timing_of rs ++ f.timing.0) (timing_of qs ++ g.timing.0) (All-head IsValid r rs f.valid) (All-head IsValid q qs g.valid) lines in
    let shape : shape_of r ≡ shape_of q = shapes.0 in
    same_record r q shape (λ s. same_prefix (data_in s r) (data_in s q) (stream_of s rs) (stream_of s qs) (X s) (data_length s r ∙ (ap (told_count s) shape ∙ sym (data_length s q))) (f.streams s) (g.streams s))

-- of two lists of records one begins the other
Compared : List Record → List Record → Type 0
Compared rs qs = ((more : List Record) × (qs ≡ rs ++ more)) ⊎ ((more : List Record) × (rs ≡ qs ++ more))

compared_behind : (r q : Record) (rs qs : List Record) → r ≡ q → Compared rs qs → Compared (r ∷ rs) (q ∷ qs)
unfolding Compared
compared_behind r q rs qs same (inl h) = inl (h.0, cc (h.1))
compared_behind r q rs qs same (inr h) = inr (h.0, cc (h.1))

compare : (t : List ℕ) (X : Stream → List ℕ) (rs qs : List Record) → Prefixes t X rs → Prefixes t X qs → Compared rs qs
unfolding Compared
compare t X [] qs f g = inl (qs, refl)
compare t X (r ∷ rs) [] f g = inr (r ∷ rs, refl)
compare t X (r ∷ rs) (q ∷ qs) f g =
    let same = first_record t X r q rs qs f g in
    let g' = subst (λ (p : Record). Prefixes t X (p ∷ qs)) (sym same) g in
    compared_behind r q rs qs same (compare (drop (length (line_of r)) t) (λ s. drop (length (data_in s r)) (X s)) rs qs (behind_first t X r rs f) (behind_first t X r qs g'))

valid_at : (qs : List Record) (r : Record) (more : List Record) → All IsValid (qs ++ r ∷ more) → IsValid r
valid_at [] r more h = All-head IsValid r more h
valid_at (q ∷ qs) r more h = valid_at qs r more (All-tail IsValid q (qs ++ r ∷ more) h)

-- the line of the next record stands after the records before it
pub line_behind : (l : Laid) (qs : List Record) (r : Record) (more : List Record) → Begins l (qs ++ r ∷ more) → IsLineAt l.timing (length (timing_of qs)) (shape_of r) (length (timing_of qs) + length (line_of r))
line_behind l qs r more begins =
    let behind : IsPrefix (timing_of (r ∷ more)) (drop (length (timing_of qs)) l.timing) = second_prefix (timing_of qs) (timing_of (r ∷ more)) l.timing (subst (λ (t : List ℕ). IsPrefix t l.timing) (timing_of-append qs (r ∷ more)) begins.timing) in
    let spelled : drop (length (timing_of qs)) l.timing ≡ line_of r ++ (timing_of more ++ behind.0) = behind.1 ∙ append_assoc (line_of r) (timing_of more) behind.0 in
    let dropped : drop (length (timing_of qs) + length (line_of r)) l.timing ≡ timing_of more ++ behind.0 =
    sym (drop-drop (length (line_of r)) (length (timing_of qs)) l.timing) ∙ (ap (drop (length (line_of r))) spelled ∙ drop_at (line_of r) (timing_of more ++ behind.0) (length (line_of r)) refl) in
    record { good = valid_at qs r more begins.valid; spelled = spelled ∙ ap (λ (t : List ℕ). line_of r ++ t) (sym dropped); after = refl }

-- no line stands at the end of a text
none_at_end : (text : List ℕ) (at : ℕ) (told : Shaped) (next : ℕ) → length text ≤ at → IsLineAt text at told next → ⊥
none_at_end text at told next end line =
    omega (arith, end, ap length line.spelled, length-drop at text, length-append (shaped_line told) (drop next text), length-append (text_of told) (10 ∷ []))

delay_told : (r : Record) → told_delay (shape_of r) ≡ delay_of r
delay_told (records.Io d s b) = refl
delay_told (records.Winsize d r c) = refl
delay_told (records.Suspend d g) = refl

lacks_none : (l : Laid) (qs : List Record) (r : Record) (more : List Record) (s : Stream) → Begins l (qs ++ r ∷ more) → IsShort l qs (shape_of r) s → ⊥
lacks_none l qs (records.Io d t b) more s begins short =
    let whole = prefix_length (stream_of t (qs ++ records.Io d t b ∷ more)) (stream_in t l) (begins.streams t) in
    omega (arith, short.2, whole, ap length (stream_of-append t qs (records.Io d t b ∷ more)), length-append (stream_of t qs) (stream_of t (records.Io d t b ∷ more)), length-append (data_in t (records.Io d t b)) (stream_of t more), ap length (own_data d t b))
lacks_none l qs (records.Winsize d r c) more s begins short = short
lacks_none l qs (records.Suspend d g) more s begins short = short

-- nothing is at fault after records that are followed by another one
no_fault_before : (l : Laid) (qs : List Record) (r : Record) (more : List Record) (fault : LayFault) → Begins l (qs ++ r ∷ more) → IsFaulty l qs fault → ⊥
no_fault_before l qs r more (faults.BadLine offset) begins bad =
    bad.1.no_line (shape_of r) (length (timing_of qs) + length (line_of r)) (subst (λ (k : ℕ). IsLineAt l.timing k (shape_of r) (length (timing_of qs) + length (line_of r))) (sym bad.0) (line_behind l qs r more begins))
no_fault_before l qs r more (faults.Short s) begins (told, next, short) =
    let same = one_line l.timing (length (timing_of qs)) next.0 _ told (shape_of r) next.1 (line_behind l qs r more begins) in
    lacks_none l qs r more s begins (subst (λ (t : Shaped). IsShort l qs t s) same.0 short)
no_fault_before l qs r more faults.TooLong begins (told, next, late) =
    let same = one_line l.timing (length (timing_of qs)) next.0 _ told (shape_of r) next.1 (line_behind l qs r more begins) in
    omega (arith, late, begins.time, elapsed-append qs (r ∷ more), ap told_delay same.0, delay_told r)
no_fault_before l qs r more faults.NoMem begins bad = bad

-- nor is anything after the whole timing
no_fault_at_end : (l : Laid) (rs : List Record) (fault : LayFault) → IsRead l rs → IsFaulty l rs fault → ⊥
no_fault_at_end l rs (faults.BadLine offset) read bad = omega (arith, bad.0, bad.1.before_end, ap length read.whole)
no_fault_at_end l rs (faults.Short s) read (told, next, short) = none_at_end l.timing (length (timing_of rs)) told next.0 (omega (arith, ap length read.whole)) next.1
no_fault_at_end l rs faults.TooLong read (told, next, late) = none_at_end l.timing (length (timing_of rs)) told next.0 (omega (arith, ap length read.whole)) next.1
no_fault_at_end l rs faults.NoMem read bad = bad

none_behind_whole : (l : Laid) (rs : List Record) (r : Record) (more : List Record) → IsRead l rs → Begins l (rs ++ r ∷ more) → ⊥
none_behind_whole l rs r more read begins = none_at_end l.timing (length (timing_of rs)) (shape_of r) _ (omega (arith, ap length read.whole)) (line_behind l rs r more begins)

-- a layout that is read has no fault
clean : (l : Laid) (rs qs : List Record) (fault : LayFault) → IsRead l rs → Begins l qs → IsFaulty l qs fault → Compared rs qs → ⊥
unfolding Compared
clean l rs qs fault read begins faulty (inl ([], e)) = no_fault_at_end l rs fault read (subst (λ (xs : List Record). IsFaulty l xs fault) (e ∙ append-nil rs) faulty)
clean l rs qs fault read begins faulty (inl ((r ∷ more), e)) = none_behind_whole l rs r more read (subst (Begins l) e begins)
clean l rs qs fault read begins faulty (inr ([], e)) = no_fault_at_end l rs fault read (subst (λ (xs : List Record). IsFaulty l xs fault) (sym (e ∙ append-nil qs)) faulty)
clean l rs qs fault read begins faulty (inr ((r ∷ more), e)) = no_fault_before l qs r more fault (subst (Begins l) e read.begins) faulty

pub no_fault : (l : Laid) (rs : List Record) (fault : LayFault) → IsRead l rs → Fails l fault → ⊥
no_fault l rs fault read (qs, begins, faulty) = clean l rs qs fault read begins faulty (compare l.timing (λ s. stream_in s l) rs qs (prefixes_of l rs read.begins) (prefixes_of l qs begins))

same_reading : (l : Laid) (rs qs : List Record) → IsRead l rs → IsRead l qs → Compared rs qs → rs ≡ qs
unfolding Compared
same_reading l rs qs read other (inl ([], e)) = sym (e ∙ append-nil rs)
same_reading l rs qs read other (inl ((r ∷ more), e)) = absurd (none_behind_whole l rs r more read (subst (Begins l) e other.begins))
same_reading l rs qs read other (inr ([], e)) = e ∙ append-nil qs
same_reading l rs qs read other (inr ((r ∷ more), e)) = absurd (none_behind_whole l qs r more other (subst (Begins l) e read.begins))

pub one_reading : (l : Laid) (rs qs : List Record) → IsRead l rs → IsRead l qs → rs ≡ qs
one_reading l rs qs read other = same_reading l rs qs read other (compare l.timing (λ s. stream_in s l) rs qs (prefixes_of l rs read.begins) (prefixes_of l qs other.begins))

-- a stream that lacks data and a time that is too long aren't told of one line
short_in_time : (l : Laid) (rs : List Record) (told : Shaped) (s : Stream) → IsShort l rs told s → 2 ^ 63 ≤ elapsed rs + told_delay told → ⊥
short_in_time l rs (Io d t n) s short late = omega (arith, short.1, late)
short_in_time l rs (Winsize d r c) s short late = short
short_in_time l rs (Suspend d g) s short late = short

short_stream : (l : Laid) (rs : List Record) (told : Shaped) (s t : Stream) → IsShort l rs told s → IsShort l rs told t → s ≡ t
short_stream l rs (Io d u n) s t short other = short.0 ∙ sym other.0
short_stream l rs (Winsize d r c) s t short other = absurd short
short_stream l rs (Suspend d g) s t short other = absurd short

no_line_at : (l : Laid) (rs : List Record) (offset : ℕ) (told : Shaped) → IsFaulty l rs (faults.BadLine offset) → (next : ℕ) → IsLineAt l.timing (length (timing_of rs)) told next → ⊥
no_line_at l rs offset told bad next line = bad.1.no_line told next (subst (λ (k : ℕ). IsLineAt l.timing k told next) (sym bad.0) line)

-- after the same records one thing is at fault
same_fault : (l : Laid) (rs : List Record) (a b : LayFault) → IsFaulty l rs a → IsFaulty l rs b → a ≡ b
same_fault l rs (faults.BadLine p) (faults.BadLine q) x y = ap faults.BadLine (x.0 ∙ sym y.0)
same_fault l rs (faults.BadLine p) (faults.Short t) x (told, next, short) = absurd (no_line_at l rs p told x next.0 next.1)
same_fault l rs (faults.BadLine p) faults.TooLong x (told, next, late) = absurd (no_line_at l rs p told x next.0 next.1)
same_fault l rs (faults.Short s) (faults.BadLine q) (told, next, short) y = absurd (no_line_at l rs q told y next.0 next.1)
same_fault l rs (faults.Short s) (faults.Short t) (told, next, short) (other, after, lacks) =
    let same = one_line l.timing (length (timing_of rs)) after.0 next.0 other told after.1 next.1 in
    ap faults.Short (short_stream l rs told s t short (subst (λ (u : Shaped). IsShort l rs u t) same.0 lacks))
same_fault l rs (faults.Short s) faults.TooLong (told, next, short) (other, after, late) =
    let same = one_line l.timing (length (timing_of rs)) after.0 next.0 other told after.1 next.1 in
    absurd (short_in_time l rs told s short (omega (arith, late, ap told_delay same.0)))
same_fault l rs faults.TooLong (faults.BadLine q) (told, next, late) y = absurd (no_line_at l rs q told y next.0 next.1)
same_fault l rs faults.TooLong (faults.Short t) (told, next, late) (other, after, short) =
    let same = one_line l.timing (length (timing_of rs)) after.0 next.0 other told after.1 next.1 in
    absurd (short_in_time l rs other t short (omega (arith, late, ap told_delay same.0)))
same_fault l rs faults.TooLong faults.TooLong x y = refl
same_fault l rs faults.NoMem b x y = absurd x
same_fault l rs (faults.BadLine p) faults.NoMem x y = absurd y
same_fault l rs (faults.Short s) faults.NoMem x y = absurd y
same_fault l rs faults.TooLong faults.NoMem x y = absurd y

joined_fault : (l : Laid) (rs qs : List Record) (a b : LayFault) → Begins l rs → IsFaulty l rs a → Begins l qs → IsFaulty l qs b → Compared rs qs → a ≡ b
unfolding Compared
joined_fault l rs qs a b begins faulty other lacks (inl ([], e)) = same_fault l rs a b faulty (subst (λ (xs : List Record). IsFaulty l xs b) (e ∙ append-nil rs) lacks)
joined_fault l rs qs a b begins faulty other lacks (inl ((r ∷ more), e)) = absurd (no_fault_before l rs r more a (subst (Begins l) e other) faulty)
joined_fault l rs qs a b begins faulty other lacks (inr ([], e)) = same_fault l rs a b faulty (subst (λ (xs : List Record). IsFaulty l xs b) (sym (e ∙ append-nil qs)) lacks)
joined_fault l rs qs a b begins faulty other lacks (inr ((r ∷ more), e)) = absurd (no_fault_before l qs r more b (subst (Begins l) e begins) lacks)

pub one_fault : (l : Laid) (a b : LayFault) → Fails l a → Fails l b → a ≡ b
one_fault l a b (rs, begins, faulty) (qs, other, lacks) = joined_fault l rs qs a b begins faulty other lacks (compare l.timing (λ s. stream_in s l) rs qs (prefixes_of l rs begins) (prefixes_of l qs other))

-- what is laid is read
pub laid_is_read : (l : Laid) (rs : List Record) → All IsValid rs → elapsed rs < 2 ^ 63 → IsLayout l rs → IsRead l rs
laid_is_read l rs valid time laid = record {
  begins = record {
    valid = valid;
    time = time;
    timing = ([], laid.timing ∙ sym (append-nil (timing_of rs)));
    streams = λ s. ([], laid.streams s ∙ sym (append-nil (stream_of s rs)));
  };
  whole = laid.timing;
}

-- of two beginnings of a layout one begins the other
pub one_begins : (l : Laid) (rs qs : List Record) → Begins l rs → Begins l qs → OneBegins rs qs
unfolding Compared
one_begins l rs qs begins other = compare l.timing (λ s. stream_in s l) rs qs (prefixes_of l rs begins) (prefixes_of l qs other)

whole_layout : (l : Laid) (rs : List Record) → All IsValid rs → IsLayout l rs → Prefixes l.timing (λ s. stream_in s l) rs
whole_layout l rs valid laid = record {
  valid = valid;
  timing = ([], laid.timing ∙ sym (append-nil (timing_of rs)));
  streams = λ s. ([], laid.streams s ∙ sym (append-nil (stream_of s rs)));
}

-- no record is laid in no bytes
none_laid : (rs : List Record) (r : Record) (more : List Record) → timing_of (rs ++ r ∷ more) ≡ timing_of rs → ⊥
none_laid rs r more e = omega (arith, ap length e, ap length (timing_of-append rs (r ∷ more)), length-append (timing_of rs) (timing_of (r ∷ more)), length-append (line_of r) (timing_of more), length-append (text_of (shape_of r)) (10 ∷ []))

one_of_two : (l : Laid) (rs qs : List Record) → IsLayout l rs → IsLayout l qs → Compared rs qs → rs ≡ qs
unfolding Compared
one_of_two l rs qs laid other (inl ([], e)) = sym (e ∙ append-nil rs)
one_of_two l rs qs laid other (inl ((r ∷ more), e)) = absurd (none_laid rs r more (ap timing_of (sym e) ∙ (sym other.timing ∙ laid.timing)))
one_of_two l rs qs laid other (inr ([], e)) = e ∙ append-nil qs
one_of_two l rs qs laid other (inr ((r ∷ more), e)) = absurd (none_laid qs r more (ap timing_of (sym e) ∙ (sym laid.timing ∙ other.timing)))

-- a layout is that of one list of valid records
pub one_layout : (l : Laid) (rs qs : List Record) → All IsValid rs → All IsValid qs → IsLayout l rs → IsLayout l qs → rs ≡ qs
one_layout l rs qs valid other laid laid_too =
    one_of_two l rs qs laid laid_too (compare l.timing (λ s. stream_in s l) rs qs (whole_layout l rs valid laid) (whole_layout l qs other laid_too))

-- the data of the next record stand after those of the records before it
pub data_behind : (l : Laid) (qs : List Record) (r : Record) (more : List Record) → Begins l (qs ++ r ∷ more) → (s : Stream) → take (length (data_in s r)) (drop (length (stream_of s qs)) (stream_in s l)) ≡ data_in s r
data_behind l qs r more begins s =
    let behind : IsPrefix (stream_of s (r ∷ more)) (drop (length (stream_of s qs)) (stream_in s l)) = second_prefix (stream_of s qs) (stream_of s (r ∷ more)) (stream_in s l) (subst (λ (t : List ℕ). IsPrefix t (stream_in s l)) (stream_of-append s qs (r ∷ more)) (begins.streams s)) in
    ap (take (length (data_in s r))) (behind.1 ∙ append_assoc (data_in s r) (stream_of s more) behind.0) ∙ take_at (data_in s r) (stream_of s more ++ behind.0) (length (data_in s r)) refl
