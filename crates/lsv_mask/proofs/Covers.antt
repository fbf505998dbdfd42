-- Masking over whole lists of records.
use Rattle.std.proofs.Common.{◌≡◌, ◌≢◌, ℕ, zero, suc, List, [], ◌∷◌, ◌++◌, length, take, map, All, Bool, true, false, refl, sym, ap, ◌∙◌, subst, append_assoc, append-nil}
use Rattle.std.specs.Prelude.{◌&&◌, not, if◌then◌else◌}
use Rattle.std.proofs.lemmas.List.Concat.{flat_map-append}
use Rattle.std.proofs.lemmas.List.Elements.{All-nil, All-cons, All-head, All-tail}
use Rattle.lsv_record.specs.declared.records.Record.{Record}
use Rattle.lsv_record.specs.declared.records.Record.TheVariants.{Io, Winsize, Suspend}
use Rattle.lsv_record.specs.declared.records.Shaped.TheVariants as shapes
use Rattle.lsv_record.specs.declared.records.Stream.{Stream}
use Rattle.lsv_record.specs.declared.records.Stream.TheVariants.{Stdin, Stdout, Stderr, Ttyin, Ttyout}
use Rattle.lsv_record.specs.Records.{data_in, delay_of, shape_of, stream_of, IsValid, IsGood}
use Rattle.lsv_mask.specs.Masking.{prompted, tail, last_bytes, last_line, ends_line, starred, hot, hot_with, hot_behind, covered, mask, mask_behind}
use Rattle.lsv_mask.proofs.Stars.{ends_starred, length-starred, starred_twice}

-- one record more
pub hot_push : (texts : List (List ℕ)) (before : List Record) (was : Bool) (rs : List Record) (r : Record) → hot_behind texts before was (rs ++ r ∷ []) ≡ hot_with texts (before ++ rs) (hot_behind texts before was rs) r
hot_push texts before was [] r = ap (λ (b : List Record). hot_with texts b was r) (sym (append-nil before))
hot_push texts before was (q ∷ rs) r =
    hot_push texts (before ++ q ∷ []) (hot_with texts before was q) rs r ∙ ap (λ (b : List Record). hot_with texts b (hot_behind texts (before ++ q ∷ []) (hot_with texts before was q) rs) r) (append_assoc before (q ∷ []) rs)

pub hot_more : (texts : List (List ℕ)) (rs : List Record) (r : Record) → hot texts (rs ++ r ∷ []) ≡ hot_with texts rs (hot texts rs) r
hot_more texts rs r = hot_push texts [] false rs r

pub output_push : (rs : List Record) (r : Record) → stream_of Ttyout (rs ++ r ∷ []) ≡ stream_of Ttyout rs ++ data_in Ttyout r
output_push rs r = flat_map-append (data_in Ttyout) rs (r ∷ []) ∙ ap (λ (t : List ℕ). stream_of Ttyout rs ++ t) (append-nil (data_in Ttyout r))

-- records that are the same to what follows them
pub record Same (texts : List (List ℕ)) (old rs : List Record) : Type 0 where
  pub output : stream_of Ttyout old ≡ stream_of Ttyout rs
  pub heat : hot texts old ≡ hot texts rs

pub covered_same : (texts : List (List ℕ)) (old rs : List Record) (r : Record) → hot texts old ≡ hot texts rs → covered texts old r ≡ covered texts rs r
covered_same texts old rs (Io d Stdin b) e = refl
covered_same texts old rs (Io d Stdout b) e = refl
covered_same texts old rs (Io d Stderr b) e = refl
covered_same texts old rs (Io d Ttyin b) e = ap (λ (h : Bool). Io d Ttyin (if h then starred b else b)) e
covered_same texts old rs (Io d Ttyout b) e = refl
covered_same texts old rs (Winsize d r c) e = refl
covered_same texts old rs (Suspend d g) e = refl

typed_with : (was heat : Bool) (bytes : List ℕ) → (was && not (ends_line (if heat then starred bytes else bytes))) ≡ (was && not (ends_line bytes))
typed_with was true bytes = ap (λ (e : Bool). was && not e) (ends_starred bytes)
typed_with was false bytes = refl

tail_push : (old rs : List Record) (r : Record) → stream_of Ttyout old ≡ stream_of Ttyout rs → tail (old ++ r ∷ []) ≡ tail (rs ++ r ∷ [])
tail_push old rs r e = ap (λ (t : List ℕ). last_bytes 256 (last_line t)) (output_push old r ∙ (ap (λ (t : List ℕ). t ++ data_in Ttyout r) e ∙ sym (output_push rs r)))

-- a covered record tells of what follows as it did before
with_same : (texts : List (List ℕ)) (old rs : List Record) (was : Bool) (r : Record) → stream_of Ttyout old ≡ stream_of Ttyout rs → hot_with texts old was (covered texts rs r) ≡ hot_with texts rs was r
with_same texts old rs was (Io d Stdin b) e = refl
with_same texts old rs was (Io d Stdout b) e = refl
with_same texts old rs was (Io d Stderr b) e = refl
with_same texts old rs was (Io d Ttyin b) e = typed_with was (hot texts rs) b
with_same texts old rs was (Io d Ttyout []) e = refl
with_same texts old rs was (Io d Ttyout (x ∷ b)) e = ap (prompted texts) (tail_push old rs (Io d Ttyout (x ∷ b)) e)
with_same texts old rs was (Winsize d r c) e = refl
with_same texts old rs was (Suspend d g) e = refl

typed_apart : (s : Stream) → s ≢ Ttyin → (d : ℕ) (a b : List ℕ) → data_in s (Io d Ttyin a) ≡ data_in s (Io d Ttyin b)
typed_apart Stdin ne d a b = refl
typed_apart Stdout ne d a b = refl
typed_apart Stderr ne d a b = refl
typed_apart Ttyin ne d a b = absurd (ne refl)
typed_apart Ttyout ne d a b = refl

pub data_covered : (texts : List (List ℕ)) (rs : List Record) (s : Stream) → s ≢ Ttyin → (r : Record) → data_in s (covered texts rs r) ≡ data_in s r
data_covered texts rs s ne (Io d Stdin b) = refl
data_covered texts rs s ne (Io d Stdout b) = refl
data_covered texts rs s ne (Io d Stderr b) = refl
data_covered texts rs s ne (Io d Ttyin b) = typed_apart s ne d _ b
data_covered texts rs s ne (Io d Ttyout b) = refl
data_covered texts rs s ne (Winsize d r c) = refl
data_covered texts rs s ne (Suspend d g) = refl

output_apart : Ttyout ≢ Ttyin
output_apart e = cc

pub same_next : (texts : List (List ℕ)) (old rs : List Record) (r : Record) → Same texts old rs → Same texts (old ++ covered texts rs r ∷ []) (rs ++ r ∷ [])
same_next texts old rs r same = record {
  output = output_push old (covered texts rs r) ∙ (ap (λ (t : List ℕ). t ++ data_in Ttyout (covered texts rs r)) same.output ∙ (ap (λ (t : List ℕ). stream_of Ttyout rs ++ t) (data_covered texts rs Ttyout output_apart r) ∙ sym (output_push rs r)));
  heat = hot_more texts old (covered texts rs r) ∙ (ap (λ (h : Bool). hot_with texts old h (covered texts rs r)) same.heat ∙ (with_same texts old rs (hot texts rs) r same.output ∙ sym (hot_more texts rs r)));
}

same_behind : (texts : List (List ℕ)) (old before : List Record) (rs : List Record) → Same texts old before → Same texts (old ++ mask_behind texts before rs) (before ++ rs)
same_behind texts old before [] same = subst (λ (b : List Record). Same texts (old ++ []) b) (sym (append-nil before)) (subst (λ (o : List Record). Same texts o before) (sym (append-nil old)) same)
same_behind texts old before (r ∷ rs) same =
    let next = same_behind texts (old ++ covered texts before r ∷ []) (before ++ r ∷ []) rs (same_next texts old before r same) in
    subst (λ (b : List Record). Same texts (old ++ covered texts before r ∷ mask_behind texts (before ++ r ∷ []) rs) b) (append_assoc before (r ∷ []) rs)
    (subst (λ (o : List Record). Same texts o ((before ++ r ∷ []) ++ rs)) (append_assoc old (covered texts before r ∷ []) (mask_behind texts (before ++ r ∷ []) rs)) next)

pub masked_same : (texts : List (List ℕ)) (rs : List Record) → Same texts (mask texts rs) rs
masked_same texts rs = same_behind texts [] [] rs (record { output = refl; heat = refl })

pub hot_masked : (texts : List (List ℕ)) (rs : List Record) → hot texts (mask texts rs) ≡ hot texts rs
hot_masked texts rs = (masked_same texts rs).heat

pub tail_masked : (texts : List (List ℕ)) (rs : List Record) → tail (mask texts rs) ≡ tail rs
tail_masked texts rs = ap (λ (t : List ℕ). last_bytes 256 (last_line t)) (masked_same texts rs).output

pub covered_masked : (texts : List (List ℕ)) (rs : List Record) (r : Record) → covered texts (mask texts rs) r ≡ covered texts rs r
covered_masked texts rs r = covered_same texts (mask texts rs) rs r (hot_masked texts rs)

-- each record is covered by those before it alone
prefix_behind : (texts : List (List ℕ)) (before rs : List Record) (n : ℕ) → mask_behind texts before (take n rs) ≡ take n (mask_behind texts before rs)
prefix_behind texts before [] zero = refl
prefix_behind texts before [] (suc n) = refl
prefix_behind texts before (r ∷ rs) zero = refl
prefix_behind texts before (r ∷ rs) (suc n) = ap (λ (t : List Record). covered texts before r ∷ t) (prefix_behind texts (before ++ r ∷ []) rs n)

pub prefix_masked : (texts : List (List ℕ)) (rs : List Record) (n : ℕ) → mask texts (take n rs) ≡ take n (mask texts rs)
prefix_masked texts rs n = prefix_behind texts [] rs n

more_behind : (texts : List (List ℕ)) (before rs : List Record) (r : Record) → mask_behind texts before (rs ++ r ∷ []) ≡ mask_behind texts before rs ++ covered texts (before ++ rs) r ∷ []
more_behind texts before [] r = ap (λ (b : List Record). covered texts b r ∷ []) (sym (append-nil before))
more_behind texts before (q ∷ rs) r =
    ap (λ (t : List Record). covered texts before q ∷ t) (more_behind texts (before ++ q ∷ []) rs r ∙ ap (λ (b : List Record). mask_behind texts (before ++ q ∷ []) rs ++ covered texts b r ∷ []) (append_assoc before (q ∷ []) rs))

pub more_masked : (texts : List (List ℕ)) (rs : List Record) (r : Record) → mask texts (rs ++ r ∷ []) ≡ mask texts rs ++ covered texts rs r ∷ []
more_masked texts rs r = more_behind texts [] rs r

-- what is covered stays so
stars_twice : (heat : Bool) (bytes : List ℕ) → (if heat then starred (if heat then starred bytes else bytes) else (if heat then starred bytes else bytes)) ≡ (if heat then starred bytes else bytes)
stars_twice true bytes = starred_twice bytes
stars_twice false bytes = refl

covered_twice : (texts : List (List ℕ)) (rs : List Record) (r : Record) → covered texts rs (covered texts rs r) ≡ covered texts rs r
covered_twice texts rs (Io d Stdin b) = refl
covered_twice texts rs (Io d Stdout b) = refl
covered_twice texts rs (Io d Stderr b) = refl
covered_twice texts rs (Io d Ttyin b) = ap (Io d Ttyin) (stars_twice (hot texts rs) b)
covered_twice texts rs (Io d Ttyout b) = refl
covered_twice texts rs (Winsize d r c) = refl
covered_twice texts rs (Suspend d g) = refl

twice_behind : (texts : List (List ℕ)) (old before rs : List Record) → Same texts old before → mask_behind texts old (mask_behind texts before rs) ≡ mask_behind texts before rs
twice_behind texts old before [] same = refl
twice_behind texts old before (r ∷ rs) same =
    let first : covered texts old (covered texts before r) ≡ covered texts before r = covered_same texts old before (covered texts before r) same.heat ∙ covered_twice texts before r in
    let rest : mask_behind texts (old ++ covered texts before r ∷ []) (mask_behind texts (before ++ r ∷ []) rs) ≡ mask_behind texts (before ++ r ∷ []) rs = twice_behind texts (old ++ covered texts before r ∷ []) (before ++ r ∷ []) rs (same_next texts old before r same) in
    ap (λ (q : Record). q ∷ mask_behind texts (old ++ covered texts before r ∷ []) (mask_behind texts (before ++ r ∷ []) rs)) first ∙ ap (λ (t : List Record). covered texts before r ∷ t) rest

pub masked_twice : (texts : List (List ℕ)) (rs : List Record) → mask texts (mask texts rs) ≡ mask texts rs
masked_twice texts rs = twice_behind texts [] [] rs (record { output = refl; heat = refl })

-- what masking keeps
pub length_typed : (heat : Bool) (bytes : List ℕ) → length (if heat then starred bytes else bytes) ≡ length bytes
length_typed true bytes = length-starred bytes
length_typed false bytes = refl

pub shape_covered : (texts : List (List ℕ)) (rs : List Record) (r : Record) → shape_of (covered texts rs r) ≡ shape_of r
shape_covered texts rs (Io d Stdin b) = refl
shape_covered texts rs (Io d Stdout b) = refl
shape_covered texts rs (Io d Stderr b) = refl
shape_covered texts rs (Io d Ttyin b) = ap (shapes.Io d Ttyin) (length_typed (hot texts rs) b)
shape_covered texts rs (Io d Ttyout b) = refl
shape_covered texts rs (Winsize d r c) = refl
shape_covered texts rs (Suspend d g) = refl

shapes_behind : (texts : List (List ℕ)) (before rs : List Record) → map shape_of (mask_behind texts before rs) ≡ map shape_of rs
shapes_behind texts before [] = refl
shapes_behind texts before (r ∷ rs) = let first = shape_covered texts before r in let rest = shapes_behind texts (before ++ r ∷ []) rs in cc

pub shapes_masked : (texts : List (List ℕ)) (rs : List Record) → map shape_of (mask texts rs) ≡ map shape_of rs
shapes_masked texts rs = shapes_behind texts [] rs

streams_behind : (texts : List (List ℕ)) (before rs : List Record) (s : Stream) → s ≢ Ttyin → stream_of s (mask_behind texts before rs) ≡ stream_of s rs
streams_behind texts before [] s ne = refl
streams_behind texts before (r ∷ rs) s ne = ap (λ (t : List ℕ). t ++ stream_of s (mask_behind texts (before ++ r ∷ []) rs)) (data_covered texts before s ne r) ∙ ap (λ (t : List ℕ). data_in s r ++ t) (streams_behind texts (before ++ r ∷ []) rs s ne)

pub streams_masked : (texts : List (List ℕ)) (rs : List Record) (s : Stream) → s ≢ Ttyin → stream_of s (mask texts rs) ≡ stream_of s rs
streams_masked texts rs s ne = streams_behind texts [] rs s ne

valid_behind : (texts : List (List ℕ)) (before rs : List Record) → All IsValid rs → All IsValid (mask_behind texts before rs)
valid_behind texts before [] valid = All-nil IsValid
valid_behind texts before (r ∷ rs) valid =
    All-cons IsValid (covered texts before r) (mask_behind texts (before ++ r ∷ []) rs) (subst IsGood (sym (shape_covered texts before r)) (All-head IsValid r rs valid)) (valid_behind texts (before ++ r ∷ []) rs (All-tail IsValid r rs valid))

pub valid_masked : (texts : List (List ℕ)) (rs : List Record) → All IsValid rs → All IsValid (mask texts rs)
valid_masked texts rs valid = valid_behind texts [] rs valid

-- without texts nothing is hot
cold_with : (before : List Record) (r : Record) → hot_with [] before false r ≡ false
cold_with before (Io d Stdin b) = refl
cold_with before (Io d Stdout b) = refl
cold_with before (Io d Stderr b) = refl
cold_with before (Io d Ttyin b) = refl
cold_with before (Io d Ttyout []) = refl
cold_with before (Io d Ttyout (x ∷ b)) = refl
cold_with before (Winsize d r c) = refl
cold_with before (Suspend d g) = refl

cold_behind : (before rs : List Record) → hot_behind [] before false rs ≡ false
cold_behind before [] = refl
cold_behind before (r ∷ rs) = ap (λ (h : Bool). hot_behind [] (before ++ r ∷ []) h rs) (cold_with before r) ∙ cold_behind (before ++ r ∷ []) rs

cold_covered : (before : List Record) (r : Record) → covered [] before r ≡ r
cold_covered before (Io d Stdin b) = refl
cold_covered before (Io d Stdout b) = refl
cold_covered before (Io d Stderr b) = refl
cold_covered before (Io d Ttyin b) = ap (λ (h : Bool). Io d Ttyin (if h then starred b else b)) (cold_behind [] before)
cold_covered before (Io d Ttyout b) = refl
cold_covered before (Winsize d r c) = refl
cold_covered before (Suspend d g) = refl

none_behind : (before rs : List Record) → mask_behind [] before rs ≡ rs
none_behind before [] = refl
none_behind before (r ∷ rs) = let first = cold_covered before r in let rest = none_behind (before ++ r ∷ []) rs in cc

pub none_masked : (rs : List Record) → mask [] rs ≡ rs
none_masked rs = none_behind [] rs

delay_covered : (texts : List (List ℕ)) (rs : List Record) (r : Record) → delay_of (covered texts rs r) ≡ delay_of r
delay_covered texts rs (Io d Stdin b) = refl
delay_covered texts rs (Io d Stdout b) = refl
delay_covered texts rs (Io d Stderr b) = refl
delay_covered texts rs (Io d Ttyin b) = refl
delay_covered texts rs (Io d Ttyout b) = refl
delay_covered texts rs (Winsize d r c) = refl
delay_covered texts rs (Suspend d g) = refl

delays_behind : (texts : List (List ℕ)) (before rs : List Record) → map delay_of (mask_behind texts before rs) ≡ map delay_of rs
delays_behind texts before [] = refl
delays_behind texts before (r ∷ rs) = let first = delay_covered texts before r in let rest = delays_behind texts (before ++ r ∷ []) rs in cc

pub delays_masked : (texts : List (List ℕ)) (rs : List Record) → map delay_of (mask texts rs) ≡ map delay_of rs
delays_masked texts rs = delays_behind texts [] rs
