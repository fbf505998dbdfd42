-- The layout of records, one after another.
use Rattle.std.proofs.Common.{◌≡◌, ℕ, ◌+◌, List, [], ◌∷◌, ◌++◌, append-nil, sym, ◌∙◌, ap, subst, arith, ◌<◌, ◌≤◌, ◌↔◌, length, take, get_or, refl, OnOk, Result, Ok, Err}
use Rattle.std.specs.Prelude.{◌==◌, if◌then◌else◌}
use Rattle.std.proofs.lemmas.List.{take_more, take_all}
use Rattle.std.proofs.lemmas.List.Concat.{flat_map-append}
use Rattle.lsv_record.specs.declared.laid.Laid.{Laid}
use Rattle.lsv_record.specs.declared.records.Record.{Record}
use Rattle.lsv_record.specs.declared.records.Record.TheVariants.{Io}
use Rattle.lsv_record.specs.declared.records.Stream.{Stream}
use Rattle.lsv_record.specs.declared.records.Stream.TheVariants.{Stdin, Stdout, Stderr, Ttyin, Ttyout}
use Rattle.lsv_record.specs.Records.{line_of, data_in, event_of, delay_of, timing_of, stream_of, elapsed}
use Rattle.lsv_record.specs.Layout.{IsLayout, layout_of, stream_in}

pub timing_of-append : (rs qs : List Record) → timing_of (rs ++ qs) ≡ timing_of rs ++ timing_of qs
timing_of-append rs qs = flat_map-append line_of rs qs

pub stream_of-append : (s : Stream) (rs qs : List Record) → stream_of s (rs ++ qs) ≡ stream_of s rs ++ stream_of s qs
stream_of-append s rs qs = flat_map-append (data_in s) rs qs

pub elapsed-append : (rs qs : List Record) → elapsed (rs ++ qs) ≡ elapsed rs + elapsed qs
elapsed-append [] qs = omega arith
elapsed-append (r ∷ rs) qs = let h = elapsed-append rs qs in omega arith

pub timing_of-push : (rs : List Record) (r : Record) → timing_of (rs ++ r ∷ []) ≡ timing_of rs ++ line_of r
timing_of-push rs r = timing_of-append rs (r ∷ []) ∙ ap (λ t. timing_of rs ++ t) (append-nil (line_of r))

pub stream_of-push : (s : Stream) (rs : List Record) (r : Record) → stream_of s (rs ++ r ∷ []) ≡ stream_of s rs ++ data_in s r
stream_of-push s rs r = stream_of-append s rs (r ∷ []) ∙ ap (λ t. stream_of s rs ++ t) (append-nil (data_in s r))

pub elapsed-push : (rs : List Record) (r : Record) → elapsed (rs ++ r ∷ []) ≡ elapsed rs + delay_of r
elapsed-push rs r = let h = elapsed-append rs (r ∷ []) in omega arith

-- one record more is laid after the others
pub layout_more : (l m : Laid) (rs : List Record) (r : Record) → IsLayout l rs → m.timing ≡ l.timing ++ line_of r → ((s : Stream) → stream_in s m ≡ stream_in s l ++ data_in s r) → IsLayout m (rs ++ r ∷ [])
layout_more l m rs r laid timing streams = record {
  timing = timing ∙ ap (λ t. t ++ line_of r) laid.timing ∙ sym (timing_of-push rs r);
  streams = λ s. streams s ∙ ap (λ t. t ++ data_in s r) (laid.streams s) ∙ sym (stream_of-push s rs r);
}

pub layout_step : (l m : Laid) (rs : List Record) (i : ℕ) (r : Record) → i < length rs → r ≡ get_or rs i r → IsLayout l (take i rs) → m.timing ≡ l.timing ++ line_of r → ((s : Stream) → stream_in s m ≡ stream_in s l ++ data_in s r) → IsLayout m (take (i + 1) rs)
layout_step l m rs i r below is laid timing streams =
    let same : take i rs ++ r ∷ [] ≡ take (i + 1) rs = ap (λ (q : Record). take i rs ++ q ∷ []) is ∙ sym (take_more rs i r below) in
    subst (IsLayout m) same (layout_more l m (take i rs) r laid timing streams)

pub layout_all : (l : Laid) (rs : List Record) (i : ℕ) → length rs ≤ i → IsLayout l (take i rs) → IsLayout l rs
layout_all l rs i end laid = subst (IsLayout l) (take_all i rs end) laid

texts_of_layout : (rs : List Record) (s : Stream) → stream_in s (layout_of rs) ≡ stream_of s rs
texts_of_layout rs Stdin = refl
texts_of_layout rs Stdout = refl
texts_of_layout rs Stderr = refl
texts_of_layout rs Ttyin = refl
texts_of_layout rs Ttyout = refl

laid_out : (rs : List Record) → IsLayout (layout_of rs) rs
laid_out rs = record { timing = refl; streams = texts_of_layout rs }

abbrev made : (timing stdin stdout stderr ttyin ttyout : List ℕ) → Laid
made timing stdin stdout stderr ttyin ttyout = record { timing = timing; stdin = stdin; stdout = stdout; stderr = stderr; ttyin = ttyin; ttyout = ttyout }

made_same : (t a b c d e u f g h i j : List ℕ) → t ≡ u → a ≡ f → b ≡ g → c ≡ h → d ≡ i → e ≡ j → made t a b c d e ≡ made u f g h i j
made_same t a b c d e u f g h i j et ea eb ec ed ee = cc

same_texts : (l m : Laid) → l.timing ≡ m.timing → ((s : Stream) → stream_in s l ≡ stream_in s m) → l ≡ m
same_texts l m timing streams =
    made_same l.timing l.stdin l.stdout l.stderr l.ttyin l.ttyout m.timing m.stdin m.stdout m.stderr m.ttyin m.ttyout
    timing (streams Stdin) (streams Stdout) (streams Stderr) (streams Ttyin) (streams Ttyout)

-- a layout is its texts one by one
pub layout_is_texts : (l : Laid) (rs : List Record) → IsLayout l rs ↔ (l ≡ layout_of rs)
layout_is_texts l rs = (λ laid. same_texts l (layout_of rs) laid.timing (λ s. laid.streams s ∙ sym (texts_of_layout rs s)), λ e. subst (λ (m : Laid). IsLayout m rs) (sym e) (laid_out rs))

-- a line more changes no stream
streams_stay : (l : Laid) (timing : List ℕ) (s : Stream) → stream_in s (record l { timing = timing }) ≡ stream_in s l
streams_stay l timing Stdin = refl
streams_stay l timing Stdout = refl
streams_stay l timing Stderr = refl
streams_stay l timing Ttyin = refl
streams_stay l timing Ttyout = refl

-- data that were added after their line are a record more
pub data_laid_on : (T E : Type 0) (result : Result T E) (l m : Laid) (timing : List ℕ) (delay : ℕ) (stream : Stream) (bytes : List ℕ) (r : Record) → r ≡ Io delay stream bytes → timing ≡ l.timing ++ line_of r
    → OnOk result (m.timing ≡ timing)
    → OnOk result ((s : Stream) → stream_in s m ≡ stream_in s (record l { timing = timing }) ++ (if event_of s == event_of stream then bytes else []))
    → OnOk result ((rs : List Record) → IsLayout l rs → IsLayout m (rs ++ r ∷ []))
data_laid_on T E (Ok v) l m timing delay stream bytes r is line same added =
    λ rs laid. layout_more l m rs r laid (same ∙ line) (λ s. added s ∙ (ap (λ t. t ++ data_in s (Io delay stream bytes)) (streams_stay l timing s) ∙ ap (λ (q : Record). stream_in s l ++ data_in s q) (sym is)))
data_laid_on T E (Err e) l m timing delay stream bytes r is line same added = tt
