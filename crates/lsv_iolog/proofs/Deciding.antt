-- What an image holds of a log is decided: all that a line or an entry may say is tried.
use Rattle.std.proofs.Common.{◌≡◌, ℕ, zero, suc, ◌<◌, ◌≤◌, ◌^◌, List, [], ◌∷◌, ◌++◌, length, take, drop, All, Bool, true, false, refl, sym, ◌∙◌, ap, subst, arith, length-append}
use Rattle.std.specs.Bool.{Decides}
use Rattle.std.proofs.lemmas.Bool.Decides.{not_from_Decides, Decides-eqb, Decides-ltb}
use Rattle.std.proofs.lemmas.Slice.Eq.{bytes_eq-Decides}
use Rattle.std.proofs.lemmas.List.{take_at, take-append-drop}
use Rattle.std.proofs.lemmas.List.Elements.{All-nil, All-cons, All-head, All-tail}
use Rattle.lsv_defs.specs.Pieces.{IsPrefix}
use Rattle.lsv_record.specs.declared.records.Shaped.{Shaped}
use Rattle.lsv_record.specs.declared.records.Shaped.TheVariants.{Io, Winsize, Suspend}
use Rattle.lsv_record.specs.declared.records.Stream.{Stream}
use Rattle.lsv_record.specs.declared.records.Stream.TheVariants as streams
use Rattle.lsv_record.specs.Records.{shaped_line, IsGood}
use Rattle.lsv_record.specs.Tally.{lines_of}
use Rattle.lsv_record.proofs.Once.{first_line}
use Rattle.lsv_iolog.proofs.Staging.{some_line}

pub dec_of : {P : Type 0} → (r : Bool) → Decides r P → Dec P
dec_of true h = yes (h.0 refl)
dec_of false h = no (not_from_Decides false h refl)

pub dec_nat : (a b : ℕ) → Dec (a ≡ b)
dec_nat a b = dec_of _ (Decides-eqb a b)

pub dec_less : (a b : ℕ) → Dec (a < b)
dec_less a b = dec_of _ (Decides-ltb a b)

pub dec_list : (xs ys : List ℕ) → Dec (xs ≡ ys)
dec_list xs ys = dec_of _ (bytes_eq-Decides xs ys)

pub dec_both : {A B : Type 0} → Dec A → Dec B → Dec (A × B)
dec_both (yes a) (yes b) = yes (a, b)
dec_both (yes a) (no b) = no (λ x. b x.1)
dec_both (no a) b = no (λ x. a x.0)

-- where the one holds exactly where the other does
pub dec_as : {A B : Type 0} → Dec A → (A → B) → (B → A) → Dec B
dec_as (yes a) forth back = yes (forth a)
dec_as (no a) forth back = no (λ b. a (back b))

-- all numbers below a bound are tried
pub dec_below : (P : ℕ → Type 0) → ((n : ℕ) → Dec (P n)) → (b : ℕ) → Dec ((n : ℕ) × (n < b) × P n)
dec_below P d zero = no (λ h. let small : h.0 < 0 = h.1 in let none : ⊥ = omega arith in none)
dec_below P d (suc b) = elim (d b) [
  | yes p ↦ yes (b, (let small : b < suc b = omega arith in small), p)
  | no none ↦ elim (dec_below P d b) [
    | yes h ↦ yes (h.0, (let before : h.0 < b = h.1 in let small : h.0 < suc b = omega arith in small), h.2)
    | no below ↦ no (λ h. elim (dec_nat h.0 b) [
      | yes e ↦ none (subst P e h.2)
      | no other ↦ below (h.0, (let small : h.0 < suc b = h.1 in let before : h.0 < b = omega (arith, other) in before), h.2)
    ])
  ]
]

-- and all lists of this many of them
module _ (Q : ℕ → Type 0) (b : ℕ) (small : (n : ℕ) → Q n → n < b) (dq : (n : ℕ) → Dec (Q n)) where
  Listed : (List ℕ → Type 0) → ℕ → Type 0
  Listed P n = (xs : List ℕ) × (length xs ≡ n) × All Q xs × P xs

  none_listed : (P : List ℕ → Type 0) → (P [] → ⊥) → Listed P zero → ⊥
  unfolding Listed
  none_listed P none ([], long, all, p) = none p
  none_listed P none (y ∷ ys, long, all, p) = let no_ : ⊥ = omega (arith, long) in no_

  first_listed : (P : List ℕ → Type 0) (n : ℕ) → Listed P (suc n) → (k : ℕ) × (k < b) × (Q k × Listed (λ xs. P (k ∷ xs)) n)
  unfolding Listed
  first_listed P n ([], long, all, p) = absurd (let no_ : ⊥ = omega (arith, long) in no_)
  first_listed P n (y ∷ ys, long, all, p) =
      (y, small y (All-head Q y ys all), (All-head Q y ys all, (ys, (let rest : length ys ≡ n = omega (arith, long) in rest), All-tail Q y ys all, p)))

  pub dec_listed : (P : List ℕ → Type 0) → ((xs : List ℕ) → Dec (P xs)) → (n : ℕ) → Dec ((xs : List ℕ) × (length xs ≡ n) × All Q xs × P xs)
  unfolding Listed
  dec_listed P d zero = elim (d []) [
    | yes p ↦ yes ([], refl, All-nil Q, p)
    | no none ↦ no (none_listed P none)
  ]
  dec_listed P d (suc n) =
      dec_as (dec_below (λ k. Q k × Listed (λ xs. P (k ∷ xs)) n) (λ k. dec_both (dq k) (dec_listed (λ xs. P (k ∷ xs)) (λ xs. d (k ∷ xs)) n)) b)
      (λ h. let xs = h.2.1.0 in (h.0 ∷ xs, (let long : length xs ≡ n = h.2.1.1 in let all : length (h.0 ∷ xs) ≡ suc n = omega (arith, long) in all), All-cons Q h.0 xs h.2.0 h.2.1.2, h.2.1.3))
      (first_listed P n)

pub dec_prefix : (prefix text : List ℕ) → Dec (IsPrefix prefix text)
dec_prefix prefix text =
    dec_as (dec_list (take (length prefix) text) prefix)
    (λ e. (drop (length prefix) text, sym (take-append-drop (length prefix) text) ∙ ap (λ (xs : List ℕ). xs ++ drop (length prefix) text) e))
    (λ p. ap (take (length prefix)) p.1 ∙ take_at prefix p.0 (length prefix) refl)

-- a good line with which the text begins
abbrev pub BeginsWith : List ℕ → Shaped → Type 0
BeginsWith text told = IsGood told × IsPrefix (shaped_line told) text

-- that tells data of this stream
dec_io : (text : List ℕ) (s : Stream) → Dec ((delay : ℕ) × (delay < 2 ^ 63) × ((count : ℕ) × (count < 2097153) × IsPrefix (shaped_line (Io delay s count)) text))
dec_io text s = dec_below _ (λ delay. dec_below _ (λ count. dec_prefix (shaped_line (Io delay s count)) text) 2097153) (2 ^ 63)

dec_window : (text : List ℕ) → Dec ((delay : ℕ) × (delay < 2 ^ 63) × ((rows : ℕ) × (rows < 2 ^ 31) × ((cols : ℕ) × (cols < 2 ^ 31) × IsPrefix (shaped_line (Winsize delay rows cols)) text)))
dec_window text = dec_below _ (λ delay. dec_below _ (λ rows. dec_below _ (λ cols. dec_prefix (shaped_line (Winsize delay rows cols)) text) (2 ^ 31)) (2 ^ 31)) (2 ^ 63)

abbrev Visible : ℕ → Type 0
Visible byte = (33 ≤ byte) × (byte ≤ 126)

visible_small : (n : ℕ) → Visible n → n < 127
visible_small n v = let most : n ≤ 126 = v.1 in omega arith

dec_visible : (n : ℕ) → Dec (Visible n)
dec_visible n = dec_both
    (dec_as (dec_less 32 n) (λ (h : 32 < n). let x : 33 ≤ n = omega arith in x) (λ (h : 33 ≤ n). let x : 32 < n = omega arith in x))
    (dec_as (dec_less n 127) (λ (h : n < 127). let x : n ≤ 126 = omega arith in x) (λ (h : n ≤ 126). let x : n < 127 = omega arith in x))

dec_signal : (text : List ℕ) → Dec ((delay : ℕ) × (delay < 2 ^ 63) × ((n : ℕ) × (n < 33) × ((signal : List ℕ) × (length signal ≡ n) × All Visible signal × ((1 ≤ n) × IsPrefix (shaped_line (Suspend delay signal)) text))))
dec_signal text = dec_below _ (λ delay. dec_below _ (λ n. dec_listed Visible 127 visible_small dec_visible _
    (λ signal. dec_both (dec_as (dec_less 0 n) (λ (h : 0 < n). let x : 1 ≤ n = omega arith in x) (λ (h : 1 ≤ n). let x : 0 < n = omega arith in x)) (dec_prefix (shaped_line (Suspend delay signal)) text)) n) 33) (2 ^ 63)

-- what a text begins with, where it is the line of so much data, of a window, of a signal
module _ (text : List ℕ) where
  abbrev IoLine : Stream → Type 0
  IoLine s = (delay : ℕ) × (delay < 2 ^ 63) × ((count : ℕ) × (count < 2097153) × IsPrefix (shaped_line (Io delay s count)) text)

  abbrev WindowLine : Type 0
  WindowLine = (delay : ℕ) × (delay < 2 ^ 63) × ((rows : ℕ) × (rows < 2 ^ 31) × ((cols : ℕ) × (cols < 2 ^ 31) × IsPrefix (shaped_line (Winsize delay rows cols)) text))

  abbrev SignalLine : Type 0
  SignalLine = (delay : ℕ) × (delay < 2 ^ 63) × ((n : ℕ) × (n < 33) × ((signal : List ℕ) × (length signal ≡ n) × All Visible signal × ((1 ≤ n) × IsPrefix (shaped_line (Suspend delay signal)) text)))

  of_io : (s : Stream) → IoLine s → (told : Shaped) × BeginsWith text told
  of_io s h = let most : h.2.0 < 2097153 = h.2.1 in (Io h.0 s h.2.0, ((h.1, (let x : h.2.0 ≤ 2097152 = omega (arith, most) in x)), h.2.2))

  of_window : WindowLine → (told : Shaped) × BeginsWith text told
  of_window h = (Winsize h.0 h.2.0 h.2.2.0, ((h.1, h.2.1, h.2.2.1), h.2.2.2))

  of_signal : SignalLine → (told : Shaped) × BeginsWith text told
  of_signal h =
      let few : h.2.0 < 33 = h.2.1 in
      let long : length h.2.2.0 ≡ h.2.0 = h.2.2.1 in
      let some : 1 ≤ h.2.0 = h.2.2.3.0 in
      (Suspend h.0 h.2.2.0, ((h.1, record { some = omega (arith, some, long); few = omega (arith, few, long); visible = h.2.2.2 }), h.2.2.3.1))

  no_io : (IoLine streams.Stdin → ⊥) → (IoLine streams.Stdout → ⊥) → (IoLine streams.Stderr → ⊥) → (IoLine streams.Ttyin → ⊥) → (IoLine streams.Ttyout → ⊥) → (s : Stream) × IoLine s → ⊥
  no_io a b c d e (streams.Stdin, h) = a h
  no_io a b c d e (streams.Stdout, h) = b h
  no_io a b c d e (streams.Stderr, h) = c h
  no_io a b c d e (streams.Ttyin, h) = d h
  no_io a b c d e (streams.Ttyout, h) = e h

  some_io : Dec (IoLine streams.Stdin) → Dec (IoLine streams.Stdout) → Dec (IoLine streams.Stderr) → Dec (IoLine streams.Ttyin) → Dec (IoLine streams.Ttyout) → Dec ((s : Stream) × IoLine s)
  some_io (yes h) b c d e = yes (streams.Stdin, h)
  some_io (no a) (yes h) c d e = yes (streams.Stdout, h)
  some_io (no a) (no b) (yes h) d e = yes (streams.Stderr, h)
  some_io (no a) (no b) (no c) (yes h) e = yes (streams.Ttyin, h)
  some_io (no a) (no b) (no c) (no d) (yes h) = yes (streams.Ttyout, h)
  some_io (no a) (no b) (no c) (no d) (no e) = no (no_io a b c d e)

  no_line : ((s : Stream) × IoLine s → ⊥) → (WindowLine → ⊥) → (SignalLine → ⊥) → (told : Shaped) × BeginsWith text told → ⊥
  no_line io window signal (Io delay s count, x) = let most : count ≤ 2097152 = x.0.1 in io (s, (delay, x.0.0, (count, (let y : count < 2097153 = omega arith in y), x.1)))
  no_line io window signal (Winsize delay rows cols, x) = window (delay, x.0.0, (rows, x.0.1, (cols, x.0.2, x.1)))
  no_line io window signal (Suspend delay name, x) = let few : length name ≤ 32 = x.0.1.few in signal (delay, x.0.0, (length name, (let y : length name < 33 = omega arith in y), (name, refl, x.0.1.visible, (x.0.1.some, x.1))))

  one_of : Dec ((s : Stream) × IoLine s) → Dec WindowLine → Dec SignalLine → Dec ((told : Shaped) × BeginsWith text told)
  one_of (yes h) b c = yes (of_io h.0 h.1)
  one_of (no a) (yes h) c = yes (of_window h)
  one_of (no a) (no b) (yes h) = yes (of_signal h)
  one_of (no a) (no b) (no c) = no (no_line a b c)

  dec_line : Dec ((told : Shaped) × BeginsWith text told)
  dec_line = one_of (some_io (dec_io text streams.Stdin) (dec_io text streams.Stdout) (dec_io text streams.Stderr) (dec_io text streams.Ttyin) (dec_io text streams.Ttyout)) (dec_window text) (dec_signal text)

-- the text is these good lines
abbrev pub AreLinesOf : List ℕ → List Shaped → Type 0
AreLinesOf text lines = All IsGood lines × (text ≡ lines_of lines)

no_lines_but : (text : List ℕ) (b : ℕ) (bs : List ℕ) → text ≡ b ∷ bs → ((told : Shaped) × BeginsWith text told → ⊥) → (lines : List Shaped) × AreLinesOf text lines → ⊥
no_lines_but text b bs some none ([], x) = let long : length (b ∷ bs) ≡ 0 = ap length (sym some ∙ x.1) in let no_ : ⊥ = omega arith in no_
no_lines_but text b bs some none (t ∷ ts, x) = none (t, (All-head IsGood t ts x.0, (lines_of ts, x.1)))

lines_behind : (text rest : List ℕ) (told : Shaped) → IsGood told → text ≡ shaped_line told ++ rest → (lines : List Shaped) × AreLinesOf text lines → (lines : List Shaped) × AreLinesOf rest lines
lines_behind text rest told good is ([], x) =
    let long : length (shaped_line told ++ rest) ≡ 0 = ap length (sym is ∙ x.1) in absurd (let no_ : ⊥ = omega (arith, long, length-append (shaped_line told) rest, some_line told) in no_)
lines_behind text rest told good is (t ∷ ts, x) =
    (ts, (All-tail IsGood t ts x.0, (first_line told t rest (lines_of ts) good (All-head IsGood t ts x.0) (sym is ∙ x.1)).1))

pub dec_lines : (fuel : ℕ) (text : List ℕ) → length text ≤ fuel → Dec ((lines : List Shaped) × AreLinesOf text lines)
dec_lines fuel [] small = yes ([], (All-nil IsGood, refl))
dec_lines zero (b ∷ bs) small = absurd (let x : length (b ∷ bs) ≤ 0 = small in let no_ : ⊥ = omega arith in no_)
dec_lines (suc fuel) (b ∷ bs) small = elim (dec_line (b ∷ bs)) [
  | no none ↦ no (no_lines_but (b ∷ bs) b bs refl none)
  | yes l ↦ dec_as (dec_lines fuel l.1.1.0
      (let all : length (b ∷ bs) ≡ length (shaped_line l.0 ++ l.1.1.0) = ap length l.1.1.1 in let x : length l.1.1.0 ≤ fuel = omega (arith, all, small, length-append (shaped_line l.0) l.1.1.0, some_line l.0) in x))
      (λ x. (l.0 ∷ x.0, (All-cons IsGood l.0 x.0 l.1.0 x.1.0, l.1.1.1 ∙ ap (λ (xs : List ℕ). shaped_line l.0 ++ xs) x.1.1)))
      (lines_behind (b ∷ bs) l.1.1.0 l.0 l.1.0 l.1.1.1)
]

-- a text is good lines in one way
pub same_lines : (xs ys : List Shaped) → All IsGood xs → All IsGood ys → lines_of xs ≡ lines_of ys → xs ≡ ys
same_lines [] [] a b e = refl
same_lines [] (y ∷ ys) a b e = let long : 0 ≡ length (shaped_line y ++ lines_of ys) = ap length e in absurd (let no_ : ⊥ = omega (arith, long, length-append (shaped_line y) (lines_of ys), some_line y) in no_)
same_lines (x ∷ xs) [] a b e = let long : length (shaped_line x ++ lines_of xs) ≡ 0 = ap length e in absurd (let no_ : ⊥ = omega (arith, long, length-append (shaped_line x) (lines_of xs), some_line x) in no_)
same_lines (x ∷ xs) (y ∷ ys) a b e =
    let same = first_line x y (lines_of xs) (lines_of ys) (All-head IsGood x xs a) (All-head IsGood y ys b) e in
    let rest : xs ≡ ys = same_lines xs ys (All-tail IsGood x xs a) (All-tail IsGood y ys b) same.1 in
    λ i. same.0 i ∷ rest i
