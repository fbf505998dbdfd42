-- The line of a host before an identifier: what is kept of one host is nothing of another.
use Rattle.std.proofs.Common.{◌≡◌, ◌+◌, ℕ, List, [], ◌∷◌, ◌++◌, length, take, drop, Bool, true, false, refl, sym, ◌∙◌, ap, arith}
use Rattle.std.specs.Prelude.{◌==◌, ◌&&◌}
use Rattle.std.specs.Str.{bytes_eq}
use Rattle.std.proofs.lemmas.Bool.{false≢true}
use Rattle.std.proofs.lemmas.Bool.Decides.{nat_tests}
use Rattle.std.proofs.lemmas.List.{append_cancel_right, drop_at, take-append-drop, take_at}
use Rattle.std.proofs.lemmas.Slice.Eq.{bytes_eq-Decides}
use Rattle.lsv_kept.specs.Aim.{AimView, line_of}
use Rattle.lsv_kept.specs.Kept.{is_of, kept_for, marked_for, point_of, state_of}
use Rattle.lsv_kept.specs.declared.state.Kept.{Kept}
use Rattle.lsv_kept.specs.declared.state.State.TheVariants as states

pub same_number : (m n : ℕ) → (m == n) ≡ true → m ≡ n
same_number m n e = grind (arith, nat_tests)

pub number_is : (m n : ℕ) → m ≡ n → (m == n) ≡ true
number_is m n e = grind (arith, nat_tests)

pub both : (a b : Bool) → (a && b) ≡ true → (a ≡ true) × (b ≡ true)
both true true e = (refl, refl)
both true false e = absurd (false≢true e)
both false b e = absurd (false≢true e)

-- an entry of a host: its count is the length of the host's line, with which the bytes begin
pub of_line : (host : List ℕ) (count : ℕ) (bytes : List ℕ) → is_of host count bytes ≡ true → (count ≡ length (line_of host)) × (bytes ≡ line_of host ++ drop count bytes)
of_line host count bytes is =
    let parts = both (count == length (line_of host)) (bytes_eq (take count bytes) (line_of host)) is in (
      same_number count (length (line_of host)) parts.0,
      sym (take-append-drop count bytes) ∙ ap (λ (front : List ℕ). front ++ drop count bytes) ((bytes_eq-Decides (take count bytes) (line_of host)).0 parts.1),
    )

-- a line and an identifier after it are of the line's host
pub line_is_of : (host id : List ℕ) (count : ℕ) → count ≡ length (line_of host) → is_of host count (line_of host ++ id) ≡ true
line_is_of host id count long =
    let one : (count == length (line_of host)) ≡ true = number_is count (length (line_of host)) long in
    let two : bytes_eq (take count (line_of host ++ id)) (line_of host) ≡ true = (bytes_eq-Decides (take count (line_of host ++ id)) (line_of host)).1 (take_at (line_of host) id count (sym long)) in
    rw (one, two) refl

-- and keep the identifier
pub line_keeps : (aim : AimView) (id : List ℕ) (count extra : ℕ) → count ≡ length (line_of aim.host) → state_of aim 1 count extra (line_of aim.host ++ id) ≡ states.Kept (record { id = id; point = point_of extra })
line_keeps aim id count extra long =
    let of : is_of aim.host count (line_of aim.host ++ id) ≡ true = line_is_of aim.host id count long in
    let kept : state_of aim 1 count extra (line_of aim.host ++ id) ≡ states.Kept (record { id = drop count (line_of aim.host ++ id); point = point_of extra }) = rw of refl in
    kept ∙ ap (λ (rest : List ℕ). states.Kept (record { id = rest; point = point_of extra })) (drop_at (line_of aim.host) id count (sym long))

-- a mark with the time of the aim says that the log is relayed
pub time_marks : (total extra : ℕ) → extra ≡ total + 1 → marked_for total extra ≡ states.Done
time_marks total extra is = let e : (extra == total + 1) ≡ true = number_is extra (total + 1) is in rw e refl

pub marks_time : (total extra : ℕ) → marked_for total extra ≡ states.Done → extra ≡ total + 1
marks_time total extra is = go (extra == total + 1) refl
  where
    go : (b : Bool) → (extra == total + 1) ≡ b → extra ≡ total + 1
    go true e = same_number extra (total + 1) e
    go false e = absurd (let h : marked_for total extra ≡ states.Nothing = rw e refl in let k : states.Nothing ≡ states.Done = sym h ∙ is in cc (k))

-- what isn't kept by a mark is no identifier
pub mark_keeps_none : (total extra : ℕ) (kept : Kept) → marked_for total extra ≡ states.Kept kept → ⊥
mark_keeps_none total extra kept is = go (extra == total + 1) refl
  where
    go : (b : Bool) → (extra == total + 1) ≡ b → ⊥
    go true e = let h : marked_for total extra ≡ states.Done = rw e refl in let k : states.Done ≡ states.Kept kept = sym h ∙ is in cc (k)
    go false e = let h : marked_for total extra ≡ states.Nothing = rw e refl in let k : states.Nothing ≡ states.Kept kept = sym h ∙ is in cc (k)

-- an entry that keeps an identifier is of the host, and the identifier stands after the line
pub kept_of_line : (host : List ℕ) (count extra : ℕ) (bytes : List ℕ) (kept : Kept) → kept_for host count extra bytes ≡ states.Kept kept → (is_of host count bytes ≡ true) × (drop count bytes ≡ kept.id)
kept_of_line host count extra bytes kept is = go (is_of host count bytes) refl
  where
    go : (b : Bool) → is_of host count bytes ≡ b → (is_of host count bytes ≡ true) × (drop count bytes ≡ kept.id)
    go true e = (
      e,
      let h : kept_for host count extra bytes ≡ states.Kept (record { id = drop count bytes; point = point_of extra }) = rw e refl in
          let k : states.Kept (record { id = drop count bytes; point = point_of extra }) ≡ states.Kept kept = sym h ∙ is in
          let l : (record { id = drop count bytes; point = point_of extra }) ≡ kept = cc (k) in ap (λ (x : Kept). x.id) l,
    )
    go false e = absurd (let h : kept_for host count extra bytes ≡ states.Nothing = rw e refl in let k : states.Nothing ≡ states.Kept kept = sym h ∙ is in cc (k))

pub none_done : (host : List ℕ) (count extra : ℕ) (bytes : List ℕ) → kept_for host count extra bytes ≡ states.Done → ⊥
none_done host count extra bytes is = go (is_of host count bytes) refl
  where
    go : (b : Bool) → is_of host count bytes ≡ b → ⊥
    go true e = let h : kept_for host count extra bytes ≡ states.Kept (record { id = drop count bytes; point = point_of extra }) = rw e refl in
        let k : states.Kept (record { id = drop count bytes; point = point_of extra }) ≡ states.Done = sym h ∙ is in cc (k)
    go false e = let h : kept_for host count extra bytes ≡ states.Nothing = rw e refl in let k : states.Nothing ≡ states.Done = sym h ∙ is in cc (k)

-- the bytes of an entry that keeps an identifier
pub kept_bytes_of : (aim : AimView) (kind count extra : ℕ) (bytes : List ℕ) (kept : Kept) → state_of aim kind count extra bytes ≡ states.Kept kept → bytes ≡ line_of aim.host ++ kept.id
kept_bytes_of aim kind count extra bytes kept is = go (kind == 2) (kind == 3) refl refl
  where
    go : (two three : Bool) → (kind == 2) ≡ two → (kind == 3) ≡ three → bytes ≡ line_of aim.host ++ kept.id
    go true three e f = absurd (let h : state_of aim kind count extra bytes ≡ states.Nothing = rw e refl in let k : states.Nothing ≡ states.Kept kept = sym h ∙ is in cc (k))
    go false true e f = absurd (let h : state_of aim kind count extra bytes ≡ marked_for aim.total extra = rw (e, f) refl in mark_keeps_none aim.total extra kept (sym h ∙ is))
    go false false e f =
        let h : state_of aim kind count extra bytes ≡ kept_for aim.host count extra bytes = rw (e, f) refl in
        let found = kept_of_line aim.host count extra bytes kept (sym h ∙ is) in
        (of_line aim.host count bytes found.0).1 ∙ ap (λ (rest : List ℕ). line_of aim.host ++ rest) found.1

-- an entry that says that the log is relayed is a mark with the time of the aim
pub done_is : (aim : AimView) (kind count extra : ℕ) (bytes : List ℕ) → state_of aim kind count extra bytes ≡ states.Done → (kind ≡ 3) × (extra ≡ aim.total + 1)
done_is aim kind count extra bytes is = go (kind == 2) (kind == 3) refl refl
  where
    go : (two three : Bool) → (kind == 2) ≡ two → (kind == 3) ≡ three → (kind ≡ 3) × (extra ≡ aim.total + 1)
    go true three e f = absurd (let h : state_of aim kind count extra bytes ≡ states.Nothing = rw e refl in let k : states.Nothing ≡ states.Done = sym h ∙ is in cc (k))
    go false true e f = (same_number kind 3 f, let h : state_of aim kind count extra bytes ≡ marked_for aim.total extra = rw (e, f) refl in marks_time aim.total extra (sym h ∙ is))
    go false false e f = absurd (let h : state_of aim kind count extra bytes ≡ kept_for aim.host count extra bytes = rw (e, f) refl in none_done aim.host count extra bytes (sym h ∙ is))

-- a line is of one host
one_line : (one two : List ℕ) → line_of one ≡ line_of two → one ≡ two
one_line one two same = append_cancel_right one two (10 ∷ []) same

-- of another host nothing is kept
pub other_host : (one two : List ℕ) (count extra : ℕ) (bytes : List ℕ) (kept : Kept) → (one ≡ two → ⊥) → kept_for one count extra bytes ≡ states.Kept kept → kept_for two count extra bytes ≡ states.Nothing
other_host one two count extra bytes kept apart is = go (is_of two count bytes) refl
  where
    go : (b : Bool) → is_of two count bytes ≡ b → kept_for two count extra bytes ≡ states.Nothing
    go false e = rw e refl
    go true e =
        let first = (both (count == length (line_of one)) (bytes_eq (take count bytes) (line_of one)) (kept_of_line one count extra bytes kept is).0).1 in
        let second = (both (count == length (line_of two)) (bytes_eq (take count bytes) (line_of two)) e).1 in
        absurd (apart (one_line one two (sym ((bytes_eq-Decides (take count bytes) (line_of one)).0 first) ∙ (bytes_eq-Decides (take count bytes) (line_of two)).0 second)))

pub other_state : (one two : AimView) (kind count extra : ℕ) (bytes : List ℕ) (kept : Kept) → (one.host ≡ two.host → ⊥) → state_of one kind count extra bytes ≡ states.Kept kept → state_of two kind count extra bytes ≡ states.Nothing
other_state one two kind count extra bytes kept apart is = go (kind == 2) (kind == 3) refl refl
  where
    go : (two_ three : Bool) → (kind == 2) ≡ two_ → (kind == 3) ≡ three → state_of two kind count extra bytes ≡ states.Nothing
    go true three e f = rw e refl
    go false true e f = absurd (let h : state_of one kind count extra bytes ≡ marked_for one.total extra = rw (e, f) refl in mark_keeps_none one.total extra kept (sym h ∙ is))
    go false false e f =
        let h : state_of one kind count extra bytes ≡ kept_for one.host count extra bytes = rw (e, f) refl in
        let k : state_of two kind count extra bytes ≡ kept_for two.host count extra bytes = rw (e, f) refl in
        k ∙ other_host one.host two.host count extra bytes kept apart (sym h ∙ is)
