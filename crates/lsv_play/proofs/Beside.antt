-- A log that others write while it is read: what was read before a look that found no cut is of that log.
use Rattle.std.proofs.Common.{◌≡◌, ◌≢◌, ◌∙◌, ◌++◌, ◌⊎◌, ◌+◌, ◌<◌, ◌≤◌, inl, inr, ℕ, zero, suc, List, [], ◌∷◌, Option, Some, None, Result, length, length-append, take, refl, sym, ap, subst, append-nil, append_assoc, arith}
use Rattle.std.specs.Prelude.{◌-◌}
use Rattle.std.proofs.lemmas.List.{take_at}
use Rattle.lsv_disk.specs.Bytes.{bytes_of}
use Rattle.lsv_disk.specs.Files.{file_of}
use Rattle.lsv_disk.specs.View.{Image}
use Rattle.lsv_disk.specs.declared.file.Part.{Part}
use Rattle.lsv_disk.specs.declared.file.Part.TheVariants.{Head, Exit, Timing, Stdin, Stdout, Stderr, Ttyin, Ttyout, Lines, Id, Commit, Slots}
use Rattle.lsv_bundle.specs.Body.{encoded, length_of}
use Rattle.lsv_bundle.specs.Committed.{HasEntry, HasPrefix, IsShort}
use Rattle.lsv_bundle.specs.Shape.{IsPart as IsPartOf}
use Rattle.lsv_bundle.specs.declared.body.Body.{Body}
use Rattle.lsv_bundle.specs.declared.shape.Shape.TheVariants as shapes
use Rattle.lsv_bundle.proofs.Laws.{one_body}
use Rattle.lsv_iolog.specs.Later.{IsLater}
use Rattle.lsv_iolog.specs.Reading.{AreThere, HasCuts}
use Rattle.lsv_iolog.specs.Recovered.{HasExit, HoldsLog, owner_of}
use Rattle.lsv_record.specs.Points.{Stored}
use Rattle.lsv_record.specs.Records.{stream_of, timing_of}
use Rattle.lsv_record.specs.declared.laid.Laid.{Laid}
use Rattle.lsv_record.specs.declared.records.Record.{Record}
use Rattle.lsv_record.specs.declared.records.Stream.{Stream}
use Rattle.lsv_record.specs.declared.records.Stream.TheVariants as streams
use Rattle.lsv_record.proofs.Layouts.{stream_of-append, timing_of-append}
use Rattle.lsv_play.specs.Beside.{IsLookedAt, IsStep, IsWritten}
use Rattle.lsv_play.specs.Items.{IsPart}
use Rattle.lsv_play.specs.Playing.{Plays, text_at}
use Rattle.lsv_play.specs.Schedule.{play}
use Rattle.lsv_play.specs.declared.fault.PlayFault.{PlayFault}
use Rattle.lsv_play.specs.declared.options.Options.{Options}
use Rattle.lsv_play.specs.declared.screen.Item.{Item}
use Rattle.lsv_play.proofs.Stored.{play_part, stored_part}
use Rattle.lsv_play.proofs.Undamaged.{not_short}

-- ---- steps

later_on : (a b c : Stored) → IsLater a b → IsLater b c → IsLater a c
later_on a b c (inl cut) (inl more) = inl (omega (arith, cut, more))
later_on a b c (inl cut) (inr same) = let k = same.0 in inl (omega (arith, cut, k))
later_on a b c (inr same) (inl cut) = let k = same.0 in inl (omega (arith, cut, k))
later_on a b c (inr first) (inr second) = inr (
  second.0 ∙ first.0,
  (first.1.0 ++ second.1.0, second.1.1 ∙ ap (λ (rs : List Record). rs ++ second.1.0) first.1.1 ∙ append_assoc a.records first.1.0 second.1.0),
)

step_none : (a : Stored) → IsStep a a
step_none a = record { later = inr (refl, ([], sym (append-nil a.records))); head = refl; complete = λ some. refl }

step_on : (a b c : Stored) → IsStep a b → IsStep b c → IsStep a c
step_on a b c one two = record {
  later = later_on a b c one.later two.later;
  head = two.head ∙ one.head;
  complete = λ some. let same : b ≡ a = one.complete some in two.complete (subst (λ (x : Stored). x.exit ≢ None) (sym same) some) ∙ same;
}

never_fewer : (a b : Stored) → IsLater a b → a.cuts ≤ b.cuts
never_fewer a b (inl cut) = omega (arith, cut)
never_fewer a b (inr same) = let k = same.0 in omega (arith, k)

-- as many cuts: the records before are the first
more_of : (a b : Stored) → IsLater a b → b.cuts ≡ a.cuts → (more : List Record) × (b.records ≡ a.records ++ more)
more_of a b (inl cut) same = absurd (let no_ : ⊥ = omega (arith, cut, same) in no_)
more_of a b (inr is) same = is.1

module _ (n : ℕ) (images : ℕ → Image) (logs : ℕ → Stored) (written : IsWritten n images logs) where
  steps : (i d : ℕ) → IsStep (logs i) (logs (i + d))
  steps i zero = subst (λ (k : ℕ). IsStep (logs i) (logs k)) (let e : i ≡ i + 0 = omega arith in e) (step_none (logs i))
  steps i (suc d) = subst (λ (k : ℕ). IsStep (logs i) (logs k)) (let e : suc (i + d) ≡ i + suc d = omega arith in e) (step_on (logs i) (logs (i + d)) (logs (suc (i + d))) (steps i d) (written.step (i + d)))

  between : (i j : ℕ) → i ≤ j → IsStep (logs i) (logs j)
  between i j order = subst (λ (k : ℕ). IsStep (logs i) (logs k)) (let e : i + (j - i) ≡ j = omega (arith, order) in e) (steps i (j - i))

-- ---- what one moment holds

some_one : (o : Option (List ℕ)) (a b : List ℕ) → o ≡ Some a → o ≡ Some b → a ≡ b
some_one o a b one two = cc

entry_is : (n : ℕ) (body : Body) (image : Image) (log : Stored) → HasEntry (owner_of n) body image → (is : HoldsLog n log image) → is.entry.body ≡ body
entry_is n body image log entry is = one_body is.entry.body body is.holds.is_body entry.is_body (some_one _ (encoded is.entry.body) (encoded body) is.holds.last entry.last)

counts_are : (n cuts : ℕ) (image : Image) (log : Stored) → HasCuts n cuts image → HoldsLog n log image → log.cuts ≡ cuts
counts_are n cuts image log (body, entry, is) holds = sym holds.is.cuts ∙ ap (λ (b : Body). b.extra) (entry_is n body image log entry holds) ∙ sym is

-- ---- what two moments hold

abbrev Goes : List ℕ → List ℕ → Type 0
Goes a b = (rest : List ℕ) × (b ≡ a ++ rest)

goes_exit : (kind kind' : ℕ) (x y : List ℕ) (before after : Option (List ℕ)) → HasExit kind x before → HasExit kind' y after → (before ≢ None → after ≡ before) → Goes x y
goes_exit kind kind' x y None after one two same = (y, ap (λ (xs : List ℕ). xs ++ y) (sym one.1))
goes_exit kind kind' x y (Some text) after one two same =
    let is : after ≡ Some text = same (λ e. some_none text e) in
    let now : HasExit kind' y (Some text) = subst (HasExit kind' y) is two in
    ([], now.1 ∙ sym one.1 ∙ sym (append-nil x))
  where
    some_none : (xs : List ℕ) → Some xs ≡ None → ⊥
    some_none xs e = cc

module _ (n : ℕ) (was now : Image) (before after : Stored) (held : HoldsLog n before was) (holds : HoldsLog n after now) (head : after.head ≡ before.head) (exit : before.exit ≢ None → after.exit ≡ before.exit)
    (more : List Record) (is : after.records ≡ before.records ++ more) where
  goes_laid : (s : Stream) (x y : List ℕ) → x ≡ stream_of s before.records → y ≡ stream_of s after.records → Goes x y
  goes_laid s x y one two = (stream_of s more, two ∙ ap (stream_of s) is ∙ stream_of-append s before.records more ∙ ap (λ (xs : List ℕ). xs ++ stream_of s more) (sym one))

  -- each part of the log is the first of what it is later
  goes : (part : Part) → IsPartOf shapes.Log part → Goes (held.entry.bytes part) (holds.entry.bytes part)
  goes Head own = ([], holds.is.head ∙ head ∙ sym held.is.head ∙ sym (append-nil (held.entry.bytes Head)))
  goes Exit own = goes_exit held.entry.body.kind holds.entry.body.kind (held.entry.bytes Exit) (holds.entry.bytes Exit) before.exit after.exit held.is.exit holds.is.exit exit
  goes Timing own = (
    timing_of more,
    ap (λ (l : Laid). l.timing) holds.is.layout ∙ ap timing_of is ∙ timing_of-append before.records more ∙ ap (λ (xs : List ℕ). xs ++ timing_of more) (sym (ap (λ (l : Laid). l.timing) held.is.layout)),
  )
  goes Stdin own = goes_laid streams.Stdin _ _ (ap (λ (l : Laid). l.stdin) held.is.layout) (ap (λ (l : Laid). l.stdin) holds.is.layout)
  goes Stdout own = goes_laid streams.Stdout _ _ (ap (λ (l : Laid). l.stdout) held.is.layout) (ap (λ (l : Laid). l.stdout) holds.is.layout)
  goes Stderr own = goes_laid streams.Stderr _ _ (ap (λ (l : Laid). l.stderr) held.is.layout) (ap (λ (l : Laid). l.stderr) holds.is.layout)
  goes Ttyin own = goes_laid streams.Ttyin _ _ (ap (λ (l : Laid). l.ttyin) held.is.layout) (ap (λ (l : Laid). l.ttyin) holds.is.layout)
  goes Ttyout own = goes_laid streams.Ttyout _ _ (ap (λ (l : Laid). l.ttyout) held.is.layout) (ap (λ (l : Laid). l.ttyout) holds.is.layout)
  goes Lines own = absurd own
  goes Id own = absurd own
  goes Commit own = absurd own
  goes Slots own = absurd own

-- a file that begins with more bytes
shorter : (xs ys : List ℕ) (file : Option (List ℕ)) → Goes xs ys → HasPrefix ys file → HasPrefix xs file
shorter xs ys None more is = is
shorter xs ys (Some bytes) more is = (more.0 ++ is.0, is.1 ∙ ap (λ (zs : List ℕ). zs ++ is.0) more.1 ∙ append_assoc xs more.0 is.0)

-- the first bytes of a file that begins with as many
taken : (xs : List ℕ) (file : Option (List ℕ)) (k : ℕ) → length xs ≡ k → HasPrefix xs file → take k (bytes_of file) ≡ xs
taken xs None k long is = absurd is
taken xs (Some bytes) k long is = ap (take k) is.1 ∙ take_at xs is.0 k long

-- ---- the law

module _ (n : ℕ) (images : ℕ → Image) (logs : ℕ → Stored) (body : Body) (opened looked : ℕ) (written : IsWritten n images logs) (is : IsLookedAt n images body opened looked) where
  held : HoldsLog n (logs opened) (images opened)
  held = written.holds opened

  same_entry : held.entry.body ≡ body
  same_entry = entry_is n body (images opened) (logs opened) is.entry held

  cuts_first : (logs opened).cuts ≡ body.extra
  cuts_first = sym held.is.cuts ∙ ap (λ (b : Body). b.extra) same_entry

  cuts_last : (logs looked).cuts ≡ body.extra
  cuts_last = counts_are n body.extra (images looked) (logs looked) is.cuts (written.holds looked)

  module _ (moment : ℕ) (after : opened ≤ moment) (before : moment ≤ looked) where
    first_step : IsStep (logs opened) (logs moment)
    first_step = between n images logs written opened moment after

    same_cuts : (logs moment).cuts ≡ (logs opened).cuts
    same_cuts =
        let up = never_fewer (logs opened) (logs moment) first_step.later in
        let on = never_fewer (logs moment) (logs looked) (between n images logs written moment looked before).later in
        let a = cuts_first in
        let b = cuts_last in
        omega (arith, up, on, a, b)

    more_there : (more : List Record) × ((logs moment).records ≡ (logs opened).records ++ more)
    more_there = more_of (logs opened) (logs moment) first_step.later same_cuts

    there_still : (part : Part) → IsPartOf shapes.Log part → HasPrefix (held.entry.bytes part) (images moment (file_of (owner_of n) part))
    there_still part own =
        let holds : HoldsLog n (logs moment) (images moment) = written.holds moment in
        shorter (held.entry.bytes part) (holds.entry.bytes part) (images moment (file_of (owner_of n) part))
        (goes n (images opened) (images moment) (logs opened) (logs moment) held holds first_step.head (λ some. ap (λ (x : Stored). x.exit) (first_step.complete some)) more_there.0 more_there.1 part own)
        (holds.holds.bytes part own)

    long : (part : Part) → IsPartOf shapes.Log part → length (held.entry.bytes part) ≡ length_of body part
    long part own = held.holds.lengths part own ∙ ap (λ (b : Body). length_of b part) same_entry

    text_is : (part : Part) → IsPartOf shapes.Log part → text_at n body (images moment) part ≡ held.entry.bytes part
    text_is part own = taken (held.entry.bytes part) (images moment (file_of (owner_of n) part)) (length_of body part) (long part own) (there_still part own)

    pub still_there : AreThere (owner_of n) body (images moment)
    still_there part own = not_short (images moment (file_of (owner_of n) part)) (held.entry.bytes part) (length_of body part) (there_still part own) (long part own)

  pub same_window : (moment : ℕ) → opened ≤ moment → moment ≤ looked → (part : Part) → IsPartOf shapes.Log part → text_at n body (images moment) part ≡ text_at n body (images opened) part
  same_window moment after before part own = text_is moment after before part own ∙ sym (text_is opened (omega arith) (is.order) part own)

  pub first_of : (more : List Record) × ((logs looked).records ≡ (logs opened).records ++ more)
  first_of = more_there looked is.order (omega arith)

  pub shown_first : (o : Options) (r : Result (Unit {0}) PlayFault) (put : List Item) → Plays o n (images opened) r put → IsPart put (play o (logs looked).records)
  shown_first o r put plays = play_part o put (logs opened).records first_of.0 (logs looked).records first_of.1 (stored_part o n (images opened) r put (logs opened) held plays)
