-- A mask that takes in one record more.
use Rattle.std.proofs.Common.{◌≡◌, ℕ, List, [], ◌∷◌, ◌++◌, Bool, refl, sym, ap, ◌∙◌, append-nil}
use Rattle.std.specs.Prelude.{◌&&◌, not, if◌then◌else◌}
use Rattle.lsv_record.specs.declared.records.Record.{Record}
use Rattle.lsv_record.specs.declared.records.Record.TheVariants.{Io, Winsize, Suspend}
use Rattle.lsv_record.specs.declared.records.Stream.{Stream}
use Rattle.lsv_record.specs.declared.records.Stream.TheVariants.{Stdin, Stdout, Stderr, Ttyin, Ttyout}
use Rattle.lsv_record.specs.Records.{data_in, stream_of}
use Rattle.lsv_mask.specs.Inner.{tail_with}
use Rattle.lsv_mask.specs.Masking.{Seen, seen, prompted, tail, last_bytes, last_line, ends_line, starred, hot, hot_with, covered}
use Rattle.lsv_mask.proofs.Covers.{Same, same_next, hot_more, output_push}
use Rattle.lsv_mask.proofs.Tails.{tail_next}

abbrev made : List (List ℕ) → List ℕ → Bool → Seen
made texts tail is_hot = record { texts = texts; tail = tail; is_hot = is_hot }

made_same : (texts : List (List ℕ)) (a b : List ℕ) (g h : Bool) → a ≡ b → g ≡ h → made texts a g ≡ made texts b h
made_same texts a b g h e f = cc

tail_more : (rs : List Record) (r : Record) → tail (rs ++ r ∷ []) ≡ last_bytes 256 (last_line (stream_of Ttyout rs ++ data_in Ttyout r))
tail_more rs r = ap (λ (t : List ℕ). last_bytes 256 (last_line t)) (output_push rs r)

-- a record without output leaves the tail
tail_stays : (rs : List Record) (r : Record) → data_in Ttyout r ≡ [] → tail (rs ++ r ∷ []) ≡ tail rs
tail_stays rs r none = tail_more rs r ∙ ap (λ (t : List ℕ). last_bytes 256 (last_line t)) (ap (λ (d : List ℕ). stream_of Ttyout rs ++ d) none ∙ append-nil (stream_of Ttyout rs))

-- A record that is neither typed nor output.
pub record IsOther (r : Record) : Type 0 where
  pub no_output : data_in Ttyout r ≡ []
  pub no_heat : (texts : List (List ℕ)) (before : List Record) (was : Bool) → hot_with texts before was r ≡ was
  pub as_it_is : (texts : List (List ℕ)) (before : List Record) → covered texts before r ≡ r

pub stdin_is_other : (d : ℕ) (b : List ℕ) → IsOther (Io d Stdin b)
stdin_is_other d b = record { no_output = refl; no_heat = λ texts before was. refl; as_it_is = λ texts before. refl }

pub stdout_is_other : (d : ℕ) (b : List ℕ) → IsOther (Io d Stdout b)
stdout_is_other d b = record { no_output = refl; no_heat = λ texts before was. refl; as_it_is = λ texts before. refl }

pub stderr_is_other : (d : ℕ) (b : List ℕ) → IsOther (Io d Stderr b)
stderr_is_other d b = record { no_output = refl; no_heat = λ texts before was. refl; as_it_is = λ texts before. refl }

pub winsize_is_other : (d r c : ℕ) → IsOther (Winsize d r c)
winsize_is_other d r c = record { no_output = refl; no_heat = λ texts before was. refl; as_it_is = λ texts before. refl }

pub suspend_is_other : (d : ℕ) (s : List ℕ) → IsOther (Suspend d s)
suspend_is_other d s = record { no_output = refl; no_heat = λ texts before was. refl; as_it_is = λ texts before. refl }

pub other_seen : (texts : List (List ℕ)) (rs : List Record) (r : Record) → IsOther r → seen texts (rs ++ r ∷ []) ≡ seen texts rs
other_seen texts rs r other = made_same texts _ _ _ _ (tail_stays rs r other.no_output) (hot_more texts rs r ∙ other.no_heat texts rs (hot texts rs))

pub after_other : (old : Seen) (r : Record) → IsOther r → (texts : List (List ℕ)) (rs : List Record) → old ≡ seen texts rs → old ≡ seen texts (rs ++ r ∷ [])
after_other old r other texts rs e = e ∙ sym (other_seen texts rs r other)

typed_seen : (texts : List (List ℕ)) (rs : List Record) (d : ℕ) (typed : List ℕ) → seen texts (rs ++ Io d Ttyin typed ∷ []) ≡ made texts (tail rs) (hot texts rs && not (ends_line typed))
typed_seen texts rs d typed = made_same texts _ _ _ _ (tail_stays rs (Io d Ttyin typed) refl) (hot_more texts rs (Io d Ttyin typed))

pub after_typed : (old new : Seen) (d : ℕ) (typed : List ℕ) → new ≡ made old.texts old.tail (old.is_hot && not (ends_line typed)) → (texts : List (List ℕ)) (rs : List Record) → old ≡ seen texts rs → new ≡ seen texts (rs ++ Io d Ttyin typed ∷ [])
after_typed old new d typed is texts rs e =
    is ∙ (ap (λ (s : Seen). made s.texts s.tail (s.is_hot && not (ends_line typed))) e ∙ sym (typed_seen texts rs d typed))

output_seen : (texts : List (List ℕ)) (rs : List Record) (d byte : ℕ) (rest : List ℕ) → seen texts (rs ++ Io d Ttyout (byte ∷ rest) ∷ []) ≡ made texts (tail_with (tail rs) (byte ∷ rest)) (prompted texts (tail_with (tail rs) (byte ∷ rest)))
output_seen texts rs d byte rest =
    let more : tail (rs ++ Io d Ttyout (byte ∷ rest) ∷ []) ≡ tail_with (tail rs) (byte ∷ rest) = tail_more rs (Io d Ttyout (byte ∷ rest)) ∙ tail_next (stream_of Ttyout rs) (byte ∷ rest) in
    made_same texts _ _ _ _ more (hot_more texts rs (Io d Ttyout (byte ∷ rest)) ∙ ap (prompted texts) more)

none_seen : (texts : List (List ℕ)) (rs : List Record) (d : ℕ) → seen texts (rs ++ Io d Ttyout [] ∷ []) ≡ seen texts rs
none_seen texts rs d = made_same texts _ _ _ _ (tail_stays rs (Io d Ttyout []) refl) (hot_more texts rs (Io d Ttyout []))

pub after_output : (old new : Seen) (d : ℕ) (output : List ℕ) → (output ≡ [] → new ≡ old)
    → ((byte : ℕ) (rest : List ℕ) → output ≡ byte ∷ rest → new ≡ made old.texts (tail_with old.tail output) (prompted old.texts (tail_with old.tail output)))
    → (texts : List (List ℕ)) (rs : List Record) → old ≡ seen texts rs → new ≡ seen texts (rs ++ Io d Ttyout output ∷ [])
after_output old new d [] none some texts rs e = none refl ∙ (e ∙ sym (none_seen texts rs d))
after_output old new d (byte ∷ rest) none some texts rs e =
    some byte rest refl ∙ (ap (λ (s : Seen). made s.texts (tail_with s.tail (byte ∷ rest)) (prompted s.texts (tail_with s.tail (byte ∷ rest)))) e ∙ sym (output_seen texts rs d byte rest))

-- a covered record leaves what the record itself leaves
pub stored_seen : (texts : List (List ℕ)) (rs : List Record) (r : Record) → seen texts (rs ++ covered texts rs r ∷ []) ≡ seen texts (rs ++ r ∷ [])
stored_seen texts rs r =
    let same : Same texts (rs ++ covered texts rs r ∷ []) (rs ++ r ∷ []) = same_next texts rs rs r (record { output = refl; heat = refl }) in
    made_same texts _ _ _ _ (ap (λ (t : List ℕ). last_bytes 256 (last_line t)) same.output) same.heat

pub typed_covered : (old : Seen) (d : ℕ) (typed stars : List ℕ) → stars ≡ (if old.is_hot then starred typed else typed) → (texts : List (List ℕ)) (rs : List Record) → old ≡ seen texts rs → Io d Ttyin stars ≡ covered texts rs (Io d Ttyin typed)
typed_covered old d typed stars is texts rs e = ap (Io d Ttyin) (is ∙ ap (λ (s : Seen). if s.is_hot then starred typed else typed) e)

pub other_stream : (d : ℕ) (s : Stream) (b : List ℕ) → (s ≡ Ttyin → ⊥) → (s ≡ Ttyout → ⊥) → IsOther (Io d s b)
other_stream d Stdin b typed output = stdin_is_other d b
other_stream d Stdout b typed output = stdout_is_other d b
other_stream d Stderr b typed output = stderr_is_other d b
other_stream d Ttyin b typed output = absurd (typed refl)
other_stream d Ttyout b typed output = absurd (output refl)

pub other_record : (r : Record) → ((d : ℕ) (s : Stream) (b : List ℕ) → r ≡ Io d s b → ⊥) → IsOther r
other_record (Io d s b) none = absurd (none d s b refl)
other_record (Winsize d r c) none = winsize_is_other d r c
other_record (Suspend d s) none = suspend_is_other d s

-- the same of the record as it is stored
pub after_stored : (new : Seen) (texts : List (List ℕ)) (rs : List Record) (r q : Record) → new ≡ seen texts (rs ++ r ∷ []) → q ≡ covered texts rs r → new ≡ seen texts (rs ++ q ∷ [])
after_stored new texts rs r q is same = is ∙ (sym (stored_seen texts rs r) ∙ ap (λ (p : Record). seen texts (rs ++ p ∷ [])) (sym same))
