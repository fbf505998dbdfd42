-- The bytes that are written to a link.
use Rattle.std.proofs.Common.{◌≡◌, ◌≢◌, ℕ, ◌≤◌, List, [], ◌∷◌, ◌++◌, length, take, drop, refl, sym, ap, subst, ◌∙◌, append_assoc}
use Rattle.std.proofs.lemmas.List.{append-nil, take-append-drop}
use Rattle.std.proofs.Math.Seq.{drop-nil}
use Rattle.lsv_defs.specs.Pieces.{IsPrefix}
use Rattle.lsv_port.specs.Port.{Changes, LinkState, PortState, after_write}
use Rattle.lsv_port.specs.declared.port.Gave.TheVariants as gave
use Rattle.lsv_worker.specs.Outgoing.{PutOf, SameInput, Sends, Writes}
use Rattle.lsv_worker.specs.declared.outgoing.Outgoing.{Outgoing}
use Rattle.lsv_worker.specs.declared.outgoing.Sending.{Sending}
use Rattle.lsv_worker.specs.declared.outgoing.Sending.TheVariants.{Open, Failed, OutOfMemory, Over}
use Rattle.lsv_worker.proofs.Ports.{alone_change, alone_here, alone_then, input_here}

muted : (why : Sending) (output answers : List ℕ) → why ≢ Open → IsPrefix output answers → PutOf why [] output answers
muted Open output answers ne h = absurd (ne refl)
muted Failed output answers ne h = (refl, h)
muted OutOfMemory output answers ne h = (refl, h)
muted Over output answers ne h = (refl, h)

prefix_of : (sending : Sending) (unsent output answers : List ℕ) → PutOf sending unsent output answers → IsPrefix output answers
prefix_of Open unsent output answers h = (unsent, sym h)
prefix_of Failed unsent output answers h = h.1
prefix_of OutOfMemory unsent output answers h = h.1
prefix_of Over unsent output answers h = h.1

-- what is written is a prefix of the answers
pub speaks_prefix : (link : Outgoing) (output answers : List ℕ) → Sends link output answers → IsPrefix output answers
speaks_prefix link output answers h = prefix_of link.sending link.unsent output answers h

pub silenced : (old : Outgoing) (why : Sending) (output answers : List ℕ) → why ≢ Open → Sends old output answers → PutOf why [] output answers
silenced old why output answers ne h = muted why output answers ne (speaks_prefix old output answers h)

more_prefix : (output answers more : List ℕ) → IsPrefix output answers → IsPrefix output (answers ++ more)
more_prefix output answers more h = (h.0 ++ more, ap (λ (l : List ℕ). l ++ more) h.1 ∙ append_assoc output h.0 more)

pub muted_more : (sending : Sending) (unsent output answers more : List ℕ) → sending ≢ Open → PutOf sending unsent output answers → PutOf sending unsent output (answers ++ more)
muted_more Open unsent output answers more ne h = absurd (ne refl)
muted_more Failed unsent output answers more ne h = (h.0, more_prefix output answers more h.1)
muted_more OutOfMemory unsent output answers more ne h = (h.0, more_prefix output answers more h.1)
muted_more Over unsent output answers more ne h = (h.0, more_prefix output answers more h.1)

-- a message becomes unsent bytes
pub spoken : (old : Outgoing) (unsent output answers more : List ℕ) → old.sending ≡ Open → unsent ≡ old.unsent ++ more → Sends old output answers → PutOf old.sending unsent output (answers ++ more)
spoken old unsent output answers more speaks is h =
    let was : output ++ old.unsent ≡ answers = subst (λ (v : Sending). PutOf v old.unsent output answers) speaks h in
    subst (λ (v : Sending). PutOf v unsent output (answers ++ more)) (sym speaks) (ap (λ (l : List ℕ). output ++ l) is ∙ sym (append_assoc output old.unsent more) ∙ ap (λ (l : List ℕ). l ++ more) was)

-- ---- writing

pub writes_none : (l : ℕ) (old : Outgoing) (s : PortState) → Writes l old old s s
writes_none l old s = record { alone = alone_here l s; input = input_here (s.link l); goes = λ answers h. h }

abbrev nothing : List ℕ
nothing = []

none_left : (xs ys : List ℕ) → xs ++ ys ≡ [] → xs ≡ []
none_left [] ys e = refl
none_left (x ∷ xs) ys e = absurd cc

none_taken : (n : ℕ) → take n nothing ≡ []
none_taken n = none_left (take n nothing) (drop n nothing) (take-append-drop n nothing)

sent_none : (unsent output answers : List ℕ) (count : ℕ) → (unsent ≡ []) × IsPrefix output answers → (drop count unsent ≡ []) × IsPrefix (output ++ take count unsent) answers
sent_none unsent output answers count h =
    (ap (drop count) h.0 ∙ drop-nil count, subst (λ (o : List ℕ). IsPrefix o answers) (sym (ap (λ (l : List ℕ). output ++ take count l) h.0 ∙ ap (λ (l : List ℕ). output ++ l) (none_taken count) ∙ append-nil output)) h.1)

sent_at : (sending : Sending) (unsent output answers : List ℕ) (count : ℕ) → count ≤ length unsent → PutOf sending unsent output answers → PutOf sending (drop count unsent) (output ++ take count unsent) answers
sent_at Open unsent output answers count le h = append_assoc output (take count unsent) (drop count unsent) ∙ ap (λ (l : List ℕ). output ++ l) (take-append-drop count unsent) ∙ h
sent_at Failed unsent output answers count le h = sent_none unsent output answers count h
sent_at OutOfMemory unsent output answers count le h = sent_none unsent output answers count h
sent_at Over unsent output answers count le h = sent_none unsent output answers count h

-- some bytes were sent
pub writes_more : (l count : ℕ) (old mid new : Outgoing) (s t u : PortState) → Writes l old mid s t → Changes l (after_write (gave.Bytes count) mid.unsent (t.link l)) t u → count ≤ length mid.unsent
    → new.unsent ≡ drop count mid.unsent → new.sending ≡ mid.sending → Writes l old new s u
writes_more l count old mid new s t u w change le unsent sending = record {
  alone = alone_then l s t u w.alone (alone_change l (after_write (gave.Bytes count) mid.unsent (t.link l)) t u refl change);
  input = subst (SameInput (s.link l)) (sym change.this) (record { is_open = w.input.is_open; input = w.input.input; ended = w.input.ended; owed = w.input.owed; reads = w.input.reads });
  goes = λ answers h.
      let was : Sends mid (t.link l).output answers = w.goes answers h in
      let now : PutOf mid.sending (drop count mid.unsent) ((t.link l).output ++ take count mid.unsent) answers = sent_at mid.sending mid.unsent (t.link l).output answers count le was in
      subst (λ (x : LinkState). Sends new x.output answers) (sym change.this)
      (subst (λ (v : Sending). PutOf v new.unsent ((t.link l).output ++ take count mid.unsent) answers) (sym sending)
      (subst (λ (n : List ℕ). PutOf mid.sending n ((t.link l).output ++ take count mid.unsent) answers) (sym unsent) now));
}

-- no byte was sent
pub writes_full : (l : ℕ) (old mid : Outgoing) (s t u : PortState) (bytes : List ℕ) → Writes l old mid s t → Changes l (after_write gave.NotYet bytes (t.link l)) t u → Writes l old mid s u
writes_full l old mid s t u bytes w change = record {
  alone = alone_then l s t u w.alone (alone_change l (after_write gave.NotYet bytes (t.link l)) t u refl change);
  input = subst (SameInput (s.link l)) (sym change.this) (record { is_open = w.input.is_open; input = w.input.input; ended = w.input.ended; owed = w.input.owed; reads = w.input.reads });
  goes = λ answers h. subst (λ (x : LinkState). Sends mid x.output answers) (sym change.this) (w.goes answers h);
}

pub writes_failed : (l : ℕ) (old mid new : Outgoing) (s t u : PortState) (bytes : List ℕ) → Writes l old mid s t → Changes l (after_write gave.Failed bytes (t.link l)) t u
    → ((output answers : List ℕ) → Sends mid output answers → Sends new output answers) → Writes l old new s u
writes_failed l old mid new s t u bytes w change stop_sending = record {
  alone = alone_then l s t u w.alone (alone_change l (after_write gave.Failed bytes (t.link l)) t u refl change);
  input = subst (SameInput (s.link l)) (sym change.this) (record { is_open = w.input.is_open; input = w.input.input; ended = w.input.ended; owed = w.input.owed; reads = w.input.reads });
  goes = λ answers h. subst (λ (x : LinkState). Sends new x.output answers) (sym change.this) (stop_sending (t.link l).output answers (w.goes answers h));
}

-- the server's hello is the first message to a link
pub first_words : (old new : Outgoing) (words : List ℕ) → old.unsent ≡ [] → old.sending ≡ Open → ((output answers : List ℕ) → Sends old output answers → Sends new output (answers ++ words)) → Sends new [] words
first_words old new words empty speaks goes = goes [] [] (subst (λ (v : Sending). PutOf v old.unsent [] []) (sym speaks) empty)
