-- What each value of numbers has, kept from call to call.
use Rattle.std.proofs.Common.{◌≡◌, ℕ, ◌≤◌, true, false, Option, Some, None, Result, Err, List, refl, sym, ap, subst, ◌∙◌, inl, inr, arith}
use Rattle.std.specs.Prelude.{◌≢◌, ◌⊎◌, IfErr}
use Rattle.std.specs.Option.{option_map}
use Rattle.lsv_journal.specs.Value as journals
use Rattle.lsv_journal.specs.declared.journal.Journal.{Journal}
use Rattle.lsv_seq.specs.declared.entry.Entry.{Entry}
use Rattle.lsv_seq.specs.declared.fault.DrawFault.{DrawFault}
use Rattle.lsv_seq.specs.declared.fault.DrawFault.TheVariants.{Changed}
use Rattle.lsv_seq.specs.declared.numbers.Numbers.{Numbers}
use Rattle.lsv_seq.specs.Entry.{entry_in, body_of, is_entry, most, next}
use Rattle.lsv_seq.specs.Drawn.{numbers_file}
use Rattle.lsv_seq.specs.Sound.{IsSound}
use Rattle.lsv_seq.specs.Inner.{IsAnother}
use Rattle.lsv_seq.specs.Value.{lane_of, pending_of, IsChanged}
use Rattle.lsv_seq.proofs.Entries.{entry_fits, entry_in_body_of, next_is_entry}

-- where no draw failed
pub whole_sound : (journal : Journal 12) (kept : Entry) → journals.file journal ≡ numbers_file kept.lane → is_entry kept ≡ true → option_map entry_in (journals.last journal) ≡ Some kept
    → journals.is_broken journal ≡ false → IsSound journal kept None
whole_sound journal kept file entry last whole = record {
  file_is = file;
  entry = entry;
  last_is = last;
  whole = λ _. whole;
  pending_is = λ p is. absurd (cc is);
}

-- the entry that a failed draw was writing
pub pending_entry : (old : Numbers) (p : ℕ) → pending_of old ≡ Some p → is_entry (record old.kept { last = p }) ≡ true
pending_entry old p is =
    let named = old.sound.pending_is p is in
    subst (λ n. is_entry (record old.kept { last = n }) ≡ true) (sym named.0) (next_is_entry old.kept old.sound.entry (subst (λ n. n ≤ most) named.0 named.1))

pub resumed_sound : (old : Numbers) (journal : Journal 12) (entry : Entry) (p : ℕ) → pending_of old ≡ Some p → journals.file journal ≡ numbers_file (lane_of old) → journals.is_broken journal ≡ false
    → option_map entry_in (journals.last journal) ≡ Some entry → (entry ≡ old.kept) ⊎ (entry ≡ record old.kept { last = p }) → IsSound journal entry None
resumed_sound old journal entry p is file whole last (inl e) =
    subst (λ k. IsSound journal k None) (sym e) (whole_sound journal old.kept file old.sound.entry (last ∙ ap (λ k. Some k) e) whole)
resumed_sound old journal entry p is file whole last (inr e) =
    subst (λ k. IsSound journal k None) (sym e) (whole_sound journal (record old.kept { last = p }) file (pending_entry old p is) (last ∙ ap (λ k. Some k) e) whole)

-- the bytes of an entry are read back
pub read_back : (e : Entry) → is_entry e ≡ true → entry_in (body_of e) ≡ e
read_back e is = let fits = entry_fits e is in entry_in_body_of e fits.0 (let l = fits.1 in let m = fits.2 in omega arith) (let m = fits.2 in omega arith)

-- a number was written
pub written_sound : (old : Numbers) (journal : Journal 12) (n : ℕ) (after : Entry) → after ≡ record old.kept { last = n } → n ≡ next old.kept → n ≤ most → journals.file journal ≡ journals.file old.journal
    → journals.is_broken journal ≡ false → journals.last journal ≡ Some (body_of after) → IsSound journal after None
written_sound old journal n after is named small file whole last =
    let entry : is_entry after ≡ true =
    ap is_entry (is ∙ ap (λ m. record old.kept { last = m }) named) ∙ next_is_entry old.kept old.sound.entry (subst (λ m. m ≤ most) named small) in
    whole_sound journal after (file ∙ old.sound.file_is ∙ ap (λ (e : Entry). numbers_file e.lane) (sym is)) entry
    (ap (option_map entry_in) last ∙ ap (λ e. Some e) (read_back after entry)) whole

-- a number wasn't written
pub failed_sound : (old : Numbers) (journal : Journal 12) (n : ℕ) → n ≡ next old.kept → n ≤ most → journals.file journal ≡ journals.file old.journal → journals.last journal ≡ journals.last old.journal
    → IsSound journal old.kept (Some n)
failed_sound old journal n named small file last = record {
  file_is = file ∙ old.sound.file_is;
  entry = old.sound.entry;
  last_is = ap (option_map entry_in) last ∙ old.sound.last_is;
  whole = λ none. absurd (cc none);
  pending_is = λ p is. let e : n ≡ p = cc is in (sym e ∙ named, subst (λ m. m ≤ most) e small);
}

-- bytes that are neither those of the one entry nor of the other
pub is_changed : (old : Numbers) (now : Option (List ℕ)) → pending_of old ≢ None → IsAnother old now → IsChanged old (body_of old.kept) now
is_changed old now failed another = record {
  failed = failed;
  kept_is = refl;
  another = λ e. another.another (ap (option_map entry_in) e ∙ ap (λ k. Some k) (read_back old.kept old.sound.entry));
  nor_pending = λ p is e. another.nor_pending p is (ap (option_map entry_in) e ∙ ap (λ k. Some k) (read_back (record old.kept { last = p }) (pending_entry old p is)));
}

-- a call that answers Changed of another entry than both
abbrev pub AnswersChanged : Numbers → Option (List ℕ) → Result (Unit {0}) DrawFault → Type 0
AnswersChanged old found result = IfErr result (λ e. (e ≡ Changed (body_of old.kept) found) × IsAnother old found)

pub changed_from : (old : Numbers) (found : Option (List ℕ)) (result : Result (Unit {0}) DrawFault) → pending_of old ≢ None → AnswersChanged old found result → (kept : List ℕ) (now : Option (List ℕ)) → result ≡ Err (Changed kept now) → IsChanged old kept now
changed_from old found result failed changed kept now is =
    let h : (Changed kept now ≡ Changed (body_of old.kept) found) × IsAnother old found = subst (AnswersChanged old found) is changed in
    let k : kept ≡ body_of old.kept = cc h.0 in
    let n : now ≡ found = cc h.0 in
    subst (λ x. IsChanged old x now) (sym k) (subst (λ x. IsChanged old (body_of old.kept) x) (sym n) (is_changed old found failed h.1))

pub another_from : (old : Numbers) (found : Option (List ℕ)) (result : Result (Unit {0}) DrawFault) → AnswersChanged old found result → (e : DrawFault) → result ≡ Err e → IsAnother old found
another_from old found result changed e is = (subst (AnswersChanged old found) is changed).1
