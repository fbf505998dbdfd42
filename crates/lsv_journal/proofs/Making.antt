-- What a making leaves of a file without an entry.
use Rattle.std.proofs.Common.{◌≡◌, ◌≢◌, ◌⊎◌, inl, inr, ℕ, ◌<◌, ◌≤◌, List, [], ◌∷◌, length, get_or, Option, Some, None, refl, sym, ◌∙◌, ap, subst, arith}
use Rattle.lsv_disk.specs.declared.file.FileId.{FileId}
use Rattle.lsv_disk.specs.Bytes.{overwritten, written, bytes_of, Reaches, Torn, TornBytes}
use Rattle.lsv_disk.specs.View.{Image, DiskView, IsCrashImage, OneRead, OneMaking}
use Rattle.lsv_disk.specs.Throughout.{Throughout, Unchanged}
use Rattle.lsv_disk.proofs.Composition.{OnlyNow, one_making, followed, widened, one_read, unchanged_throughout}
use Rattle.lsv_journal.specs.Slots.{entry_of}
use Rattle.lsv_journal.specs.Represents.{Stands}
use Rattle.lsv_journal.specs.Reading.{IsEmptyOrAsBefore}
use Rattle.lsv_journal.proofs.Slots.{selected_either, selected_same, short_none, short_or_closed, empty_none}
use Rattle.lsv_journal.proofs.Overwriting.{over_reaches, over_byte, byte_after, torn_bytes, written_bytes}
use Rattle.lsv_journal.proofs.Appending.{reads_of_run}

-- the gate byte is missing or open
abbrev pub Lacks : List ℕ → Type 0
Lacks bytes = (length bytes ≡ 0) ⊎ (get_or bytes 0 0 ≡ 1)

-- then a write of it leaves no entry
pub torn_none : (n : ℕ) (old new : List ℕ) → Lacks old → entry_of n old ≡ None → TornBytes 0 1 old new → entry_of n new ≡ None
torn_none n old new (inl empty) none torn = empty_none n new (omega (arith, empty, torn.no_longer))
torn_none n old new (inr open_gate) none torn =
    let same = selected_same n old new (byte_after 0 1 old new torn 1 (omega arith)) in
    let short = short_or_closed n old none open_gate in
    elim (selected_either n old) [
      | inl first ↦ short_none n new (omega (arith, same, short, first, torn.no_longer))
      | inr second ↦ short_none n new (omega (arith, same, short, second, torn.no_longer))
    ]

pub there_reaches : (file : Option (List ℕ)) → file ≢ None → Reaches file 0
there_reaches (Some bytes) there = omega arith
there_reaches None there = absurd (there refl)

pub made_reaches : (file : Option (List ℕ)) → file ≡ Some [] → Reaches file 0
made_reaches file made = subst (λ (c : Option (List ℕ)). Reaches c 0) (sym made) (omega arith)

-- a good write of the closed gate
pub stands_written : (n : ℕ) (old new : Option (List ℕ)) → Reaches old 0 → new ≡ written 0 (0 ∷ []) old → Stands n (bytes_of new) None
stands_written n old new reaches is = subst (λ (b : List ℕ). Stands n b None) (sym (written_bytes 0 (0 ∷ []) old new reaches is)) (there, closed) where
  there : 0 < length (overwritten 0 (0 ∷ []) (bytes_of old))
  there = omega (arith, over_reaches 0 (0 ∷ []) (bytes_of old) (omega arith))

  closed : get_or (overwritten 0 (0 ∷ []) (bytes_of old)) 0 0 ≢ 1
  closed is_one = let no : ⊥ = omega (arith, is_one, over_byte 0 0 [] (bytes_of old) (omega arith)) in no

pub stands_already : (n : ℕ) (bytes : List ℕ) → (Lacks bytes → ⊥) → Stands n bytes None
stands_already n bytes full = (positive (length bytes) (λ e. full (inl e)), λ e. full (inr e)) where
  positive : (k : ℕ) → k ≢ 0 → 0 < k
  positive k some = omega (arith, some)

-- a file that is absent or empty
pub short_file : (n : ℕ) (file : Option (List ℕ)) → (file ≡ None) ⊎ (file ≡ Some []) → entry_of n (bytes_of file) ≡ None
short_file n file either = empty_none n (bytes_of file) (elim either [
  | inl is ↦ subst (λ (d : Option (List ℕ)). length (bytes_of d) ≤ 1) (sym is) (omega arith)
  | inr is ↦ subst (λ (d : Option (List ℕ)). length (bytes_of d) ≤ 1) (sym is) (omega arith)
])

pub empty_lacks : (file : Option (List ℕ)) → file ≡ Some [] → Lacks (bytes_of file)
empty_lacks file is = inl (ap (λ (c : Option (List ℕ)). length (bytes_of c)) is)

module _ (n : ℕ) (f : FileId) where
  abbrev May : DiskView → Image → Type 0
  May old image = IsEmptyOrAsBefore n f old image

  -- calls that change no file
  pub unchanged_run : (old new : DiskView) → Unchanged old new → Throughout (λ g. g ≡ f) (May old) old new
  unchanged_run old new unchanged = unchanged_throughout (λ g. g ≡ f) (May old) old new (λ image is. inl (is f)) unchanged

  -- and what follows them
  pub after_unchanged : (old mid new : DiskView) → Unchanged old mid → Throughout (λ g. g ≡ f) (May mid) mid new → Throughout (λ g. g ≡ f) (May old) old new
  after_unchanged old mid new unchanged run = followed (λ g. g ≡ f) (May old) old mid new (unchanged_run old mid unchanged)
      (widened (λ g. g ≡ f) (λ g. g ≡ f) (May mid) (May old) mid new (λ g own. own)
      (λ image may _. elim may [ inl left ↦ inl (unchanged.elsewhere.crash f (λ none. none) (image f) left) | inr none ↦ inr none ]) run)

  -- the closing of the gate
  module _ (old new : DiskView) (lacks : Lacks (bytes_of (old.reads f))) (none : entry_of n (bytes_of (old.reads f)) ≡ None) (run : Throughout (λ g. g ≡ f) (λ image. Torn 0 1 (old.reads f) (image f)) old new) where
    pub closing_run : Throughout (λ g. g ≡ f) (May old) old new
    closing_run = widened (λ g. g ≡ f) (λ g. g ≡ f) (λ image. Torn 0 1 (old.reads f) (image f)) (May old) old new (λ g own. own)
        (λ image torn _. inr (torn_none n (bytes_of (old.reads f)) (bytes_of (image f)) lacks none (torn_bytes 0 1 (old.reads f) (image f) torn))) run

    pub closing_none : IsCrashImage new new.reads → ((image : Image) → IsCrashImage new image → new.crash_images_at new.moment image) → entry_of n (bytes_of (new.reads f)) ≡ None
    closing_none itself now = torn_none n (bytes_of (old.reads f)) (bytes_of (new.reads f)) lacks none
        (torn_bytes 0 1 (old.reads f) (new.reads f) (reads_of_run (λ g. g ≡ f) (λ image. Torn 0 1 (old.reads f) (image f)) old new itself now run))

  -- the making of an absent file
  pub create_run : (old new : DiskView) → OnlyNow old → OnlyNow new → ((c : Option (List ℕ)) → new.crash_states f c → old.crash_states f c ⊎ (c ≡ Some [])) → OneMaking f old new → Throughout (λ g. g ≡ f) (May old) old new
  create_run old new only_old only_new crash write = one_making f (May old) old new write only_old only_new (λ image is. inl (is f))
      (λ image is. elim (crash (image f) (is f)) [ inl was ↦ inl was | inr made ↦ inr (short_file n (image f) (inr made)) ])

  -- and the closing of its gate
  pub made_run : (old mid new : DiskView) → OnlyNow old → OnlyNow mid → ((c : Option (List ℕ)) → mid.crash_states f c → old.crash_states f c ⊎ (c ≡ Some [])) → OneMaking f old mid → mid.reads f ≡ Some []
      → Throughout (λ g. g ≡ f) (λ image. Torn 0 1 (mid.reads f) (image f)) mid new → Throughout (λ g. g ≡ f) (May old) old new
  made_run old mid new only_old only_mid crash write made run = followed (λ g. g ≡ f) (May old) old mid new (create_run old mid only_old only_mid crash write)
      (widened (λ g. g ≡ f) (λ g. g ≡ f) (May mid) (May old) mid new (λ g own. own)
      (λ image may _. elim may [ inl left ↦ as_before (image f) (crash (image f) left) | inr none ↦ inr none ])
      (closing_run mid new (empty_lacks (mid.reads f) made) (short_file n (mid.reads f) (inr made)) run)) where
        as_before : (c : Option (List ℕ)) → old.crash_states f c ⊎ (c ≡ Some []) → old.crash_states f c ⊎ (entry_of n (bytes_of c) ≡ None)
        as_before c (inl left) = inl left
        as_before c (inr empty) = inr (short_file n c (inr empty))

  -- a file that is read, and then closed where it lacks its gate
  module _ (old seen : DiskView) (only_old : OnlyNow old) (only_seen : OnlyNow seen) (read : OneRead old seen) where
    pub seen_unchanged : Unchanged old seen
    seen_unchanged = (one_read old seen read only_old only_seen).unchanged

    none_seen : entry_of n (bytes_of (old.reads f)) ≡ None → entry_of n (bytes_of (seen.reads f)) ≡ None
    none_seen none = ap (λ (c : Option (List ℕ)). entry_of n (bytes_of c)) (read.quiet.same f) ∙ none

    lacks_seen : Lacks (bytes_of (old.reads f)) → Lacks (bytes_of (seen.reads f))
    lacks_seen lacks = subst (λ (c : Option (List ℕ)). Lacks (bytes_of c)) (sym (read.quiet.same f)) lacks

    pub again_run : (new : DiskView) → Lacks (bytes_of (old.reads f)) → entry_of n (bytes_of (old.reads f)) ≡ None → Throughout (λ g. g ≡ f) (λ image. Torn 0 1 (seen.reads f) (image f)) seen new → Throughout (λ g. g ≡ f) (May old) old new
    again_run new lacks none run = after_unchanged old seen new seen_unchanged (closing_run seen new (lacks_seen lacks) (none_seen none) run)

    pub again_none : (new : DiskView) → Lacks (bytes_of (old.reads f)) → entry_of n (bytes_of (old.reads f)) ≡ None → Throughout (λ g. g ≡ f) (λ image. Torn 0 1 (seen.reads f) (image f)) seen new
        → IsCrashImage new new.reads → ((image : Image) → IsCrashImage new image → new.crash_images_at new.moment image) → entry_of n (bytes_of (new.reads f)) ≡ None
    again_none new lacks none run = closing_none seen new (lacks_seen lacks) (none_seen none) run
