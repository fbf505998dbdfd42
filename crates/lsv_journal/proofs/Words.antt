-- What the bytes of a journal's files say in the words of its contract.
use Rattle.std.proofs.Common.{◌≡◌, ◌≢◌, ◌⊎◌, inl, inr, ℕ, ◌+◌, ◌≤◌, true, false, List, length, Option, Some, None, Result, Ok, Err, OnOk, IfOk, refl, sym, ◌∙◌, ap, subst, arith}
use Rattle.std.specs.Option.{option_or, is_some}
use Rattle.std.specs.Result.{is_err}
use Rattle.lsv_defs.specs.Pieces.{piece}
use Rattle.lsv_defs.specs.Causes.{HasRisen}
use Rattle.lsv_disk.specs.declared.file.FileId.{FileId}
use Rattle.lsv_disk.specs.declared.file.Part.TheVariants.{Commit, Slots}
use Rattle.lsv_disk.specs.Bytes.{bytes_of, size_of}
use Rattle.lsv_disk.specs.View.{Image, DiskView, IsCrashImage, IsSynced, Elsewhere, Uncounted, RoseByOne, OneSync, HasCause, HasOwnCause}
use Rattle.lsv_disk.specs.Throughout.{Throughout, Unchanged, RoseAtMost, CallsAtMost, WritesOneOf}
use Rattle.lsv_disk.proofs.Composition.{followed, widened, unchanged_throughout, unchanged_reads, cause_of_file, rose_nothing, rose_trans, rose_more, stayed_rose, rose_of_one}
use Rattle.lsv_journal.specs.declared.slot.Slot.{Slot}
use Rattle.lsv_journal.specs.declared.slot.Slot.TheVariants.{First, Second}
use Rattle.lsv_journal.specs.declared.journal.Journal.{Journal}
use Rattle.lsv_journal.specs.Slots.{entry_of, SelectsAsBefore}
use Rattle.lsv_journal.specs.Last.{old_file, IsOwn, IsAbsent, slots_last, last_gated, LastAt, JournalHolds, IsBeforeOrAfter, SameJournal, IsSomeCrashOf, HasSlotsEntry, HasNoOldEntry, MayBeMade, KeepsSelected, SelectsSame, IsNoLonger}
use Rattle.lsv_journal.specs.Represents.{free, IsReady, IsPrepared, Represents, Keeps}
use Rattle.lsv_journal.specs.Reading.{IsEmptyOrAsBefore}
use Rattle.lsv_journal.specs.Writing.{Selects}
use Rattle.lsv_journal.proofs.Slots.{empty_none}
use Rattle.lsv_journal.proofs.Counting.{count_short}
use Rattle.lsv_journal.proofs.Appending.{reads_of_run}
use Rattle.lsv_disk.proofs.Same.{same_or_other}

-- an answer that isn't an error is one that is Ok
pub ok_of : {T E : Type 0} (r : Result T E) (P : Type 0) → is_err r ≡ false → OnOk r P → P
ok_of (Ok x) P good is = is
ok_of (Err e) P good is = absurd (let none : ⊥ = cc in none)

-- its own files
pub own_itself : (f : FileId) → IsOwn f f
unfolding IsOwn
own_itself f = inl refl

pub own_old : (f : FileId) → IsOwn f (old_file f)
unfolding IsOwn
own_old f = inr refl

pub own_cases : (f g : FileId) → IsOwn f g → (g ≡ f) ⊎ (g ≡ old_file f)
unfolding IsOwn
own_cases f g own = own

pub commit_not_slots : Commit ≢ Slots
commit_not_slots is = let no : ⊥ = cc in no

-- the old file is another one
pub old_other : (f : FileId) → f.part ≡ Slots → old_file f ≢ f
old_other f slots is = commit_not_slots (ap (λ (g : FileId). g.part) is ∙ slots)

pub own_cause : (f : FileId) (failed : Type 0) (old new : DiskView) → HasCause f failed old new → HasOwnCause (IsOwn f) failed old new
own_cause f failed old new cause = cause_of_file (IsOwn f) f failed old new (own_itself f) cause

pub old_cause : (f : FileId) (failed : Type 0) (old new : DiskView) → HasCause (old_file f) failed old new → HasOwnCause (IsOwn f) failed old new
old_cause f failed old new cause = cause_of_file (IsOwn f) (old_file f) failed old new (own_old f) cause

-- a count that rose for the file alone rose for its own files alone
pub own_rose : (n : ℕ) (f : FileId) (old new : FileId → ℕ) → f.part ≡ Slots → RoseAtMost n (λ g. g ≡ f) old new → RoseAtMost n (IsOwn f) old new
own_rose n f old new slots rose = record {
  never_fell = rose.never_fell;
  own = λ g own. elim (own_cases f g own) [
    | inl is ↦ rose.own g is
    | inr is ↦ let e : new g ≡ old g = rose.others g (λ same. old_other f slots (sym is ∙ same)) in omega (arith, e)
  ];
  others = λ g other. rose.others g (λ is. other (subst (λ (h : FileId). IsOwn f h) (sym is) (own_itself f)));
}

-- the last entry, by what its files hold
pub last_is : (n : ℕ) (f : FileId) (image : Image) → LastAt n f image ≡ option_or (entry_of n (bytes_of (image f))) (last_gated n (image (old_file f)))
unfolding LastAt
last_is n f image = refl

pub last_slots : (n : ℕ) (f : FileId) (image : Image) (body : List ℕ) → entry_of n (bytes_of (image f)) ≡ Some body → LastAt n f image ≡ Some body
last_slots n f image body is = last_is n f image ∙ ap (λ (o : Option (List ℕ)). option_or o (last_gated n (image (old_file f)))) is

pub last_old : (n : ℕ) (f : FileId) (image : Image) → entry_of n (bytes_of (image f)) ≡ None → LastAt n f image ≡ last_gated n (image (old_file f))
last_old n f image is = last_is n f image ∙ ap (λ (o : Option (List ℕ)). option_or o (last_gated n (image (old_file f)))) is

pub last_same : (n : ℕ) (f : FileId) (image other : Image) → image f ≡ other f → image (old_file f) ≡ other (old_file f) → LastAt n f image ≡ LastAt n f other
last_same n f image other slots old =
    last_is n f image ∙ ap (λ (c : Option (List ℕ)). option_or (entry_of n (bytes_of c)) (last_gated n (image (old_file f)))) slots
    ∙ ap (λ (c : Option (List ℕ)). option_or (entry_of n (bytes_of (other f))) (last_gated n c)) old ∙ sym (last_is n f other)

pub holds_by : (n : ℕ) (f : FileId) (last : Option (List ℕ)) (image : Image) → entry_of n (bytes_of (image f)) ≡ last → (last ≡ None → last_gated n (image (old_file f)) ≡ None) → JournalHolds n f last image
holds_by n f None image is none = last_old n f image is ∙ none refl
holds_by n f (Some body) image is none = last_slots n f image body is

-- a file that is absent has no entry
pub absent_entry : (n : ℕ) (content : Option (List ℕ)) → content ≡ None → entry_of n (bytes_of content) ≡ None
absent_entry n content absent = empty_none n (bytes_of content) (subst (λ (c : Option (List ℕ)). length (bytes_of c) ≤ 1) (sym absent) (omega arith))

pub absent_gated : (n : ℕ) (content : Option (List ℕ)) → content ≡ None → last_gated n content ≡ None
absent_gated n content absent = ap (last_gated n) absent ∙ none where
  none : last_gated n None ≡ None
  none = let e = count_short n (bytes_of None) (omega arith) in ap (Rattle.lsv_journal.specs.Gates.last_of n (bytes_of None)) e

pub absent_last : (n : ℕ) (f : FileId) (image : Image) → IsAbsent f image → LastAt n f image ≡ None
absent_last n f image absent = last_old n f image (absent_entry n (image f) absent.0) ∙ absent_gated n (image (old_file f)) absent.1

-- what may be made
pub may_be_made : (n : ℕ) (f : FileId) (disk : DiskView) → slots_last n f disk.reads ≡ None → HasNoOldEntry n f disk → MayBeMade n f disk
unfolding MayBeMade
may_be_made n f disk slots old = (slots, old)

pub made_slots : (n : ℕ) (f : FileId) (disk : DiskView) → MayBeMade n f disk → slots_last n f disk.reads ≡ None
unfolding MayBeMade
made_slots n f disk may = may.0

pub made_old : (n : ℕ) (f : FileId) (disk : DiskView) → MayBeMade n f disk → HasNoOldEntry n f disk
unfolding MayBeMade
made_old n f disk may = may.1

-- the old file was not touched
pub no_old_stays : (n : ℕ) (f : FileId) (Touched : FileId → Type 0) (old new : DiskView) → Elsewhere Touched old new → (Touched (old_file f) → ⊥) → HasNoOldEntry n f old → HasNoOldEntry n f new
no_old_stays n f Touched old new elsewhere apart none content left = none content (elsewhere.crash (old_file f) apart content left)

-- a write into the free slot of a journal's file
module _ (n k : ℕ) (f : FileId) (slot : Option Slot) (old new : DiskView) (long : k ≡ n) (ran : Throughout (λ g. g ≡ f) (λ image. Keeps k slot (bytes_of (old.reads f)) (bytes_of (image f))) old new) where
  abbrev KeepsAt : Image → Type 0
  KeepsAt image = Keeps n slot (bytes_of (old.reads f)) (bytes_of (image f))

  run : Throughout (λ g. g ≡ f) KeepsAt old new
  run = subst (λ (m : ℕ). Throughout (λ g. g ≡ f) (λ image. Keeps m slot (bytes_of (old.reads f)) (bytes_of (image f))) old new) long ran

  pub kept_now : IsCrashImage new new.reads → ((image : Image) → IsCrashImage new image → new.crash_images_at new.moment image) → Keeps n slot (bytes_of (old.reads f)) (bytes_of (new.reads f))
  kept_now itself now = reads_of_run (λ g. g ≡ f) KeepsAt old new itself now run

  pub kept_holds : f.part ≡ Slots → (last : Option (List ℕ)) → entry_of n (bytes_of (old.reads f)) ≡ last → (last ≡ None → HasNoOldEntry n f old) → Throughout (λ g. g ≡ f) (JournalHolds n f last) old new
  kept_holds slots last is no_old = widened (λ g. g ≡ f) (λ g. g ≡ f) KeepsAt (JournalHolds n f last) old new (λ g own. own)
      (λ image keeps beside. holds_by n f last image (keeps.entry ∙ is) (λ none. no_old none (image (old_file f)) (beside (old_file f) (old_other f slots)))) run

  pub kept_selected : Throughout (λ g. g ≡ f) (KeepsSelected n f old.reads) old new
  unfolding KeepsSelected
  kept_selected = widened (λ g. g ≡ f) (λ g. g ≡ f) KeepsAt (KeepsSelected n f old.reads) old new (λ g own. own) (λ image keeps _. keeps.keeps) run

  pub kept_length : Throughout (λ g. g ≡ f) (IsNoLonger n f old.reads) old new
  kept_length = widened (λ g. g ≡ f) (λ g. g ≡ f) KeepsAt (IsNoLonger n f old.reads) old new (λ g own. own) (λ image keeps _. keeps.no_longer) run

  pub kept_slot : IsCrashImage new new.reads → ((image : Image) → IsCrashImage new image → new.crash_images_at new.moment image) → SelectsSame n f old.reads new.reads
  unfolding SelectsSame
  kept_slot itself now = (kept_now itself now).selects

-- the same slot is selected where the file reads the same
pub slot_stays : (n : ℕ) (f : FileId) (was image other : Image) → other f ≡ image f → SelectsSame n f was image → SelectsSame n f was other
unfolding SelectsSame
slot_stays n f was image other same selects = subst (λ (c : Option (List ℕ)). SelectsAsBefore n (bytes_of (was f)) (bytes_of c)) (sym same) selects

-- a selection of the free slot
module _ (n : ℕ) (f : FileId) (slot : Option Slot) (old new : DiskView) (ran : Throughout (λ g. g ≡ f) (λ image. Selects n slot (bytes_of (old.reads f)) (bytes_of (image f))) old new) where
  abbrev SelectsAt : Image → Type 0
  SelectsAt image = Selects n slot (bytes_of (old.reads f)) (bytes_of (image f))

  pub selects_holds : f.part ≡ Slots → (last : Option (List ℕ)) → entry_of n (bytes_of (old.reads f)) ≡ last → (last ≡ None → HasNoOldEntry n f old) → (after : Option (List ℕ)) → Some (piece (bytes_of (old.reads f)) (free n slot) n) ≡ after
      → Throughout (λ g. g ≡ f) (IsBeforeOrAfter n f last after) old new
  selects_holds slots last is no_old after body = widened (λ g. g ≡ f) (λ g. g ≡ f) SelectsAt (IsBeforeOrAfter n f last after) old new (λ g own. own)
      (λ image selects beside. elim selects.entry [
        | inl same ↦ inl (holds_by n f last image (same ∙ is) (λ none. no_old none (image (old_file f)) (beside (old_file f) (old_other f slots))))
        | inr other ↦ inr (last_slots n f image (piece (bytes_of (old.reads f)) (free n slot) n) other ∙ body)
      ]) ran

  pub selects_selected : Throughout (λ g. g ≡ f) (KeepsSelected n f old.reads) old new
  unfolding KeepsSelected
  selects_selected = widened (λ g. g ≡ f) (λ g. g ≡ f) SelectsAt (KeepsSelected n f old.reads) old new (λ g own. own) (λ image selects _. selects.keeps) ran

  pub selects_length : Throughout (λ g. g ≡ f) (IsNoLonger n f old.reads) old new
  selects_length = widened (λ g. g ≡ f) (λ g. g ≡ f) SelectsAt (IsNoLonger n f old.reads) old new (λ g own. own) (λ image selects _. selects.no_longer) ran

-- where a body is prepared none is written that isn't synced
pub none_written : (written prepared : Option (List ℕ)) → (written ≡ None) ⊎ (prepared ≡ None) → prepared ≢ None → written ≡ None
none_written written prepared one some = elim one [ inl none ↦ none | inr lacks ↦ absurd (some lacks) ]

-- what is prepared is ready to be selected
pub ready_of : (n : ℕ) (bytes : List ℕ) (slot : Option Slot) (prepared : Option (List ℕ)) → prepared ≢ None → IsPrepared n bytes slot prepared → IsReady n bytes slot × (Some (piece bytes (free n slot) n) ≡ prepared)
ready_of n bytes slot None some is = absurd (some refl)
ready_of n bytes slot (Some body) some is = (is.0, ap (λ (b : List ℕ). Some b) is.1)

pub ready_there : (n : ℕ) (bytes : List ℕ) (slot : Option Slot) → IsReady n bytes slot → 2 ≤ length bytes
ready_there n bytes slot ready = omega (arith, ready.within, behind slot) where
  behind : (s : Option Slot) → 2 ≤ free n s
  behind None = omega arith
  behind (Some First) = omega arith
  behind (Some Second) = omega arith

-- an append, by both steps
module _ (n : ℕ) (f : FileId) (old mid new : DiskView) where
  pub both_hold : (last after : Option (List ℕ)) → Throughout (λ g. g ≡ f) (JournalHolds n f last) old mid → Throughout (λ g. g ≡ f) (IsBeforeOrAfter n f last after) mid new → Throughout (λ g. g ≡ f) (IsBeforeOrAfter n f last after) old new
  both_hold last after first second = followed (λ g. g ≡ f) (IsBeforeOrAfter n f last after) old mid new
      (widened (λ g. g ≡ f) (λ g. g ≡ f) (JournalHolds n f last) (IsBeforeOrAfter n f last after) old mid (λ g own. own) (λ image holds _. inl holds) first) second

  pub one_holds : (last after : Option (List ℕ)) → Throughout (λ g. g ≡ f) (JournalHolds n f last) old new → Throughout (λ g. g ≡ f) (IsBeforeOrAfter n f last after) old new
  one_holds last after run = widened (λ g. g ≡ f) (λ g. g ≡ f) (JournalHolds n f last) (IsBeforeOrAfter n f last after) old new (λ g own. own) (λ image holds _. inl holds) run

  pub both_keep : entry_of n (bytes_of (mid.reads f)) ≡ entry_of n (bytes_of (old.reads f)) → SelectsSame n f old.reads mid.reads → KeepsSelected n f old.reads mid.reads
      → Throughout (λ g. g ≡ f) (KeepsSelected n f old.reads) old mid → Throughout (λ g. g ≡ f) (KeepsSelected n f mid.reads) mid new → Throughout (λ g. g ≡ f) (KeepsSelected n f old.reads) old new
  unfolding KeepsSelected SelectsSame
  both_keep entry same kept first second = followed (λ g. g ≡ f) (KeepsSelected n f old.reads) old mid new first
      (widened (λ g. g ≡ f) (λ g. g ≡ f) (KeepsSelected n f mid.reads) (KeepsSelected n f old.reads) mid new (λ g own. own)
      (λ image keeps _ some.
      let e = same some in
      ap (λ (k : ℕ). piece (bytes_of (image f)) k n) (sym e) ∙ keeps (λ none. some (sym entry ∙ none)) ∙ ap (λ (k : ℕ). piece (bytes_of (mid.reads f)) k n) e ∙ kept some) second)

  pub both_end : IsNoLonger n f old.reads mid.reads → Throughout (λ g. g ≡ f) (IsNoLonger n f old.reads) old mid → Throughout (λ g. g ≡ f) (IsNoLonger n f mid.reads) mid new → Throughout (λ g. g ≡ f) (IsNoLonger n f old.reads) old new
  both_end short first second = followed (λ g. g ≡ f) (IsNoLonger n f old.reads) old mid new first
      (widened (λ g. g ≡ f) (λ g. g ≡ f) (IsNoLonger n f mid.reads) (IsNoLonger n f old.reads) mid new (λ g own. own) (λ image le _. omega (arith, le, short)) second)

-- a making of a file that may be made
pub made_run : (n : ℕ) (f : FileId) (old new : DiskView) → f.part ≡ Slots → HasNoOldEntry n f old → Throughout (λ g. g ≡ f) (IsEmptyOrAsBefore n f old) old new → Throughout (λ g. g ≡ f) (λ image. IsSomeCrashOf n f old image ⊎ JournalHolds n f None image) old new
made_run n f old new slots none run = widened (λ g. g ≡ f) (λ g. g ≡ f) (IsEmptyOrAsBefore n f old) (λ image. IsSomeCrashOf n f old image ⊎ JournalHolds n f None image) old new (λ g own. own)
    (λ image may beside. elim may [
      | inl left ↦ inl (image, whole image left beside, refl)
      | inr empty ↦ inr (last_old n f image empty ∙ none (image (old_file f)) (beside (old_file f) (old_other f slots)))
    ]) run where
      whole : (image : Image) → old.crash_states f (image f) → ((g : FileId) → (g ≡ f → ⊥) → old.crash_states g (image g)) → IsCrashImage old image
      whole image left beside g = elim (same_or_other g f) [
        | inl is ↦ subst (λ (h : FileId). old.crash_states h (image h)) (sym is) left
        | inr other ↦ beside g other
      ]

-- neither file has an entry where the journal has none
pub neither : (slots old : Option (List ℕ)) → option_or slots old ≡ None → (slots ≡ None) × (old ≡ None)
neither None old none = (refl, none)
neither (Some body) old none = absurd (let no_body : ⊥ = cc in no_body)

pub none_of_last : (n : ℕ) (f : FileId) (image : Image) → LastAt n f image ≡ None → (entry_of n (bytes_of (image f)) ≡ None) × (last_gated n (image (old_file f)) ≡ None)
none_of_last n f image none = neither (entry_of n (bytes_of (image f))) (last_gated n (image (old_file f))) (sym (last_is n f image) ∙ none)

-- a fault of a call on one of its own files
pub rose_at : (f g : FileId) (failed : Type 0) (old new : DiskView) → IsOwn f g → ((h : FileId) → old.faults h ≤ new.faults h) → HasRisen (old.faults g) (new.faults g) → HasOwnCause (IsOwn f) failed old new
rose_at f g failed old new own monotone rose = record { monotone = monotone; risen = λ _. (g, own, rose) }

-- where both files are synced, a crash leaves the journal's last entry
pub synced_holds : (n : ℕ) (f : FileId) (disk : DiskView) (image : Image) → IsSynced disk f → IsSynced disk (old_file f) → disk.crash_states f (image f) → disk.crash_states (old_file f) (image (old_file f)) → JournalHolds n f (LastAt n f disk.reads) image
synced_holds n f disk image slots old left left_old = last_same n f image disk.reads (slots (image f) left) (old (image (old_file f)) left_old)

module _ (n : ℕ) (f : FileId) (old : DiskView) (slots : f.part ≡ Slots) (synced : IsSynced old f) (old_synced : IsSynced old (old_file f)) where
  abbrev HoldsAsBefore : Image → Type 0
  HoldsAsBefore image = JournalHolds n f (LastAt n f old.reads) image

  -- calls that read
  pub reads_hold : (new : DiskView) → Unchanged old new → Throughout (λ g. g ≡ f) HoldsAsBefore old new
  reads_hold new unchanged = unchanged_throughout (λ g. g ≡ f) HoldsAsBefore old new (λ image is. synced_holds n f old image synced old_synced (is f) (is (old_file f))) unchanged

  -- a file that has no entry and is made
  module _ (none : entry_of n (bytes_of (old.reads f)) ≡ None) where
    empty_holds : (image : Image) → entry_of n (bytes_of (image f)) ≡ None → old.crash_states (old_file f) (image (old_file f)) → HoldsAsBefore image
    empty_holds image empty left = last_old n f image empty ∙ ap (last_gated n) (old_synced (image (old_file f)) left) ∙ sym (last_old n f old.reads none)

    pub make_holds : (mid new : DiskView) → Unchanged old mid → Throughout (λ g. g ≡ f) (IsEmptyOrAsBefore n f mid) mid new → Throughout (λ g. g ≡ f) HoldsAsBefore old new
    make_holds mid new unchanged run = followed (λ g. g ≡ f) HoldsAsBefore old mid new (reads_hold mid unchanged)
        (widened (λ g. g ≡ f) (λ g. g ≡ f) (IsEmptyOrAsBefore n f mid) HoldsAsBefore mid new (λ g own. own)
        (λ image may beside.
        let left_old : old.crash_states (old_file f) (image (old_file f)) = unchanged.elsewhere.crash (old_file f) (λ touched. touched) (image (old_file f)) (beside (old_file f) (old_other f slots)) in
        elim may [
          | inl left ↦ synced_holds n f old image synced old_synced (unchanged.elsewhere.crash f (λ touched. touched) (image f) left) left_old
          | inr empty ↦ empty_holds image empty left_old
        ]) run)

    -- and has the last body of the old file added
    pub add_holds : (k : ℕ) (body : List ℕ) (mid new : DiskView) → k ≡ n → last_gated n (old.reads (old_file f)) ≡ Some body → Throughout (λ g. g ≡ f) HoldsAsBefore old mid
        → Throughout (λ g. g ≡ f) (λ image. (entry_of k (bytes_of (image f)) ≡ None) ⊎ (entry_of k (bytes_of (image f)) ≡ Some body)) mid new → Throughout (λ g. g ≡ f) HoldsAsBefore old new
    add_holds k body mid new long is first ran = followed (λ g. g ≡ f) HoldsAsBefore old mid new first
        (widened (λ g. g ≡ f) (λ g. g ≡ f) (λ image. (entry_of n (bytes_of (image f)) ≡ None) ⊎ (entry_of n (bytes_of (image f)) ≡ Some body)) HoldsAsBefore mid new (λ g own. own)
        (λ image either beside. elim either [
          | inl empty ↦ empty_holds image empty (first.elsewhere.crash (old_file f) (old_other f slots) (image (old_file f)) (beside (old_file f) (old_other f slots)))
          | inr there ↦ last_slots n f image body there ∙ sym (last_old n f old.reads none ∙ is)
        ])
        (subst (λ (m : ℕ). Throughout (λ g. g ≡ f) (λ image. (entry_of m (bytes_of (image f)) ≡ None) ⊎ (entry_of m (bytes_of (image f)) ≡ Some body)) mid new) long ran))

-- an opening: the files were synced, and then settled
pub unchanged_crashes : (n : ℕ) (f : FileId) (old new : DiskView) → Unchanged old new → Throughout (λ g. g ≡ f) (IsSomeCrashOf n f old) old new
unchanged_crashes n f old new unchanged = unchanged_throughout (λ g. g ≡ f) (IsSomeCrashOf n f old) old new (λ image is. (image, is, refl)) unchanged

pub unchanged_last : (n : ℕ) (f : FileId) (old new : DiskView) → Unchanged old new → LastAt n f new.reads ≡ LastAt n f old.reads
unchanged_last n f old new unchanged = last_same n f new.reads old.reads (unchanged_reads old new unchanged f) (unchanged_reads old new unchanged (old_file f))

module _ (n : ℕ) (f : FileId) (old mid new : DiskView) (unchanged : Unchanged old mid) (run : Throughout (λ g. g ≡ f) (JournalHolds n f (LastAt n f mid.reads)) mid new) where
  pub opening_run : IsCrashImage old old.reads → Throughout (λ g. g ≡ f) (IsSomeCrashOf n f old) old new
  opening_run itself = followed (λ g. g ≡ f) (IsSomeCrashOf n f old) old mid new (unchanged_crashes n f old mid unchanged)
      (widened (λ g. g ≡ f) (λ g. g ≡ f) (JournalHolds n f (LastAt n f mid.reads)) (IsSomeCrashOf n f old) mid new (λ g own. own)
      (λ image holds _. (old.reads, itself, holds ∙ unchanged_last n f old mid unchanged)) run)

  pub opened_same : ((image : Image) → IsCrashImage new image → new.crash_images_at new.moment image) → (image : Image) → IsCrashImage new image → SameJournal n f old.reads image
  opened_same now image is = run.each new.moment image run.later (omega arith) (now image is) ∙ unchanged_last n f old mid unchanged

-- two journals with one last entry read as one
pub both_entry : (n : ℕ) (journal later : Journal n) (old mid : DiskView) → later.file ≡ journal.file → later.last ≡ journal.last → Represents journal old → Represents later mid
    → entry_of n (bytes_of (mid.reads journal.file)) ≡ entry_of n (bytes_of (old.reads journal.file))
both_entry n journal later old mid file last before after =
    ap (λ (h : FileId). entry_of n (bytes_of (mid.reads h))) (sym file) ∙ after.last_entry ∙ last ∙ sym before.last_entry

-- the last entry by what was found in the slots
pub last_found : (n : ℕ) (f : FileId) (image : Image) (found : Option (List ℕ)) → found ≡ entry_of n (bytes_of (image f)) → is_some found ≡ true → found ≡ LastAt n f image
last_found n f image (Some body) is some = sym (last_slots n f image body (sym is))
last_found n f image None is some = absurd (let none : ⊥ = cc in none)

pub none_found : (found : Option (List ℕ)) → is_some found ≡ false → found ≡ None
none_found None none = refl
none_found (Some body) none = absurd (let no_body : ⊥ = cc in no_body)

-- a file that has no length is absent
pub no_size : (file : Option (List ℕ)) → None ≡ size_of file → file ≡ None
no_size None is = refl
no_size (Some bytes) is = absurd (let none : ⊥ = cc in none)

pub own_by : (f g : FileId) → g ≡ old_file f → IsOwn f g
own_by f g is = subst (λ (h : FileId). IsOwn f h) (sym is) (own_old f)

-- a sync of the file, and one of each file
pub sync_calls : (f : FileId) (old new : DiskView) → f.part ≡ Slots → OneSync f old new → CallsAtMost 0 1 (IsOwn f) old new
sync_calls f old new slots sync = record {
  writes = stayed_rose 0 (IsOwn f) old.writes new.writes sync.writes;
  syncs = own_rose 1 f old.syncs new.syncs slots (rose_of_one f old.syncs new.syncs sync.syncs);
}

pub both_rose : (f o : FileId) (old mid new : FileId → ℕ) → o ≡ old_file f → f.part ≡ Slots → RoseByOne f old mid → RoseByOne o mid new → RoseAtMost 1 (IsOwn f) old new
both_rose f o old mid new old_is slots first second = record {
  never_fell = λ g. omega (arith, first.never_fell g, second.never_fell g);
  own = λ g own. elim (own_cases f g own) [
    | inl is ↦
        let a : new g ≡ mid g = second.others g (λ same. other (sym (sym is ∙ same))) in
        let b : mid g ≤ old g + 1 = subst (λ (h : FileId). mid h ≤ old h + 1) (sym is) first.at_most in
        omega (arith, a, b)
    | inr is ↦
        let a : new g ≤ mid g + 1 = subst (λ (h : FileId). new h ≤ mid h + 1) (old_is ∙ sym is) second.at_most in
        let b : mid g ≡ old g = first.others g (λ same. other (old_is ∙ sym is ∙ same)) in
        omega (arith, a, b)
  ];
  others = λ g apart. second.others g (λ is. apart (own_by f g (is ∙ old_is))) ∙ first.others g (λ is. apart (subst (λ (h : FileId). IsOwn f h) (sym is) (own_itself f)));
} where
  other : o ≢ f
  other is = old_other f slots (sym old_is ∙ is)

pub both_calls : (f o : FileId) (old mid new : DiskView) → o ≡ old_file f → f.part ≡ Slots → OneSync f old mid → OneSync o mid new → CallsAtMost 0 1 (IsOwn f) old new
both_calls f o old mid new old_is slots first second = record {
  writes = stayed_rose 0 (IsOwn f) old.writes new.writes (λ g. second.writes g ∙ first.writes g);
  syncs = both_rose f o old.syncs mid.syncs new.syncs old_is slots first.syncs second.syncs;
}

-- what follows from what an answer holds
pub if_ok_weaker : {T E : Type 0} {P Q : T → Type 0} (r : Result T E) → ((x : T) → P x → Q x) → IfOk r P → IfOk r Q
if_ok_weaker (Ok x) follows is = follows x is
if_ok_weaker (Err e) follows is = tt

-- files that were synced are read, and then taken over
pub settled_run : (n : ℕ) (f : FileId) (old mid new : DiskView) → f.part ≡ Slots → IsSynced old f → IsSynced old (old_file f) → Unchanged old mid → Throughout (λ g. g ≡ f) (JournalHolds n f (LastAt n f mid.reads)) mid new
    → Throughout (λ g. g ≡ f) (JournalHolds n f (LastAt n f old.reads)) old new
settled_run n f old mid new slots synced old_synced unchanged run = followed (λ g. g ≡ f) (JournalHolds n f (LastAt n f old.reads)) old mid new (reads_hold n f old slots synced old_synced mid unchanged)
    (widened (λ g. g ≡ f) (λ g. g ≡ f) (JournalHolds n f (LastAt n f mid.reads)) (JournalHolds n f (LastAt n f old.reads)) mid new (λ g own. own) (λ image holds _. holds ∙ unchanged_last n f old mid unchanged) run)

-- a file is one of its own, or it isn't
own_either : (f g : FileId) → IsOwn f g ⊎ (IsOwn f g → ⊥)
own_either f g = elim (same_or_other g f) [
  | inl is ↦ inl (subst (λ (h : FileId). IsOwn f h) (sym is) (own_itself f))
  | inr other ↦ elim (same_or_other g (old_file f)) [
    | inl is ↦ inl (own_by f g is)
    | inr apart ↦ inr (λ own. elim (own_cases f g own) [ inl is ↦ other is | inr is ↦ apart is ])
  ]
]

-- both files are synced, and then the slots are settled
module _ (f : FileId) (old mid done new : DiskView) (none : Uncounted old mid) (synced : CallsAtMost 0 1 (IsOwn f) mid done) where
  before_unwritten : (g : FileId) → done.writes g ≡ old.writes g
  before_unwritten g = rose_nothing (IsOwn f) mid.writes done.writes (own_either f) synced.writes g ∙ none.writes g

  pub opening_calls : f.part ≡ Slots → CallsAtMost 3 4 (λ g. g ≡ f) done new → WritesOneOf f 3 5 (IsOwn f) old new
  opening_calls slots settled = record {
    writes = rose_trans 0 3 (λ g. g ≡ f) old.writes done.writes new.writes (stayed_rose 0 (λ g. g ≡ f) old.writes done.writes before_unwritten) settled.writes;
    syncs = rose_trans 0 5 (IsOwn f) old.syncs mid.syncs new.syncs (stayed_rose 0 (IsOwn f) old.syncs mid.syncs none.syncs)
        (rose_trans 1 4 (IsOwn f) mid.syncs done.syncs new.syncs synced.syncs (own_rose 4 f done.syncs new.syncs slots settled.syncs));
  }

  pub opening_unwritten : (g : FileId) → new.writes g ≡ done.writes g → new.writes g ≡ old.writes g
  opening_unwritten g settled = settled ∙ before_unwritten g

-- and where they fail to be synced
pub syncing_calls : (f : FileId) (old mid new : DiskView) → Uncounted old mid → CallsAtMost 0 1 (IsOwn f) mid new → WritesOneOf f 3 5 (IsOwn f) old new
syncing_calls f old mid new none synced = record {
  writes = stayed_rose 3 (λ g. g ≡ f) old.writes new.writes (before_unwritten f old mid new new none synced);
  syncs = rose_more 1 5 (IsOwn f) old.syncs new.syncs (omega arith) (rose_trans 0 1 (IsOwn f) old.syncs mid.syncs new.syncs (stayed_rose 0 (IsOwn f) old.syncs mid.syncs none.syncs) synced.syncs);
}

-- where the slots have an entry it is found
pub slots_entry : (n : ℕ) (f : FileId) (image : Image) → HasSlotsEntry n f image → entry_of n (bytes_of (image f)) ≢ None
unfolding HasSlotsEntry
slots_entry n f image has = has

-- which no reading changes
pub entry_stays : (n : ℕ) (f : FileId) (old new : DiskView) → Unchanged old new → HasSlotsEntry n f old.reads → HasSlotsEntry n f new.reads
unfolding HasSlotsEntry
entry_stays n f old new unchanged has = subst (λ (c : Option (List ℕ)). entry_of n (bytes_of c) ≢ None) (sym (unchanged_reads old new unchanged f)) has

-- where a synced old file has no entry, none comes to be there
pub opened_no_old : (n : ℕ) (f : FileId) (mid new : DiskView) → Throughout (λ g. g ≡ f) (JournalHolds n f (LastAt n f mid.reads)) mid new → f.part ≡ Slots → IsSynced mid (old_file f) → LastAt n f mid.reads ≡ None → HasNoOldEntry n f new
opened_no_old n f mid new run slots synced none content left =
    ap (last_gated n) (synced content (run.elsewhere.crash (old_file f) (old_other f slots) content left)) ∙ (none_of_last n f mid.reads none).1
