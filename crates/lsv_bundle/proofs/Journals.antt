-- What is used of the journal: its own files are no data files, and what it says of an image lasts.
use Rattle.std.proofs.Common.{◌≡◌, ◌≢◌, inl, inr, ap, subst, sym, ◌∙◌}
use Rattle.lsv_disk.specs.declared.file.FileId.{FileId}
use Rattle.lsv_disk.specs.declared.file.Owner.{Owner}
use Rattle.lsv_disk.specs.declared.file.Part.{Part}
use Rattle.lsv_disk.specs.declared.file.Part.TheVariants.{Lines, Id, Commit, Slots}
use Rattle.lsv_disk.specs.Files.{file_of}
use Rattle.lsv_journal.specs.Last.{IsOwn}
use Rattle.lsv_journal.proofs.Laws.{own_cases, own_itself}
use Rattle.lsv_bundle.specs.declared.shape.Shape.{Shape}
use Rattle.lsv_bundle.specs.declared.shape.Shape.TheVariants as shape
use Rattle.lsv_bundle.specs.Shape.{IsPart, journal_of, IsDataFile, IsWritable, IsOwnFile}

-- a part of the shape is neither of the journal's
pub no_slots : (s : Shape) (part : Part) → IsPart s part → part ≢ Slots
no_slots shape.Log part is e = subst (λ (p : Part). IsPart shape.Log p) e is
no_slots shape.Lines part is e = let no : Lines ≡ Slots = sym is ∙ e in cc
no_slots shape.Relay part is e = let no : Id ≡ Slots = sym is ∙ e in cc

pub no_commit : (s : Shape) (part : Part) → IsPart s part → part ≢ Commit
no_commit shape.Log part is e = subst (λ (p : Part). IsPart shape.Log p) e is
no_commit shape.Lines part is e = let no : Lines ≡ Commit = sym is ∙ e in cc
no_commit shape.Relay part is e = let no : Id ≡ Commit = sym is ∙ e in cc

-- a data file is none of the journal's
pub data_not_journal : (owner : Owner) (s : Shape) (g : FileId) → IsDataFile owner s g → g ≢ journal_of owner
data_not_journal owner s g is e = no_slots s is.0 is.1 (ap (λ (h : FileId). h.part) (sym is.2 ∙ e))

pub data_not_own : (owner : Owner) (s : Shape) (g : FileId) → IsDataFile owner s g → IsOwn (journal_of owner) g → ⊥
data_not_own owner s g is own = elim (own_cases (journal_of owner) g own) [
  | inl e ↦ data_not_journal owner s g is e
  | inr e ↦ no_commit s is.0 is.1 (ap (λ (h : FileId). h.part) (sym is.2 ∙ e))
]

pub part_not_journal : (owner : Owner) (s : Shape) (part : Part) → IsPart s part → file_of owner part ≢ journal_of owner
part_not_journal owner s part is e = no_slots s part is (ap (λ (h : FileId). h.part) e)

-- a journal's own files are its owner's
pub own_owner : (f g : FileId) → IsOwn f g → g.owner ≡ f.owner
own_owner f g own = elim (own_cases f g own) [ inl e ↦ ap (λ (h : FileId). h.owner) e | inr e ↦ ap (λ (h : FileId). h.owner) e ]

-- the journal that is written is one of the files that it is read from
pub writable_own : (owner : Owner) (s : Shape) (g : FileId) → IsWritable owner s g → IsOwnFile owner s g
writable_own owner s g is = elim is [ inl file ↦ inl file | inr e ↦ inr (subst (λ (h : FileId). IsOwn (journal_of owner) h) (sym e) (own_itself (journal_of owner))) ]
