-- Staging more bytes of one file, or fewer.
use Rattle.std.proofs.Common.{◌≡◌, ◌≢◌, ℕ, zero, suc, ◌<◌, List, [], ◌∷◌, length, map, get_or, refl, sym, ◌∙◌, ap, subst, arith, lit<}
use Rattle.std.specs.Prelude.{slice_index_or, slice_set}
use Rattle.std.proofs.lemmas.List.{length-map}
use Rattle.lsv_disk.specs.declared.file.Part.{Part}
use Rattle.lsv_disk.specs.declared.file.Part.TheVariants.{Head, Exit, Timing, Stdin, Stdout, Stderr, Ttyin, Ttyout, Lines, Id, Commit, Slots}
use Rattle.lsv_bundle.specs.declared.shape.Shape.{Shape}
use Rattle.lsv_bundle.specs.declared.shape.Shape.TheVariants as shape
use Rattle.lsv_bundle.specs.Shape.{parts_of, IsPart, index_of}
use Rattle.lsv_bundle.specs.Value.{FileView}

abbrev staged_at : List FileView → ℕ → List ℕ
staged_at files i = slice_index_or (map (λ f. f.staged) files) i []

abbrev bare : FileView → FileView
bare file = record { part = file.part; committed = file.committed; staged = [] }

-- the file at that index has other bytes staged
pub staged_here : (files : List FileView) (i : ℕ) (file new : FileView) (change : List ℕ → List ℕ) → i < length files → file ≡ slice_index_or files i file
    → new ≡ record { part = file.part; committed = file.committed; staged = change file.staged } → staged_at (slice_set files i new) i ≡ change (staged_at files i)
staged_here [] i file new change within is now = absurd (let none : ⊥ = omega (arith, within) in none)
staged_here (first ∷ files) zero file new change within is now = ap (λ (f : FileView). f.staged) now ∙ ap (λ (f : FileView). change f.staged) is
staged_here (first ∷ files) (suc i) file new change within is now = staged_here files i file new change (omega (arith, within)) is now

-- the others as they were
pub staged_there : (files : List FileView) (i j : ℕ) (new : FileView) → i ≢ j → staged_at (slice_set files i new) j ≡ staged_at files j
staged_there [] i j new other = refl
staged_there (first ∷ files) zero zero new other = absurd (other refl)
staged_there (first ∷ files) zero (suc j) new other = refl
staged_there (first ∷ files) (suc i) zero new other = refl
staged_there (first ∷ files) (suc i) (suc j) new other = staged_there files i j new (λ e. other (ap suc e))

-- and nothing else is otherwise
pub bare_same : (files : List FileView) (i : ℕ) (file new : FileView) (change : List ℕ → List ℕ) → file ≡ slice_index_or files i file
    → new ≡ record { part = file.part; committed = file.committed; staged = change file.staged } → map bare (slice_set files i new) ≡ map bare files
bare_same [] i file new change is now = refl
bare_same (first ∷ files) zero file new change is now = ap (λ (f : FileView). bare f ∷ map bare files) (now) ∙ ap (λ (f : FileView). bare f ∷ map bare files) is
bare_same (first ∷ files) (suc i) file new change is now = ap (λ (l : List FileView). bare first ∷ l) (bare_same files i file new change is now)

-- the part that stands at a part's place
part_at : (s : Shape) (part : Part) → IsPart s part → get_or (parts_of s) (index_of part) Commit ≡ part
part_at shape.Log Head is = refl
part_at shape.Log Exit is = refl
part_at shape.Log Timing is = refl
part_at shape.Log Stdin is = refl
part_at shape.Log Stdout is = refl
part_at shape.Log Stderr is = refl
part_at shape.Log Ttyin is = refl
part_at shape.Log Ttyout is = refl
part_at shape.Log Lines is = elim is [ ]
part_at shape.Log Id is = elim is [ ]
part_at shape.Log Commit is = elim is [ ]
part_at shape.Log Slots is = elim is [ ]
part_at shape.Lines part is = subst (λ (p : Part). get_or (parts_of shape.Lines) (index_of p) Commit ≡ p) (sym is) refl
part_at shape.Relay part is = subst (λ (p : Part). get_or (parts_of shape.Relay) (index_of p) Commit ≡ p) (sym is) refl

-- other parts stand at other places
pub indexes_differ : (s : Shape) (a b : Part) → IsPart s a → IsPart s b → b ≢ a → index_of a ≢ index_of b
indexes_differ s a b of other differ e = differ (sym (part_at s b other) ∙ ap (λ (i : ℕ). get_or (parts_of s) i Commit) (sym e) ∙ part_at s a of)

index_of_part : (s : Shape) (part : Part) → IsPart s part → index_of part < length (parts_of s)
index_of_part shape.Log Head is = lit< tt
index_of_part shape.Log Exit is = lit< tt
index_of_part shape.Log Timing is = lit< tt
index_of_part shape.Log Stdin is = lit< tt
index_of_part shape.Log Stdout is = lit< tt
index_of_part shape.Log Stderr is = lit< tt
index_of_part shape.Log Ttyin is = lit< tt
index_of_part shape.Log Ttyout is = lit< tt
index_of_part shape.Log Lines is = elim is [ ]
index_of_part shape.Log Id is = elim is [ ]
index_of_part shape.Log Commit is = elim is [ ]
index_of_part shape.Log Slots is = elim is [ ]
index_of_part shape.Lines part is = subst (λ (p : Part). index_of p < 1) (sym is) (lit< tt)
index_of_part shape.Relay part is = subst (λ (p : Part). index_of p < 1) (sym is) (lit< tt)

-- a part's place is among the files
pub index_within : (s : Shape) (files : List FileView) (part : Part) → map (λ f. f.part) files ≡ parts_of s → IsPart s part → index_of part < length files
index_within s files part parts is = omega (arith, index_of_part s part is, ap (λ (l : List Part). length l) parts, length-map files (λ (f : FileView). f.part))
