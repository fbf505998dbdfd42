-- What was staged and taken back leaves the bundle as it was.
use Rattle.std.proofs.Common.{◌≡◌, ℕ, zero, suc, ◌<◌, List, [], ◌∷◌, length, map, refl, sym, ◌∙◌, ap, subst, arith}
use Rattle.std.specs.Prelude.{slice_index_or}
use Rattle.lsv_disk.specs.declared.file.Part.{Part}
use Rattle.lsv_disk.specs.declared.file.Part.TheVariants.{Head, Exit, Timing, Stdin, Stdout, Stderr, Ttyin, Ttyout, Lines, Id}
use Rattle.lsv_bundle.specs.declared.shape.Shape.{Shape}
use Rattle.lsv_bundle.specs.declared.shape.Shape.TheVariants as shape
use Rattle.lsv_bundle.specs.Shape.{parts_of, IsPart, index_of}
use Rattle.lsv_bundle.specs.Value.{FileView, BundleView, staged, unstaged}

abbrev staged_at : List FileView → ℕ → List ℕ
staged_at files i = slice_index_or (map (λ f. f.staged) files) i []

abbrev bare : FileView → FileView
bare file = record { part = file.part; committed = file.committed; staged = [] }

-- files that differ in nothing but what is staged, and not in that, are the same
files_same : (xs ys : List FileView) → map bare xs ≡ map bare ys → ((i : ℕ) → i < length xs → staged_at xs i ≡ staged_at ys i) → xs ≡ ys
files_same [] [] same each = refl
files_same [] (b ∷ ys) same each = cc
files_same (a ∷ xs) [] same each = cc
files_same (a ∷ xs) (b ∷ ys) same each =
    let bares : bare a ≡ bare b = cc in
    let part : a.part ≡ b.part = ap (λ (f : FileView). f.part) bares in
    let committed : a.committed ≡ b.committed = ap (λ (f : FileView). f.committed) bares in
    let tail : map bare xs ≡ map bare ys = cc in
    let staged : a.staged ≡ b.staged = each 0 (omega arith) in
    let head : a ≡ b = λ i. record { part = part i; committed = committed i; staged = staged i } in
    ap (λ (f : FileView). f ∷ xs) head ∙ ap (λ (l : List FileView). b ∷ l) (files_same xs ys tail (λ i within. each (suc i) (omega (arith, within))))

-- the part at an index
part_at : (s : Shape) (i : ℕ) → i < length (parts_of s) → (p : Part) × IsPart s p × (index_of p ≡ i)
part_at shape.Log zero within = (Head, tt, refl)
part_at shape.Log (suc zero) within = (Exit, tt, refl)
part_at shape.Log (suc (suc zero)) within = (Timing, tt, refl)
part_at shape.Log (suc (suc (suc zero))) within = (Stdin, tt, refl)
part_at shape.Log (suc (suc (suc (suc zero)))) within = (Stdout, tt, refl)
part_at shape.Log (suc (suc (suc (suc (suc zero))))) within = (Stderr, tt, refl)
part_at shape.Log (suc (suc (suc (suc (suc (suc zero)))))) within = (Ttyin, tt, refl)
part_at shape.Log (suc (suc (suc (suc (suc (suc (suc zero))))))) within = (Ttyout, tt, refl)
part_at shape.Log (suc (suc (suc (suc (suc (suc (suc (suc i)))))))) within = absurd (let none : ⊥ = omega (arith, within) in none)
part_at shape.Lines zero within = (Lines, refl, refl)
part_at shape.Lines (suc i) within = absurd (let none : ⊥ = omega (arith, within) in none)
part_at shape.Relay zero within = (Id, refl, refl)
part_at shape.Relay (suc i) within = absurd (let none : ⊥ = omega (arith, within) in none)

length_parts : (files : List FileView) → length (map (λ f. f.part) files) ≡ length files
length_parts [] = refl
length_parts (file ∷ files) = ap suc (length_parts files)

-- a bundle of which as much is staged as of another, and all else is the same, is that one
pub bundle_same : (a b : BundleView) → map (λ f. f.part) a.files ≡ parts_of a.shape → unstaged a ≡ unstaged b → ((p : Part) → IsPart a.shape p → staged a p ≡ staged b p) → a ≡ b
bundle_same a b parts same each =
    let files : a.files ≡ b.files = files_same a.files b.files (ap (λ (v : BundleView). v.files) same) (λ i within. at i (subst (λ (n : ℕ). i < n) long within)) in
    λ i. record {
      owner = (ap (λ (v : BundleView). v.owner) same) i;
      shape = (ap (λ (v : BundleView). v.shape) same) i;
      last = (ap (λ (v : BundleView). v.last) same) i;
      prepared = (ap (λ (v : BundleView). v.prepared) same) i;
      files = files i;
      is_broken = (ap (λ (v : BundleView). v.is_broken) same) i;
      journal = (ap (λ (v : BundleView). v.journal) same) i;
    }
  where
    long : length a.files ≡ length (parts_of a.shape)
    long = sym (length_parts a.files) ∙ ap length parts

    at : (i : ℕ) → i < length (parts_of a.shape) → staged_at a.files i ≡ staged_at b.files i
    at i within =
        let p = part_at a.shape i within in
        subst (λ (k : ℕ). staged_at a.files k ≡ staged_at b.files k) p.2 (each p.0 p.1)

bare_parts : (files : List FileView) → map (λ f. f.part) (map bare files) ≡ map (λ f. f.part) files
bare_parts [] = refl
bare_parts (file ∷ files) = ap (λ (l : List Part). file.part ∷ l) (bare_parts files)

-- its parts are those that it had
pub parts_as : (a b : BundleView) → unstaged a ≡ unstaged b → map (λ f. f.part) b.files ≡ parts_of b.shape → map (λ f. f.part) a.files ≡ parts_of a.shape
parts_as a b same parts =
    sym (bare_parts a.files) ∙ ap (λ (v : BundleView). map (λ f. f.part) v.files) same ∙ bare_parts b.files ∙ parts ∙ ap (λ (v : BundleView). parts_of v.shape) (sym same)
