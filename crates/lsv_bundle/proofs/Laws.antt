-- The lemmas that crates above use: whose files a bundle has, what an image holds of it, and how it stays represented.
use Rattle.std.proofs.Common.{◌≡◌, ◌≢◌, inl, inr, ℕ, suc, ◌+◌, ◌<◌, ◌^◌, List, [], ◌∷◌, ◌++◌, length, take, drop, map, Option, Some, None, option_map, refl, sym, ◌∙◌, ap, subst, arith, length-append}
use Rattle.std.specs.Prelude.{slice_index}
use Rattle.std.specs.List.{concat}
use Rattle.std.specs.Int.{w64, from_be_bytes}
use Rattle.std.proofs.lemmas.Nat.{from_be_bytes-to_be_bytes_8}
use Rattle.std.proofs.lemmas.List.{take_at, drop_at}
use Rattle.lsv_disk.specs.declared.file.FileId.{FileId}
use Rattle.lsv_disk.specs.declared.file.Owner.{Owner}
use Rattle.lsv_disk.specs.declared.file.Part.{Part}
use Rattle.lsv_disk.specs.Bytes.{bytes_of}
use Rattle.lsv_disk.specs.Files.{file_of}
use Rattle.lsv_disk.specs.View.{Image, DiskView, Elsewhere, Quiet}
use Rattle.lsv_journal.specs.Last.{IsOwn, IsAbsent}
use Rattle.lsv_journal.proofs.Laws.{own_alone, absent_last}
use Rattle.lsv_journal.proofs.Laws as journals
use Rattle.lsv_bundle.specs.declared.shape.Shape.{Shape}
use Rattle.lsv_bundle.specs.declared.body.Body.{Body}
use Rattle.lsv_bundle.specs.Shape.{on_shape, index_of, journal_of, IsWritable, IsOwnFile}
use Rattle.lsv_bundle.specs.Body.{number, numbers_of, encoded, IsBody}
use Rattle.lsv_bundle.specs.Value.{FileView, BundleView, committed_length, staged, unstaged}
use Rattle.lsv_bundle.specs.Committed.{Committed, HasPrefix, IsOwnImage, BundleHolds, committed_bytes, committed, committed_as}
use Rattle.lsv_bundle.specs.Represents.{Each, IsDurableFile, Represents, DataIsWritten}
use Rattle.lsv_bundle.specs.InnerFiles.{IsAmong}
use Rattle.lsv_bundle.proofs.DataFiles.{durable_stays}
use Rattle.lsv_bundle.proofs.Shapes.{among_is_data}
use Rattle.lsv_bundle.proofs.Journals.{own_owner, writable_own}
use Rattle.lsv_bundle.proofs.Steps.{at_holds, written_stays}

-- a bundle's files are its owner's
pub of_owner : (owner : Owner) (s : Shape) (f : FileId) → IsOwnFile owner s f → f.owner ≡ owner
of_owner owner s f own = elim own [
  | inl is ↦ ap (λ (g : FileId). g.owner) is.2
  | inr journal ↦ own_owner (journal_of owner) f journal
]

-- so bundles of different owners have no file in common
pub bundles_apart : (a b : Owner) (s t : Shape) (f : FileId) → a ≢ b → IsOwnFile a s f → IsOwnFile b t f → ⊥
bundles_apart a b s t f differ one two = differ (sym (of_owner a s f one) ∙ of_owner b t f two)

-- and so are those that it writes
pub writes_owner : (owner : Owner) (s : Shape) (f : FileId) → IsWritable owner s f → f.owner ≡ owner
writes_owner owner s f is = of_owner owner s f (writable_own owner s f is)

-- no bundle writes a file that another owner's bundle is read from
pub writes_apart : (a b : Owner) (s t : Shape) (f : FileId) → a ≢ b → IsWritable a s f → IsOwnFile b t f → ⊥
writes_apart a b s t f differ one two = bundles_apart a b s t f differ (writable_own a s f one) two

-- what an image holds of a bundle depends on the bundle's own files alone
pub holds_alone : (owner : Owner) (s : Shape) (entry : Option Committed) (image other : Image) → ((f : FileId) → IsOwnFile owner s f → other f ≡ image f) → BundleHolds owner s entry image → BundleHolds owner s entry other
holds_alone owner s None image other same holds = own_alone 89 (journal_of owner) image other (λ f own. same f (inr own)) ∙ holds
holds_alone owner s (Some entry) image other same holds = record {
  is_body = holds.is_body;
  last = own_alone 89 (journal_of owner) image other (λ f own. same f (inr own)) ∙ holds.last;
  lengths = holds.lengths;
  bytes = λ part is. subst (λ (c : Option (List ℕ)). HasPrefix (entry.bytes part) c) (sym (same (file_of owner part) (inl (part, is, refl)))) (holds.bytes part is);
}

-- of a bundle whose journal is absent it holds nothing
pub holds_absent : (owner : Owner) (s : Shape) (image : Image) → IsAbsent (journal_of owner) image → BundleHolds owner s None image
holds_absent owner s image absent = absent_last 89 (journal_of owner) image absent

-- what a crash may leave of a bundle's own files holds what is committed
pub represents_holds : (bundle : BundleView) (disk : DiskView) → Represents bundle disk → (image : Image) → IsOwnImage bundle.owner bundle.shape disk image → BundleHolds bundle.owner bundle.shape (committed bundle disk) image
represents_holds bundle disk at image is = at_holds bundle disk at image is

-- a bundle stays represented where calls on the disk touched none of its files
pub represents_stays : (bundle : BundleView) (Touched : FileId → Type 0) (old new : DiskView) → Elsewhere Touched old new → ((g : FileId) → IsOwnFile bundle.owner bundle.shape g → Touched g → ⊥) → Represents bundle old → Represents bundle new
represents_stays bundle Touched old new elsewhere apart at = record {
  well_formed = at.well_formed;
  journal = journals.represents_stays 89 bundle.journal Touched old new at.journal elsewhere (λ g own. apart g (inr (subst (λ (f : FileId). IsOwn f g) at.well_formed.at own)));
  entry = at.entry;
  files = files_stay bundle.files (λ g among. apart g (inl (among_is_data bundle.owner bundle.shape bundle.files at.well_formed.parts g among))) at.files;
  lengths = at.lengths;
} where
  files_stay : (fs : List FileView) → ((g : FileId) → IsAmong bundle.owner fs g → Touched g → ⊥) → Each (IsDurableFile bundle.owner old) fs → Each (IsDurableFile bundle.owner new) fs
  files_stay [] untouched each = tt
  files_stay (file ∷ fs) untouched each = (
    durable_stays Touched old new (file_of bundle.owner file.part) file.committed elsewhere (untouched (file_of bundle.owner file.part) (inl refl)) each.0,
    files_stay fs (λ g among. untouched g (inr among)) each.1,
  )

-- and where nothing was changed
pub unchanged_at : (bundle : BundleView) (old new : DiskView) → Quiet old new → Represents bundle old → Represents bundle new
unchanged_at bundle old new quiet at =
    represents_stays bundle (λ _. ⊥) old new (record { same = λ g _. quiet.same g; crash = λ g _ c left. quiet.crash g c left }) (λ g own none. none) at

-- calls that touch no file of the owner
module _ (bundle : BundleView) (Touched : FileId → Type 0) (old new : DiskView) (elsewhere : Elsewhere Touched old new) (other : (f : FileId) → f.owner ≡ bundle.owner → Touched f → ⊥) where
  same_bytes : committed_bytes bundle new ≡ committed_bytes bundle old
  same_bytes i part = ap (λ (o : Option (List ℕ)). take (committed_length bundle part) (bytes_of o)) (elsewhere.same (file_of bundle.owner part) (other (file_of bundle.owner part) refl)) i

  -- leave it represented
  pub owner_represents : Represents bundle old → Represents bundle new
  owner_represents at = represents_stays bundle Touched old new elsewhere (λ f own. other f (of_owner bundle.owner bundle.shape f own)) at

  -- its staged bytes written
  pub owner_written : DataIsWritten bundle old → DataIsWritten bundle new
  owner_written each = written_stays bundle.owner bundle.files Touched old new elsewhere (λ g among. other g (among_owner bundle.files g among)) each where
    among_owner : (fs : List FileView) (g : FileId) → IsAmong bundle.owner fs g → g.owner ≡ bundle.owner
    among_owner [] g among = elim among [ ]
    among_owner (file ∷ fs) g among = elim among [ inl is ↦ ap (λ (f : FileId). f.owner) is | inr there ↦ among_owner fs g there ]

  -- and what is committed, now and next, as it was
  pub owner_committed : committed bundle new ≡ committed bundle old
  owner_committed = ap (λ (bytes : Part → List ℕ). option_map (λ (body : Body). let c : Committed = record { body = body; bytes = on_shape bundle.shape bytes } in c) bundle.last) same_bytes

  pub owner_next : (body : Body) → committed_as bundle new body ≡ committed_as bundle old body
  owner_next body = ap (λ (bytes : Part → List ℕ). let c : Committed = record { body = body; bytes = on_shape bundle.shape (λ part. bytes part ++ staged bundle part) } in c) same_bytes

-- what is staged is not looked at
abbrev bare : FileView → FileView
bare f = record { part = f.part; committed = f.committed; staged = [] }

bare_lengths : (files : List FileView) → map (λ f. f.committed) (map bare files) ≡ map (λ f. f.committed) files
bare_lengths [] = refl
bare_lengths (file ∷ files) = ap (λ (l : List ℕ). file.committed ∷ l) (bare_lengths files)

bare_parts : (files : List FileView) → map (λ f. f.part) (map bare files) ≡ map (λ f. f.part) files
bare_parts [] = refl
bare_parts (file ∷ files) = ap (λ (l : List Part). file.part ∷ l) (bare_parts files)

bare_each : (owner : Owner) (disk : DiskView) (files : List FileView) → Each (IsDurableFile owner disk) files → Each (IsDurableFile owner disk) (map bare files)
bare_each owner disk [] each = tt
bare_each owner disk (file ∷ files) each = (each.0, bare_each owner disk files each.1)

each_bare : (owner : Owner) (disk : DiskView) (files : List FileView) → Each (IsDurableFile owner disk) (map bare files) → Each (IsDurableFile owner disk) files
each_bare owner disk [] each = tt
each_bare owner disk (file ∷ files) each = (each.0, each_bare owner disk files each.1)

unstaged_length : (bundle : BundleView) (part : Part) → committed_length (unstaged bundle) part ≡ committed_length bundle part
unstaged_length bundle part = ap (λ (l : List ℕ). slice_index l (index_of part)) (bare_lengths bundle.files)

unstaged_at : (bundle : BundleView) (disk : DiskView) → Represents bundle disk → Represents (unstaged bundle) disk
unstaged_at bundle disk at = record {
  well_formed = record { parts = bare_parts bundle.files ∙ at.well_formed.parts; at = at.well_formed.at; whole = at.well_formed.whole; last_body = at.well_formed.last_body; prepared = at.well_formed.prepared; prepared_body = at.well_formed.prepared_body };
  journal = at.journal;
  entry = at.entry;
  files = bare_each bundle.owner disk bundle.files at.files;
  lengths = λ body is part of. at.lengths body is part of ∙ sym (unstaged_length bundle part);
}

at_unstaged : (bundle : BundleView) (disk : DiskView) → Represents (unstaged bundle) disk → Represents bundle disk
at_unstaged bundle disk at = record {
  well_formed = record { parts = sym (bare_parts bundle.files) ∙ at.well_formed.parts; at = at.well_formed.at; whole = at.well_formed.whole; last_body = at.well_formed.last_body; prepared = at.well_formed.prepared; prepared_body = at.well_formed.prepared_body };
  journal = at.journal;
  entry = at.entry;
  files = each_bare bundle.owner disk bundle.files at.files;
  lengths = λ body is part of. at.lengths body is part of ∙ unstaged_length bundle part;
}

-- staging leaves a bundle represented
pub staging_represents : (old new : BundleView) (disk : DiskView) → unstaged new ≡ unstaged old → Represents old disk → Represents new disk
staging_represents old new disk same at = at_unstaged new disk (subst (λ (b : BundleView). Represents b disk) (sym same) (unstaged_at old disk at))

-- with the same lengths
pub staging_lengths : (old new : BundleView) → unstaged new ≡ unstaged old → (part : Part) → committed_length new part ≡ committed_length old part
staging_lengths old new same part = sym (unstaged_length new part) ∙ ap (λ (b : BundleView). committed_length b part) same ∙ unstaged_length old part

unstaged_committed : (bundle : BundleView) (disk : DiskView) → committed (unstaged bundle) disk ≡ committed bundle disk
unstaged_committed bundle disk =
    ap (λ (lengths : Part → ℕ). option_map (λ (body : Body). let c : Committed = record { body = body; bytes = on_shape bundle.shape (λ part. take (lengths part) (bytes_of (disk.reads (file_of bundle.owner part)))) } in c) bundle.last)
    (λ i part. unstaged_length bundle part i)

-- and the same committed
pub staging_committed : (old new : BundleView) (disk : DiskView) → unstaged new ≡ unstaged old → committed new disk ≡ committed old disk
staging_committed old new disk same = sym (unstaged_committed new disk) ∙ ap (λ (b : BundleView). committed b disk) same ∙ unstaged_committed old disk

-- eight bytes are of one number
number_same : (m n : ℕ) (xs ys : List ℕ) → m < 2 ^ 64 → n < 2 ^ 64 → number m ++ xs ≡ number n ++ ys → (m ≡ n) × (xs ≡ ys)
number_same m n xs ys fits fits' e = (
  sym (from_be_bytes-to_be_bytes_8 m fits) ∙ ap (from_be_bytes w64) (sym (take_at (number m) xs 8 refl) ∙ ap (take 8) e ∙ take_at (number n) ys 8 refl) ∙ from_be_bytes-to_be_bytes_8 n fits',
  sym (drop_at (number m) xs 8 refl) ∙ ap (drop 8) e ∙ drop_at (number n) ys 8 refl,
)

abbrev AllFit : List ℕ → Type 0
AllFit [] = Unit {0}
AllFit (n ∷ ns) = (n < 2 ^ 64) × AllFit ns

numbers_same : (ms ns : List ℕ) → length ms ≡ length ns → AllFit ms → AllFit ns → concat (map number ms) ≡ concat (map number ns) → ms ≡ ns
numbers_same [] [] long fits fits' e = refl
numbers_same [] (n ∷ ns) long fits fits' e = absurd (let none : ⊥ = omega (arith, long) in none)
numbers_same (m ∷ ms) [] long fits fits' e = absurd (let none : ⊥ = omega (arith, long) in none)
numbers_same (m ∷ ms) (n ∷ ns) long fits fits' e =
    let both = number_same m n (concat (map number ms)) (concat (map number ns)) fits.0 fits'.0 e in
    ap (λ (k : ℕ). k ∷ ms) both.0 ∙ ap (λ (l : List ℕ). n ∷ l) (numbers_same ms ns (omega (arith, long)) fits.1 fits'.1 both.1)

lens_fit : (lens : List ℕ) (extra : ℕ) → ((place : ℕ) → slice_index lens place < 2 ^ 64) → extra < 2 ^ 64 → AllFit (lens ++ extra ∷ [])
lens_fit [] extra fit fits = (fits, tt)
lens_fit (n ∷ lens) extra fit fits = (fit 0, lens_fit lens extra (λ place. fit (suc place)) fits)

split_extra : (xs ys : List ℕ) (x y : ℕ) → length xs ≡ length ys → xs ++ x ∷ [] ≡ ys ++ y ∷ [] → (xs ≡ ys) × (x ≡ y)
split_extra [] [] x y long e = (refl, cc)
split_extra [] (b ∷ ys) x y long e = absurd (let none : ⊥ = omega (arith, long) in none)
split_extra (a ∷ xs) [] x y long e = absurd (let none : ⊥ = omega (arith, long) in none)
split_extra (a ∷ xs) (b ∷ ys) x y long e =
    let head : a ≡ b = cc in
    let tail : xs ++ x ∷ [] ≡ ys ++ y ∷ [] = cc in
    let rest = split_extra xs ys x y (omega (arith, long)) tail in
    (ap (λ (k : ℕ). k ∷ xs) head ∙ ap (λ (l : List ℕ). b ∷ l) rest.0, rest.1)

-- an entry's bytes are those of one body
pub one_body : (a b : Body) → IsBody a → IsBody b → encoded a ≡ encoded b → a ≡ b
unfolding encoded
one_body a b of_a of_b e =
    let kind : a.kind ≡ b.kind = cc in
    let rest : concat (map number (numbers_of a)) ≡ concat (map number (numbers_of b)) = cc in
    let long : length (numbers_of a) ≡ length (numbers_of b) = lengths_same a.lens b.lens a.extra b.extra (of_a.eight ∙ sym of_b.eight) in
    let all : numbers_of a ≡ numbers_of b = numbers_same (numbers_of a) (numbers_of b) long (of_a.count, (of_a.elapsed, lens_fit a.lens a.extra of_a.lens of_a.extra)) (of_b.count, (of_b.elapsed, lens_fit b.lens b.extra of_b.lens of_b.extra)) rest in
    let count : a.count ≡ b.count = cc in
    let elapsed : a.elapsed ≡ b.elapsed = cc in
    let last : a.lens ++ a.extra ∷ [] ≡ b.lens ++ b.extra ∷ [] = cc in
    let both = split_extra a.lens b.lens a.extra b.extra (of_a.eight ∙ sym of_b.eight) last in
    λ i. record { kind = kind i; count = count i; elapsed = elapsed i; lens = both.0 i; extra = both.1 i }
  where
    lengths_same : (xs ys : List ℕ) (x y : ℕ) → length xs ≡ length ys → suc (suc (length (xs ++ x ∷ []))) ≡ suc (suc (length (ys ++ y ∷ [])))
    lengths_same xs ys x y same = ap (λ (n : ℕ). suc (suc n)) (length-append xs (x ∷ []) ∙ ap (λ (n : ℕ). n + 1) same ∙ sym (length-append ys (y ∷ [])))
