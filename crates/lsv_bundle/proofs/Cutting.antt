-- A cut: the data files have fewer committed bytes, and none is written to.
use Rattle.std.proofs.Common.{◌≡◌, ℕ, zero, suc, ◌<◌, ◌≤◌, List, [], ◌∷◌, length, take, map, refl, sym, ap, arith, lit≤}
use Rattle.std.specs.Prelude.{slice_index, slice_index_or}
use Rattle.std.proofs.lemmas.List.{length-take-le, take-take, length-map}
use Rattle.lsv_disk.specs.declared.file.Owner.{Owner}
use Rattle.lsv_disk.specs.declared.file.Part.{Part}
use Rattle.lsv_disk.specs.Bytes.{bytes_of}
use Rattle.lsv_disk.specs.Files.{file_of}
use Rattle.lsv_disk.specs.View.{Image, DiskView}
use Rattle.lsv_bundle.specs.declared.shape.Shape.{Shape}
use Rattle.lsv_bundle.specs.declared.shape.Shape.TheVariants as shape
use Rattle.lsv_bundle.specs.Shape.{parts_of, IsPart, index_of}
use Rattle.lsv_bundle.specs.Value.{FileView, BundleView, committed_length, lengths_of}
use Rattle.lsv_bundle.specs.Committed.{KeepsBytes, prefix_at, committed_bytes}
use Rattle.lsv_bundle.specs.Represents.{Each, IsDurable, IsDurableFile, Represents}
use Rattle.lsv_bundle.specs.InnerFiles.{cut_to}
use Rattle.lsv_bundle.proofs.Prefixes.{shorter_prefix}
use Rattle.lsv_bundle.proofs.Staging.{index_within}
use Rattle.lsv_bundle.proofs.Steps.{bytes_length, at_keeps}

few_parts : (s : Shape) → length (parts_of s) ≤ 8
few_parts shape.Log = lit≤ tt
few_parts shape.Lines = lit≤ tt
few_parts shape.Relay = lit≤ tt

-- there are at most eight files
pub few_files : (s : Shape) (files : List FileView) → map (λ f. f.part) files ≡ parts_of s → length files ≤ 8
few_files s files parts = omega (arith, few_parts s, ap (λ (l : List Part). length l) parts, length-map files (λ (f : FileView). f.part))

pub few_shape : (s : Shape) → length (parts_of s) ≤ 8
few_shape = few_parts

-- the files after a cut to enough lengths
cut_at : (files : List FileView) (lengths : List ℕ) (i : ℕ) → length files ≤ length lengths → i < length files → slice_index (map (λ f. f.committed) (cut_to files lengths)) i ≡ slice_index lengths i
cut_at [] lengths i enough within = absurd (let none : ⊥ = omega (arith, within) in none)
cut_at (file ∷ files) [] i enough within = absurd (let none : ⊥ = omega (arith, enough) in none)
cut_at (file ∷ files) (n ∷ lengths) zero enough within = refl
cut_at (file ∷ files) (n ∷ lengths) (suc i) enough within = cut_at files lengths i (omega (arith, enough)) (omega (arith, within))

pub cut_staged : (files : List FileView) (lengths : List ℕ) (i : ℕ) → length files ≤ length lengths → slice_index_or (map (λ f. f.staged) (cut_to files lengths)) i [] ≡ []
cut_staged [] lengths i enough = refl
cut_staged (file ∷ files) [] i enough = absurd (let none : ⊥ = omega (arith, enough) in none)
cut_staged (file ∷ files) (n ∷ lengths) zero enough = refl
cut_staged (file ∷ files) (n ∷ lengths) (suc i) enough = cut_staged files lengths i (omega (arith, enough))

pub cut_lengths : (s : Shape) (files : List FileView) (lengths : List ℕ) → map (λ f. f.part) files ≡ parts_of s → length lengths ≡ 8 → (part : Part) → IsPart s part
    → slice_index (map (λ f. f.committed) (cut_to files lengths)) (index_of part) ≡ slice_index lengths (index_of part)
cut_lengths s files lengths parts eight part is =
    cut_at files lengths (index_of part) (let few = few_files s files parts in omega (arith, few, eight)) (index_within s files part parts is)

pub cut_none : (s : Shape) (files : List FileView) (lengths : List ℕ) → map (λ f. f.part) files ≡ parts_of s → length lengths ≡ 8 → (part : Part) → slice_index_or (map (λ f. f.staged) (cut_to files lengths)) (index_of part) [] ≡ []
cut_none s files lengths parts eight part = cut_staged files lengths (index_of part) (let few = few_files s files parts in omega (arith, few, eight))

pub cut_parts : (files : List FileView) (lengths : List ℕ) → map (λ f. f.part) (cut_to files lengths) ≡ map (λ f. f.part) files
cut_parts [] lengths = refl
cut_parts (file ∷ files) [] = refl
cut_parts (file ∷ files) (n ∷ lengths) = ap (λ (l : List Part). file.part ∷ l) (cut_parts files lengths)

-- durable files stay durable with fewer bytes
pub cut_durable : (owner : Owner) (disk : DiskView) (files : List FileView) (lengths : List ℕ) → ((i : ℕ) → slice_index lengths i ≤ slice_index (map (λ f. f.committed) files) i)
    → Each (IsDurableFile owner disk) files → Each (IsDurableFile owner disk) (cut_to files lengths)
cut_durable owner disk [] lengths shorter each = tt
cut_durable owner disk (file ∷ files) [] shorter each = each
cut_durable owner disk (file ∷ files) (n ∷ lengths) shorter each = (fewer each.0 (shorter 0), cut_durable owner disk files lengths (λ i. shorter (suc i)) each.1) where
  fewer : IsDurable disk (file_of owner file.part) file.committed → n ≤ file.committed → IsDurable disk (file_of owner file.part) n
  fewer is less = record { content = is.content; there = is.there; enough = let e = is.enough in omega (arith, e, less); synced = is.synced }

-- the bytes that a cut keeps
module _ (bundle : BundleView) (disk : DiskView) (lengths : List ℕ) (at : Represents bundle disk) (shorter : (i : ℕ) → slice_index lengths i ≤ slice_index (lengths_of bundle) i) where
  abbrev pub cut_bytes : Part → List ℕ
  cut_bytes part = take (slice_index lengths (index_of part)) (committed_bytes bundle disk part)

  pub cut_keeps : (image : Image) → ((part : Part) → IsPart bundle.shape part → disk.crash_states (file_of bundle.owner part) (image (file_of bundle.owner part))) → KeepsBytes bundle.owner bundle.shape cut_bytes image
  cut_keeps image left part is = shorter_prefix (slice_index lengths (index_of part)) (committed_bytes bundle disk part) (image (file_of bundle.owner part)) (at_keeps bundle disk at image left part is)

  pub cut_length : (part : Part) → IsPart bundle.shape part → length (cut_bytes part) ≡ slice_index lengths (index_of part)
  cut_length part is =
      length-take-le (slice_index lengths (index_of part)) (committed_bytes bundle disk part)
      (let e = bytes_length bundle disk at part is in let n = shorter (index_of part) in omega (arith, e, n))

  pub cut_reads : (part : Part) → IsPart bundle.shape part → prefix_at disk (file_of bundle.owner part) (slice_index lengths (index_of part)) ≡ cut_bytes part
  cut_reads part is = sym (take-take (slice_index lengths (index_of part)) (committed_length bundle part) (bytes_of (disk.reads (file_of bundle.owner part))) (shorter (index_of part)))

pub cut_size : (files : List FileView) (lengths : List ℕ) → length (cut_to files lengths) ≡ length files
cut_size [] lengths = refl
cut_size (file ∷ files) [] = refl
cut_size (file ∷ files) (n ∷ lengths) = ap suc (cut_size files lengths)
