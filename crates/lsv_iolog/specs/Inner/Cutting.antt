-- Which lines a cut keeps, and how long they make the files.
use Rattle.std.specs.Prelude.{◌≡◌, ◌⊎◌, ℕ, ◌<◌, List, [], ◌++◌, map, take, min, get_or, All, Option, Some, None, slice_index, unwrap_or}
use Rattle.lsv_disk.specs.declared.file.Part.{Part}
use Rattle.lsv_disk.specs.declared.file.Part.TheVariants.{Timing, Stdin, Stdout, Stderr, Ttyin, Ttyout}
use Rattle.lsv_disk.specs.View.{DiskView}
use Rattle.lsv_bundle.specs.declared.body.Body.{Body}
use Rattle.lsv_bundle.specs.declared.view.View.{View}
use Rattle.lsv_bundle.specs.declared.shape.Shape.TheVariants as shapes
use Rattle.lsv_bundle.specs.Body.{length_of}
use Rattle.lsv_bundle.specs.Committed.{Committed, committed_cut}
use Rattle.lsv_bundle.specs.Shape.{eight, index_of}
use Rattle.lsv_bundle.specs.Value.{BundleView, cut_body, IsCommitted}
use Rattle.lsv_record.specs.declared.records.Record.{Record}
use Rattle.lsv_record.specs.Points.{first}
use Rattle.lsv_record.specs.Records.{shape_of, timing_of, IsValid}
use Rattle.lsv_record.specs.Tally.{Totals, totals_of}
use Rattle.lsv_iolog.specs.Inner.Scanning.{text_of, Scan, IsScanning}

-- what the lines through the first that ends at the point come to, where one does
abbrev pub IsFound : List Record → ℕ → Option Totals → Type 0
IsFound records point None = first records point ≡ None
IsFound records point (Some kept) = (first records point ≡ Some kept.count) × (kept ≡ totals_of (map shape_of (take kept.count records)))

-- the lines so far are those of the first records, which end before the point
pub record IsBefore (records : List Record) (point : ℕ) (tally : Totals) : Type 0 where
  pub behind : List Record
  pub rest : List Record
  pub split : records ≡ behind ++ rest
  pub totals : tally ≡ totals_of (map shape_of behind)
  pub earlier : (behind ≡ []) ⊎ (tally.elapsed < point)

-- a loop over the lines of a view for the first that ends at the point
pub record IsSeeking (tells : Type 0) (view : View) (point : ℕ) (old now : DiskView) (scan : Scan) : Type 0 where
  pub scanning : IsScanning tells view old now scan
  pub before : tells → (records : List Record) → All IsValid records → text_of view old Timing ≡ timing_of records → IsBefore records point scan.tally

-- how many bytes of a part stay, none more than there are
abbrev pub length_behind : Body → Totals → Part → ℕ
length_behind body kept Timing = min kept.timing (length_of body Timing)
length_behind body kept Stdin = min (get_or kept.data_bytes 0 0) (length_of body Stdin)
length_behind body kept Stdout = min (get_or kept.data_bytes 1 0) (length_of body Stdout)
length_behind body kept Stderr = min (get_or kept.data_bytes 2 0) (length_of body Stderr)
length_behind body kept Ttyin = min (get_or kept.data_bytes 3 0) (length_of body Ttyin)
length_behind body kept Ttyout = min (get_or kept.data_bytes 4 0) (length_of body Ttyout)
length_behind body kept part = length_of body part

-- what the last entry says
abbrev pub last_of : BundleView → Body
last_of bundle = unwrap_or bundle.last (record { kind = 0; count = 0; elapsed = 0; lens = []; extra = 0 })

-- the entry of a cut after these lines, with this many cuts
abbrev pub body_behind : Body → Totals → ℕ → Body
body_behind body kept cuts = cut_body (eight shapes.Log (length_behind body kept)) kept.count kept.elapsed cuts

-- what it commits
abbrev pub entry_behind : BundleView → DiskView → Totals → ℕ → Committed
entry_behind bundle disk kept cuts = committed_cut bundle disk (eight shapes.Log (length_behind (last_of bundle) kept)) kept.count kept.elapsed cuts

-- the files are cut after these lines
abbrev pub IsCutTo : Totals → ℕ → BundleView → BundleView → Type 0
IsCutTo kept cuts old new = IsCommitted (body_behind (last_of old) kept cuts) (λ part. slice_index (eight shapes.Log (length_behind (last_of old) kept)) (index_of part)) old new
