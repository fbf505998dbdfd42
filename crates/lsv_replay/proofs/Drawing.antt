-- The last numbers of lanes, drawn one after the other.
use Rattle.std.proofs.Common.{◌≡◌, ◌∙◌, ◌⊎◌, inl, inr, ℕ, zero, suc, ◌+◌, ◌<◌, ◌≤◌, max, Option, Some, None, Ok, Err, Bool, true, false, ◌&&◌, ◌==◌, if◌then◌else◌, refl, sym, ap, subst, arith}
use Rattle.std.proofs.Math.Nat.{eq-or-lt_of_le}
use Rattle.std.proofs.lemmas.Bool.Decides.{nat_tests}
use Rattle.std.specs.Option.{option_and_then, option_map}
use Rattle.lsv_disk.specs.declared.file.FileId.{FileId}
use Rattle.lsv_disk.specs.Throughout.{OnlyReads}
use Rattle.lsv_disk.specs.View.{Image, DiskView}
use Rattle.lsv_disk.proofs.Composition.{OnlyNow, reads_trans}
use Rattle.lsv_iolog.proofs.Scans.{reads_nothing}
use Rattle.lsv_play.proofs.Played.{same_image}
use Rattle.lsv_seq.specs.declared.entry.Entry.{Entry}
use Rattle.lsv_seq.specs.declared.fault.SeqFault.TheVariants.{Damaged}
use Rattle.lsv_seq.specs.Drawn.{entry_at, viewed}
use Rattle.lsv_seq.specs.Entry.{is_entry}
use Rattle.lsv_replay.specs.Numbers.{drawn, drawn_in, greatest, last_number}

-- with one lane more
with_one : (a : Option ℕ) (b : Option (ℕ × ℕ)) (most : ℕ) (d : ℕ × ℕ) → a ≡ Some most → b ≡ Some d → option_and_then (λ m. option_map (λ e. max m e.0) b) a ≡ Some (max most d.0)
with_one a b most d p q = rw p (rw q refl)

greatest_more : (lane most : ℕ) (d : ℕ × ℕ) (image : Image) → greatest lane image ≡ Some most → drawn lane image ≡ Some d → greatest (lane + 1) image ≡ Some (max most d.0)
greatest_more lane most d image so_far one = let next : suc lane ≡ lane + 1 = omega arith in subst (λ (k : ℕ). greatest k image ≡ Some (max most d.0)) next (with_one (greatest lane image) (drawn lane image) most d so_far one)

-- without it
without : (a : Option ℕ) (b : Option (ℕ × ℕ)) → (a ≡ None) ⊎ (b ≡ None) → option_and_then (λ m. option_map (λ e. max m e.0) b) a ≡ None
without None b either = refl
without (Some m) None either = refl
without (Some m) (Some d) (inl e) = absurd (cc)
without (Some m) (Some d) (inr e) = absurd (cc)

greatest_none : (lane lanes : ℕ) (image : Image) → drawn lane image ≡ None → lane < lanes → greatest lanes image ≡ None
greatest_none lane zero image none less = absurd (omega arith)
greatest_none lane (suc k) image none less =
    let le : lane ≤ k = omega arith in
    without (greatest k image) (drawn k image) (elim (eq-or-lt_of_le le) [ inl e ↦ inr (subst (λ j. drawn j image ≡ None) e none) | inr lt ↦ inl (greatest_none lane k image none lt) ])

-- a loop over lanes: the disk was only read, and this is the greatest number so far
pub record IsCounting (tells : Type 0) (lane most : ℕ) (old now : DiskView) : Type 0 where
  pub most_is : tells → greatest lane old.reads ≡ Some most
  pub disk : (f : FileId) → old.faults f ≤ now.faults f
  pub reads : tells → OnlyReads old now

pub counting_starts : (tells : Type 0) (disk : DiskView) → (tells → OnlyNow disk) → IsCounting tells 0 0 disk disk
counting_starts tells disk now = record {
  most_is = λ told. refl;
  disk = λ f. omega arith;
  reads = λ told. reads_nothing disk (now told);
}

pub counting_goes_on : (tells : Type 0) (lane most more : ℕ) (d : ℕ × ℕ) (old now later : DiskView) → IsCounting tells lane most old now → (tells → drawn lane now.reads ≡ Some d) → more ≡ max most d.0
    → ((f : FileId) → now.faults f ≤ later.faults f) → (tells → OnlyReads now later) → IsCounting tells (lane + 1) more old later
counting_goes_on tells lane most more d old now later is one more_is mono reads = record {
  most_is = λ told. greatest_more lane most d old.reads (is.most_is told) (subst (λ (image : Image). drawn lane image ≡ Some d) (same_image old now (is.reads told)) (one told)) ∙ ap (λ (n : ℕ). Some n) (sym more_is);
  disk = λ f. omega (arith, is.disk f, mono f);
  reads = λ told. reads_trans old now later (is.reads told) (reads told);
}

-- a lane's number file is refused
pub counting_stops : (tells : Type 0) (lane most lanes : ℕ) (old now : DiskView) → IsCounting tells lane most old now → lane < lanes → (told : tells) → drawn lane now.reads ≡ None → greatest lanes old.reads ≡ None
counting_stops tells lane most lanes old now is less told none = greatest_none lane lanes old.reads (subst (λ (image : Image). drawn lane image ≡ None) (same_image old now (is.reads told)) none) less

-- ---- no number is greater than those of six digits

both_true : (a b : Bool) → (a && b) ≡ true → b ≡ true
both_true true b e = e
both_true false b e = absurd (cc)

last_at_most : (e : Entry) → is_entry e ≡ true → e.last ≤ 2176782335
last_at_most e is = grind (arith, nat_tests)

found_at_most : (b : Bool) (e : Entry) (d : ℕ × ℕ) → (b ≡ true → e.last ≤ 2176782335) → drawn_in (if b then Ok (Some (e.last, e.lanes)) else Err Damaged) ≡ Some d → d.0 ≤ 2176782335
found_at_most true e d small is = let same : (e.last, e.lanes) ≡ d = cc in let first : e.last ≡ d.0 = ap (λ (p : ℕ × ℕ). p.0) same in omega (arith, small refl)
found_at_most false e d small is = absurd (cc)

drawn_at_most : (lane : ℕ) (o : Option Entry) (d : ℕ × ℕ) → drawn_in (viewed lane o) ≡ Some d → d.0 ≤ 2176782335
drawn_at_most lane None d is = let same : (0, 0) ≡ d = cc in let first : 0 ≡ d.0 = ap (λ (p : ℕ × ℕ). p.0) same in omega arith
drawn_at_most lane (Some e) d is = found_at_most (e.lane == lane && is_entry e) e d (λ both. last_at_most e (both_true (e.lane == lane) (is_entry e) both)) is

one_at_most : (a : Option ℕ) (b : Option (ℕ × ℕ)) (n : ℕ) → ((m : ℕ) → a ≡ Some m → m ≤ 2176782335) → ((d : ℕ × ℕ) → b ≡ Some d → d.0 ≤ 2176782335)
    → option_and_then (λ m. option_map (λ e. max m e.0) b) a ≡ Some n → n ≤ 2176782335
one_at_most None b n first second is = absurd (cc)
one_at_most (Some m) None n first second is = absurd (cc)
one_at_most (Some m) (Some d) n first second is = let same : max m d.0 ≡ n = cc in omega (arith, first m refl, second d refl)

greatest_at_most : (lanes : ℕ) (image : Image) (n : ℕ) → greatest lanes image ≡ Some n → n ≤ 2176782335
greatest_at_most zero image n is = let same : 0 ≡ n = cc in omega arith
greatest_at_most (suc lanes) image n is =
    one_at_most (greatest lanes image) (drawn lanes image) n (λ m e. greatest_at_most lanes image m e) (λ d e. drawn_at_most lanes (entry_at lanes image) d e) is

-- the last number of a listing has six digits
pub last_small : (image : Image) (n : ℕ) → last_number image ≡ Some n → n ≤ 2176782335
unfolding last_number
last_small image n is = at (drawn 0 image) is where
  at : (o : Option (ℕ × ℕ)) → option_and_then (λ d. greatest d.1 image) o ≡ Some n → n ≤ 2176782335
  at (Some d) e = greatest_at_most d.1 image n e
  at None e = absurd (cc)

-- ---- lane 0 and all lanes

pub last_is : (image : Image) (d : ℕ × ℕ) (n : ℕ) → drawn 0 image ≡ Some d → greatest d.1 image ≡ Some n → last_number image ≡ Some n
unfolding last_number
last_is image d n first all = rw first all

pub last_none : (image : Image) (d : ℕ × ℕ) → drawn 0 image ≡ Some d → greatest d.1 image ≡ None → last_number image ≡ None
unfolding last_number
last_none image d first all = rw first all

pub last_refused : (image : Image) → drawn 0 image ≡ None → last_number image ≡ None
unfolding last_number
last_refused image first = rw first refl
