-- The last numbers of lanes, drawn one after the other.
use Rattle.std.proofs.Common.{◌≡◌, IfErr, IfOk, IsErrAnd, Result, ◌∙◌, inl, inr, ℕ, zero, suc, ◌+◌, ◌<◌, ◌≤◌, max, Option, Some, None, Ok, Err, Bool, true, false, ◌&&◌, ◌==◌, if◌then◌else◌, refl, sym, ap, subst, arith}
use Rattle.std.proofs.lemmas.Bool.Decides.{nat_tests}
use Rattle.std.specs.Option.{option_and_then, option_map}
use Rattle.lsv_disk.specs.declared.file.FileId.{FileId}
use Rattle.lsv_disk.specs.Throughout.{OnlyReads}
use Rattle.lsv_disk.specs.View.{Image, DiskView}
use Rattle.lsv_disk.proofs.Composition.{OnlyNow, reads_trans, risen_second, started, unchanged_reads}
use Rattle.lsv_seq.specs.declared.entry.Entry.{Entry}
use Rattle.lsv_seq.specs.declared.fault.SeqFault.TheVariants.{Damaged}
use Rattle.lsv_seq.specs.Drawn.{entry_at, viewed}
use Rattle.lsv_seq.specs.Entry.{is_entry}
use Rattle.lsv_forward.specs.Numbers.{HasLaneCause, HasNumbersCause, drawn, drawn_in, greatest, lane_of, last_number}
use Rattle.lsv_forward.specs.declared.fault.NumbersFault.{NumbersFault}
use Rattle.lsv_forward.specs.declared.fault.NumbersFault.TheVariants as faults

-- with one lane more
with_one : (a : Option ℕ) (b : Option (ℕ × ℕ)) (most : ℕ) (d : ℕ × ℕ) → a ≡ Some most → b ≡ Some d → option_and_then (λ m. option_map (λ e. max m e.0) b) a ≡ Some (max most d.0)
with_one a b most d p q = rw p (rw q refl)

greatest_more : (lane most : ℕ) (d : ℕ × ℕ) (image : Image) → greatest lane image ≡ Some most → drawn lane image ≡ Some d → greatest (lane + 1) image ≡ Some (max most d.0)
greatest_more lane most d image so_far one = let next : suc lane ≡ lane + 1 = omega arith in subst (λ (k : ℕ). greatest k image ≡ Some (max most d.0)) next (with_one (greatest lane image) (drawn lane image) most d so_far one)

-- a disk that was only read reads as before
pub same_image : (old new : DiskView) → OnlyReads old new → new.reads ≡ old.reads
same_image old new reads = λ i file. unchanged_reads old new reads.unchanged file i

pub reads_nothing : (disk : DiskView) → OnlyNow disk → OnlyReads disk disk
reads_nothing disk now = record { unchanged = started (λ _. ⊥) (λ _. Unit {0}) disk now (λ image is. tt); counts = record { writes = λ f. refl; syncs = λ f. refl } }

-- the cause of a lane's number file after others were read
pub cause_later : (tells : Type 0) (old now later : DiskView) (fault : NumbersFault) → ((f : FileId) → old.faults f ≤ now.faults f) → (tells → OnlyReads old now) → HasLaneCause tells now later fault → HasLaneCause tells old later fault
cause_later tells old now later (faults.Disk lane) up reads (file, own, rise) = (file, own, risen_second (old.faults file) (now.faults file) (later.faults file) (up file) rise)
cause_later tells old now later (faults.Damaged lane) up reads damaged = λ told. subst (λ (image : Image). viewed lane (entry_at lane image) ≡ Err Damaged) (same_image old now (reads told)) (damaged told)

pub if_cause_later : {T : Type 0} (r : Result T NumbersFault) (tells : Type 0) (old now later : DiskView) → ((f : FileId) → old.faults f ≤ now.faults f) → (tells → OnlyReads old now)
    → IfErr r (λ fault. HasLaneCause tells now later fault) → IfErr r (λ fault. HasLaneCause tells old later fault)
if_cause_later (Ok x) tells old now later up reads c = tt
if_cause_later (Err fault) tells old now later up reads c = cause_later tells old now later fault up reads c

-- a loop over lanes: the disk was only read, and this is the greatest number so far
pub record IsCounting (tells : Type 0) (lane most : ℕ) (old now : DiskView) : Type 0 where
  pub most_is : tells → greatest lane old.reads ≡ Some most
  pub monotone : (f : FileId) → old.faults f ≤ now.faults f
  pub reads : tells → OnlyReads old now

pub counting_starts : (tells : Type 0) (disk : DiskView) → (tells → OnlyNow disk) → IsCounting tells 0 0 disk disk
counting_starts tells disk now = record {
  most_is = λ told. refl;
  monotone = λ f. omega arith;
  reads = λ told. reads_nothing disk (now told);
}

pub counting_goes_on : (tells : Type 0) (lane most more : ℕ) (d : ℕ × ℕ) (old now later : DiskView) → IsCounting tells lane most old now → (tells → drawn lane now.reads ≡ Some d) → more ≡ max most d.0
    → ((f : FileId) → now.faults f ≤ later.faults f) → (tells → OnlyReads now later) → IsCounting tells (lane + 1) more old later
counting_goes_on tells lane most more d old now later is one more_is mono reads = record {
  most_is = λ told. greatest_more lane most d old.reads (is.most_is told) (subst (λ (image : Image). drawn lane image ≡ Some d) (same_image old now (is.reads told)) (one told)) ∙ ap (λ (n : ℕ). Some n) (sym more_is);
  monotone = λ f. omega (arith, is.monotone f, mono f);
  reads = λ told. reads_trans old now later (is.reads told) (reads told);
}

-- ---- no number is greater than those of six digits

both_true : (a b : Bool) → (a && b) ≡ true → b ≡ true
both_true true b e = e
both_true false b e = absurd (cc)

last_at_most : (e : Entry) → is_entry e ≡ true → e.last ≤ 2176782335
last_at_most e is = grind (arith, nat_tests)

found_at_most : (b : Bool) (e : Entry) (d : ℕ × ℕ) → (b ≡ true → e.last ≤ 2176782335) → drawn_in (if b then Ok (Some (e.last, e.lanes)) else Err Damaged) ≡ Some d → d.0 ≤ 2176782335
found_at_most true e d small is = let same : (e.last, e.lanes) ≡ d = cc in let first : e.last ≡ d.0 = ap (λ (p : ℕ × ℕ). p.0) same in omega (arith, small refl)
found_at_most false e d small is = absurd (cc)

drawn_at_most : (lane : ℕ) (o : Option Entry) (d : ℕ × ℕ) → drawn_in (viewed lane o) ≡ Some d → d.0 ≤ 2176782335
drawn_at_most lane None d is = let same : (0, 0) ≡ d = cc in let first : 0 ≡ d.0 = ap (λ (p : ℕ × ℕ). p.0) same in omega arith
drawn_at_most lane (Some e) d is = found_at_most (e.lane == lane && is_entry e) e d (λ both. last_at_most e (both_true (e.lane == lane) (is_entry e) both)) is

one_at_most : (a : Option ℕ) (b : Option (ℕ × ℕ)) (n : ℕ) → ((m : ℕ) → a ≡ Some m → m ≤ 2176782335) → ((d : ℕ × ℕ) → b ≡ Some d → d.0 ≤ 2176782335)
    → option_and_then (λ m. option_map (λ e. max m e.0) b) a ≡ Some n → n ≤ 2176782335
one_at_most None b n first second is = absurd (cc)
one_at_most (Some m) None n first second is = absurd (cc)
one_at_most (Some m) (Some d) n first second is = let same : max m d.0 ≡ n = cc in omega (arith, first m refl, second d refl)

greatest_at_most : (lanes : ℕ) (image : Image) (n : ℕ) → greatest lanes image ≡ Some n → n ≤ 2176782335
greatest_at_most zero image n is = let same : 0 ≡ n = cc in omega arith
greatest_at_most (suc lanes) image n is =
    one_at_most (greatest lanes image) (drawn lanes image) n (λ m e. greatest_at_most lanes image m e) (λ d e. drawn_at_most lanes (entry_at lanes image) d e) is

-- the last number of a listing has six digits
pub last_small : (image : Image) (n : ℕ) → last_number image ≡ Some n → n ≤ 2176782335
unfolding last_number
last_small image n is = at (drawn 0 image) is where
  at : (o : Option (ℕ × ℕ)) → option_and_then (λ d. greatest d.1 image) o ≡ Some n → n ≤ 2176782335
  at (Some d) e = greatest_at_most d.1 image n e
  at None e = absurd (cc)

-- ---- lane 0 and all lanes

pub last_is : (image : Image) (d : ℕ × ℕ) (n : ℕ) → drawn 0 image ≡ Some d → greatest d.1 image ≡ Some n → last_number image ≡ Some n
unfolding last_number
last_is image d n first all = rw first all

-- ---- An answer by cases

pub if_ok_map : {T E : Type 0} (r : Result T E) (P Q : T → Type 0) → ((x : T) → P x → Q x) → IfOk r P → IfOk r Q
if_ok_map (Ok x) P Q step p = step x p
if_ok_map (Err e) P Q step p = tt

pub if_cause_of : {T : Type 0} (r : Result T NumbersFault) (fault : NumbersFault) → IsErrAnd r (λ x. x ≡ fault) → (tells : Type 0) (old now later : DiskView) → ((f : FileId) → old.faults f ≤ now.faults f) → (tells → OnlyReads old now)
    → HasLaneCause tells now later fault → IfErr r (λ x. HasLaneCause tells old later x)
if_cause_of (Ok x) fault is tells old now later up reads c = tt
if_cause_of (Err x) fault is tells old now later up reads c = subst (λ (f : NumbersFault). HasLaneCause tells old later f) (sym is) (cause_later tells old now later fault up reads c)

-- the fault of a lane that is this one
pub if_lane_of : {T : Type 0} (r : Result T NumbersFault) (fault : NumbersFault) → IsErrAnd r (λ x. x ≡ fault) → (lane lanes : ℕ) → lane_of fault ≡ lane → lane < lanes → IfErr r (λ x. lane_of x < lanes)
if_lane_of (Ok x) fault is lane lanes same below = tt
if_lane_of (Err x) fault is lane lanes same below = let e : lane_of x ≡ lane_of fault = ap lane_of is in omega arith

-- lane 0's numbers aren't read
pub if_first_cause : {T : Type 0} (r : Result T NumbersFault) (fault : NumbersFault) → IsErrAnd r (λ x. x ≡ fault) → (tells : Type 0) (old new : DiskView) → HasLaneCause tells old new fault → lane_of fault ≡ 0 → IfErr r (λ x. HasNumbersCause tells old new x)
if_first_cause (Ok x) fault is tells old new c first = tt
if_first_cause (Err x) fault is tells old new c first = subst (λ (f : NumbersFault). HasNumbersCause tells old new f) (sym is) (c, λ told. inl first)

-- those of one of the lanes aren't, after lane 0's were
pub if_numbers_cause : {T : Type 0} (r : Result T NumbersFault) (tells : Type 0) (old mid new : DiskView) (d : ℕ × ℕ) → ((f : FileId) → old.faults f ≤ mid.faults f) → (tells → OnlyReads old mid) → (tells → drawn 0 old.reads ≡ Some d)
    → IfErr r (λ x. HasLaneCause tells mid new x) → IfErr r (λ x. lane_of x < d.1) → IfErr r (λ x. HasNumbersCause tells old new x)
if_numbers_cause (Ok x) tells old mid new d up reads first c below = tt
if_numbers_cause (Err x) tells old mid new d up reads first c below = (cause_later tells old mid new x up reads c, λ told. inr (d, first told, below))
