-- What each image of each moment of some calls keeps of the relaying of a log.
use Rattle.std.proofs.Common.{◌≡◌, ◌∙◌, inl, inr, ℕ, ◌≤◌, ◌==◌, Bool, true, false, if◌then◌else◌, List, Option, refl, sym, ap, subst, arith}
use Rattle.std.proofs.lemmas.Bool.{cases_lt}
use Rattle.std.proofs.lemmas.Bool.Decides.{nat_tests}
use Rattle.lsv_disk.specs.declared.file.FileId.{FileId}
use Rattle.lsv_disk.specs.declared.file.Owner.{Owner}
use Rattle.lsv_disk.specs.declared.file.Owner.TheVariants as owners
use Rattle.lsv_disk.specs.Throughout.{Throughout, Unchanged}
use Rattle.lsv_disk.specs.View.{DiskView, Image, IsCrashImage}
use Rattle.lsv_disk.proofs.Composition.{OnlyNow}
use Rattle.lsv_bundle.specs.Shape.{journal_of}
use Rattle.lsv_journal.specs.Last.{LastAt}
use Rattle.lsv_journal.proofs.Laws.{own_alone, own_owner}
use Rattle.lsv_kept.specs.Aim.{AimView}
use Rattle.lsv_kept.specs.Kept.{IsAsBefore, IsOfRelay, Keeps, SameFiles, owner_of}
use Rattle.lsv_kept.specs.declared.state.State.{State}
use Rattle.lsv_kept.proofs.Unique.{keeps_alone}
use Rattle.lsv_relay.specs.Talks.{IsDurable}
use Rattle.lsv_forward.specs.Carried.{AtEach, InTurn}

-- what the laws of a disk say of it
pub record Laws (disk : DiskView) : Type 0 where
  pub reads_itself : IsCrashImage disk disk.reads
  pub is_now : (image : Image) → IsCrashImage disk image → disk.crash_images_at disk.moment image

-- ---- The files of a relaying from one image, all others from another

abbrev is_relay : ℕ → Owner → Bool
is_relay n (owners.Log m) = false
is_relay n (owners.Events m) = false
is_relay n (owners.Numbers m) = false
is_relay n (owners.Relay m) = n == m

relay_self : (n : ℕ) → is_relay n (owners.Relay n) ≡ true
relay_self n = grind (arith, nat_tests)

relay_is : (n : ℕ) (owner : Owner) → is_relay n owner ≡ true → owner ≡ owners.Relay n
relay_is n (owners.Log m) e = absurd (cc)
relay_is n (owners.Events m) e = absurd (cc)
relay_is n (owners.Numbers m) e = absurd (cc)
relay_is n (owners.Relay m) e = grind (arith, nat_tests)

abbrev mix : ℕ → Image → Image → Image
mix n a b file = if is_relay n file.owner then a file else b file

mix_same : (n : ℕ) (a b : Image) → SameFiles n (mix n a b) a
mix_same n a b file own = let e : is_relay n file.owner ≡ true = ap (is_relay n) own ∙ relay_self n in sym (ap (λ (t : Bool). if t then a file else b file) e)

mix_image : (n : ℕ) (a : Image) (disk : DiskView) → IsCrashImage disk disk.reads → ((file : FileId) → IsOfRelay n file → disk.crash_states file (a file)) → IsCrashImage disk (mix n a disk.reads)
mix_image n a disk itself own file = go (is_relay n file.owner) refl
  where
    go : (b : Bool) → is_relay n file.owner ≡ b → disk.crash_states file (if is_relay n file.owner then a file else disk.reads file)
    go true e = subst (λ (t : Bool). disk.crash_states file (if t then a file else disk.reads file)) (sym e) (own file (relay_is n file.owner e))
    go false e = subst (λ (t : Bool). disk.crash_states file (if t then a file else disk.reads file)) (sym e) (itself file)

-- ---- What is said of an image by these files alone

abbrev IsLocal : ℕ → (Image → Type 0) → Type 0
IsLocal n P = (image other : Image) → SameFiles n image other → P image → P other

back_files : (n : ℕ) (image other : Image) → SameFiles n image other → SameFiles n other image
back_files n image other same file own = sym (same file own)

last_files : (n : ℕ) (image other : Image) → SameFiles n image other → LastAt 89 (journal_of (owner_of n)) other ≡ LastAt 89 (journal_of (owner_of n)) image
last_files n image other same = own_alone 89 (journal_of (owner_of n)) image other (λ g own. same g (own_owner (journal_of (owner_of n)) g own))

as_before_local : (n : ℕ) (old : DiskView) → IsLocal n (IsAsBefore n old)
as_before_local n old image other same a = record {
  before = a.before;
  was = a.was;
  entry = last_files n image other same ∙ a.entry;
  same = λ aim state keeps. keeps_alone n aim image other state same (a.same aim state keeps);
  back = λ aim state keeps. a.back aim state (keeps_alone n aim other image state (back_files n image other same) keeps);
}

-- of the relaying's files the image has what a crash could leave on that disk
pub as_before_files : (n : ℕ) (old : DiskView) (image : Image) → IsCrashImage old old.reads → ((file : FileId) → IsOfRelay n file → old.crash_states file (image file)) → IsAsBefore n old image
as_before_files n old image itself own = record {
  before = mix n image old.reads;
  was = mix_image n image old itself own;
  entry = last_files n (mix n image old.reads) image (mix_same n image old.reads);
  same = λ aim state keeps. keeps_alone n aim (mix n image old.reads) image state (mix_same n image old.reads) keeps;
  back = λ aim state keeps. keeps_alone n aim image (mix n image old.reads) state (back_files n (mix n image old.reads) image (mix_same n image old.reads)) keeps;
}

-- one that a crash could leave before such calls is one of before the calls before them
as_before_on : (n : ℕ) (old now : DiskView) (image : Image) → IsCrashImage old old.reads → ((file : FileId) → IsOfRelay n file → (c : Option (List ℕ)) → now.crash_states file c → old.crash_states file c) → IsAsBefore n now image → IsAsBefore n old image
as_before_on n old now image itself earlier a =
    let b = as_before_files n old a.before itself (λ file own. earlier file own (a.before file) (a.was file)) in record {
      before = b.before;
      was = b.was;
      entry = a.entry ∙ b.entry;
      same = λ aim state keeps. a.same aim state (b.same aim state keeps);
      back = λ aim state keeps. b.back aim state (a.back aim state keeps);
    }

-- ---- Moments

as_itself : (n : ℕ) (old : DiskView) (image : Image) → IsCrashImage old image → IsAsBefore n old image
as_itself n old image is = record { before = image; was = is; entry = refl; same = λ aim state keeps. keeps; back = λ aim state keeps. keeps }

-- the calls on one log: it is opened, and then there is a connection
pub turn_one : (n : ℕ) (old mid new : DiskView) → Throughout (IsOfRelay n) (IsAsBefore n old) old mid → Throughout (IsOfRelay n) (λ image. Unit {0}) mid new → OnlyNow new → InTurn n old mid new new
turn_one n old mid new first second now = record {
  begins = first.later;
  ends = second.later;
  rests = omega arith;
  before = λ k image from to left. first.each k image from to (second.past k image to left);
  during = λ k image from to left. left;
  after = λ k image from to left. let last : k ≡ new.moment = omega (arith, from, to) in as_itself n new image (now image (subst (λ (i : ℕ). new.crash_images_at i image) last left));
  now = as_itself n new;
}

-- later calls leave its files alone
pub later_at : (n : ℕ) (Touched : FileId → Type 0) (P : Image → Type 0) (old now later : DiskView) → IsLocal n P → Laws now → ((file : FileId) → IsOfRelay n file → Touched file → ⊥) → old.moment ≤ now.moment
    → Throughout Touched (λ image. Unit {0}) now later → AtEach P old now → AtEach P old later
later_at n Touched P old now later local laws apart up run each k image from to left = elim (cases_lt now.moment k) [
  | inl after ↦ (
      let le : now.moment ≤ k = omega (arith, after) in
      local (mix n image now.reads) image (mix_same n image now.reads)
      (each now.moment (mix n image now.reads) up (omega arith) (laws.is_now (mix n image now.reads) (mix_image n image now laws.reads_itself (λ file own. run.beside k image le to left file (λ t. apart file own t)))))
      )
  | inr before ↦ each k image from before (run.past k image before left)
]

-- and so does a crash after them
pub left_at : (n : ℕ) (Touched : FileId → Type 0) (P : Image → Type 0) (now later : DiskView) → IsLocal n P → Laws now → ((file : FileId) → IsOfRelay n file → Touched file → ⊥) → Throughout Touched (λ image. Unit {0}) now later
    → ((image : Image) → IsCrashImage now image → P image) → (image : Image) → IsCrashImage later image → P image
left_at n Touched P now later local laws apart run each image is =
    local (mix n image now.reads) image (mix_same n image now.reads)
    (each (mix n image now.reads) (mix_image n image now laws.reads_itself (λ file own. run.elsewhere.crash file (λ t. apart file own t) (image file) (is file))))

-- earlier calls left its files alone
since_point : (n : ℕ) (Touched : FileId → Type 0) (old now : DiskView) (k : ℕ) (image : Image) → IsCrashImage old old.reads → ((file : FileId) → IsOfRelay n file → Touched file → ⊥) → Throughout Touched (λ image. Unit {0}) old now
    → old.moment ≤ k → (k ≤ now.moment → now.crash_images_at k image) → (now.moment ≤ k → IsAsBefore n now image) → IsAsBefore n old image
since_point n Touched old now k image itself apart first from past each = elim (cases_lt now.moment k) [
  | inl after ↦ as_before_on n old now image itself (λ file own c. first.elsewhere.crash file (λ t. apart file own t) c) (each (omega (arith, after)))
  | inr before ↦ as_before_files n old image itself (λ file own. first.beside k image from before (past before) file (λ t. apart file own t))
]

pub since_before : (n : ℕ) (Touched Own : FileId → Type 0) (old now later : DiskView) → IsCrashImage old old.reads → ((file : FileId) → IsOfRelay n file → Touched file → ⊥) → Throughout Touched (λ image. Unit {0}) old now
    → Throughout Own (λ image. Unit {0}) now later → AtEach (IsAsBefore n now) now later → AtEach (IsAsBefore n old) old later
since_before n Touched Own old now later itself apart first second each k image from to left =
    since_point n Touched old now k image itself apart first from (λ before. second.past k image before left) (λ after. each k image after to left)

pub turn_since : (n : ℕ) (Touched Own : FileId → Type 0) (began disk old now later : DiskView) → IsCrashImage old old.reads → ((file : FileId) → IsOfRelay n file → Touched file → ⊥) → Throughout Touched (λ image. Unit {0}) old now
    → Throughout Own (λ image. Unit {0}) now later → InTurn n now began disk later → InTurn n old began disk later
turn_since n Touched Own began disk old now later itself apart first second t = record {
  begins = omega (arith, first.later, t.begins);
  ends = t.ends;
  rests = t.rests;
  before = λ k image from to left. since_point n Touched old now k image itself apart first from (λ before. second.past k image before left) (λ after. t.before k image after to left);
  during = t.during;
  after = t.after;
  now = t.now;
}

-- a disk that reads as one before, whose crash images are crash images of that one
pub record SameStart (old now : DiskView) : Type 0 where
  pub reads : now.reads ≡ old.reads
  pub up : old.moment ≤ now.moment
  pub images : (image : Image) → IsCrashImage now image → IsCrashImage old image
  pub meanwhile : (k : ℕ) (image : Image) → old.moment ≤ k → k ≤ now.moment → now.crash_images_at k image → IsCrashImage old image

pub unchanged_start : (old now : DiskView) → Unchanged old now → SameStart old now
unchanged_start old now u = record {
  reads = λ i file. u.elsewhere.same file (λ none. none) i;
  up = u.later;
  images = λ image is file. u.elsewhere.crash file (λ none. none) (image file) (is file);
  meanwhile = λ k image from to left file. u.beside k image from to left file (λ none. none);
}

as_start : (n : ℕ) (old now : DiskView) (image : Image) → SameStart old now → IsAsBefore n now image → IsAsBefore n old image
as_start n old now image start a = record { before = a.before; was = start.images a.before a.was; entry = a.entry; same = a.same; back = a.back }

start_point : (n : ℕ) (old now : DiskView) (k : ℕ) (image : Image) → SameStart old now → old.moment ≤ k → (k ≤ now.moment → now.crash_images_at k image) → (now.moment ≤ k → IsAsBefore n now image) → IsAsBefore n old image
start_point n old now k image start from past each = elim (cases_lt now.moment k) [
  | inl after ↦ as_start n old now image start (each (omega (arith, after)))
  | inr before ↦ as_itself n old image (start.meanwhile k image from before (past before))
]

pub start_before : (n : ℕ) (Own : FileId → Type 0) (old now later : DiskView) → SameStart old now → Throughout Own (λ image. Unit {0}) now later → AtEach (IsAsBefore n now) now later → AtEach (IsAsBefore n old) old later
start_before n Own old now later start second each k image from to left = start_point n old now k image start from (λ before. second.past k image before left) (λ after. each k image after to left)

pub turn_start : (n : ℕ) (Own : FileId → Type 0) (began disk old now later : DiskView) → SameStart old now → Throughout Own (λ image. Unit {0}) now later → InTurn n now began disk later → InTurn n old began disk later
turn_start n Own began disk old now later start second t = record {
  begins = omega (arith, start.up, t.begins);
  ends = t.ends;
  rests = t.rests;
  before = λ k image from to left. start_point n old now k image start from (λ before. second.past k image before left) (λ after. t.before k image after to left);
  during = t.during;
  after = t.after;
  now = t.now;
}

pub before_later : (n : ℕ) (Touched : FileId → Type 0) (old now later : DiskView) → Laws now → ((file : FileId) → IsOfRelay n file → Touched file → ⊥) → old.moment ≤ now.moment → Throughout Touched (λ image. Unit {0}) now later
    → AtEach (IsAsBefore n old) old now → AtEach (IsAsBefore n old) old later
before_later n Touched old now later laws apart up run each = later_at n Touched (IsAsBefore n old) old now later (as_before_local n old) laws apart up run each

pub turn_later : (n : ℕ) (Touched : FileId → Type 0) (began disk old now later : DiskView) → Laws now → ((file : FileId) → IsOfRelay n file → Touched file → ⊥) → Throughout Touched (λ image. Unit {0}) now later
    → InTurn n old began disk now → InTurn n old began disk later
turn_later n Touched began disk old now later laws apart run t = record {
  begins = t.begins;
  ends = t.ends;
  rests = omega (arith, t.rests, run.later);
  before = λ k image from to left. t.before k image from to (run.past k image (omega (arith, to, t.ends, t.rests)) left);
  during = λ k image from to left. t.during k image from to (run.past k image (omega (arith, to, t.rests)) left);
  after = later_at n Touched (IsAsBefore n disk) disk now later (as_before_local n disk) laws apart t.rests run t.after;
  now = left_at n Touched (IsAsBefore n disk) now later (as_before_local n disk) laws apart run t.now;
}

-- what is kept of it is there after calls that leave its files alone
pub durable_later : (n : ℕ) (Touched : FileId → Type 0) (aim : AimView) (state : State) (now later : DiskView) → Laws now → ((file : FileId) → IsOfRelay n file → Touched file → ⊥) → Throughout Touched (λ image. Unit {0}) now later
    → IsDurable n aim state now → IsDurable n aim state later
durable_later n Touched aim state now later laws apart run kept =
    left_at n Touched (λ image. Keeps n aim image state) now later (λ image other same keeps. keeps_alone n aim image other state same keeps) laws apart run kept
