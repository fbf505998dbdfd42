-- How calls compose: each lemma is over the views alone, so that a caller cites one a device call. Crates above cite
-- these lemmas and those of Same, and no other of this crate.
use Rattle.std.proofs.Common.{◌≡◌, ℕ, ◌+◌, ◌≤◌, ◌<◌, ◌⊎◌, inl, inr, Result, Ok, Err, OnOk, arith, refl, sym, ◌∙◌, subst}
use Rattle.std.proofs.lemmas.Bool.{cases_lt}
use Rattle.lsv_defs.specs.Causes.{HasRisen}
use Rattle.lsv_disk.specs.declared.file.FileId.{FileId}
use Rattle.lsv_disk.specs.View.{Image, DiskView, IsCrashImage, Elapses, Elsewhere, Quiet, Uncounted, OneRead, OneMaking, RoseByOne, OneWrite, OneSync, HasCause, HasOwnCause}
use Rattle.lsv_disk.specs.Throughout.{Throughout, Unchanged, OnlyReads, RoseAtMost, CallsAtMost, Jointly}

-- a crash at the moment that is now leaves what it may leave now, and nothing else
abbrev pub OnlyNow : DiskView → Type 0
OnlyNow disk = (image : Image) → disk.crash_images_at disk.moment image → IsCrashImage disk image

-- nothing was called
pub started : (Touched : FileId → Type 0) (P : Image → Type 0) (disk : DiskView) → OnlyNow disk → ((image : Image) → IsCrashImage disk image → P image) → Throughout Touched P disk disk
started Touched P disk only_now here = record {
  later = omega arith;
  past = λ k image le left. left;
  keeps = λ k image le left. left;
  elsewhere = record { same = λ g other. refl; crash = λ g other c left. left };
  each = λ k image from to left. let e : k ≡ disk.moment = omega arith in here image (only_now image (subst (λ (m : ℕ). disk.crash_images_at m image) e left));
  beside = λ k image from to left g other. let e : k ≡ disk.moment = omega arith in only_now image (subst (λ (m : ℕ). disk.crash_images_at m image) e left) g;
  places = refl;
}

-- an image of a moment of one call is one from before it, or one that a crash leaves now
pub of_call : (old new : DiskView) → Elapses old new → OnlyNow old → OnlyNow new → (k : ℕ) (image : Image) → old.moment ≤ k → k ≤ new.moment → new.crash_images_at k image → IsCrashImage old image ⊎ IsCrashImage new image
of_call old new time only_old only_new k image from to left = elim (cases_lt old.moment k) [
  | inl after ↦ let e : k ≡ new.moment = omega (arith, time.one) in inr (only_new image (subst (λ (m : ℕ). new.crash_images_at m image) e left))
  | inr before ↦ let e : k ≡ old.moment = omega arith in inl (only_old image (subst (λ (m : ℕ). old.crash_images_at m image) e (time.past k image before left)))
]

-- one call, of which a crash leaves P before and after
pub one_call : (Touched : FileId → Type 0) (P : Image → Type 0) (old new : DiskView) → Elapses old new → Elsewhere Touched old new → new.places ≡ old.places → OnlyNow old → OnlyNow new
    → ((image : Image) → IsCrashImage old image → P image) → ((image : Image) → IsCrashImage new image → P image) → Throughout Touched P old new
one_call Touched P old new time elsewhere places only_old only_new before after = record {
  later = time.later;
  past = time.past;
  keeps = time.keeps;
  elsewhere = elsewhere;
  each = λ k image from to left. elim (of_call old new time only_old only_new k image from to left) [ inl was ↦ before image was | inr is ↦ after image is ];
  beside = λ k image from to left g other. elim (of_call old new time only_old only_new k image from to left) [ inl was ↦ was g | inr is ↦ elsewhere.crash g other (image g) (is g) ];
  places = places;
}

-- one call that makes a file
pub one_making : (f : FileId) (P : Image → Type 0) (old new : DiskView) → OneMaking f old new → OnlyNow old → OnlyNow new
    → ((image : Image) → IsCrashImage old image → P image) → ((image : Image) → IsCrashImage new image → P image) → Throughout (λ g. g ≡ f) P old new
one_making f P old new making only_old only_new before after =
    one_call (λ g. g ≡ f) P old new making.time making.elsewhere making.places only_old only_new before after

-- one call that writes
pub one_write : (f : FileId) (P : Image → Type 0) (old new : DiskView) → OneWrite f old new → OnlyNow old → OnlyNow new
    → ((image : Image) → IsCrashImage old image → P image) → ((image : Image) → IsCrashImage new image → P image) → Throughout (λ g. g ≡ f) P old new
one_write f P old new write only_old only_new before after =
    one_call (λ g. g ≡ f) P old new write.time write.elsewhere write.places only_old only_new before after

-- some calls, and then others
pub followed : (Touched : FileId → Type 0) (P : Image → Type 0) (old mid new : DiskView) → Throughout Touched P old mid → Throughout Touched P mid new → Throughout Touched P old new
followed Touched P old mid new first second = record {
  later = omega (arith, first.later, second.later);
  past = λ k image le left. first.past k image le (second.past k image (omega (arith, first.later)) left);
  keeps = λ k image le left. second.keeps k image (omega (arith, first.later)) (first.keeps k image le left);
  elsewhere = record {
    same = λ g other. second.elsewhere.same g other ∙ first.elsewhere.same g other;
    crash = λ g other c left. first.elsewhere.crash g other c (second.elsewhere.crash g other c left);
  };
  each = λ k image from to left. elim (cases_lt mid.moment k) [
    | inl after ↦ second.each k image (omega arith) to left
    | inr before ↦ first.each k image from before (second.past k image before left)
  ];
  beside = λ k image from to left g other. elim (cases_lt mid.moment k) [
    | inl after ↦ first.elsewhere.crash g other (image g) (second.beside k image (omega arith) to left g other)
    | inr before ↦ first.beside k image from before (second.past k image before left) g other
  ];
  places = second.places ∙ first.places;
}

-- some calls, and then one more
pub goes_on : (Touched : FileId → Type 0) (P : Image → Type 0) (old mid new : DiskView) → Throughout Touched P old mid → Elapses mid new → Elsewhere Touched mid new → new.places ≡ mid.places → OnlyNow mid → OnlyNow new
    → ((image : Image) → IsCrashImage mid image → P image) → ((image : Image) → IsCrashImage new image → P image) → Throughout Touched P old new
goes_on Touched P old mid new first time elsewhere places only_mid only_new before after =
    followed Touched P old mid new first (one_call Touched P mid new time elsewhere places only_mid only_new before after)

-- more files may be touched, and what each image is follows from what it was and that other files are as a crash could leave them before
pub widened : (Touched Wider : FileId → Type 0) (P Q : Image → Type 0) (old new : DiskView) → ((g : FileId) → Touched g → Wider g)
    → ((image : Image) → P image → ((g : FileId) → (Touched g → ⊥) → old.crash_states g (image g)) → Q image)
    → Throughout Touched P old new → Throughout Wider Q old new
widened Touched Wider P Q old new wider follows run = record {
  later = run.later;
  past = run.past;
  keeps = run.keeps;
  elsewhere = record {
    same = λ g other. run.elsewhere.same g (λ t. other (wider g t));
    crash = λ g other c left. run.elsewhere.crash g (λ t. other (wider g t)) c left;
  };
  each = λ k image from to left. follows image (run.each k image from to left) (λ g other. run.beside k image from to left g other);
  beside = λ k image from to left g other. run.beside k image from to left g (λ t. other (wider g t));
  places = run.places;
}

-- one call that changes no file
pub quiet_unchanged : (old new : DiskView) → Quiet old new → Elapses old new → new.places ≡ old.places → OnlyNow old → OnlyNow new → Unchanged old new
quiet_unchanged old new quiet time places only_old only_new =
    one_call (λ _. ⊥) (λ _. Unit {0}) old new time (record { same = λ g _. quiet.same g; crash = λ g _ c left. quiet.crash g c left }) places only_old only_new (λ _ _. tt) (λ _ _. tt)

-- one call that reads
pub one_read : (old new : DiskView) → OneRead old new → OnlyNow old → OnlyNow new → OnlyReads old new
one_read old new read only_old only_new = record { unchanged = quiet_unchanged old new read.quiet read.time read.places only_old only_new; counts = read.counts }

-- one call that syncs
pub one_sync : (f : FileId) (old new : DiskView) → OneSync f old new → OnlyNow old → OnlyNow new → Unchanged old new
one_sync f old new sync only_old only_new = quiet_unchanged old new sync.quiet sync.time sync.places only_old only_new

-- calls that touch nothing, and then others
pub unchanged_trans : (old mid new : DiskView) → Unchanged old mid → Unchanged mid new → Unchanged old new
unchanged_trans old mid new first second = followed (λ _. ⊥) (λ _. Unit {0}) old mid new first second

-- calls that read, and then others
pub reads_trans : (old mid new : DiskView) → OnlyReads old mid → OnlyReads mid new → OnlyReads old new
reads_trans old mid new first second = record {
  unchanged = unchanged_trans old mid new first.unchanged second.unchanged;
  counts = record {
    writes = λ f. second.counts.writes f ∙ first.counts.writes f;
    syncs = λ f. second.counts.syncs f ∙ first.counts.syncs f;
  };
}

-- where nothing is touched, each moment has what could be left at first
pub unchanged_throughout : (Touched : FileId → Type 0) (P : Image → Type 0) (old new : DiskView) → ((image : Image) → IsCrashImage old image → P image) → Unchanged old new → Throughout Touched P old new
unchanged_throughout Touched P old new here unchanged =
    widened (λ _. ⊥) Touched (λ _. Unit {0}) P old new (λ g none. absurd none) (λ image _ beside. here image (λ g. beside g (λ none. none))) unchanged

-- what nothing touched reads as before
pub unchanged_reads : (old new : DiskView) → Unchanged old new → (f : FileId) → new.reads f ≡ old.reads f
unchanged_reads old new unchanged f = unchanged.elsewhere.same f (λ none. none)

-- and a crash leaves of it what it left before
pub unchanged_crash : (old new : DiskView) → Unchanged old new → (image : Image) → IsCrashImage new image → IsCrashImage old image
unchanged_crash old new unchanged image is f = unchanged.elsewhere.crash f (λ none. none) (image f) (is f)

-- calls whose images each have P are ones of whose moments all images have P
pub jointly_of_each : (Touched : FileId → Type 0) (P : Image → Type 0) (old new : DiskView) → Throughout Touched P old new → Jointly (λ images. (image : Image) → images image → P image) old new
jointly_of_each Touched P old new run = record {
  later = run.later;
  past = run.past;
  keeps = run.keeps;
  each = λ k from to image left. run.each k image from to left;
}

-- and nothing else, beside what is said of the places and of the files that weren't touched
pub each_of_jointly : (Touched : FileId → Type 0) (P : Image → Type 0) (old new : DiskView) → Jointly (λ images. (image : Image) → images image → P image) old new → Elsewhere Touched old new
    → ((k : ℕ) (image : Image) → old.moment ≤ k → k ≤ new.moment → new.crash_images_at k image → (g : FileId) → (Touched g → ⊥) → old.crash_states g (image g)) → new.places ≡ old.places
    → Throughout Touched P old new
each_of_jointly Touched P old new moments elsewhere beside places = record {
  later = moments.later;
  past = moments.past;
  keeps = moments.keeps;
  elsewhere = elsewhere;
  each = λ k image from to left. moments.each k from to image left;
  beside = beside;
  places = places;
}

-- what holds of the images of a moment holds of each part of them
abbrev pub HoldsOfParts : ((Image → Type 0) → Type 0) → Type 1
HoldsOfParts Holds = (some all : Image → Type 0) → ((image : Image) → some image → all image) → Holds all → Holds some

-- some calls, and then others, of what holds of each moment's images together
pub jointly_followed : (Holds : (Image → Type 0) → Type 0) (old mid new : DiskView) → HoldsOfParts Holds → Jointly Holds old mid → Jointly Holds mid new → Jointly Holds old new
jointly_followed Holds old mid new parts first second = record {
  later = omega (arith, first.later, second.later);
  past = λ k image le left. first.past k image le (second.past k image (omega (arith, first.later)) left);
  keeps = λ k image le left. second.keeps k image (omega (arith, first.later)) (first.keeps k image le left);
  each = λ k from to. elim (cases_lt mid.moment k) [
    | inl after ↦ second.each k (omega arith) to
    | inr before ↦ parts (new.crash_images_at k) (mid.crash_images_at k) (λ image left. second.past k image before left) (first.each k from before)
  ];
}

-- what follows from what holds of each moment's images holds of them too
pub jointly_widened : (Holds Wider : (Image → Type 0) → Type 0) (old new : DiskView) → ((images : Image → Type 0) → Holds images → Wider images) → Jointly Holds old new → Jointly Wider old new
jointly_widened Holds Wider old new follows moments = record {
  later = moments.later;
  past = moments.past;
  keeps = moments.keeps;
  each = λ k from to. follows (new.crash_images_at k) (moments.each k from to);
}

-- a rise in the first of two calls is one in both
pub risen_first : (before mid now : ℕ) → HasRisen before mid → mid ≤ now → HasRisen before now
risen_first before mid now risen later bound = let r : before < mid = risen (omega arith) in omega (arith, r)

-- and so is a rise in the second
pub risen_second : (before mid now : ℕ) → before ≤ mid → HasRisen mid now → HasRisen before now
risen_second before mid now later risen bound = let r : mid < now = risen bound in omega (arith, r)

-- a call that failed, and others before it that didn't
pub cause_second : (Own : FileId → Type 0) (failed : Type 0) (old mid new : DiskView) → ((g : FileId) → old.faults g ≤ mid.faults g) → HasOwnCause Own failed mid new → HasOwnCause Own failed old new
cause_second Own failed old mid new first second = record {
  monotone = λ g. omega (arith, first g, second.monotone g);
  risen = λ is. let r : (g : FileId) × Own g × HasRisen (mid.faults g) (new.faults g) = second.risen is in (r.0, r.1, risen_second (old.faults r.0) (mid.faults r.0) (new.faults r.0) (first r.0) r.2);
}

-- the cause of a call on one file is one of the files
pub cause_of_file : (Own : FileId → Type 0) (f : FileId) (failed : Type 0) (old new : DiskView) → Own f → HasCause f failed old new → HasOwnCause Own failed old new
cause_of_file Own f failed old new own cause = record { monotone = cause.monotone; risen = λ is. (f, own, cause.risen is) }

-- more files may be the cause, and more answers a failure that has one
pub cause_widened : (Own Wider : FileId → Type 0) (failed wider : Type 0) (old new : DiskView) → ((g : FileId) → Own g → Wider g) → (wider → failed) → HasOwnCause Own failed old new → HasOwnCause Wider wider old new
cause_widened Own Wider failed wider old new more fails cause = record {
  monotone = cause.monotone;
  risen = λ is. let r : (g : FileId) × Own g × HasRisen (old.faults g) (new.faults g) = cause.risen (fails is) in (r.0, more r.0 r.1, r.2);
}

-- a count that rose by so much at most, and then by so much more at most
pub rose_trans : (m n : ℕ) (Own : FileId → Type 0) (old mid new : FileId → ℕ) → RoseAtMost m Own old mid → RoseAtMost n Own mid new → RoseAtMost (m + n) Own old new
rose_trans m n Own old mid new first second = record {
  never_fell = λ f. omega (arith, first.never_fell f, second.never_fell f);
  own = λ f is. omega (arith, first.own f is, second.own f is);
  others = λ f other. second.others f other ∙ first.others f other;
}

-- a count that stayed rose by so much at most
pub stayed_rose : (n : ℕ) (Own : FileId → Type 0) (old new : FileId → ℕ) → ((f : FileId) → new f ≡ old f) → RoseAtMost n Own old new
stayed_rose n Own old new same = record {
  never_fell = λ f. omega (arith, same f);
  own = λ f is. omega (arith, same f);
  others = λ f other. same f;
}

-- a count that rose by nothing stayed, where the files can be told apart
pub rose_nothing : (Own : FileId → Type 0) (old new : FileId → ℕ) → ((f : FileId) → Own f ⊎ (Own f → ⊥)) → RoseAtMost 0 Own old new → (f : FileId) → new f ≡ old f
rose_nothing Own old new either rose f = elim (either f) [
  | inl own ↦ omega (arith, rose.own f own, rose.never_fell f)
  | inr other ↦ rose.others f other
]

-- by more at most
pub rose_more : (m n : ℕ) (Own : FileId → Type 0) (old new : FileId → ℕ) → m ≤ n → RoseAtMost m Own old new → RoseAtMost n Own old new
rose_more m n Own old new more rose = record {
  never_fell = rose.never_fell;
  own = λ f is. omega (arith, more, rose.own f is);
  others = rose.others;
}

-- a count that rose for one file by one at most
pub rose_of_one : (f : FileId) (old new : FileId → ℕ) → RoseByOne f old new → RoseAtMost 1 (λ g. g ≡ f) old new
rose_of_one f old new rose = record {
  never_fell = rose.never_fell;
  own = λ g is. subst (λ (h : FileId). new h ≤ old h + 1) (sym is) rose.at_most;
  others = rose.others;
}

-- some calls, each file written and synced so often at most, and then others
pub calls_trans : (m n p q : ℕ) (Own : FileId → Type 0) (old mid new : DiskView) → CallsAtMost m n Own old mid → CallsAtMost p q Own mid new → CallsAtMost (m + p) (n + q) Own old new
calls_trans m n p q Own old mid new first second = record {
  writes = rose_trans m p Own old.writes mid.writes new.writes first.writes second.writes;
  syncs = rose_trans n q Own old.syncs mid.syncs new.syncs first.syncs second.syncs;
}

-- calls that write and sync nothing do so for each file so often at most
pub uncounted_at_most : (m n : ℕ) (Own : FileId → Type 0) (old new : DiskView) → Uncounted old new → CallsAtMost m n Own old new
uncounted_at_most m n Own old new none = record {
  writes = stayed_rose m Own old.writes new.writes none.writes;
  syncs = stayed_rose n Own old.syncs new.syncs none.syncs;
}

-- one write
pub write_calls : (f : FileId) (old new : DiskView) → OneWrite f old new → CallsAtMost 1 0 (λ g. g ≡ f) old new
write_calls f old new write = record {
  writes = rose_of_one f old.writes new.writes write.writes;
  syncs = stayed_rose 0 (λ g. g ≡ f) old.syncs new.syncs write.syncs;
}

-- one sync
pub sync_calls : (f : FileId) (old new : DiskView) → OneSync f old new → CallsAtMost 0 1 (λ g. g ≡ f) old new
sync_calls f old new sync = record {
  writes = stayed_rose 0 (λ g. g ≡ f) old.writes new.writes sync.writes;
  syncs = rose_of_one f old.syncs new.syncs sync.syncs;
}

-- what follows from what an answer says at Ok is so at Ok
pub on_ok_map : {T E : Type 0} (r : Result T E) (P Q : Type 0) → (P → Q) → OnOk r P → OnOk r Q
on_ok_map (Ok x) P Q f p = f p
on_ok_map (Err e) P Q f p = tt
