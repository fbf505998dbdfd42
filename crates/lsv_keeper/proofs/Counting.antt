-- What is counted where a call failed.
use Rattle.std.proofs.Common.{◌≡◌, ◌≤◌, ◌<◌, ◌+◌, ℕ, List, [], ◌∷◌, ◌++◌, refl, sym, ap, subst, inl, inr, arith}
use Rattle.std.specs.Prelude.{◌-◌, ◌^◌, ◌&&◌, Bool, true, false, Contains}
use Rattle.std.proofs.lemmas.List.Elements.{Contains-append_cases, Contains-push_cases}
use Rattle.std.proofs.lemmas.Map.Views.{Contains-from_any}
use Rattle.lsv_disk.specs.Files.{IsOneOf, file_of}
use Rattle.lsv_disk.specs.View.{DiskView, HasOwnCause}
use Rattle.lsv_disk.specs.declared.file.FileId.{FileId}
use Rattle.lsv_disk.specs.declared.file.Owner.{Owner}
use Rattle.lsv_disk.specs.declared.file.Owner.TheVariants.{Log}
use Rattle.lsv_disk.specs.declared.file.Part.{Part}
use Rattle.lsv_disk.specs.declared.file.Part.TheVariants as parts
use Rattle.lsv_disk.proofs.Composition.{risen_first, risen_second}
use Rattle.lsv_defs.specs.Causes.{HasRisen}
use Rattle.lsv_machine.specs.Counts.{Counts, IsCounted, all_parts, asks_for, failed_in, faults_among, faults_of, is_among, is_mark, journal_of, one_if, same_owner}
use Rattle.lsv_machine.specs.Failures.{Act}
use Rattle.lsv_machine.specs.History.{request_in}
use Rattle.lsv_machine.specs.Turns.{Happened, Happened.Did, Happened.Tailed, Tail}
use Rattle.lsv_keeper.specs.Rows.{AllRose, OwnerRose}
use Rattle.lsv_keeper.proofs.Frames.{owner_is}

abbrev pub NoneFell : DiskView → DiskView → Type 0
NoneFell old new = (file : FileId) → old.faults file ≤ new.faults file

pub none_fell_on : (a b c : DiskView) → NoneFell a b → NoneFell b c → NoneFell a c
none_fell_on a b c s t file = let x = s file in let y = t file in omega arith

-- ---- Owners of which a count rose

pub rose_none : (old new : DiskView) → AllRose [] old new
rose_none old new o (at, low, found) = absurd (let e : at < 0 = low in omega arith)

pub only : (o p : Owner) → Contains (o ∷ []) p → o ≡ p
only o p is = elim (Contains-push_cases [] o p is) [ inl none ↦ absurd (rose_none_at none) | inr e ↦ e ]
  where
    rose_none_at : Contains [] p → ⊥
    rose_none_at (at, low, found) = let e : at < 0 = low in omega arith

pub rose_one : (o : Owner) (old new : DiskView) → OwnerRose o old new → AllRose (o ∷ []) old new
rose_one o old new rose p is = subst (λ x. OwnerRose x old new) (only o p is) rose

pub rose_both : (xs ys : List Owner) (old new : DiskView) → AllRose xs old new → AllRose ys old new → AllRose (xs ++ ys) old new
rose_both xs ys old new s t o is = elim (Contains-append_cases xs ys o is) [ inl x ↦ s o x | inr y ↦ t o y ]

-- in calls before others, and in calls after others
pub owner_first : (o : Owner) (a b c : DiskView) → NoneFell b c → OwnerRose o a b → OwnerRose o a c
owner_first o a b c up (file, own, risen) = (file, own, risen_first (a.faults file) (b.faults file) (c.faults file) risen (up file))

pub owner_second : (o : Owner) (a b c : DiskView) → NoneFell a b → OwnerRose o b c → OwnerRose o a c
owner_second o a b c up (file, own, risen) = (file, own, risen_second (a.faults file) (b.faults file) (c.faults file) (up file) risen)

pub rose_first : (xs : List Owner) (a b c : DiskView) → NoneFell b c → AllRose xs a b → AllRose xs a c
rose_first xs a b c up rose o is = owner_first o a b c up (rose o is)

pub rose_second : (xs : List Owner) (a b c : DiskView) → NoneFell a b → AllRose xs b c → AllRose xs a c
rose_second xs a b c up rose o is = owner_second o a b c up (rose o is)

-- what a call says of its cause
pub owner_rose : (o : Owner) (Own : FileId → Type 0) (failed : Type 0) (old new : DiskView) → ((file : FileId) → Own file → file.owner ≡ o) → HasOwnCause Own failed old new → failed → OwnerRose o old new
owner_rose o Own failed old new own cause did = let (file, mine, risen) = cause.risen did in (file, own file mine, risen)

-- ---- What is counted

among_up : (o : Owner) (old new : DiskView) (parts : List Part) → NoneFell old new → faults_among old o parts ≤ faults_among new o parts
among_up o old new [] up = omega arith
among_up o old new (part ∷ parts) up = let x = up (file_of o part) in let y = among_up o old new parts up in omega arith

among_rise : (o : Owner) (old new : DiskView) (parts : List Part) (file : FileId) → NoneFell old new → IsOneOf o parts file → old.faults file < new.faults file
    → faults_among old o parts + 1 ≤ faults_among new o parts
among_rise o old new [] file up is risen = absurd is
among_rise o old new (part ∷ parts) file up (inl e) risen =
    let r : old.faults (file_of o part) < new.faults (file_of o part) = subst (λ (f : FileId). old.faults f < new.faults f) e risen in
    let y = among_up o old new parts up in
    omega arith
among_rise o old new (part ∷ parts) file up (inr is) risen = let x = up (file_of o part) in let y = among_rise o old new parts file up is risen in omega arith

its_part : (o : Owner) (part : Part) → IsOneOf o all_parts (file_of o part)
its_part o parts.Head = inl refl
its_part o parts.Exit = inr (inl refl)
its_part o parts.Timing = inr (inr (inl refl))
its_part o parts.Stdin = inr (inr (inr (inl refl)))
its_part o parts.Stdout = inr (inr (inr (inr (inl refl))))
its_part o parts.Stderr = inr (inr (inr (inr (inr (inl refl)))))
its_part o parts.Ttyin = inr (inr (inr (inr (inr (inr (inl refl))))))
its_part o parts.Ttyout = inr (inr (inr (inr (inr (inr (inr (inl refl)))))))
its_part o parts.Lines = inr (inr (inr (inr (inr (inr (inr (inr (inl refl))))))))
its_part o parts.Id = inr (inr (inr (inr (inr (inr (inr (inr (inr (inl refl)))))))))
its_part o parts.Commit = inr (inr (inr (inr (inr (inr (inr (inr (inr (inr (inl refl))))))))))
its_part o parts.Slots = inr (inr (inr (inr (inr (inr (inr (inr (inr (inr (inr (inl refl)))))))))))

-- a file is that of its part
named : (o : Owner) (file : FileId) → file.owner ≡ o → file ≡ file_of o file.part
named o file own = ap (λ (x : Owner). file_of x file.part) own

owner_counts : (o : Owner) (old new : DiskView) → NoneFell old new → OwnerRose o old new → IsCounted new o → faults_of old o + 1 ≤ faults_of new o
owner_counts o old new up (file, own, risen) counted =
    let e : file ≡ file_of o file.part = named o file own in
    let r : old.faults file < new.faults file = risen (subst (λ (f : FileId). new.faults f < 2 ^ 64 - 1) (sym e) (counted file.part)) in
    among_rise o old new all_parts file up (subst (λ (f : FileId). IsOneOf o all_parts f) (sym e) (its_part o file.part)) r

same_is : (o p : Owner) → same_owner o p ≡ true → o ≡ p
same_is o p e = sym (owner_is o p e)

-- one thing that happens
counts_one : (x : Happened) (old new : DiskView) → NoneFell old new → AllRose (failed_in x) old new
    → ((n : ℕ) → is_mark n x ≡ true → HasRisen (old.faults (journal_of n)) (new.faults (journal_of n))) → Counts (x ∷ []) old new
counts_one x old new up rose journal = record {
  monotone = up;
  failed = λ o counted. owner_one o counted (is_among o (failed_in x)) refl;
  marked = λ n counted. mark_one n counted (is_mark n x) refl;
}
  where
    owner_one : (o : Owner) → IsCounted new o → (b : Bool) → is_among o (failed_in x) ≡ b → faults_of old o + (one_if (is_among o (failed_in x)) + 0) ≤ faults_of new o
    owner_one o counted true e = let y = owner_counts o old new up (rose o (Contains-from_any same_is o (failed_in x) e)) counted in rw e (omega arith)
    owner_one o counted false e = let y = among_up o old new all_parts up in rw e (omega arith)

    mark_one : (n : ℕ) → IsCounted new (Log n) → (b : Bool) → is_mark n x ≡ b → old.faults (journal_of n) + (one_if (is_mark n x) + 0) ≤ new.faults (journal_of n)
    mark_one n counted true e = let y : old.faults (journal_of n) < new.faults (journal_of n) = journal n e (counted parts.Slots) in rw e (omega arith)
    mark_one n counted false e = let y = up (journal_of n) in rw e (omega arith)

both_true : (a b : Bool) → a && b ≡ true → b ≡ true
both_true true b e = e
both_true false b e = absurd (cc)

-- a job: where it is marked, the count of its log's journal rose
pub counts_marked : (act : Act) (old new : DiskView) → NoneFell old new → AllRose act.failed old new
    → ((n : ℕ) → asks_for n (request_in act.job.body) ≡ true → HasRisen (old.faults (journal_of n)) (new.faults (journal_of n))) → Counts (Did act ∷ []) old new
counts_marked act old new up rose journal = counts_one (Did act) old new up rose (λ n e. journal n (both_true act.in_cut (asks_for n (request_in act.job.body)) e))

-- a job that isn't marked
pub counts_did : (act : Act) (old new : DiskView) → NoneFell old new → AllRose act.failed old new → act.in_cut ≡ false → Counts (Did act ∷ []) old new
counts_did act old new up rose unmarked =
    counts_one (Did act) old new up rose (λ n e. absurd (let f : act.in_cut && asks_for n (request_in act.job.body) ≡ false = rw unmarked refl in cc))

-- the end of a turn, or a piece of it
pub counts_tailed : (tail : Tail) (old new : DiskView) → NoneFell old new → AllRose tail.failed old new → Counts (Tailed tail ∷ []) old new
counts_tailed tail old new up rose = counts_one (Tailed tail) old new up rose (λ n e. absurd (cc))
