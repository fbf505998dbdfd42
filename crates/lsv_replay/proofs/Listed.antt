-- Logs that are listed one by one, and what is put of them by the end.
use Rattle.std.proofs.Common.{◌≡◌, ◌∙◌, ◌++◌, inl, inr, ℕ, zero, suc, ◌+◌, ◌-◌, ◌≤◌, List, [], ◌∷◌, Option, Some, None, Result, Ok, Err, length, refl, sym, ap, subst, append-nil, append_assoc, arith}
use Rattle.std.specs.Option.{option_or}
use Rattle.lsv_disk.specs.declared.file.FileId.{FileId}
use Rattle.lsv_disk.specs.declared.file.Part.{Part}
use Rattle.lsv_disk.specs.Throughout.{OnlyReads}
use Rattle.lsv_disk.specs.View.{Image, DiskView}
use Rattle.lsv_disk.proofs.Composition.{OnlyNow, reads_trans}
use Rattle.lsv_info.specs.declared.times.Head.{Head}
use Rattle.lsv_iolog.specs.declared.fault.ViewFault.{ViewFault}
use Rattle.lsv_iolog.specs.declared.fault.ViewFault.TheVariants as views
use Rattle.lsv_iolog.specs.Damage.{IsViewDamage}
use Rattle.lsv_iolog.specs.Recovered.{Replays}
use Rattle.lsv_iolog.proofs.Scans.{reads_nothing}
use Rattle.lsv_play.specs.declared.screen.Item.{Item}
use Rattle.lsv_play.specs.Items.{IsPart}
use Rattle.lsv_play.proofs.Parts.{part_behind, part_whole}
use Rattle.lsv_play.proofs.Played.{same_image}
use Rattle.lsv_search.specs.Grammar.{Expression}
use Rattle.lsv_search.specs.Steps.{AreStepsOf}
use Rattle.lsv_search.specs.declared.step.Step.{Step}
use Rattle.lsv_replay.specs.Faults.{IsNumbersFault, of_log}
use Rattle.lsv_replay.specs.Listing.{Nowhere, Faulty, There, IsFound, AreFound, Lists, ListsAll, ListsSome, first_damage, line_if, listing}
use Rattle.lsv_replay.specs.Numbers.{last_number}
use Rattle.lsv_replay.specs.Walk.{IsCut, ListedPart, ListedTo, ListsHead, ListsOne, ListsTo}
use Rattle.lsv_replay.specs.declared.fault.ListFault.{ListFault}
use Rattle.lsv_replay.specs.declared.fault.ListFault.TheVariants as faults

-- ---- one log

-- a log that is opened is listed as its head is
pub one_of_head : (searched : Option Expression) (image : Image) (n : ℕ) (head : Head) (r : Result (Option Part) ListFault) (put : List Item) → IsFound image n (There head) → ListsHead searched n head r put → ListsOne searched image n r put
one_of_head searched image n head (Ok damage) put is lists = (There head, is, lists.0, lists.1)
one_of_head searched image n head (Err (faults.Damaged part)) put is lists = absurd lists
one_of_head searched image n head (Err faults.Disk) put is lists = absurd lists
one_of_head searched image n head (Err faults.Screen) put is lists = inr (There head, is, lists)
one_of_head searched image n head (Err faults.NoMem) put is lists = inr (There head, is, lists)

-- and of one that isn't nothing is put
pub one_of_fault : (searched : Option Expression) (image : Image) (n : ℕ) (e : ViewFault) → (e ≡ views.Absent → Replays image n None) → ((part : Part) → e ≡ views.Damaged part → IsViewDamage n part image)
    → ListsOne searched image n (of_log e) []
one_of_fault searched image n views.Absent absent damaged = (Nowhere, absent refl, refl, refl)
one_of_fault searched image n (views.Damaged part) absent damaged = (Faulty part, damaged part refl, refl, refl)
one_of_fault searched image n views.Disk absent damaged = inl refl
one_of_fault searched image n views.NoMem absent damaged = inl refl

-- ---- the logs up to a number

-- a loop over numbers: the disk was only read, and the logs so far are listed
pub record IsListing (tells shows : Type 0) (e : List Step) (n : ℕ) (first : Option Part) (old now : DiskView) (before shown : List Item) (failed fails : ℕ) : Type 0 where
  pub disk : (f : FileId) → old.faults f ≤ now.faults f
  pub screen : failed ≤ fails
  pub reads : tells → OnlyReads old now
  pub listed : tells → (searched : Option Expression) → AreStepsOf searched e → (put : List Item) × (shows → shown ≡ before ++ put) × ListedTo searched old.reads n first put

-- at first
pub listing_starts : (tells shows : Type 0) (e : List Step) (disk : DiskView) (shown : List Item) (fails : ℕ) → (tells → OnlyNow disk) → IsListing tells shows e 0 None disk disk shown shown fails fails
listing_starts tells shows e disk shown fails now = record {
  disk = λ f. omega arith;
  screen = omega arith;
  reads = λ told. reads_nothing disk (now told);
  listed = λ told searched steps. ([], λ told_too. sym (append-nil shown), record { found = []; are = tt; count = refl; put_is = refl; first_is = refl });
}

option_none : {A : Type 0} (o : Option A) → option_or o None ≡ o
option_none None = refl
option_none (Some x) = refl

-- d further numbers without a log
listed_gap : (searched : Option Expression) (image : Image) (n d : ℕ) (first : Option Part) (put : List Item) → ((k : ℕ) → n + 1 ≤ k → k ≤ n + d → Replays image k None) → ListedTo searched image n first put → ListedTo searched image (n + d) first put
listed_gap searched image n zero first put absent to = subst (λ (k : ℕ). ListedTo searched image k first put) (let e : n ≡ n + 0 = omega arith in e) to
listed_gap searched image n (suc d) first put absent to =
    let so_far = listed_gap searched image n d first put (λ k from within. absent k from (omega (arith, within))) to in
    record {
      found = Nowhere ∷ so_far.found;
      are = (absent (suc (length so_far.found)) (omega (arith, so_far.count)) (omega (arith, so_far.count)), so_far.are);
      count = omega (arith, so_far.count);
      put_is = so_far.put_is ∙ sym (append-nil (listing searched so_far.found));
      first_is = so_far.first_is ∙ sym (option_none (first_damage so_far.found));
    }

-- the listing with one log more
listed_more : (searched : Option Expression) (image : Image) (n number : ℕ) (first damage : Option Part) (put more : List Item) → ListedTo searched image n first put → number ≡ n + 1 → ListsOne searched image number (Ok damage) more
    → ListedTo searched image (n + 1) (option_or first damage) (put ++ more)
listed_more searched image n number first damage put more to next one =
    let at : number ≡ suc (length to.found) = omega (arith, to.count) in
    let is : IsFound image (suc (length to.found)) one.0 = subst (λ (k : ℕ). IsFound image k one.0) at one.1 in
    let line : more ≡ line_if searched (suc (length to.found)) one.0 = one.2 ∙ ap (λ (k : ℕ). line_if searched k one.0) at in
    record {
      found = one.0 ∷ to.found;
      are = (is, to.are);
      count = omega (arith, to.count);
      put_is = ap (λ (items : List Item). items ++ more) to.put_is ∙ ap (λ (items : List Item). listing searched to.found ++ items) line;
      first_is = ap (λ (o : Option Part). option_or o damage) to.first_is ∙ ap (λ (o : Option Part). option_or (first_damage to.found) o) one.3;
    }

-- and with a log of which only a first part is put
listed_cut : (searched : Option Expression) (image : Image) (n number last : ℕ) (first : Option Part) (put more : List Item) → ListedTo searched image n first put → number ≡ n + 1 → number ≤ last → IsCut searched image number more
    → ListedPart searched image last (put ++ more)
listed_cut searched image n number last first put more to next within (inl none) = record {
  found = to.found;
  are = to.are;
  count = omega (arith, to.count);
  part = subst (λ (items : List Item). IsPart items (listing searched to.found)) (to_whole put more (listing searched to.found) to.put_is none) (part_whole (listing searched to.found));
} where
  to_whole : (put more whole : List Item) → put ≡ whole → more ≡ [] → whole ≡ put ++ more
  to_whole put more whole e none = sym e ∙ sym (append-nil put) ∙ ap (λ (items : List Item). put ++ items) (sym none)
listed_cut searched image n number last first put more to next within (inr one) =
    let at : number ≡ suc (length to.found) = omega (arith, to.count) in
    let is : IsFound image (suc (length to.found)) one.0 = subst (λ (k : ℕ). IsFound image k one.0) at one.1 in
    let part : IsPart more (line_if searched (suc (length to.found)) one.0) = subst (λ (k : ℕ). IsPart more (line_if searched k one.0)) at one.2 in
    record {
      found = one.0 ∷ to.found;
      are = (is, to.are);
      count = omega (arith, to.count);
      part = subst (λ (items : List Item). IsPart (items ++ more) (listing searched to.found ++ line_if searched (suc (length to.found)) one.0)) (sym to.put_is)
          (part_behind (listing searched to.found) more (line_if searched (suc (length to.found)) one.0) part);
    }

cut_of : (searched : Option Expression) (image : Image) (n number last : ℕ) (first : Option Part) (put more : List Item) (e : ListFault) → ListedTo searched image n first put → number ≡ n + 1 → number ≤ last
    → ListsOne searched image number (Err e) more → ListsTo searched image last (Err e) (put ++ more)
cut_of searched image n number last first put more (faults.Damaged part) to next within one = absurd one
cut_of searched image n number last first put more faults.Disk to next within one = listed_cut searched image n number last first put more to next within one
cut_of searched image n number last first put more faults.Screen to next within one = listed_cut searched image n number last first put more to next within one
cut_of searched image n number last first put more faults.NoMem to next within one = listed_cut searched image n number last first put more to next within one

-- numbers up to m are passed over, since none of them has a log
pub listing_passes : (tells shows : Type 0) (e : List Step) (n m : ℕ) (first : Option Part) (old now : DiskView) (before shown : List Item) (failed fails : ℕ) → IsListing tells shows e n first old now before shown failed fails → n ≤ m
    → (tells → (k : ℕ) → n + 1 ≤ k → k ≤ m → Replays now.reads k None) → IsListing tells shows e m first old now before shown failed fails
listing_passes tells shows e n m first old now before shown failed fails is on absent = record {
  disk = is.disk;
  screen = is.screen;
  reads = is.reads;
  listed = λ told searched steps.
      let to = is.listed told searched steps in
      let sum : n + (m - n) ≡ m = omega (arith, on) in (
        to.0,
        to.1,
        subst (λ (k : ℕ). ListedTo searched old.reads k first to.0) sum
            (listed_gap searched old.reads n (m - n) first to.0
            (λ k from within. subst (λ (image : Image). Replays image k None) (same_image old now (is.reads told)) (absent told k from (omega (arith, within, sum)))) to.2),
      );
}

-- the same number
pub listing_done : (tells shows : Type 0) (e : List Step) (n m : ℕ) (first : Option Part) (old now : DiskView) (before shown : List Item) (failed fails : ℕ) → IsListing tells shows e n first old now before shown failed fails → n ≡ m
    → IsListing tells shows e m first old now before shown failed fails
listing_done tells shows e n m first old now before shown failed fails is same = subst (λ (k : ℕ). IsListing tells shows e k first old now before shown failed fails) same is

-- what one call on a log promises
abbrev pub OneListed : (tells shows : Type 0) → List Step → ℕ → Result (Option Part) ListFault → DiskView → List Item → List Item → Type 0
OneListed tells shows e number r disk before after =
    tells → (searched : Option Expression) → AreStepsOf searched e → (put : List Item) × (shows → after ≡ before ++ put) × ListsOne searched disk.reads number r put

module _ (tells shows : Type 0) (e : List Step) (n number : ℕ) (first : Option Part) (old now : DiskView) (before shown : List Item) (failed fails : ℕ) (is : IsListing tells shows e n first old now before shown failed fails)
    (next : number ≡ n + 1) where
  pub listing_goes_on : (damage first' : Option Part) (later : DiskView) (after : List Item) (fails' : ℕ) → OneListed tells shows e number (Ok damage) now shown after → first' ≡ option_or first damage
      → (tells → OnlyReads now later) → ((f : FileId) → now.faults f ≤ later.faults f) → fails ≤ fails' → IsListing tells shows e (n + 1) first' old later before after failed fails'
  listing_goes_on damage first' later after fails' one first_is reads disk screen = record {
    disk = λ f. omega (arith, is.disk f, disk f);
    screen = omega (arith, is.screen, screen);
    reads = λ told. reads_trans old now later (is.reads told) (reads told);
    listed = λ told searched steps.
        let to = is.listed told searched steps in
        let more = one told searched steps in (
          to.0 ++ more.0,
          λ told_too. more.1 told_too ∙ ap (λ (items : List Item). items ++ more.0) (to.1 told_too) ∙ append_assoc before to.0 more.0,
          subst (λ (o : Option Part). ListedTo searched old.reads (n + 1) o (to.0 ++ more.0)) (sym first_is)
              (listed_more searched old.reads n number first damage to.0 more.0 to.2 next
              (subst (λ (image : Image). ListsOne searched image number (Ok damage) more.0) (same_image old now (is.reads told)) more.2)),
        );
  }

  pub listing_stops : (fault : ListFault) (r : Result (Option Part) ListFault) (last : ℕ) (after : List Item) → OneListed tells shows e number (Err fault) now shown after → r ≡ Err fault → number ≤ last
      → tells → (searched : Option Expression) → AreStepsOf searched e → (put : List Item) × (shows → after ≡ before ++ put) × ListsTo searched old.reads last r put
  listing_stops fault r last after one same within told searched steps =
      let to = is.listed told searched steps in
      let more = one told searched steps in (
        to.0 ++ more.0,
        λ told_too. more.1 told_too ∙ ap (λ (items : List Item). items ++ more.0) (to.1 told_too) ∙ append_assoc before to.0 more.0,
        subst (λ (x : Result (Option Part) ListFault). ListsTo searched old.reads last x (to.0 ++ more.0)) (sym same)
            (cut_of searched old.reads n number last first to.0 more.0 fault to.2 next within
            (subst (λ (image : Image). ListsOne searched image number (Err fault) more.0) (same_image old now (is.reads told)) more.2)),
      )

-- ---- all of it

-- nothing is put if the numbers aren't read
pub none_listed : {T : Type 0} (searched : Option Expression) (image : Image) (e : ListFault) (r : Result T ListFault) → r ≡ Err e → IsNumbersFault e → ((e ≡ faults.Disk → ⊥) → last_number image ≡ None) → Lists searched image r []
none_listed {T} searched image e r same fault none = subst (λ (x : Result T ListFault). Lists searched image x []) (sym same) (at e fault none) where
  at : (e : ListFault) → IsNumbersFault e → ((e ≡ faults.Disk → ⊥) → last_number image ≡ None) → Lists {T = T} searched image (Err e) []
  at (faults.Damaged part) fault none = inr (record { none = none (λ is. cc); part_is = fault; put_is = refl })
  at faults.Disk fault none = record { found = []; are = tt; within = inl refl; part = tt }
  at faults.Screen fault none = absurd fault
  at faults.NoMem fault none = absurd fault

-- a first part is put of the listing
pub some_listed : {T : Type 0} (searched : Option Expression) (image : Image) (last : ℕ) (e : ListFault) (r : Result T ListFault) (put : List Item) → r ≡ Err e → last_number image ≡ Some last → ListsTo searched image last (Err e) put → Lists searched image r put
some_listed {T} searched image last e r put same is to = subst (λ (x : Result T ListFault). Lists searched image x put) (sym same) (at e to) where
  some : ListedPart searched image last put → ListsSome searched image put
  some part = record { found = part.found; are = part.are; within = inr (last, is, part.count); part = part.part }

  at : (e : ListFault) → ListsTo searched image last (Err e) put → Lists {T = T} searched image (Err e) put
  at (faults.Damaged part) to = absurd to
  at faults.Disk to = some to
  at faults.Screen to = some to
  at faults.NoMem to = some to

-- all of the listing is put
pub all_listed : (searched : Option Expression) (image : Image) (mid : DiskView) (last : ℕ) (found first : Option Part) (put : List Item) → last_number image ≡ Some last → mid.reads ≡ image → found ≡ first
    → ListedTo searched mid.reads last found put → ListsAll searched image put first
all_listed searched image mid last found first put is same damage to = record {
  found = to.found;
  are = subst (λ (i : Image). AreFound i to.found) same to.are;
  last = is ∙ ap (λ (k : ℕ). Some k) (sym to.count);
  put_is = to.put_is;
  damage_is = sym to.first_is ∙ damage;
}
