-- Numbers that are judged one by one, and what is put of them.
use Rattle.std.proofs.Common.{◌≡◌, ◌∙◌, ◌++◌, inl, inr, ℕ, zero, suc, ◌+◌, ◌<◌, ◌≤◌, Bool, true, false, ◌==◌, if◌then◌else◌, List, [], ◌∷◌, Option, Some, None, Result, Ok, Err, IsErrAnd, fold, refl, sym, ap, subst, append-nil, append_assoc, arith}
use Rattle.std.proofs.lemmas.List.{flat_map_more}
use Rattle.lsv_defs.specs.Pieces.{IsPrefix}
use Rattle.lsv_disk.specs.declared.file.FileId.{FileId}
use Rattle.lsv_disk.specs.Throughout.{OnlyReads}
use Rattle.lsv_defs.specs.Causes.{HasRisen}
use Rattle.lsv_disk.specs.View.{DiskView, HasOwnCause, Image}
use Rattle.lsv_disk.proofs.Composition.{OnlyNow, reads_trans, risen_first, risen_second}
use Rattle.lsv_iolog.proofs.Scans.{reads_nothing}
use Rattle.lsv_play.proofs.Played.{same_image}
use Rattle.lsv_check_args.specs.declared.request.Form.{Form}
use Rattle.lsv_verdict.specs.Walks.{AreJudged, HasUnread, IsFew, PutsOne, Walked, WalkedPart, Walks, first_numbers, is_whole, put_all, put_of}
use Rattle.lsv_verdict.specs.Sums.{counted, no_sums, with_class}
use Rattle.lsv_verdict.proofs.Judging.{IsWithin, judged_wider}
use Rattle.lsv_verdict.specs.Verdicts.{Counts, IsChecked, IsJudged, IsRead, IsUnread, class_found, class_in, class_of, counts_of}
use Rattle.lsv_finding.specs.declared.checked.Checked.{Checked}
use Rattle.lsv_finding.specs.declared.checked.Checked.TheVariants as kept
use Rattle.lsv_verdict.specs.declared.sums.Sums.{Sums}
use Rattle.lsv_verdict.specs.declared.verdict.Class.TheVariants as classes
use Rattle.lsv_verdict.specs.declared.verdict.Verdict.{Verdict}
use Rattle.lsv_verdict.specs.declared.walk.Stop.{Stop}

pub judged_push : (form : Form) (whole : Bool) (image : Image) (counts : Counts) (ns : List ℕ) (vs : List (Option Verdict)) (n : ℕ) (v : Option Verdict) → AreJudged form whole image counts ns vs → IsJudged form whole image counts n v → AreJudged form whole image counts (ns ++ n ∷ []) (vs ++ v ∷ [])
judged_push form whole image counts [] [] n v are is = (is, tt)
judged_push form whole image counts [] (w ∷ vs) n v are is = absurd are
judged_push form whole image counts (m ∷ ns) [] n v are is = absurd are
judged_push form whole image counts (m ∷ ns) (w ∷ vs) n v are is = (are.0, judged_push form whole image counts ns vs n v are.1 is)

put_push : (form : Form) (vs : List (Option Verdict)) (v : Option Verdict) → put_all form vs ++ put_of form v ≡ put_all form (vs ++ v ∷ [])
put_push form vs v = flat_map_more (put_of form) [] vs v

fold_push : (vs : List (Option Verdict)) (v : Option Verdict) (s : Sums) → fold counted s (vs ++ v ∷ []) ≡ counted (fold counted s vs) v
fold_push [] v s = refl
fold_push (w ∷ vs) v s = fold_push vs v (counted s w)

none_first : (form : Form) (whole : Bool) (image : Image) (counts : Counts) (ids : List ℕ) → AreJudged form whole image counts (first_numbers ids 0) []
none_first form whole image counts [] = tt
none_first form whole image counts (id ∷ ids) = tt

-- a walk: it only read, and this is put of the numbers so far
pub record IsWalking (tells shows : Type 0) (form : Form) (ids : List ℕ) (at : ℕ) (sums : Sums) (old now : DiskView) (before shown : List ℕ) (failed fails : ℕ) : Type 0 where
  pub disk : (f : FileId) → old.faults f ≤ now.faults f
  pub risen : HasUnread sums → (g : FileId) × IsChecked g × HasRisen (old.faults g) (now.faults g)
  pub sink : failed ≤ fails
  pub reads : tells → OnlyReads old now
  pub walked : tells → shows → (put : List ℕ) × (shown ≡ before ++ put) × Walked form ids old.reads (counts_of old now) at sums put

-- at first
pub walking_starts : (tells shows : Type 0) (form : Form) (ids : List ℕ) (sums : Sums) (disk : DiskView) (shown : List ℕ) (fails : ℕ) → sums ≡ no_sums → (tells → OnlyNow disk) → IsWalking tells shows form ids 0 sums disk disk shown shown fails fails
walking_starts tells shows form ids sums disk shown fails none now = record {
  disk = λ f. omega arith;
  risen = λ some. let zero_ : sums.unread ≡ 0 = ap (λ (s : Sums). s.unread) none in absurd (let no_ : ⊥ = omega (arith, zero_, some) in no_);
  sink = omega arith;
  reads = λ told. reads_nothing disk (now told);
  walked = λ told told_too. ([], sym (append-nil shown), record { verdicts = []; are = none_first form (is_whole ids) disk.reads (counts_of disk disk) ids; put_is = refl; sums_are = none });
}

-- with one number more
walked_more : (form : Form) (ids : List ℕ) (image : Image) (counts : Counts) (at number : ℕ) (sums next : Sums) (put more : List ℕ) → Walked form ids image counts at sums put → first_numbers ids (at + 1) ≡ first_numbers ids at ++ number ∷ []
    → PutsOne form (is_whole ids) image counts number sums (Ok next) more → Walked form ids image counts (at + 1) next (put ++ more)
walked_more form ids image counts at number sums next put more to list (v, is, put_is, sums_are) = record {
  verdicts = to.verdicts ++ v ∷ [];
  are = subst (λ (ns : List ℕ). AreJudged form (is_whole ids) image counts ns (to.verdicts ++ v ∷ [])) (sym list) (judged_push form (is_whole ids) image counts (first_numbers ids at) to.verdicts number v to.are is);
  put_is = ap (λ (bytes : List ℕ). bytes ++ more) to.put_is ∙ ap (λ (bytes : List ℕ). put_all form to.verdicts ++ bytes) put_is ∙ put_push form to.verdicts v;
  sums_are = sums_are ∙ ap (λ (s : Sums). counted s v) to.sums_are ∙ sym (fold_push to.verdicts v no_sums);
}

behind : (front more whole : List ℕ) → IsPrefix more whole → IsPrefix (front ++ more) (front ++ whole)
behind front more whole (rest, is) = (rest, ap (λ (bytes : List ℕ). front ++ bytes) is ∙ sym (append_assoc front more rest))

none_more : (put more whole : List ℕ) → put ≡ whole → more ≡ [] → IsPrefix (put ++ more) whole
none_more put more whole is none = ([], sym is ∙ sym (append-nil put) ∙ ap (λ (bytes : List ℕ). put ++ bytes) (sym none) ∙ sym (append-nil (put ++ more)))

walked_part : (form : Form) (ids : List ℕ) (image : Image) (counts : Counts) (at number all : ℕ) (sums : Sums) (stop : Stop) (put more : List ℕ) → Walked form ids image counts at sums put → first_numbers ids (at + 1) ≡ first_numbers ids at ++ number ∷ [] → at < all
    → PutsOne form (is_whole ids) image counts number sums (Err stop) more → WalkedPart form ids image counts all (put ++ more)
walked_part form ids image counts at number all sums stop put more to list less (inl none) = record {
  count = at;
  within = omega (arith, less);
  verdicts = to.verdicts;
  are = to.are;
  part = none_more put more (put_all form to.verdicts) to.put_is none;
}
walked_part form ids image counts at number all sums stop put more to list less (inr (v, is, part)) = record {
  count = at + 1;
  within = omega (arith, less);
  verdicts = to.verdicts ++ v ∷ [];
  are = subst (λ (ns : List ℕ). AreJudged form (is_whole ids) image counts ns (to.verdicts ++ v ∷ [])) (sym list) (judged_push form (is_whole ids) image counts (first_numbers ids at) to.verdicts number v to.are is);
  part = subst (λ (bytes : List ℕ). IsPrefix (bytes ++ more) (put_all form (to.verdicts ++ v ∷ []))) (sym to.put_is)
      (subst (IsPrefix (put_all form to.verdicts ++ more)) (put_push form to.verdicts v) (behind (put_all form to.verdicts) more (put_of form v) part));
}

-- ---- the same over more calls

pub are_wider : (form : Form) (whole : Bool) (image : Image) (inner outer : Counts) (ns : List ℕ) (vs : List (Option Verdict)) → IsWithin inner outer → AreJudged form whole image inner ns vs → AreJudged form whole image outer ns vs
are_wider form whole image inner outer [] [] within are = tt
are_wider form whole image inner outer [] (v ∷ vs) within are = absurd are
are_wider form whole image inner outer (n ∷ ns) [] within are = absurd are
are_wider form whole image inner outer (n ∷ ns) (v ∷ vs) within are = (judged_wider form whole image inner outer n v within are.0, are_wider form whole image inner outer ns vs within are.1)

pub walked_wider : (form : Form) (ids : List ℕ) (image : Image) (inner outer : Counts) (count : ℕ) (sums : Sums) (put : List ℕ) → IsWithin inner outer → Walked form ids image inner count sums put → Walked form ids image outer count sums put
walked_wider form ids image inner outer count sums put within to = record {
  verdicts = to.verdicts;
  are = are_wider form (is_whole ids) image inner outer (first_numbers ids count) to.verdicts within to.are;
  put_is = to.put_is;
  sums_are = to.sums_are;
}

puts_wider : (form : Form) (whole : Bool) (image : Image) (inner outer : Counts) (n : ℕ) (before : Sums) (r : Result Sums Stop) (put : List ℕ) → IsWithin inner outer → PutsOne form whole image inner n before r put → PutsOne form whole image outer n before r put
puts_wider form whole image inner outer n before (Ok sums) put within (v, is, put_is, sums_are) = (v, judged_wider form whole image inner outer n v within is, put_is, sums_are)
puts_wider form whole image inner outer n before (Err stop) put within (inl none) = inl none
puts_wider form whole image inner outer n before (Err stop) put within (inr (v, is, rest)) = inr (v, judged_wider form whole image inner outer n v within is, rest)

-- what one call on a number promises
abbrev pub OnePut : (tells shows : Type 0) → Form → List ℕ → ℕ → Sums → Result Sums Stop → DiskView → DiskView → List ℕ → List ℕ → Type 0
OnePut tells shows form ids number sums r disk later before after = tells → shows → (put : List ℕ) × (after ≡ before ++ put) × PutsOne form (is_whole ids) disk.reads (counts_of disk later) number sums r put

module _ (tells shows : Type 0) (form : Form) (ids : List ℕ) (at number : ℕ) (sums : Sums) (old now : DiskView) (before shown : List ℕ) (failed fails : ℕ) (is : IsWalking tells shows form ids at sums old now before shown failed fails)
    (list : first_numbers ids (at + 1) ≡ first_numbers ids at ++ number ∷ []) where
  more_risen : (next : Sums) (later : DiskView) → HasOwnCause (IsRead number) (sums.unread < next.unread) now later → HasUnread next → (g : FileId) × IsChecked g × HasRisen (old.faults g) (later.faults g)
  more_risen next later cause some = by sums.unread refl where
    by : (n : ℕ) → sums.unread ≡ n → (g : FileId) × IsChecked g × HasRisen (old.faults g) (later.faults g)
    by zero none = let r = cause.risen (omega (arith, none, some)) in (r.0, (number, r.1), risen_second (old.faults r.0) (now.faults r.0) (later.faults r.0) (is.disk r.0) r.2)
    by (suc n) before = let r = is.risen (omega (arith, before)) in (r.0, r.1, risen_first (old.faults r.0) (now.faults r.0) (later.faults r.0) r.2 (cause.monotone r.0))

  pub walking_goes_on : (next : Sums) (later : DiskView) (after : List ℕ) (fails' : ℕ) → OnePut tells shows form ids number sums (Ok next) now later shown after → (tells → OnlyReads now later) → HasOwnCause (IsRead number) (sums.unread < next.unread) now later → fails ≤ fails'
      → IsWalking tells shows form ids (at + 1) next old later before after failed fails'
  walking_goes_on next later after fails' one reads cause sink = record {
    disk = λ f. omega (arith, is.disk f, cause.monotone f);
    risen = more_risen next later cause;
    sink = omega (arith, is.sink, sink);
    reads = λ told. reads_trans old now later (is.reads told) (reads told);
    walked = λ told told_too.
        let to = is.walked told told_too in
        let more = one told told_too in (
          to.0 ++ more.0,
          more.1 ∙ ap (λ (bytes : List ℕ). bytes ++ more.0) to.1 ∙ append_assoc before to.0 more.0,
          walked_more form ids old.reads (counts_of old later) at number sums next to.0 more.0
              (walked_wider form ids old.reads (counts_of old now) (counts_of old later) at sums to.0 (record { before = λ g. omega arith; now = cause.monotone }) to.2) list
              (puts_wider form (is_whole ids) old.reads (counts_of now later) (counts_of old later) number sums (Ok next) more.0 (record { before = is.disk; now = λ g. omega arith })
              (subst (λ (image : Image). PutsOne form (is_whole ids) image (counts_of now later) number sums (Ok next) more.0) (same_image old now (is.reads told)) more.2)),
        );
  }

  pub walking_stops : (stop : Stop) (r : Result Sums Stop) (all : ℕ) (later : DiskView) (after : List ℕ) → OnePut tells shows form ids number sums (Err stop) now later shown after → ((f : FileId) → now.faults f ≤ later.faults f) → r ≡ Err stop → at < all
      → tells → shows → (put : List ℕ) × (after ≡ before ++ put) × Walks form ids old.reads (counts_of old later) all r put
  walking_stops stop r all later after one more_faults same less told told_too =
      let to = is.walked told told_too in
      let more = one told told_too in (
        to.0 ++ more.0,
        more.1 ∙ ap (λ (bytes : List ℕ). bytes ++ more.0) to.1 ∙ append_assoc before to.0 more.0,
        subst (λ (x : Result Sums Stop). Walks form ids old.reads (counts_of old later) all x (to.0 ++ more.0)) (sym same)
            (walked_part form ids old.reads (counts_of old later) at number all sums stop to.0 more.0
            (walked_wider form ids old.reads (counts_of old now) (counts_of old later) at sums to.0 (record { before = λ g. omega arith; now = more_faults }) to.2) list less
            (puts_wider form (is_whole ids) old.reads (counts_of now later) (counts_of old later) number sums (Err stop) more.0 (record { before = is.disk; now = λ g. omega arith })
            (subst (λ (image : Image). PutsOne form (is_whole ids) image (counts_of now later) number sums (Err stop) more.0) (same_image old now (is.reads told)) more.2))),
      )

-- there are as many numbers
pub few_less : (ids : List ℕ) (at count : ℕ) → IsFew ids count → at < count → IsFew ids (at + 1)
few_less [] at count few less = omega (arith, few, less)
few_less (id ∷ ids) at count few less = omega (arith, few, less)

-- an error is this one
pub err_as : (r : Result Sums Stop) (e : Stop) → IsErrAnd r (λ x. x ≡ e) → r ≡ Err e
err_as (Ok x) e is = absurd is
err_as (Err x) e is = ap (λ (y : Stop). Err y) is

-- ---- sums with one more unread log

never_unread : (found : Checked) (sums : Sums) → (with_class sums (class_found found)).unread ≡ sums.unread
never_unread kept.Nowhere sums = refl
never_unread (kept.Unlisted part) sums = refl
never_unread (kept.Closed part) sums = refl
never_unread (kept.Broken head body count time part) sums = refl
never_unread (kept.Sound head body exit) sums = by (body.kind == 3) where
  by : (b : Bool) → (with_class sums (if b then classes.Complete else classes.Incomplete)).unread ≡ sums.unread
  by true = refl
  by false = refl

-- the count of unread logs grows by a verdict that says so
pub unread_grows : (sums : Sums) (v : Verdict) → sums.unread < (with_class sums (class_of v)).unread → v.found ≡ None
unread_grows sums v more = by v.found refl where
  by : (o : Option Checked) → v.found ≡ o → v.found ≡ None
  by None is = is
  by (Some found) is =
      let same : (with_class sums (class_of v)).unread ≡ sums.unread = ap (λ (x : Option Checked). (with_class sums (class_in x)).unread) is ∙ never_unread found sums in
      absurd (let no_ : ⊥ = omega (arith, same, more) in no_)
