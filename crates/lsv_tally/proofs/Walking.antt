-- Event logs that are read lane by lane, and what is put of them.
use Rattle.std.proofs.Common.{◌≡◌, ◌∙◌, ◌++◌, inl, inr, ℕ, zero, suc, ◌+◌, ◌<◌, ◌≤◌, List, [], ◌∷◌, Option, Some, None, Result, Ok, Err, IsErrAnd, fold, refl, sym, ap, subst, append-nil, append_assoc, arith}
use Rattle.std.proofs.lemmas.List.{flat_map_more}
use Rattle.lsv_defs.specs.Causes.{HasRisen}
use Rattle.lsv_defs.specs.Pieces.{IsPrefix}
use Rattle.lsv_disk.specs.declared.file.FileId.{FileId}
use Rattle.lsv_disk.specs.Throughout.{OnlyReads}
use Rattle.lsv_disk.specs.View.{DiskView, HasOwnCause, Image}
use Rattle.lsv_disk.proofs.Composition.{OnlyNow, reads_trans, risen_first, risen_second}
use Rattle.lsv_iolog.proofs.Scans.{reads_nothing}
use Rattle.lsv_play.proofs.Played.{same_image}
use Rattle.lsv_check_args.specs.declared.request.Form.{Form}
use Rattle.lsv_eventlog.specs.Recovered.{IsOfEventLog}
use Rattle.lsv_verdict.specs.declared.walk.Stop.{Stop}
use Rattle.lsv_verdict.proofs.Judging.{IsWithin, failed_wider}
use Rattle.lsv_verdict.specs.Verdicts.{Counts, counts_of}
use Rattle.lsv_tally.specs.Walks.{AreVerdicts, HasUnread, IsOfEvents, IsSoFound, IsVerdict, PutsOne, Walked, WalkedPart, Walks, counted, no_sums, put_all, shown_line}
use Rattle.lsv_tally.specs.declared.tally.Tally.{Tally}
use Rattle.lsv_tally.specs.declared.tally.Tally.TheVariants as tallies
use Rattle.lsv_tally.specs.declared.verdict.EventVerdict.{EventVerdict}
use Rattle.lsv_tally.specs.declared.walk.EventSums.{EventSums}

put_push : (form : Form) (vs : List EventVerdict) (v : EventVerdict) → put_all form vs ++ shown_line form v ≡ put_all form (vs ++ v ∷ [])
put_push form vs v = flat_map_more (shown_line form) [] vs v

fold_push : (vs : List EventVerdict) (v : EventVerdict) (s : EventSums) → fold (λ sums w. counted sums w.found) s (vs ++ v ∷ []) ≡ counted (fold (λ sums w. counted sums w.found) s vs) v.found
fold_push [] v s = refl
fold_push (w ∷ vs) v s = fold_push vs v (counted s w.found)

verdict_push : (image : Image) (counts : Counts) (lanes next : ℕ) (vs : List EventVerdict) (v : EventVerdict) → next ≡ lanes + 1 → AreVerdicts image counts lanes vs → IsVerdict image counts lanes v → AreVerdicts image counts next (vs ++ v ∷ [])
verdict_push image counts lanes next vs v is are one =
    let on : suc lanes ≡ next = omega (arith, is) in
    subst (λ (n : ℕ). AreVerdicts image counts n (vs ++ v ∷ [])) on (vs, v, refl, are, one)

-- a walk: it only read, and this is put of the lanes so far
pub record IsWalking (tells shows : Type 0) (form : Form) (at : ℕ) (sums : EventSums) (old now : DiskView) (before shown : List ℕ) (failed fails : ℕ) : Type 0 where
  pub disk : (f : FileId) → old.faults f ≤ now.faults f
  pub risen : HasUnread sums → (g : FileId) × IsOfEvents g × HasRisen (old.faults g) (now.faults g)
  pub sink : failed ≤ fails
  pub reads : tells → OnlyReads old now
  pub walked : tells → shows → (put : List ℕ) × (shown ≡ before ++ put) × Walked form old.reads (counts_of old now) at sums put

-- at first
pub walking_starts : (tells shows : Type 0) (form : Form) (sums : EventSums) (disk : DiskView) (shown : List ℕ) (fails : ℕ) → sums ≡ no_sums → (tells → OnlyNow disk) → IsWalking tells shows form 0 sums disk disk shown shown fails fails
walking_starts tells shows form sums disk shown fails none now = record {
  disk = λ f. omega arith;
  risen = λ some. let zero_ : sums.unread ≡ 0 = ap (λ (s : EventSums). s.unread) none in absurd (let no_ : ⊥ = omega (arith, zero_, some) in no_);
  sink = omega arith;
  reads = λ told. reads_nothing disk (now told);
  walked = λ told told_too. ([], sym (append-nil shown), record { verdicts = []; are = refl; put_is = refl; sums_are = none });
}

behind : (front more whole : List ℕ) → IsPrefix more whole → IsPrefix (front ++ more) (front ++ whole)
behind front more whole (rest, is) = (rest, ap (λ (bytes : List ℕ). front ++ bytes) is ∙ sym (append_assoc front more rest))

none_more : (put more whole : List ℕ) → put ≡ whole → more ≡ [] → IsPrefix (put ++ more) whole
none_more put more whole is none = ([], sym is ∙ sym (append-nil put) ∙ ap (λ (bytes : List ℕ). put ++ bytes) (sym none) ∙ sym (append-nil (put ++ more)))

-- with one lane more
walked_more : (form : Form) (image : Image) (counts : Counts) (at : ℕ) (sums next : EventSums) (put more : List ℕ) → Walked form image counts at sums put → PutsOne form image counts at sums (Ok next) more → Walked form image counts (at + 1) next (put ++ more)
walked_more form image counts at sums next put more to (v, is, put_is, sums_are) = record {
  verdicts = to.verdicts ++ v ∷ [];
  are = verdict_push image counts at (at + 1) to.verdicts v refl to.are is;
  put_is = ap (λ (bytes : List ℕ). bytes ++ more) to.put_is ∙ ap (λ (bytes : List ℕ). put_all form to.verdicts ++ bytes) put_is ∙ put_push form to.verdicts v;
  sums_are = sums_are ∙ ap (λ (s : EventSums). counted s v.found) to.sums_are ∙ sym (fold_push to.verdicts v no_sums);
}

walked_part : (form : Form) (image : Image) (counts : Counts) (at all : ℕ) (sums : EventSums) (stop : Stop) (put more : List ℕ) → Walked form image counts at sums put → at < all → PutsOne form image counts at sums (Err stop) more → WalkedPart form image counts all (put ++ more)
walked_part form image counts at all sums stop put more to less (inl none) = record {
  lanes = at;
  within = omega (arith, less);
  verdicts = to.verdicts;
  are = to.are;
  part = none_more put more (put_all form to.verdicts) to.put_is none;
}
walked_part form image counts at all sums stop put more to less (inr (v, is, part)) = record {
  lanes = at + 1;
  within = omega (arith, less);
  verdicts = to.verdicts ++ v ∷ [];
  are = verdict_push image counts at (at + 1) to.verdicts v refl to.are is;
  part = subst (λ (bytes : List ℕ). IsPrefix (bytes ++ more) (put_all form (to.verdicts ++ v ∷ []))) (sym to.put_is)
      (subst (IsPrefix (put_all form to.verdicts ++ more)) (put_push form to.verdicts v) (behind (put_all form to.verdicts) more (shown_line form v) part));
}

-- ---- the same over more calls

found_wider : (image : Image) (inner outer : Counts) (lane : ℕ) (o : Option Tally) → IsWithin inner outer → IsSoFound image inner lane o → IsSoFound image outer lane o
found_wider image inner outer lane None within found = failed_wider (IsOfEventLog lane) inner outer within found
found_wider image inner outer lane (Some x) within found = found

verdict_wider : (image : Image) (inner outer : Counts) (lane : ℕ) (v : EventVerdict) → IsWithin inner outer → IsVerdict image inner lane v → IsVerdict image outer lane v
verdict_wider image inner outer lane v within is = record { lane_is = is.lane_is; found = found_wider image inner outer lane v.found within is.found }

pub are_wider : (image : Image) (inner outer : Counts) (lanes : ℕ) (vs : List EventVerdict) → IsWithin inner outer → AreVerdicts image inner lanes vs → AreVerdicts image outer lanes vs
are_wider image inner outer zero vs within are = are
are_wider image inner outer (suc lanes) vs within (before, v, is, are, one) = (before, v, is, are_wider image inner outer lanes before within are, verdict_wider image inner outer lanes v within one)

pub walked_wider : (form : Form) (image : Image) (inner outer : Counts) (lanes : ℕ) (sums : EventSums) (put : List ℕ) → IsWithin inner outer → Walked form image inner lanes sums put → Walked form image outer lanes sums put
walked_wider form image inner outer lanes sums put within to = record { verdicts = to.verdicts; are = are_wider image inner outer lanes to.verdicts within to.are; put_is = to.put_is; sums_are = to.sums_are }

pub part_wider : (form : Form) (image : Image) (inner outer : Counts) (all : ℕ) (put : List ℕ) → IsWithin inner outer → WalkedPart form image inner all put → WalkedPart form image outer all put
part_wider form image inner outer all put within to = record { lanes = to.lanes; within = to.within; verdicts = to.verdicts; are = are_wider image inner outer to.lanes to.verdicts within to.are; part = to.part }

puts_wider : (form : Form) (image : Image) (inner outer : Counts) (lane : ℕ) (before : EventSums) (r : Result EventSums Stop) (put : List ℕ) → IsWithin inner outer → PutsOne form image inner lane before r put → PutsOne form image outer lane before r put
puts_wider form image inner outer lane before (Ok sums) put within (v, is, put_is, sums_is) = (v, verdict_wider image inner outer lane v within is, put_is, sums_is)
puts_wider form image inner outer lane before (Err stop) put within (inl none) = inl none
puts_wider form image inner outer lane before (Err stop) put within (inr (v, is, rest)) = inr (v, verdict_wider image inner outer lane v within is, rest)

-- what one call on a lane promises
abbrev pub OnePut : (tells shows : Type 0) → Form → ℕ → EventSums → Result EventSums Stop → DiskView → DiskView → List ℕ → List ℕ → Type 0
OnePut tells shows form lane sums r disk later before after = tells → shows → (put : List ℕ) × (after ≡ before ++ put) × PutsOne form disk.reads (counts_of disk later) lane sums r put

module _ (tells shows : Type 0) (form : Form) (at : ℕ) (sums : EventSums) (old now : DiskView) (before shown : List ℕ) (failed fails : ℕ) (is : IsWalking tells shows form at sums old now before shown failed fails) where
  more_risen : (next : EventSums) (later : DiskView) → HasOwnCause (IsOfEventLog at) (sums.unread < next.unread) now later → HasUnread next → (g : FileId) × IsOfEvents g × HasRisen (old.faults g) (later.faults g)
  more_risen next later cause some = by sums.unread refl where
    by : (n : ℕ) → sums.unread ≡ n → (g : FileId) × IsOfEvents g × HasRisen (old.faults g) (later.faults g)
    by zero none = let r = cause.risen (omega (arith, none, some)) in (r.0, (at, r.1), risen_second (old.faults r.0) (now.faults r.0) (later.faults r.0) (is.disk r.0) r.2)
    by (suc n) some_before = let r = is.risen (omega (arith, some_before)) in (r.0, r.1, risen_first (old.faults r.0) (now.faults r.0) (later.faults r.0) r.2 (cause.monotone r.0))

  pub walking_goes_on : (next : EventSums) (later : DiskView) (after : List ℕ) (fails' : ℕ) → OnePut tells shows form at sums (Ok next) now later shown after → (tells → OnlyReads now later) → HasOwnCause (IsOfEventLog at) (sums.unread < next.unread) now later → fails ≤ fails'
      → IsWalking tells shows form (at + 1) next old later before after failed fails'
  walking_goes_on next later after fails' one reads cause sink = record {
    disk = λ f. omega (arith, is.disk f, cause.monotone f);
    risen = more_risen next later cause;
    sink = omega (arith, is.sink, sink);
    reads = λ told. reads_trans old now later (is.reads told) (reads told);
    walked = λ told told_too.
        let to = is.walked told told_too in
        let more = one told told_too in (
          to.0 ++ more.0,
          more.1 ∙ ap (λ (bytes : List ℕ). bytes ++ more.0) to.1 ∙ append_assoc before to.0 more.0,
          walked_more form old.reads (counts_of old later) at sums next to.0 more.0
              (walked_wider form old.reads (counts_of old now) (counts_of old later) at sums to.0 (record { before = λ g. omega arith; now = cause.monotone }) to.2)
              (puts_wider form old.reads (counts_of now later) (counts_of old later) at sums (Ok next) more.0 (record { before = is.disk; now = λ g. omega arith })
              (subst (λ (image : Image). PutsOne form image (counts_of now later) at sums (Ok next) more.0) (same_image old now (is.reads told)) more.2)),
        );
  }

  pub walking_stops : (stop : Stop) (r : Result EventSums Stop) (all : ℕ) (later : DiskView) (after : List ℕ) → OnePut tells shows form at sums (Err stop) now later shown after → ((f : FileId) → now.faults f ≤ later.faults f) → r ≡ Err stop → at < all
      → tells → shows → (put : List ℕ) × (after ≡ before ++ put) × Walks form old.reads (counts_of old later) all r put
  walking_stops stop r all later after one more_faults same less told told_too =
      let to = is.walked told told_too in
      let more = one told told_too in (
        to.0 ++ more.0,
        more.1 ∙ ap (λ (bytes : List ℕ). bytes ++ more.0) to.1 ∙ append_assoc before to.0 more.0,
        subst (λ (x : Result EventSums Stop). Walks form old.reads (counts_of old later) all x (to.0 ++ more.0)) (sym same)
            (walked_part form old.reads (counts_of old later) at all sums stop to.0 more.0
            (walked_wider form old.reads (counts_of old now) (counts_of old later) at sums to.0 (record { before = λ g. omega arith; now = more_faults }) to.2) less
            (puts_wider form old.reads (counts_of now later) (counts_of old later) at sums (Err stop) more.0 (record { before = is.disk; now = λ g. omega arith })
            (subst (λ (image : Image). PutsOne form image (counts_of now later) at sums (Err stop) more.0) (same_image old now (is.reads told)) more.2))),
      )

-- an error is this one
pub err_as : (r : Result EventSums Stop) (e : Stop) → IsErrAnd r (λ x. x ≡ e) → r ≡ Err e
err_as (Ok x) e is = absurd is
err_as (Err x) e is = ap (λ (y : Stop). Err y) is

-- the count of unread event logs grows by one that is
pub unread_grows : (sums : EventSums) (found : Option Tally) → sums.unread < (counted sums found).unread → found ≡ None
unread_grows sums None more = refl
unread_grows sums (Some tallies.Nowhere) more = absurd (let no_ : ⊥ = omega (arith, more) in no_)
unread_grows sums (Some tallies.Unlisted) more = absurd (let no_ : ⊥ = omega (arith, more) in no_)
unread_grows sums (Some tallies.Short) more = absurd (let no_ : ⊥ = omega (arith, more) in no_)
unread_grows sums (Some (tallies.Bad lines)) more = absurd (let no_ : ⊥ = omega (arith, more) in no_)
unread_grows sums (Some (tallies.Torn lines)) more = absurd (let no_ : ⊥ = omega (arith, more) in no_)
unread_grows sums (Some (tallies.Miscounted lines n)) more = absurd (let no_ : ⊥ = omega (arith, more) in no_)
unread_grows sums (Some (tallies.Sound lines bytes)) more = absurd (let no_ : ⊥ = omega (arith, more) in no_)
