-- A log that stays as it is is followed as it is played.
use Rattle.std.proofs.Common.{◌≡◌, ◌≢◌, ◌∙◌, ◌++◌, ◌+◌, ◌*◌, ◌-◌, ◌⊎◌, ◌<◌, ◌≤◌, inl, inr, ℕ, zero, suc, List, [], ◌∷◌, Some, None, Result, Ok, Err, length, length-append, refl, sym, ap, subst, append-nil, append_assoc, arith}
use Rattle.std.proofs.lemmas.List.{replicate-append-replicate}
use Rattle.lsv_disk.specs.declared.file.Part.{Part}
use Rattle.lsv_disk.specs.View.{Image}
use Rattle.lsv_bundle.specs.declared.body.Body.{Body}
use Rattle.lsv_iolog.specs.Reading.{HasCuts, IsFaultBehind}
use Rattle.lsv_iolog.specs.Recovered.{Replays}
use Rattle.lsv_record.specs.Layout.{Begins}
use Rattle.lsv_record.specs.Points.{Stored}
use Rattle.lsv_record.specs.declared.laid.Laid.{Laid}
use Rattle.lsv_record.specs.declared.records.Record.{Record}
use Rattle.lsv_record.proofs.Once.{one_begins}
use Rattle.lsv_play.specs.declared.options.Options.{Options}
use Rattle.lsv_play.specs.declared.screen.Item.{Item}
use Rattle.lsv_play.specs.declared.screen.Item.TheVariants.{Wait}
use Rattle.lsv_play.specs.Items.{IsPart}
use Rattle.lsv_play.specs.Playing.{Plays, laid_at}
use Rattle.lsv_play.specs.Schedule.{play}
use Rattle.lsv_play.proofs.Parts.{part_of_more, part_whole, play_append}
use Rattle.lsv_play.proofs.Stored.{some_of_all}
use Rattle.lsv_play.proofs.Undamaged.{no_view_damage}
use Rattle.lsv_play.specs.declared.fault.PlayFault.TheVariants as plays
use Rattle.lsv_follow.specs.Ending.{AreLooks, Follows, IsLook, PutsLooks, gave, most_quiet, pauses, quiet}
use Rattle.lsv_follow.specs.Followed.{followed, pause, quiet_in, records_of}
use Rattle.lsv_follow.specs.Following.{Finds, HasFaultNext, HasGivenAll, given_by}
use Rattle.lsv_follow.specs.declared.end.FollowEnd.{FollowEnd}
use Rattle.lsv_follow.specs.declared.end.FollowEnd.TheVariants as ends
use Rattle.lsv_follow.specs.declared.follow.Seen.{Seen}
use Rattle.lsv_follow.specs.declared.follow.Seen.TheVariants as seen
use Rattle.lsv_follow.proofs.Given.{all_of_stored, exit_of_stored, not_absent, stored_of_given, stored_sound, two_cuts, two_entries}
use Rattle.lsv_follow.proofs.Played.{count_first, count_over, followed_end, followed_gave, followed_quiet_put, gave_push, given_first, quiet_more, records_append}

-- ---- a stored log

-- looks at it gave its first records, and then m found no further one, since all were given and the log isn't complete
pub record AreFirst (log : Stored) (looks : List Seen) : Type 0 where
  pub records : List Record
  pub more : List Record
  pub m : ℕ
  pub first : log.records ≡ records ++ more
  pub looks_are : looks ≡ gave records ++ quiet m
  pub all_given : m ≢ 0 → (more ≡ []) × (log.exit ≡ None)
  pub few : m ≤ most_quiet

-- or they gave all its records and its end, and the log is complete
abbrev Shape : Stored → List Seen → Type 0
Shape log looks = AreFirst log looks ⊎ ((log.exit ≢ None) × (looks ≡ gave log.records ++ seen.End ∷ []))

zero_or_not : (n : ℕ) → (n ≡ 0) ⊎ (n ≢ 0)
zero_or_not zero = inl refl
zero_or_not (suc n) = inr (λ e. omega (arith, e))

no_quiet : (front : List Seen) (n : ℕ) → n ≡ 0 → front ++ quiet n ≡ front
no_quiet front n zero_is = ap (λ (k : ℕ). front ++ quiet k) zero_is ∙ append-nil front

none_left : (all rs more : List Record) → all ≡ rs → all ≡ rs ++ more → more ≡ []
none_left all rs [] one two = refl
none_left all rs (r ∷ more) one two = absurd (let no_ : ⊥ = omega (arith, ap length one, ap length two, length-append rs (r ∷ more)) in no_)

module _ (n cuts : ℕ) (images : ℕ → Image) (log : Stored) (stays : (k : ℕ) → Replays (images k) n (Some log)) where
  module _ (before : List Seen) (is : AreFirst log before) where
    given_are : records_of before ≡ is.records
    given_are = ap records_of is.looks_are ∙ given_first is.records is.m

    step_record : (r : Record) → Finds n cuts (images (2 * length before)) (records_of before) (seen.Record r) → Shape log (before ++ seen.Record r ∷ [])
    step_record r finds = by_m (zero_or_not is.m) where
      rest_is : (more : List Record) × (log.records ≡ (is.records ++ r ∷ []) ++ more)
      rest_is = subst (λ (rs : List Record). (more : List Record) × (log.records ≡ (rs ++ r ∷ []) ++ more)) given_are (stored_of_given n (images (2 * length before)) log (stays (2 * length before)) cuts (records_of before ++ r ∷ []) finds).1

      by_m : (is.m ≡ 0) ⊎ (is.m ≢ 0) → Shape log (before ++ seen.Record r ∷ [])
      by_m (inr some) = absurd (
          let none : log.records ≡ is.records = is.first ∙ ap (λ (rs : List Record). is.records ++ rs) (is.all_given some).0 ∙ append-nil is.records in
          let no_ : ⊥ = omega (arith, ap length none, ap length rest_is.1, length-append (is.records ++ r ∷ []) rest_is.0, length-append is.records (r ∷ [])) in no_)
      by_m (inl none) = inl (record {
        records = is.records ++ r ∷ [];
        more = rest_is.0;
        m = 0;
        first = rest_is.1;
        looks_are = ap (λ (ls : List Seen). ls ++ seen.Record r ∷ []) (is.looks_are ∙ no_quiet (gave is.records) is.m none) ∙ sym (gave_push is.records r) ∙ sym (append-nil (gave (is.records ++ r ∷ [])));
        all_given = λ not_zero. absurd (not_zero refl);
        few = omega arith;
      })

    step_nothing : quiet_in 0 before < most_quiet → Finds n cuts (images (2 * length before)) (records_of before) seen.Nothing → Shape log (before ++ seen.Nothing ∷ [])
    step_nothing few finds =
        let all : log.records ≡ is.records = all_of_stored n (images (2 * length before)) log (stays (2 * length before)) cuts (records_of before) finds.0 ∙ given_are in
        let counted : quiet_in 0 before ≡ is.m = ap (quiet_in 0) is.looks_are ∙ count_first is.records is.m in
        inl (record {
          records = is.records;
          more = is.more;
          m = is.m + 1;
          first = is.first;
          looks_are = ap (λ (ls : List Seen). ls ++ seen.Nothing ∷ []) is.looks_are ∙ append_assoc (gave is.records) (quiet is.m) (seen.Nothing ∷ []) ∙ ap (λ (ls : List Seen). gave is.records ++ ls) (quiet_more is.m);
          all_given = λ some. (none_left log.records is.records is.more all is.first, (exit_of_stored n (images (2 * length before)) log (stays (2 * length before)) cuts (records_of before) finds.0.has).1 finds.1);
          few = omega (arith, few, counted);
        })

    step_end : Finds n cuts (images (2 * length before)) (records_of before) seen.End → (log.exit ≢ None) × (before ++ seen.End ∷ [] ≡ gave log.records ++ seen.End ∷ [])
    step_end finds = by_m (zero_or_not is.m) where
      all : log.records ≡ is.records
      all = all_of_stored n (images (2 * length before)) log (stays (2 * length before)) cuts (records_of before) finds.0 ∙ given_are

      complete : log.exit ≢ None
      complete = (exit_of_stored n (images (2 * length before)) log (stays (2 * length before)) cuts (records_of before) finds.0.has).0 finds.1

      by_m : (is.m ≡ 0) ⊎ (is.m ≢ 0) → (log.exit ≢ None) × (before ++ seen.End ∷ [] ≡ gave log.records ++ seen.End ∷ [])
      by_m (inr some) = absurd (complete (is.all_given some).1)
      by_m (inl none) = (complete, ap (λ (ls : List Seen). ls ++ seen.End ∷ []) (is.looks_are ∙ no_quiet (gave is.records) is.m none ∙ ap gave (sym all)))

    step_first : (look : Seen) → IsLook n cuts images before look → Shape log (before ++ look ∷ [])
    step_first (seen.Record r) is_look = step_record r is_look.finds
    step_first seen.Nothing is_look = step_nothing is_look.going.few is_look.finds
    step_first seen.End is_look = inr (step_end is_look.finds)

  step : (before : List Seen) (look : Seen) → IsLook n cuts images before look → Shape log before → Shape log (before ++ look ∷ [])
  step before look is_look (inl first) = step_first before first look is_look
  step before look is_look (inr over) = absurd (is_look.going.not_over (gave log.records, over.1))

  module _ (looks : List Seen) (are : AreLooks n cuts images looks) where
    walk : (done todo rest : List Seen) → looks ≡ (done ++ todo) ++ rest → Shape log done → Shape log (done ++ todo)
    walk done [] rest e shape = subst (Shape log) (sym (append-nil done)) shape
    walk done (look ∷ todo) rest e shape =
        subst (Shape log) (append_assoc done (look ∷ []) todo)
        (walk (done ++ look ∷ []) todo rest (e ∙ ap (λ (ls : List Seen). ls ++ rest) (sym (append_assoc done (look ∷ []) todo)))
        (step done look (are done look (todo ++ rest) (e ∙ append_assoc done (look ∷ todo) rest)) shape))

    nothing_yet : Shape log []
    nothing_yet = inl (record { records = []; more = log.records; m = 0; first = refl; looks_are = refl; all_given = λ not_zero. absurd (not_zero refl); few = omega arith })

    pub shape_of : (before rest : List Seen) → looks ≡ before ++ rest → Shape log before
    shape_of before rest e = walk [] before rest e nothing_yet

    -- if the last found the end
    pub over_shape : (front : List Seen) → looks ≡ front ++ seen.End ∷ [] → (log.exit ≢ None) × (looks ≡ gave log.records ++ seen.End ∷ [])
    over_shape front e = by_shape (shape_of front (seen.End ∷ []) e) where
      by_shape : Shape log front → (log.exit ≢ None) × (looks ≡ gave log.records ++ seen.End ∷ [])
      by_shape (inl first) = let end = step_end front first (are front seen.End [] e).finds in (end.0, e ∙ end.1)
      by_shape (inr over) = absurd ((are front seen.End [] e).going.not_over (gave log.records, over.1))

    -- if too many found nothing
    pub quiet_shape : quiet_in 0 looks ≡ most_quiet → (log.exit ≡ None) × (looks ≡ gave log.records ++ quiet most_quiet)
    quiet_shape most = by_shape (shape_of looks [] (sym (append-nil looks))) where
      by_shape : Shape log looks → (log.exit ≡ None) × (looks ≡ gave log.records ++ quiet most_quiet)
      by_shape (inl first) =
          let m_is : first.m ≡ most_quiet = sym (count_first first.records first.m) ∙ ap (quiet_in 0) (sym first.looks_are) ∙ most in
          let all = first.all_given (λ none. let no_ : ⊥ = omega (arith, m_is, none) in no_) in
          (all.1, first.looks_are ∙ ap (λ (rs : List Record). gave rs ++ quiet first.m) (sym (first.first ∙ ap (λ (rs : List Record). first.records ++ rs) all.0 ∙ append-nil first.records)) ∙ ap (λ (k : ℕ). gave log.records ++ quiet k) m_is)
      by_shape (inr over) = absurd (let no_ : ⊥ = omega (arith, most, ap (quiet_in 0) over.1, count_over log.records) in no_)

-- ---- what is put of it

-- a first part of looks is put first
module _ (o : Options) (log : Stored) (looks : List Seen) where
  rest_first : (is : AreFirst log looks) → (rest : List Item) × (play o log.records ++ pauses most_quiet ≡ followed o looks ++ rest)
  rest_first is = by_m (zero_or_not is.m) where
    is_put : followed o looks ≡ play o is.records ++ pauses is.m
    is_put = ap (followed o) is.looks_are ∙ followed_quiet_put o is.records is.m

    by_m : (is.m ≡ 0) ⊎ (is.m ≢ 0) → (rest : List Item) × (play o log.records ++ pauses most_quiet ≡ followed o looks ++ rest)
    by_m (inl none) = (
      play o is.more ++ pauses most_quiet,
      ap (λ (rs : List Record). play o rs ++ pauses most_quiet) is.first ∙ ap (λ (items : List Item). items ++ pauses most_quiet) (play_append o is.records is.more)
          ∙ append_assoc (play o is.records) (play o is.more) (pauses most_quiet)
          ∙ ap (λ (items : List Item). items ++ (play o is.more ++ pauses most_quiet)) (sym (is_put ∙ ap (λ (k : ℕ). play o is.records ++ pauses k) none ∙ append-nil (play o is.records))),
    )
    by_m (inr some) = (
      pauses (most_quiet - is.m),
      ap (λ (rs : List Record). play o rs ++ pauses most_quiet) (is.first ∙ ap (λ (rs : List Record). is.records ++ rs) (is.all_given some).0 ∙ append-nil is.records)
          ∙ ap (λ (items : List Item). play o is.records ++ items) (ap pauses (let e : most_quiet ≡ is.m + (most_quiet - is.m) = omega (arith, is.few) in e) ∙ sym (replicate-append-replicate is.m (most_quiet - is.m) (Wait pause)))
          ∙ sym (append_assoc (play o is.records) (pauses is.m) (pauses (most_quiet - is.m)))
          ∙ ap (λ (items : List Item). items ++ pauses (most_quiet - is.m)) (sym is_put),
    )

  rest_of : Shape log looks → (rest : List Item) × (play o log.records ++ pauses most_quiet ≡ followed o looks ++ rest)
  rest_of (inl first) = rest_first first
  rest_of (inr over) = (pauses most_quiet, ap (λ (items : List Item). items ++ pauses most_quiet) (sym (ap (followed o) over.1 ∙ followed_end o log.records)))

  part_of_all : (put : List Item) → Shape log looks → IsPart put (followed o looks) → IsPart put (play o log.records ++ pauses most_quiet)
  part_of_all put shape part = let rest = rest_of shape in subst (IsPart put) (sym rest.1) (part_of_more put (followed o looks) rest.0 part)

equal_part : (put whole : List Item) → put ≡ whole → IsPart put whole
equal_part put whole e = subst (λ (items : List Item). IsPart items whole) (sym e) (part_whole whole)

-- what is put for looks is a first part of what they are put for
puts_part : {T : Type 0} (o : Options) (looks : List Seen) (put : List Item) (r : Result T FollowEnd) → PutsLooks o looks put r → IsPart put (followed o looks)
puts_part o looks put (Ok end) puts = equal_part put (followed o looks) puts
puts_part o looks put (Err ends.Quiet) puts = equal_part put (followed o looks) puts
puts_part o looks put (Err (ends.Resumed was now)) puts = equal_part put (followed o looks) puts
puts_part o looks put (Err ends.Removed) puts = equal_part put (followed o looks) puts
puts_part o looks put (Err (ends.Fault plays.Screen)) puts = puts
puts_part o looks put (Err (ends.Fault (plays.Damaged part))) puts = equal_part put (followed o looks) puts
puts_part o looks put (Err (ends.Fault plays.Absent)) puts = equal_part put (followed o looks) puts
puts_part o looks put (Err (ends.Fault plays.Resumed)) puts = equal_part put (followed o looks) puts
puts_part o looks put (Err (ends.Fault plays.Disk)) puts = equal_part put (followed o looks) puts
puts_part o looks put (Err (ends.Fault plays.NoMem)) puts = equal_part put (followed o looks) puts

-- ---- the law

module _ (o : Options) (n : ℕ) (images : ℕ → Image) (saw : List (List Item)) (put : List Item) (log : Stored) (stays : (k : ℕ) → Replays (images k) n (Some log)) where
  pub followed_part : {T : Type 0} (r : Result T FollowEnd) → Follows o n images saw r put → IsPart put (play o log.records ++ pauses most_quiet)
  followed_part r (inl (not_opened, none, unseen)) = subst (λ (items : List Item). IsPart items (play o log.records ++ pauses most_quiet)) (sym none) tt
  followed_part r (inr is) = part_of_all o log is.looks put (shape_of n is.cuts images log stays is.looks is.are is.looks [] (sym (append-nil is.looks))) (puts_part o is.looks put r is.puts)

  pub followed_whole : {T : Type 0} (end : T) → Follows o n images saw (Ok end) put → (put ≡ play o log.records) × (log.exit ≢ None)
  followed_whole end (inl (not_opened, none, unseen)) = absurd not_opened
  followed_whole end (inr is) = let over = over_shape n is.cuts images log stays is.looks is.are is.ends.0 is.ends.1 in (is.puts ∙ ap (followed o) over.1 ∙ followed_end o log.records, over.0)

  pub followed_quiet : (T : Type 0) → Follows {T = T} o n images saw (Err ends.Quiet) put → (put ≡ play o log.records ++ pauses most_quiet) × (log.exit ≡ None)
  followed_quiet T (inl (not_opened, none, unseen)) = absurd not_opened
  followed_quiet T (inr is) = let at = quiet_shape n is.cuts images log stays is.looks is.are is.ends in (is.puts ∙ ap (followed o) at.1 ∙ followed_quiet_put o log.records most_quiet, at.0)

  pub followed_there : (T : Type 0) → Follows {T = T} o n images saw (Err (ends.Fault plays.Absent)) put → ⊥
  followed_there T (inl (absent, none, unseen)) = not_absent n (images 0) log (stays 0) absent
  followed_there T (inr is) = is.ends

  pub followed_kept : (T : Type 0) → Follows {T = T} o n images saw (Err ends.Removed) put → ⊥
  followed_kept T (inl (not_opened, none, unseen)) = not_opened
  followed_kept T (inr is) = either is.ends.1 where
    either : Replays (images (2 * length is.looks)) n None ⊎ Replays (images (suc (2 * length is.looks))) n None → ⊥
    either (inl gone) = not_absent n (images (2 * length is.looks)) log (stays (2 * length is.looks)) gone
    either (inr gone) = not_absent n (images (suc (2 * length is.looks))) log (stays (suc (2 * length is.looks))) gone

  pub followed_undamaged : (T : Type 0) (part : Part) → Follows {T = T} o n images saw (Err (ends.Fault (plays.Damaged part))) put → ⊥
  followed_undamaged T part (inl (damaged, none, unseen)) = no_view_damage n (images 0) log (stays 0) part damaged
  followed_undamaged T part (inr is) = stored_sound n is.cuts (images (2 * length is.looks)) log (records_of is.looks) part (stays (2 * length is.looks)) is.ends.1.has is.ends.1.fault

  pub followed_uncut : (T : Type 0) (was now : ℕ) → Follows {T = T} o n images saw (Err (ends.Resumed was now)) put → ⊥
  followed_uncut T was now (inl (not_opened, none, unseen)) = not_opened
  followed_uncut T was now (inr is) = is.ends.2 (either is.ends.3 ∙ (stored_of_given n (images 0) log (stays 0) is.cuts [] is.opened).0) where
    cuts_at : (k : ℕ) → HasCuts n now (images k) → now ≡ log.cuts
    cuts_at k has = let holds = stays k in two_cuts n now log.cuts (images k) has (holds.entry.body, record { is_body = holds.holds.is_body; last = holds.holds.last }, sym holds.is.cuts)

    either : HasCuts n now (images (2 * length is.looks)) ⊎ HasCuts n now (images (suc (2 * length is.looks))) → now ≡ log.cuts
    either (inl has) = cuts_at (2 * length is.looks) has
    either (inr has) = cuts_at (suc (2 * length is.looks)) has

pub followed_unplayed : (T : Type 0) (o : Options) (n : ℕ) (images : ℕ → Image) (saw : List (List Item)) (put : List Item) → Follows {T = T} o n images saw (Err (ends.Fault plays.Resumed)) put → ⊥
followed_unplayed T o n images saw put (inl (not_opened, none, unseen)) = not_opened
followed_unplayed T o n images saw put (inr is) = is.ends

-- ---- a damaged log that stays as it is

module _ (n cuts : ℕ) (image : Image) (looks : List Seen) (part : Part) (are : AreLooks n cuts (λ k. image) looks) (last : HasFaultNext n cuts image (records_of looks) part) where
  -- no look found that all were given
  not_all : (before after : List Seen) (look : Seen) → looks ≡ before ++ look ∷ after → HasGivenAll n cuts image (records_of before) → ⊥
  not_all before after look e all = all.sound part (subst (λ (rs : List Record). IsFaultBehind l all.has.body rs part) same_records (subst (λ (b : Body). IsFaultBehind (laid_at n b image) b (records_of looks) part) same_body last.fault)) where
    same_body : last.has.body ≡ all.has.body
    same_body = two_entries n last.has.body all.has.body image last.has.opened.entry all.has.opened.entry

    l : Laid
    l = laid_at n all.has.body image

    begins : Begins l (records_of looks)
    begins = subst (λ (b : Body). Begins (laid_at n b image) (records_of looks)) same_body last.has.given.begins

    more : (more : List Record) × (records_of before ≡ records_of looks ++ more)
    more = some_of_all l (records_of before) (records_of looks) all.all.layout all.all.begins begins (one_begins l (records_of looks) (records_of before) begins all.all.begins)

    split : records_of looks ≡ records_of before ++ records_of (look ∷ after)
    split = ap records_of e ∙ records_append before (look ∷ after)

    same_records : records_of looks ≡ records_of before
    same_records = sym (more.1 ∙ ap (λ (rs : List Record). records_of looks ++ rs) none ∙ append-nil (records_of looks)) where
      empty : (rs : List Record) → length rs ≡ 0 → rs ≡ []
      empty [] e = refl
      empty (r ∷ rs) e = absurd (let no_ : ⊥ = omega (arith, e) in no_)

      none : more.0 ≡ []
      none = empty more.0 (omega (arith, ap length more.1, length-append (records_of looks) more.0, ap length split, length-append (records_of before) (records_of (look ∷ after))))

  -- so each gave a record
  gave_one : (before after : List Seen) (look : Seen) → looks ≡ before ++ look ∷ after → look ∷ [] ≡ gave (given_by look)
  gave_one before after look e = by_look look e (are before look after e).finds where
    by_look : (look : Seen) → looks ≡ before ++ look ∷ after → Finds n cuts image (records_of before) look → look ∷ [] ≡ gave (given_by look)
    by_look (seen.Record r) e finds = refl
    by_look seen.Nothing e finds = absurd (not_all before after seen.Nothing e finds.0)
    by_look seen.End e finds = absurd (not_all before after seen.End e finds.0)

  gave_from : (before after : List Seen) → looks ≡ before ++ after → after ≡ gave (records_of after)
  gave_from before [] e = refl
  gave_from before (look ∷ after) e = by_look look (gave_one before after look e) (gave_from (before ++ look ∷ []) after (e ∙ sym (append_assoc before (look ∷ []) after))) where
    by_look : (look : Seen) → look ∷ [] ≡ gave (given_by look) → after ≡ gave (records_of after) → look ∷ after ≡ gave (given_by look ++ records_of after)
    by_look (seen.Record r) one more = ap (λ (ls : List Seen). seen.Record r ∷ ls) more
    by_look seen.Nothing one more = absurd (let no_ : ⊥ = cc in no_)
    by_look seen.End one more = absurd (let no_ : ⊥ = cc in no_)

  pub all_gave : looks ≡ gave (records_of looks)
  all_gave = gave_from [] looks refl

pub damaged_played : (T : Type 0) (o : Options) (n : ℕ) (image : Image) (saw : List (List Item)) (put : List Item) (part : Part) → Follows {T = T} o n (λ k. image) saw (Err (ends.Fault (plays.Damaged part))) put → Plays {T = T} o n image (Err (plays.Damaged part)) put
damaged_played T o n image saw put part (inl (damaged, none, unseen)) = inl (damaged, none)
damaged_played T o n image saw put part (inr is) = inr (record {
  body = is.ends.1.has.body;
  head = is.ends.1.has.head;
  opened = is.ends.1.has.opened;
  records = (
    records_of is.looks,
    record { begins = is.ends.1.has.given.begins; sound = is.ends.1.has.given.sound; fault = is.ends.1.fault },
    is.puts ∙ ap (followed o) (all_gave n is.cuts image is.looks part is.are is.ends.1) ∙ followed_gave o (records_of is.looks),
  );
})
