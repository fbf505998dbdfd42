-- Looks at a log while others write it, and what is put for them by the end.
use Rattle.std.proofs.Common.{◌≡◌, ◌≢◌, ◌∙◌, ◌++◌, ◌+◌, ◌*◌, ◌<◌, ◌≤◌, inl, inr, ℕ, suc, List, [], ◌∷◌, Some, None, Result, Ok, Err, IsErrAnd, length, length-append, map, refl, sym, ap, subst, append-nil, append_assoc, arith}
use Rattle.std.proofs.lemmas.List.{map-append}
use Rattle.lsv_disk.specs.declared.file.FileId.{FileId}
use Rattle.lsv_disk.specs.declared.file.Part.{Part}
use Rattle.lsv_disk.specs.Throughout.{OnlyReads}
use Rattle.lsv_disk.specs.View.{DiskView, Image, Uncounted}
use Rattle.lsv_iolog.specs.declared.fault.ViewFault.{ViewFault}
use Rattle.lsv_iolog.specs.declared.fault.ViewFault.TheVariants as views
use Rattle.lsv_iolog.specs.Damage.{IsViewDamage}
use Rattle.lsv_iolog.specs.Reading.{HasCuts, ViewState}
use Rattle.lsv_iolog.specs.Recovered.{Replays}
use Rattle.lsv_record.specs.Records.{shape_of}
use Rattle.lsv_record.specs.Tally.{totals_of}
use Rattle.lsv_record.specs.declared.records.Record.{Record}
use Rattle.lsv_play.specs.declared.options.Options.{Options}
use Rattle.lsv_play.specs.declared.screen.Item.{Item}
use Rattle.lsv_play.specs.Items.{IsPart}
use Rattle.lsv_play.proofs.Parts.{part_behind}
use Rattle.lsv_play.proofs.Played.{same_image}
use Rattle.lsv_play.specs.Faults as play_faults
use Rattle.lsv_play.specs.declared.fault.PlayFault.{PlayFault}
use Rattle.lsv_play.specs.declared.fault.PlayFault.TheVariants as plays
use Rattle.lsv_follow.specs.Ending.{AreLooks, EndsAt, Follows, FollowsLooks, IsGoing, IsNotFollowed, PutsLooks, most_quiet}
use Rattle.lsv_follow.specs.Faults.{IsCheckFault, IsLookFault, of_look, of_opening}
use Rattle.lsv_follow.specs.Followed.{followed, followed_by, quiet_after, quiet_in, records_of, seen_from}
use Rattle.lsv_follow.specs.Following.{Finds, HasCounted, HasFaultNext, HasFound, HasGiven, HasShown, IsLookDamage, WasCut, cuts_seen}
use Rattle.lsv_follow.specs.Others.{IsReadBeside, MayBecome, Stands}
use Rattle.lsv_follow.specs.declared.end.FollowEnd.{FollowEnd}
use Rattle.lsv_follow.specs.declared.end.FollowEnd.TheVariants as ends
use Rattle.lsv_follow.specs.declared.fault.FollowFault.{FollowFault}
use Rattle.lsv_follow.specs.declared.fault.FollowFault.TheVariants as faults
use Rattle.lsv_follow.specs.declared.follow.Seen.{Seen}
use Rattle.lsv_follow.specs.declared.follow.Seen.TheVariants as seen
use Rattle.lsv_follow.proofs.Given.{entry_there, given_by_look, stands, two_cuts}
use Rattle.lsv_follow.proofs.Looks.{SawActs, acts_push, followed_push, going_none, going_push, looks_none, looks_push, put_after, quiet_push, records_push, saw_last, saw_looks, saw_next, seen_none}
use Rattle.lsv_follow.proofs.Views.{cut_undamaged, damage_is, gone_undamaged}

-- ---- a disk that is read beside others

-- it was only read so far, but for the acts of others, and reads as after k of these
pub record IsBeside (tells : Type 0) (images : ℕ → Image) (further : Image → ℕ → Image) (old now : DiskView) (k : ℕ) : Type 0 where
  pub faults : (f : FileId) → old.faults f ≤ now.faults f
  pub counts : tells → Uncounted old now
  pub places : tells → now.places ≡ old.places
  pub ahead : tells → (j : ℕ) → further now.reads j ≡ images (k + j)
  pub here : tells → now.reads ≡ images k

uncounted_on : (a b c : DiskView) → Uncounted a b → Uncounted b c → Uncounted a c
uncounted_on a b c one two = record { writes = λ f. two.writes f ∙ one.writes f; syncs = λ f. two.syncs f ∙ one.syncs f }

pub beside_starts : (tells : Type 0) (further : Image → ℕ → Image) (disk : DiskView) → further disk.reads 0 ≡ disk.reads → IsBeside tells (further disk.reads) further disk disk 0
beside_starts tells further disk none = record {
  faults = λ f. omega arith;
  counts = λ told. record { writes = λ f. refl; syncs = λ f. refl };
  places = λ told. refl;
  ahead = λ told j. ap (further disk.reads) (let e : j ≡ 0 + j = omega arith in e);
  here = λ told. sym none;
}

-- it was read once more
pub beside_reads : (tells : Type 0) (images : ℕ → Image) (further : Image → ℕ → Image) (old now later : DiskView) (k : ℕ) → IsBeside tells images further old now k → (tells → OnlyReads now later) → ((f : FileId) → now.faults f ≤ later.faults f)
    → IsBeside tells images further old later k
beside_reads tells images further old now later k is reads faults = record {
  faults = λ f. omega (arith, is.faults f, faults f);
  counts = λ told. uncounted_on old now later (is.counts told) (reads told).counts;
  places = λ told. (reads told).unchanged.places ∙ is.places told;
  ahead = λ told j. ap (λ (image : Image). further image j) (same_image now later (reads told)) ∙ is.ahead told j;
  here = λ told. same_image now later (reads told) ∙ is.here told;
}

-- the others acted once more
pub beside_acts : (tells : Type 0) (images : ℕ → Image) (further beyond : Image → ℕ → Image) (old now later : DiskView) (k : ℕ) → IsBeside tells images further old now k → (tells → (j : ℕ) → beyond later.reads j ≡ further now.reads (suc j)) → beyond later.reads 0 ≡ later.reads
    → (tells → Uncounted now later) → (tells → later.places ≡ now.places) → ((f : FileId) → now.faults f ≤ later.faults f) → IsBeside tells images beyond old later (suc k)
beside_acts tells images further beyond old now later k is acts none counts places faults = record {
  faults = λ f. omega (arith, is.faults f, faults f);
  counts = λ told. uncounted_on old now later (is.counts told) (counts told);
  places = λ told. places told ∙ is.places told;
  ahead = further_on;
  here = λ told. sym none ∙ further_on told 0 ∙ ap images (let e : suc k + 0 ≡ suc k = omega arith in e);
} where
  further_on : tells → (j : ℕ) → beyond later.reads j ≡ images (suc k + j)
  further_on told j = acts told j ∙ is.ahead told (suc j) ∙ ap images (let e : k + suc j ≡ suc k + j = omega arith in e)

pub reads_beside : (tells : Type 0) (images : ℕ → Image) (further : Image → ℕ → Image) (old now : DiskView) (k : ℕ) → IsBeside tells images further old now k → tells → IsReadBeside images old now
reads_beside tells images further old now k is told = record { moment = k; reads = is.here told; counts = is.counts told; places = is.places told }

-- ---- a loop of looks

-- what was shown of the log by these looks, as the disk reads now
pub record HasFollowed (n cuts : ℕ) (images : ℕ → Image) (view : ViewState) (looks : List Seen) (image : Image) : Type 0 where
  pub counted : HasCounted view (records_of looks)
  pub are : AreLooks n cuts images looks
  pub stands : Stands n cuts image (records_of looks)

-- the others noted what they saw, of a screen that had shown this before
abbrev pub Noted : (notes shows : Type 0) → List (List Item) → List (List Item) → List Item → List (List Item) → Type 0
Noted notes shows old now before saw = notes → shows → now ≡ old ++ seen_from before saw

-- the loop made these looks so far, and what was put is what is put for them
pub record IsFollowing (tells shows : Type 0) (o : Options) (start view : ViewState) (images : ℕ → Image) (old now : DiskView) (before shown : List Item) (failed fails n : ℕ) (looks : List Seen) : Type 0 where
  pub number : view.number ≡ start.number
  pub cuts : cuts_seen view ≡ cuts_seen start
  pub screen : failed ≤ fails
  pub few : n < most_quiet
  pub quiet_is : n ≡ quiet_in 0 looks
  pub going : IsGoing looks
  pub put : shows → shown ≡ before ++ followed o looks
  pub followed_so : tells → HasShown start [] old.reads → HasFollowed start.number (cuts_seen start) images view looks now.reads

-- all that the loop keeps
pub record Loops (tells shows notes : Type 0) (o : Options) (start view : ViewState) (images : ℕ → Image) (further : Image → ℕ → Image) (old now : DiskView) (before shown : List Item) (failed fails n : ℕ) (noted known : List (List Item)) : Type 0 where
  pub looks : List Seen
  pub beside : IsBeside tells images further old now (2 * length looks)
  pub is : IsFollowing tells shows o start view images old now before shown failed fails n looks
  pub noted_so : Noted notes shows noted known before (put_after o [] looks)

-- at first
pub loops_start : (tells shows notes : Type 0) (o : Options) (view : ViewState) (further : Image → ℕ → Image) (disk : DiskView) (shown : List Item) (fails : ℕ) (noted : List (List Item)) → further disk.reads 0 ≡ disk.reads
    → Loops tells shows notes o view view (further disk.reads) further disk disk shown shown fails fails 0 noted noted
loops_start tells shows notes o view further disk shown fails noted none = record {
  looks = [];
  beside = beside_starts tells further disk none;
  is = record {
    number = refl;
    cuts = refl;
    screen = omega arith;
    few = omega arith;
    quiet_is = refl;
    going = going_none;
    put = λ told. sym (append-nil shown);
    followed_so = λ told has. record { counted = has.counted; are = looks_none view.number (cuts_seen view) (further disk.reads); stands = inl has.given };
  };
  noted_so = λ told told_too. seen_none o noted shown;
}

-- one note more
noted_push : (noted known later : List (List Item)) (before shown items : List Item) (saw : List (List Item)) → known ≡ noted ++ seen_from before saw → later ≡ known ++ shown ∷ [] → shown ≡ before ++ items → later ≡ noted ++ seen_from before (saw ++ items ∷ [])
noted_push noted known later before shown items saw so_far more is =
    more ∙ ap (λ (l : List (List Item)). l ++ shown ∷ []) so_far ∙ append_assoc noted (seen_from before saw) (shown ∷ [])
    ∙ ap (λ (s : List Item). noted ++ (seen_from before saw ++ s ∷ [])) is
    ∙ ap (λ (l : List (List Item)). noted ++ l) (sym (map-append (λ (s : List Item). before ++ s) saw (items ∷ [])))

-- how the cuts are found that a log has now
still_given : (n cuts : ℕ) (image : Image) (rs : List Record) → Stands n cuts image rs → HasCuts n cuts image → HasGiven n cuts image rs
still_given n cuts image rs (inl given) has = given
still_given n cuts image rs (inr (inl cut)) has =
    absurd (cut.2 (two_cuts n cut.0.cuts cuts image (cut.1.entry.body, record { is_body = cut.1.holds.is_body; last = cut.1.holds.last }, sym cut.1.is.cuts) has))
still_given n cuts image rs (inr (inr gone)) has = absurd (entry_there n has.0 image has.1 gone)

module _ (tells shows : Type 0) (o : Options) (start view : ViewState) (images : ℕ → Image) (old now : DiskView) (before shown : List Item) (failed fails n : ℕ) (looks : List Seen)
    (is : IsFollowing tells shows o start view images old now before shown failed fails n looks) where
  -- by the view's own number and cuts
  by_view : (P : ℕ → ℕ → Type 0) → P start.number (cuts_seen start) → P view.number (cuts_seen view)
  by_view P p = subst (λ (k : ℕ). P k (cuts_seen view)) (sym is.number) (subst (λ (c : ℕ). P start.number c) (sym is.cuts) p)

  by_start : (P : ℕ → ℕ → Type 0) → P view.number (cuts_seen view) → P start.number (cuts_seen start)
  by_start P p = subst (λ (k : ℕ). P k (cuts_seen start)) is.number (subst (λ (c : ℕ). P view.number c) is.cuts p)

  shown_of : HasCounted view (records_of looks) → HasGiven start.number (cuts_seen start) now.reads (records_of looks) → HasShown view (records_of looks) now.reads
  shown_of counted given = record { counted = counted; given = by_view (λ k c. HasGiven k c now.reads (records_of looks)) given }

  -- what is put with one look more
  pub put_more : (found : Seen) (after : List Item) → (shows → after ≡ shown ++ followed_by o n found) → shows → after ≡ before ++ followed o (looks ++ found ∷ [])
  put_more found after put told =
      put told ∙ ap (λ (items : List Item). items ++ followed_by o n found) (is.put told) ∙ append_assoc before (followed o looks) (followed_by o n found)
      ∙ ap (λ (k : ℕ). before ++ (followed o looks ++ followed_by o k found)) is.quiet_is
      ∙ ap (λ (items : List Item). before ++ items) (sym (followed_push o looks found))

  -- what a look found, and the check after it let stand
  module _ (found : Seen) (next : ViewState) (acted : DiskView) (finds : tells → (rs : List Record) → HasShown view rs now.reads → HasFound view next now.reads rs found) (uncut : tells → HasCuts view.number (cuts_seen view) now.reads)
      (checked : tells → HasCuts view.number (cuts_seen view) acted.reads) (here : tells → now.reads ≡ images (2 * length looks)) (there : tells → acted.reads ≡ images (suc (2 * length looks))) (told : tells) (has : HasShown start [] old.reads) where
    so : HasFollowed start.number (cuts_seen start) images view looks now.reads
    so = is.followed_so told has

    its_found : HasFound view next now.reads (records_of looks) found
    its_found = finds told (records_of looks) (shown_of so.counted (still_given start.number (cuts_seen start) now.reads (records_of looks) so.stands (by_start (λ k c. HasCuts k c now.reads) (uncut told))))

    its_finds : Finds start.number (cuts_seen start) now.reads (records_of looks) found
    its_finds = by_start (λ k c. Finds k c now.reads (records_of looks) found) its_found.finds

    its_checked : HasCuts start.number (cuts_seen start) acted.reads
    its_checked = by_start (λ k c. HasCuts k c acted.reads) (checked told)

    pub more_looks : AreLooks start.number (cuts_seen start) images (looks ++ found ∷ [])
    more_looks = looks_push start.number (cuts_seen start) images looks found so.are is.going
        (subst (λ (image : Image). Finds start.number (cuts_seen start) image (records_of looks) found) (here told) its_finds)
        (subst (HasCuts start.number (cuts_seen start)) (there told) its_checked)

    given_now : HasGiven start.number (cuts_seen start) now.reads (records_of (looks ++ found ∷ []))
    given_now = subst (HasGiven start.number (cuts_seen start) now.reads) (sym (records_push looks found)) (given_by_look start.number (cuts_seen start) now.reads (records_of looks) found its_finds)

    pub counted_now : HasCounted next (records_of (looks ++ found ∷ []))
    counted_now = its_found.counted ∙ ap (λ (rs : List Record). totals_of (map shape_of rs)) (sym (records_push looks found))

    -- it stands after the act between, since the log wasn't cut, and perhaps after the next act
    pub stands_on : (later : Image) → ((k : ℕ) → MayBecome start.number (images k) (images (suc k))) → later ≡ images (suc (suc (2 * length looks))) → Stands start.number (cuts_seen start) later (records_of (looks ++ found ∷ []))
    stands_on later each at_later =
        let rs : List Record = records_of (looks ++ found ∷ []) in
        let first : HasGiven start.number (cuts_seen start) (images (2 * length looks)) rs = subst (λ (image : Image). HasGiven start.number (cuts_seen start) image rs) (here told) given_now in
        let between : HasGiven start.number (cuts_seen start) (images (suc (2 * length looks))) rs =
        still_given start.number (cuts_seen start) (images (suc (2 * length looks))) rs (stands start.number (cuts_seen start) (images (2 * length looks)) (images (suc (2 * length looks))) rs first (each (2 * length looks)))
        (subst (HasCuts start.number (cuts_seen start)) (there told) its_checked) in
        subst (λ (image : Image). Stands start.number (cuts_seen start) image rs) (sym at_later)
        (stands start.number (cuts_seen start) (images (suc (2 * length looks))) (images (suc (suc (2 * length looks)))) rs between (each (suc (2 * length looks))))

-- with one look more that doesn't end it, and two acts of the others
pub loops_on : (tells shows notes : Type 0) (o : Options) (start view next : ViewState) (images : ℕ → Image) (further beyond farther : Image → ℕ → Image) (old now read acted checked later : DiskView) (before shown after : List Item) (failed fails more n m : ℕ)
    (noted known between last : List (List Item)) (found : Seen) → (is : Loops tells shows notes o start view images further old now before shown failed fails n noted known)
    → IsBeside tells images beyond old acted (suc (2 * length is.looks)) → IsBeside tells images farther old later (suc (suc (2 * length is.looks)))
    → next.number ≡ view.number → cuts_seen next ≡ cuts_seen view → fails ≤ more
    → (tells → (rs : List Record) → HasShown view rs now.reads → HasFound view next now.reads rs found) → (tells → HasCuts view.number (cuts_seen view) now.reads) → (tells → HasCuts view.number (cuts_seen view) acted.reads)
    → (shows → after ≡ shown ++ followed_by o n found) → found ≢ seen.End → m ≡ quiet_after n found → m ≢ most_quiet
    → (notes → shows → between ≡ known ++ shown ∷ []) → (notes → shows → last ≡ between ++ after ∷ [])
    → ((k : ℕ) → MayBecome start.number (images k) (images (suc k)))
    → Loops tells shows notes o start next images farther old later before after failed more m noted last
loops_on tells shows notes o start view next images further beyond farther old now read acted checked later before shown after failed fails more n m noted known between last found is first second number cuts screen finds uncut check put not_end m_is few sees sees_again each = record {
  looks = is.looks ++ found ∷ [];
  beside = subst (λ (k : ℕ). IsBeside tells images farther old later k) long second;
  is = record {
    number = number ∙ is.is.number;
    cuts = cuts ∙ is.is.cuts;
    screen = omega (arith, is.is.screen, screen);
    few = still_few found m_is;
    quiet_is = more_quiet;
    going = going_push is.looks found not_end (subst (λ (k : ℕ). k < most_quiet) more_quiet (still_few found m_is));
    put = put_more tells shows o start view images old now before shown failed fails n is.looks is.is found after put;
    followed_so = λ told has. record {
      counted = counted_now tells shows o start view images old now before shown failed fails n is.looks is.is found next acted finds uncut check (λ t. is.beside.here t) (λ t. first.here t) told has;
      are = more_looks tells shows o start view images old now before shown failed fails n is.looks is.is found next acted finds uncut check (λ t. is.beside.here t) (λ t. first.here t) told has;
      stands = stands_on tells shows o start view images old now before shown failed fails n is.looks is.is found next acted finds uncut check (λ t. is.beside.here t) (λ t. first.here t) told has later.reads each (second.here told);
    };
  };
  noted_so = λ told told_too.
      let so_far = is.noted_so told told_too in
      let mid = noted_push noted known between before shown (followed o is.looks) (put_after o [] is.looks) so_far (sees told told_too) (is.is.put told_too) in
      let all = noted_push noted between last before after (followed o (is.looks ++ found ∷ [])) (put_after o [] is.looks ++ followed o is.looks ∷ []) mid (sees_again told told_too) (put_more tells shows o start view images old now before shown failed fails n is.looks is.is found after put told_too) in
      all ∙ ap (λ (saw : List (List Item)). noted ++ seen_from before saw) (sym (acts_push o [] is.looks found));
} where
  more_quiet : m ≡ quiet_in 0 (is.looks ++ found ∷ [])
  more_quiet = m_is ∙ ap (λ (k : ℕ). quiet_after k found) is.is.quiet_is ∙ sym (quiet_push 0 is.looks found)

  still_few : (s : Seen) → m ≡ quiet_after n s → m < most_quiet
  still_few (seen.Record r) e = omega (arith, e)
  still_few seen.Nothing e = omega (arith, e, few, is.is.few)
  still_few seen.End e = omega (arith, e, is.is.few)

  long : suc (suc (2 * length is.looks)) ≡ 2 * length (is.looks ++ found ∷ [])
  long = omega (arith, length-append is.looks (found ∷ []))

-- ---- how it ends

-- what was put of a log, and what the others saw of it
pub record Puts {T : Type 0} (notes shows : Type 0) (o : Options) (n : ℕ) (images : ℕ → Image) (r : Result T FollowEnd) (before after : List Item) (noted last : List (List Item)) : Type 0 where
  pub put : List Item
  pub saw : List (List Item)
  pub put_is : shows → after ≡ before ++ put
  pub noted_is : Noted notes shows noted last before saw
  pub follows : FollowsLooks o n images saw r put

err_as : {T : Type 0} (r : Result T FollowEnd) (e : FollowEnd) → IsErrAnd r (λ x. x ≡ e) → Err e ≡ r
err_as (Ok x) e is = absurd is
err_as (Err d) e is = ap (λ (x : FollowEnd). Err x) (sym is)

module _ (tells shows notes : Type 0) (o : Options) (start view : ViewState) (images : ℕ → Image) (further : Image → ℕ → Image) (old now : DiskView) (before shown : List Item) (failed fails n : ℕ) (noted known : List (List Item))
    (is : Loops tells shows notes o start view images further old now before shown failed fails n noted known) (first : images 0 ≡ old.reads) (told : tells) (has : HasShown start [] old.reads) where
  opened : HasGiven start.number (cuts_seen start) (images 0) []
  opened = subst (λ (image : Image). HasGiven start.number (cuts_seen start) image []) (sym first) has.given

  so_far : HasFollowed start.number (cuts_seen start) images view is.looks now.reads
  so_far = is.is.followed_so told has

  -- if it ends after these looks
  ended : {T : Type 0} (e : FollowEnd) (saw : List (List Item)) → SawActs o is.looks saw → EndsAt {T = T} start.number (cuts_seen start) images is.looks (Err e) → PutsLooks {T = T} o is.looks (followed o is.looks) (Err e)
      → FollowsLooks {T = T} o start.number images saw (Err e) (followed o is.looks)
  ended e saw acts ends puts = record { cuts = cuts_seen start; looks = is.looks; opened = opened; are = so_far.are; ends = ends; puts = puts; acts = acts.0; enough = acts.1 }

  -- the loop ends
  pub loop_ends : {T : Type 0} → Puts {T = T} notes shows o start.number images (Err (ends.Fault plays.NoMem)) before shown noted known
  loop_ends {T} = record {
    put = followed o is.looks;
    saw = put_after o [] is.looks;
    put_is = is.is.put;
    noted_is = is.noted_so;
    follows = ended (ends.Fault plays.NoMem) (put_after o [] is.looks) (saw_looks o is.looks) is.is.going refl;
  }

  -- the others acted after the next look read
  module _ (next : ViewState) (acted : DiskView) (between : List (List Item)) (number : next.number ≡ view.number) (cuts : cuts_seen next ≡ cuts_seen view) (there : tells → acted.reads ≡ images (suc (2 * length is.looks)))
      (sees : notes → shows → between ≡ known ++ shown ∷ []) where
    the_acts : List (List Item)
    the_acts = put_after o [] is.looks ++ followed o is.looks ∷ []

    noted_next : Noted notes shows noted between before the_acts
    unfolding the_acts
    noted_next tells_notes told_too = noted_push noted known between before shown (followed o is.looks) (put_after o [] is.looks) (is.noted_so tells_notes told_too) (sees tells_notes told_too) (is.is.put told_too)

    stops : {T : Type 0} (e : FollowEnd) → EndsAt {T = T} start.number (cuts_seen start) images is.looks (Err e) → PutsLooks {T = T} o is.looks (followed o is.looks) (Err e) → FollowsLooks {T = T} o start.number images the_acts (Err e) (followed o is.looks)
    unfolding the_acts
    stops e ends puts = ended e the_acts (saw_next o is.looks) ends puts

    to_puts : {T : Type 0} (r : Result T FollowEnd) (e : FollowEnd) → IsErrAnd r (λ x. x ≡ e) → FollowsLooks {T = T} o start.number images the_acts (Err e) (followed o is.looks) → Puts notes shows o start.number images r before shown noted between
    to_puts {T} r e err follows = record {
      put = followed o is.looks;
      saw = the_acts;
      put_is = is.is.put;
      noted_is = noted_next;
      follows = subst (λ (x : Result T FollowEnd). FollowsLooks o start.number images the_acts x (followed o is.looks)) (err_as r e err) follows;
    }

    -- the look failed
    cut_read : (s m : ℕ) → WasCut view s m now.reads → (s ≡ cuts_seen start) × (m ≢ cuts_seen start) × HasCuts start.number m (images (2 * length is.looks))
    cut_read s m was = (
      was.opened ∙ is.is.cuts,
      λ e. was.differ (e ∙ sym (was.opened ∙ is.is.cuts)),
      subst (HasCuts start.number m) (is.beside.here told) (subst (λ (k : ℕ). HasCuts k m now.reads) is.is.number was.last),
    )

    damage_read : (part : Part) → Stands start.number (cuts_seen start) now.reads (records_of is.looks) → IsLookDamage view part now → HasFaultNext start.number (cuts_seen start) (images (2 * length is.looks)) (records_of is.looks) part
    damage_read part (inl given) damage =
        subst (λ (image : Image). HasFaultNext start.number (cuts_seen start) image (records_of is.looks) part) (is.beside.here told)
        (by_start tells shows o start view images old now before shown failed fails n is.looks is.is (λ k c. HasFaultNext k c now.reads (records_of is.looks) part)
        (damage_is view (records_of is.looks) part now (shown_of tells shows o start view images old now before shown failed fails n is.looks is.is so_far.counted given) damage))
    damage_read part (inr (inl cut)) damage =
        absurd (cut_undamaged view part now cut.0 (subst (λ (k : ℕ). Replays now.reads k (Some cut.0)) (sym is.is.number) cut.1) (λ e. cut.2 (e ∙ is.is.cuts)) damage)
    damage_read part (inr (inr gone)) damage = absurd (gone_undamaged view part now (subst (λ (k : ℕ). Replays now.reads k None) (sym is.is.number) gone) damage)

    read_by : {T : Type 0} (e : FollowFault) → IsLookFault e → ((s m : ℕ) → e ≡ faults.Resumed s m → WasCut view s m now.reads) → (e ≡ faults.Log views.Absent → Replays now.reads view.number None)
        → ((part : Part) → e ≡ faults.Log (views.Damaged part) → IsLookDamage view part now) → FollowsLooks {T = T} o start.number images the_acts (Err (of_look e)) (followed o is.looks)
    read_by (faults.Resumed s m) fault resumed absent damaged = let cut = cut_read s m (resumed s m refl) in stops (ends.Resumed s m) (is.is.going, cut.0, cut.1, inl cut.2) refl
    read_by (faults.Log views.Absent) fault resumed absent damaged =
        stops ends.Removed (is.is.going, inl (subst (λ (image : Image). Replays image start.number None) (is.beside.here told) (subst (λ (k : ℕ). Replays now.reads k None) is.is.number (absent refl)))) refl
    read_by (faults.Log (views.Damaged part)) fault resumed absent damaged = stops (ends.Fault (plays.Damaged part)) (is.is.going, damage_read part so_far.stands (damaged part refl)) refl
    read_by (faults.Log views.Disk) fault resumed absent damaged = stops (ends.Fault plays.Disk) is.is.going refl
    read_by (faults.Log views.NoMem) fault resumed absent damaged = absurd fault
    read_by faults.NoMem fault resumed absent damaged = stops (ends.Fault plays.NoMem) is.is.going refl

    pub read_fails : {T : Type 0} (r : Result T FollowEnd) (e : FollowFault) → IsErrAnd r (λ x. x ≡ of_look e) → IsLookFault e → ((s m : ℕ) → e ≡ faults.Resumed s m → WasCut view s m now.reads)
        → (e ≡ faults.Log views.Absent → Replays now.reads view.number None) → ((part : Part) → e ≡ faults.Log (views.Damaged part) → IsLookDamage view part now) → Puts notes shows o start.number images r before shown noted between
    read_fails r e err fault resumed absent damaged = to_puts r (of_look e) err (read_by e fault resumed absent damaged)

    -- the check after it failed
    cut_checked : (s m : ℕ) → WasCut next s m acted.reads → (s ≡ cuts_seen start) × (m ≢ cuts_seen start) × HasCuts start.number m (images (suc (2 * length is.looks)))
    cut_checked s m was = (
      was.opened ∙ cuts ∙ is.is.cuts,
      λ e. was.differ (e ∙ sym (was.opened ∙ cuts ∙ is.is.cuts)),
      subst (HasCuts start.number m) (there told) (subst (λ (k : ℕ). HasCuts k m acted.reads) (number ∙ is.is.number) was.last),
    )

    check_by : {T : Type 0} (e : FollowFault) → IsCheckFault e → ((s m : ℕ) → e ≡ faults.Resumed s m → WasCut next s m acted.reads) → (e ≡ faults.Log views.Absent → Replays acted.reads next.number None)
        → FollowsLooks {T = T} o start.number images the_acts (Err (of_look e)) (followed o is.looks)
    check_by (faults.Resumed s m) fault resumed absent = let cut = cut_checked s m (resumed s m refl) in stops (ends.Resumed s m) (is.is.going, cut.0, cut.1, inr cut.2) refl
    check_by (faults.Log views.Absent) fault resumed absent =
        stops ends.Removed (is.is.going, inr (subst (λ (image : Image). Replays image start.number None) (there told) (subst (λ (k : ℕ). Replays acted.reads k None) (number ∙ is.is.number) (absent refl)))) refl
    check_by (faults.Log (views.Damaged part)) fault resumed absent = absurd fault
    check_by (faults.Log views.Disk) fault resumed absent = stops (ends.Fault plays.Disk) is.is.going refl
    check_by (faults.Log views.NoMem) fault resumed absent = absurd fault
    check_by faults.NoMem fault resumed absent = absurd fault

    pub check_fails : {T : Type 0} (r : Result T FollowEnd) (e : FollowFault) → IsErrAnd r (λ x. x ≡ of_look e) → IsCheckFault e → ((s m : ℕ) → e ≡ faults.Resumed s m → WasCut next s m acted.reads)
        → (e ≡ faults.Log views.Absent → Replays acted.reads next.number None) → Puts notes shows o start.number images r before shown noted between
    check_fails r e err fault resumed absent = to_puts r (of_look e) err (check_by e fault resumed absent)

    -- the look went well, and so did the check
    module _ (found : Seen) (finds : tells → (rs : List Record) → HasShown view rs now.reads → HasFound view next now.reads rs found) (uncut : tells → HasCuts view.number (cuts_seen view) now.reads)
        (checked : tells → HasCuts view.number (cuts_seen view) acted.reads) where
      are_more : AreLooks start.number (cuts_seen start) images (is.looks ++ found ∷ [])
      are_more = more_looks tells shows o start view images old now before shown failed fails n is.looks is.is found next acted finds uncut checked (λ t. is.beside.here t) there told has

      put_all : (after : List Item) → (shows → after ≡ shown ++ followed_by o n found) → shows → after ≡ before ++ followed o (is.looks ++ found ∷ [])
      put_all after put = put_more tells shows o start view images old now before shown failed fails n is.looks is.is found after put

      with_look : {T : Type 0} (r : Result T FollowEnd) (put : List Item) → EndsAt start.number (cuts_seen start) images (is.looks ++ found ∷ []) r → PutsLooks o (is.looks ++ found ∷ []) put r → FollowsLooks o start.number images the_acts r put
      unfolding the_acts
      with_look r put ends puts =
          let acts = saw_last o is.looks found in
          record { cuts = cuts_seen start; looks = is.looks ++ found ∷ []; opened = opened; are = are_more; ends = ends; puts = puts; acts = acts.0; enough = acts.1 }

      -- what it found isn't all put
      pub show_fails : {T : Type 0} (r : Result T FollowEnd) (part after : List Item) → IsErrAnd r (λ x. x ≡ ends.Fault plays.Screen) → IsPart part (followed_by o n found) → (shows → after ≡ shown ++ part)
          → Puts notes shows o start.number images r before after noted between
      show_fails {T} r part after err is_part put = record {
        put = followed o is.looks ++ part;
        saw = the_acts;
        put_is = λ tells_too. put tells_too ∙ ap (λ (items : List Item). items ++ part) (is.is.put tells_too) ∙ append_assoc before (followed o is.looks) part;
        noted_is = noted_next;
        follows = subst (λ (x : Result T FollowEnd). FollowsLooks o start.number images the_acts x (followed o is.looks ++ part)) (err_as r (ends.Fault plays.Screen) err)
            (with_look (Err (ends.Fault plays.Screen)) (followed o is.looks ++ part) tt (subst (IsPart (followed o is.looks ++ part)) (sym (followed_push o is.looks found))
            (part_behind (followed o is.looks) part (followed_by o (quiet_in 0 is.looks) found) (subst (λ (k : ℕ). IsPart part (followed_by o k found)) is.is.quiet_is is_part))));
      }

      -- it found the end
      pub look_ends : {T : Type 0} (x : T) (after : List Item) → found ≡ seen.End → (shows → after ≡ shown ++ followed_by o n found) → Puts notes shows o start.number images (Ok x) before after noted between
      look_ends {T} x after end put = record {
        put = followed o (is.looks ++ found ∷ []);
        saw = the_acts;
        put_is = put_all after put;
        noted_is = noted_next;
        follows = with_look (Ok x) (followed o (is.looks ++ found ∷ [])) (is.looks, ap (λ (s : Seen). is.looks ++ s ∷ []) end) refl;
      }

      -- it was one of too many
      pub looks_quiet : {T : Type 0} (after : List Item) (m : ℕ) → m ≡ quiet_after n found → m ≡ most_quiet → (shows → after ≡ shown ++ followed_by o n found) → Puts {T = T} notes shows o start.number images (Err ends.Quiet) before after noted between
      looks_quiet {T} after m m_is most put = record {
        put = followed o (is.looks ++ found ∷ []);
        saw = the_acts;
        put_is = put_all after put;
        noted_is = noted_next;
        follows = with_look (Err ends.Quiet) (followed o (is.looks ++ found ∷ [])) (quiet_push 0 is.looks found ∙ ap (λ (k : ℕ). quiet_after k found) (sym is.is.quiet_is) ∙ sym m_is ∙ most) refl;
      }

-- ---- causes

-- one error is not another
pub end_same : {T : Type 0} (r : Result T FollowEnd) (e d : FollowEnd) → IsErrAnd r (λ x. x ≡ e) → r ≡ Err d → e ≡ d
end_same (Ok x) e d is same = absurd is
end_same (Err y) e d is same = let at : y ≡ d = cc in sym is ∙ at

end_disk : (a b : PlayFault) → ends.Fault a ≡ ends.Fault b → a ≡ b
end_disk a b e = cc

play_disk : (e : ViewFault) → play_faults.of_log e ≡ plays.Disk → e ≡ views.Disk
play_disk views.Absent e = absurd (cc)
play_disk (views.Damaged part) e = absurd (cc)
play_disk views.Disk e = refl
play_disk views.NoMem e = absurd (cc)

play_screen : (e : ViewFault) → play_faults.of_log e ≡ plays.Screen → ⊥
play_screen views.Absent e = cc
play_screen (views.Damaged part) e = cc
play_screen views.Disk e = cc
play_screen views.NoMem e = cc

pub look_disk : (e : FollowFault) → of_look e ≡ ends.Fault plays.Disk → e ≡ faults.Log views.Disk
look_disk (faults.Resumed s m) e = absurd (cc)
look_disk (faults.Log views.Absent) e = absurd (cc)
look_disk (faults.Log (views.Damaged part)) e = absurd (cc)
look_disk (faults.Log views.Disk) e = refl
look_disk (faults.Log views.NoMem) e = absurd (cc)
look_disk faults.NoMem e = absurd (cc)

pub look_screen : (e : FollowFault) → of_look e ≡ ends.Fault plays.Screen → ⊥
look_screen (faults.Resumed s m) e = cc
look_screen (faults.Log views.Absent) e = cc
look_screen (faults.Log (views.Damaged part)) e = cc
look_screen (faults.Log views.Disk) e = cc
look_screen (faults.Log views.NoMem) e = cc
look_screen faults.NoMem e = cc

pub opening_disk : (e : ViewFault) → ends.Fault (play_faults.of_log e) ≡ ends.Fault plays.Disk → e ≡ views.Disk
opening_disk e is = play_disk e (end_disk (play_faults.of_log e) plays.Disk is)

pub opening_screen : (e : ViewFault) → ends.Fault (play_faults.of_log e) ≡ ends.Fault plays.Screen → ⊥
opening_screen e is = play_screen e (end_disk (play_faults.of_log e) plays.Screen is)

pub screen_no_disk : ends.Fault plays.Screen ≡ ends.Fault plays.Disk → ⊥
screen_no_disk e = cc

pub memory_no_disk : ends.Fault plays.NoMem ≡ ends.Fault plays.Disk → ⊥
memory_no_disk e = cc

pub memory_no_screen : ends.Fault plays.NoMem ≡ ends.Fault plays.Screen → ⊥
memory_no_screen e = cc

pub quiet_no_fault : (fault : PlayFault) → ends.Quiet ≡ ends.Fault fault → ⊥
quiet_no_fault fault e = cc

pub ok_no_err : {T : Type 0} (r : Result T FollowEnd) (x : T) (e : FollowEnd) → r ≡ Ok x → r ≡ Err e → ⊥
ok_no_err r x e one two = cc

-- ---- a log

-- one that isn't opened puts nothing
unopened : (T : Type 0) (n : ℕ) (image : Image) (e : ViewFault) → (e ≡ views.Absent → Replays image n None) → ((part : Part) → e ≡ views.Damaged part → IsViewDamage n part image) → IsNotFollowed {T = T} n image (Err (of_opening e))
unopened T n image views.Absent absent damaged = absent refl
unopened T n image (views.Damaged part) absent damaged = damaged part refl
unopened T n image views.Disk absent damaged = tt
unopened T n image views.NoMem absent damaged = tt

pub open_fails : {T : Type 0} (o : Options) (n : ℕ) (images : ℕ → Image) (image : Image) (r : Result T FollowEnd) (e : ViewFault) → images 0 ≡ image → IsErrAnd r (λ x. x ≡ of_opening e) → (e ≡ views.Absent → Replays image n None)
    → ((part : Part) → e ≡ views.Damaged part → IsViewDamage n part image) → Follows o n images [] r []
open_fails {T} o n images image r e first err absent damaged =
    inl (subst (λ (x : Result T FollowEnd). IsNotFollowed n (images 0) x) (err_as r (of_opening e) err) (subst (λ (i : Image). IsNotFollowed {T = T} n i (Err (of_opening e))) (sym first) (unopened T n image e absent damaged)), refl, refl)

-- nothing was shown of one that was just opened
pub opened_shows : (v : ViewState) (old mid : DiskView) → OnlyReads old mid → HasShown v [] old.reads → HasShown v [] mid.reads
opened_shows v old mid reads has = subst (HasShown v []) (sym (same_image old mid reads)) has

-- what is put for looks at it is put of the log
pub opened_follows : {T : Type 0} (o : Options) (n m : ℕ) (further : Image → ℕ → Image) (was now : Image) (saw : List (List Item)) (r : Result T FollowEnd) (put : List Item) → m ≡ n → now ≡ was → FollowsLooks o m (further now) saw r put → Follows o n (further was) saw r put
opened_follows o n m further was now saw r put number same follows =
    inr (subst (λ (k : ℕ). FollowsLooks o k (further was) saw r put) number (subst (λ (image : Image). FollowsLooks o m (further image) saw r put) same follows))

-- nothing was noted, since the others didn't act
pub noted_none : (notes shows : Type 0) (noted : List (List Item)) (before : List Item) → Noted notes shows noted noted before []
noted_none notes shows noted before told told_too = sym (append-nil noted)

-- it was only read before the others acted
pub beside_first : (images : ℕ → Image) (old new : DiskView) → images 0 ≡ old.reads → OnlyReads old new → IsReadBeside images old new
beside_first images old new first reads = record { moment = 0; reads = same_image old new reads ∙ sym first; counts = reads.counts; places = reads.unchanged.places }

pub beside_opened : (further : Image → ℕ → Image) (old mid new : DiskView) → OnlyReads old mid → IsReadBeside (further mid.reads) mid new → IsReadBeside (further old.reads) old new
beside_opened further old mid new reads beside = record {
  moment = beside.moment;
  reads = beside.reads ∙ ap (λ (image : Image). further image beside.moment) (same_image old mid reads);
  counts = uncounted_on old mid new reads.counts beside.counts;
  places = beside.places ∙ reads.unchanged.places;
}
