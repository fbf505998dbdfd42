-- What an image has given of a log, the log that it holds, and what others may make of it.
use Rattle.std.proofs.Common.{◌≡◌, ◌≢◌, ◌⊎◌, ◌∙◌, inl, inr, arith, ℕ, List, [], ◌∷◌, ◌++◌, append-nil, append_assoc, length, take, drop, true, Option, Some, None, refl, sym, ap, subst}
use Rattle.std.specs.Prelude.{slice_index}
use Rattle.std.proofs.lemmas.Bool.Decides.{nat_tests}
use Rattle.std.proofs.lemmas.List.{take-append-drop, take_at}
use Rattle.lsv_disk.specs.declared.file.Owner.{Owner}
use Rattle.lsv_disk.specs.declared.file.Part.{Part}
use Rattle.lsv_disk.specs.declared.file.Part.TheVariants.{Head as HeadPart, Exit, Timing, Stdin, Stdout, Stderr, Ttyin, Ttyout}
use Rattle.lsv_disk.specs.Bytes.{bytes_of}
use Rattle.lsv_disk.specs.Files.{file_of}
use Rattle.lsv_disk.specs.View.{Image}
use Rattle.lsv_bundle.specs.declared.body.Body.{Body}
use Rattle.lsv_bundle.specs.declared.shape.Shape.TheVariants as shapes
use Rattle.lsv_bundle.specs.Body.{encoded, length_of}
use Rattle.lsv_bundle.specs.Committed.{Committed, HasEntry, HasPrefix, HoldsEntry, IsFirstShort, IsShort}
use Rattle.lsv_bundle.specs.Shape.{IsPart as IsPartOf, index_of, parts_of}
use Rattle.lsv_bundle.proofs.Laws.{holds_alone, of_owner, one_body}
use Rattle.lsv_info.specs.declared.times.Head.{Head}
use Rattle.lsv_info.specs.Reading.{head_of}
use Rattle.lsv_iolog.specs.Damage.{IsViewDamage}
use Rattle.lsv_iolog.specs.Later.{IsLater}
use Rattle.lsv_iolog.specs.Reading.{HasCuts, IsFaultBehind, IsSoundBehind}
use Rattle.lsv_iolog.specs.Recovered.{HasExit, HoldsLog, IsHeadText, Replays, SameFiles, owner_of}
use Rattle.lsv_iolog.proofs.Replaying.{one_entry, same_laid}
use Rattle.lsv_iolog.proofs.Viewing.{all_there}
use Rattle.lsv_record.specs.declared.laid.Laid.{Laid}
use Rattle.lsv_record.specs.declared.records.Record.{Record}
use Rattle.lsv_record.specs.Layout.{Begins, IsLayout}
use Rattle.lsv_record.specs.Points.{Stored}
use Rattle.lsv_record.proofs.Once.{one_begins, one_layout}
use Rattle.lsv_play.specs.declared.options.Options.{Options}
use Rattle.lsv_play.specs.Schedule.{play}
use Rattle.lsv_play.specs.Playing.{AreGiven, IsOpened, IsSoundSoFar, laid_at, text_at}
use Rattle.lsv_play.proofs.Stored.{begins_log, is_layout, some_of_all}
use Rattle.lsv_play.proofs.Undamaged.{not_short, stored_undamaged}
use Rattle.lsv_follow.proofs.Fronts.{all_sound, begins_front}
use Rattle.lsv_follow.specs.Following.{Finds, HasGiven, HasGivenAll, given_by}
use Rattle.lsv_follow.specs.declared.follow.Seen.{Seen}
use Rattle.lsv_follow.specs.declared.follow.Seen.TheVariants as seen
use Rattle.lsv_follow.specs.Others.{MayBecome, Stands}

-- ---- the last entry

some_encoded : (a b : List ℕ) → Some a ≡ Some b → a ≡ b
some_encoded a b e = cc

none_some : (xs : List ℕ) → None ≡ Some xs → ⊥
none_some xs e = cc

-- a log has one
pub two_entries : (n : ℕ) (a b : Body) (image : Image) → HasEntry (owner_of n) a image → HasEntry (owner_of n) b image → a ≡ b
two_entries n a b image one other = one_body a b one.is_body other.is_body (some_encoded (encoded a) (encoded b) (sym one.last ∙ other.last))

pub entry_is : (n : ℕ) (body : Body) (image : Image) (log : Stored) → HasEntry (owner_of n) body image → (holds : HoldsLog n log image) → body ≡ holds.entry.body
entry_is n body image log entry holds = one_body body holds.entry.body entry.is_body holds.holds.is_body (some_encoded (encoded body) (encoded holds.entry.body) (sym entry.last ∙ holds.holds.last))

-- so one count of cuts
pub two_cuts : (n a b : ℕ) (image : Image) → HasCuts n a image → HasCuts n b image → a ≡ b
two_cuts n a b image one other = one.2 ∙ ap (λ (body : Body). body.extra) (two_entries n one.0 other.0 image one.1 other.1) ∙ sym other.2

-- and it isn't absent
pub entry_there : (n : ℕ) (body : Body) (image : Image) → HasEntry (owner_of n) body image → Replays image n None → ⊥
entry_there n body image entry absent = none_some (encoded body) (sym absent ∙ entry.last)

pub not_absent : (n : ℕ) (image : Image) (log : Stored) → Replays image n (Some log) → Replays image n None → ⊥
not_absent n image log holds absent = none_some (encoded holds.entry.body) (sym absent ∙ holds.holds.last)

exit_by : (kind : ℕ) (bytes : List ℕ) (exit : Option (List ℕ)) → HasExit kind bytes exit → (kind ≡ 3 → exit ≢ None) × (kind ≢ 3 → exit ≡ None)
exit_by kind bytes None h = (λ e. absurd (h.0 e), λ ne. refl)
exit_by kind bytes (Some text) h = (λ e is. absurd cc, λ ne. absurd (ne h.0))

-- a log has an exit exactly if the kind of its last entry says so
pub exit_is : (n : ℕ) (body : Body) (image : Image) (log : Stored) → HasEntry (owner_of n) body image → HoldsLog n log image → (body.kind ≡ 3 → log.exit ≢ None) × (body.kind ≢ 3 → log.exit ≡ None)
exit_is n body image log entry holds =
    subst (λ (b : Body). (b.kind ≡ 3 → log.exit ≢ None) × (b.kind ≢ 3 → log.exit ≡ None)) (sym (entry_is n body image log entry holds)) (exit_by holds.entry.body.kind (holds.entry.bytes Exit) log.exit holds.is.exit)

pub three_or_not : (k : ℕ) → (k ≡ 3) ⊎ (k ≢ 3)
three_or_not k = grind (arith, nat_tests)

-- ---- a log that can be opened

begins_there : (file : Option (List ℕ)) (k : ℕ) → (IsShort file k → ⊥) → HasPrefix (take k (bytes_of file)) file
begins_there None k enough = absurd (enough tt)
begins_there (Some bytes) k enough = (drop k bytes, sym (take-append-drop k bytes))

abbrev Each : (Part → Type 0) → List Part → Type 0
Each P [] = Unit {0}
Each P (part ∷ parts) = P part × Each P parts

no_first : (owner : Owner) (image : Image) (lens : List ℕ) (parts : List Part) (part : Part) → Each (λ p. IsShort (image (file_of owner p)) (slice_index lens (index_of p)) → ⊥) parts → IsFirstShort owner image lens parts part → ⊥
no_first owner image lens [] part each short = short
no_first owner image lens (first ∷ parts) part each (inl short) = each.0 short.1
no_first owner image lens (first ∷ parts) part each (inr short) = no_first owner image lens parts part each.1 short.1

module _ (n : ℕ) (body : Body) (head : Head) (image : Image) (opened : IsOpened n body head image) where
  -- what it has committed
  abbrev at_entry : Committed
  at_entry = record { body = body; bytes = text_at n body image }

  pub holds_entry : HoldsEntry (owner_of n) shapes.Log at_entry image
  holds_entry = record {
    is_body = opened.entry.is_body;
    last = opened.entry.last;
    lengths = λ part own. all_there (image (file_of (owner_of n) part)) (length_of body part) (opened.there part own);
    bytes = λ part own. begins_there (image (file_of (owner_of n) part)) (length_of body part) (opened.there part own);
  }

  all_long : Each (λ p. IsShort (image (file_of (owner_of n) p)) (slice_index body.lens (index_of p)) → ⊥) (parts_of shapes.Log)
  all_long = (opened.there HeadPart tt, (opened.there Exit tt, (opened.there Timing tt, (opened.there Stdin tt, (opened.there Stdout tt, (opened.there Stderr tt, (opened.there Ttyin tt, (opened.there Ttyout tt, tt))))))))

  -- no part of it is damaged, as far as opening goes
  pub opened_undamaged : (part : Part) → IsViewDamage n part image → ⊥
  opened_undamaged part (inl damaged) =
      no_first (owner_of n) image body.lens (parts_of shapes.Log) part all_long
      (subst (λ (b : Body). IsFirstShort (owner_of n) image b.lens (parts_of shapes.Log) part) (two_entries n damaged.body body image damaged.entry opened.entry) damaged.first)
  opened_undamaged part (inr faulty) =
      let fault = faulty.1 in
      let same = one_entry n image fault.entry at_entry fault.holds holds_entry in
      fault.fault (subst (λ (text : List ℕ). IsHeadText text) (sym (same.1 HeadPart tt)) (head, opened.head_is))

-- ---- the same files

module _ (n : ℕ) (was now : Image) (same : SameFiles n was now) where
  same_text : (body : Body) (part : Part) → text_at n body now part ≡ text_at n body was part
  same_text body part = ap (λ (c : Option (List ℕ)). take (length_of body part) (bytes_of c)) (same (file_of (owner_of n) part) refl)

  laid_same : (body : Body) → laid_at n body now ≡ laid_at n body was
  laid_same body = same_laid (text_at n body now) (text_at n body was) (λ part own. same_text body part)

  opened_same : (body : Body) (head : Head) → IsOpened n body head was → IsOpened n body head now
  opened_same body head opened = record {
    entry = record {
      is_body = opened.entry.is_body;
      last = (holds_alone (owner_of n) shapes.Log (Some (record { body = body; bytes = text_at n body was })) was now (λ f own. same f (of_owner (owner_of n) shapes.Log f own)) (holds_entry n body head was opened)).last;
    };
    there = λ part own short. opened.there part own (subst (λ (c : Option (List ℕ)). IsShort c (length_of body part)) (same (file_of (owner_of n) part) refl) short);
    head_is = ap head_of (same_text body HeadPart) ∙ opened.head_is;
  }

  given_same : (cuts : ℕ) (rs : List Record) → HasGiven n cuts was rs → HasGiven n cuts now rs
  given_same cuts rs has = record {
    body = has.body;
    head = has.head;
    opened = opened_same has.body has.head has.opened;
    cuts_are = has.cuts_are;
    given = subst (λ (l : Laid). AreGiven l has.body rs) (sym (laid_same has.body)) has.given;
  }

-- ---- a log that the image holds

-- the first bytes of a file that begins with as many
taken : (xs : List ℕ) (file : Option (List ℕ)) (k : ℕ) → length xs ≡ k → HasPrefix xs file → take k (bytes_of file) ≡ xs
taken xs None k long is = absurd is
taken xs (Some bytes) k long is = ap (take k) is.1 ∙ take_at xs is.0 k long

any_way : Options
any_way = record { streams = true ∷ true ∷ true ∷ true ∷ true ∷ []; longest = None; speed = 1000000000; suspended = true; runs = omega arith }

module _ (n : ℕ) (image : Image) (log : Stored) (holds : HoldsLog n log image) where
  abbrev its_body : Body
  its_body = holds.entry.body

  abbrev its_laid : Laid
  its_laid = laid_at n its_body image

  stored_text : (part : Part) → IsPartOf shapes.Log part → text_at n its_body image part ≡ holds.entry.bytes part
  stored_text part own = taken (holds.entry.bytes part) (image (file_of (owner_of n) part)) (length_of its_body part) (holds.holds.lengths part own) (holds.holds.bytes part own)

  stored_opened : IsOpened n its_body holds.is.is_head.0 image
  stored_opened = record {
    entry = record { is_body = holds.holds.is_body; last = holds.holds.last };
    there = λ part own. not_short (image (file_of (owner_of n) part)) (holds.entry.bytes part) (length_of its_body part) (holds.holds.bytes part own) (holds.holds.lengths part own);
    head_is = ap head_of (stored_text HeadPart tt ∙ holds.is.head) ∙ holds.is.is_head.1;
  }

  -- nothing is at fault after records that its bytes begin with
  none_faulty : (rs : List Record) → Begins its_laid rs → IsSoundSoFar its_laid its_body rs → IsSoundBehind its_laid its_body rs
  none_faulty rs begins sound part fault =
      stored_undamaged (Unit {0}) any_way n image (play any_way rs) log part holds
      (inr (record { body = its_body; head = holds.is.is_head.0; opened = stored_opened; records = (rs, record { begins = begins; sound = sound; fault = fault }, refl) }))

  -- its first records were given
  pub given_of_stored : (rs more : List Record) → log.records ≡ rs ++ more → HasGiven n log.cuts image rs
  given_of_stored rs more is =
      let begins : Begins its_laid rs = begins_front its_laid rs more (subst (Begins its_laid) is (begins_log n its_body holds.is.is_head.0 image log stored_opened holds)) in
      record {
        body = its_body;
        head = holds.is.is_head.0;
        opened = stored_opened;
        cuts_are = holds.is.cuts;
        given = record { begins = begins; sound = all_sound its_laid its_body none_faulty rs begins };
      }

  -- and what was given are its first records
  pub stored_of_given : (cuts : ℕ) (rs : List Record) → HasGiven n cuts image rs → (log.cuts ≡ cuts) × ((more : List Record) × (log.records ≡ rs ++ more))
  stored_of_given cuts rs has =
      let l : Laid = laid_at n has.body image in
      let layout : IsLayout l log.records = is_layout n has.body has.head image log has.opened holds in
      let begins : Begins l log.records = begins_log n has.body has.head image log has.opened holds in (
        sym holds.is.cuts ∙ ap (λ (b : Body). b.extra) (sym (entry_is n has.body image log has.opened.entry holds)) ∙ has.cuts_are,
        some_of_all l log.records rs layout begins has.given.begins (one_begins l rs log.records has.given.begins begins),
      )

  -- if they are all, they are its records
  pub all_of_stored : (cuts : ℕ) (rs : List Record) → HasGivenAll n cuts image rs → log.records ≡ rs
  all_of_stored cuts rs all =
      sym (one_layout (laid_at n all.has.body image) rs log.records all.all.begins.valid holds.is.valid all.all.layout (is_layout n all.has.body all.has.head image log all.has.opened holds))

  pub exit_of_stored : (cuts : ℕ) (rs : List Record) → (has : HasGiven n cuts image rs) → (has.body.kind ≡ 3 → log.exit ≢ None) × (has.body.kind ≢ 3 → log.exit ≡ None)
  exit_of_stored cuts rs has = exit_is n has.body image log has.opened.entry holds

-- ---- what others may make of it

went_on : (n cuts : ℕ) (was now : Image) (rs more : List Record) (before after : Stored) → before.cuts ≡ cuts → before.records ≡ rs ++ more → Replays now n (Some after) → IsLater before after → Stands n cuts now rs
went_on n cuts was now rs more before after cuts_are is holds (inl cut) = inr (inl (after, holds, λ e. omega (arith, cut, e, cuts_are)))
went_on n cuts was now rs more before after cuts_are is holds (inr same) =
    inl (subst (λ (c : ℕ). HasGiven n c now rs) (same.0 ∙ cuts_are) (given_of_stored n now after holds rs (more ++ same.1.0)
    (same.1.1 ∙ ap (λ (l : List Record). l ++ same.1.0) is ∙ append_assoc rs more same.1.0)))

pub stands : (n cuts : ℕ) (was now : Image) (rs : List Record) → HasGiven n cuts was rs → MayBecome n was now → Stands n cuts now rs
stands n cuts was now rs has (inl same) = inl (given_same n was now same cuts rs has)
stands n cuts was now rs has (inr (inl moved)) =
    let its = stored_of_given n was moved.before moved.held cuts rs has in
    went_on n cuts was now rs its.1.0 moved.before moved.after its.0 its.1.1 moved.holds moved.step.later
stands n cuts was now rs has (inr (inr (inl gone))) = inr (inr gone)
stands n cuts was now rs has (inr (inr (inr absent))) = absurd (entry_there n has.body was has.opened.entry absent)

-- ---- what follows of it

-- records that were given have the cuts of the last entry
pub given_cuts : (n cuts : ℕ) (image : Image) (rs : List Record) → HasGiven n cuts image rs → HasCuts n cuts image
given_cuts n cuts image rs has = (has.body, has.opened.entry, sym has.cuts_are)

-- of a stored log nothing is at fault after them
pub stored_sound : (n cuts : ℕ) (image : Image) (log : Stored) (rs : List Record) (part : Part) → Replays image n (Some log) → (has : HasGiven n cuts image rs) → IsFaultBehind (laid_at n has.body image) has.body rs part → ⊥
stored_sound n cuts image log rs part holds has fault =
    stored_undamaged (Unit {0}) any_way n image (play any_way rs) log part holds
    (inr (record { body = has.body; head = has.head; opened = has.opened; records = (rs, record { begins = has.given.begins; sound = has.given.sound; fault = fault }, refl) }))

-- what a look gives is given
pub given_by_look : (n cuts : ℕ) (image : Image) (shown : List Record) (look : Seen) → Finds n cuts image shown look → HasGiven n cuts image (shown ++ given_by look)
given_by_look n cuts image shown (seen.Record r) finds = finds
given_by_look n cuts image shown seen.Nothing finds = subst (HasGiven n cuts image) (sym (append-nil shown)) finds.0.has
given_by_look n cuts image shown seen.End finds = subst (HasGiven n cuts image) (sym (append-nil shown)) finds.0.has

-- records that were given with the last entry of a stored log
pub given_beside : (n : ℕ) (image : Image) (log : Stored) (body : Body) (rs : List Record) → (holds : HoldsLog n log image) → HasEntry (owner_of n) body image → AreGiven (laid_at n body image) body rs → (more : List Record) × (log.records ≡ rs ++ more)
given_beside n image log body rs holds entry given = (stored_of_given n image log holds log.cuts rs (record {
  body = holds.entry.body;
  head = holds.is.is_head.0;
  opened = stored_opened n image log holds;
  cuts_are = holds.is.cuts;
  given = subst (λ (b : Body). AreGiven (laid_at n b image) b rs) (entry_is n body image log entry holds) given;
})).1
