-- A view that was renewed, after records that were shown, and what it reads next.
use Rattle.std.proofs.Common.{◌≡◌, ◌≢◌, ◌⊎◌, ◌∙◌, inl, inr, arith, ℕ, List, [], ◌∷◌, ◌++◌, length, length-append, map, Some, None, Ok, refl, sym, ap, subst, append-nil}
use Rattle.lsv_disk.specs.Throughout.{OnlyReads}
use Rattle.lsv_disk.specs.View.{DiskView, Image}
use Rattle.lsv_disk.specs.declared.file.Part.{Part}
use Rattle.lsv_disk.specs.declared.file.Part.TheVariants.{Head as HeadPart, Timing}
use Rattle.lsv_bundle.specs.Body.{length_of}
use Rattle.lsv_bundle.specs.declared.body.Body.{Body}
use Rattle.lsv_bundle.specs.Committed.{HasEntry}
use Rattle.lsv_info.specs.Reading.{head_of}
use Rattle.lsv_iolog.specs.Damage.{IsViewDamage}
use Rattle.lsv_iolog.specs.Reading.{AreThere, HasCuts, HasShrunk, IsBehind, IsFaultBehind, IsPlaced, IsSoundBehind, IsWhole, IsWindowOf, ViewState, committed_laid, committed_text}
use Rattle.lsv_iolog.specs.Recovered.{Replays, owner_of}
use Rattle.lsv_iolog.proofs.Viewing.{all_there}
use Rattle.lsv_disk.specs.Files.{file_of}
use Rattle.lsv_record.specs.declared.laid.Laid.{Laid}
use Rattle.lsv_record.specs.declared.records.Record.{Record}
use Rattle.lsv_record.specs.Layout.{Begins, IsLayout}
use Rattle.lsv_record.specs.Points.{Stored}
use Rattle.lsv_record.specs.Records.{shape_of, timing_of}
use Rattle.lsv_record.specs.Tally.{Totals, totals_of}
use Rattle.lsv_record.proofs.Tallies.{lines_are_timing}
use Rattle.lsv_play.specs.Playing.{IsOpened, IsSoundSoFar, laid_at, text_at}
use Rattle.lsv_play.proofs.Played.{none_split, opened_log, same_image, sound_push}
use Rattle.lsv_play.proofs.Undamaged.{no_view_damage}
use Rattle.lsv_follow.specs.declared.follow.Seen.{Seen}
use Rattle.lsv_follow.specs.declared.follow.Seen.TheVariants as seen
use Rattle.lsv_follow.specs.Following.{HasFaultNext, HasFound, HasGiven, HasGivenAll, HasShown, IsLookDamage, IsRenewed, cuts_seen}
use Rattle.lsv_follow.proofs.Given.{entry_is, entry_there, opened_undamaged, three_or_not, two_entries}

-- ---- a view on another moment of the same files

pub placed_same : (v : ViewState) (old new : DiskView) → new.reads ≡ old.reads → IsPlaced v new → IsPlaced v old
placed_same v old new same placed = record {
  there = subst (λ (image : Image). AreThere (owner_of v.number) v.body image) same placed.there;
  window = subst (λ (image : Image). IsWindowOf (text_at v.number v.body image Timing) v.start v.window v.given.timing) same placed.window;
}

pub behind_same : (v : ViewState) (rs : List Record) (old new : DiskView) → new.reads ≡ old.reads → IsBehind v rs new → IsBehind v rs old
behind_same v rs old new same behind = record {
  begins = subst (λ (image : Image). Begins (laid_at v.number v.body image) rs) same behind.begins;
  given = behind.given;
  there = subst (λ (image : Image). AreThere (owner_of v.number) v.body image) same behind.there;
  window = subst (λ (image : Image). IsWindowOf (text_at v.number v.body image Timing) v.start v.window v.given.timing) same behind.window;
}

pub whole_same : (v : ViewState) (rs : List Record) (old new : DiskView) → new.reads ≡ old.reads → IsWhole v rs new → IsWhole v rs old
whole_same v rs old new same whole = record {
  layout = subst (λ (image : Image). IsLayout (laid_at v.number v.body image) rs) same whole.layout;
  count = whole.count;
  time = whole.time;
}

pub fault_same : (v : ViewState) (rs : List Record) (part : Part) (old new : DiskView) → new.reads ≡ old.reads → IsFaultBehind (committed_laid v.number v.body new) v.body rs part → IsFaultBehind (committed_laid v.number v.body old) v.body rs part
fault_same v rs part old new same fault = subst (λ (image : Image). IsFaultBehind (laid_at v.number v.body image) v.body rs part) same fault

pub sound_same : (v : ViewState) (rs : List Record) (old new : DiskView) → new.reads ≡ old.reads → IsSoundBehind (committed_laid v.number v.body new) v.body rs → IsSoundBehind (committed_laid v.number v.body old) v.body rs
sound_same v rs old new same sound = subst (λ (image : Image). IsSoundBehind (laid_at v.number v.body image) v.body rs) same sound

-- what is said of a log's number and entry, of the same ones
at : (P : ℕ → Body → Type 0) (n m : ℕ) (a b : Body) → m ≡ n → b ≡ a → P n a → P m b
at P n m a b number body p = subst (λ (k : ℕ). P k b) (sym number) (subst (λ (x : Body). P n x) (sym body) p)

-- ---- a view that was renewed after records that were shown

module _ (f v : ViewState) (disk : DiskView) (shown : List Record) (renewed : IsRenewed f v disk) (has : HasShown f shown disk.reads) where
  its_body : has.given.body ≡ v.body
  its_body = two_entries f.number has.given.body v.body disk.reads has.given.opened.entry renewed.entry

  -- it stands after them
  pub behind_shown : IsBehind v shown disk
  behind_shown = record {
    begins = at (λ n b. Begins (laid_at n b disk.reads) shown) f.number v.number has.given.body v.body renewed.number (sym its_body) has.given.given.begins;
    given = renewed.given ∙ has.counted;
    there = renewed.placed.there;
    window = renewed.placed.window;
  }

  opened : IsOpened f.number v.body v.head disk.reads
  opened = record {
    entry = renewed.entry;
    there = subst (λ (k : ℕ). AreThere (owner_of k) v.body disk.reads) renewed.number renewed.placed.there;
    head_is = renewed.head;
  }

  abbrev laid : Laid
  laid = laid_at f.number v.body disk.reads

  -- what holds by the view's number holds by the log's
  by_number : (P : Laid → Type 0) → P (laid_at v.number v.body disk.reads) → P laid
  by_number P p = subst (λ (k : ℕ). P (laid_at k v.body disk.reads)) renewed.number p

  sound_so_far : IsSoundSoFar laid v.body shown
  sound_so_far = subst (λ (b : Body). IsSoundSoFar (laid_at f.number b disk.reads) b shown) its_body has.given.given.sound

  given_still : HasGiven f.number (cuts_seen f) disk.reads shown
  given_still = record {
    body = v.body;
    head = v.head;
    opened = opened;
    cuts_are = renewed.cuts;
    given = record { begins = by_number (λ l. Begins l shown) behind_shown.begins; sound = sound_so_far };
  }

  -- the view read on to w: one record
  pub found_record : (w : ViewState) (r : Record) → w.number ≡ v.number → w.body ≡ v.body → IsBehind w (shown ++ r ∷ []) disk → IsSoundBehind (committed_laid v.number v.body disk) v.body shown → HasFound f w disk.reads shown (seen.Record r)
  found_record w r number body behind sound = record {
    finds = record {
      body = v.body;
      head = v.head;
      opened = opened;
      cuts_are = renewed.cuts;
      given = record {
        begins = by_number (λ l. Begins l (shown ++ r ∷ [])) (at (λ n b. Begins (laid_at n b disk.reads) (shown ++ r ∷ [])) w.number v.number w.body v.body (sym number) (sym body) behind.begins);
        sound = sound_push laid v.body shown r sound_so_far (by_number (λ l. IsSoundBehind l v.body shown) sound);
      };
    };
    counted = behind.given;
  }

  -- or none
  pub given_all : IsWhole v shown disk → IsSoundBehind (committed_laid v.number v.body disk) v.body shown → HasGivenAll f.number (cuts_seen f) disk.reads shown
  unfolding given_still
  given_all whole sound = record {
    has = given_still;
    all = record {
      begins = by_number (λ l. Begins l shown) behind_shown.begins;
      layout = by_number (λ l. IsLayout l shown) whole.layout;
      count = whole.count;
      time = whole.time;
    };
    sound = by_number (λ l. IsSoundBehind l v.body shown) sound;
  }

  pub found_none : (w : ViewState) (found : Seen) → w.body ≡ v.body → IsWhole v shown disk → IsSoundBehind (committed_laid v.number v.body disk) v.body shown → IsBehind w shown disk
      → (w.body.kind ≡ 3 → found ≡ seen.End) → (w.body.kind ≢ 3 → found ≡ seen.Nothing) → HasFound f w disk.reads shown found
  unfolding given_all given_still
  found_none w found body whole sound behind over going = by_kind (three_or_not v.body.kind) where
    kind : w.body.kind ≡ v.body.kind
    kind = ap (λ (b : Body). b.kind) body

    counted : w.given ≡ totals_of (map shape_of (shown ++ []))
    counted = behind.given ∙ ap (λ (rs : List Record). totals_of (map shape_of rs)) (sym (append-nil shown))

    by_kind : (v.body.kind ≡ 3) ⊎ (v.body.kind ≢ 3) → HasFound f w disk.reads shown found
    by_kind (inl three) = subst (λ (s : Seen). HasFound f w disk.reads shown s) (sym (over (kind ∙ three))) (record { finds = (given_all whole sound, three); counted = counted })
    by_kind (inr other) = subst (λ (s : Seen). HasFound f w disk.reads shown s) (sym (going (λ e. other (sym kind ∙ e)))) (record { finds = (given_all whole sound, other); counted = counted })

  -- what is at fault after them
  pub fault_after : (part : Part) → IsFaultBehind (committed_laid v.number v.body disk) v.body shown part → HasFaultNext f.number (cuts_seen f) disk.reads shown part
  unfolding given_still
  fault_after part fault = record { has = given_still; fault = by_number (λ l. IsFaultBehind l v.body shown part) fault }

-- the log has as many cuts as when it was opened
pub cuts_there : (f v : ViewState) (disk : DiskView) → IsRenewed f v disk → HasCuts f.number (cuts_seen f) disk.reads
cuts_there f v disk renewed = (v.body, renewed.entry, sym renewed.cuts)

-- ---- damage

-- a log has as many bytes of timing as were shown of it
not_shrunk : (f : ViewState) (shown : List Record) (image : Image) → HasShown f shown image → HasShrunk f image → ⊥
not_shrunk f shown image has shrunk = omega (
  arith,
  shrunk.fewer,
  ap (λ (t : Totals). t.timing) has.counted,
  ap length (lines_are_timing shown),
  ap (λ (b : Body). length_of b Timing) (two_entries f.number shrunk.body has.given.body image shrunk.entry has.given.opened.entry),
  ap length has.given.given.begins.timing.1,
  length-append (timing_of shown) has.given.given.begins.timing.0,
  all_there (image (file_of (owner_of f.number) Timing)) (length_of has.given.body Timing) (has.given.opened.there Timing tt),
)

-- so damage is what is at fault after the records that were shown
pub damage_is : (f : ViewState) (shown : List Record) (part : Part) (disk : DiskView) → HasShown f shown disk.reads → IsLookDamage f part disk → HasFaultNext f.number (cuts_seen f) disk.reads shown part
damage_is f shown part disk has (inl damage) = absurd (opened_undamaged f.number has.given.body has.given.head disk.reads has.given.opened part damage)
damage_is f shown part disk has (inr (inl shrunk)) = absurd (not_shrunk f shown disk.reads has shrunk.1)
damage_is f shown part disk has (inr (inr next)) = fault_after f next.next disk shown next.renewed has part (next.fault shown (behind_shown f next.next disk shown next.renewed has))

-- a log that was cut isn't reported as damaged
pub cut_undamaged : (f : ViewState) (part : Part) (disk : DiskView) (log : Stored) → Replays disk.reads f.number (Some log) → log.cuts ≢ cuts_seen f → IsLookDamage f part disk → ⊥
cut_undamaged f part disk log holds differ (inl damage) = no_view_damage f.number disk.reads log holds part damage
cut_undamaged f part disk log holds differ (inr (inl shrunk)) =
    differ (sym holds.is.cuts ∙ ap (λ (b : Body). b.extra) (sym (entry_is f.number shrunk.1.body disk.reads log shrunk.1.entry holds)) ∙ shrunk.1.cuts)
cut_undamaged f part disk log holds differ (inr (inr next)) =
    differ (sym holds.is.cuts ∙ ap (λ (b : Body). b.extra) (sym (entry_is f.number next.next.body disk.reads log next.renewed.entry holds)) ∙ next.renewed.cuts)

-- nor is one that is gone
pub gone_undamaged : (f : ViewState) (part : Part) (disk : DiskView) → Replays disk.reads f.number None → IsLookDamage f part disk → ⊥
gone_undamaged f part disk gone (inl (inl damaged)) = entry_there f.number damaged.body disk.reads damaged.entry gone
gone_undamaged f part disk gone (inl (inr faulty)) = entry_there f.number faulty.1.entry.body disk.reads (record { is_body = faulty.1.holds.is_body; last = faulty.1.holds.last }) gone
gone_undamaged f part disk gone (inr (inl shrunk)) = entry_there f.number shrunk.1.body disk.reads shrunk.1.entry gone
gone_undamaged f part disk gone (inr (inr next)) = entry_there f.number next.next.body disk.reads next.renewed.entry gone

-- the log can't be viewed, or has fewer bytes of timing than were shown
pub damage_of_view : (f : ViewState) (part : Part) (disk : DiskView) → IsViewDamage f.number part disk.reads ⊎ ((part ≡ Timing) × HasShrunk f disk.reads) → IsLookDamage f part disk
damage_of_view f part disk (inl damage) = inl damage
damage_of_view f part disk (inr shrunk) = inr (inl shrunk)

-- ---- a log that was just opened

pub shows_opened : (n : ℕ) (v : ViewState) (old new : DiskView) → v.number ≡ n → OnlyReads old new → HasEntry (owner_of n) v.body old.reads → head_of (committed_text n v.body new HeadPart) ≡ Ok v.head → IsBehind v [] new → HasShown v [] old.reads
shows_opened n v old new number reads entry head behind =
    let is = behind_same v [] old new (same_image old new reads) behind in
    record {
      counted = behind.given;
      given = record {
        body = v.body;
        head = v.head;
        opened = subst (λ (k : ℕ). IsOpened k v.body v.head old.reads) (sym number) (opened_log n v old new number reads entry head behind);
        cuts_are = refl;
        given = record { begins = is.begins; sound = λ before r more e. absurd (none_split before r more e) };
      };
    }

-- a view was renewed, by what its calls say
pub renewed_by : (old new : ViewState) (was now : DiskView) → new.number ≡ old.number → new.body.extra ≡ old.body.extra → new.given ≡ old.given → OnlyReads was now → HasEntry (owner_of old.number) new.body was.reads
    → head_of (committed_text old.number new.body now HeadPart) ≡ Ok new.head → IsPlaced new now → IsRenewed old new was
renewed_by old new was now number cuts given reads entry head placed = record {
  number = number;
  cuts = cuts;
  given = given;
  entry = entry;
  head = subst (λ (image : Image). head_of (text_at old.number new.body image HeadPart) ≡ Ok new.head) (same_image was now reads) head;
  placed = placed_same new was now (same_image was now reads) placed;
}
