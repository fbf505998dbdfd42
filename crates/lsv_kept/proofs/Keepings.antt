-- What images keep of a relaying, while entries are added to its bundle.
use Rattle.std.proofs.Common.{◌≡◌, ◌≢◌, inl, inr, ℕ, suc, ◌+◌, List, [], ◌∷◌, ◌++◌, length, take, Option, Some, None, option_map, true, false, Result, Ok, Err, IsOk, IsErrAnd, refl, sym, ◌∙◌, ap, subst, arith}
use Rattle.std.proofs.lemmas.Bool.{false≢true}
use Rattle.lsv_disk.specs.Bytes.{bytes_of}
use Rattle.lsv_disk.specs.Files.{file_of}
use Rattle.lsv_disk.specs.Throughout.{Throughout}
use Rattle.lsv_disk.specs.View.{DiskView, Image, IsCrashImage}
use Rattle.lsv_disk.specs.declared.file.FileId.{FileId}
use Rattle.lsv_disk.specs.declared.file.Owner.{Owner}
use Rattle.lsv_disk.specs.declared.file.Part.{Part}
use Rattle.lsv_disk.specs.declared.file.Part.TheVariants.{Id}
use Rattle.lsv_disk.proofs.Composition.{OnlyNow, followed, started, widened}
use Rattle.lsv_journal.specs.Last.{LastAt}
use Rattle.lsv_bundle.specs.declared.body.Body.{Body}
use Rattle.lsv_bundle.specs.Committed.{BundleHolds, Committed, HasEntry, HoldsEntry, IsBeforeOrAfter, IsBeingMade, committed, committed_bytes, committed_next}
use Rattle.lsv_bundle.specs.Shape.{IsPart, IsWritable, journal_of, on_shape}
use Rattle.lsv_bundle.specs.Value.{BundleView, IsCommitted, IsFresh, IsStaged, committed_length, staged}
use Rattle.lsv_bundle.specs.declared.shape.Shape.{Shape}
use Rattle.lsv_bundle.specs.declared.shape.Shape.TheVariants as shapes
use Rattle.lsv_bundle.specs.Represents.{Represents}
use Rattle.lsv_bundle.proofs.Laws.{represents_holds, staging_committed, staging_lengths, writes_owner}
use Rattle.lsv_kept.specs.Aim.{AimView, line_of}
use Rattle.lsv_kept.specs.Inner.{EndsIn, IsBundleOf, IsChangedFrom, StandsUndone, next_state}
use Rattle.lsv_kept.specs.Kept.{Changes, HasLast, IsChanged, IsOfRelay, IsOneOf, IsReplaced, Keeps, LeavesLast, Replaces, owner_of, point_of, state_in, state_of}
use Rattle.lsv_kept.specs.Value.{IsUnmade, StandsBy, keeps_id, state_on, with_point}
use Rattle.lsv_kept.specs.declared.state.Kept.{Kept}
use Rattle.lsv_kept.specs.declared.state.State.{State}
use Rattle.lsv_kept.specs.declared.state.State.TheVariants as states
use Rattle.lsv_kept.proofs.Hosts.{kept_bytes_of, line_keeps}

on_id : (bytes : Part → List ℕ) → on_shape shapes.Relay bytes Id ≡ bytes Id
unfolding on_shape
on_id bytes = refl

-- the identifier is the one data file of the shape
pub on_relay : (s : Shape) (bytes : Part → List ℕ) → s ≡ shapes.Relay → on_shape s bytes Id ≡ bytes Id
on_relay s bytes is = ap (λ (t : Shape). on_shape t bytes Id) is ∙ on_id bytes

pub is_part : (s : Shape) → s ≡ shapes.Relay → IsPart s Id
is_part s is = subst (λ (t : Shape). IsPart t Id) (sym is) refl

-- what is kept by the next entry
pub state_next : (aim : AimView) (b : BundleView) (disk : DiskView) (kind count extra : ℕ) → b.shape ≡ shapes.Relay → state_in aim (Some (committed_next b disk kind count 0 extra)) ≡ next_state aim b disk kind count extra
state_next aim b disk kind count extra shape = ap (state_of aim kind count extra) (on_relay b.shape (λ part. committed_bytes b disk part ++ staged b part) shape)

-- an image that holds it holds it as a bundle of the relaying
pub holds_entry : (n : ℕ) (b : BundleView) (image : Image) (entry : Option Committed) → b.owner ≡ owner_of n → b.shape ≡ shapes.Relay → BundleHolds b.owner b.shape entry image → BundleHolds (owner_of n) shapes.Relay entry image
holds_entry n b image entry owner shape holds = subst (λ (o : Owner). BundleHolds o shapes.Relay entry image) owner (subst (λ (s : Shape). BundleHolds b.owner s entry image) shape holds)

pub keeps_entry : (n : ℕ) (aim : AimView) (b : BundleView) (image : Image) (entry : Option Committed) (state : State) → b.owner ≡ owner_of n → b.shape ≡ shapes.Relay → BundleHolds b.owner b.shape entry image → state_in aim entry ≡ state → Keeps n aim image state
keeps_entry n aim b image entry state owner shape holds is = record { entry = entry; holds = holds_entry n b image entry owner shape holds; is = is }

-- the last entry of an image that holds what is committed
last_entry : (n : ℕ) (b : BundleView) (disk : DiskView) (image : Image) (kind extra : ℕ) → b.owner ≡ owner_of n → BundleHolds b.owner b.shape (committed b disk) image → EndsIn kind extra b → HasLast n kind extra image
last_entry n b disk image kind extra owner holds ends =
    let there : HoldsEntry b.owner b.shape (record { body = ends.body; bytes = on_shape b.shape (committed_bytes b disk) }) image =
    subst (λ (o : Option Body). BundleHolds b.owner b.shape (option_map (λ (body : Body). let c : Committed = record { body = body; bytes = on_shape b.shape (committed_bytes b disk) } in c) o) image) ends.last holds in record {
      body = ends.body;
      entry = subst (λ (o : Owner). HasEntry o ends.body image) owner (record { is_body = there.is_body; last = there.last });
      kind_is = ends.kind_is;
      extra_is = ends.extra_is;
    }

-- and of one that holds a new entry
new_entry : (n : ℕ) (b : BundleView) (entry : Committed) (image : Image) (kind extra : ℕ) → b.owner ≡ owner_of n → HoldsEntry b.owner b.shape entry image → entry.body.kind ≡ kind → entry.body.extra ≡ extra → HasLast n kind extra image
new_entry n b entry image kind extra owner there kind_is extra_is = record {
  body = entry.body;
  entry = subst (λ (o : Owner). HasEntry o entry.body image) owner (record { is_body = there.is_body; last = there.last });
  kind_is = kind_is;
  extra_is = extra_is;
}

-- while an entry is added, each image keeps what is kept before or after it
pub either_through : (n : ℕ) (aim : AimView) (b : BundleView) (old new : DiskView) (entry : Committed) (kind extra : ℕ) (state : State) → b.owner ≡ owner_of n → b.shape ≡ shapes.Relay → state_in aim (Some entry) ≡ state → entry.body.kind ≡ kind → entry.body.extra ≡ extra
    → (Touched : FileId → Type 0) → ((g : FileId) → Touched g → IsOfRelay n g) → Throughout Touched (IsBeforeOrAfter b.owner b.shape (committed b old) (Some entry)) old new
    → Throughout (IsOfRelay n) (IsChangedFrom n aim b old kind extra state) old new
either_through n aim b old new entry kind extra state owner shape is kind_is extra_is Touched own run = widened Touched (IsOfRelay n) _ _ old new own (λ image holds beside. each image holds) run
  where
    each : (image : Image) → IsBeforeOrAfter b.owner b.shape (committed b old) (Some entry) image → IsChangedFrom n aim b old kind extra state image
    each image (inl before) = inl (keeps_entry n aim b image (committed b old) (state_on aim b old) owner shape before refl, λ k e ends. last_entry n b old image k e owner before ends)
    each image (inr after) = inr (keeps_entry n aim b image (Some entry) state owner shape after is, new_entry n b entry image kind extra owner after kind_is extra_is)

pub writable_own : (n : ℕ) (b : BundleView) → b.owner ≡ owner_of n → (g : FileId) → IsWritable b.owner b.shape g → IsOfRelay n g
writable_own n b owner g w = writes_owner b.owner b.shape g w ∙ owner

pub journal_own : (n : ℕ) (b : BundleView) → b.owner ≡ owner_of n → (g : FileId) → g ≡ journal_of b.owner → IsOfRelay n g
journal_own n b owner g is = ap (λ (f : FileId). f.owner) is ∙ owner

-- with its new entry it is a bundle of the relaying
pub committed_bundle : (n : ℕ) (old new : BundleView) (body : Body) (lengths : Part → ℕ) → old.owner ≡ owner_of n → old.shape ≡ shapes.Relay → IsCommitted body lengths old new → IsBundleOf n new
committed_bundle n old new body lengths owner shape is = record {
  owner = is.owner ∙ owner;
  shape = is.shape ∙ shape;
  whole = is.whole;
  none_staged = is.none_staged;
}

pub fresh_bundle : (n : ℕ) (b : BundleView) → IsFresh (owner_of n) shapes.Relay b → IsBundleOf n b
fresh_bundle n b fresh = record { owner = fresh.owner_is; shape = fresh.shape_is; whole = fresh.whole; none_staged = fresh.none_staged }

-- ---- making

pub makes : (n : ℕ) (old new : DiskView) → IsUnmade n old → Throughout (IsWritable (owner_of n) shapes.Relay) (IsBeingMade (owner_of n) shapes.Relay old) old new
    → Throughout (IsOfRelay n) (λ image. LastAt 89 (journal_of (owner_of n)) image ≡ None) old new
makes n old new unmade run = widened (IsWritable (owner_of n) shapes.Relay) (IsOfRelay n) _ _ old new (λ g w. writes_owner (owner_of n) shapes.Relay g w) (λ image made beside. each image made) run
  where
    each : (image : Image) → IsBeingMade (owner_of n) shapes.Relay old image → LastAt 89 (journal_of (owner_of n)) image ≡ None
    each image made = elim made.journal [
      | inl crash ↦ crash.2 ∙ unmade.no_entry crash.0 (λ file own. crash.1 file)
      | inr none ↦ none
    ]

-- without an entry nothing is kept
pub no_entry_keeps : (n : ℕ) (aim : AimView) (image : Image) → LastAt 89 (journal_of (owner_of n)) image ≡ None → Keeps n aim image states.Nothing
no_entry_keeps n aim image none = record { entry = None; holds = none; is = refl }

pub none_committed : (b : BundleView) (disk : DiskView) → b.last ≡ None → committed b disk ≡ None
none_committed b disk none = ap (option_map (λ (body : Body). let c : Committed = record { body = body; bytes = on_shape b.shape (committed_bytes b disk) } in c)) none

pub none_on : (aim : AimView) (b : BundleView) (disk : DiskView) → b.last ≡ None → state_on aim b disk ≡ states.Nothing
none_on aim b disk none = ap (state_in aim) (none_committed b disk none)

-- ---- staging

none_taken : (xs : List ℕ) → take 0 xs ≡ []
none_taken [] = refl
none_taken (x ∷ xs) = refl

-- a bundle that commits no bytes, and of which this is staged, commits this next
pub next_of : (aim : AimView) (b : BundleView) (disk : DiskView) (kind count extra : ℕ) (bytes : List ℕ) → committed_length b Id ≡ 0 → staged b Id ≡ bytes → next_state aim b disk kind count extra ≡ state_of aim kind count extra bytes
next_of aim b disk kind count extra bytes zero is =
    ap (state_of aim kind count extra) (ap (λ (k : ℕ). take k (bytes_of (disk.reads (file_of b.owner Id))) ++ staged b Id) zero ∙ ap (λ (t : List ℕ). t ++ staged b Id) (none_taken (bytes_of (disk.reads (file_of b.owner Id)))) ∙ is)

unit : (t : List ℕ) → t ++ [] ≡ t
unit [] = refl
unit (x ∷ t) = ap (λ (u : List ℕ). x ∷ u) (unit t)

-- and with nothing staged the same bytes
pub next_same : (aim : AimView) (b : BundleView) (disk : DiskView) (kind count extra : ℕ) → staged b Id ≡ [] → next_state aim b disk kind count extra ≡ state_of aim kind count extra (committed_bytes b disk Id)
next_same aim b disk kind count extra none = ap (state_of aim kind count extra) (ap (λ (t : List ℕ). committed_bytes b disk Id ++ t) none ∙ unit (committed_bytes b disk Id))

-- staging changes nothing but what is staged
pub staged_as : (n : ℕ) (old new : BundleView) (id : List ℕ) → IsBundleOf n old → IsStaged Id (staged old Id ++ id) old new
    → (new.owner ≡ owner_of n) × (new.shape ≡ shapes.Relay) × (new.is_broken ≡ false) × (staged new Id ≡ id) × (committed_length new Id ≡ committed_length old Id)
staged_as n old new id is of = (
  ap (λ (b : BundleView). b.owner) of.same ∙ is.owner,
  ap (λ (b : BundleView). b.shape) of.same ∙ is.shape,
  ap (λ (b : BundleView). b.is_broken) of.same ∙ is.whole,
  of.staged_is ∙ ap (λ (t : List ℕ). t ++ id) (is.none_staged Id (is_part old.shape is.shape)),
  staging_lengths old new of.same Id,
)

pub staged_state : (aim : AimView) (old new : BundleView) (disk : DiskView) (bytes : List ℕ) → IsStaged Id bytes old new → state_on aim new disk ≡ state_on aim old disk
staged_state aim old new disk bytes of = ap (state_in aim) (staging_committed old new disk of.same)

-- ---- moments

-- the last entry of a bundle is one that was cut or kept
pub ends_in : (b : BundleView) (body : Body) (kind extra : ℕ) → b.last ≡ Some body → body.kind ≡ kind → body.extra ≡ extra → EndsIn kind extra b
ends_in b body kind extra last kind_is extra_is = record { body = body; last = last; kind_is = kind_is; extra_is = extra_is }

-- a cut alone
pub cut_only : (n : ℕ) (aim : AimView) (b : BundleView) (state : State) (old new : DiskView) → Throughout (IsOfRelay n) (IsChangedFrom n aim b old 2 0 states.Nothing) old new → Throughout (IsOfRelay n) (IsReplaced n aim (state_on aim b old) state) old new
cut_only n aim b state old new run = widened (IsOfRelay n) (IsOfRelay n) _ _ old new (λ g own. own) (λ image holds beside. one image holds) run
  where
    one : (image : Image) → IsChangedFrom n aim b old 2 0 states.Nothing image → IsReplaced n aim (state_on aim b old) state image
    one image (inl before) = inl before.0
    one image (inr after) = inr (inl after)

-- a cut, and then an identifier
pub then_replaced : (n : ℕ) (aim : AimView) (b c : BundleView) (state : State) (old mid new : DiskView) → EndsIn 2 0 c → state_on aim c mid ≡ states.Nothing → Throughout (IsOfRelay n) (IsChangedFrom n aim b old 2 0 states.Nothing) old mid
    → Throughout (IsOfRelay n) (IsChangedFrom n aim c mid 1 0 state) mid new → Throughout (IsOfRelay n) (IsReplaced n aim (state_on aim b old) state) old new
then_replaced n aim b c state old mid new ends is first second = followed (IsOfRelay n) (IsReplaced n aim (state_on aim b old) state) old mid new
    (widened (IsOfRelay n) (IsOfRelay n) _ _ old mid (λ g own. own) (λ image holds beside. cut image holds) first)
    (widened (IsOfRelay n) (IsOfRelay n) _ _ mid new (λ g own. own) (λ image holds beside. kept image holds) second)
  where
    cut : (image : Image) → IsChangedFrom n aim b old 2 0 states.Nothing image → IsReplaced n aim (state_on aim b old) state image
    cut image (inl before) = inl before.0
    cut image (inr after) = inr (inl after)

    kept : (image : Image) → IsChangedFrom n aim c mid 1 0 state image → IsReplaced n aim (state_on aim b old) state image
    kept image (inl before) = inr (inl (subst (Keeps n aim image) is before.0, before.1 2 0 ends))
    kept image (inr after) = inr (inr after)

-- an identifier where none was kept
pub at_once : (n : ℕ) (aim : AimView) (b : BundleView) (state : State) (old new : DiskView) → Throughout (IsOfRelay n) (IsChangedFrom n aim b old 1 0 state) old new → Throughout (IsOfRelay n) (IsReplaced n aim (state_on aim b old) state) old new
at_once n aim b state old new run = widened (IsOfRelay n) (IsOfRelay n) _ _ old new (λ g own. own) (λ image holds beside. one image holds) run
  where
    one : (image : Image) → IsChangedFrom n aim b old 1 0 state image → IsReplaced n aim (state_on aim b old) state image
    one image (inl before) = inl before.0
    one image (inr after) = inr (inr after)

-- without the entries
pub one_changed : (n : ℕ) (aim : AimView) (before : State) (kind extra : ℕ) (after : State) (old new : DiskView) → Throughout (IsOfRelay n) (IsChanged n aim before kind extra after) old new → Throughout (IsOfRelay n) (IsOneOf n aim before after) old new
one_changed n aim before kind extra after old new run = widened (IsOfRelay n) (IsOfRelay n) _ _ old new (λ g own. own) (λ image holds beside. one image holds) run
  where
    one : (image : Image) → IsChanged n aim before kind extra after image → IsOneOf n aim before after image
    one image (inl is) = inl is
    one image (inr is) = inr (inr is.0)

pub one_replaced : (n : ℕ) (aim : AimView) (before after : State) (old new : DiskView) → Throughout (IsOfRelay n) (IsReplaced n aim before after) old new → Throughout (IsOfRelay n) (IsOneOf n aim before after) old new
one_replaced n aim before after old new run = widened (IsOfRelay n) (IsOfRelay n) _ _ old new (λ g own. own) (λ image holds beside. one image holds) run
  where
    one : (image : Image) → IsReplaced n aim before after image → IsOneOf n aim before after image
    one image (inl is) = inl is
    one image (inr (inl is)) = inr (inl is.0)
    one image (inr (inr is)) = inr (inr is.0)

pub after_is : (n : ℕ) (aim : AimView) (b : BundleView) (disk : DiskView) (kind extra : ℕ) (one two : State) (old new : DiskView) → one ≡ two → Throughout (IsOfRelay n) (IsChangedFrom n aim b disk kind extra one) old new → Throughout (IsOfRelay n) (IsChangedFrom n aim b disk kind extra two) old new
after_is n aim b disk kind extra one two old new is run = subst (λ (s : State). Throughout (IsOfRelay n) (IsChangedFrom n aim b disk kind extra s) old new) is run

-- of another value of the bundle that commits the same
pub before_is : (n : ℕ) (aim : AimView) (b c : BundleView) (disk : DiskView) (kind extra : ℕ) (after : State) (old new : DiskView) → state_on aim c disk ≡ state_on aim b disk → c.last ≡ b.last → Throughout (IsOfRelay n) (IsChangedFrom n aim c disk kind extra after) old new
    → Throughout (IsOfRelay n) (IsChangedFrom n aim b disk kind extra after) old new
before_is n aim b c disk kind extra after old new is last run = widened (IsOfRelay n) (IsOfRelay n) _ _ old new (λ g own. own) (λ image holds beside. one image holds) run
  where
    one : (image : Image) → IsChangedFrom n aim c disk kind extra after image → IsChangedFrom n aim b disk kind extra after image
    one image (inl before) = inl (subst (Keeps n aim image) is before.0, λ k e ends. before.1 k e (record { body = ends.body; last = last ∙ ends.last; kind_is = ends.kind_is; extra_is = ends.extra_is }))
    one image (inr it) = inr it

-- each crash image holds what the bundle commits, and so keeps what the bundle keeps
pub each_holds : (n : ℕ) (b : BundleView) (disk : DiskView) → b.owner ≡ owner_of n → b.shape ≡ shapes.Relay → Represents b disk → (image : Image) → IsCrashImage disk image → BundleHolds (owner_of n) shapes.Relay (committed b disk) image
each_holds n b disk owner shape at image left = holds_entry n b image (committed b disk) owner shape (represents_holds b disk at image (λ file own. left file))

pub each_keeps : (n : ℕ) (aim : AimView) (b : BundleView) (disk : DiskView) → b.owner ≡ owner_of n → b.shape ≡ shapes.Relay → Represents b disk → (image : Image) → IsCrashImage disk image → Keeps n aim image (state_on aim b disk)
each_keeps n aim b disk owner shape at image left = record { entry = committed b disk; holds = each_holds n b disk owner shape at image left; is = refl }

-- nothing was done
pub rests : (n : ℕ) (aim : AimView) (b : BundleView) (disk : DiskView) (kind extra : ℕ) (after : State) → IsBundleOf n b → Represents b disk → OnlyNow disk → Throughout (IsOfRelay n) (IsChangedFrom n aim b disk kind extra after) disk disk
rests n aim b disk kind extra after is at now =
    started (IsOfRelay n) _ disk now (λ image left. inl (each_keeps n aim b disk is.owner is.shape at image left, λ k e ends. last_entry n b disk image k e is.owner (represents_holds b disk at image (λ file own. left file)) ends))

-- the last entry is in each crash image
pub last_left : (n m : ℕ) (b : BundleView) (disk : DiskView) (kind extra : ℕ) → m ≡ n → IsBundleOf m b → Represents b disk → EndsIn kind extra b → LeavesLast n kind extra disk
last_left n m b disk kind extra number own at ends image left = subst (λ (k : ℕ). HasLast k kind extra image) number (last_entry m b disk image kind extra own.owner (represents_holds b disk at image (λ file its. left file)) ends)

-- ---- the files of a relaying

-- the line of the host and the identifier that is kept are what is committed
kept_bytes : (aim : AimView) (b : BundleView) (disk : DiskView) (kept : Kept) → b.shape ≡ shapes.Relay → state_on aim b disk ≡ states.Kept kept → committed_bytes b disk Id ≡ line_of aim.host ++ kept.id
kept_bytes aim b disk kept shape is = go b.last refl
  where
    held : Option Body → State
    held o = state_in aim (option_map (λ (body : Body). let c : Committed = record { body = body; bytes = on_shape b.shape (committed_bytes b disk) } in c) o)

    go : (last : Option Body) → b.last ≡ last → committed_bytes b disk Id ≡ line_of aim.host ++ kept.id
    go None e = absurd (let h : states.Nothing ≡ states.Kept kept = sym (ap held e) ∙ is in cc (h))
    go (Some body) e = sym (on_relay b.shape (committed_bytes b disk) shape) ∙ kept_bytes_of aim body.kind body.count body.extra (on_shape b.shape (committed_bytes b disk) Id) kept (sym (ap held e) ∙ is)

pub entry_state : (n : ℕ) (aim : AimView) (b : BundleView) (kind count extra : ℕ) (old : DiskView) (kept : Kept) → IsBundleOf n b → StandsBy n aim (states.Kept kept) (Some b) old → next_state aim b old kind count extra ≡ state_of aim kind count extra (line_of aim.host ++ kept.id)
entry_state n aim b kind count extra old kept own stands = next_same aim b old kind count extra (own.none_staged Id (is_part b.shape own.shape)) ∙ ap (state_of aim kind count extra) (kept_bytes aim b old kept own.shape stands.1)

-- of what the files keep
pub changed_from : (n : ℕ) (aim : AimView) (b : BundleView) (disk : DiskView) (before : State) (kind extra : ℕ) (after : State) (old new : DiskView) → state_on aim b disk ≡ before → Throughout (IsOfRelay n) (IsChangedFrom n aim b disk kind extra after) old new
    → Throughout (IsOfRelay n) (IsChanged n aim before kind extra after) old new
changed_from n aim b disk before kind extra after old new is run = widened (IsOfRelay n) (IsOfRelay n) _ _ old new (λ g own. own) (λ image holds beside. one image holds) run
  where
    one : (image : Image) → IsChangedFrom n aim b disk kind extra after image → IsChanged n aim before kind extra after image
    one image (inl it) = inl (subst (Keeps n aim image) is it.0)
    one image (inr it) = inr it

-- an entry for the same identifier, over a bundle that keeps it
pub entry_through : (n : ℕ) (aim : AimView) (b : BundleView) (kind count extra : ℕ) (old new : DiskView) (kept : Kept) → IsBundleOf n b → StandsBy n aim (states.Kept kept) (Some b) old
    → Throughout (IsOfRelay n) (IsChangedFrom n aim b old kind extra (next_state aim b old kind count extra)) old new → Throughout (IsOfRelay n) (IsChanged n aim (states.Kept kept) kind extra (state_of aim kind count extra (line_of aim.host ++ kept.id))) old new
entry_through n aim b kind count extra old new kept own stands run =
    changed_from n aim b old (states.Kept kept) kind extra (state_of aim kind count extra (line_of aim.host ++ kept.id)) old new stands.1
    (after_is n aim b old kind extra (next_state aim b old kind count extra) (state_of aim kind count extra (line_of aim.host ++ kept.id)) old new (entry_state n aim b kind count extra old kept own stands) run)

-- the files are made
pub made_only : (n : ℕ) (aim : AimView) (state : State) (old new : DiskView) → Throughout (IsOfRelay n) (λ image. LastAt 89 (journal_of (owner_of n)) image ≡ None) old new → Throughout (IsOfRelay n) (IsReplaced n aim states.Nothing state) old new
made_only n aim state old new run = widened (IsOfRelay n) (IsOfRelay n) _ _ old new (λ g own. own) (λ image none beside. inl (no_entry_keeps n aim image none)) run

-- and then an identifier is kept in them
pub made_through : (n : ℕ) (aim : AimView) (b : BundleView) (state : State) (old mid new : DiskView) → Throughout (IsOfRelay n) (λ image. LastAt 89 (journal_of (owner_of n)) image ≡ None) old mid → state_on aim b mid ≡ states.Nothing
    → Throughout (IsOfRelay n) (IsChangedFrom n aim b mid 1 0 state) mid new → Throughout (IsOfRelay n) (IsReplaced n aim states.Nothing state) old new
made_through n aim b state old mid new first is second = followed (IsOfRelay n) (IsReplaced n aim states.Nothing state) old mid new
    (made_only n aim state old mid first)
    (subst (λ (s : State). Throughout (IsOfRelay n) (IsReplaced n aim s state) mid new) is (at_once n aim b state mid new second))

-- an identifier is kept in files that stand on a disk
pub files_through : (n : ℕ) (aim : AimView) (state after : State) (files : Option BundleView) (b : BundleView) (old new : DiskView) → files ≡ Some b → StandsBy n aim state files old → Throughout (IsOfRelay n) (IsReplaced n aim (state_on aim b old) after) old new
    → Throughout (IsOfRelay n) (IsReplaced n aim state after) old new
files_through n aim state after files b old new is stands run =
    subst (λ (s : State). Throughout (IsOfRelay n) (IsReplaced n aim s after) old new) (subst (λ (f : Option BundleView). StandsBy n aim state f old) is stands).1 run

pub unmade_through : (n : ℕ) (aim : AimView) (state after : State) (files : Option BundleView) (old new : DiskView) → files ≡ None → state ≢ states.Done → StandsBy n aim state files old → Throughout (IsOfRelay n) (IsReplaced n aim states.Nothing after) old new
    → Throughout (IsOfRelay n) (IsReplaced n aim state after) old new
unmade_through n aim state after files old new is undone stands run = elim (subst (λ (f : Option BundleView). StandsBy n aim state f old) is stands) [
  | inl done ↦ absurd (undone done)
  | inr none ↦ subst (λ (s : State). Throughout (IsOfRelay n) (IsReplaced n aim s after) old new) (sym none.0) run
]

pub undone_unmade : (n : ℕ) (files : Option BundleView) (disk : DiskView) → files ≡ None → StandsUndone n files disk → IsUnmade n disk
undone_unmade n files disk is stands = elim (subst (λ (f : Option BundleView). StandsBy n stands.aim stands.state f disk) is stands.stands) [
  | inl done ↦ absurd (stands.undone done)
  | inr none ↦ none.1
]

pub undone_represents : (n : ℕ) (files : Option BundleView) (b : BundleView) (disk : DiskView) → files ≡ Some b → StandsUndone n files disk → Represents b disk
undone_represents n files b disk is stands = (subst (λ (f : Option BundleView). StandsBy n stands.aim stands.state f disk) is stands.stands).0

-- ---- the calls

-- the point of an entry
pub point_next : (point : ℕ) → point_of (point + 1) ≡ Some point
point_next point = ap point_of (let e : point + 1 ≡ suc point = omega arith in e)

pub is_kept : (state : State) → keeps_id state ≡ true → (kept : Kept) × (state ≡ states.Kept kept)
is_kept states.Nothing e = absurd (cc)
is_kept (states.Kept kept) e = (kept, refl)
is_kept states.Done e = absurd (cc)

pub kept_undone : (state : State) → keeps_id state ≡ true → state ≢ states.Done
kept_undone states.Nothing e done = cc (done)
kept_undone (states.Kept kept) e done = cc (done)
kept_undone states.Done e done = false≢true e

-- what an entry with a point keeps
pub point_state : (aim : AimView) (state : State) (kept : Kept) (count point : ℕ) → count ≡ length (line_of aim.host) → state ≡ states.Kept kept → state_of aim 1 count (point + 1) (line_of aim.host ++ kept.id) ≡ with_point point state
point_state aim state kept count point long is =
    line_keeps aim kept.id count (point + 1) long ∙ ap (λ (q : Option _). states.Kept (record { id = kept.id; point = q })) (point_next point) ∙ sym (ap (with_point point) is)

-- what stands of a value stands of its parts
stands_as : (n m : ℕ) (aim : AimView) (state : State) (files held : Option BundleView) (old : DiskView) (kept : Kept) → m ≡ n → held ≡ files → state ≡ states.Kept kept → StandsBy n aim state files old → StandsBy m aim (states.Kept kept) held old
stands_as n m aim state files held old kept number is same stands =
    subst (λ (k : ℕ). StandsBy k aim (states.Kept kept) held old) (sym number) (subst (λ (f : Option BundleView). StandsBy n aim (states.Kept kept) f old) (sym is) (subst (λ (s : State). StandsBy n aim s files old) same stands))

-- what an entry makes of a state, over the files of a keeping
pub keeps_through : (n m : ℕ) (aim : AimView) (state : State) (kind extra : ℕ) (after : State) (files held : Option BundleView) (old new : DiskView) → m ≡ n → held ≡ files → keeps_id state ≡ true → StandsBy n aim state files old
    → ((kept : Kept) → state ≡ states.Kept kept → (next : State) × (next ≡ after) × (StandsBy m aim (states.Kept kept) held old → Throughout (IsOfRelay m) (IsChanged m aim (states.Kept kept) kind extra next) old new))
    → Throughout (IsOfRelay n) (IsChanged n aim state kind extra after) old new
keeps_through n m aim state kind extra after files held old new number is keeps stands run =
    let kept = is_kept state keeps in
    let next = run kept.0 kept.1 in
    let there = stands_as n m aim state files held old kept.0 number is kept.1 stands in
    subst (λ (s : State). Throughout (IsOfRelay n) (IsChanged n aim s kind extra after) old new) (sym kept.1)
    (subst (λ (s : State). Throughout (IsOfRelay n) (IsChanged n aim (states.Kept kept.0) kind extra s) old new) next.1
    (subst (λ (k : ℕ). Throughout (IsOfRelay k) (IsChanged k aim (states.Kept kept.0) kind extra next.0) old new) number (next.2 there)))

pub keeps_state : (n m : ℕ) (aim : AimView) (state after : State) (files held : Option BundleView) (old : DiskView) (found : State) → m ≡ n → held ≡ files → keeps_id state ≡ true → StandsBy n aim state files old
    → ((kept : Kept) → state ≡ states.Kept kept → (next : State) × (next ≡ after) × (StandsBy m aim (states.Kept kept) held old → found ≡ next)) → found ≡ after
keeps_state n m aim state after files held old found number is keeps stands made =
    let kept = is_kept state keeps in
    let next = made kept.0 kept.1 in
    next.2 (stands_as n m aim state files held old kept.0 number is kept.1 stands) ∙ next.1

-- a bundle that is there keeps its state in each crash image
pub now_keeps : (n m : ℕ) (aim : AimView) (b : BundleView) (disk : DiskView) (state : State) → m ≡ n → IsBundleOf m b → Represents b disk → state_on aim b disk ≡ state → (image : Image) → IsCrashImage disk image → Keeps n aim image state
now_keeps n m aim b disk state number own at is image left = subst (λ (k : ℕ). Keeps k aim image state) number (subst (Keeps m aim image) is (each_keeps m aim b disk own.owner own.shape at image left))

-- an identifier is kept in the files of a keeping
pub id_through : (n m : ℕ) (aim : AimView) (state after : State) (files held : Option BundleView) (old new : DiskView) → m ≡ n → held ≡ files → state ≢ states.Done → StandsBy n aim state files old
    → ((s : State) → s ≢ states.Done → StandsBy m aim s held old → Throughout (IsOfRelay m) (IsReplaced m aim s after) old new) → Throughout (IsOfRelay n) (IsReplaced n aim state after) old new
id_through n m aim state after files held old new number is undone stands run =
    subst (λ (k : ℕ). Throughout (IsOfRelay k) (IsReplaced k aim state after) old new) number
    (run state undone (subst (λ (k : ℕ). StandsBy k aim state held old) (sym number) (subst (λ (f : Option BundleView). StandsBy n aim state f old) (sym is) stands)))

-- a line and an identifier are kept in them
pub id_kept : (n m : ℕ) (aim : AimView) (state : State) (id : List ℕ) (count : ℕ) (bytes : List ℕ) (files held : Option BundleView) (old new : DiskView) → m ≡ n → held ≡ files → count ≡ length (line_of aim.host) → bytes ≡ line_of aim.host ++ id
    → state ≢ states.Done → StandsBy n aim state files old → ((s : State) → s ≢ states.Done → StandsBy m aim s held old → Throughout (IsOfRelay m) (IsReplaced m aim s (state_of aim 1 count 0 bytes)) old new)
    → Throughout (IsOfRelay n) (IsReplaced n aim state (states.Kept (record { id = id; point = None }))) old new
id_kept n m aim state id count bytes files held old new number is long same undone stands run =
    subst (λ (s : State). Throughout (IsOfRelay n) (IsReplaced n aim state s) old new) (ap (state_of aim 1 count 0) same ∙ line_keeps aim id count 0 long)
    (id_through n m aim state (state_of aim 1 count 0 bytes) files held old new number is undone stands run)

-- ---- what a call that keeps something says

pub err_not_ok : {T E : Type 0} (r : Result T E) (e : E) → IsErrAnd r (λ y. y ≡ e) → IsOk r → ⊥
err_not_ok (Ok x) e is ok = absurd is
err_not_ok (Err y) e is ok = absurd (false≢true ok)

pub changes_by : (ok : Type 0) (n : ℕ) (aim : AimView) (before : State) (kind extra : ℕ) (after : State) (old new : DiskView) → Throughout (IsOfRelay n) (IsChanged n aim before kind extra after) old new → (ok → LeavesLast n kind extra new) → Changes ok n aim before kind extra after old new
changes_by ok n aim before kind extra after old new moments left = record { moments = moments; left = left }

pub replaces_by : (ok : Type 0) (n : ℕ) (aim : AimView) (before after : State) (old new : DiskView) → Throughout (IsOfRelay n) (IsReplaced n aim before after) old new → (ok → LeavesLast n 1 0 new) → Replaces ok n aim before after old new
replaces_by ok n aim before after old new moments left = record { moments = moments; left = left }
