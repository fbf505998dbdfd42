-- What an image keeps of a relaying is one thing, and a mark is one of them.
use Rattle.std.proofs.Common.{◌≡◌, ◌≢◌, ◌<◌, ◌≤◌, ◌+◌, inl, inr, ℕ, List, length, length-append, take, drop, Option, Some, None, refl, sym, ◌∙◌, ap, subst, arith}
use Rattle.std.proofs.lemmas.List.{length-take-le, take_at, take-append-drop}
use Rattle.lsv_disk.specs.Bytes.{bytes_of}
use Rattle.lsv_disk.specs.Files.{file_of}
use Rattle.lsv_disk.specs.View.{Image}
use Rattle.lsv_disk.specs.declared.file.Part.{Part}
use Rattle.lsv_disk.specs.declared.file.Part.TheVariants.{Id}
use Rattle.lsv_journal.specs.Last.{IsAbsent, LastAt}
use Rattle.lsv_bundle.specs.declared.body.Body.{Body}
use Rattle.lsv_bundle.specs.declared.shape.Shape.TheVariants as shapes
use Rattle.lsv_bundle.specs.Body.{encoded, length_of}
use Rattle.lsv_bundle.specs.Committed.{BundleHolds, Committed, HasEntry, HasPrefix, HoldsEntry, IsShort}
use Rattle.lsv_bundle.specs.Shape.{journal_of}
use Rattle.lsv_bundle.proofs.Laws.{holds_absent, holds_alone, of_owner, one_body}
use Rattle.lsv_kept.specs.Aim.{AimView}
use Rattle.lsv_kept.specs.Kept.{IsMarked, IsMarkedAt, IsStateDamage, Keeps, SameFiles, owner_of, state_in, state_of}
use Rattle.lsv_kept.specs.declared.state.Kept.{Kept}
use Rattle.lsv_kept.specs.declared.state.State.{State}
use Rattle.lsv_kept.specs.declared.state.State.TheVariants as states
use Rattle.lsv_kept.proofs.Hosts.{done_is, other_state, time_marks}

-- two prefixes of one file that are as long are the same
prefix_same : (xs ys : List ℕ) (file : Option (List ℕ)) → length xs ≡ length ys → HasPrefix xs file → HasPrefix ys file → xs ≡ ys
prefix_same xs ys None long one two = absurd one
prefix_same xs ys (Some bytes) long one two =
    sym (take_at xs one.0 (length xs) refl) ∙ ap (take (length xs)) (sym one.1 ∙ two.1) ∙ take_at ys two.0 (length xs) (sym long)

some_encoded : (a b : List ℕ) → Some a ≡ Some b → a ≡ b
some_encoded a b e = cc

none_some : (xs : List ℕ) → None ≡ Some xs → ⊥
none_some xs e = cc

pub same_body : (n : ℕ) (image : Image) (a b : Body) → HasEntry (owner_of n) a image → HasEntry (owner_of n) b image → a ≡ b
same_body n image a b one two = one_body a b one.is_body two.is_body (some_encoded (encoded a) (encoded b) (sym one.last ∙ two.last))

entry_of : (n : ℕ) (image : Image) (e : Committed) → HoldsEntry (owner_of n) shapes.Relay e image → HasEntry (owner_of n) e.body image
entry_of n image e holds = record { is_body = holds.is_body; last = holds.last }

same_state : (n : ℕ) (aim : AimView) (image : Image) (a b : Committed) → HoldsEntry (owner_of n) shapes.Relay a image → HoldsEntry (owner_of n) shapes.Relay b image → state_in aim (Some a) ≡ state_in aim (Some b)
same_state n aim image a b one two =
    let body = same_body n image a.body b.body (entry_of n image a one) (entry_of n image b two) in
    let id : a.bytes Id ≡ b.bytes Id = prefix_same (a.bytes Id) (b.bytes Id) (image (file_of (owner_of n) Id)) (one.lengths Id refl ∙ ap (λ (c : Body). length_of c Id) body ∙ sym (two.lengths Id refl)) (one.bytes Id refl) (two.bytes Id refl) in
    ap (λ (c : Body). state_of aim c.kind c.count c.extra (a.bytes Id)) body ∙ ap (state_of aim b.body.kind b.body.count b.body.extra) id

pub one_of : (n : ℕ) (aim : AimView) (image : Image) (a b : Option Committed) → BundleHolds (owner_of n) shapes.Relay a image → BundleHolds (owner_of n) shapes.Relay b image → state_in aim a ≡ state_in aim b
one_of n aim image None None one two = refl
one_of n aim image None (Some b) one two = absurd (none_some (encoded b.body) (sym one ∙ two.last))
one_of n aim image (Some a) None one two = absurd (none_some (encoded a.body) (sym two ∙ one.last))
one_of n aim image (Some a) (Some b) one two = same_state n aim image a b one two

pub one_state : (n : ℕ) (aim : AimView) (image : Image) (one two : State) → Keeps n aim image one → Keeps n aim image two → one ≡ two
one_state n aim image one two a b = sym a.is ∙ one_of n aim image a.entry b.entry a.holds b.holds ∙ b.is

-- images that hold the same entry keep the same
pub same_entry_keeps : (n : ℕ) (aim : AimView) (image other : Image) (entry : Option Committed) (state : State) → BundleHolds (owner_of n) shapes.Relay entry image → BundleHolds (owner_of n) shapes.Relay entry other → Keeps n aim image state → Keeps n aim other state
same_entry_keeps n aim image other entry state one two keeps = record { entry = entry; holds = two; is = one_of n aim image entry keeps.entry one keeps.holds ∙ keeps.is }

-- and have the same last one
pub held_last : (n : ℕ) (image other : Image) (entry : Option Committed) → BundleHolds (owner_of n) shapes.Relay entry image → BundleHolds (owner_of n) shapes.Relay entry other → LastAt 89 (journal_of (owner_of n)) image ≡ LastAt 89 (journal_of (owner_of n)) other
held_last n image other None one two = one ∙ sym two
held_last n image other (Some entry) one two = one.last ∙ sym two.last

-- by the relaying's own files
pub keeps_alone : (n : ℕ) (aim : AimView) (image other : Image) (state : State) → SameFiles n image other → Keeps n aim image state → Keeps n aim other state
keeps_alone n aim image other state same keeps = record {
  entry = keeps.entry;
  holds = holds_alone (owner_of n) shapes.Relay keeps.entry image other (λ f own. same f (of_owner (owner_of n) shapes.Relay f own)) keeps.holds;
  is = keeps.is;
}

pub absent_keeps : (n : ℕ) (aim : AimView) (image : Image) → IsAbsent (journal_of (owner_of n)) image → Keeps n aim image states.Nothing
absent_keeps n aim image absent = record { entry = None; holds = holds_absent (owner_of n) shapes.Relay image absent; is = refl }

-- ---- a mark

long_file : (file : Option (List ℕ)) (n : ℕ) → (IsShort file n → ⊥) → length (take n (bytes_of file)) ≡ n
long_file None n enough = absurd (enough tt)
long_file (Some bytes) n enough = length-take-le n bytes (at_most (length bytes) n enough)
  where
    at_most : (a b : ℕ) → (a < b → ⊥) → b ≤ a
    at_most a b no_ = omega (arith, no_)

begins_file : (file : Option (List ℕ)) (n : ℕ) → (IsShort file n → ⊥) → HasPrefix (take n (bytes_of file)) file
begins_file None n enough = absurd (enough tt)
begins_file (Some bytes) n enough = (drop n bytes, sym (take-append-drop n bytes))

done_of : (aim : AimView) (kind count extra : ℕ) (bytes : List ℕ) → kind ≡ 3 → extra ≡ aim.total + 1 → state_of aim kind count extra bytes ≡ states.Done
done_of aim kind count extra bytes is time = ap (λ (k : ℕ). state_of aim k count extra bytes) is ∙ time_marks aim.total extra time

-- the entry that an image holds by its journal and its data file
pub held : (n : ℕ) (aim : AimView) (image : Image) (body : Body) → HasEntry (owner_of n) body image → (IsShort (image (file_of (owner_of n) Id)) (length_of body Id) → ⊥)
    → Keeps n aim image (state_of aim body.kind body.count body.extra (take (length_of body Id) (bytes_of (image (file_of (owner_of n) Id)))))
held n aim image body entry enough = record {
  entry = Some (record { body = body; bytes = λ part. take (length_of body Id) (bytes_of (image (file_of (owner_of n) Id))) });
  holds = record {
    is_body = entry.is_body;
    last = entry.last;
    lengths = λ part of. subst (λ (p : Part). length (take (length_of body Id) (bytes_of (image (file_of (owner_of n) Id)))) ≡ length_of body p) (sym of) (long_file (image (file_of (owner_of n) Id)) (length_of body Id) enough);
    bytes = λ part of. subst (λ (p : Part). HasPrefix (take (length_of body Id) (bytes_of (image (file_of (owner_of n) Id)))) (image (file_of (owner_of n) p))) (sym of) (begins_file (image (file_of (owner_of n) Id)) (length_of body Id) enough);
  };
  is = refl;
}

to_keeps : (n : ℕ) (aim : AimView) (image : Image) → IsMarkedAt n aim.total image → Keeps n aim image states.Done
to_keeps n aim image marked =
    let mark = marked.mark in
    subst (Keeps n aim image) (done_of aim mark.body.kind mark.body.count mark.body.extra _ mark.kind marked.time) (held n aim image mark.body mark.entry mark.enough)

not_short : (bytes : List ℕ) (file : Option (List ℕ)) (n : ℕ) → length bytes ≡ n → HasPrefix bytes file → IsShort file n → ⊥
not_short bytes None n long begins short = begins
not_short bytes (Some all) n long begins short = let a = ap length begins.1 in let b = length-append bytes begins.0 in omega (arith, a, b, long, short)

from_keeps : (n : ℕ) (aim : AimView) (image : Image) → Keeps n aim image states.Done → IsMarkedAt n aim.total image
from_keeps n aim image keeps = go keeps.entry keeps.holds keeps.is
  where
    go : (entry : Option Committed) → BundleHolds (owner_of n) shapes.Relay entry image → state_in aim entry ≡ states.Done → IsMarkedAt n aim.total image
    go None holds is = absurd (cc)
    go (Some e) holds is =
        let done = done_is aim e.body.kind e.body.count e.body.extra (e.bytes Id) is in record {
          mark = record {
            body = e.body;
            entry = entry_of n image e holds;
            kind = done.0;
            enough = not_short (e.bytes Id) (image (file_of (owner_of n) Id)) (length_of e.body Id) (holds.lengths Id refl) (holds.bytes Id refl);
          };
          time = done.1;
        }

pub marked_keeps : (n : ℕ) (aim : AimView) (image : Image) → (IsMarkedAt n aim.total image → Keeps n aim image states.Done) × (Keeps n aim image states.Done → IsMarkedAt n aim.total image)
marked_keeps n aim image = (to_keeps n aim image, from_keeps n aim image)

-- ---- other hosts

-- what is kept of one host is nothing of another
pub of_another : (n : ℕ) (image : Image) (one two : AimView) (kept : Kept) → one.host ≢ two.host → Keeps n one image (states.Kept kept) → Keeps n two image states.Nothing
of_another n image one two kept apart keeps = record { entry = keeps.entry; holds = keeps.holds; is = go keeps.entry keeps.is }
  where
    go : (entry : Option Committed) → state_in one entry ≡ states.Kept kept → state_in two entry ≡ states.Nothing
    go None is = refl
    go (Some e) is = other_state one two e.body.kind e.body.count e.body.extra (e.bytes Id) kept apart is

pub undamaged : (n : ℕ) (image : Image) (part : Part) → IsStateDamage n part image → IsMarked n image → ⊥
undamaged n image part (inl damaged) marked =
    let body = same_body n image damaged.body marked.body damaged.entry marked.entry in
    elim damaged.first [
      | inl short ↦ marked.enough (subst (λ (b : Body). IsShort (image (file_of (owner_of n) Id)) (length_of b Id)) body short.1)
      | inr other ↦ other.1
    ]
undamaged n image part (inr (is, long)) marked =
    long.keeps.1 (ap (λ (b : Body). b.kind) (same_body n image long.body marked.body long.entry marked.entry) ∙ marked.kind)
