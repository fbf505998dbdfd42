-- What an image says of the relaying of a log, by the files of the log and of its relaying alone.
use Rattle.std.proofs.Common.{◌≡◌, ◌∙◌, inl, inr, ℕ, List, [], ◌∷◌, Option, slice_index, refl, sym, subst}
use Rattle.lsv_disk.specs.declared.file.FileId.{FileId}
use Rattle.lsv_disk.specs.declared.file.Owner.{Owner}
use Rattle.lsv_disk.specs.declared.file.Owner.TheVariants as owners
use Rattle.lsv_disk.specs.declared.file.Part.{Part}
use Rattle.lsv_disk.specs.declared.file.Part.TheVariants.{Head, Id}
use Rattle.lsv_disk.specs.Files.{file_of}
use Rattle.lsv_disk.specs.View.{Image}
use Rattle.lsv_journal.proofs.Laws.{own_alone, own_owner}
use Rattle.lsv_bundle.specs.declared.body.Body.{Body}
use Rattle.lsv_bundle.specs.Body.{length_of}
use Rattle.lsv_bundle.specs.declared.shape.Shape.{Shape}
use Rattle.lsv_bundle.specs.declared.shape.Shape.TheVariants as shapes
use Rattle.lsv_bundle.specs.Committed.{HasEntry, HasPrefix, IsDamaged, IsFirstShort, IsShort}
use Rattle.lsv_bundle.specs.Shape.{index_of, journal_of, parts_of}
use Rattle.lsv_iolog.specs.Damage.{HasFault, IsViewDamage}
use Rattle.lsv_kept.specs.Kept.{IsMarked, IsStateDamage}
use Rattle.lsv_relay.specs.Complete.{IsComplete, IsRelayed, IsTimed}

-- the files of an owner are the same in both images
abbrev pub SameOf : Owner → Image → Image → Type 0
SameOf owner image other = (file : FileId) → file.owner ≡ owner → other file ≡ image file

pub entry_alone : (owner : Owner) (body : Body) (image other : Image) → SameOf owner image other → HasEntry owner body image → HasEntry owner body other
entry_alone owner body image other same entry = record { is_body = entry.is_body; last = own_alone 89 (journal_of owner) image other (λ g own. same g (own_owner (journal_of owner) g own)) ∙ entry.last }

pub complete_alone : (n : ℕ) (image other : Image) → SameOf (owners.Log n) image other → IsComplete n image → IsComplete n other
complete_alone n image other same is = record { body = is.body; entry = entry_alone (owners.Log n) is.body image other same is.entry; kind = is.kind }

pub marked_alone : (n : ℕ) (image other : Image) → SameOf (owners.Relay n) image other → IsMarked n image → IsMarked n other
marked_alone n image other same is = record {
  body = is.body;
  entry = entry_alone (owners.Relay n) is.body image other same is.entry;
  kind = is.kind;
  enough = λ short. is.enough (subst (λ (o : Option (List ℕ)). IsShort o (length_of is.body Id)) (same (file_of (owners.Relay n) Id) refl) short);
}

pub relayed_alone : (n : ℕ) (image other : Image) → SameOf (owners.Log n) image other → SameOf (owners.Relay n) image other → IsRelayed n image → IsRelayed n other
unfolding complete_alone marked_alone
relayed_alone n image other log relay is = record {
  complete = complete_alone n image other log is.complete;
  mark = record { mark = marked_alone n image other relay is.mark.mark; time = is.mark.time };
}

pub timed_alone : (n total : ℕ) (image other : Image) → SameOf (owners.Log n) image other → IsTimed n total image → IsTimed n total other
unfolding complete_alone
timed_alone n total image other same is = record { complete = complete_alone n image other same is.complete; time = is.time }

-- ---- Damage

short_alone : (owner : Owner) (image other : Image) → SameOf owner image other → (part : Part) (n : ℕ) → IsShort (image (file_of owner part)) n → IsShort (other (file_of owner part)) n
short_alone owner image other same part n short = subst (λ (o : Option (List ℕ)). IsShort o n) (sym (same (file_of owner part) refl)) short

first_short_alone : (owner : Owner) (image other : Image) → SameOf owner image other → (lengths : List ℕ) (parts : List Part) (part : Part) → IsFirstShort owner image lengths parts part → IsFirstShort owner other lengths parts part
first_short_alone owner image other same lengths [] part short = short
first_short_alone owner image other same lengths (first ∷ parts) part (inl (is, short)) = inl (is, short_alone owner image other same first (slice_index lengths (index_of first)) short)
first_short_alone owner image other same lengths (first ∷ parts) part (inr (whole, rest)) = inr (
  λ short. whole (short_alone owner other image (λ file own. sym (same file own)) first (slice_index lengths (index_of first)) short),
  first_short_alone owner image other same lengths parts part rest,
)

damaged_alone : (owner : Owner) (shape : Shape) (image other : Image) (part : Part) → SameOf owner image other → IsDamaged owner shape image part → IsDamaged owner shape other part
damaged_alone owner shape image other part same d = record {
  body = d.body;
  entry = entry_alone owner d.body image other same d.entry;
  first = first_short_alone owner image other same d.body.lens (parts_of shape) part d.first;
}

fault_alone : (n : ℕ) (part : Part) (image other : Image) → SameOf (owners.Log n) image other → HasFault n part image → HasFault n part other
fault_alone n part image other same fault = record {
  entry = fault.entry;
  holds = record {
    is_body = fault.holds.is_body;
    last = own_alone 89 (journal_of (owners.Log n)) image other (λ g own. same g (own_owner (journal_of (owners.Log n)) g own)) ∙ fault.holds.last;
    lengths = fault.holds.lengths;
    bytes = λ p is. subst (λ (o : Option (List ℕ)). HasPrefix (fault.entry.bytes p) o) (sym (same (file_of (owners.Log n) p) refl)) (fault.holds.bytes p is);
  };
  fault = fault.fault;
}

pub view_damage_alone : (n : ℕ) (part : Part) (image other : Image) → SameOf (owners.Log n) image other → IsViewDamage n part image → IsViewDamage n part other
view_damage_alone n part image other same (inl damaged) = inl (damaged_alone (owners.Log n) shapes.Log image other part same damaged)
view_damage_alone n part image other same (inr (is, fault)) = inr (is, fault_alone n Head image other same fault)

pub state_damage_alone : (n : ℕ) (part : Part) (image other : Image) → SameOf (owners.Relay n) image other → IsStateDamage n part image → IsStateDamage n part other
state_damage_alone n part image other same (inl damaged) = inl (damaged_alone (owners.Relay n) shapes.Relay image other part same damaged)
state_damage_alone n part image other same (inr (is, long)) = inr (is, record { body = long.body; entry = entry_alone (owners.Relay n) long.body image other same long.entry; long = long.long; keeps = long.keeps })
