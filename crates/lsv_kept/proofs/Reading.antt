-- What is kept, as the files of a relaying read.
use Rattle.std.proofs.Common.{◌≡◌, ◌+◌, ℕ, Option, Some, Result, Ok, Err, IfSome, IsErrAnd, IsErrOf, true, take, refl, sym, ◌∙◌, ap, subst, arith}
use Rattle.std.specs.Prelude.{Bool, nat_eq, ◌==◌, ◌&&◌}
use Rattle.std.proofs.lemmas.Bool.Decides.{nat_tests}
use Rattle.lsv_bundle.specs.Body.{length_of}
use Rattle.lsv_bundle.specs.Committed.{HasEntry, IsShort, prefix_at}
use Rattle.lsv_bundle.specs.declared.body.Body.{Body}
use Rattle.lsv_bundle.specs.declared.fault.BundleFault.{BundleFault}
use Rattle.lsv_bundle.specs.declared.shape.Shape.TheVariants as shapes
use Rattle.lsv_bundle.specs.declared.view.View.{View}
use Rattle.lsv_disk.specs.Bytes.{bytes_of}
use Rattle.lsv_disk.specs.Files.{file_of}
use Rattle.lsv_disk.specs.Throughout.{OnlyReads}
use Rattle.lsv_disk.specs.View.{DiskView}
use Rattle.lsv_disk.specs.declared.file.Owner.{Owner}
use Rattle.lsv_disk.specs.declared.file.Part.TheVariants.{Id}
use Rattle.lsv_disk.proofs.Composition.{unchanged_reads}
use Rattle.lsv_kept.specs.Aim.{AimView}
use Rattle.lsv_kept.specs.Kept.{IsMarked, IsMarkedAt, Keeps, owner_of, state_of}
use Rattle.lsv_kept.specs.declared.state.State.{State}
use Rattle.lsv_kept.proofs.Hosts.{both, number_is, same_number}
use Rattle.lsv_kept.proofs.Unique.{held, same_body}

-- an error that was handed on
pub handed_on : {T U : Type 0} (r : Result T BundleFault) (e d : BundleFault) → IsErrAnd r (λ x. x ≡ e) → IsErrOf r d → IsErrOf {T = U} (Err e) d
handed_on (Ok x) e d is same = absurd is
handed_on {T} {U} (Err x) e d is same = let h : x ≡ d = cc (same) in ap (λ (y : BundleFault). let z : Result U BundleFault = Err y in z) (sym is ∙ h)

pub of_some : {A : Type 0} (o : Option A) (a : A) (P : A → Type 0) → o ≡ Some a → IfSome o P → P a
of_some {A} o a P is holds = subst (λ (x : Option A). IfSome x P) is holds

-- what a view says is kept
pub read_keeps : (n : ℕ) (aim : AimView) (view : View) (old mid : DiskView) (o : Option View) → o ≡ Some view → IfSome o (λ v. (v.owner ≡ owner_of n) × (v.shape ≡ shapes.Relay)) → IfSome o (λ v. HasEntry (owner_of n) v.body old.reads)
    → IfSome o (λ v. IsShort (old.reads (file_of (owner_of n) Id)) (length_of v.body Id) → ⊥) → OnlyReads old mid
    → (state : State) → state ≡ state_of aim view.body.kind view.body.count view.body.extra (prefix_at mid (file_of view.owner Id) (length_of view.body Id)) → Keeps n aim old.reads state
read_keeps n aim view old mid o is named entry enough reads state found =
    subst (Keeps n aim old.reads) (sym (found ∙ ap (state_of aim view.body.kind view.body.count view.body.extra) bytes)) (held n aim old.reads view.body (of_some o view (λ v. HasEntry (owner_of n) v.body old.reads) is entry) (of_some o view (λ v. IsShort (old.reads (file_of (owner_of n) Id)) (length_of v.body Id) → ⊥) is enough))
  where
    owner : view.owner ≡ owner_of n
    owner = (of_some o view (λ v. (v.owner ≡ owner_of n) × (v.shape ≡ shapes.Relay)) is named).0

    bytes : prefix_at mid (file_of view.owner Id) (length_of view.body Id) ≡ take (length_of view.body Id) (bytes_of (old.reads (file_of (owner_of n) Id)))
    bytes = ap (λ (o : Owner). prefix_at mid (file_of o Id) (length_of view.body Id)) owner ∙ ap (λ (c : Option _). take (length_of view.body Id) (bytes_of c)) (unchanged_reads old mid reads.unchanged (file_of (owner_of n) Id))

to_three : (k : ℕ) → nat_eq k 3 ≡ true → k ≡ 3
to_three k is = grind (arith, nat_tests)

from_three : (k : ℕ) → k ≡ 3 → nat_eq k 3 ≡ true
from_three k is = grind (arith, nat_tests)

-- whether the log is marked
pub marked_by : (n : ℕ) (view : View) (disk : DiskView) (o : Option View) → o ≡ Some view → IfSome o (λ v. HasEntry (owner_of n) v.body disk.reads)
    → IfSome o (λ v. IsShort (disk.reads (file_of (owner_of n) Id)) (length_of v.body Id) → ⊥) → (body : Body) → body ≡ view.body
    → (nat_eq body.kind 3 ≡ true → IsMarked n disk.reads) × (IsMarked n disk.reads → nat_eq body.kind 3 ≡ true)
marked_by n view disk o is entry enough body same = (
  λ three. record {
    body = view.body;
    entry = has;
    kind = ap (λ (b : Body). b.kind) (sym same) ∙ to_three body.kind three;
    enough = of_some o view (λ v. IsShort (disk.reads (file_of (owner_of n) Id)) (length_of v.body Id) → ⊥) is enough;
  },
  λ marked. from_three body.kind (ap (λ (b : Body). b.kind) (same ∙ same_body n disk.reads view.body marked.body has marked.entry) ∙ marked.kind),
)
  where
    has : HasEntry (owner_of n) view.body disk.reads
    has = of_some o view (λ v. HasEntry (owner_of n) v.body disk.reads) is entry

-- and whether that is the mark of a log of this elapsed time
pub marked_at_by : (n total : ℕ) (view : View) (disk : DiskView) (o : Option View) → o ≡ Some view → IfSome o (λ v. HasEntry (owner_of n) v.body disk.reads)
    → IfSome o (λ v. IsShort (disk.reads (file_of (owner_of n) Id)) (length_of v.body Id) → ⊥) → (body : Body) → body ≡ view.body
    → ((nat_eq body.kind 3 && (body.extra == total + 1)) ≡ true → IsMarkedAt n total disk.reads) × (IsMarkedAt n total disk.reads → (nat_eq body.kind 3 && (body.extra == total + 1)) ≡ true)
unfolding marked_by
marked_at_by n total view disk o is entry enough body same = (
  λ both_. let parts = both (nat_eq body.kind 3) (body.extra == total + 1) both_ in record {
    mark = (marked_by n view disk o is entry enough body same).0 parts.0;
    time = ap (λ (b : Body). b.extra) (sym same) ∙ same_number body.extra (total + 1) parts.1;
  },
  λ marked.
      let one = (marked_by n view disk o is entry enough body same).1 marked.mark in
      let two = number_is body.extra (total + 1) (ap (λ (b : Body). b.extra) (same ∙ same_body n disk.reads view.body marked.mark.body (of_some o view (λ v. HasEntry (owner_of n) v.body disk.reads) is entry) marked.mark.entry) ∙ marked.time) in
      rw (one, two) refl,
)

-- by the kind of the entry
pub marked_at_some : (n total : ℕ) (view : View) (disk : DiskView) (o : Option View) → o ≡ Some view → IfSome o (λ v. HasEntry (owner_of n) v.body disk.reads)
    → IfSome o (λ v. IsShort (disk.reads (file_of (owner_of n) Id)) (length_of v.body Id) → ⊥) → (body : Body) → body ≡ view.body → body.kind ≡ 3 → (b : Bool) → b ≡ (body.extra == total + 1)
    → (b ≡ true → IsMarkedAt n total disk.reads) × (IsMarkedAt n total disk.reads → b ≡ true)
marked_at_some n total view disk o is entry enough body same three b eq =
    let by = marked_at_by n total view disk o is entry enough body same in (
      λ yes_. by.0 (let one = from_three body.kind three in let two : (body.extra == total + 1) ≡ true = sym eq ∙ yes_ in rw (one, two) refl),
      λ marked. eq ∙ (both (nat_eq body.kind 3) (body.extra == total + 1) (by.1 marked)).1,
    )

pub marked_at_none : (n total : ℕ) (view : View) (disk : DiskView) (o : Option View) → o ≡ Some view → IfSome o (λ v. HasEntry (owner_of n) v.body disk.reads)
    → IfSome o (λ v. IsShort (disk.reads (file_of (owner_of n) Id)) (length_of v.body Id) → ⊥) → (body : Body) → body ≡ view.body → (body.kind ≡ 3 → ⊥)
    → (nat_eq body.kind 3 ≡ true → IsMarkedAt n total disk.reads) × (IsMarkedAt n total disk.reads → nat_eq body.kind 3 ≡ true)
marked_at_none n total view disk o is entry enough body same other =
    let by = marked_at_by n total view disk o is entry enough body same in (
      λ yes_. absurd (other (to_three body.kind yes_)),
      λ marked. (both (nat_eq body.kind 3) (body.extra == total + 1) (by.1 marked)).0,
    )
