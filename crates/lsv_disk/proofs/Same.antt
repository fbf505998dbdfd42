-- The derived comparison of files tells whether they are one.
use Rattle.std.proofs.Common.{◌≡◌, ◌≢◌, Bool, true, false, ◌&&◌, arith, rules, refl, sym, ◌∙◌, ap, inl, inr, ◌⊎◌}
use Rattle.std.proofs.lemmas.Bool.{false≢true}
use Rattle.std.proofs.lemmas.Bool.Decides.{nat_tests}
use denote.Enum.Bare.{same_true}
use Rattle.lsv_disk.specs.contracts.file.Part.{the_type}
use Rattle.lsv_disk.specs.declared.file.FileId.{FileId}
use Rattle.lsv_disk.specs.declared.file.Owner.{Owner}
use Rattle.lsv_disk.specs.declared.file.Owner.TheVariants.{Log, Events, Numbers, Relay}
use Rattle.lsv_disk.specs.declared.file.Part.{Part}
use Rattle.lsv_disk.specs.declared.file.Part.TheVariants.{Head, Exit, Timing, Stdin, Stdout, Stderr, Ttyin, Ttyout, Lines, Id, Commit, Slots}
use Rattle.lsv_disk.specs.contracts.file.OwnerPartialEq.TheImpl as owners
use Rattle.lsv_disk.specs.contracts.file.PartPartialEq.TheImpl as parts
use Rattle.lsv_disk.specs.Files.{same_file}

owner_same : (a b : Owner) → owners.ghosts.eq a b ≡ true → a ≡ b
owner_same (Log m) (Log n) e = grind (arith, nat_tests)
owner_same (Events m) (Events n) e = grind (arith, nat_tests)
owner_same (Numbers m) (Numbers n) e = grind (arith, nat_tests)
owner_same (Relay m) (Relay n) e = grind (arith, nat_tests)
owner_same (Log m) (Events n) e = absurd (false≢true e)
owner_same (Log m) (Numbers n) e = absurd (false≢true e)
owner_same (Log m) (Relay n) e = absurd (false≢true e)
owner_same (Events m) (Log n) e = absurd (false≢true e)
owner_same (Events m) (Numbers n) e = absurd (false≢true e)
owner_same (Events m) (Relay n) e = absurd (false≢true e)
owner_same (Numbers m) (Log n) e = absurd (false≢true e)
owner_same (Numbers m) (Events n) e = absurd (false≢true e)
owner_same (Numbers m) (Relay n) e = absurd (false≢true e)
owner_same (Relay m) (Log n) e = absurd (false≢true e)
owner_same (Relay m) (Events n) e = absurd (false≢true e)
owner_same (Relay m) (Numbers n) e = absurd (false≢true e)

owner_itself : (a : Owner) → owners.ghosts.eq a a ≡ true
owner_itself (Log n) = grind (arith, nat_tests)
owner_itself (Events n) = grind (arith, nat_tests)
owner_itself (Numbers n) = grind (arith, nat_tests)
owner_itself (Relay n) = grind (arith, nat_tests)

part_same : (a b : Part) → parts.ghosts.eq a b ≡ true → a ≡ b
part_same a b e = same_true the_type (search rules) a b e

part_itself : (a : Part) → parts.ghosts.eq a a ≡ true
part_itself Head = refl
part_itself Exit = refl
part_itself Timing = refl
part_itself Stdin = refl
part_itself Stdout = refl
part_itself Stderr = refl
part_itself Ttyin = refl
part_itself Ttyout = refl
part_itself Lines = refl
part_itself Id = refl
part_itself Commit = refl
part_itself Slots = refl

both : (a b : Bool) → (a && b) ≡ true → (a ≡ true) × (b ≡ true)
both true true e = (refl, refl)
both true false e = absurd (false≢true e)
both false b e = absurd (false≢true e)

pub same_is : (a b : FileId) → same_file a b ≡ true → a ≡ b
same_is a b e =
    let parts : (owners.ghosts.eq a.owner b.owner ≡ true) × (parts.ghosts.eq a.part b.part ≡ true) = both (owners.ghosts.eq a.owner b.owner) (parts.ghosts.eq a.part b.part) e in
    let o : a.owner ≡ b.owner = owner_same a.owner b.owner parts.0 in
    let p : a.part ≡ b.part = part_same a.part b.part parts.1 in
    λ i. record { owner = o i; part = p i }

pub same_itself : (a : FileId) → same_file a a ≡ true
same_itself a = ap (λ (x : Bool). x && parts.ghosts.eq a.part a.part) (owner_itself a.owner) ∙ part_itself a.part

-- a test is either
tested : (b : Bool) → (b ≡ true) ⊎ (b ≡ false)
tested true = inl refl
tested false = inr refl

pub other_not_same : (a b : FileId) → a ≢ b → same_file a b ≡ false
other_not_same a b other = elim (tested (same_file a b)) [ inl e ↦ absurd (other (same_is a b e)) | inr e ↦ e ]

pub same_or_other : (a b : FileId) → (a ≡ b) ⊎ (a ≢ b)
same_or_other a b = elim (tested (same_file a b)) [ inl e ↦ inl (same_is a b e) | inr e ↦ inr (λ is. false≢true (sym e ∙ ap (λ (x : FileId). same_file a x) (sym is) ∙ same_itself a)) ]
