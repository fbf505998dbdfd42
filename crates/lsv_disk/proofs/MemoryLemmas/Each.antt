-- Files made one after the other.
use Rattle.std.proofs.Common.{◌≡◌, ℕ, ◌≤◌, ◌-◌, ◌⊎◌, inl, inr, List, [], ◌∷◌, length, take, drop, get_or, Option, Some, arith, sym, ◌∙◌, ap, subst}
use Rattle.std.proofs.lemmas.List.{take_all}
use Rattle.lsv_disk.specs.declared.file.FileId.{FileId}
use Rattle.lsv_disk.specs.declared.file.Owner.{Owner}
use Rattle.lsv_disk.specs.declared.file.Part.{Part}
use Rattle.lsv_disk.specs.Files.{file_of, IsOneOf}
use Rattle.lsv_disk.specs.View.{Image, DiskView, IsSynced, OneMaking}
use Rattle.lsv_disk.specs.Throughout.{Throughout}
use Rattle.lsv_disk.proofs.Composition.{OnlyNow, one_making, followed, widened}

-- a list that isn't empty is its first item and the rest
pub split_list : {X : Type 0} (xs : List X) (d : X) → 1 ≤ length xs → xs ≡ get_or xs 0 d ∷ take (length xs - 1) (drop 1 xs)
split_list [] d more = absurd (omega (arith, more))
split_list {X} (y ∷ ys) d more = ap (λ (zs : List X). y ∷ zs) (sym (take_all (length (y ∷ ys) - 1) ys (omega arith)))

-- of each image: the files of these parts are as a crash could leave them before, or empty
abbrev pub MadeOrBefore : Owner → List Part → DiskView → Image → Type 0
MadeOrBefore owner parts old image = (f : FileId) → IsOneOf owner parts f → old.crash_states f (image f) ⊎ (image f ≡ Some [])

module _ (owner : Owner) (first : Part) (rest : List Part) (old mid new : DiskView) (apart : IsOneOf owner rest (file_of owner first) → ⊥)
    (write : OneMaking (file_of owner first) old mid) (only_old : OnlyNow old) (only_mid : OnlyNow mid)
    (crash : (c : Option (List ℕ)) → mid.crash_states (file_of owner first) c → old.crash_states (file_of owner first) c ⊎ (c ≡ Some [])) where
  abbrev here : FileId
  here = file_of owner first

  differs : (f : FileId) → IsOneOf owner rest f → f ≡ here → ⊥
  differs f among e = apart (subst (λ (g : FileId). IsOneOf owner rest g) e among)

  abbrev HereAt : Image → Type 0
  HereAt image = old.crash_states here (image here) ⊎ (image here ≡ Some [])

  first_alone : Throughout (λ g. g ≡ here) HereAt old mid
  first_alone = one_making here HereAt old mid write only_old only_mid (λ image is. inl (is here)) (λ image is. crash (image here) (is here))

  -- the first was made, or its making failed
  pub first_made : Throughout (IsOneOf owner (first ∷ rest)) (MadeOrBefore owner (first ∷ rest) old) old mid
  first_made = widened (λ g. g ≡ here) (IsOneOf owner (first ∷ rest)) HereAt (MadeOrBefore owner (first ∷ rest) old) old mid (λ g e. inl e) all first_alone where
    all : (image : Image) → HereAt image → ((g : FileId) → (g ≡ here → ⊥) → old.crash_states g (image g)) → MadeOrBefore owner (first ∷ rest) old image
    all image at beside f (inl e) = subst (λ (g : FileId). old.crash_states g (image g) ⊎ (image g ≡ Some [])) (sym e) at
    all image at beside f (inr among) = inl (beside f (differs f among))

  module _ (run : Throughout (IsOneOf owner rest) (MadeOrBefore owner rest mid) mid new) where
    abbrev others : FileId → Type 0
    others = IsOneOf owner rest

    rest_made : Throughout (IsOneOf owner (first ∷ rest)) (MadeOrBefore owner (first ∷ rest) old) mid new
    rest_made = widened others (IsOneOf owner (first ∷ rest)) (MadeOrBefore owner rest mid) (MadeOrBefore owner (first ∷ rest) old) mid new (λ g among. inr among) all run where
      all : (image : Image) → MadeOrBefore owner rest mid image → ((g : FileId) → (others g → ⊥) → mid.crash_states g (image g)) → MadeOrBefore owner (first ∷ rest) old image
      all image made beside f (inl e) = subst (λ (g : FileId). old.crash_states g (image g) ⊎ (image g ≡ Some [])) (sym e) (crash (image here) (beside here apart))
      all image made beside f (inr among) = elim (made f among) [ inl was ↦ inl (write.elsewhere.crash f (differs f among) (image f) was) | inr empty ↦ inr empty ]

    -- and then the rest
    pub all_made : Throughout (IsOneOf owner (first ∷ rest)) (MadeOrBefore owner (first ∷ rest) old) old new
    all_made = followed (IsOneOf owner (first ∷ rest)) (MadeOrBefore owner (first ∷ rest) old) old mid new first_made rest_made

    -- all of them are synced
    pub all_synced : IsSynced mid here → ((f : FileId) → IsOneOf owner rest f → IsSynced new f) → (f : FileId) → IsOneOf owner (first ∷ rest) f → IsSynced new f
    all_synced synced rests f (inl e) = subst (λ (g : FileId). IsSynced new g) (sym e) (λ c left. synced c (run.elsewhere.crash here apart c left) ∙ sym (run.elsewhere.same here apart))
    all_synced synced rests f (inr among) = rests f among
