-- The files that are there: what a change of one leaves of the others.
use Rattle.std.proofs.Common.{◌≡◌, ◌≢◌, Bool, true, false, cond, List, ℕ, Option, None, option_map, inl, inr, sym, ◌∙◌, ap, subst}
use Rattle.std.specs.HashMap.{HashMap, IsEmpty}
use Rattle.std.specs.Map.{lookup}
use Rattle.std.specs.declared.alloc.Global.{Global}
use Rattle.std.specs.declared.vec.Vec.{Vec}
use Rattle.lsv_disk.specs.declared.file.FileId.{FileId}
use Rattle.lsv_disk.specs.Files.{same_file}
use Rattle.lsv_disk.specs.Memory.Stored.{content_of}
use Rattle.lsv_disk.proofs.Same.{same_or_other, same_itself, other_not_same}

-- what a map of files gives for each
abbrev pub Kept : Type 0
Kept = FileId → Option (Vec ℕ Global)

-- the bytes of one of them
abbrev pub bytes_in : Kept → FileId → Option (List ℕ)
bytes_in kept file = option_map (λ bytes. bytes.items) (kept file)

-- one file is changed, and the others are as they were
abbrev pub IsChanged : Kept → Kept → FileId → Option (Vec ℕ Global) → Type 0
IsChanged was now file value = (g : FileId) → now g ≡ cond (same_file file g) value (was g)

pub changed_here : (was now : Kept) (file : FileId) (value : Option (Vec ℕ Global)) → IsChanged was now file value → now file ≡ value
changed_here was now file value changed = changed file ∙ ap (λ (b : Bool). cond b value (was file)) (same_itself file)

pub changed_other : (was now : Kept) (file : FileId) (value : Option (Vec ℕ Global)) → IsChanged was now file value → (g : FileId) → g ≢ file → now g ≡ was g
changed_other was now file value changed g differs = changed g ∙ ap (λ (b : Bool). cond b value (was g)) (other_not_same file g (λ e. differs (sym e)))

-- a file is taken out and put back with other bytes
pub replaced : (was out now : Kept) (file : FileId) (value : Option (Vec ℕ Global)) → IsChanged was out file None → IsChanged out now file value → IsChanged was now file value
replaced was out now file value taken put g = put g ∙ by_same (same_file file g) (taken g) where
  by_same : (same : Bool) → out g ≡ cond same None (was g) → cond same value (out g) ≡ cond same value (was g)
  by_same true e = cc
  by_same false e = e

-- the same of a file in a map with the same entries in another order
pub reordered : (was kept now : Kept) (file : FileId) (value : Option (Vec ℕ Global)) → ((g : FileId) → kept g ≡ was g) → IsChanged kept now file value → IsChanged was now file value
reordered was kept now file value same changed g = changed g ∙ ap (λ (o : Option (Vec ℕ Global)). cond (same_file file g) value o) (same g)

-- the bytes of one file go on to the next ones
pub goes_on : (was now : Kept) (file : FileId) (value : Option (Vec ℕ Global)) (next : Option (List ℕ) → Option (List ℕ)) → IsChanged was now file value
    → option_map (λ v. v.items) value ≡ next (bytes_in was file) → (g : FileId) → bytes_in now g ≡ cond (same_file file g) (next (bytes_in was g)) (bytes_in was g)
goes_on was now file value next changed is g = elim (same_or_other g file) [
  | inl e ↦ subst (λ (h : FileId). bytes_in now h ≡ cond (same_file file h) (next (bytes_in was h)) (bytes_in was h)) (sym e)
      (ap (λ (o : Option (Vec ℕ Global)). option_map (λ v. v.items) o) (changed_here was now file value changed) ∙ is
      ∙ ap (λ (b : Bool). cond b (next (bytes_in was file)) (bytes_in was file)) (sym (same_itself file)))
  | inr differs ↦ ap (λ (o : Option (Vec ℕ Global)). option_map (λ v. v.items) o) (changed_other was now file value changed g differs)
      ∙ ap (λ (b : Bool). cond b (next (bytes_in was g)) (bytes_in was g)) (sym (other_not_same file g (λ e. differs (sym e))))
]

-- a map with no entries has no file
pub no_file : {S : Type 0} (files : HashMap FileId (Vec ℕ Global) S) → IsEmpty files → (file : FileId) → content_of files file ≡ None
no_file files empty file = ap (λ (entries : List (FileId × Vec ℕ Global)). option_map (λ v. v.items) (lookup (same_file file) entries)) empty
