-- The files stay what the calls made of them, where one is made or written.
use Rattle.std.proofs.Common.{◌≡◌, ◌≢◌, ℕ, ◌≤◌, List, [], length, Option, Some, Result, Ok, Err, OnOk, OnErr, option_map, sym, ◌∙◌, ap, subst, inl, inr}
use Rattle.std.specs.declared.alloc.Global.{Global}
use Rattle.std.specs.declared.vec.Vec.{Vec}
use Rattle.lsv_disk.specs.declared.file.FileId.{FileId}
use Rattle.lsv_disk.specs.declared.memory.call.Call.{Call}
use Rattle.lsv_disk.specs.declared.memory.call.Effect.TheVariants.{Held, Made, Written}
use Rattle.lsv_disk.specs.Bytes.{written, overwritten, Reaches}
use Rattle.lsv_disk.specs.Memory.Calls.{reads_of, Noted}
use Rattle.lsv_disk.specs.Memory.Stored.{ReadsAs}
use Rattle.lsv_disk.proofs.Same.{same_or_other}
use Rattle.lsv_disk.proofs.MemoryLemmas.Found.{Kept, bytes_in, IsChanged, changed_here, changed_other}
use Rattle.lsv_disk.proofs.MemoryLemmas.Noting.{result_changed}

module _ (was now : Kept) (file : FileId) (value : Vec ℕ Global) (changed : IsChanged was now file (Some value)) where
  here_now : bytes_in now file ≡ Some value.items
  here_now = ap (λ (o : Option (Vec ℕ Global)). option_map (λ v. v.items) o) (changed_here was now file (Some value) changed)

  others : (g : FileId) → g ≢ file → bytes_in now g ≡ bytes_in was g
  others g differs = ap (λ (o : Option (Vec ℕ Global)). option_map (λ v. v.items) o) (changed_other was now file (Some value) changed g differs)

  module _ (old new : List Call) (tied : ReadsAs (bytes_in was) old) where
    pub made_tied : value.items ≡ [] → Noted old new file Made → ReadsAs (bytes_in now) new
    made_tied empty noted = result_changed (bytes_in was) (bytes_in now) old new file Made noted (here_now ∙ ap (λ (l : List ℕ). Some l) empty) others tied

    pub held_tied : (copy : Vec ℕ Global) → copy.items ≡ value.items → Noted old new file (Held copy) → ReadsAs (bytes_in now) new
    held_tied copy same noted = result_changed (bytes_in was) (bytes_in now) old new file (Held copy) noted (here_now ∙ ap (λ (l : List ℕ). Some l) (sym same)) others tied

    module _ (before : Vec ℕ Global) (is : was file ≡ Some before) where
      its_bytes : bytes_in was file ≡ Some before.items
      its_bytes = ap (λ (o : Option (Vec ℕ Global)). option_map (λ v. v.items) o) is

      -- a write that was kept
      written_tied : (at : ℕ) (bytes : List ℕ) (copy : Vec ℕ Global) → copy.items ≡ bytes → value.items ≡ overwritten at bytes before.items → Noted old new file (Written at copy) → ReadsAs (bytes_in now) new
      written_tied at bytes copy copied over noted =
          result_changed (bytes_in was) (bytes_in now) old new file (Written at copy) noted
          (here_now
          ∙ ap (λ (l : List ℕ). Some l) over
          ∙ ap (λ (l : List ℕ). Some (overwritten at l before.items)) (sym copied)
          ∙ ap (λ (o : Option (List ℕ)). written at copy.items o) (sym its_bytes ∙ tied file))
          others tied

      -- and one that wasn't
      unwritten_tied : value.items ≡ before.items → new ≡ old → ReadsAs (bytes_in now) new
      unwritten_tied same none g = elim (same_or_other g file) [
        | inl e ↦ subst (λ (h : FileId). bytes_in now h ≡ reads_of new h) (sym e)
            (here_now ∙ ap (λ (l : List ℕ). Some l) same ∙ sym its_bytes ∙ tied file ∙ ap (λ (cs : List Call). reads_of cs file) (sym none))
        | inr differs ↦ others g differs ∙ tied g ∙ ap (λ (cs : List Call). reads_of cs g) (sym none)
      ]

      -- either, by the answer
      pub write_tied : {T E : Type 0} (at : ℕ) (bytes : List ℕ) (copy : Vec ℕ Global) (r : Result T E) → copy.items ≡ bytes
          → OnOk r (value.items ≡ overwritten at bytes before.items) → OnOk r (Noted old new file (Written at copy))
          → OnErr r (value.items ≡ before.items) → OnErr r (new ≡ old) → ReadsAs (bytes_in now) new
      write_tied at bytes copy (Ok x) copied over noted err same = written_tied at bytes copy copied over noted
      write_tied at bytes copy (Err x) copied over noted err same = unwritten_tied err same

-- a write at a place that the file reaches is one into its bytes
pub reaches : (was : Kept) (calls : List Call) (file : FileId) (before : Vec ℕ Global) (at : ℕ) → was file ≡ Some before → ReadsAs (bytes_in was) calls → Reaches (reads_of calls file) at → at ≤ length before.items
reaches was calls file before at is tied place =
    subst (λ (o : Option (List ℕ)). Reaches o at) (sym (tied file) ∙ ap (λ (o : Option (Vec ℕ Global)). option_map (λ v. v.items) o) is) place
