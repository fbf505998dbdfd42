-- Files that are held from the start.
use Rattle.std.proofs.Common.{◌≡◌, ◌≢◌, ◌⊎◌, inl, inr, ℕ, ◌+◌, ◌<◌, ◌≤◌, Bool, true, false, cond, ◌||◌, List, [], ◌∷◌, length, take, get_or, replicate, count_by, Option, Some, None, refl, sym, ◌∙◌, ap, subst}
use Rattle.std.specs.Option.{option_or}
use Rattle.std.specs.declared.alloc.Global.{Global}
use Rattle.std.specs.declared.vec.Vec.{Vec}
use Rattle.std.proofs.lemmas.List.{take_all}
use Rattle.lsv_disk.specs.declared.file.FileId.{FileId}
use Rattle.lsv_disk.specs.declared.memory.call.Call.{Call}
use Rattle.lsv_disk.specs.declared.memory.call.Effect.{Effect}
use Rattle.lsv_disk.specs.declared.memory.call.Effect.TheVariants.{Held, Made, NotMade, NotRead, Written, NotWritten, Synced, NotSynced}
use Rattle.lsv_disk.specs.declared.memory.fill.Fill.{Fill}
use Rattle.lsv_disk.specs.declared.memory.fill.Fill.TheVariants.{Old, Read, Byte}
use Rattle.lsv_disk.specs.Bytes.{written}
use Rattle.lsv_disk.specs.View.{Image, Only}
use Rattle.lsv_disk.specs.Memory.Calls.{past_of, reads_after, reads_of, MayLeave}
use Rattle.lsv_disk.specs.Memory.Images.{may_make, left_by, IsHeld, AreHeld, NotedHeld}
use Rattle.lsv_disk.proofs.Same.{same_or_other, same_itself, other_not_same}
use Rattle.lsv_disk.proofs.MemoryLemmas.Past.{past_none}
use Rattle.lsv_disk.proofs.MemoryLemmas.Noting.{here, other, count_stays}
use Rattle.lsv_disk.proofs.MemoryLemmas.Leaving.{past_more}

-- a file that reads as absent isn't held
not_held : (past : List Effect) → IsHeld past → reads_after past ≡ None → past ≡ []
not_held past (inl none) absent = none
not_held past (inr held) absent = absurd (let no : Some held.0.items ≡ None = sym (ap reads_after held.1) ∙ absent in let not : ⊥ = cc in not)

module _ (old new : List Call) (file : FileId) (bytes : List ℕ) (noted : NotedHeld old new file bytes) where
  pub held_noted : AreHeld old → reads_of old file ≡ None → AreHeld new
  held_noted held absent g = elim (same_or_other g file) [
    | inl e ↦ subst (λ (h : FileId). IsHeld (past_of new h)) (sym e)
        (inr (noted.0, here old new file (Held noted.0) noted.2 ∙ ap (λ (past : List Effect). Held noted.0 ∷ past) (not_held (past_of old file) (held file) absent)))
    | inr differs ↦ subst IsHeld (sym (other old new file (Held noted.0) noted.2 g differs)) (held g)
  ]

  pub held_reads : reads_of new file ≡ Some bytes
  held_reads = ap reads_after (here old new file (Held noted.0) noted.2) ∙ ap (λ (b : List ℕ). Some b) noted.1

  pub held_others : (g : FileId) → g ≢ file → reads_of new g ≡ reads_of old g
  held_others g differs = ap reads_after (other old new file (Held noted.0) noted.2 g differs)

  pub held_here : (makes : Bool) (left : Option (List ℕ)) → makes ≡ true → reads_of old file ≡ None → Some bytes ≡ left → reads_of new file ≡ cond makes (option_or (reads_of old file) left) (reads_of old file)
  held_here makes left is absent is_left =
      held_reads ∙ is_left ∙ sym (ap (λ (o : Option (List ℕ)). option_or o left) absent) ∙ sym (ap (λ (b : Bool). cond b (option_or (reads_of old file) left) (reads_of old file)) is)

-- what is held alone is durable, and counts nothing
pub held_only : (past : List Effect) → IsHeld past → Only (reads_after past) (MayLeave past)
held_only past (inl none) = subst (λ (p : List Effect). Only (reads_after p) (MayLeave p)) (sym none) (λ c left. left)
held_only past (inr held) = subst (λ (p : List Effect). Only (reads_after p) (MayLeave p)) (sym held.1) (λ c left. left)

pub held_counts : (p : Effect → Bool) (past : List Effect) → ((copy : Vec ℕ Global) → p (Held copy) ≡ false) → IsHeld past → count_by p past ≡ 0
held_counts p past not (inl none) = ap (count_by p) none
held_counts p past not (inr held) = ap (count_by p) held.1 ∙ count_stays p (Held held.0) [] (not held.0)

-- whether some call may have made the file
abbrev pub makes : List Effect → Bool
makes [] = false
makes (effect ∷ past) = may_make effect || makes past

-- if none did, nothing is left of it
pub none_left : (fill : Fill) (past : List Effect) → makes past ≡ false → left_by fill past ≡ None
none_left Old [] not = refl
none_left Read [] not = refl
none_left (Byte byte) [] not = refl
none_left fill (Held bytes ∷ past) not = cc
none_left fill (Made ∷ past) not = cc
none_left fill (NotMade ∷ past) not = cc
none_left Old (NotRead ∷ past) not = none_left Old past not
none_left Old (Written at bytes ∷ past) not = none_left Old past not
none_left Old (NotWritten at n ∷ past) not = none_left Old past not
none_left Old (NotSynced ∷ past) not = none_left Old past not
none_left Old (Synced ∷ past) not = none_left Read past not
none_left Read (NotRead ∷ past) not = none_left Read past not
none_left Read (Written at bytes ∷ past) not = ap (λ (o : Option (List ℕ)). written at bytes.items o) (none_left Read past not)
none_left Read (NotWritten at n ∷ past) not = none_left Read past not
none_left Read (NotSynced ∷ past) not = none_left Read past not
none_left Read (Synced ∷ past) not = none_left Read past not
none_left (Byte byte) (NotRead ∷ past) not = none_left (Byte byte) past not
none_left (Byte byte) (Written at bytes ∷ past) not = ap (λ (o : Option (List ℕ)). written at (replicate (length bytes.items) byte) o) (none_left (Byte byte) past not)
none_left (Byte byte) (NotWritten at n ∷ past) not = ap (λ (o : Option (List ℕ)). written at (replicate n byte) o) (none_left (Byte byte) past not)
none_left (Byte byte) (NotSynced ∷ past) not = none_left (Byte byte) past not
none_left (Byte byte) (Synced ∷ past) not = none_left Read past not

-- what was taken over by the first of the calls
abbrev pub TakenOver : List Call → Image → ℕ → List Call → Type 0
TakenOver calls left i taken = (file : FileId) → reads_of taken file ≡ cond (makes (past_of (take i calls) file)) (left file) None

pub taken_more : (calls : List Call) (left : Image) (i : ℕ) (call : Call) (taken next : List Call) → call ≡ get_or calls i call → i < length calls
    → reads_of next call.file ≡ cond (may_make call.effect) (option_or (reads_of taken call.file) (left call.file)) (reads_of taken call.file)
    → ((g : FileId) → g ≢ call.file → reads_of next g ≡ reads_of taken g) → TakenOver calls left i taken → TakenOver calls left (i + 1) next
taken_more calls left i call taken next is lt it others so_far file = by_file (same_or_other file call.file) where
  before : (g : FileId) → List Effect
  before g = past_of (take i calls) g

  Goal : FileId → Type 0
  Goal g = reads_of next g ≡ cond (makes (past_of (take (i + 1) calls) g)) (left g) None

  either : (made was : Bool) (o l : Option (List ℕ)) → o ≡ cond was l None → cond made (option_or o l) o ≡ cond (made || was) l None
  either true true o l e = ap (λ (p : Option (List ℕ)). option_or p l) e ∙ again l where
    again : (p : Option (List ℕ)) → option_or p p ≡ p
    again None = refl
    again (Some bytes) = refl
  either true false o l e = ap (λ (p : Option (List ℕ)). option_or p l) e
  either false was o l e = e

  by_file : (file ≡ call.file) ⊎ (file ≢ call.file) → Goal file
  by_file (inl e) = subst Goal (sym e)
      (it ∙ either (may_make call.effect) (makes (before call.file)) (reads_of taken call.file) (left call.file) (so_far call.file)
      ∙ sym (ap (λ (past : List Effect). cond (makes past) (left call.file) None)
      (past_more calls call.file i call is lt ∙ ap (λ (b : Bool). cond b (call.effect ∷ before call.file) (before call.file)) (same_itself call.file))))
  by_file (inr differs) =
      others file differs ∙ so_far file
      ∙ sym (ap (λ (past : List Effect). cond (makes past) (left file) None)
      (past_more calls file i call is lt ∙ ap (λ (b : Bool). cond b (call.effect ∷ before file) (before file)) (other_not_same call.file file (λ e. differs (sym e)))))

pub taken_whole : (calls : List Call) (fill : Fill) (left : Image) (i : ℕ) (taken : List Call) → length calls ≤ i → ((file : FileId) → left file ≡ left_by fill (past_of calls file))
    → TakenOver calls left i taken → (file : FileId) → reads_of taken file ≡ left_by fill (past_of calls file)
taken_whole calls fill left i taken all is so_far file =
    so_far file
    ∙ ap (λ (cs : List Call). cond (makes (past_of cs file)) (left file) None) (take_all i calls all)
    ∙ ap (λ (o : Option (List ℕ)). cond (makes (past_of calls file)) o None) (is file)
    ∙ by_made (makes (past_of calls file)) refl where
      by_made : (made : Bool) → makes (past_of calls file) ≡ made → cond made (left_by fill (past_of calls file)) None ≡ left_by fill (past_of calls file)
      by_made true e = refl
      by_made false e = sym (none_left fill (past_of calls file) e)

pub taken_none : (calls : List Call) (left : Image) (taken : List Call) → ((file : FileId) → reads_of taken file ≡ None) → TakenOver calls left 0 taken
taken_none calls left taken none file = none file ∙ sym (ap (λ (past : List Effect). cond (makes past) (left file) None) (past_none file))
