-- The laws of a disk, for one that keeps its calls.
use Rattle.std.specs.Prelude.{◌≡◌, ◌⊎◌, ℕ, ◌&&◌, Bool, true, false, List, [], ◌∷◌, length, Option, Some, None, is_none, refl}
use Rattle.std.proofs.Common.{inl, inr, subst, sym, ◌∙◌, arith}
use Rattle.std.proofs.lemmas.Bool.{false≢true}
use Rattle.std.proofs.lemmas.Option.{none-some}
use Rattle.std.proofs.lemmas.List.{take_all}
use Rattle.lsv_disk.specs.declared.memory.call.Call.{Call}
use Rattle.lsv_disk.specs.declared.memory.call.Effect.{Effect}
use Rattle.lsv_disk.specs.declared.memory.call.Effect.TheVariants.{Held, Made, NotMade, NotRead, Written, NotWritten, Synced, NotSynced}
use Rattle.lsv_disk.specs.Bytes.{written}
use Rattle.lsv_disk.specs.TornLemmas.{torn_same}
use Rattle.lsv_disk.specs.View.{Image, Places, IsCrashImage}
use Rattle.lsv_disk.specs.Memory.Calls.{past_of, reads_after, reaches, is_legal, MayLeave, view_of}

-- what a read of a file gives, a crash may leave
pub MayLeave-reads : (past : List Effect) → MayLeave past (reads_after past)
MayLeave-reads [] = refl
MayLeave-reads (Held bytes ∷ past) = refl
MayLeave-reads (Made ∷ past) = refl
MayLeave-reads (Written at bytes ∷ past) = inl refl
MayLeave-reads (NotMade ∷ past) = inl (MayLeave-reads past)
MayLeave-reads (NotRead ∷ past) = MayLeave-reads past
MayLeave-reads (NotWritten at n ∷ past) = (reads_after past, MayLeave-reads past, torn_same at n (reads_after past))
MayLeave-reads (Synced ∷ past) = refl
MayLeave-reads (NotSynced ∷ past) = MayLeave-reads past

pub view-reads_itself : (calls : List Call) (refused : ℕ) (places : Option Places) → IsCrashImage (view_of calls refused places) (view_of calls refused places).reads
view-reads_itself calls refused places file = MayLeave-reads (past_of calls file)

pub view-is_now : (calls : List Call) (refused : ℕ) (places : Option Places) (image : Image) → IsCrashImage (view_of calls refused places) image → (view_of calls refused places).crash_images_at (view_of calls refused places).moment image
view-is_now calls refused places image is file = subst (λ (cs : List Call). MayLeave (past_of cs file) (image file)) (sym (take_all (length calls) calls (omega arith))) (is file)

pub view-only_now : (calls : List Call) (refused : ℕ) (places : Option Places) (image : Image) → (view_of calls refused places).crash_images_at (view_of calls refused places).moment image → IsCrashImage (view_of calls refused places) image
view-only_now calls refused places image left file = subst (λ (cs : List Call). MayLeave (past_of cs file) (image file)) (take_all (length calls) calls (omega arith)) (left file)

some_isn't : {A : Type 0} {x : A} → Some x ≡ None → ⊥
some_isn't {A} {x} e = none-some x (sym e)

both : (a b : Bool) → (a && b) ≡ true → (a ≡ true) × (b ≡ true)
both true true e = (refl, refl)
both true false e = absurd (false≢true e)
both false b e = absurd (false≢true e)

-- what is there once it was written is there before
unwritten : (at : ℕ) (bytes : List ℕ) (file : Option (List ℕ)) → written at bytes file ≡ None → file ≡ None
unwritten at bytes None e = refl
unwritten at bytes (Some old) e = absurd (some_isn't e)

-- a write reaches no file that is absent
unreached : (at : ℕ) (file : Option (List ℕ)) → reaches file at ≡ true → file ≡ None → ⊥
unreached at None reached e = false≢true reached
unreached at (Some old) reached e = some_isn't e

-- of a file that reads as absent a crash leaves nothing, or an empty file
pub MayLeave-absent : (past : List Effect) → is_legal past ≡ true → reads_after past ≡ None → (c : Option (List ℕ)) → MayLeave past c → (c ≡ None) ⊎ (c ≡ Some [])
MayLeave-absent [] legal absent c left = inl left
MayLeave-absent (Held bytes ∷ past) legal absent c left = absurd (some_isn't absent)
MayLeave-absent (Made ∷ past) legal absent c left = absurd (some_isn't absent)
MayLeave-absent (Written at bytes ∷ past) legal absent c left =
    absurd (unreached at (reads_after past) (both (reaches (reads_after past) at) (is_legal past) legal).0 (unwritten at bytes.items (reads_after past) absent))
MayLeave-absent (NotMade ∷ past) legal absent c (inl left) = MayLeave-absent past (both (is_none (reads_after past)) (is_legal past) legal).1 absent c left
MayLeave-absent (NotMade ∷ past) legal absent c (inr empty) = inr empty
MayLeave-absent (NotRead ∷ past) legal absent c left = MayLeave-absent past legal absent c left
MayLeave-absent (NotWritten at n ∷ past) legal absent c left = absurd (unreached at (reads_after past) (both (reaches (reads_after past) at) (is_legal past) legal).0 absent)
MayLeave-absent (Synced ∷ past) legal absent c left = inl (left ∙ absent)
MayLeave-absent (NotSynced ∷ past) legal absent c left = MayLeave-absent past legal absent c left
