-- What is found of an event log is of the image at the start, as all calls only read.
use Rattle.std.proofs.Common.{◌≡◌, inl, inr, ℕ, [], ◌∷◌, Option, Some, None, Result, IfOk, refl, subst}
use Rattle.lsv_disk.specs.declared.file.Owner.TheVariants.{Events}
use Rattle.lsv_disk.specs.declared.file.Part.{Part}
use Rattle.lsv_disk.specs.declared.file.Part.TheVariants.{Lines}
use Rattle.lsv_disk.specs.Files.{file_of}
use Rattle.lsv_disk.specs.View.{Image}
use Rattle.lsv_bundle.specs.declared.body.Body.{Body}
use Rattle.lsv_bundle.specs.declared.shape.Shape.TheVariants as shapes
use Rattle.lsv_bundle.specs.Body.{length_of}
use Rattle.lsv_bundle.specs.Committed.{HasEntry, IsDamaged, IsFirstShort, IsShort}
use Rattle.lsv_tally.specs.Tallies.{EndsAs, IsRead, IsTally, RunsTo, lines_at}
use Rattle.lsv_tally.specs.Reading.{IsReadTo}
use Rattle.lsv_tally.specs.declared.look.Run.{Run}
use Rattle.lsv_tally.specs.declared.reading.Ending.{Ending}
use Rattle.lsv_tally.specs.declared.tally.Tally.{Tally}
use Rattle.lsv_tally.specs.declared.tally.TallyFault.{TallyFault}

-- what is found of the image that a disk read as before
pub found_before : (lane : ℕ) (image other : Image) (r : Result Tally TallyFault) → other ≡ image → IfOk r (IsTally other lane) → IfOk r (IsTally image lane)
found_before lane image other r same found = subst (λ (i : Image). IfOk r (IsTally i lane)) same found

pub tally_before : (lane : ℕ) (image other : Image) (t : Tally) → other ≡ image → IsTally other lane t → IsTally image lane t
tally_before lane image other t same found = subst (λ (i : Image). IsTally i lane t) same found

-- a run that ended so
pub read_of : (image : Image) (lane : ℕ) (body : Body) (run : Run) (ending : Ending) → run.ending ≡ Some ending → HasEntry (Events lane) body image → (IsShort (image (file_of (Events lane) Lines)) (length_of body Lines) → ⊥) → RunsTo (lines_at (Events lane) body image) run → IsRead image lane body run.lines ending
read_of image lane body run ending is entry there runs = at run.ending is runs where
  at : (e : Option Ending) → e ≡ Some ending → EndsAs e run.lines (lines_at (Events lane) body image) → IsRead image lane body run.lines ending
  at None no_ to = absurd to
  at (Some e) same to = let is_so : e ≡ ending = cc in record { entry = entry; there = there; lines = subst (λ (x : Ending). IsReadTo run.lines x (lines_at (Events lane) body image)) is_so to }

-- the only data file of an event log is short
pub short_found : (lane : ℕ) (image : Image) (part : Part) → IsDamaged (Events lane) shapes.Lines image part → IsDamaged (Events lane) shapes.Lines image Lines
short_found lane image part damage = at damage.first where
  at : IsFirstShort (Events lane) image damage.body.lens (Lines ∷ []) part → IsDamaged (Events lane) shapes.Lines image Lines
  at (inl (is, short)) = record { body = damage.body; entry = damage.entry; first = inl (refl, short) }
  at (inr (enough, none)) = absurd none
