use Rattle.std.proofs.Common.{◌≡◌, ◌<◌, ℕ, Some, length, slice_get}
use Rattle.lsv_disk.specs.View.{IsLeftAlone}
use Rattle.lsv_lane.specs.declared.bay.Bay.{Bay}
use Rattle.lsv_serve.specs.Causes.{HasPlaces}
use Rattle.lsv_serve.proofs.outside.give_all_places.Given as goal

abbrev pub invariant-bays : goal.invariant-bays
invariant-bays g l = record {
  count : length l.bays ≡ length l.fn.bays;
  alone : (i : ℕ) (old new : Bay g.row.D.Denot g.row.C.Denot g.row.G.Denot) → slice_get l.fn.bays i ≡ Some old → slice_get l.bays i ≡ Some new → IsLeftAlone g.D.Disk.tells (g.D.Disk.view old.disk) (g.D.Disk.view new.disk);
  tape : (i : ℕ) (old new : Bay g.row.D.Denot g.row.C.Denot g.row.G.Denot) → slice_get l.fn.bays i ≡ Some old → slice_get l.bays i ≡ Some new → new.tape ≡ old.tape;
  places : g.D.Disk.tells → (i : ℕ) (bay : Bay g.row.D.Denot g.row.C.Denot g.row.G.Denot) → i < l.place → slice_get l.bays i ≡ Some bay → HasPlaces l.fn.options.logs l.fn.options.events (g.D.Disk.view bay.disk);
}
