-- Pieces of the end of a turn: the event lines, and then one log after another.
use Rattle.std.specs.Prelude.{◌≡◌, ℕ, List, [], ◌∷◌, ◌++◌, Contains}
use Rattle.lsv_disk.specs.View.{DiskView}
use Rattle.lsv_disk.specs.declared.file.Owner.{Owner}
use Rattle.lsv_disk.specs.declared.file.Owner.TheVariants.{Log}
use Rattle.lsv_machine.specs.Disks.{LinesRest}
use Rattle.lsv_machine.specs.Durable.{Reading}
use Rattle.lsv_machine.specs.Keeping.{Ended, LinesFlushed}
use Rattle.lsv_machine.specs.Machine.{Machine, Settings}
use Rattle.lsv_machine.specs.Turns.{FlushesLines, FlushesLog, FlushesLogs, Tail}

-- no answer, and nobody failed
abbrev pub no_answer : Tail
no_answer = record { answers = []; failed = [] }

-- two pieces of one tail, the one after the other
abbrev pub joined : Tail → Tail → Tail
joined s t = record { answers = s.answers ++ t.answers; failed = s.failed ++ t.failed }

-- none of these logs failed
abbrev pub NoneFailed : List ℕ → List Owner → Type 0
NoneFailed [] failed = Unit {0}
NoneFailed (n ∷ numbers) failed = (Contains failed (Log n) → ⊥) × NoneFailed numbers failed

-- the piece of a tail that flushes the event lines
pub record LinesEnded (r : Reading) (set : Settings) (tail : Tail) (m after : Machine) (old new : DiskView) : Type 0 where
  pub ended : Ended r set tail (λ x y. FlushesLines set tail.failed tail.answers x y) m after old new
  pub lines : LinesFlushed r set tail m after old new

-- the piece of a tail that flushes log n
pub record LogEnded (r : Reading) (set : Settings) (n : ℕ) (tail : Tail) (m after : Machine) (old new : DiskView) : Type 0 where
  pub ended : Ended r set tail (λ x y. FlushesLog tail.failed n tail.answers x y) m after old new
  pub lines : LinesRest r old new
  pub text : after.lines ≡ m.lines

-- the piece of a tail that flushes these logs
pub record LogsEnded (r : Reading) (set : Settings) (numbers : List ℕ) (tail : Tail) (m after : Machine) (old new : DiskView) : Type 0 where
  pub ended : Ended r set tail (λ x y. FlushesLogs tail.failed numbers tail.answers x y) m after old new
  pub lines : LinesRest r old new
  pub text : after.lines ≡ m.lines
