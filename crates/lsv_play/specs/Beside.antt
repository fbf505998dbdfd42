-- A log that others write while it is read.
use Rattle.std.specs.Prelude.{◌≡◌, ◌≢◌, ℕ, suc, ◌≤◌, Some, None}
use Rattle.lsv_bundle.specs.declared.body.Body.{Body}
use Rattle.lsv_bundle.specs.Committed.{HasEntry}
use Rattle.lsv_disk.specs.View.{Image}
use Rattle.lsv_iolog.specs.Later.{IsLater}
use Rattle.lsv_iolog.specs.Reading.{HasCuts}
use Rattle.lsv_iolog.specs.Recovered.{Replays, owner_of}
use Rattle.lsv_record.specs.Points.{Stored}

-- what others do to a log: they append to it, finish it or cut it, or leave it as it is; its head stays, and a complete log isn't written
pub record IsStep (before after : Stored) : Type 0 where
  pub later : IsLater before after
  pub head : after.head ≡ before.head
  pub complete : before.exit ≢ None → after ≡ before

-- at each moment the disk holds the log, and from one to the next others did such a step
pub record IsWritten (n : ℕ) (images : ℕ → Image) (logs : ℕ → Stored) : Type 0 where
  pub holds : (moment : ℕ) → Replays (images moment) n (Some (logs moment))
  pub step : (moment : ℕ) → IsStep (logs moment) (logs (suc moment))

-- a reader took this entry of the log at one moment, and at a later one found that the last entry counts as many cuts
pub record IsLookedAt (n : ℕ) (images : ℕ → Image) (body : Body) (opened looked : ℕ) : Type 0 where
  pub entry : HasEntry (owner_of n) body (images opened)
  pub order : opened ≤ looked
  pub cuts : HasCuts n body.extra (images looked)
