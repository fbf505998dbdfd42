-- A job that ends its connection after calls about no log: its log rests through these, and then it is let go.
use Rattle.std.proofs.Common.{◌≡◌, ℕ, [], refl, subst, Option, Some, None, ◌⊎◌}
use Rattle.std.specs.Prelude.{false}
use Rattle.lsv_base.specs.declared.time.TimeSpec.{TimeSpec}
use Rattle.lsv_disk.specs.Throughout.{Jointly}
use Rattle.lsv_disk.specs.View.{DiskView, IsCrashImage}
use Rattle.lsv_machine.specs.Disks.{AllGood, AsBefore, GoodOr, Rests}
use Rattle.lsv_machine.specs.Durable.{GoodAt, Reading}
use Rattle.lsv_machine.specs.Failures.{Act, Step}
use Rattle.lsv_machine.specs.History.{Ledger, noted, settles}
use Rattle.lsv_machine.specs.Machine.{Machine, Settings, log_of}
use Rattle.lsv_machine.specs.Stands.{StandsFor}
use Rattle.lsv_machine.specs.Turns.{Happened.Did}
use Rattle.lsv_keeper.specs.Reading.{reading_of}
use Rattle.lsv_keeper.specs.Represents.{Represents}
use Rattle.lsv_keeper.specs.Rows.{AllRose, Beside, ClosedIf, RowIs}
use Rattle.lsv_keeper.specs.Value.{KeeperView, SameSet, event_line, settings_of}
use Rattle.lsv_keeper.proofs.Acting.{Ends, OwnIf, OwnKeeps, acted, closed_keeps, concerns_ends, keeps_after, about_own}
use Rattle.lsv_keeper.proofs.Counting.{counts_did}
use Rattle.lsv_keeper.proofs.Frames.{Laws, beside_on, beside_wider, resting}

pub settings_same : (v u : KeeperView) → SameSet v u → settings_of u ≡ settings_of v
settings_same v u s = λ t. record { lane = s.lane t; lanes = s.lanes t; log_exit = s.log_exit t; line_of = λ now k asked log. event_line (s.kind t) now k asked log }

abbrev Settled : Reading → Settings → ℕ → Act → Machine → DiskView → DiskView → Type 0
Settled r set i act m old new = (l : Ledger) → StandsFor set i m l → AllGood r l i (IsCrashImage old)
    → Jointly (GoodOr r l (noted i l (Did act)) i) old new × AllGood r (noted i l (Did act)) i (IsCrashImage new)

abbrev Unsettled : Reading → Settings → ℕ → Act → Machine → DiskView → DiskView → Type 0
Unsettled r set i act m old new = (l : Ledger) → StandsFor set i m l → l.writers ≡ [] → GoodAt r l i old.reads
    → Jointly (λ images. AsBefore r i (IsCrashImage old) images ⊎ GoodOr r l (noted i l (Did act)) i images) old new
    × (AllGood r (noted i l (Did act)) i (IsCrashImage new) ⊎ ((settles i l (Did act) ≡ false) × Rests r i old new))

-- what a job owes of a log hangs on what the keeper is set to
pub keeps_view : (v u : KeeperView) (i : ℕ) (act : Act) (m : Machine) (old new : DiskView) → SameSet v u → OwnKeeps u i act m old new → OwnKeeps v i act m old new
keeps_view v u i act m old new s keeps = record {
  settled = subst (λ (x : Settings). Settled (reading_of v.lane v.lanes) x i act m old new) (settings_same v u s)
      (subst (λ (x : ℕ). Settled (reading_of v.lane x) (settings_of u) i act m old new) s.lanes (subst (λ (x : ℕ). Settled (reading_of x u.lanes) (settings_of u) i act m old new) s.lane keeps.settled));
  unsettled = subst (λ (x : Settings). Unsettled (reading_of v.lane v.lanes) x i act m old new) (settings_same v u s)
      (subst (λ (x : ℕ). Unsettled (reading_of v.lane x) (settings_of u) i act m old new) s.lanes (subst (λ (x : ℕ). Unsettled (reading_of x u.lanes) (settings_of u) i act m old new) s.lane keeps.unsettled));
}

-- calls on the disk from a to b about no log, after which the keeper u and the disk still stand for the machine; and from b to c the connection's log is let go
pub late_row : (v u v' : KeeperView) (now : TimeSpec) (act : Act) (m after : Machine) (a b c : DiskView) → Laws a → Laws b → SameSet v u → Represents u b m → act.now ≡ now → act.in_cut ≡ false
    → Ends act.job.conn act.answers → Step (settings_of v) m act after → AllRose act.failed a c → Beside v.lane v.lanes None a b → Beside v.lane v.lanes (log_of (m.states act.job.conn)) b c
    → ClosedIf (log_of (m.states act.job.conn)) m b c → Represents v' c after → RowIs v now act.job act.answers m v' a c
late_row v u v' now act m after a b c laws laws' s at now_is unmarked ends step rose first beside closed at' = (
  after,
  acted v now act.job (log_of (m.states act.job.conn)) act m after a c laws refl now_is step (counts_did act a c whole.monotone rose unmarked)
      (about_own v.lane v.lanes m act (λ n own. at.sound.owned act.job.conn n own))
      (concerns_ends (log_of (m.states act.job.conn)) m act (λ n e. e) ends) whole (own (log_of (m.states act.job.conn)) refl closed),
  at',
)
  where
    whole : Beside v.lane v.lanes (log_of (m.states act.job.conn)) a c
    whole = beside_on v.lane v.lanes (log_of (m.states act.job.conn)) a b c (beside_wider v.lane v.lanes (log_of (m.states act.job.conn)) a b first) beside

    own : (o : Option ℕ) → log_of (m.states act.job.conn) ≡ o → ClosedIf o m b c → OwnIf v o act m a c
    own None is nothing = tt
    own (Some i) is closing = keeps_after v i act m a b c (resting v.lane v.lanes None i a b laws (λ e. let f : None ≡ Some i = e in cc) first)
        (keeps_view v u i act m b c s (closed_keeps u i act m b c at laws' is closing ends))
