use Rattle.std.proofs.Common.{◌≡◌, ◌≢◌, ◌⊎◌, inl, inr, ℕ, List, ◌++◌, true, false, sym, append_assoc}
use Rattle.std.specs.Prelude.{codes, nat_eq}
use Rattle.std.specs.Fmt.{decimal}
use Rattle.std.proofs.lemmas.Bool.Decides.{eqb_tells}
use Rattle.lsv_real_disk.specs.Places.{lane_path}
use Rattle.lsv_real_disk.proofs.path.lane_path.Goals as goal

lane-numbered : (path : List ℕ) (lane : ℕ) → lane ≢ 0 → path ++ (codes "." ++ decimal lane) ≡ lane_path path lane
lane-numbered path lane n = by_test (eqb_tells lane 0)
  where
    by_test : ((nat_eq lane 0 ≡ true) × (lane ≡ 0)) ⊎ ((nat_eq lane 0 ≡ false) × (lane ≢ 0)) → path ++ (codes "." ++ decimal lane) ≡ lane_path path lane
    by_test (inl (t, e)) = absurd (n e)
    by_test (inr (f, e)) = rw f (sym (append_assoc path (codes ".") (decimal lane)))

pub returns-else-lane-eq0 : goal.returns-else-lane-eq0
returns-else-lane-eq0 c = rw (← lane-numbered c.args.path.now c.args.lane c.if-lane-eq0.false) c.format.ensures.ok
