-- The lane that a connection's jobs decide.
use Rattle.std.proofs.Common.{◌≡◌, ◌++◌, ◌∷◌, [], List, ℕ, Bool, true, false, Some, None, ap, ◌∙◌}
use Rattle.std.specs.Prelude.{if◌then◌else◌}
use Rattle.lsv_session.specs.Transcript.{AreFirst}
use Rattle.lsv_session.specs.declared.job.Body.{Body}
use Rattle.lsv_links.specs.Lanes.{is_hello, lane_by, lane_of}

-- the lane that jobs decide stays, whatever comes after them
still_of : (lanes home : ℕ) (xs ys : List Body) (l : ℕ) → lane_of lanes home xs ≡ Some l → lane_of lanes home (xs ++ ys) ≡ Some l
still_of lanes home [] ys l e = absurd (cc)
still_of lanes home (x ∷ []) [] l e = e
still_of lanes home (x ∷ []) (y ∷ ys) l e = go (is_hello x) e
  where
    go : (t : Bool) → (if t then None else Some (lane_by lanes home x)) ≡ Some l → Some (if t then lane_by lanes home y else lane_by lanes home x) ≡ Some l
    go true d = absurd (cc)
    go false d = d
still_of lanes home (x ∷ z ∷ later) ys l e = e

-- where all jobs decide no other lane than this one, neither do the first of them
pub part_decides : (lanes home lane : ℕ) (part all : List Body) → AreFirst part all → ((l : ℕ) → lane_of lanes home all ≡ Some l → l ≡ lane) → (l : ℕ) → lane_of lanes home part ≡ Some l → l ≡ lane
part_decides lanes home lane part all f decided l e = decided l (ap (lane_of lanes home) f.1 ∙ still_of lanes home part f.0 l e)
