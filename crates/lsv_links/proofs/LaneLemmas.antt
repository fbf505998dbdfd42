-- A server of one lane.
use Rattle.std.proofs.Common.{◌≡◌, ℕ, zero, suc, List, [], ◌∷◌, ◌++◌}
use Rattle.lsv_session.specs.declared.connection.ConnId.{ConnId}
use Rattle.lsv_session.specs.declared.job.Body.{Body}
use Rattle.lsv_session.specs.declared.job.Body.TheVariants.{Gone}
use Rattle.lsv_session.specs.declared.job.Job.{Job}
use Rattle.lsv_session.specs.declared.reply.Reply.{Reply}
use Rattle.lsv_turn.specs.Turns.{LaneTurn, jobs_in, replies_in}
use Rattle.lsv_links.specs.Lanes.{one_lane}
use Rattle.lsv_links.specs.Links.{ServesBy, ServesLink}
use Rattle.lsv_links.specs.Views.{PortView}

some_end : (heard starved : List Body) → [] ≡ heard ++ (starved ++ Gone ∷ []) → ⊥
some_end [] [] e = cc
some_end [] (x ∷ starved) e = cc
some_end (x ∷ heard) starved e = cc

at_lane : (lane_tells : ℕ → Type 0) (k : ConnId) (l : ℕ) (turns : List LaneTurn) (old new : PortView) (lane : ℕ)
    → ServesBy (lane_tells lane) k l (jobs_in (one_lane lane turns)) (replies_in (one_lane lane turns)) old new → ServesBy (lane_tells 0) k l (jobs_in turns) (replies_in turns) old new
at_lane lane_tells k l turns old new zero s = s
at_lane lane_tells k l turns old new (suc lane) s = absurd (some_end s.brings.heard s.brings.starved s.brings.are)

-- a connection of a server of one lane is that lane's
pub one_lane_serves : (lane_tells : ℕ → Type 0) (lanes : ℕ) (k : ConnId) (l : ℕ) (turns : List LaneTurn) (old new : PortView)
    → ServesLink lane_tells lanes k l (λ m. jobs_in (one_lane m turns)) (λ m. replies_in (one_lane m turns)) old new → ServesBy (lane_tells 0) k l (jobs_in turns) (replies_in turns) old new
one_lane_serves lane_tells lanes k l turns old new s = at_lane lane_tells k l turns old new s.lane s.by_lane
