-- The lane of a connection, while its jobs come.
use Rattle.std.specs.Prelude.{◌≡◌, ℕ, Option, None, List, [], ◌++◌}
use Rattle.std.specs.Option.{unwrap_or}
use Rattle.lsv_session.specs.declared.connection.ConnId.{ConnId}
use Rattle.lsv_session.specs.declared.job.Body.{Body}
use Rattle.lsv_session.specs.declared.job.Job.{Job}
use Rattle.lsv_links.specs.Lanes.{lane_of, share}

-- the number of lanes, the home lane of a connection, and its lane if it is decided
pub record Routing : Type 0 where
  pub lanes : ℕ
  pub home : ℕ
  pub lane : Option ℕ

-- the number of lanes and the home lane stay
pub record KeepsHome (old new : Routing) : Type 0 where
  pub lanes : new.lanes ≡ old.lanes
  pub home : new.home ≡ old.home

-- the lane of a connection with these jobs
abbrev pub lane_on : Routing → List Body → Option ℕ
lane_on route bodies = lane_of route.lanes route.home bodies

-- the lane of a connection, or the home lane if none is decided
abbrev pub lane_or_home : Routing → ℕ
lane_or_home route = unwrap_or route.lane route.home

-- a job of a connection
abbrev pub job_of : ConnId → Body → Job
job_of c body = record { conn = c; body = body }

-- of a connection, the bodies `said` were put, all to its lane; the bodies `coming` are known to come
pub record Routed (route : Routing) (put : ℕ → List Body) (said coming : List Body) : Type 0 where
  pub to_lane : (lane : ℕ) → put lane ≡ share route.lane lane said
  pub undecided : route.lane ≡ None → said ≡ []
  pub lane : route.lane ≡ lane_on route (said ++ coming)
