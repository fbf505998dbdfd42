-- What was done with the links of a port that was served, up to some point.
use Rattle.std.proofs.Common.{◌≡◌, ◌++◌, [], ℕ, Bool, List, Option, Some, None, sym, ap, ◌∙◌, append_assoc, append-nil}
use Rattle.lsv_session.specs.Transcript.{AreFirst}
use Rattle.lsv_session.specs.declared.job.Body.{Body}
use Rattle.lsv_session.specs.declared.job.Job.{Job}
use Rattle.lsv_session.specs.declared.reply.Reply.{Reply}
use Rattle.lsv_links.specs.Links.{Brings, BringsSome, IsPut, IsServed, PutsPrefixes, ServesLink, ServesPort, conn_of}
use Rattle.lsv_links.specs.Views.{PortView}

-- the first of what a connection brought
pub brings_first : (input : List ℕ) (part all : List Body) → AreFirst part all → BringsSome input all → BringsSome input part
brings_first input part all f b = record {
  heard = b.heard;
  starved = b.starved;
  first = (f.0 ++ b.first.0, b.first.1 ∙ ap (λ (l : List Body). l ++ b.first.0) f.1 ∙ append_assoc part f.0 b.first.0);
  at_most = b.at_most;
  jobs = b.jobs;
  of_input = b.of_input;
  of_jobs = b.of_jobs;
}

-- all that a connection brought is the first of it
pub brings_some : (input : List ℕ) (shut : Bool) (bodies : List Body) → Brings input shut bodies → BringsSome input bodies
brings_some input shut bodies b = record {
  heard = b.heard;
  starved = b.starved;
  first = ([], sym b.are ∙ sym (append-nil bodies));
  at_most = b.at_most;
  jobs = b.jobs;
  of_input = b.of_input;
  of_jobs = b.first;
}

some_is : (a b : ℕ) → Some a ≡ Some b → a ≡ b
some_is a b e = cc

put_at : (lane_tells : ℕ → Type 0) (lanes worker l : ℕ) (seat : Option ℕ) (jobs : ℕ → List Job) (replies : ℕ → List Reply) (old new : PortView) → IsServed lane_tells lanes worker l seat jobs replies old new → IsPut lanes worker l seat jobs replies new.state
put_at lane_tells lanes worker l None jobs replies old new s = s
put_at lane_tells lanes worker l (Some seq) jobs replies old new s =
    let t : ServesLink lane_tells lanes (conn_of worker seq) l jobs replies old new = s in
    record { lane = t.lane; decided = λ m e. some_is m t.lane (sym e ∙ t.decided); brought = brings_some _ _ _ t.by_lane.brings; elsewhere = t.elsewhere; prefix = t.by_lane.prefix }

-- a port whose links were served to their ends was served up to some point
pub served_prefixes : (lane_tells : ℕ → Type 0) (lanes worker : ℕ) (jobs : ℕ → List Job) (replies : ℕ → List Reply) (old new : PortView) → ServesPort lane_tells lanes worker jobs replies old new → PutsPrefixes lanes worker jobs replies old new
served_prefixes lane_tells lanes worker jobs replies old new s = record {
  seats = s.seats;
  closed = s.closed;
  put = λ l opened. put_at lane_tells lanes worker l (s.seats.seat l) jobs replies old new (s.served l opened);
  known = s.known;
  goes_on = s.goes_on;
}
