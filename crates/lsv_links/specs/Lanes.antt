-- Which lane the jobs of a connection go to.
use Rattle.std.specs.Prelude.{◌==◌, ℕ, zero, suc, ◌-◌, ◌%◌, Bool, true, false, if◌then◌else◌, Option, Some, None, List, [], ◌∷◌}
use Rattle.lsv_base.specs.LogNo.{log_no_in}
use Rattle.lsv_msg.specs.declared.messages.ClientMessage.{ClientMessage}
use Rattle.lsv_msg.specs.declared.messages.ClientMessage.TheVariants as client
use Rattle.lsv_session.specs.declared.job.Body.{Body}
use Rattle.lsv_session.specs.declared.job.Body.TheVariants.{Msg, Bad, Gone}

-- whether a message is a hello
abbrev pub is_hello_message : ClientMessage → Bool
is_hello_message (client.Accept m) = false
is_hello_message (client.Reject m) = false
is_hello_message (client.Exit m) = false
is_hello_message (client.Restart m) = false
is_hello_message (client.Alert m) = false
is_hello_message (client.Ttyin m) = false
is_hello_message (client.Ttyout m) = false
is_hello_message (client.Stdin m) = false
is_hello_message (client.Stdout m) = false
is_hello_message (client.Stderr m) = false
is_hello_message (client.Winsize m) = false
is_hello_message (client.Suspend m) = false
is_hello_message (client.Hello m) = true

-- whether a job is a hello
abbrev pub is_hello : Body → Bool
is_hello (Msg m) = is_hello_message m
is_hello (Bad fault) = false
is_hello Gone = false

-- the lane of the log that a restart asks for: log n belongs to lane (n - 1) mod lanes
abbrev pub lane_of_log : ℕ → ℕ → Option ℕ → ℕ
lane_of_log lanes home None = home
lane_of_log lanes home (Some n) = (n - 1) % lanes

-- the lane by a message: a restart's is that of its log, if it names one, and any other's is the home lane
abbrev pub lane_by_message : ℕ → ℕ → ClientMessage → ℕ
lane_by_message lanes home (client.Accept m) = home
lane_by_message lanes home (client.Reject m) = home
lane_by_message lanes home (client.Exit m) = home
lane_by_message lanes home (client.Restart m) = lane_of_log lanes home (log_no_in m.log_id)
lane_by_message lanes home (client.Alert m) = home
lane_by_message lanes home (client.Ttyin m) = home
lane_by_message lanes home (client.Ttyout m) = home
lane_by_message lanes home (client.Stdin m) = home
lane_by_message lanes home (client.Stdout m) = home
lane_by_message lanes home (client.Stderr m) = home
lane_by_message lanes home (client.Winsize m) = home
lane_by_message lanes home (client.Suspend m) = home
lane_by_message lanes home (client.Hello m) = home

-- the lane by a job
abbrev pub lane_by : ℕ → ℕ → Body → ℕ
lane_by lanes home (Msg m) = lane_by_message lanes home m
lane_by lanes home (Bad fault) = home
lane_by lanes home Gone = home

-- The lane of a connection with these jobs: its first job decides it, or its second if the first is a hello. None if
-- it isn't decided yet.
abbrev pub lane_of : ℕ → ℕ → List Body → Option ℕ
lane_of lanes home [] = None
lane_of lanes home (first ∷ []) = if is_hello first then None else Some (lane_by lanes home first)
lane_of lanes home (first ∷ second ∷ later) = Some (if is_hello first then lane_by lanes home second else lane_by lanes home first)

-- what of a connection's jobs goes to a lane, if this is the connection's: all, or nothing
abbrev pub share : Option ℕ → ℕ → List Body → List Body
share None lane bodies = []
share (Some n) lane bodies = if lane == n then bodies else []

-- what a lane has, if this is all that the one lane of a server has: lane 0 has it, and the others have nothing
abbrev pub one_lane : {A : Type 0} → ℕ → List A → List A
one_lane zero all = all
one_lane (suc lane) all = []
