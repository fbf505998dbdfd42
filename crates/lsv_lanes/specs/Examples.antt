-- Small cases that show what the definitions say: two lanes, and log 1, which is of lane 0.
use Rattle.std.specs.Prelude.{ℕ, zero, suc, false, List, [], ◌∷◌}
use Rattle.lsv_msg.specs.declared.messages.ClientMessage.TheVariants as client
use Rattle.lsv_session.specs.declared.job.Body.{Body}
use Rattle.lsv_session.specs.declared.job.Body.TheVariants.{Msg}
use Rattle.lsv_machine.specs.Examples.{accepts, did, one_byte, promising, restarts, starting}
use Rattle.lsv_machine.specs.Machine.{LogState.Absent, Machine, Settings}
use Rattle.lsv_machine.specs.Turns.{Happened, Happened.Begins, Happened.Did}

-- a connection opens a log, and then asks for log 1
abbrev pub opens_then_asks : List Body
opens_then_asks = (accepts 1).body ∷ (restarts 1).body ∷ []

-- a connection says hello, and then asks for log 1
abbrev pub greets_then_asks : List Body
greets_then_asks = Msg (client.Hello (record { client_id = [] })) ∷ (restarts 2).body ∷ []

-- in a run of each lane a connection goes on with log 1
abbrev pub both_go_on : (lane : ℕ) → List Happened
both_go_on lane = Begins [] ∷ Did (did (restarts lane) []) ∷ []

-- ---- A connection of lane 1 goes on with log 1

-- a lane of two, whose exits have no event lines, and whose lines are empty
abbrev pub of_two : (lane : ℕ) → Settings
of_two lane = record { lane = lane; lanes = 2; log_exit = false; line_of = λ now k asked log. [] }

-- lane 0 has log 1, with a record that ends at 1 ns, and lane 1 has none
abbrev pub one_log : (lane : ℕ) → Machine
one_log zero = starting (promising (one_byte 5 ∷ []) 1) 1
one_log (suc lane) = starting Absent 0

-- what happened: connection 1 went on with log 1, in lane 0
abbrev pub went_on : (lane : ℕ) → List Happened
went_on zero = Did (did (restarts 1) []) ∷ []
went_on (suc lane) = []

-- the same with the start of the run
abbrev pub one_goes_on : (lane : ℕ) → List Happened
one_goes_on lane = Begins [] ∷ went_on lane
