-- What is known of an endpoint's type, and of a lane's, from its parts: for the clauses of closures.
use Rattle.std.specs.Prelude.{ℕ, List}
use Rattle.lsv_session.specs.declared.job.Job.{Job}
use Rattle.lsv_session.specs.declared.reply.Reply.{Reply}
use Rattle.lsv_links.specs.Views.{PortView}
use Rattle.lsv_turn.specs.Turns.{LaneTurn}
use Rattle.lsv_turn.specs.declared.lane.Lane
use Rattle.lsv_reactor.specs.declared.endpoint.Endpoint

abbrev pub words_of : {T : Type 0} (tells Start : Type 0) (begun : Start → PortView) (view : T → PortView) (number lanes : T → ℕ) (made_by : Start → T → (ℕ → List Job) → List Reply → Type 0) (called : T → List (List Job) → Type 0) → Endpoint.Ghosts T
words_of {T} tells Start begun view number lanes made_by called = record { tells = tells; Start = Start; begun = begun; view = view; number = number; lanes = lanes; made_by = made_by; called = called }

abbrev pub lane_words_of : {L : Type 0} (tells Start : Type 0) (made_by : Start → L → List LaneTurn → Type 0) → Lane.Ghosts L
lane_words_of {L} tells Start made_by = record { tells = tells; Start = Start; made_by = made_by }
