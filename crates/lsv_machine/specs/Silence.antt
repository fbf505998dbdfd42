-- To whom answers go, and to whom nothing is said.
use Rattle.std.specs.Prelude.{◌≡◌, ◌≢◌, false, List, [], ◌∷◌}
use Rattle.lsv_request.specs.declared.refusal.Refusal.TheVariants.{DeviceFault}
use Rattle.lsv_session.specs.declared.connection.ConnId.{ConnId}
use Rattle.lsv_session.specs.declared.connection.ConnState.TheVariants.{Dead}
use Rattle.lsv_session.specs.declared.job.Body.TheVariants as body
use Rattle.lsv_machine.specs.Answers.{Answer, Saying.Error, Saying.Shut}
use Rattle.lsv_machine.specs.Machine.{Machine}
use Rattle.lsv_machine.specs.Turns.{Happened, Happened.Did, Happened.Tailed, Happened.Begins}

-- none of these answers tells of a device fault
abbrev pub NoFault : List Answer → Type 0
NoFault [] = Unit {0}
NoFault (a ∷ answers) = (a.says ≢ Error DeviceFault) × NoFault answers

-- all of these answers go to the connection
abbrev pub AllTo : ConnId → List Answer → Type 0
AllTo k [] = Unit {0}
AllTo k (a ∷ answers) = (a.conn ≡ k) × AllTo k answers

-- none of these answers goes to the connection
abbrev pub NoneTo : ConnId → List Answer → Type 0
NoneTo k [] = Unit {0}
NoneTo k (a ∷ answers) = (a.conn ≢ k) × NoneTo k answers

-- in this history nothing is said to the connection
abbrev pub NothingTo : ConnId → List Happened → Type 0
NothingTo k [] = Unit {0}
NothingTo k (Did act ∷ history) = NoneTo k act.answers × NothingTo k history
NothingTo k (Tailed tail ∷ history) = NoneTo k tail.answers × NothingTo k history
NothingTo k (Begins texts ∷ history) = NothingTo k history

-- in this history the connection has no job
abbrev pub NoJobs : ConnId → List Happened → Type 0
NoJobs k [] = Unit {0}
NoJobs k (Did act ∷ history) = (act.job.conn ≢ k) × NoJobs k history
NoJobs k (Tailed tail ∷ history) = NoJobs k history
NoJobs k (Begins texts ∷ history) = NoJobs k history

-- in this history the connection has no job after its Gone
abbrev pub EndsWithGone : ConnId → List Happened → Type 0
EndsWithGone k [] = Unit {0}
EndsWithGone k (Did act ∷ history) = (act.job.conn ≡ k → act.job.body ≡ body.Gone → NoJobs k history) × EndsWithGone k history
EndsWithGone k (Tailed tail ∷ history) = EndsWithGone k history
EndsWithGone k (Begins texts ∷ history) = EndsWithGone k history

-- a connection that one of these answers shuts, but for the Shut that a Gone itself gets, is dead
abbrev pub ShutsAreDead : Machine → List Answer → Type 0
ShutsAreDead m [] = Unit {0}
ShutsAreDead m (a ∷ answers) = (a.says ≡ Shut → a.last ≡ false → m.states a.conn ≡ Dead) × ShutsAreDead m answers
