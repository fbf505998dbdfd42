-- For proofs of a run of `serve`: ports as endpoints.
use Rattle.std.specs.Prelude.{◌≡◌, ◌⊎◌, ◌++◌, ◌∷◌, ℕ, List, [], Some, false, length, map, slice_get}
use Rattle.std.proofs.Math.ListN.{get_or}
use Rattle.lsv_port.specs.Port.{fresh_link}
use Rattle.lsv_session.specs.declared.job.Job.{Job}
use Rattle.lsv_session.specs.declared.reply.Reply.{Reply}
use Rattle.lsv_links.specs.Views.{PortView}

-- a port of which nothing is known
abbrev pub nothing : PortView
nothing = record { state = record { opened = []; link = λ l. fresh_link (λ m. false); stopped = false; failed = false }; ledger = record { script = []; listens = []; turned = false; deaf = 0; turns = 0; links = λ l. 0 } }

-- what is known of the port at a place
abbrev pub port_at : List PortView → ℕ → PortView
port_at ports i = get_or ports i nothing

-- endpoints of these ports, each numbered by its place, whose jobs go to this many lanes, that have done nothing
pub record ArePosts {T : Type 0} (number lanes : T → ℕ) (made_by : PortView → T → (ℕ → List Job) → List Reply → Type 0) (view : T → PortView) (many : ℕ) (ports : List PortView) (posts : List T) : Type 0 where
  pub count : length posts ≡ length ports
  pub numbered : (i : ℕ) (post : T) → slice_get posts i ≡ Some post → number post ≡ i
  pub laned : (i : ℕ) (post : T) → slice_get posts i ≡ Some post → lanes post ≡ many
  pub made : (i : ℕ) (post : T) → slice_get posts i ≡ Some post → made_by (port_at ports i) post (λ lane. []) []
  pub views : map view posts ≡ ports

-- a port became an endpoint of this number, whose jobs go to this many lanes, the last of them; none was left before
pub record BecomesPost {T P : Type 0} (number lanes : T → ℕ) (made_by : PortView → T → (ℕ → List Job) → List Reply → Type 0) (view : T → PortView) (port_view : P → PortView) (n many : ℕ) (port : P) (posts posts' : List T) (left left' : List P) : Type 0 where
  pub post : T
  pub last : posts' ≡ posts ++ post ∷ []
  pub none : left ≡ []
  pub still : left' ≡ []
  pub numbered : number post ≡ n
  pub laned : lanes post ≡ many
  pub made : made_by (port_view port) post (λ lane. []) []
  pub seen : view post ≡ port_view port

-- the same; or it was left, the last of those
abbrev pub IsSeated : {T P : Type 0} (number lanes : T → ℕ) (made_by : PortView → T → (ℕ → List Job) → List Reply → Type 0) (view : T → PortView) (port_view : P → PortView) → (n many : ℕ) → P → (posts posts' : List T) (left left' : List P) → Type 0
IsSeated {T} {P} number lanes made_by view port_view n many port posts posts' left left' = BecomesPost number lanes made_by view port_view n many port posts posts' left left' ⊎ ((posts' ≡ posts) × (left' ≡ left ++ port ∷ []))
