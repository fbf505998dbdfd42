-- What happens at the port of a load.
use Rattle.std.specs.Prelude.{ℕ, zero, suc, true, List, [], ◌∷◌, ◌++◌}
use Rattle.lsv_gen.specs.Load.{conversation}
use Rattle.lsv_port.specs.Memory.Script.{Sent}
use Rattle.lsv_port.specs.declared.step.Step.{Step}
use Rattle.lsv_port.specs.declared.step.Step.TheVariants.{Give, Last, Open, Stop}

-- the link of conversation i is opened, gives its bytes, and ends
abbrev pub link_steps : ℕ → List Step
link_steps i = Open i ∷ Give i (conversation i) ∷ Last i ∷ []

-- so the links of the first n conversations, one after another
abbrev pub all_links : ℕ → List Step
all_links zero = []
all_links (suc n) = all_links n ++ link_steps (suc n)

-- the script of a load of this many conversations: Stop comes last
abbrev pub load_script : ℕ → List Step
load_script n = all_links n ++ Stop ∷ []

-- what is sent on the link of conversation i: its bytes, and their end
abbrev pub whole_sent : ℕ → Sent
whole_sent i = record { opened = true; bytes = conversation i; ended = true }
