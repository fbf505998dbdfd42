-- What is out of its form, by what clap found.
use Rattle.std.proofs.Common.{◌≡◌, ◌∙◌, ℕ, List, Option, ap}
use Rattle.clap.specs.Simple.{matches_of}
use Rattle.clap.specs.Walk.{Row}
use Rattle.lsv_replay_args.specs.Program.{program}
use Rattle.lsv_replay_args.specs.Unfit.{unfit_in}
use Rattle.lsv_replay_args.specs.declared.unfit.Unfit.{Unfit}

pub unfit_of : (words texts : List (List ℕ)) (rows : List Row) (u : Option Unfit) → texts ≡ words → rows ≡ matches_of program texts → u ≡ unfit_in rows → u ≡ unfit_in (matches_of program words)
unfit_of words texts rows u same is found = found ∙ ap unfit_in is ∙ ap (λ (ws : List (List ℕ)). unfit_in (matches_of program ws)) same
