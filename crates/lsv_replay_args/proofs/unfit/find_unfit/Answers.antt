use Rattle.std.proofs.Common.{◌≡◌, ◌∙◌, ap, map}
use Rattle.clap.specs.Words.{found_of, rows_of}
use Rattle.lsv_replay_args.proofs.Unfits.{unfit_of}
use Rattle.lsv_replay_args.proofs.unfit.find_unfit.Goals as goal

pub returns-clause-unfit : goal.returns-clause-unfit
returns-clause-unfit c =
    let same = ap (map (λ t. t.now)) c.as_slice-2.ensures.value ∙ c.in_ok-texts.ensures ∙ c.as_slice.ensures in
    unfit_of c.args.words.now (map (λ t. t.now) c.as_slice-2.result.now) (rows_of (found_of c.in_ok-found.found)) c.in_ok-unfit_in.field-0 same c.in_ok-found.ensures.rows c.in_ok-unfit_in.ensures
