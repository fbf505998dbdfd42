-- What the words ask for, by what clap found of them.
use Rattle.std.proofs.Common.{◌∙◌, ap, map}
use Rattle.std.proofs.lemmas.Result.{IfOk-weaker}
use Rattle.clap.specs.Words.{found_of, rows_of}
use Rattle.lsv_check_args.specs.Asked.{asked_in}
use Rattle.lsv_check_args.proofs.Asks.{asks, unfit}
use Rattle.lsv_check_args.proofs.request.request_of_text.Goals as goal

pub returns-clause-ok : goal.returns-clause-ok
returns-clause-ok c =
    let same = ap (map (λ t. t.now)) c.as_slice-2.ensures.value ∙ c.in_ok-texts.ensures ∙ c.as_slice.ensures in
    IfOk-weaker c.request_of.result _ _ (λ r one. asks c.args.words.now (map (λ t. t.now) c.as_slice-2.result.now) (rows_of (found_of c.in_ok-found.found)) same c.in_ok-found.ensures.rows (asked_in r) c.requires c.in_ok-found.ensures.taken one)
    c.request_of.ensures.ok

pub returns-clause-usage : goal.returns-clause-usage
returns-clause-usage c = λ usage.
    let same = ap (map (λ t. t.now)) c.as_slice-2.ensures.value ∙ c.in_ok-texts.ensures ∙ c.as_slice.ensures in
    unfit c.args.words.now (map (λ t. t.now) c.as_slice-2.result.now) (rows_of (found_of c.in_ok-found.found)) same c.in_ok-found.ensures.rows (c.request_of.ensures.usage usage)
