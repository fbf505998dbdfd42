-- What the words ask for, by what clap found of them.
use Rattle.std.proofs.Common.{◌≡◌, ◌∙◌, Result, Ok, Err, ap, map, sym}
use Rattle.clap.specs.Faults.{fault_of}
use Rattle.clap.specs.Words.{found_of, rows_of}
use Rattle.lsv_send_args.specs.Asked.{asked_in}
use Rattle.lsv_send_args.specs.Program.{program}
use Rattle.lsv_send_args.specs.Request.{asked, asked_by}
use Rattle.lsv_send_args.specs.declared.fault.WordsFault.{WordsFault}
use Rattle.lsv_send_args.specs.declared.fault.WordsFault.TheVariants as faults
use Rattle.lsv_send_args.proofs.Asks.{by_rows, moved, on_ok, same_err}
use Rattle.lsv_send_args.proofs.request.read_request.Goals as goal

pub returns-clause-ok : goal.returns-clause-ok
returns-clause-ok c =
    let same = ap (map (λ t. t.now)) c.as_slice-2.ensures.value ∙ c.in_ok-texts.ensures ∙ c.as_slice.ensures in
    let e = by_rows c.args.words.now (map (λ t. t.now) c.as_slice-2.result.now) (rows_of (found_of c.in_ok-found.found)) same c.in_ok-found.ensures.rows in
    moved (asked c.args.words.now) (asked_by (rows_of (found_of c.in_ok-found.found))) (λ r. Ok (asked_in r)) c.request_of.result e c.request_of.ensures.ok

pub returns-clause-taken : goal.returns-clause-taken
returns-clause-taken c =
    let same = ap (map (λ t. t.now)) c.as_slice-2.ensures.value ∙ c.in_ok-texts.ensures ∙ c.as_slice.ensures in
    on_ok c.request_of.result (ap (fault_of program) (sym same) ∙ c.in_ok-found.ensures.taken)

pub returns-clause-unfit : goal.returns-clause-unfit
returns-clause-unfit c = λ u is.
    let same = ap (map (λ t. t.now)) c.as_slice-2.ensures.value ∙ c.in_ok-texts.ensures ∙ c.as_slice.ensures in (
      ap (fault_of program) (sym same) ∙ c.in_ok-found.ensures.taken,
      by_rows c.args.words.now (map (λ t. t.now) c.as_slice-2.result.now) (rows_of (found_of c.in_ok-found.found)) same c.in_ok-found.ensures.rows ∙ c.request_of.ensures.unfit u is,
    )

pub returns-in_err-found-clause-refused : goal.returns-in_err-found-clause-refused
returns-in_err-found-clause-refused c = λ refused none.
    let same = ap (map (λ t. t.now)) c.as_slice-2.ensures.value ∙ c.in_ok-texts.ensures ∙ c.as_slice.ensures in
    let at : c.in_err-found.field-0.0 ≡ faults.Refused = same_err c.from_residual-in_err-found.result c.in_err-found.field-0.0 faults.Refused c.from_residual-in_err-found.ensures.1 refused in
    c.in_err-found.ensures.refused (ap (λ (x : WordsFault). Err x) at) (ap (fault_of program) same ∙ none)
