-- What the words ask for, by what clap found of them.
use Rattle.std.proofs.Common.{◌≡◌, ◌∙◌, Result, Err, ap, map, option_map, sym}
use Rattle.std.specs.String.{string_bytes}
use Rattle.clap.specs.Words.{found_of, rows_of}
use Rattle.lsv_args.specs.declared.command.ArgFault.{ArgFault}
use Rattle.lsv_args.specs.declared.command.ArgFault.TheVariants as faults
use Rattle.lsv_replay_args.specs.Asked.{manner_in}
use Rattle.lsv_replay_args.specs.declared.request.Task.{Task}
use Rattle.lsv_replay_args.proofs.Asks.{asks_task, none_there, refused_manner, refused_task, same_err}
use Rattle.lsv_replay_args.proofs.request.read_request.Goals as goal

pub returns-in_default-clause-usage : goal.returns-in_default-clause-usage
returns-in_default-clause-usage c usage =
    let same = ap (map (λ t. t.now)) c.as_slice-2.ensures.value ∙ c.in_ok-texts.ensures ∙ c.as_slice.ensures in
    refused_manner c.args.words.now (map (λ t. t.now) c.as_slice-2.result.now) (rows_of (found_of c.in_ok-found.found)) same c.in_ok-found.ensures.rows
    (ap (option_map manner_in) (sym (none_there c.options_of.result c.in_default.not-Some)) ∙ c.options_of.ensures)

pub returns-in_err-task-clause-usage : goal.returns-in_err-task-clause-usage
returns-in_err-task-clause-usage c usage =
    let same = ap (map (λ t. t.now)) c.as_slice-2.ensures.value ∙ c.in_ok-texts.ensures ∙ c.as_slice.ensures in
    let at : c.in_err-task.field-0.0 ≡ faults.Usage = same_err c.from_residual-in_err-task.result c.in_err-task.field-0.0 faults.Usage c.from_residual-in_err-task.ensures.1 usage in
    refused_task c.args.words.now (map (λ t. t.now) c.as_slice-2.result.now) (rows_of (found_of c.in_ok-found.found)) same c.in_ok-found.ensures.rows (manner_in c.in-Some.options) c.in-Some.ensures
    (c.in_err-task.ensures.usage (ap (λ (x : ArgFault). let y : Result Task ArgFault = Err x in y) at))

pub returns-clause-ok : goal.returns-clause-ok
returns-clause-ok c =
    let same = ap (map (λ t. t.now)) c.as_slice-2.ensures.value ∙ c.in_ok-texts.ensures ∙ c.as_slice.ensures in
    asks_task c.args.words.now (map (λ t. t.now) c.as_slice-2.result.now) (rows_of (found_of c.in_ok-found.found)) same c.in_ok-found.ensures.rows (manner_in c.in-Some.options)
    (string_bytes c.in_ok-dir.dir) c.in_ok-task.task c.in-Some.ensures c.in_ok-task.ensures.ok (c.in_ok-dir.ensures.ok ∙ c.dir_of-dir.ensures)
