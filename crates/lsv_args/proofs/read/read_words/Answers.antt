use Rattle.std.proofs.Common.{◌∙◌, List, Option, ap, map, sym}
use Rattle.std.specs.Option.{option_and_then}
use Rattle.clap.specs.Simple.{subcommand_of}
use Rattle.clap.specs.Walk.{Row, Text}
use Rattle.clap.specs.declared.parser.matches.ArgMatches.TheViews.{out-ArgMatches}
use Rattle.lsv_args.specs.Commands.{commands}
use Rattle.lsv_args.specs.Reading.{Asked, asked_by, asked_in}
use Rattle.std.proofs.lemmas.Result.{IfOk-weaker}
use Rattle.clap.specs.Faults.{fault_of}
use Rattle.lsv_args.proofs.Asked.{found_is, none_found, refused_where_nothing, taken_in_range}
use Rattle.lsv_args.proofs.read.read_words.Goals as goal

asked_of : Option (Text × List Row) → Option Asked
asked_of found = option_and_then (λ (s : Text × List Row). asked_by s.0 s.1) found

pub returns-in-Some-clause-usage : goal.returns-in-Some-clause-usage
unfolding asked_of
returns-in-Some-clause-usage c = λ refused.
    let words = ap (map (λ t. t.now)) c.as_slice-2.ensures.value ∙ c.in_ok-texts.ensures ∙ c.as_slice.ensures in
    let found = found_is (out-ArgMatches c.in_ok-matches.matches).subcommand _ _ c.in-Some.ensures.name c.in-Some.ensures.rows in
    refused_where_nothing c.args.words.now
    (ap (λ ws. asked_of (subcommand_of commands ws)) (sym words) ∙ ap asked_of (sym c.in_ok-matches.ensures.matches ∙ found) ∙ c.command_of.ensures.usage refused)

pub returns-clause-usage : goal.returns-clause-usage
unfolding asked_of
returns-clause-usage c = λ refused.
    let words = ap (map (λ t. t.now)) c.as_slice-2.ensures.value ∙ c.in_ok-texts.ensures ∙ c.as_slice.ensures in
    let found = none_found (out-ArgMatches c.in_ok-matches.matches).subcommand c.in-None.ensures.variant in
    refused_where_nothing c.args.words.now
    (ap (λ ws. asked_of (subcommand_of commands ws)) (sym words) ∙ ap asked_of (sym c.in_ok-matches.ensures.matches ∙ found))

pub returns-in-Some-clause-in_range : goal.returns-in-Some-clause-in_range
unfolding asked_of
returns-in-Some-clause-in_range c =
    let words = ap (map (λ t. t.now)) c.as_slice-2.ensures.value ∙ c.in_ok-texts.ensures ∙ c.as_slice.ensures in
    let found = found_is (out-ArgMatches c.in_ok-matches.matches).subcommand _ _ c.in-Some.ensures.name c.in-Some.ensures.rows in
    IfOk-weaker c.command_of.result _ _ (λ command is. taken_in_range c.args.words.now (asked_in command) (ap (fault_of commands) (sym words) ∙ c.in_ok-matches.ensures.taken)
    (ap (λ ws. asked_of (subcommand_of commands ws)) (sym words) ∙ ap asked_of (sym c.in_ok-matches.ensures.matches ∙ found) ∙ is)) c.command_of.ensures.ok
