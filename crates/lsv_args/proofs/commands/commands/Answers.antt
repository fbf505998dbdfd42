use Rattle.std.proofs.lemmas.Result.{IfOk-weaker}
use Rattle.clap.specs.Simple.{new_app}
use Rattle.std.proofs.Common.{codes}
use Rattle.lsv_args.specs.Commands.{check, load, once, program, relay, serve}
use Rattle.lsv_args.proofs.Building.{IsMade, set_up, with_sub}
use Rattle.lsv_args.proofs.commands.commands.Goals as goal

pub returns : goal.returns
returns c =
    let made : IsMade c.new.result (new_app (codes "sudo_logsrvd")) = record { app = c.new.ensures.app; local = c.new.ensures.local } in
    let top = set_up c.new.result c.no_binary_name.result c.disable_help_flag.result c.disable_help_subcommand.result c.disable_version_flag.result c.subcommand_required.result _ made
    c.no_binary_name.ensures c.disable_help_flag.ensures c.disable_help_subcommand.ensures c.disable_version_flag.ensures c.subcommand_required.ensures in
    let first = with_sub c.subcommand_required.result c.in_ok-once.field-0 c.in_ok-subcommand.field-0 program once top (record { app = c.in_ok-once.ensures.0; local = c.in_ok-once.ensures.1 }) c.in_ok-subcommand.ensures in
    let second = with_sub c.in_ok-subcommand.field-0 c.in_ok-serve.field-0 c.in_ok-subcommand-2.field-0 _ serve first (record { app = c.in_ok-serve.ensures.0; local = c.in_ok-serve.ensures.1 }) c.in_ok-subcommand-2.ensures in
    let third = with_sub c.in_ok-subcommand-2.field-0 c.in_ok-load.field-0 c.in_ok-subcommand-3.field-0 _ load second (record { app = c.in_ok-load.ensures.0; local = c.in_ok-load.ensures.1 }) c.in_ok-subcommand-3.ensures in
    let fourth = with_sub c.in_ok-subcommand-3.field-0 c.in_ok-relay.field-0 c.in_ok-subcommand-4.field-0 _ relay third (record { app = c.in_ok-relay.ensures.0; local = c.in_ok-relay.ensures.1 }) c.in_ok-subcommand-4.ensures in
    IfOk-weaker c.subcommand-5.result _ _ (λ r h. (with_sub c.in_ok-subcommand-4.field-0 c.in_ok-check.field-0 r _ check fourth (record { app = c.in_ok-check.ensures.0; local = c.in_ok-check.ensures.1 }) h).app) c.subcommand-5.ensures
