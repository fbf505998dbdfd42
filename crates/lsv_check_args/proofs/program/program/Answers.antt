use Rattle.std.proofs.lemmas.Result.{IfOk-weaker}
use Rattle.clap.specs.Simple.{new_app}
use Rattle.std.proofs.Common.{codes}
use Rattle.lsv_replay_args.specs.Program.{flag, value}
use Rattle.lsv_replay_args.proofs.Building.{IsMade, set_up, with_arg}
use Rattle.lsv_check_args.specs.Program.{bare, ids, long_flag}
use Rattle.lsv_check_args.proofs.program.program.Goals as goal

pub returns : goal.returns
returns c =
    let made : IsMade c.new.result (new_app (codes "sudo_logcheck")) = record { app = c.new.ensures.app; local = c.new.ensures.local } in
    let top = set_up c.new.result c.no_binary_name.result c.disable_help_flag.result c.disable_version_flag.result _ made c.no_binary_name.ensures c.disable_help_flag.ensures c.disable_version_flag.ensures in
    let one = with_arg c.disable_version_flag.result c.in_ok-arg.field-0 c.value.result bare (value (codes "dir") 100) top c.value.ensures.rule c.value.ensures.local c.in_ok-arg.ensures in
    let two = with_arg c.in_ok-arg.field-0 c.in_ok-arg-2.field-0 c.value-2.result _ (value (codes "events") 101) one c.value-2.ensures.rule c.value-2.ensures.local c.in_ok-arg-2.ensures in
    let three = with_arg c.in_ok-arg-2.field-0 c.in_ok-arg-3.field-0 c.flag.result _ (flag (codes "quiet") 113) two c.flag.ensures.rule c.flag.ensures.local c.in_ok-arg-3.ensures in
    let four = with_arg c.in_ok-arg-3.field-0 c.in_ok-arg-4.field-0 c.long_flag.result _ (long_flag (codes "json")) three c.long_flag.ensures.rule c.long_flag.ensures.local c.in_ok-arg-4.ensures in
    let five = with_arg c.in_ok-arg-4.field-0 c.in_ok-arg-5.field-0 c.long_flag-2.result _ (long_flag (codes "digest")) four c.long_flag-2.ensures.rule c.long_flag-2.ensures.local c.in_ok-arg-5.ensures in
    IfOk-weaker c.arg-6.result _ _ (λ r h. (with_arg c.in_ok-arg-5.field-0 r c.ids.result _ ids five c.ids.ensures.rule c.ids.ensures.local h).app) c.arg-6.ensures
