use Rattle.std.proofs.lemmas.Result.{IfOk-weaker}
use Rattle.clap.specs.Simple.{new_app}
use Rattle.std.proofs.Common.{codes}
use Rattle.lsv_replay_args.specs.Program.{flag, value}
use Rattle.lsv_replay_args.proofs.Building.{IsMade, set_up, with_arg}
use Rattle.lsv_send_args.specs.Program.{bare, number}
use Rattle.lsv_send_args.proofs.program.program.Goals as goal

pub returns : goal.returns
returns c =
    let made : IsMade c.new.result (new_app (codes "sudo_sendlog")) = record { app = c.new.ensures.app; local = c.new.ensures.local } in
    let top = set_up c.new.result c.no_binary_name.result c.disable_help_flag.result c.disable_version_flag.result _ made c.no_binary_name.ensures c.disable_help_flag.ensures c.disable_version_flag.ensures in
    let one = with_arg c.disable_version_flag.result c.in_ok-arg.field-0 c.value.result bare (value (codes "dir") 100) top c.value.ensures.rule c.value.ensures.local c.in_ok-arg.ensures in
    let two = with_arg c.in_ok-arg.field-0 c.in_ok-arg-2.field-0 c.value-2.result _ (value (codes "host") 104) one c.value-2.ensures.rule c.value-2.ensures.local c.in_ok-arg-2.ensures in
    let three = with_arg c.in_ok-arg-2.field-0 c.in_ok-arg-3.field-0 c.value-3.result _ (value (codes "port") 112) two c.value-3.ensures.rule c.value-3.ensures.local c.in_ok-arg-3.ensures in
    let four = with_arg c.in_ok-arg-3.field-0 c.in_ok-arg-4.field-0 c.value-4.result _ (value (codes "id") 105) three c.value-4.ensures.rule c.value-4.ensures.local c.in_ok-arg-4.ensures in
    let five = with_arg c.in_ok-arg-4.field-0 c.in_ok-arg-5.field-0 c.value-5.result _ (value (codes "resume") 114) four c.value-5.ensures.rule c.value-5.ensures.local c.in_ok-arg-5.ensures in
    let six = with_arg c.in_ok-arg-5.field-0 c.in_ok-arg-6.field-0 c.value-6.result _ (value (codes "stop") 115) five c.value-6.ensures.rule c.value-6.ensures.local c.in_ok-arg-6.ensures in
    let seven = with_arg c.in_ok-arg-6.field-0 c.in_ok-arg-7.field-0 c.flag.result _ (flag (codes "accept") 65) six c.flag.ensures.rule c.flag.ensures.local c.in_ok-arg-7.ensures in
    let eight = with_arg c.in_ok-arg-7.field-0 c.in_ok-arg-8.field-0 c.value-7.result _ (value (codes "reject") 82) seven c.value-7.ensures.rule c.value-7.ensures.local c.in_ok-arg-8.ensures in
    IfOk-weaker c.arg-9.result _ _ (λ r h. (with_arg c.in_ok-arg-8.field-0 r c.number.result _ number eight c.number.ensures.rule c.number.ensures.local h).app) c.arg-9.ensures
