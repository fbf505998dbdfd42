use Rattle.std.proofs.Common.{arith}
use Rattle.std.proofs.lemmas.Int.{to_z-of_z}
use Rattle.lsv_msg.proofs.FewFields.{nanos_alone, seconds_and_nanos}
use Rattle.lsv_msg.proofs.plain.plain_time.Goals as goal

pub returns-in_default : goal.returns-in_default
returns-in_default c =
    nanos_alone _ _ _ c.in_ok-last_number.ensures (grind (arith, to_z-of_z, c.int32_of-nsec.ensures))

pub returns : goal.returns
returns c =
    seconds_and_nanos _ _ _ _ _ _ c.in-Some.ensures.fields c.in_ok-last_number-2.ensures
    (grind (arith, to_z-of_z, c.cast_signed-sec.ensures)) (grind (arith, to_z-of_z, c.int32_of-nsec-2.ensures))
