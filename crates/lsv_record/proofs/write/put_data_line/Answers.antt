use Rattle.std.proofs.Common.{arith, lit≤}
use Rattle.lsv_record.proofs.Lengths.{long_number}
use Rattle.lsv_record.proofs.write.put_data_line.Goals as goal

pub write_digits-rest-requires : goal.write_digits-rest-requires
write_digits-rest-requires c = (omega (arith, long_number c.args.count), lit≤ tt)

pub write_start-at-requires-clause-room : goal.write_start-at-requires-clause-room
write_start-at-requires-clause-room c = omega (arith, long_number c.args.count)
