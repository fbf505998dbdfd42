use Rattle.std.proofs.Common.{◌≡◌, ◌-◌, ◌≤◌, length}
use Rattle.lsv_wire.specs.Fields.{fields_of, fields_from}
use Rattle.lsv_msg.specs.Format.{judged}
use Rattle.lsv_msg.proofs.fields.take_all.Given as goal

-- the fields that are left, after what is known by now, are judged as all fields are
abbrev pub invariant-loop-field : goal.invariant-loop-field
invariant-loop-field g l = record {
  within : l.at ≤ length l.bytes;
  same : judged (g.F.Fields.format.take l.bytes) l.bytes l.at (g.F.Fields.state l.fields) (fields_from l.bytes l.at).fields (fields_from l.bytes l.at).fault
      ≡ judged (g.F.Fields.format.take l.bytes) l.bytes 0 (g.F.Fields.state l.fn.fields) (fields_of l.bytes).fields (fields_of l.bytes).fault;
}

abbrev pub decreases-loop-field : goal.decreases-loop-field
decreases-loop-field g l = length l.bytes - l.at
