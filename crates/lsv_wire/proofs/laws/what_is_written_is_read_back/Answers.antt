use Rattle.lsv_wire.proofs.ReadBack.{varint_at-varint}
use Rattle.lsv_wire.proofs.FieldsBack.{fields_from-number, fields_from-bytes, fields_from-end}
use Rattle.lsv_wire.proofs.laws.what_is_written_is_read_back.Goals as goal

pub returns : goal.returns
returns c = record { varint = varint_at-varint; number = fields_from-number; bytes = fields_from-bytes; end = fields_from-end }
