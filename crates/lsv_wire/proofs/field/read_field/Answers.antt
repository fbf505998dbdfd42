use Rattle.lsv_wire.proofs.Lists.{end_read, forward_read, number_read, within_read, fields_read}
use Rattle.lsv_wire.proofs.field.read_field.Goals as goal

pub returns : goal.returns
returns c = record {
  exact = c.next_field.ensures;
  end = end_read _ _ _ c.requires c.next_field.ensures;
  forward = forward_read _ _ _ c.next_field.ensures;
  number = number_read _ _ _ c.next_field.ensures;
  within = within_read _ _ _ c.next_field.ensures;
  fields = fields_read _ _ _ c.next_field.ensures;
}
