use Rattle.lsv_msg.proofs.Back.{WrittenIsRead}
use Rattle.lsv_msg.proofs.Tables.{client_again, server_again}
use Rattle.lsv_msg.proofs.laws.a_written_message_is_read_back.Goals as goal

pub returns : goal.returns
returns c =
    let w : WrittenIsRead = record {
      varint = c.what_is_written_is_read_back.ensures.varint;
      number = c.what_is_written_is_read_back.ensures.number;
      bytes = c.what_is_written_is_read_back.ensures.bytes;
      end = c.what_is_written_is_read_back.ensures.end;
    } in
    record { client = client_again w; server = server_again w }
