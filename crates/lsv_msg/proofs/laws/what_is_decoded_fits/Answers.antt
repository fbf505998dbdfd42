use Rattle.lsv_msg.proofs.Decoded.{client_fits, server_fits}
use Rattle.lsv_msg.proofs.laws.what_is_decoded_fits.Goals as goal

pub returns : goal.returns
returns c = record {
  client = λ bytes m e. (client_fits bytes m e).0;
  client_within = λ bytes m e. (client_fits bytes m e).1;
  server = λ bytes m e. (server_fits bytes m e).0;
  server_within = λ bytes m e. (server_fits bytes m e).1;
}
