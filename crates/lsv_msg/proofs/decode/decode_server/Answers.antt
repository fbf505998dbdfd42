use Rattle.std.proofs.Common.{length}
use Rattle.lsv_msg.specs.Fitting.{FitsServer, ServerWithin}
use Rattle.lsv_msg.proofs.Decoded.{server_fits}
use Rattle.lsv_msg.proofs.Refusals.{given_message, given_refusal, given_good}
use Rattle.lsv_msg.proofs.decode.decode_server.Goals as goal

pub returns : goal.returns
returns c = record {
  message = given_message _ _ c.server_in.ensures;
  fits = given_good FitsServer _ _ c.server_in.ensures (λ m e. (server_fits c.args.b.now m e).0);
  within = given_good (ServerWithin (length c.args.b.now)) _ _ c.server_in.ensures (λ m e. (server_fits c.args.b.now m e).1);
  refused = given_refusal _ _ c.server_in.ensures;
}
