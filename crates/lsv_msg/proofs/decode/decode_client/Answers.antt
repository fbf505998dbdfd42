use Rattle.std.proofs.Common.{length}
use Rattle.lsv_msg.specs.Fitting.{FitsClient, ClientWithin}
use Rattle.lsv_msg.proofs.Decoded.{client_fits}
use Rattle.lsv_msg.proofs.Refusals.{given_message, given_refusal, given_good}
use Rattle.lsv_msg.proofs.decode.decode_client.Goals as goal

pub returns : goal.returns
returns c = record {
  message = given_message _ _ c.client_in.ensures;
  fits = given_good FitsClient _ _ c.client_in.ensures (λ m e. (client_fits c.args.b.now m e).0);
  within = given_good (ClientWithin (length c.args.b.now)) _ _ c.client_in.ensures (λ m e. (client_fits c.args.b.now m e).1);
  refused = given_refusal _ _ c.client_in.ensures;
}
