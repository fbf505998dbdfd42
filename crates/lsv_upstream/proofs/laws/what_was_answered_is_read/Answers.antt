use Rattle.std.proofs.Common.{◌++◌, List, ℕ, ap, ◌∙◌}
use Rattle.lsv_upstream.proofs.Heard.{heard_first}
use Rattle.lsv_upstream.proofs.laws.what_was_answered_is_read.Goals as goal

pub returns : goal.returns
returns c = λ answers read input rest frames fits each prefix whole is are. heard_first c.a_written_message_is_read_back.ensures.server answers read frames rest prefix.0 fits each is (prefix.1 ∙ ap (λ (x : List ℕ). x ++ prefix.0) whole) are
