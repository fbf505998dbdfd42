use Rattle.std.proofs.Common.{refl}
use Rattle.lsv_mask.proofs.Covers.{hot_more}
use Rattle.lsv_mask.proofs.Prompts.{prompted_by}
use Rattle.lsv_mask.proofs.laws.a_password_is_awaited_behind_a_prompt.Goals as goal

pub returns : goal.returns
returns c = record { none = λ texts. refl; more = hot_more; prompted = prompted_by }
