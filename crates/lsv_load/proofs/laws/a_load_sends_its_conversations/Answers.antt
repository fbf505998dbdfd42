use Rattle.std.proofs.Common.{◌≡◌, ◌∙◌, ◌⊎◌, inl, inr, ◌<◌, ℕ, subst, sym, arith}
use Rattle.lsv_port.specs.Memory.Script.{sent_by, unsent}
use Rattle.lsv_load.specs.Load.{load_script}
use Rattle.lsv_load.proofs.Sending.{above, at_zero, tells_all, with_stop, within}
use Rattle.lsv_load.proofs.laws.a_load_sends_its_conversations.Goals as goal

others : (count l : ℕ) → (l ≡ 0) ⊎ (count < l) → sent_by l (load_script count) ≡ unsent
others count l (inl none) = subst (λ (k : ℕ). sent_by k (load_script count) ≡ unsent) (sym none) (with_stop 0 count ∙ at_zero count)
others count l (inr less) = with_stop l count ∙ above l count less

pub returns : goal.returns
returns c = record { sent = λ count l most first last. with_stop l count ∙ within l count first last (omega arith); others = others; whole = tells_all }
