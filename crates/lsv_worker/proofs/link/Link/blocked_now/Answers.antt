use Rattle.std.proofs.Common.{◌≡◌, true, false, sym, ◌∙◌, rules}
use Rattle.lsv_worker.proofs.link.Link.blocked_now.Goals as goal

pub returns-then-not-is_owed-clause-unblocked : goal.returns-then-not-is_owed-clause-unblocked
returns-then-not-is_owed-clause-unblocked c = λ e. let not : c.is_owed.result ≡ false = search rules in c.is_owed.ensures.no not

pub returns-then-not-is_owed-clause-reason : goal.returns-then-not-is_owed-clause-reason
returns-then-not-is_owed-clause-reason c = λ before after refused_before refused_after. tt

pub returns-then-is_out_of_memory-clause-reason : goal.returns-then-is_out_of_memory-clause-reason
returns-then-is_out_of_memory-clause-reason c = λ before after refused_before refused_after. sym c.is_out_of_memory.ensures ∙ c.if-is_out_of_memory.true

pub returns-then-is_output_full-clause-reason : goal.returns-then-is_output_full-clause-reason
returns-then-is_output_full-clause-reason c = λ before after refused_before refused_after. c.is_output_full.ensures.yes c.if-is_output_full.true

pub returns-clause-may : goal.returns-clause-may
returns-clause-may c = λ e.
    let is : c.is_owed.result ≡ true = search rules in
    let owed = c.is_owed.ensures.yes is in
    record { live = owed.0; owed = owed.1; well = sym c.is_out_of_memory.ensures ∙ c.if-is_out_of_memory.false; light = c.is_output_full.ensures.no c.if-is_output_full.false }
