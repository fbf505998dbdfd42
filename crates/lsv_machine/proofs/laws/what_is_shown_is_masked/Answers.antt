use Rattle.lsv_machine.proofs.Shown.{Masks, shown_delays, shown_masked, shown_plain}
use Rattle.lsv_machine.proofs.laws.what_is_shown_is_masked.Goals as goal

pub returns : goal.returns
returns c =
    let by = c.a_cut_ends_at_the_first_record_of_its_point.ensures.delays in
    let masks : Masks = record {
      prefix = c.a_prefix_is_masked_by_itself.ensures.prefix;
      more = c.a_prefix_is_masked_by_itself.ensures.more;
      covers = c.masking_keeps_what_it_is_judged_by.ensures.covered;
      delays = c.masking_keeps_all_but_what_is_typed.ensures.delays;
      no_texts = c.masking_keeps_all_but_what_is_typed.ensures.no_texts;
    } in
    record { delays = shown_delays by; plain = shown_plain by masks; masked = shown_masked by masks }
