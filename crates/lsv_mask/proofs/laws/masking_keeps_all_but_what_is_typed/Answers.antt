use Rattle.lsv_mask.proofs.Covers.{delays_masked, shapes_masked, streams_masked, valid_masked, none_masked}
use Rattle.lsv_mask.proofs.laws.masking_keeps_all_but_what_is_typed.Goals as goal

pub returns : goal.returns
returns c = record { delays = delays_masked; shapes = shapes_masked; streams = streams_masked; valid = valid_masked; no_texts = none_masked }
