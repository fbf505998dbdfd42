use Rattle.lsv_machine.proofs.Chains.{told_drawn}
use Rattle.lsv_keeper.specs.Reading.{reading_of}
use Rattle.lsv_keeper.proofs.laws.a_number_that_was_told_is_drawn.Goals as goal

pub returns : goal.returns
returns g c = λ lane lanes d k h n p last image a fit of_lane is it drawn good told.
    told_drawn (reading_of lane lanes) lane lanes ((g.D.Disk.view d).crash_images_at k) h n p last image a fit of_lane is it drawn good told
