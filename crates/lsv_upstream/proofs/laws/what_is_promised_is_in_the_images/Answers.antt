use Rattle.lsv_upstream.proofs.Images.{image_holds}
use Rattle.lsv_upstream.proofs.laws.what_is_promised_is_in_the_images.Goals as goal

pub returns : goal.returns
returns c = record { images = image_holds; plain = c.what_is_shown_is_masked.ensures.plain }
