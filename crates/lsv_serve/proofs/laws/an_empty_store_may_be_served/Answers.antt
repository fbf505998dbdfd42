use Rattle.std.proofs.Common.{◌≡◌, ℕ, refl, ap, inr, None}
use Rattle.std.specs.Option.{option_map}
use Rattle.lsv_disk.specs.View.{Image}
use Rattle.lsv_disk.specs.declared.file.FileId.{FileId}
use Rattle.lsv_journal.proofs.Laws.{absent_last}
use Rattle.lsv_seq.specs.Drawn.{entry_at, numbers_file}
use Rattle.lsv_seq.specs.Entry.{entry_in}
use Rattle.lsv_serve.proofs.laws.an_empty_store_may_be_served.Goals as goal

no_entry : (lane : ℕ) (image : Image) → ((file : FileId) → image file ≡ None) → entry_at lane image ≡ None
no_entry lane image bare = ap (option_map entry_in) (absent_last 12 (numbers_file lane) image (bare _, bare _))

pub returns : goal.returns
returns g c = λ disk bare lane lanes last e. record {
  told = λ image is. (0, inr (no_entry lane image (bare image is), refl));
  none_above = λ a b last n is it drawn own above file of. bare b it file;
}
