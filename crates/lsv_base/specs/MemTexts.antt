-- The texts that an object in memory holds.
use Rattle.std.specs.Prelude.{ℕ, List, Option, find}
use Rattle.std.specs.Str.{bytes_eq}
use Rattle.std.specs.Option.{option_map}
use Rattle.lsv_base.specs.declared.mem_texts.Text.{Text}
use Rattle.lsv_base.specs.declared.script.Script.{Script}

-- the bytes of the first text of this path, where there is one
abbrev pub text_at : List Text → List ℕ → Option (List ℕ)
text_at texts path = option_map (λ text. text.bytes) (find (λ text. bytes_eq text.path path) texts)

-- texts in memory, and how their calls went
pub record TextsState : Type 0 where
  pub texts : List Text
  pub script : Script
