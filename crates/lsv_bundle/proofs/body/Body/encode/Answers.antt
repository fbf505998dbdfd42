use Rattle.std.proofs.Common.{ℕ, List, ◌∷◌, ◌∙◌, ap, map}
use Rattle.std.specs.List.{concat}
use Rattle.std.proofs.lemmas.List.{append-nil}
use Rattle.lsv_bundle.specs.Body.{number, encoded}
use Rattle.lsv_bundle.proofs.body.Body.encode.Goals as goal

pub returns : goal.returns
unfolding encoded
returns c =
    ap (λ (l : List ℕ). c.args.self.now.kind ∷ l)
    (append-nil c.put_numbers.new.bytes ∙ c.put_numbers.ensures ∙ ap (λ (l : List ℕ). concat (map number l)) c.numbers.ensures)
