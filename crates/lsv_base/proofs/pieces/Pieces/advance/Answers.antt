use Rattle.std.proofs.Common.{◌≡◌, ◌+◌, ◌<◌, [], length, get_or, drop, arith, sym, ap, ◌∙◌, length-drop}
use Rattle.std.proofs.lemmas.Grind.{common_steps}
use Rattle.lsv_base.specs.MemSource.{from_filled, first_piece, without_front}
use Rattle.lsv_base.proofs.Filled.{first_piece-drop, from_filled-left}
use Rattle.lsv_base.proofs.pieces.Pieces.advance.Goals as goal

pub overflow_add-self : goal.overflow_add-self
overflow_add-self c =
    let p = c.self.inside in
    let is : c.as_slice-piece.result.now ≡ get_or p.pieces p.place [] = grind (arith, common_steps) in
    let first : length (first_piece c.args.self.now) ≡ length (drop p.at (get_or p.pieces p.place [])) =
    ap (λ v. length (first_piece v)) (sym c.self.view_is) ∙ ap length (first_piece-drop p.pieces p.place p.at) in
    omega (arith, length-drop p.at (get_or p.pieces p.place []), ap length is)

pub returns-else-self-piece : goal.returns-else-self-piece
returns-else-self-piece c =
    let p = c.self.inside in
    let is : c.as_slice-piece.result.now ≡ get_or p.pieces p.place [] = grind (arith, common_steps) in
    let within : p.place < length p.pieces = grind (arith, common_steps) in
    let first : length (first_piece c.args.self.now) ≡ length (drop p.at (get_or p.pieces p.place [])) =
    ap (λ v. length (first_piece v)) (sym c.self.view_is) ∙ ap length (first_piece-drop p.pieces p.place p.at) in
    let more : p.at + c.args.n < length (get_or p.pieces p.place []) =
    omega (arith, length-drop p.at (get_or p.pieces p.place []), ap length is) in
    from_filled-left p.pieces p.place p.at c.args.n within more ∙ ap (λ v. from_filled (without_front c.args.n v)) c.self.view_is
