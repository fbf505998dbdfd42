-- If not all bytes of a record are put, a first part is shown: its wait, and the first of its bytes.
use Rattle.std.proofs.Common.{◌≡◌, ◌∙◌, ◌++◌, ℕ, List, [], ◌∷◌, inl, refl, ap, append_assoc, rules}
use Rattle.lsv_play.specs.declared.screen.Item.{Item}
use Rattle.lsv_play.specs.declared.screen.Item.TheVariants.{Wait}
use Rattle.lsv_play.specs.Schedule.{resumes, wait_of}
use Rattle.lsv_record.specs.Records.{delay_of}
use Rattle.lsv_play.proofs.Parts.{if_err}
use Rattle.lsv_play.proofs.show.play_record.Goals as goal

pub returns-clause-part : goal.returns-clause-part
returns-clause-part g c =
    let o = c.args.o.now in
    let r = c.args.r.now in
    let nanos : ℕ = wait_of o (delay_of r) (resumes r) in
    let waited : c.wait_of.result ≡ nanos = search rules in
    if_err c.put_bytes.result _ _ c.put_bytes.ensures.part (λ put. (
      Wait nanos ∷ put.0,
      inl (refl, put.1),
      λ told. put.2 told ∙ ap (λ (items : List Item). items ++ put.0) (c.in_ok-wait.ensures.shown told ∙ ap (λ (n : ℕ). g.S.Screen.shown c.args.screen.now ++ Wait n ∷ []) waited)
          ∙ append_assoc (g.S.Screen.shown c.args.screen.now) (Wait nanos ∷ []) put.0,
    ))
