use Rattle.std.proofs.Common.{◌≡◌, sym, ap, subst, ◌∙◌, Some, refl, inl, inr}
use Rattle.lsv_seq.specs.Sound.{IsSound}
use Rattle.std.specs.Prelude.{◌⊎◌}
use Rattle.lsv_seq.specs.Drawn.{numbers_file}
use Rattle.lsv_seq.specs.Value.{HasDrawn, HasDrawnOf, lane_of}
use Rattle.lsv_seq.proofs.Images.{represents_settled, now_of_run}
use Rattle.lsv_seq.proofs.Runs.{written_moments, failed_draw}
use Rattle.lsv_seq.proofs.Sounds.{written_sound}
use Rattle.lsv_seq.proofs.numbers.Numbers.write.Goals as goal

pub invariant_of-self : goal.invariant_of-self
invariant_of-self g c = record {
  sound = subst (IsSound _ _) (sym c.requires.settled)
      (written_sound c.args.self.now c.append.new.self c.get-number.result _ refl (c.get-number.ensures.value ∙ c.requires.after) c.get-number.ensures.last c.append.ensures.kept.file_is c.in-Ok.ensures.whole
      (c.in-Ok.ensures.last ∙ ap (λ b. Some b) c.encode.ensures));
}

pub returns-in-Ok-clause-represents : goal.returns-in-Ok-clause-represents
returns-in-Ok-clause-represents g c told = represents_settled _ _ (c.append.ensures.represents told c.in-Ok.ensures.whole)

pub returns-in-Err-clause-any_moment : goal.returns-in-Err-clause-any_moment
returns-in-Err-clause-any_moment g c told =
    written_moments c.args.self.now c.args.self.now.kept (Some c.get-number.result) c.get-number.result c.encode.result _ _
    (record { lane = refl; lanes = refl; named = c.get-number.ensures.value ∙ c.requires.after; small = c.get-number.ensures.last; there = inr refl })
    c.encode.ensures (c.append.ensures.any_moment told (c.args.self.now.sound.whole c.requires.settled))

pub returns-in-Err-clause-represents : goal.returns-in-Err-clause-represents
returns-in-Err-clause-represents g c told =
    failed_draw c.args.self.now c.get-number.result (g.D.Disk.view c.append.new.disk) c.append.new.self _ c.requires.settled (g.met.D.Disk.reads_itself told c.append.new.disk)
    (now_of_run (λ f. f ≡ numbers_file (lane_of c.args.self.now)) (λ image. HasDrawn c.args.self.now image ⊎ HasDrawnOf c.args.self.now.kept (Some c.get-number.result) image) (g.D.Disk.view c.args.disk.now) (g.D.Disk.view c.append.new.disk)
    (g.met.D.Disk.is_now told c.append.new.disk) (returns-in-Err-clause-any_moment g c told))

pub returns-in-Ok-clause-any_moment : goal.returns-in-Ok-clause-any_moment
returns-in-Ok-clause-any_moment g c told =
    written_moments c.args.self.now _ c.args.self.now.pending c.get-number.result c.encode.result _ _
    (record { lane = refl; lanes = refl; named = c.get-number.ensures.value ∙ c.requires.after; small = c.get-number.ensures.last; there = inl refl })
    c.encode.ensures (c.append.ensures.any_moment told (c.args.self.now.sound.whole c.requires.settled))
