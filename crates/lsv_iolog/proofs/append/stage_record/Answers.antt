use Rattle.std.proofs.Common.{List, ℕ, ◌++◌, length, subst, sym}
use Rattle.lsv_disk.specs.declared.file.Part.TheVariants.{Timing}
use Rattle.lsv_bundle.specs.Calls.{IsFull}
use Rattle.lsv_bundle.specs.Value.{BundleView, staged, IsStaged}
use Rattle.lsv_iolog.proofs.Staging.{line_then_data, line_undone, line_room, line_full}
use Rattle.lsv_iolog.proofs.append.stage_record.Goals as goal

pub returns-in-Ok-clause-staged : goal.returns-in-Ok-clause-staged
returns-in-Ok-clause-staged c =
    let b : BundleView = c.args.bundle.now in
    let m : BundleView = c.stage.new.self in
    let is : IsStaged Timing (staged b Timing ++ c.args.line.now) b m = subst (λ (xs : List ℕ). IsStaged Timing (staged b Timing ++ xs) b m) c.as_slice.ensures c.in_ok-stage.ensures.value in
    line_then_data b m c.stage_data.new.bundle c.args.line.now c.args.r.now c.requires.shape is c.in-Ok.ensures.staged

pub returns-in-Ok-clause-room : goal.returns-in-Ok-clause-room
returns-in-Ok-clause-room c =
    let b : BundleView = c.args.bundle.now in
    let m : BundleView = c.stage.new.self in
    let is : IsStaged Timing (staged b Timing ++ c.args.line.now) b m = subst (λ (xs : List ℕ). IsStaged Timing (staged b Timing ++ xs) b m) c.as_slice.ensures c.in_ok-stage.ensures.value in
    line_room b m c.args.line.now c.args.r.now c.requires.shape c.requires.line is
    (λ full. c.in_ok-stage.ensures.room.1 (subst (λ (xs : List ℕ). IsFull b Timing (length xs)) (sym c.as_slice.ensures) full)) c.in-Ok.ensures.room

pub returns-in-Err-clause-refused : goal.returns-in-Err-clause-refused
returns-in-Err-clause-refused c =
    let b : BundleView = c.args.bundle.now in
    let m : BundleView = c.stage_data.new.bundle in
    let is : IsStaged Timing (staged b Timing ++ c.args.line.now) b c.stage.new.self = subst (λ (xs : List ℕ). IsStaged Timing (staged b Timing ++ xs) b c.stage.new.self) c.as_slice.ensures c.in_ok-stage.ensures.value in
    let back : IsStaged Timing (staged b Timing ++ c.args.line.now) b m = subst (λ (v : BundleView). IsStaged Timing (staged b Timing ++ c.args.line.now) b v) (sym c.in-Err.ensures.refused) is in
    c.unstage.ensures.undone b back.same (line_undone b m c.unstage.new.self c.args.line.now c.args.keep c.requires.shape c.requires.keep back c.unstage.ensures.value)

pub returns-in-Err-clause-full : goal.returns-in-Err-clause-full
returns-in-Err-clause-full c part e =
    let b : BundleView = c.args.bundle.now in
    let m : BundleView = c.stage.new.self in
    let is : IsStaged Timing (staged b Timing ++ c.args.line.now) b m = subst (λ (xs : List ℕ). IsStaged Timing (staged b Timing ++ xs) b m) c.as_slice.ensures c.in_ok-stage.ensures.value in
    line_full b m c.args.line.now c.args.r.now part c.requires.shape c.requires.line is
    (λ full. c.in_ok-stage.ensures.room.1 (subst (λ (xs : List ℕ). IsFull b Timing (length xs)) (sym c.as_slice.ensures) full)) (c.in-Err.ensures.full part e)
