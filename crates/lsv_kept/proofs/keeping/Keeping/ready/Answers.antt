use Rattle.std.proofs.Common.{◌≡◌, ◌∙◌, ap, sym, subst}
use Rattle.lsv_kept.specs.Inner.{IsKeeping}
use Rattle.lsv_kept.specs.Value.{KeepingView, state_on}
use Rattle.lsv_kept.proofs.Rooms.{ready_as_before, ready_files, ready_keeps, ready_represents, ready_stands, ready_unmade}
use Rattle.lsv_kept.proofs.keeping.Keeping.ready.Goals as goal

pub with_room-requires-clause-files : goal.with_room-requires-clause-files
with_room-requires-clause-files g c =
    let w = c.args.self.now in
    ready_files w c.self.inside.number c.take.result (g.D.Disk.view c.args.disk.now) (ap (λ (k : KeepingView). k.number) c.self.view_is) (c.take.ensures.value ∙ ap (λ (k : KeepingView). k.files) c.self.view_is) ((subst IsKeeping c.self.view_is c.self.invariant) c.in_ok-check_whole.ensures.whole)

pub with_room-requires-clause-unmade : goal.with_room-requires-clause-unmade
with_room-requires-clause-unmade g c told =
    let w = c.args.self.now in
    ready_unmade w c.self.inside.number c.take.result (g.D.Disk.view c.args.disk.now) (ap (λ (k : KeepingView). k.number) c.self.view_is) (c.take.ensures.value ∙ ap (λ (k : KeepingView). k.files) c.self.view_is) c.requires.undone (c.requires.stands told c.in_ok-check_whole.ensures.whole)

pub with_room-requires-clause-represents : goal.with_room-requires-clause-represents
with_room-requires-clause-represents g c told =
    let w = c.args.self.now in
    ready_represents w c.self.inside.number c.take.result (g.D.Disk.view c.args.disk.now) (ap (λ (k : KeepingView). k.number) c.self.view_is) (c.take.ensures.value ∙ ap (λ (k : KeepingView). k.files) c.self.view_is) (c.requires.stands told c.in_ok-check_whole.ensures.whole)

pub returns-in_err-bundle-clause-any_moment : goal.returns-in_err-bundle-clause-any_moment
returns-in_err-bundle-clause-any_moment g c told whole =
    let w = c.args.self.now in
    ready_as_before w c.self.inside.number c.take.result (g.D.Disk.view c.args.disk.now) (g.D.Disk.view c.with_room.new.disk) (ap (λ (k : KeepingView). k.number) c.self.view_is) (c.take.ensures.value ∙ ap (λ (k : KeepingView). k.files) c.self.view_is) ((subst IsKeeping c.self.view_is c.self.invariant) whole) c.requires.undone (c.requires.stands told whole)
    (g.met.D.Disk.reads_itself told c.args.disk.now) (c.with_room.ensures.any_moment told)

pub returns-in_err-bundle-clause-reads : goal.returns-in_err-bundle-clause-reads
returns-in_err-bundle-clause-reads g c told whole =
    let w = c.args.self.now in
    ready_keeps w c.self.inside.number c.take.result (g.D.Disk.view c.args.disk.now) (g.D.Disk.view c.with_room.new.disk) (ap (λ (k : KeepingView). k.number) c.self.view_is) (c.take.ensures.value ∙ ap (λ (k : KeepingView). k.files) c.self.view_is) ((subst IsKeeping c.self.view_is c.self.invariant) whole) c.requires.undone (c.requires.stands told whole)
    (g.met.D.Disk.reads_itself told c.args.disk.now) (c.with_room.ensures.any_moment told) (g.met.D.Disk.is_now told c.with_room.new.disk _ (g.met.D.Disk.reads_itself told c.with_room.new.disk))

pub returns-clause-any_moment : goal.returns-clause-any_moment
returns-clause-any_moment g c told whole =
    let w = c.args.self.now in
    ready_as_before w c.self.inside.number c.take.result (g.D.Disk.view c.args.disk.now) (g.D.Disk.view c.with_room.new.disk) (ap (λ (k : KeepingView). k.number) c.self.view_is) (c.take.ensures.value ∙ ap (λ (k : KeepingView). k.files) c.self.view_is) ((subst IsKeeping c.self.view_is c.self.invariant) whole) c.requires.undone (c.requires.stands told whole)
    (g.met.D.Disk.reads_itself told c.args.disk.now) (c.with_room.ensures.any_moment told)

pub returns-clause-reads : goal.returns-clause-reads
returns-clause-reads g c told whole =
    let w = c.args.self.now in
    ready_keeps w c.self.inside.number c.take.result (g.D.Disk.view c.args.disk.now) (g.D.Disk.view c.with_room.new.disk) (ap (λ (k : KeepingView). k.number) c.self.view_is) (c.take.ensures.value ∙ ap (λ (k : KeepingView). k.files) c.self.view_is) ((subst IsKeeping c.self.view_is c.self.invariant) whole) c.requires.undone (c.requires.stands told whole)
    (g.met.D.Disk.reads_itself told c.args.disk.now) (c.with_room.ensures.any_moment told) (g.met.D.Disk.is_now told c.with_room.new.disk _ (g.met.D.Disk.reads_itself told c.with_room.new.disk))

pub returns-clause-stands : goal.returns-clause-stands
returns-clause-stands g c told =
    let w = c.args.self.now in (
      c.in_ok-bundle.ensures.represents told,
      subst (λ (k : KeepingView). state_on k.aim c.in_ok-bundle.bundle (g.D.Disk.view c.with_room.new.disk) ≡ k.state) (sym c.self.view_is)
          (ready_stands w c.take.result c.in_ok-bundle.bundle (g.D.Disk.view c.args.disk.now) (g.D.Disk.view c.with_room.new.disk) (c.take.ensures.value ∙ ap (λ (k : KeepingView). k.files) c.self.view_is) c.requires.undone (c.requires.stands told c.in_ok-check_whole.ensures.whole) (c.in_ok-bundle.ensures.same told)),
    )
