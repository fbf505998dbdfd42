-- A number is drawn; or none is, since they are spent or the number file failed.
use Rattle.std.proofs.Common.{refl, ◌<◌, sym, subst, arith, ◌≡◌, inl, inr, ◌∙◌}
use Rattle.lsv_disk.specs.declared.file.Owner.TheVariants as owners
use Rattle.lsv_request.specs.declared.refusal.Refusal.{Refusal}
use Rattle.lsv_seq.specs.Drawn.{IsNumbersFile}
use Rattle.lsv_seq.specs.Value.{lane_of, last_of}
use Rattle.lsv_seq.specs.declared.fault.DrawFault.TheVariants as faults
use Rattle.lsv_seq.proofs.Laws.{numbers_owner}
use Rattle.lsv_keeper.specs.Accepting.{DrawsNone}
use Rattle.lsv_keeper.specs.Value.{KeeperView}
use Rattle.lsv_keeper.specs.Views.{view_of}
use Rattle.lsv_keeper.proofs.Counting.{owner_rose}
use Rattle.lsv_keeper.proofs.Drawing.{draw_beside, last_rises, number_drawn}
use Rattle.lsv_keeper.proofs.Making.{draw_err, draws_none}
use Rattle.lsv_keeper.proofs.Syncing.{draw_unused, drawn_fresh, past_on}
use Rattle.lsv_keeper.proofs.Causes.{draw_cause, draw_does, own_rose}
use Rattle.lsv_keeper.specs.Causes.{StoreRose}
use Rattle.lsv_request.specs.declared.refusal.Refusal.TheVariants.{DeviceFault}
use Rattle.lsv_keeper.proofs.keeper.Keeper.draw.Goals as goal

pub draw-requires : goal.draw-requires
draw-requires g c = record { represents = λ told. (let (m, at) = c.requires.stands told in at.numbers.represents) }

pub returns-in-Ok-clause-drawn : goal.returns-in-Ok-clause-drawn
returns-in-Ok-clause-drawn g c told m at =
    number_drawn (view_of c.args.self.now) c.draw.new.self (g.D.Disk.view c.args.disk.now) (g.D.Disk.view c.draw.new.disk) m c.in-Ok.number at c.draw.ensures.lane c.in-Ok.ensures.drawn.0 c.in-Ok.ensures.drawn.1 c.in-Ok.ensures.after
    (c.draw.ensures.represents told) (c.draw.ensures.any_moment told).elsewhere

pub returns-in-Ok-clause-frame : goal.returns-in-Ok-clause-frame
returns-in-Ok-clause-frame g c = record {
  same = refl;
  past = past_on c.args.self.now.numbers c.draw.new.self c.draw.ensures.lane (let above : last_of c.args.self.now.numbers < c.in-Ok.number = c.in-Ok.ensures.above in let is = c.in-Ok.ensures.drawn.0 in omega arith);
  beside = λ told m at.
      let d0 = c.args.disk.now in
      let d1 = c.draw.new.disk in
      draw_beside (view_of c.args.self.now) c.draw.new.self (g.D.Disk.view d0) (g.D.Disk.view d1) m
      (record { reads_itself = g.met.D.Disk.reads_itself told d0; is_now = g.met.D.Disk.is_now told d0; only_now = g.met.D.Disk.only_now told d0 })
      (record { reads_itself = g.met.D.Disk.reads_itself told d1; is_now = g.met.D.Disk.is_now told d1; only_now = g.met.D.Disk.only_now told d1 })
      at c.draw.ensures.lane (let above : last_of c.args.self.now.numbers < c.in-Ok.number = c.in-Ok.ensures.above in let is = c.in-Ok.ensures.drawn.0 in omega arith) (c.draw.ensures.any_moment told) c.draw.ensures.cause.monotone;
  syncs = λ told. draw_unused (lane_of c.args.self.now.numbers) 5 7 (g.D.Disk.view c.args.disk.now) (g.D.Disk.view c.draw.new.disk) (c.draw.ensures.calls told);
  does =
      draw_does _ (view_of c.args.self.now) c.draw.new.self (g.D.Disk.view c.args.disk.now) (g.D.Disk.view c.draw.new.disk) c.draw.ensures.cause.monotone (λ pending. absurd (pending c.in-Ok.ensures.drawn.1)) (λ e. absurd (cc));
}

pub returns-in-Err-clause-none : goal.returns-in-Err-clause-none
returns-in-Err-clause-none g c told m at =
    let v : KeeperView = view_of c.args.self.now in
    let old = g.D.Disk.view c.args.disk.now in
    let new = g.D.Disk.view c.draw.new.disk in
    let fault = c.in-Err.fault in
    subst (λ (why : Refusal). DrawsNone v m why (record v { numbers = c.draw.new.self }) old new) (sym c.draw_refusal.ensures)
    (draws_none v c.draw.new.self old new m fault at c.draw.ensures.lane c.in-Err.ensures.kept
    (λ last is. c.in-Err.ensures.spent last (draw_err fault (faults.Spent last) is))
    (λ is. c.in-Err.ensures.fault (draw_err fault faults.Disk is))
    (λ kept now is. c.in-Err.ensures.unchanged told kept now (draw_err fault (faults.Changed kept now) is))
    (λ is. owner_rose (owners.Numbers (lane_of v.numbers)) (IsNumbersFile (lane_of v.numbers)) _ old new (numbers_owner (lane_of v.numbers)) c.in-Err.ensures.cause (draw_err fault faults.Disk is))
    (c.draw.ensures.represents told) (c.draw.ensures.any_moment told).elsewhere)

pub returns-in-Err-clause-frame : goal.returns-in-Err-clause-frame
returns-in-Err-clause-frame g c = record {
  same = refl;
  past = past_on c.args.self.now.numbers c.draw.new.self c.draw.ensures.lane (last_rises c.args.self.now.numbers c.draw.new.self c.in-Err.ensures.kept);
  beside = λ told m at.
      let d0 = c.args.disk.now in
      let d1 = c.draw.new.disk in
      draw_beside (view_of c.args.self.now) c.draw.new.self (g.D.Disk.view d0) (g.D.Disk.view d1) m
      (record { reads_itself = g.met.D.Disk.reads_itself told d0; is_now = g.met.D.Disk.is_now told d0; only_now = g.met.D.Disk.only_now told d0 })
      (record { reads_itself = g.met.D.Disk.reads_itself told d1; is_now = g.met.D.Disk.is_now told d1; only_now = g.met.D.Disk.only_now told d1 })
      at c.draw.ensures.lane (last_rises c.args.self.now.numbers c.draw.new.self c.in-Err.ensures.kept) (c.draw.ensures.any_moment told) c.draw.ensures.cause.monotone;
  syncs = λ told. draw_unused (lane_of c.args.self.now.numbers) 5 7 (g.D.Disk.view c.args.disk.now) (g.D.Disk.view c.draw.new.disk) (c.draw.ensures.calls told);
  does =
      let old = g.D.Disk.view c.args.disk.now in
      let new = g.D.Disk.view c.draw.new.disk in
      let its = c.args.self.now.numbers in
      let fault = c.in-Err.fault in
      let why = draw_cause its c.draw.new.self (StoreRose old new) fault
      (λ is. own_rose (IsNumbersFile (lane_of its)) _ old new (λ file own. inr (inl (lane_of its, numbers_owner (lane_of its) file own))) c.in-Err.ensures.cause (draw_err fault faults.Disk is))
      (λ m is. (c.in-Err.ensures.spent m (draw_err fault (faults.Spent m) is)).1)
      (λ kept now is. (c.in-Err.ensures.changed kept now (draw_err fault (faults.Changed kept now) is)).1.failed) in
      draw_does _ (view_of c.args.self.now) c.draw.new.self old new c.draw.ensures.cause.monotone why.0
      (λ e. why.1 (sym c.draw_refusal.ensures ∙ (let f : c.draw_refusal.result ≡ DeviceFault = cc in f)));
}

pub returns-in-Ok-clause-fresh : goal.returns-in-Ok-clause-fresh
returns-in-Ok-clause-fresh g c told m at =
    let d = number_drawn (view_of c.args.self.now) c.draw.new.self (g.D.Disk.view c.args.disk.now) (g.D.Disk.view c.draw.new.disk) m c.in-Ok.number at c.draw.ensures.lane c.in-Ok.ensures.drawn.0 c.in-Ok.ensures.drawn.1 c.in-Ok.ensures.after
    (c.draw.ensures.represents told) (c.draw.ensures.any_moment told).elsewhere in
    drawn_fresh (view_of c.args.self.now) (g.D.Disk.view c.args.disk.now) m c.in-Ok.number at d.0 c.in-Ok.ensures.above
