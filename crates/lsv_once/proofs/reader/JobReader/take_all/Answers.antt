use Rattle.std.proofs.Common.{◌++◌, Bool, arith, subst, sym}
use Rattle.lsv_once.specs.InnerRun.{CutsAll}
use Rattle.lsv_once.proofs.JobLemmas.{cuts_end, cuts_none, cuts_then}
use Rattle.lsv_once.proofs.reader.JobReader.take_all.Goals as goal

pub loop-init : goal.loop-init
loop-init c = record { cuts = cuts_none _ _ _; not_over = c.requires; within = omega arith }

pub loop-preserved : goal.loop-preserved
loop-preserved c = record {
  cuts = cuts_then _ _ _ _ _ _ _ _ _ c.loop.invariant.cuts (c.in_ok-put_next.ensures.more c.if-branch.true);
  not_over = c.in_ok-put_next.ensures.going c.if-branch.true;
  within = c.put_next.ensures.within;
}

pub returns : goal.returns
returns c =
    subst (λ (o : Bool). CutsAll c.args.jobs.now.items o (c.args.self.now.kept ++ c.args.piece.now) c.put_next.new.jobs.items c.put_next.new.self.is_over c.put_next.new.self.kept) (sym c.requires)
    (cuts_end _ _ _ _ _ _ _ _ _ c.loop.invariant.cuts (c.in_ok-put_next.ensures.none c.if-branch.false))
