use Rattle.std.proofs.Common.{◌≡◌, ℕ, [], ◌∷◌, List, length, sym, ap, ◌∙◌, subst, arith}
use Rattle.std.specs.declared.alloc.Global.{Global}
use Rattle.std.specs.declared.vec.Vec.{Vec}
use Rattle.std.proofs.lemmas.List.{length-append}
use Rattle.lsv_queue.specs.declared.queue.InPass.{InPass}
use Rattle.lsv_threads.specs.Dealt.{AreNew}
use Rattle.lsv_threads.proofs.Deals.{AreOthers, dealt_all, others_push}
use Rattle.lsv_threads.proofs.dealing.deal_rows.Goals as goal

pub loop-number-preserved : goal.loop-number-preserved
loop-number-preserved g c =
    let i = c.loop-number.invariant in
    let both = c.in-Ok.ensures c.loop-number.number i.firsts in record {
      firsts = both.0;
      others = subst (λ (r : List (Vec (InPass g.row.T.Denot) Global)). AreOthers {T = g.row.T.Denot} c.args.queues.now r) (sym c.push_reserved-in-loop-number.ensures.items)
          (others_push {T = g.row.T.Denot} c.args.queues.now c.loop-number.rows.items c.in-Ok.row i.others (subst (λ (n : ℕ). AreNew {T = g.row.T.Denot} c.args.queues.now c.in-Ok.row.items n 0) (sym i.count) both.1));
      count = let a = ap length c.push_reserved-in-loop-number.ensures.items in let b = length-append c.loop-number.rows.items (c.in-Ok.row ∷ []) in let d = i.count in omega arith;
      room = let a = c.push_reserved-in-loop-number.ensures.capacity in let b = i.room in omega arith;
      within = let a = c.loop-number-test.true in omega arith;
    }

pub returns : goal.returns
returns g c =
    let i = c.loop-number.invariant in
    let same : c.loop-number.number ≡ c.args.senders = let a = c.loop-number-test.false in let b = i.within in omega arith in
    dealt_all {T = g.row.T.Denot} c.args.queues.now c.loop-number.rows.items c.loop-number.firsts c.args.senders (i.count ∙ same) c.requires.some i.others (subst (λ (n : ℕ). AreNew {T = g.row.T.Denot} c.args.queues.now c.loop-number.firsts.items 0 n) same i.firsts)
