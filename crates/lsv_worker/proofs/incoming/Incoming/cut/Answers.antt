use Rattle.std.proofs.Common.{◌≡◌, ◌∙◌, ◌++◌, List, ℕ, ap, drop, subst}
use Rattle.lsv_cut.specs.Cuts.{IsCut, IsFirst, IsNoMessage, left_after, unread}
use Rattle.lsv_cut.specs.declared.cut.Cut.{Cut}
use Rattle.lsv_cut.proofs.CutLemmas.{cut_is_last}
use Rattle.lsv_worker.specs.Incoming.{cuts, kept, with_piece}
use Rattle.lsv_worker.specs.declared.incoming.Incoming.{Incoming}
use Rattle.lsv_worker.proofs.Cutting.{cuts_message, has_first, rest_free}
use Rattle.lsv_worker.proofs.incoming.Incoming.cut.Goals as goal

pub returns-in-Ok-Message-clause-goes : goal.returns-in-Ok-Message-clause-goes
returns-in-Ok-Message-clause-goes c =
    let piece = c.args.piece.now in
    let old : Incoming = with_piece c.args.self.now piece c.args.at.now in
    let new : Incoming = with_piece c.keep_job.new.self piece c.next.new.at in
    let taken = c.in-Ok-Message.field-0-1 in
    let first : IsFirst c.in-Ok-Message.message taken old.rest = subst (λ (k : Cut). IsCut k old.rest) c.in-Ok-Message.field-0-is c.in-Ok-Message.ensures.cut in
    let left : unread c.next.new.self piece c.next.new.at ≡ drop taken old.rest = c.in-Ok-Message.ensures.left ∙ ap (λ (k : Cut). left_after k old.rest) c.in-Ok-Message.field-0-is in
    let rest : new.rest ≡ drop taken old.rest = ap (λ (r : List ℕ). unread r piece c.next.new.at) c.keep_job.ensures.rest ∙ left in
    cuts_message old new first.message (drop taken old.rest) c.in-Ok-Message.message c.requires.empty c.requires.cutting first.front first.reads rest c.keep_job.ensures.stage c.keep_job.ensures.ready c.keep_job.ensures.quiet
    c.keep_job.ensures.routed c.keep_job.ensures.home.lanes c.keep_job.ensures.home.home

pub returns-in-Ok-NoMessage-clause-goes : goal.returns-in-Ok-NoMessage-clause-goes
returns-in-Ok-NoMessage-clause-goes c =
    let piece = c.args.piece.now in
    let old : Incoming = with_piece c.args.self.now piece c.args.at.now in
    let fault = c.in-Ok-NoMessage.fault in
    let bad : IsNoMessage fault old.rest = subst (λ (k : Cut). IsCut k old.rest) c.in-Ok-NoMessage.field-0-is c.in-Ok-NoMessage.ensures.cut in
    λ read put marks h.
    rest_free c.refuse.new.self (unread c.refuse.new.self.rest piece c.next.new.at) (ap cuts c.refuse.ensures.stage) read put marks
    (c.refuse.ensures.goes old.rest read put marks h (cut_is_last read old.rest (h.said ++ kept c.args.self.now.first) fault (has_first old read put marks c.requires.empty c.requires.cutting h) bad))

pub returns-in-Err-clause-goes : goal.returns-in-Err-clause-goes
returns-in-Err-clause-goes c =
    let piece = c.args.piece.now in
    let all = unread c.args.self.now.rest piece c.args.at.now in
    λ read put marks h.
    rest_free c.stop_cutting.new.self (unread c.stop_cutting.new.self.rest piece c.next.new.at) (ap cuts c.stop_cutting.ensures.stage) read put marks (c.stop_cutting.ensures.goes all read put marks h)
