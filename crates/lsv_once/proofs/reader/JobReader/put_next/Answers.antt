use Rattle.std.proofs.Common.{◌≡◌, ◌∙◌, ◌++◌, ◌∷◌, [], List, ℕ, Bool, false, true, ap, drop, length, subst, sym}
use Rattle.lsv_wire.specs.Frame.{IsPartial}
use Rattle.lsv_session.specs.declared.job.Body.TheVariants.{Msg}
use Rattle.lsv_session.specs.declared.job.Job.{Job}
use Rattle.lsv_cut.specs.Cuts.{IsCut, IsFirst, IsNoMessage, left_after, unread}
use Rattle.lsv_cut.specs.declared.cut.Cut.{Cut}
use Rattle.lsv_cut.proofs.CutLemmas.{cut_is_last, kept_all}
use Rattle.lsv_once.specs.InnerRun.{CutsAll, CutsOn}
use Rattle.lsv_once.proofs.JobLemmas.{cuts_last, cuts_message, cuts_partial, job_with}
use Rattle.lsv_once.proofs.reader.JobReader.put_next.Goals as goal

pub returns-in-Nothing-clause-none : goal.returns-in-Nothing-clause-none
returns-in-Nothing-clause-none c = λ e.
    let all = unread c.args.self.now.kept c.args.piece.now c.args.at.now in
    let jobs = c.args.jobs.now.items in
    let partial : IsPartial all = subst (λ (k : Cut). IsCut k all) c.in-Nothing.is c.in_ok-next.ensures.cut in
    let left : unread c.next.new.self c.args.piece.now c.next.new.at ≡ all = c.in_ok-next.ensures.left ∙ ap (λ (k : Cut). left_after k all) c.in-Nothing.is in
    let end : c.next.new.at ≡ length c.args.piece.now = c.in_ok-next.ensures.all_kept c.in-Nothing.is in
    let kept : c.next.new.self ≡ all = kept_all c.next.new.self c.args.piece.now all c.next.new.at end left in
    subst (λ (o : Bool). CutsAll jobs false all jobs o c.next.new.self) (sym c.requires.going)
    (subst (λ (l : List ℕ). CutsAll jobs false all jobs false l) (sym kept) (cuts_partial jobs all partial))

pub returns-in_ok-put_job-in-Message-clause-more : goal.returns-in_ok-put_job-in-Message-clause-more
returns-in_ok-put_job-in-Message-clause-more c = λ e.
    let all = unread c.args.self.now.kept c.args.piece.now c.args.at.now in
    let jobs = c.args.jobs.now.items in
    let m = c.in-Message.message in
    let taken = c.in-Message.field-1 in
    let first : IsFirst m taken all = subst (λ (k : Cut). IsCut k all) c.in-Message.is c.in_ok-next.ensures.cut in
    let left : unread c.next.new.self c.args.piece.now c.next.new.at ≡ drop taken all = c.in_ok-next.ensures.left ∙ ap (λ (k : Cut). left_after k all) c.in-Message.is in
    subst (λ (l : List Job). CutsOn jobs false all l false (unread c.next.new.self c.args.piece.now c.next.new.at)) (sym c.in_ok-put_job-in-Message.ensures)
    (subst (λ (r : List ℕ). CutsOn jobs false all (jobs ++ job_with (Msg m) ∷ []) false r) (sym left) (cuts_message jobs all first.message (drop taken all) m first.front first.reads))

pub returns-in_ok-end-in-NoMessage-clause-none : goal.returns-in_ok-end-in-NoMessage-clause-none
returns-in_ok-end-in-NoMessage-clause-none c = λ e.
    let all = unread c.args.self.now.kept c.args.piece.now c.args.at.now in
    let jobs = c.args.jobs.now.items in
    let fault = c.in-NoMessage.fault in
    let bad : IsNoMessage fault all = subst (λ (k : Cut). IsCut k all) c.in-NoMessage.is c.in_ok-next.ensures.cut in
    subst (λ (o : Bool). CutsAll jobs false all c.end.new.jobs.items o c.end.new.self.kept) (sym c.in_ok-end-in-NoMessage.ensures.over)
    (subst (λ (l : List Job). CutsAll jobs false all l true c.end.new.self.kept) (sym c.in_ok-end-in-NoMessage.ensures.put)
    (cuts_last jobs all c.end.new.self.kept fault (λ read said h. cut_is_last read all said fault h bad)))
