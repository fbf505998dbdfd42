-- Turns, one step after another.
use Rattle.std.proofs.Common.{◌≡◌, ℕ, List, [], ◌∷◌, ◌++◌, map, append-nil, refl, sym, ap, ◌∙◌, append_assoc, Some, None}
use Rattle.std.specs.Prelude.{true}
use Rattle.std.proofs.lemmas.List.{map-append}
use Rattle.lsv_base.specs.declared.time.TimeSpec.{TimeSpec}
use Rattle.lsv_record.specs.Points.{Stored}
use Rattle.lsv_record.specs.Records.{elapsed}
use Rattle.lsv_session.specs.declared.connection.ConnId.{ConnId}
use Rattle.lsv_session.specs.declared.job.Job.{Job}
use Rattle.lsv_session.specs.declared.reply.Reply.{Reply}
use Rattle.lsv_machine.specs.Answers.{Answer, Saying.CommitPoint, reply_of, say}
use Rattle.lsv_machine.specs.Machine.{LogState.There, Machine, Settings, with_log}
use Rattle.lsv_machine.specs.Turns.{raised, with_lines}
use Rattle.lsvt_model.specs.Turning.{after, after_turn, commit, commits, done, flushed, flushes, told, told_in_turn}

pub after_more : (set : Settings) (now : TimeSpec) (jobs : List Job) (job : Job) (m : Machine) → after set now (jobs ++ job ∷ []) m ≡ (done set now job (after set now jobs m)).machine
after_more set now [] job m = refl
after_more set now (j ∷ jobs) job m = after_more set now jobs job (done set now j m).machine

pub told_more : (set : Settings) (now : TimeSpec) (jobs : List Job) (job : Job) (m : Machine)
    → told set now (jobs ++ job ∷ []) m ≡ told set now jobs m ++ (done set now job (after set now jobs m)).answers
told_more set now [] job m = append-nil (done set now job m).answers
told_more set now (j ∷ jobs) job m = ap (λ (xs : List Answer). (done set now j m).answers ++ xs) (told_more set now jobs job (done set now j m).machine)
    ∙ sym (append_assoc (done set now j m).answers (told set now jobs (done set now j m).machine) (done set now job (after set now jobs (done set now j m).machine)).answers)

pub flushed_more : (numbers : List ℕ) (n : ℕ) (m : Machine) → flushed (numbers ++ n ∷ []) m ≡ flushes n (flushed numbers m)
flushed_more [] n m = refl
flushed_more (i ∷ numbers) n m = flushed_more numbers n (flushes i m)

pub commits_more : (numbers : List ℕ) (n : ℕ) (m : Machine) → commits (numbers ++ n ∷ []) m ≡ commits numbers m ++ commit (flushed numbers m) n
commits_more [] n m = append-nil (commit m n)
commits_more (i ∷ numbers) n m = ap (λ (xs : List Answer). commit m i ++ xs) (commits_more numbers n (flushes i m))
    ∙ sym (append_assoc (commit m i) (commits numbers (flushes i m)) (commit (flushed numbers (flushes i m)) n))

pub commit_none : (m : Machine) (n : ℕ) → m.owner n ≡ None → commit m n ≡ []
commit_none m n e = rw e refl

pub flushes_none : (m : Machine) (n : ℕ) → m.owner n ≡ None → flushes n m ≡ m
flushes_none m n e = rw e refl

pub commit_some : (m : Machine) (n : ℕ) (k : ConnId) (stored : Stored) (promised : ℕ) → m.owner n ≡ Some k → m.logs n ≡ There stored promised → commit m n ≡ say k (CommitPoint (elapsed stored.records)) ∷ []
commit_some m n k stored promised e t = rw (e, t) refl

pub flushes_some : (m : Machine) (n : ℕ) (k : ConnId) (stored : Stored) (promised : ℕ) → m.owner n ≡ Some k → m.logs n ≡ There stored promised
    → flushes n m ≡ with_log n (There stored (raised promised stored.records (elapsed stored.records))) m
flushes_some m n k stored promised e t = rw (e, t) refl

-- ---- Replies

pub replies_told : (set : Settings) (now : TimeSpec) (jobs : List Job) (job : Job) (m x : Machine) (before was new : List Reply) → was ≡ before ++ map reply_of (told set now jobs m) → x ≡ after set now jobs m
    → new ≡ was ++ map reply_of (done set now job x).answers → new ≡ before ++ map reply_of (told set now (jobs ++ job ∷ []) m)
replies_told set now jobs job m x before was new h e p =
    let on_was : List Reply → List Reply = λ w. w ++ map reply_of (done set now job x).answers in
    let on_machine : Machine → List Reply = λ y. (before ++ map reply_of (told set now jobs m)) ++ map reply_of (done set now job y).answers in
    let on_told : List Answer → List Reply = λ a. before ++ map reply_of a in
    p ∙ (ap on_was h ∙ (ap on_machine e ∙ (append_assoc before (map reply_of (told set now jobs m)) (map reply_of (done set now job (after set now jobs m)).answers)
    ∙ (ap (λ (xs : List Reply). before ++ xs) (sym (map-append reply_of (told set now jobs m) (done set now job (after set now jobs m)).answers))
    ∙ sym (ap on_told (told_more set now jobs job m))))))

pub replies_flushed : (numbers : List ℕ) (n : ℕ) (m x : Machine) (before was new : List Reply) → was ≡ before ++ map reply_of (commits numbers m) → x ≡ flushed numbers m
    → new ≡ was ++ map reply_of (commit x n) → new ≡ before ++ map reply_of (commits (numbers ++ n ∷ []) m)
replies_flushed numbers n m x before was new h e p =
    let on_was : List Reply → List Reply = λ w. w ++ map reply_of (commit x n) in
    let on_machine : Machine → List Reply = λ y. (before ++ map reply_of (commits numbers m)) ++ map reply_of (commit y n) in
    let on_told : List Answer → List Reply = λ a. before ++ map reply_of a in
    p ∙ (ap on_was h ∙ (ap on_machine e ∙ (append_assoc before (map reply_of (commits numbers m)) (map reply_of (commit (flushed numbers m) n))
    ∙ (ap (λ (xs : List Reply). before ++ xs) (sym (map-append reply_of (commits numbers m) (commit (flushed numbers m) n)))
    ∙ sym (ap on_told (commits_more numbers n m))))))

-- a turn's replies: those of its jobs, and then those of its end
pub replies_in_turn : (set : Settings) (now : TimeSpec) (jobs : List Job) (m x y : Machine) (was new : List Reply) → was ≡ [] ++ map reply_of (told set now jobs m) → x ≡ after set now jobs m → y ≡ with_lines true x
    → new ≡ was ++ map reply_of (commits y.waiting (record y { waiting = [] })) → new ≡ map reply_of (told_in_turn set now jobs m)
replies_in_turn set now jobs m x y was new h e f p =
    let on_was : List Reply → List Reply = λ w. w ++ map reply_of (commits y.waiting (record y { waiting = [] })) in
    let on_machine : Machine → List Reply = λ z. map reply_of (told set now jobs m) ++ map reply_of (commits z.waiting (record z { waiting = [] })) in
    let on_after : Machine → Machine = λ z. with_lines true z in
    p ∙ (ap on_was h ∙ (ap on_machine (f ∙ ap on_after e)
    ∙ sym (map-append reply_of (told set now jobs m) (commits (after set now jobs m).waiting (record (with_lines true (after set now jobs m)) { waiting = [] })))))

pub machine_after_turn : (set : Settings) (now : TimeSpec) (jobs : List Job) (m x y z : Machine) → x ≡ after set now jobs m → y ≡ with_lines true x → z ≡ flushed y.waiting (record y { waiting = [] })
    → z ≡ after_turn set now jobs m
machine_after_turn set now jobs m x y z e f p =
    let on_machine : Machine → Machine = λ w. flushed w.waiting (record w { waiting = [] }) in
    let on_after : Machine → Machine = λ w. with_lines true w in
    p ∙ ap on_machine (f ∙ ap on_after e)
