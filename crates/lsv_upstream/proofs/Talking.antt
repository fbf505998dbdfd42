-- A conversation's connection brings what was said, and reads what was heard.
use Rattle.std.proofs.Common.{◌≡◌, ℕ, List, [], ◌∷◌, ◌++◌, Ok, map, sym, ◌∙◌, ap, subst, append_assoc}
use Rattle.std.specs.List.{AllByRecursion}
use Rattle.lsv_msg.specs.Fitting.{FitsClient}
use Rattle.lsv_msg.specs.declared.messages.ClientMessage.{ClientMessage}
use Rattle.lsv_msg.specs.declared.messages.ServerMessage.{ServerMessage}
use Rattle.lsv_session.specs.Transcript.{bodies_of}
use Rattle.lsv_session.specs.declared.connection.ConnId.{ConnId}
use Rattle.lsv_session.specs.declared.job.Body.{Body}
use Rattle.lsv_upstream.specs.Jobs.{BringsFirst, ReadsFirst, jobs_of}
use Rattle.lsv_upstream.specs.Runs.{ServerRun}
use Rattle.lsv_upstream.specs.Talked.{IsTalked, answers_to}
use Rattle.lsv_upstream.proofs.Carrying.{ReadsBack, sent_brings}
use Rattle.lsv_upstream.proofs.Heard.{ReadsAnswersBack, heard_first}

all_front : {X : Type 0} (P : X → Type 0) (xs ys : List X) → AllByRecursion P (xs ++ ys) → AllByRecursion P xs
all_front P [] ys a = tt
all_front P (x ∷ xs) ys a = (a.0, all_front P xs ys a.1)

pub talked_brings : ReadsBack → (messages : List ClientMessage) (read : List ServerMessage) (r : ServerRun) (k : ConnId) → IsTalked messages read r k → BringsFirst messages (bodies_of k (jobs_of r.events))
talked_brings back messages read r k t =
    let whole : t.puts.front ++ (t.puts.unsent ++ t.later) ≡ messages = sym (append_assoc t.puts.front t.puts.unsent t.later) ∙ (ap (λ (l : List ClientMessage). l ++ t.later) (sym t.puts.is) ∙ t.says) in
    let fits = all_front FitsClient t.puts.front t.puts.unsent (subst (λ (l : List ClientMessage). AllByRecursion FitsClient l) t.puts.is t.fits) in
    let o = t.other in
    let (more, begins) = o.arrived in
    let (rest, written) = t.puts.bytes tt in
    subst (λ (l : List ClientMessage). BringsFirst l (bodies_of k (jobs_of r.events))) whole
    (subst (λ (b : List Body). BringsFirst (t.puts.front ++ (t.puts.unsent ++ t.later)) b) (sym o.brings)
    (sent_brings back t.puts.front (t.puts.unsent ++ t.later) o.input o.jobs o.taken o.ends fits t.puts.sendable
    (more ++ rest, written ∙ (ap (λ (b : List ℕ). b ++ rest) begins ∙ append_assoc o.input more rest)) o.cut o.first o.no_messages))

pub talked_reads : ReadsAnswersBack → (messages : List ClientMessage) (read : List ServerMessage) (r : ServerRun) (k : ConnId) → IsTalked messages read r k → ReadsFirst read k r.events
talked_reads back messages read r k t =
    let o = t.other in
    let has = t.hears.has in
    let (more, comes) = o.comes in
    let (later, whole) = heard_first back (answers_to k r.events) read has.frames t.talk.rest more o.fits o.sendable has.each (comes ∙ ap (λ (b : List ℕ). b ++ more) has.whole) (has.are ∙ ap (λ (l : List ServerMessage). map (λ m. Ok m) l) t.reads) in
    record { later = later; whole = whole }
