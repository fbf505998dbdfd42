-- What was said is a first part of what a relay sends by what was kept.
use Rattle.std.proofs.Common.{◌∙◌, ◌++◌, ◌∷◌, [], List, Bool, true, false, sym, ap, append_assoc, append-nil}
use Rattle.std.specs.Prelude.{if◌then◌else◌}
use Rattle.std.specs.List.{AllByRecursion, list_any}
use Rattle.lsv_msg.specs.Fitting.{FitsClient}
use Rattle.lsv_msg.specs.declared.messages.ClientMessage.{ClientMessage}
use Rattle.lsv_msg.specs.declared.messages.ServerMessage.{ServerMessage}
use Rattle.lsv_relay.specs.Transcripts.{IsStartOf}
use Rattle.lsv_transcript.specs.Transcript.{Transcript, all_of, is_id, may_say}

goes_on : (opening rest : List ClientMessage) (waits came : Bool) → IsStartOf (opening ++ (if waits then (if came then rest else []) else rest)) (opening ++ rest)
goes_on opening rest true true = ([], sym (append-nil (opening ++ rest)))
goes_on opening rest true false = (rest, sym (ap (λ (l : List ClientMessage). l ++ rest) (append-nil opening)))
goes_on opening rest false came = ([], sym (append-nil (opening ++ rest)))

-- what may be said is a first part of all
pub may_front : (t : Transcript) (read : List ServerMessage) → IsStartOf (may_say t read) (all_of t)
may_front t read = goes_on t.opening t.rest t.waits (list_any is_id read)

pub front_of_front : (a b c : List ClientMessage) → IsStartOf a b → IsStartOf b c → IsStartOf a c
front_of_front a b c one two = (one.0 ++ two.0, two.1 ∙ ap (λ (l : List ClientMessage). l ++ two.0) one.1 ∙ append_assoc a one.0 two.0)

-- the first of fitting messages fit
pub all_front : (front rest : List ClientMessage) → AllByRecursion FitsClient (front ++ rest) → AllByRecursion FitsClient front
all_front [] rest all = tt
all_front (m ∷ front) rest all = (all.0, all_front front rest all.1)
