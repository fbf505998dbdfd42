-- What is sent of a log, in order, and the commit point that is waited for.
use Rattle.std.specs.Prelude.{◌≡◌, ℕ, ◌++◌, Bool, true, false, List, [], ◌∷◌, Option, Some, None}
use Rattle.std.specs.List.{list_any}
use Rattle.lsv_dialogue.specs.Events.{Event, heard, said}
use Rattle.lsv_info.specs.declared.times.Exit.{Exit}
use Rattle.lsv_info.specs.declared.times.Head.{Head}
use Rattle.lsv_msg.specs.declared.messages.ClientMessage.{ClientMessage}
use Rattle.lsv_msg.specs.declared.messages.ClientMessage.TheVariants as client
use Rattle.lsv_record.specs.declared.records.Record.{Record}
use Rattle.lsv_send_args.specs.Request.{Accept, Goes, Records, Reject, Sending}
use Rattle.lsv_transcript.specs.Plan.{Plan, ResumeAt, plan_from}
use Rattle.lsv_transcript.specs.Transcript.{Transcript, hello_message, is_id}
use Rattle.lsv_send.specs.Reached.{reached_by}

-- ---- Without records

-- the accept of a head, after which no records follow
abbrev pub lone_accept : Head → ClientMessage
lone_accept head = client.Accept (record { submit_time = Some head.submit; info_msgs = head.info; expect_iobufs = false })

-- a reject of the command of a head, for this reason
abbrev pub reject_of : Head → (reason : List ℕ) → ClientMessage
reject_of head reason = client.Reject (record { submit_time = Some head.submit; reason = reason; info_msgs = head.info })

-- a hello and this message are sent, and no more
abbrev pub alone : ClientMessage → Transcript
alone m = record { opening = hello_message ∷ m ∷ []; waits = false; skipped = 0; rest = [] }

-- ---- The plan

-- where a log is gone on with, if it is
abbrev pub resume_of : Option Goes → Option ResumeAt
resume_of None = None
resume_of (Some goes) = Some (record { id = goes.id; point = goes.point })

-- what is sent of a log; nothing if no record ends at the resume point
abbrev pub plan_of : Sending → List Record → Head → Option Exit → Option Plan
plan_of (Records goes stop) records head exit = plan_from records head exit (resume_of goes) stop
plan_of Accept records head exit = Some (record { transcript = alone (lone_accept head); aim = 0 })
plan_of (Reject reason) records head exit = Some (record { transcript = alone (reject_of head reason); aim = 0 })

-- ---- What is said of it

-- these messages are the first of those
abbrev pub IsFirstOf : List ClientMessage → List ClientMessage → Type 0
IsFirstOf messages all = (more : List ClientMessage) × (all ≡ messages ++ more)

-- whether there is a message
abbrev pub is_some_message : List ClientMessage → Bool
is_some_message [] = false
is_some_message (m ∷ messages) = true

-- all of a plan was said; if something follows its opening, a commit point at its aim came after that; if not, an identifier came, if one is waited for
pub record IsCommitted (plan : Plan) (events : List Event) : Type 0 where
  pub said_is : said events ≡ plan.transcript.opening ++ plan.transcript.rest
  pub aim : is_some_message plan.transcript.rest ≡ true → reached_by plan.aim false events ≡ true
  pub id : is_some_message plan.transcript.rest ≡ false → plan.transcript.waits ≡ true → list_any is_id (heard events) ≡ true
