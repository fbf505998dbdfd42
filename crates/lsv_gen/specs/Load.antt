-- The conversations of the generated load.
use Rattle.std.specs.Prelude.{ℕ, zero, suc, pos, ◌+◌, ◌*◌, ◌%◌, List, [], ◌∷◌, ◌++◌, Some, true, false, codes, replicate}
use Rattle.std.specs.Fmt.{decimal}
use Rattle.std.specs.List.{flat_map}
use Prim.Native.String.{String}
use Rattle.lsv_base.specs.Time.{time_of}
use Rattle.lsv_base.specs.declared.time.TimeSpec.{TimeSpec}
use Rattle.lsv_info.specs.declared.info.Entry.{Entry}
use Rattle.lsv_info.specs.declared.info.Info.{Info}
use Rattle.lsv_info.specs.declared.info.Value.TheVariants.{Text}
use Rattle.lsv_msg.specs.Messages.{client_bytes}
use Rattle.lsv_msg.specs.declared.messages.ClientMessage.{ClientMessage}
use Rattle.lsv_msg.specs.declared.messages.ClientMessage.TheVariants.{Accept, Exit, Hello, Ttyout}
use Rattle.lsv_wire.specs.Frame.{frame_of}

-- this many milliseconds
abbrev pub millis : ℕ → TimeSpec
millis n = time_of (n * 1000000)

-- an entry with a text
abbrev pub entry : String → List ℕ → Entry
entry key text = record { key = codes key; value = Text text }

abbrev pub hello : ClientMessage
hello = Hello (record { client_id = codes "load" })

-- what the accept of conversation i tells of the command
abbrev pub info : ℕ → Info
info i = record {
  entries = entry "command" (codes "/bin/job" ++ decimal i) ∷ entry "runuser" (codes "root")
      ∷ entry "submituser" (codes "user" ++ decimal (i % 10)) ∷ entry "submithost" (codes "gen") ∷ [];
}

-- the accept of conversation i
abbrev pub accept : ℕ → ClientMessage
accept i = Accept (record {
  submit_time = Some (record { sec = pos (1700000000 + i); nsec = pos 0 });
  info_msgs = info i;
  expect_iobufs = true;
})

-- the output that stands in place j, counted from 1
abbrev pub output : ℕ → ClientMessage
output j = Ttyout (record { delay = Some (millis j); bytes = replicate (j % 80 + 1) (97 + j % 26) })

-- the first n outputs
abbrev pub outputs : ℕ → List ClientMessage
outputs zero = []
outputs (suc n) = outputs n ++ output (suc n) ∷ []

-- the milliseconds of the first n outputs
abbrev pub duration : ℕ → ℕ
duration zero = 0
duration (suc n) = duration n + suc n

-- the exit of conversation i
abbrev pub exit : ℕ → ClientMessage
exit i = Exit (record { run_time = Some (millis (duration (i % 50 + 1))); exit_value = pos (i % 256); dumped_core = false; signal = []; error = [] })

-- the messages of conversation i
abbrev pub messages : ℕ → List ClientMessage
messages i = (hello ∷ accept i ∷ outputs (i % 50 + 1)) ++ exit i ∷ []

-- messages in canonical bytes, each in its frame
abbrev pub frames : List ClientMessage → List ℕ
frames ms = flat_map (λ m. frame_of (client_bytes m)) ms

-- the bytes of conversation i
abbrev pub conversation : ℕ → List ℕ
conversation i = frames (messages i)
