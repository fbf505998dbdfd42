-- The messages of what a log holds: its head, its records and its exit.
use Rattle.std.specs.Prelude.{pos, Some, true}
use Rattle.lsv_base.specs.Time.{time_of}
use Rattle.lsv_info.specs.declared.times.Head.{Head}
use Rattle.lsv_info.specs.declared.times.Exit.{Exit}
use Rattle.lsv_record.specs.declared.records.Record.{Record}
use Rattle.lsv_record.specs.declared.records.Record.TheVariants.{Io, Winsize, Suspend}
use Rattle.lsv_record.specs.declared.records.Stream.{Stream}
use Rattle.lsv_record.specs.declared.records.Stream.TheVariants as stream
use Rattle.lsv_msg.specs.declared.messages.IoBuffer.{IoBuffer}
use Rattle.lsv_msg.specs.declared.messages.ClientMessage.{ClientMessage}
use Rattle.lsv_msg.specs.declared.messages.ClientMessage.TheVariants as client

-- data of a stream as a message
abbrev pub data_message : Stream → IoBuffer → ClientMessage
data_message stream.Stdin m = client.Stdin m
data_message stream.Stdout m = client.Stdout m
data_message stream.Stderr m = client.Stderr m
data_message stream.Ttyin m = client.Ttyin m
data_message stream.Ttyout m = client.Ttyout m

-- the message of a record
abbrev pub record_message : Record → ClientMessage
record_message (Io delay s bytes) = data_message s (record { delay = Some (time_of delay); bytes = bytes })
record_message (Winsize delay rows cols) = client.Winsize (record { delay = Some (time_of delay); rows = pos rows; cols = pos cols })
record_message (Suspend delay signal) = client.Suspend (record { delay = Some (time_of delay); signal = signal })

-- the accept of a head: records are to follow
abbrev pub head_message : Head → ClientMessage
head_message head = client.Accept (record { submit_time = Some head.submit; info_msgs = head.info; expect_iobufs = true })

-- the message of an exit
abbrev pub exit_message : Exit → ClientMessage
exit_message exit = client.Exit (record { run_time = Some exit.run; exit_value = exit.value; dumped_core = exit.dumped; signal = exit.signal; error = exit.error })
