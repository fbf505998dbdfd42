-- What a request of the program asks for.
use Rattle.std.specs.Prelude.{Option, option_map}
use Rattle.std.specs.String.{string_bytes}
use Rattle.lsv_send_args.specs.Request.{Accept, Asked, Goes, Records, Reject, Sending}
use Rattle.lsv_send_args.specs.declared.request.Request.{Request}
use Rattle.lsv_send_args.specs.declared.what.Resumption.{Resumption}
use Rattle.lsv_send_args.specs.declared.what.What.{What}
use Rattle.lsv_send_args.specs.declared.what.What.TheVariants as what

-- a resumption goes on with a log
abbrev pub goes_in : Resumption → Goes
goes_in r = record { id = r.id; point = r.point }

-- what is sent
abbrev pub what_in : What → Sending
what_in (what.Records goes stop) = Records (option_map goes_in goes) stop
what_in what.Accept = Accept
what_in (what.Reject reason) = Reject reason

-- what a request asks for
abbrev pub asked_in : Request → Asked
asked_in r = record { dir = string_bytes r.dir; server = string_bytes r.server; what = what_in r.what; number = r.number }
