-- What a request asks for.
use Rattle.std.specs.String.{string_bytes}
use Rattle.lsv_check_args.specs.Request.{Asked}
use Rattle.lsv_check_args.specs.declared.request.Request.{Request}

-- what a request asks for
abbrev pub asked_in : Request → Asked
asked_in r = record { dir = string_bytes r.dir; events = string_bytes r.events; form = r.form; numbers = r.numbers }
