-- The entry by which what is staged of a log is committed.
use Rattle.std.specs.Prelude.{ℕ, Option}
use Rattle.std.specs.Option.{option_map_or}
use Rattle.lsv_bundle.specs.declared.body.Body.{Body}
use Rattle.lsv_bundle.specs.Value.{next_body}
use Rattle.lsv_iolog.specs.Value.{IoLogView}

-- how many cuts the last entry tells
abbrev pub cuts_in : Option Body → ℕ
cuts_in last = option_map_or (λ (body : Body). body.extra) last 0

-- the next entry, of this kind
abbrev pub next_entry : IoLogView → ℕ → Body
next_entry log kind = next_body log.bundle kind log.count log.elapsed (cuts_in log.bundle.last)
