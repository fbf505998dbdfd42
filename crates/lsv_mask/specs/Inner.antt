-- What proofs alone need: no public clause cites it.
use Rattle.std.specs.Prelude.{ℕ, List, ◌++◌, if◌then◌else◌}
use Rattle.lsv_mask.specs.Masking.{has_line_feed, last_bytes, last_line}

-- the tail with more output
abbrev pub tail_with : List ℕ → List ℕ → List ℕ
tail_with tail output = last_bytes 256 (if has_line_feed output then last_line output else tail ++ output)
