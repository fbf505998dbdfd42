-- Tests of a whole list, where the program has tested its length.
use Rattle.std.proofs.Common.{◌≡◌, ◌∙◌, ℕ, Bool, false, ◌&&◌, ◌==◌, not, List, [], ◌∷◌, length}
use Rattle.std.specs.List.{list_all}
use Rattle.lsv_conf.specs.Values.{is_host, is_mark}

pub host_by : (bytes : List ℕ) (r : Bool) → (length bytes == 0) ≡ false → r ≡ list_all (λ b. not (is_mark b)) bytes → r ≡ is_host bytes
host_by [] r some e = absurd (cc)
host_by (b ∷ bytes) r some e = e
