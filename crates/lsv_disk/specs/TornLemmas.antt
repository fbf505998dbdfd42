-- What isn't written stays.
use Rattle.std.specs.Prelude.{ℕ, List, Option, Some, None, refl}
use Rattle.std.proofs.Common.{arith}
use Rattle.lsv_disk.specs.Bytes.{Torn}

-- what isn't written is torn at no place
pub torn_same : (at n : ℕ) (file : Option (List ℕ)) → Torn at n file file
torn_same at n None = tt
torn_same at n (Some bytes) = record { before = refl; after = refl; no_shorter = omega arith; no_longer = omega arith }
