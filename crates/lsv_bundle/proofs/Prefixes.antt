-- The first bytes of a file, before and after a write after them.
use Rattle.std.proofs.Common.{◌≡◌, ℕ, ◌+◌, ◌≤◌, List, ◌++◌, length, take, drop, Option, Some, None, sym, ◌∙◌, ap, subst, arith, append_assoc, length-append}
use Rattle.std.proofs.lemmas.List.{take-append-drop, take_at, length-take-le}
use Rattle.lsv_defs.specs.Pieces.{IsPrefix}
use Rattle.lsv_disk.specs.declared.file.FileId.{FileId}
use Rattle.lsv_disk.specs.Bytes.{bytes_of, overwritten, Torn}
use Rattle.lsv_disk.specs.View.{DiskView}
use Rattle.lsv_bundle.specs.Committed.{HasPrefix, prefix_at}
use Rattle.lsv_bundle.specs.Represents.{IsDurable}

-- the first bytes of bytes
pub prefix_of_bytes : (n : ℕ) (bytes : List ℕ) → IsPrefix (take n bytes) bytes
prefix_of_bytes n bytes = (drop n bytes, sym (take-append-drop n bytes))

-- a file that is there begins with its own first bytes
pub own_prefix : (n : ℕ) (file : Option (List ℕ)) (content : List ℕ) → file ≡ Some content → HasPrefix (take n (bytes_of file)) file
own_prefix n file content there =
    subst (λ (f : Option (List ℕ)). HasPrefix (take n (bytes_of f)) f) (sym there) (prefix_of_bytes n content)

-- the first of its first bytes
prefix_of_prefix : (n : ℕ) (prefix whole : List ℕ) → IsPrefix prefix whole → IsPrefix (take n prefix) whole
prefix_of_prefix n prefix whole is =
    (drop n prefix ++ is.0, is.1 ∙ ap (λ (l : List ℕ). l ++ is.0) (sym (take-append-drop n prefix)) ∙ append_assoc (take n prefix) (drop n prefix) is.0)

pub shorter_prefix : (n : ℕ) (prefix : List ℕ) (file : Option (List ℕ)) → HasPrefix prefix file → HasPrefix (take n prefix) file
shorter_prefix n prefix None is = elim is [ ]
shorter_prefix n prefix (Some bytes) is = prefix_of_prefix n prefix bytes is

-- the prefix of a longer prefix
pub prefix_before : (prefix more : List ℕ) (file : Option (List ℕ)) → HasPrefix (prefix ++ more) file → HasPrefix prefix file
prefix_before prefix more None is = elim is [ ]
prefix_before prefix more (Some bytes) is = (more ++ is.0, is.1 ∙ append_assoc prefix more is.0)

-- a write after them leaves the first bytes, whatever else a crash leaves of it
pub torn_prefix : (n m : ℕ) (old new : Option (List ℕ)) (content : List ℕ) → old ≡ Some content → Torn n m old new → HasPrefix (take n (bytes_of old)) new
torn_prefix n m (Some o) (Some w) content there torn =
    (drop n w, sym (take-append-drop n w) ∙ ap (λ (l : List ℕ). l ++ drop n w) torn.before)
torn_prefix n m (Some o) None content there torn = elim torn [ ]
torn_prefix n m None new content there torn = cc

-- the first bytes of what was written, and the bytes that were written
pub prefix_written : (at : ℕ) (bytes old : List ℕ) → at ≤ length old → take (at + length bytes) (overwritten at bytes old) ≡ take at old ++ bytes
prefix_written at bytes old reaches =
    take_at (take at old ++ bytes) (drop (at + length bytes) old) (at + length bytes)
    (length-append (take at old) bytes ∙ ap (λ (k : ℕ). k + length bytes) (length-take-le at old reaches))

pub length_written : (at : ℕ) (bytes old : List ℕ) → at ≤ length old → at + length bytes ≤ length (overwritten at bytes old)
length_written at bytes old reaches =
    let whole : length (overwritten at bytes old) ≡ length (take at old ++ bytes) + length (drop (at + length bytes) old) = length-append (take at old ++ bytes) (drop (at + length bytes) old) in
    omega (arith, whole, length-append (take at old) bytes, length-take-le at old reaches)

module _ (disk : DiskView) (g : FileId) (n : ℕ) (durable : IsDurable disk g n) where
  -- what a crash leaves of a durable file is what it reads
  pub durable_left : (c : Option (List ℕ)) → disk.crash_states g c → c ≡ disk.reads g
  durable_left c left = durable.synced c left

  -- and so has the committed bytes
  pub durable_prefix : (c : Option (List ℕ)) → disk.crash_states g c → HasPrefix (prefix_at disk g n) c
  durable_prefix c left =
      subst (λ (f : Option (List ℕ)). HasPrefix (prefix_at disk g n) f) (sym (durable.synced c left)) (own_prefix n (disk.reads g) durable.content durable.there)

  pub length_prefix : length (prefix_at disk g n) ≡ n
  length_prefix =
      ap (λ (f : Option (List ℕ)). length (take n (bytes_of f))) durable.there ∙ length-take-le n durable.content durable.enough

-- the first bytes of a file that begins with them
pub prefix_is : (n : ℕ) (prefix : List ℕ) (file : Option (List ℕ)) → HasPrefix prefix file → length prefix ≡ n → take n (bytes_of file) ≡ prefix
prefix_is n prefix None has long = elim has [ ]
prefix_is n prefix (Some bytes) has long = ap (take n) has.1 ∙ take_at prefix has.0 n long
