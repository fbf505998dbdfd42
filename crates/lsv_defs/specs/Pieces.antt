-- Parts of a list of bytes.
use Rattle.std.specs.Prelude.{ℕ, List, ◌≡◌, ◌++◌, take, drop}

-- as many as there are of the n bytes from that place on
abbrev pub piece : List ℕ → ℕ → ℕ → List ℕ
piece bytes at n = take n (drop at bytes)

-- the whole begins with these bytes
abbrev pub IsPrefix : List ℕ → List ℕ → Type 0
IsPrefix prefix whole = (rest : List ℕ) × (whole ≡ prefix ++ rest)
