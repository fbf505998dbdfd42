-- The 89 bytes of a body in the journal of a bundle.
use Rattle.std.specs.Prelude.{◌≡◌, ℕ, ◌<◌, ◌^◌, List, [], ◌∷◌, ◌++◌, length, map, slice_index}
use Rattle.std.specs.List.{concat}
use Rattle.std.specs.Int.{w64, to_be_bytes}
use Rattle.lsv_disk.specs.declared.file.Part.{Part}
use Rattle.lsv_bundle.specs.declared.body.Body.{Body}
use Rattle.lsv_bundle.specs.Shape.{index_of}

-- a number as eight bytes, the most significant first
abbrev pub number : ℕ → List ℕ
number n = to_be_bytes w64 n

-- the eleven numbers of a body: count, elapsed nanoseconds, the eight lengths, and what the owner keeps besides
abbrev pub numbers_of : Body → List ℕ
numbers_of body = body.count ∷ body.elapsed ∷ body.lens ++ body.extra ∷ []

-- its bytes: the kind, and the eleven numbers
unfoldable pub encoded : Body → List ℕ
encoded body = body.kind ∷ concat (map number (numbers_of body))

-- how many bytes of a part are committed with it
abbrev pub length_of : Body → Part → ℕ
length_of body part = slice_index body.lens (index_of part)

-- its numbers are of 64 bits, and there are eight lengths
pub record IsBody (body : Body) : Type 0 where
  pub count : body.count < 2 ^ 64
  pub elapsed : body.elapsed < 2 ^ 64
  pub eight : length body.lens ≡ 8
  pub lens : (index : ℕ) → slice_index body.lens index < 2 ^ 64
  pub extra : body.extra < 2 ^ 64
