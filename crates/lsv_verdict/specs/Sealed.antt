-- What is sealed of a log: its number, and the committed bytes of each of its data files.
use Rattle.std.specs.Prelude.{◌≡◌, ◌≢◌, ◌⊎◌, ℕ, List, [], ◌∷◌, ◌++◌}
use Rattle.std.specs.List.{flat_map}
use Rattle.sha2.specs.Sha256.{sha256}
use Rattle.lsv_base.specs.LogNo.{digits_of}
use Rattle.lsv_disk.specs.declared.file.Part.{Part}
use Rattle.lsv_disk.specs.View.{Image}
use Rattle.lsv_bundle.specs.declared.body.Body.{Body}
use Rattle.lsv_bundle.specs.declared.shape.Shape.TheVariants as shapes
use Rattle.lsv_bundle.specs.Body.{length_of, number}
use Rattle.lsv_bundle.specs.Committed.{HasEntry}
use Rattle.lsv_bundle.specs.Shape.{IsPart, parts_of}
use Rattle.lsv_iolog.specs.Reading.{AreThere}
use Rattle.lsv_iolog.specs.Recovered.{owner_of}
use Rattle.lsv_play.specs.Playing.{text_at}

-- what is sealed of a file: the count of its committed bytes, in eight bytes, and these
abbrev pub sealed_part : Image → ℕ → Body → Part → List ℕ
sealed_part image n body part = number (length_of body part) ++ text_at n body image part

-- what is sealed of some files, in order
abbrev pub sealed_parts : Image → ℕ → Body → List Part → List ℕ
sealed_parts image n body parts = flat_map (sealed_part image n body) parts

-- what is sealed of a log: the six digits of its number, and its files in the order of its entry
abbrev pub sealed_bytes : Image → ℕ → Body → List ℕ
sealed_bytes image n body = digits_of n ++ sealed_parts image n body (parts_of shapes.Log)

-- this is the digest of what is sealed of a log, by its last entry; its files are there
pub record IsDigest (image : Image) (n : ℕ) (digest : List ℕ) : Type 0 where
  pub body : Body
  pub entry : HasEntry (owner_of n) body image
  pub there : AreThere (owner_of n) body image
  pub is : digest ≡ sha256 (sealed_bytes image n body)

-- each is a data file of a log
abbrev pub AreParts : List Part → Type 0
AreParts [] = Unit {0}
AreParts (part ∷ parts) = IsPart shapes.Log part × AreParts parts

-- ---- What a digest fixes

-- two logs have the same number, and the same committed bytes in each of their files
pub record HaveSameBytes (image : Image) (n : ℕ) (body : Body) (other : Image) (m : ℕ) (also : Body) : Type 0 where
  pub number : n ≡ m
  pub bytes : (part : Part) → IsPart shapes.Log part → text_at n body image part ≡ text_at m also other part

-- two different texts have one SHA-256
abbrev pub Collide : List ℕ → List ℕ → Type 0
Collide one other = (one ≢ other) × (sha256 one ≡ sha256 other)
