-- What the value of a seal fixes of the logs of a store.
use Rattle.std.specs.Prelude.{◌≡◌, ◌⊎◌, ℕ, List}
use Rattle.hex.specs.Hex.{encode_lower}
use Rattle.lsv_bundle.specs.Committed.{HasEntry}
use Rattle.lsv_bundle.specs.declared.body.Body.{Body}
use Rattle.lsv_disk.specs.View.{Image}
use Rattle.lsv_iolog.specs.Recovered.{owner_of}
use Rattle.lsv_seal.specs.Chain.{IsSealed, Sealed}
use Rattle.lsv_verdict.specs.Sealed.{Collide, HaveSameBytes, IsDigest, sealed_bytes}

-- a log is sealed as it is in this store: with the digest of its committed bytes, as hexadecimal digits
pub record IsSealedOf (image : Image) (s : Sealed) : Type 0 where
  pub sealed : IsSealed s
  pub digest : List ℕ
  pub is : IsDigest image s.number digest
  pub shown : s.digest ≡ encode_lower digest

-- a sealed log has the same committed bytes in two stores, or two different texts of it have one SHA-256
pub record IsSameIn (image other : Image) (s : Sealed) : Type 0 where
  pub one : Body
  pub two : Body
  pub entry : HasEntry (owner_of s.number) one image
  pub also : HasEntry (owner_of s.number) two other
  pub same : HaveSameBytes image s.number one other s.number two ⊎ Collide (sealed_bytes image s.number one) (sealed_bytes other s.number two)
