-- The frame of a commit point, of which all lengths are below 128.
use Rattle.std.proofs.Common.{◌≡◌, ℕ, suc, ◌+◌, ◌-◌, ◌/◌, ◌%◌, ◌<◌, ◌≤◌, List, [], ◌∷◌, ◌++◌, length, take, set, refl, sym, ap, ◌∙◌, arith, length-take}
use Rattle.std.specs.Int.{w32, to_be_bytes}
use Rattle.std.proofs.Math.Seq.{take-set-lt}
use Rattle.lsv_base.specs.declared.time.TimeSpec.{TimeSpec}
use Rattle.lsv_wire.specs.Varint.{varint}
use Rattle.lsv_wire.specs.Fields.{bytes_field}
use Rattle.lsv_wire.specs.Frame.{frame_of}
use Rattle.lsv_wire.specs.declared.framing.TheConstants.{FRAME_LIMIT}
use Rattle.lsv_wire.proofs.Writing.{spelled_within-last}
use Rattle.lsv_msg.specs.declared.messages.ServerMessage.TheVariants as server
use Rattle.lsv_msg.specs.Format.{canon}
use Rattle.lsv_msg.specs.Messages.{time_spec, server_bytes}

be_small : (n : ℕ) → n < 256 → to_be_bytes w32 n ≡ 0 ∷ 0 ∷ 0 ∷ n ∷ []
be_small n small =
    let a : n / 16777216 % 256 ≡ 0 = omega arith in
    let b : n / 65536 % 256 ≡ 0 = omega arith in
    let c : n / 256 % 256 ≡ 0 = omega arith in
    let d : n % 256 ≡ n = omega arith in
    rw (a, b, c, d) refl

small_field : (time : List ℕ) → length time < 128 → bytes_field 2 time ≡ 18 ∷ length time ∷ time
unfolding varint
small_field time small = rw (spelled_within-last 9 (length time) small) refl

small_frame : (time : List ℕ) → length time < 128 → frame_of (bytes_field 2 time) ≡ 0 ∷ 0 ∷ 0 ∷ suc (suc (length time)) ∷ 18 ∷ length time ∷ time
small_frame time small =
    ap frame_of (small_field time small) ∙ ap (λ b. b ++ (18 ∷ length time ∷ time)) (be_small (suc (suc (length time))) (omega arith))

commit_field : (t : TimeSpec) → server_bytes (server.CommitPoint t) ≡ bytes_field 2 (canon time_spec t)
unfolding canon
commit_field t = refl

-- what is written after six bytes, and then of these the last three
pub commit_framed : (end : ℕ) (bytes : List ℕ) (t : TimeSpec) → take end bytes ≡ 0 ∷ 0 ∷ 0 ∷ 0 ∷ 0 ∷ 0 ∷ canon time_spec t → end ≤ length bytes → 6 ≤ end → end ≤ 46
    → take end (set (set (set bytes 3 (end - 4)) 4 18) 5 (end - 6)) ≡ frame_of (server_bytes (server.CommitPoint t))
commit_framed end bytes t is within low high =
    let time : List ℕ = canon time_spec t in
    let six : 6 + length time ≡ end = omega (arith, ap length is, length-take end bytes) in
    let last = take-set-lt end (set (set bytes 3 (end - 4)) 4 18) 5 (end - 6) (omega arith) in
    let key = take-set-lt end (set bytes 3 (end - 4)) 4 18 (omega arith) in
    let first = take-set-lt end bytes 3 (end - 4) (omega arith) in
    let inner : end - 6 ≡ length time = omega arith in
    let outer : end - 4 ≡ suc (suc (length time)) = omega arith in
    last ∙ ap (λ b. set b 5 (end - 6)) (key ∙ ap (λ b. set b 4 18) (first ∙ ap (λ b. set b 3 (end - 4)) is))
    ∙ ap (λ n. 0 ∷ 0 ∷ 0 ∷ n ∷ 18 ∷ (end - 6) ∷ time) outer
    ∙ ap (λ n. 0 ∷ 0 ∷ 0 ∷ suc (suc (length time)) ∷ 18 ∷ n ∷ time) inner
    ∙ sym (ap frame_of (commit_field t) ∙ small_frame time (omega arith))

pub commit_short : (end : ℕ) (bytes : List ℕ) (t : TimeSpec) → take end bytes ≡ 0 ∷ 0 ∷ 0 ∷ 0 ∷ 0 ∷ 0 ∷ canon time_spec t → end ≤ 46 → length (server_bytes (server.CommitPoint t)) ≤ FRAME_LIMIT
commit_short end bytes t is high =
    let time : List ℕ = canon time_spec t in
    let short : 6 + length time ≤ end = omega (arith, ap length is, length-take end bytes) in
    omega (arith, ap length (commit_field t ∙ small_field time (omega arith)))
