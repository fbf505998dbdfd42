-- Records before those that begin the bytes of a sound log: they begin them too, and nothing is at fault after them.
use Rattle.std.proofs.Common.{arith, ℕ, zero, suc, ◌≤◌, List, [], ◌∷◌, ◌++◌, append_assoc, length, length-append, ap, subst, ◌∙◌}
use Rattle.std.specs.Prelude.{All}
use Rattle.std.proofs.lemmas.List.Elements.{All-cons, All-head, All-nil, All-tail}
use Rattle.lsv_defs.specs.Pieces.{IsPrefix}
use Rattle.lsv_bundle.specs.declared.body.Body.{Body}
use Rattle.lsv_iolog.specs.Reading.{IsSoundBehind}
use Rattle.lsv_record.specs.declared.laid.Laid.{Laid}
use Rattle.lsv_record.specs.declared.records.Record.{Record}
use Rattle.lsv_record.specs.Layout.{Begins, stream_in}
use Rattle.lsv_record.specs.Records.{IsValid, stream_of, timing_of}
use Rattle.lsv_record.proofs.Layouts.{elapsed-append, stream_of-append, timing_of-append}
use Rattle.lsv_play.specs.Playing.{IsSoundSoFar}

valid_front : (front more : List Record) → All IsValid (front ++ more) → All IsValid front
valid_front [] more h = All-nil IsValid
valid_front (r ∷ front) more h = All-cons IsValid r front (All-head IsValid r (front ++ more) h) (valid_front front more (All-tail IsValid r (front ++ more) h))

prefix_front : (a b text : List ℕ) → IsPrefix (a ++ b) text → IsPrefix a text
prefix_front a b text (rest, is) = (b ++ rest, is ∙ append_assoc a b rest)

pub begins_front : (l : Laid) (front more : List Record) → Begins l (front ++ more) → Begins l front
begins_front l front more begins = record {
  valid = valid_front front more begins.valid;
  time = omega (arith, begins.time, elapsed-append front more);
  timing = prefix_front (timing_of front) (timing_of more) l.timing (subst (λ (t : List ℕ). IsPrefix t l.timing) (timing_of-append front more) begins.timing);
  streams = λ s. prefix_front (stream_of s front) (stream_of s more) (stream_in s l) (subst (λ (t : List ℕ). IsPrefix t (stream_in s l)) (stream_of-append s front more) (begins.streams s));
}

-- If nothing is at fault after records of which that is so of each shorter part, it is so of all.
module _ (l : Laid) (body : Body) (sound : (rs : List Record) → Begins l rs → IsSoundSoFar l body rs → IsSoundBehind l body rs) where
  within : (n : ℕ) (rs : List Record) → length rs ≤ n → Begins l rs → IsSoundSoFar l body rs
  within zero rs few begins before r more is = absurd (let no_ : ⊥ = omega (arith, few, ap length is, length-append before (r ∷ more)) in no_)
  within (suc n) rs few begins before r more is =
      let front = begins_front l before (r ∷ more) (subst (Begins l) is begins) in
      let less : length before ≤ n = omega (arith, few, ap length is, length-append before (r ∷ more)) in
      sound before front (within n before less front)

  pub all_sound : (rs : List Record) → Begins l rs → IsSoundSoFar l body rs
  all_sound rs begins = within (length rs) rs (omega arith) begins
