-- What is left of a file, call by call.
use Rattle.std.proofs.Common.{◌≡◌, ◌≢◌, ◌⊎◌, inl, inr, ◌&&◌, ℕ, ◌+◌, ◌<◌, ◌≤◌, nat_lt, cond, Bool, true, false, List, [], ◌∷◌, ◌++◌, length, take, get_or, Option, None, refl, sym, ◌∙◌, ap, subst, arith}
use Rattle.std.proofs.lemmas.List.{get_or_default, take_more, take_all}
use Rattle.std.proofs.lemmas.Bool.{cases_lt, lt-ltb, le-ltb, and_parts, both_ways}
use Rattle.lsv_disk.specs.declared.file.FileId.{FileId}
use Rattle.lsv_disk.specs.declared.memory.call.Call.{Call}
use Rattle.lsv_disk.specs.declared.memory.call.Effect.{Effect}
use Rattle.lsv_disk.specs.declared.memory.call.Effect.TheVariants.{Held, Made, NotMade, NotRead, Written, NotWritten, Synced, NotSynced}
use Rattle.lsv_disk.specs.declared.memory.fill.Fill.{Fill}
use Rattle.lsv_disk.specs.declared.memory.fill.Fill.TheVariants.{Old, Read, Byte}
use Rattle.lsv_disk.specs.Files.{same_file}
use Rattle.lsv_disk.specs.View.{Image}
use Rattle.lsv_disk.specs.Memory.Calls.{past_of, reads_after}
use Rattle.lsv_disk.specs.Memory.Images.{makes_durable, read_next, left_next, left_by, IsDurableAt}
use Rattle.lsv_disk.proofs.Same.{other_not_same, same_or_other, same_itself}
use Rattle.lsv_disk.proofs.MemoryLemmas.Past.{past_here, past_other, past_none}

-- what a read gives after one more call
pub read_is : (effect : Effect) (past : List Effect) → reads_after (effect ∷ past) ≡ read_next effect (reads_after past)
read_is (Held bytes) past = refl
read_is Made past = refl
read_is NotMade past = refl
read_is NotRead past = refl
read_is (Written at bytes) past = refl
read_is (NotWritten at n) past = refl
read_is Synced past = refl
read_is NotSynced past = refl

-- a call that makes_durable the file leaves what a read gives
pub durable_is : (fill : Fill) (effect : Effect) (past : List Effect) → makes_durable effect ≡ true → left_by fill (effect ∷ past) ≡ reads_after (effect ∷ past)
durable_is Old (Held bytes) past is = refl
durable_is Old Made past is = refl
durable_is Old Synced past is = refl
durable_is Read effect past is = refl
durable_is (Byte byte) (Held bytes) past is = refl
durable_is (Byte byte) Made past is = refl
durable_is (Byte byte) Synced past is = refl
durable_is Old NotMade past is = cc
durable_is Old NotRead past is = cc
durable_is Old (Written at bytes) past is = cc
durable_is Old (NotWritten at n) past is = cc
durable_is Old NotSynced past is = cc
durable_is (Byte byte) NotMade past is = cc
durable_is (Byte byte) NotRead past is = cc
durable_is (Byte byte) (Written at bytes) past is = cc
durable_is (Byte byte) (NotWritten at n) past is = cc
durable_is (Byte byte) NotSynced past is = cc

-- and any other changes what is left
pub left_is : (fill : Fill) (effect : Effect) (past : List Effect) → makes_durable effect ≡ false → left_by fill (effect ∷ past) ≡ left_next fill effect (left_by fill past)
left_is Old NotMade past is = refl
left_is Old NotRead past is = refl
left_is Old (Written at bytes) past is = refl
left_is Old (NotWritten at n) past is = refl
left_is Old NotSynced past is = refl
left_is Read effect past is = read_is effect past
left_is (Byte byte) NotMade past is = refl
left_is (Byte byte) NotRead past is = refl
left_is (Byte byte) (Written at bytes) past is = refl
left_is (Byte byte) (NotWritten at n) past is = refl
left_is (Byte byte) NotSynced past is = refl
left_is Old (Held bytes) past is = cc
left_is Old Made past is = cc
left_is Old Synced past is = cc
left_is (Byte byte) (Held bytes) past is = cc
left_is (Byte byte) Made past is = cc
left_is (Byte byte) Synced past is = cc

-- the past of a file after one more of the calls
pub past_more : (calls : List Call) (file : FileId) (i : ℕ) (call : Call) → call ≡ get_or calls i call → i < length calls → past_of (take (i + 1) calls) file ≡ cond (same_file call.file file) (call.effect ∷ past_of (take i calls) file) (past_of (take i calls) file)
past_more calls file i call is lt = ap (λ (cs : List Call). past_of cs file) (take_more calls i call lt ∙ ap (λ (c : Call). take i calls ++ c ∷ []) (sym is)) ∙ by_file (same_or_other file call.file) where
  by_file : (file ≡ call.file) ⊎ (file ≢ call.file) → past_of (take i calls ++ call ∷ []) file ≡ cond (same_file call.file file) (call.effect ∷ past_of (take i calls) file) (past_of (take i calls) file)
  by_file (inl e) = subst (λ (f : FileId). past_of (take i calls ++ call ∷ []) f ≡ cond (same_file call.file f) (call.effect ∷ past_of (take i calls) f) (past_of (take i calls) f)) (sym e)
      (past_here (take i calls) call.file call.effect ∙ ap (λ (b : Bool). cond b (call.effect ∷ past_of (take i calls) call.file) (past_of (take i calls) call.file)) (sym (same_itself call.file)))
  by_file (inr differs) =
      past_other (take i calls) call.file call.effect file differs
      ∙ ap (λ (b : Bool). cond b (call.effect ∷ past_of (take i calls) file) (past_of (take i calls) file)) (sym (other_not_same call.file file (λ e. differs (sym e))))

-- what is left after the first of the calls, of which the last that durable the file stands before a place
pub record LeftUpTo (calls : List Call) (file : FileId) (fill : Fill) (end i : ℕ) (content : Option (List ℕ)) : Type 0 where
  pub reads : i ≤ end → content ≡ reads_after (past_of (take i calls) file)
  pub left : end ≤ i → content ≡ left_by fill (past_of (take i calls) file)

pub left_first : (calls : List Call) (file : FileId) (fill : Fill) (end : ℕ) → LeftUpTo calls file fill end 0 None
left_first calls file fill end = record {
  reads = λ _. sym (ap reads_after (past_none file));
  left = λ _. sym (ap (left_by fill) (past_none file) ∙ none fill);
} where
  none : (by : Fill) → left_by by [] ≡ None
  none Old = refl
  none Read = refl
  none (Byte byte) = refl

pub left_more : (calls : List Call) (file : FileId) (fill : Fill) (end i : ℕ) (call : Call) (content next : Option (List ℕ)) → call ≡ get_or calls i call → i < length calls → IsDurableAt calls file end
    → next ≡ cond (same_file call.file file) (left_next (cond (nat_lt i end) Read fill) call.effect content) content → LeftUpTo calls file fill end i content → LeftUpTo calls file fill end (i + 1) next
left_more calls file fill end i call content next is lt at next_is upto = by_same (same_file call.file file) refl where
  past : List Effect
  past = past_of (take i calls) file

  same_call : (d : Call) → get_or calls i d ≡ call
  same_call d = get_or_default calls i d call lt ∙ sym is

  Next : Bool → Type 0
  Next same = next ≡ cond same (left_next (cond (nat_lt i end) Read fill) call.effect content) content

  Past : Bool → Type 0
  Past same = past_of (take (i + 1) calls) file ≡ cond same (call.effect ∷ past) past

  by_same : (same : Bool) → same_file call.file file ≡ same → LeftUpTo calls file fill end (i + 1) next
  by_same false e =
      let stays : next ≡ content = subst Next e next_is in
      let before : past_of (take (i + 1) calls) file ≡ past = subst Past e (past_more calls file i call is lt) in
      record {
        reads = λ le. stays ∙ upto.reads (omega (arith, le)) ∙ ap reads_after (sym before);
        left = λ le. elim (cases_lt i end) [
          | inl first ↦
              let durable = at.durable i (omega (arith, le, first)) call in
              absurd (both_ways (same_file call.file file) e ((and_parts (same_file call.file file) (makes_durable call.effect) (ap (λ (c : Call). same_file c.file file && makes_durable c.effect) (sym (same_call call)) ∙ durable)).0))
          | inr later ↦ stays ∙ upto.left later ∙ ap (left_by fill) (sym before)
        ];
      }
  by_same true e =
      let goes : next ≡ left_next (cond (nat_lt i end) Read fill) call.effect content = subst Next e next_is in
      let after : past_of (take (i + 1) calls) file ≡ call.effect ∷ past = subst Past e (past_more calls file i call is lt) in
      elim (cases_lt i end) [
        | inl first ↦
            let read : next ≡ reads_after (call.effect ∷ past) =
            goes ∙ ap (λ (b : Bool). left_next (cond b Read fill) call.effect content) (lt-ltb i end first) ∙ ap (read_next call.effect) (upto.reads (omega (arith, first))) ∙ sym (read_is call.effect past) in
            record {
              reads = λ le. read ∙ ap reads_after (sym after);
              left = λ le.
                  let durable = at.durable i (omega (arith, le, first)) call in
                  let it = (and_parts (same_file call.file file) (makes_durable call.effect) (ap (λ (c : Call). same_file c.file file && makes_durable c.effect) (sym (same_call call)) ∙ durable)).1 in
                  read ∙ sym (durable_is fill call.effect past it) ∙ ap (left_by fill) (sym after);
            }
        | inr later ↦
            let other : makes_durable call.effect ≡ false = ap (λ (b : Bool). b && makes_durable call.effect) (sym e) ∙ ap (λ (c : Call). same_file c.file file && makes_durable c.effect) (sym (same_call call)) ∙ at.after i later lt call in
            record {
              reads = λ le. absurd (let no : ⊥ = omega (arith, le, later) in no);
              left = λ le.
                  goes ∙ ap (λ (b : Bool). left_next (cond b Read fill) call.effect content) (le-ltb i end later) ∙ ap (left_next fill call.effect) (upto.left later) ∙ sym (left_is fill call.effect past other) ∙ ap (left_by fill) (sym after);
            }
      ]

pub left_whole : (calls : List Call) (file : FileId) (fill : Fill) (end i : ℕ) (content : Option (List ℕ)) → IsDurableAt calls file end → length calls ≤ i → LeftUpTo calls file fill end i content → content ≡ left_by fill (past_of calls file)
left_whole calls file fill end i content at all upto = upto.left (omega (arith, all, at.within)) ∙ ap (λ (cs : List Call). left_by fill (past_of cs file)) (take_all i calls all)

-- the same of each file, where one map keeps the places and another what is left
pub each_more : (calls : List Call) (fill : Fill) (ends : FileId → ℕ) (i : ℕ) (call : Call) (by : Fill) (content next : Image) → call ≡ get_or calls i call → i < length calls
    → ((file : FileId) → IsDurableAt calls file (ends file)) → by ≡ cond (nat_lt i (ends call.file)) Read fill
    → ((file : FileId) → next file ≡ cond (same_file call.file file) (left_next by call.effect (content file)) (content file))
    → ((file : FileId) → LeftUpTo calls file fill (ends file) i (content file)) → (file : FileId) → LeftUpTo calls file fill (ends file) (i + 1) (next file)
each_more calls fill ends i call by content next is lt at by_is goes upto file = left_more calls file fill (ends file) i call (content file) (next file) is lt (at file) (its (same_or_other call.file file)) (upto file) where
  Goes : Fill → Type 0
  Goes f = next file ≡ cond (same_file call.file file) (left_next f call.effect (content file)) (content file)

  its : (call.file ≡ file) ⊎ (call.file ≢ file) → Goes (cond (nat_lt i (ends file)) Read fill)
  its (inl e) = subst (λ (g : FileId). Goes (cond (nat_lt i (ends g)) Read fill)) e (subst Goes by_is (goes file))
  its (inr differs) =
      goes file
      ∙ ap (λ (b : Bool). cond b (left_next by call.effect (content file)) (content file)) (other_not_same call.file file differs)
      ∙ ap (λ (b : Bool). cond b (left_next (cond (nat_lt i (ends file)) Read fill) call.effect (content file)) (content file)) (sym (other_not_same call.file file differs))
