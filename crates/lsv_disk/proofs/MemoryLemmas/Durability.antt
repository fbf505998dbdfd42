-- Which call durable a file last.
use Rattle.std.proofs.Common.{◌≡◌, inl, inr, ◌&&◌, ℕ, ◌+◌, ◌<◌, ◌≤◌, Bool, true, false, cond, List, length, get_or, Option, Some, unwrap_or, refl, sym, ◌∙◌, ap, subst, arith}
use Rattle.std.specs.HashMap.{HashMap, get}
use Rattle.std.proofs.lemmas.List.{get_or_default}
use Rattle.std.proofs.lemmas.Bool.{cases_lt}
use Rattle.lsv_disk.specs.declared.file.FileId.{FileId}
use Rattle.lsv_disk.specs.declared.memory.call.Call.{Call}
use Rattle.lsv_disk.specs.Files.{same_file}
use Rattle.lsv_disk.specs.Memory.Stored.{count_for}
use Rattle.lsv_disk.specs.Memory.Images.{makes_durable}

-- it makes_durable the file
abbrev pub makes_durable_it : FileId → Call → Bool
makes_durable_it file call = same_file call.file file && makes_durable call.effect

-- of the first of these calls
pub record DurableUpTo (calls : List Call) (file : FileId) (end i : ℕ) : Type 0 where
  pub within : end ≤ i
  pub durable : (before : ℕ) → end ≡ before + 1 → (d : Call) → makes_durable_it file (get_or calls before d) ≡ true
  pub after : (k : ℕ) → end ≤ k → k < i → (d : Call) → makes_durable_it file (get_or calls k d) ≡ false

pub durable_here : (calls : List Call) (file : FileId) (end i : ℕ) (call : Call) → call ≡ get_or calls i call → i < length calls → makes_durable_it file call ≡ true → DurableUpTo calls file end i → DurableUpTo calls file (i + 1) (i + 1)
durable_here calls file end i call is lt here upto = record {
  within = omega arith;
  durable = λ before e d.
      let at : i ≡ before = omega (arith, e) in
      subst (λ (k : ℕ). makes_durable_it file (get_or calls k d) ≡ true) at (ap (makes_durable_it file) (get_or_default calls i d call lt ∙ sym is) ∙ here);
  after = λ k from to d. absurd (let no : ⊥ = omega (arith, from, to) in no);
}

pub durable_before : (calls : List Call) (file : FileId) (end i : ℕ) (call : Call) → call ≡ get_or calls i call → i < length calls → makes_durable_it file call ≡ false → DurableUpTo calls file end i → DurableUpTo calls file end (i + 1)
durable_before calls file end i call is lt other upto = record {
  within = omega (arith, upto.within);
  durable = upto.durable;
  after = λ k from to d. elim (cases_lt k i) [
    | inl less ↦ upto.after k from less d
    | inr last ↦
        let at : i ≡ k = omega (arith, last, to) in
        subst (λ (m : ℕ). makes_durable_it file (get_or calls m d) ≡ false) at (ap (makes_durable_it file) (get_or_default calls i d call lt ∙ sym is) ∙ other)
  ];
}

-- after one more of the calls, for each file by what was kept for it
module _ (calls : List Call) (was : FileId → ℕ) (i : ℕ) (call : Call) (is : call ≡ get_or calls i call) (lt : i < length calls)
    (upto : (file : FileId) → DurableUpTo calls file (was file) i) where
  pub all_durable : (now : FileId → ℕ) → makes_durable call.effect ≡ true → ((file : FileId) → now file ≡ cond (same_file call.file file) (i + 1) (was file)) → (file : FileId) → DurableUpTo calls file (now file) (i + 1)
  all_durable now does at file = by_same (same_file call.file file) refl where
    by_same : (same : Bool) → same_file call.file file ≡ same → DurableUpTo calls file (now file) (i + 1)
    by_same true e = subst (λ (end : ℕ). DurableUpTo calls file end (i + 1)) (sym (at file ∙ ap (λ (b : Bool). cond b (i + 1) (was file)) e))
        (durable_here calls file (was file) i call is lt (ap (λ (b : Bool). b && makes_durable call.effect) e ∙ does) (upto file))
    by_same false e = subst (λ (end : ℕ). DurableUpTo calls file end (i + 1)) (sym (at file ∙ ap (λ (b : Bool). cond b (i + 1) (was file)) e))
        (durable_before calls file (was file) i call is lt (ap (λ (b : Bool). b && makes_durable call.effect) e) (upto file))

  pub none_durable : makes_durable call.effect ≡ false → (file : FileId) → DurableUpTo calls file (was file) (i + 1)
  none_durable not file = durable_before calls file (was file) i call is lt (ap (λ (b : Bool). same_file call.file file && b) not ∙ and_false (same_file call.file file)) (upto file) where
    and_false : (b : Bool) → (b && false) ≡ false
    and_false true = refl
    and_false false = refl

-- what is kept for a file where one is put
pub kept_for : {S : Type 0} (was put now : HashMap FileId ℕ S) (file : FileId) (n : ℕ) → now ≡ put → ((g : FileId) → get same_file put g ≡ cond (same_file file g) (Some n) (get same_file was g))
    → (g : FileId) → count_for now g ≡ cond (same_file file g) n (count_for was g)
kept_for {S} was put now file n same puts g = ap (λ (m : HashMap FileId ℕ S). count_for m g) same ∙ ap (λ (o : Option ℕ). unwrap_or o 0) (puts g) ∙ either (same_file file g) (get same_file was g) where
  either : (b : Bool) (o : Option ℕ) → unwrap_or (cond b (Some n) o) 0 ≡ cond b n (unwrap_or o 0)
  either true o = refl
  either false o = refl

pub stays_for : {S : Type 0} (was now : HashMap FileId ℕ S) → now ≡ was → (g : FileId) → count_for was g ≡ count_for now g
stays_for {S} was now same g = ap (λ (m : HashMap FileId ℕ S). count_for m g) (sym same)
