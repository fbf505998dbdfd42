-- The member of a oneof that is set is read back.
use Rattle.std.proofs.Common.{◌≡◌, ℕ, ◌^◌, ◌<◌, ◌≤◌, List, [], ◌∷◌, ◌++◌, length, drop, Option, Some, None, Result, Ok, refl, arith, inl, inr}
use Rattle.std.specs.Prelude.{◌⊎◌}
use Rattle.std.specs.List.{AllByRecursion}
use Rattle.lsv_wire.specs.declared.field.Field.{Field}
use Rattle.lsv_wire.specs.declared.field.FieldValue.{FieldValue}
use Rattle.lsv_msg.specs.declared.fault.MsgFault.{MsgFault}
use Rattle.lsv_msg.specs.Format.{Kind, Member, chosen, oneof}
use Rattle.lsv_msg.proofs.Back.{IsNumber, KindBack, Acts, Found, one_field, other_number}

abbrev pub AreWithin : {M : Type 0} → ℕ → ℕ → List (Member M) → Type 0
AreWithin lo hi members = AllByRecursion (λ x. (lo ≤ x.number) × (x.number ≤ hi)) members

apart : (n number lo hi : ℕ) → (n < lo) ⊎ (hi < n) → lo ≤ number → number ≤ hi → (n < number) ⊎ (number < n)
apart n number lo hi (inl lt) low high = inl (omega arith)
apart n number lo hi (inr lt) low high = inr (omega arith)

pub chosen_passes : {M : Type 0} (members : List (Member M)) (lo hi : ℕ) → AreWithin lo hi members → (text : List ℕ) (s : Option M) (f : Field) → (f.number < lo) ⊎ (hi < f.number) → chosen members text s f ≡ Ok s
chosen_passes [] lo hi within text s f other = refl
chosen_passes (x ∷ xs) lo hi within text s f other =
    rw (other_number f.number x.number (apart f.number x.number lo hi other within.0.0 within.0.1)) (chosen_passes xs lo hi within.1 text s f other)

-- the member of this number is read back where the others pass over its field
pub member_found : {A M U : Type 0} (members : List (Member M)) (kind : Kind A) (Fits : A → Type 0) → KindBack kind Fits → (number lo hi : ℕ) → IsNumber number → lo ≤ number → number ≤ hi → (m : M)
    → (larger : ℕ → U → Field → Result U MsgFault) (put : Option M → U) (text rest : List ℕ) (at : ℕ) (a : A) → Fits a → length text < 2 ^ 64
    → Acts ((oneof members).take text) lo hi larger put → drop at text ≡ kind.write number a ++ rest
    → ((value : FieldValue) → kind.read text (record { number = number; value = value }) ≡ Ok a → chosen members text None (record { number = number; value = value }) ≡ Ok (Some m))
    → Found (oneof members) larger put text rest at (Some m)
member_found members kind Fits back number lo hi n low high m larger put text rest at a fits small acts is chooses =
    let h = back text rest at number a fits n small is in
    let f : Field = record { number = number; value = h.value } in
    record {
      state = Some m;
      next = h.next;
      behind = h.stands.behind;
      whole = refl;
      same = one_field larger text at (put None) (put (Some m)) f h.next rest h.stands (acts at None (Some m) f low high (chooses h.value h.reads));
    }
