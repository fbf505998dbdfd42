-- What the two steps of an append leave of the bytes of a file.
use Rattle.std.proofs.Common.{◌≡◌, ◌≢◌, ◌⊎◌, inl, inr, ℕ, ◌+◌, ◌≤◌, ◌==◌, true, List, [], ◌∷◌, ◌++◌, length, take, drop, get_or, Some, None, if◌then◌else◌, refl, sym, ◌∙◌, ap, subst, arith}
use Rattle.std.proofs.lemmas.List.{get_or-drop, take_at, drop-drop}
use Rattle.std.proofs.lemmas.Bool.{cases_eq}
use Rattle.lsv_defs.specs.Pieces.{piece}
use Rattle.lsv_disk.specs.Bytes.{overwritten, TornBytes}
use Rattle.lsv_journal.specs.declared.slot.Slot.{Slot}
use Rattle.lsv_journal.specs.declared.slot.Slot.TheVariants.{First, Second}
use Rattle.lsv_journal.specs.Slots.{selected, has_entry, entry_of}
use Rattle.lsv_journal.specs.Represents.{begin, free_slot, free, Stands, IsReady, IsPrepared, Keeps}
use Rattle.lsv_journal.specs.Writing.{Selects}
use Rattle.lsv_journal.proofs.Slots.{selected_first, selected_either, selected_same, has_by, gate_of, room_of, entry_by, closed_none}
use Rattle.lsv_journal.proofs.Overwriting.{from_there, over_part, over_reaches, over_torn, over_byte, byte_before, byte_after, piece_before, piece_after}

-- of the two slots one is selected, and the other is free
pub first_or_second : (n : ℕ) (slot : Slot) → ((begin n slot ≡ 2) × (free n (Some slot) ≡ n + 2)) ⊎ ((begin n slot ≡ n + 2) × (free n (Some slot) ≡ 2))
first_or_second n First = inl (refl, refl)
first_or_second n Second = inr (refl, refl)

-- where a file stands, the free slot begins within it
pub free_reaches : (n : ℕ) (slot : Slot) (bytes : List ℕ) → Stands n bytes (Some slot) → (2 ≤ length bytes) × (free n (Some slot) ≤ length bytes)
free_reaches n slot bytes stands =
    let room = room_of n bytes stands.0 in
    elim (first_or_second n slot) [
      | inl is ↦ (omega (arith, room, stands.1, is.0), omega (arith, room, stands.1, is.0, is.1))
      | inr is ↦ (omega (arith, room, stands.1, is.0), omega (arith, room, stands.1, is.0, is.1))
    ]

-- a file without an entry whose first slot is written
module _ (n : ℕ) (old : List ℕ) (stands : Stands n old None) where
  pub torn_first : (new : List ℕ) → TornBytes 1 (n + 1) old new → Keeps n None old new
  torn_first new torn =
      let closed : get_or new 0 0 ≢ 1 = λ is. stands.1 (sym (byte_before 1 (n + 1) old new torn 0 (omega arith)) ∙ is) in
      record {
        stands = (omega (arith, stands.0, torn.no_shorter), closed);
        entry = closed_none n new closed ∙ sym (closed_none n old stands.1);
        keeps = λ some. absurd (some (closed_none n old stands.1));
        selects = λ some. absurd (some (closed_none n old stands.1));
        no_longer = omega (arith, torn.no_longer);
      }

  pub prepared_first : (body new : List ℕ) → length body ≡ n → new ≡ overwritten 1 (0 ∷ body) old → IsPrepared n new None (Some body)
  prepared_first body new long is = (record { within = reaches; selects = λ _. other }, part) where
    there : drop 1 new ≡ 0 ∷ (body ++ drop (1 + length (0 ∷ body)) old)
    there = ap (drop 1) is ∙ from_there 1 (0 ∷ body) old (omega (arith, stands.0))

    reaches : 2 + n ≤ length new
    reaches = let e : 1 + length (0 ∷ body) ≤ length new = subst (λ (b : List ℕ). 1 + length (0 ∷ body) ≤ length b) (sym is) (over_reaches 1 (0 ∷ body) old (omega (arith, stands.0))) in omega (arith, e, long)

    selector : get_or new 1 0 ≡ 0
    selector = sym (get_or-drop 1 new 0 0) ∙ ap (λ (b : List ℕ). get_or b 0 0) there

    other : get_or new 1 0 ≢ 1
    other is_one = let no : ⊥ = omega (arith, selector, is_one) in no

    part : piece new 2 n ≡ body
    part = ap (take n) (sym (drop-drop 1 1 new) ∙ ap (drop 1) there) ∙ take_at body (drop (1 + length (0 ∷ body)) old) n long

-- a file with an entry whose free slot is written
module _ (n : ℕ) (slot : Slot) (old : List ℕ) (stands : Stands n old (Some slot)) where
  pub torn_other : (new : List ℕ) → TornBytes (free n (Some slot)) n old new → Keeps n (Some slot) old new
  torn_other new torn = record {
    stands = (has, same ∙ stands.1);
    entry = entry_by n new has ∙ ap (λ (b : List ℕ). Some b) (ap (λ (k : ℕ). piece new k n) same ∙ body) ∙ sym (entry_by n old stands.0);
    keeps = λ _. body;
    selects = λ _. same;
    no_longer = elim (first_or_second n slot) [ inl is ↦ omega (arith, torn.no_longer, is.1) | inr is ↦ omega (arith, torn.no_longer, is.1) ];
  } where
    behind : 2 ≤ free n (Some slot)
    behind = elim (first_or_second n slot) [ inl is ↦ omega (arith, is.1) | inr is ↦ omega (arith, is.1) ]

    same : selected n new ≡ selected n old
    same = selected_same n old new (byte_before (free n (Some slot)) n old new torn 1 (omega (arith, behind)))

    has : has_entry n new ≡ true
    has = has_by n new (byte_before (free n (Some slot)) n old new torn 0 (omega (arith, behind)) ∙ gate_of n old stands.0) (omega (arith, same, room_of n old stands.0, torn.no_shorter))

    body : piece new (selected n old) n ≡ piece old (selected n old) n
    body = elim (first_or_second n slot) [
      | inl is ↦ piece_before (free n (Some slot)) n old new torn (selected n old) n (omega (arith, stands.1, is.0, is.1))
      | inr is ↦ piece_after (free n (Some slot)) n old new torn (selected n old) n (omega (arith, stands.1, is.0, is.1))
    ]

  pub prepared_other : (body new : List ℕ) → length body ≡ n → new ≡ overwritten (free n (Some slot)) body old → IsPrepared n new (Some slot) (Some body)
  prepared_other body new long is = (record { within = reaches; selects = λ none. absurd (let no : ⊥ = cc in no) }, part) where
    at : free n (Some slot) ≤ length old
    at = (free_reaches n slot old stands).1

    reaches : free n (Some slot) + n ≤ length new
    reaches = let e : free n (Some slot) + length body ≤ length new = subst (λ (b : List ℕ). free n (Some slot) + length body ≤ length b) (sym is) (over_reaches (free n (Some slot)) body old at) in omega (arith, e, long)

    part : piece new (free n (Some slot)) n ≡ body
    part = ap (λ (b : List ℕ). piece b (free n (Some slot)) n) is ∙ subst (λ (k : ℕ). piece (overwritten (free n (Some slot)) body old) (free n (Some slot)) k ≡ body) long (over_part (free n (Some slot)) body old at)

-- a file without an entry whose gate is written
module _ (n : ℕ) (old : List ℕ) (stands : Stands n old None) (ready : IsReady n old None) where
  module _ (new : List ℕ) (torn : TornBytes 0 1 old new) where
    at_first : selected n new ≡ 2
    at_first = selected_first n new (λ is. ready.selects refl (sym (byte_after 0 1 old new torn 1 (omega arith)) ∙ is))

    open_has : get_or new 0 0 ≡ 1 → has_entry n new ≡ true
    open_has open_gate = has_by n new open_gate (omega (arith, at_first, ready.within, torn.no_shorter))

    open_entry : get_or new 0 0 ≡ 1 → entry_of n new ≡ Some (piece old 2 n)
    open_entry open_gate = entry_by n new (open_has open_gate) ∙ ap (λ (b : List ℕ). Some b) (ap (λ (k : ℕ). piece new k n) at_first ∙ piece_after 0 1 old new torn 2 n (omega arith))

    pub torn_gate : Selects n None old new
    torn_gate = record {
      entry = elim (cases_eq (get_or new 0 0) 1) [
        | inl open_gate ↦ inr (open_entry open_gate)
        | inr closed ↦ inl (closed_none n new closed ∙ sym (closed_none n old stands.1))
      ];
      keeps = λ some. absurd (some (closed_none n old stands.1));
      no_longer = omega (arith, torn.no_longer, stands.0);
    }

  pub selected_gate : (new : List ℕ) → new ≡ overwritten 0 (1 ∷ []) old → Stands n new (Some First) × (entry_of n new ≡ Some (piece old 2 n))
  selected_gate new is =
      let torn : TornBytes 0 1 old new = subst (λ (b : List ℕ). TornBytes 0 1 old b) (sym is) (over_torn 0 (1 ∷ []) old (omega arith)) in
      let open_gate : get_or new 0 0 ≡ 1 = ap (λ (b : List ℕ). get_or b 0 0) is ∙ over_byte 0 1 [] old (omega arith) in
      ((open_has new torn open_gate, at_first new torn), open_entry new torn open_gate)

-- a file with an entry whose selector is written
module _ (n : ℕ) (slot : Slot) (old : List ℕ) (stands : Stands n old (Some slot)) (ready : IsReady n old (Some slot)) where
  module _ (new : List ℕ) (torn : TornBytes 1 1 old new) where
    chosen_has : (at : ℕ) → selected n new ≡ at → at + n ≤ length old → has_entry n new ≡ true
    chosen_has at is room = has_by n new (byte_before 1 1 old new torn 0 (omega arith) ∙ gate_of n old stands.0) (omega (arith, is, room, torn.no_shorter))

    pub chosen_entry : (at : ℕ) → selected n new ≡ at → 2 ≤ at → at + n ≤ length old → entry_of n new ≡ Some (piece old at n)
    chosen_entry at is behind room = entry_by n new (chosen_has at is room) ∙ ap (λ (b : List ℕ). Some b) (ap (λ (k : ℕ). piece new k n) is ∙ piece_after 1 1 old new torn at n (omega (arith, behind)))

    behind_selected : 2 ≤ selected n old
    behind_selected = elim (selected_either n old) [ inl is ↦ omega (arith, is) | inr is ↦ omega (arith, is) ]

    behind_free : 2 ≤ free n (Some slot)
    behind_free = elim (first_or_second n slot) [ inl is ↦ omega (arith, is.1) | inr is ↦ omega (arith, is.1) ]

    as_before : selected n new ≡ selected n old → entry_of n new ≡ entry_of n old
    as_before is = chosen_entry (selected n old) is behind_selected (room_of n old stands.0) ∙ sym (entry_by n old stands.0)

    pub as_free : selected n new ≡ free n (Some slot) → entry_of n new ≡ Some (piece old (free n (Some slot)) n)
    as_free is = chosen_entry (free n (Some slot)) is behind_free ready.within

    pub free_stands : selected n new ≡ free n (Some slot) → Stands n new (Some (free_slot (Some slot)))
    free_stands is = (chosen_has (free n (Some slot)) is ready.within, is)

    pub torn_selector : Selects n (Some slot) old new
    torn_selector = record {
      entry = elim (first_or_second n slot) [
        | inl is ↦ elim (selected_either n new) [ inl first ↦ inl (as_before (first ∙ sym is.0 ∙ sym stands.1)) | inr second ↦ inr (as_free (second ∙ sym is.1)) ]
        | inr is ↦ elim (selected_either n new) [ inl first ↦ inr (as_free (first ∙ sym is.1)) | inr second ↦ inl (as_before (second ∙ sym is.0 ∙ sym stands.1)) ]
      ];
      keeps = λ _. piece_after 1 1 old new torn (selected n old) n (omega (arith, behind_selected));
      no_longer = omega (arith, torn.no_longer, (free_reaches n slot old stands).0);
    }

  pub selected_selector : (byte : ℕ) (new : List ℕ) → (if byte == 1 then n + 2 else 2) ≡ free n (Some slot) → new ≡ overwritten 1 (byte ∷ []) old → Stands n new (Some (free_slot (Some slot))) × (entry_of n new ≡ Some (piece old (free n (Some slot)) n))
  selected_selector byte new chooses is =
      let at : 1 ≤ length old = omega (arith, (free_reaches n slot old stands).0) in
      let torn : TornBytes 1 1 old new = subst (λ (b : List ℕ). TornBytes 1 1 old b) (sym is) (over_torn 1 (byte ∷ []) old at) in
      let selector : get_or new 1 0 ≡ byte = ap (λ (b : List ℕ). get_or b 1 0) is ∙ over_byte 1 byte [] old at in
      let chosen : selected n new ≡ free n (Some slot) = ap (λ (b : ℕ). if b == 1 then n + 2 else 2) selector ∙ chooses in
      (free_stands new torn chosen, as_free new torn chosen)
