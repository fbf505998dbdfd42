-- What a crash may leave, call by call, is what it may leave by the durable bytes and the ranges since.
use Rattle.std.proofs.Common.{◌≡◌, ◌⊎◌, inl, inr, ◌&&◌, ℕ, ◌+◌, ◌-◌, ◌<◌, ◌≤◌, max, min, nat_lt, nat_le, cond, is_none, Bool, true, false, List, [], ◌∷◌, map, length, take, drop, get_or, Option, Some, None, refl, sym, ◌∙◌, ap, subst, arith}
use Rattle.std.specs.List.{range_with_len}
use Rattle.std.proofs.lemmas.Bool.{and_parts, and_left, and_right, cases_lt, and_from, lt-ltb, le-ltb, le-leb, lt-leb}
use Rattle.std.proofs.lemmas.List.{get_or-take, get_or-drop, length-take, length-drop, ext_get_or}
use Rattle.std.proofs.lemmas.List.FromFn.{length-map-range_with_len, get_or-map-range_with_len}
use Rattle.lsv_disk.specs.declared.memory.call.Effect.{Effect}
use Rattle.lsv_disk.specs.declared.memory.call.Effect.TheVariants.{Held, Made, NotMade, NotRead, Written, NotWritten, Synced, NotSynced}
use Rattle.lsv_disk.specs.Bytes.{written, bytes_of, Torn, TornBytes, Reaches}
use Rattle.lsv_disk.specs.Memory.Calls.{reads_after, MayLeave, reaches, is_legal}
use Rattle.lsv_disk.specs.Memory.Images.{durable_after}
use Rattle.lsv_disk.specs.Memory.Flat.{IsIn, IsUnsynced, longest_after, MayBeMade, IsLeftBytes, IsLeftFrom, IsLeftAfter}
use Rattle.lsv_disk.specs.Memory.Laws.{MayLeave-reads}
use Rattle.lsv_disk.proofs.MemoryLemmas.Noting.{reaches_by_true}
use Rattle.lsv_disk.proofs.MemoryLemmas.Outcomes.{torn_written}
use Rattle.lsv_disk.proofs.MemoryLemmas.Imaging.{length_written}

-- a file that was durable is there for a read, and one that wasn't isn't
abbrev pub AreAlike : Option (List ℕ) → Option (List ℕ) → Type 0
AreAlike None None = Unit {0}
AreAlike (Some a) (Some b) = Unit {0}
AreAlike None (Some b) = ⊥
AreAlike (Some a) None = ⊥

alike_itself : (file : Option (List ℕ)) → AreAlike file file
alike_itself None = tt
alike_itself (Some bytes) = tt

alike_written : (at : ℕ) (bytes : List ℕ) (durable reads : Option (List ℕ)) → AreAlike durable reads → AreAlike durable (written at bytes reads)
alike_written at bytes None None alike = tt
alike_written at bytes (Some a) (Some b) alike = tt
alike_written at bytes None (Some b) alike = absurd alike
alike_written at bytes (Some a) None alike = absurd alike

pub durable_alike : (past : List Effect) → AreAlike (durable_after past) (reads_after past)
durable_alike [] = tt
durable_alike (Held bytes ∷ past) = tt
durable_alike (Made ∷ past) = tt
durable_alike (Synced ∷ past) = alike_itself (reads_after past)
durable_alike (NotMade ∷ past) = durable_alike past
durable_alike (NotRead ∷ past) = durable_alike past
durable_alike (Written at bytes ∷ past) = alike_written at bytes.items (durable_after past) (reads_after past) (durable_alike past)
durable_alike (NotWritten at n ∷ past) = durable_alike past
durable_alike (NotSynced ∷ past) = durable_alike past

-- it was never longer than the greatest length since
abbrev pub IsUpTo : ℕ → Option (List ℕ) → Type 0
IsUpTo longest file = length (bytes_of file) ≤ longest

upto_written : (longest at : ℕ) (bytes : List ℕ) (file : Option (List ℕ)) → Reaches file at → IsUpTo longest file → IsUpTo (max longest (at + length bytes)) (written at bytes file)
upto_written longest at bytes None place upto = absurd place
upto_written longest at bytes (Some old) place upto = omega (arith, upto, length_written at bytes old place)

legal_place : (past : List Effect) (at : ℕ) → (reaches (reads_after past) at && is_legal past) ≡ true → Reaches (reads_after past) at
legal_place past at legal = reaches_by_true (reads_after past) at ((and_parts (reaches (reads_after past) at) (is_legal past) legal).0)

legal_before : (past : List Effect) (test : Bool) → (test && is_legal past) ≡ true → is_legal past ≡ true
legal_before past test legal = (and_parts test (is_legal past) legal).1

pub reads_upto : (past : List Effect) → is_legal past ≡ true → IsUpTo (longest_after past) (reads_after past)
reads_upto [] legal = omega arith
reads_upto (Held bytes ∷ past) legal = omega arith
reads_upto (Made ∷ past) legal = omega arith
reads_upto (Synced ∷ past) legal = omega arith
reads_upto (NotMade ∷ past) legal = reads_upto past (legal_before past (is_none (reads_after past)) legal)
reads_upto (NotRead ∷ past) legal = reads_upto past legal
reads_upto (NotSynced ∷ past) legal = reads_upto past legal
reads_upto (Written at bytes ∷ past) legal = upto_written (longest_after past) at bytes.items (reads_after past) (legal_place past at legal) (reads_upto past (legal_before past (reaches (reads_after past) at) legal))
reads_upto (NotWritten at n ∷ past) legal = let upto = reads_upto past (legal_before past (reaches (reads_after past) at) legal) in omega (arith, upto)

pub durable_upto : (past : List Effect) → IsUpTo (longest_after past) (durable_after past)
durable_upto [] = omega arith
durable_upto (Held bytes ∷ past) = omega arith
durable_upto (Made ∷ past) = omega arith
durable_upto (Synced ∷ past) = omega arith
durable_upto (NotMade ∷ past) = durable_upto past
durable_upto (NotRead ∷ past) = durable_upto past
durable_upto (NotSynced ∷ past) = durable_upto past
durable_upto (Written at bytes ∷ past) = let upto = durable_upto past in omega (arith, upto)
durable_upto (NotWritten at n ∷ past) = let upto = durable_upto past in omega (arith, upto)

place_upto : (longest at : ℕ) (file : Option (List ℕ)) → Reaches file at → IsUpTo longest file → at ≤ longest
place_upto longest at None place upto = absurd place
place_upto longest at (Some bytes) place upto = omega (arith, place, upto)

-- bytes that a write had not in its range
outside : (at n : ℕ) (old new : List ℕ) → TornBytes at n old new → (k : ℕ) → (IsIn at n k → ⊥) → get_or new k 0 ≡ get_or old k 0
outside at n old new torn k out = elim (cases_lt k at) [
  | inl before ↦ sym (get_or-take at new k 0 before) ∙ ap (λ (b : List ℕ). get_or b k 0) torn.before ∙ get_or-take at old k 0 before
  | inr from ↦ elim (cases_lt k (at + n)) [
    | inl within ↦ absurd (out (from, within))
    | inr after ↦
        let e : (at + n) + (k - (at + n)) ≡ k = omega (arith, after) in
        ap (λ (j : ℕ). get_or new j 0) (sym e) ∙ sym (get_or-drop (at + n) new (k - (at + n)) 0) ∙ ap (λ (b : List ℕ). get_or b (k - (at + n)) 0) torn.after ∙ get_or-drop (at + n) old (k - (at + n)) 0 ∙ ap (λ (j : ℕ). get_or old j 0) e
  ]
]

module _ (Unsynced : ℕ → Type 0) (longest : ℕ) (Creates : Type 0) (at n : ℕ) where
  abbrev Next : Option (List ℕ) → Option (List ℕ) → Type 0
  Next = IsLeftFrom (λ k. IsIn at n k ⊎ Unsynced k) (max longest (at + n)) Creates

  -- a write, on what was left before it
  pub torn_left : (durable reads d c : Option (List ℕ)) → AreAlike durable reads → Reaches reads at → IsLeftFrom Unsynced longest Creates durable d → Torn at n d c → Next durable c
  torn_left (Some s) reads (Some d) (Some c) alike place left torn = record {
    no_shorter = omega (arith, left.no_shorter, torn.no_shorter);
    no_longer = omega (arith, left.no_longer, torn.no_longer);
    same = λ k lt out. outside at n d c torn k (λ is. out (inl is)) ∙ left.same k lt (λ is. out (inr is));
  }
  torn_left (Some s) reads (Some d) None alike place left torn = torn
  torn_left (Some s) reads None c alike place left torn = absurd left
  torn_left None None d c alike place left torn = absurd place
  torn_left None (Some r) d c alike place left torn = absurd alike

  -- what was left before it, by what is left after it
  module _ (s c : List ℕ) (place : at ≤ longest) (upto : length s ≤ longest) (left : IsLeftBytes (λ k. IsIn at n k ⊎ Unsynced k) (max longest (at + n)) s c) where
    in_range : ℕ → Bool
    in_range k = (nat_le at k && nat_lt k (at + n)) && nat_lt k (length s)

    byte_before : ℕ → ℕ
    byte_before k = cond (in_range k) (get_or s k 0) (get_or c k 0)

    -- the range of the write has the durable bytes, and all else is as it is left after it
    pub before : List ℕ
    before = map byte_before (range_with_len 0 (min (length c) longest))

    before_length : length before ≡ min (length c) longest
    unfolding before
    before_length = length-map-range_with_len byte_before 0 (min (length c) longest)

    at_before : (k : ℕ) → k < min (length c) longest → get_or before k 0 ≡ cond (in_range k) (get_or s k 0) (get_or c k 0)
    unfolding before byte_before
    at_before k lt = get_or-map-range_with_len byte_before 0 (min (length c) longest) k k 0 lt (omega arith)

    in_true : (k : ℕ) → at ≤ k → k < at + n → k < length s → in_range k ≡ true
    unfolding in_range
    in_true k from to below = and_from (nat_le at k && nat_lt k (at + n)) (nat_lt k (length s)) (and_from (nat_le at k) (nat_lt k (at + n)) (le-leb at k from) (lt-ltb k (at + n) to)) (lt-ltb k (length s) below)

    in_front : (k : ℕ) → k < at → in_range k ≡ false
    unfolding in_range
    in_front k lt = and_left (nat_le at k && nat_lt k (at + n)) (nat_lt k (length s)) (and_left (nat_le at k) (nat_lt k (at + n)) (lt-leb at k lt))

    in_rest : (k : ℕ) → at + n ≤ k → in_range k ≡ false
    unfolding in_range
    in_rest k le = and_left (nat_le at k && nat_lt k (at + n)) (nat_lt k (length s)) (and_right (nat_le at k) (nat_lt k (at + n)) (le-ltb k (at + n) le))

    kept_byte : (k : ℕ) → k < min (length c) longest → in_range k ≡ false → get_or before k 0 ≡ get_or c k 0
    kept_byte k lt out = at_before k lt ∙ ap (λ (b : Bool). cond b (get_or s k 0) (get_or c k 0)) out

    same_front : take at c ≡ take at before
    same_front = ext_get_or 0 (take at c) (take at before) (omega (arith, length-take at c, length-take at before, before_length, place))
        (λ i lt.
        let in_at : i < at = omega (arith, lt, length-take at c) in
        get_or-take at c i 0 in_at ∙ sym (kept_byte i (omega (arith, lt, length-take at c, place)) (in_front i in_at)) ∙ sym (get_or-take at before i 0 in_at))

    same_rest : drop (at + n) c ≡ drop (at + n) before
    same_rest = ext_get_or 0 (drop (at + n) c) (drop (at + n) before) (omega (arith, length-drop (at + n) c, length-drop (at + n) before, before_length, left.no_longer))
        (λ i lt.
        get_or-drop (at + n) c i 0
        ∙ sym (kept_byte (at + n + i) (omega (arith, lt, length-drop (at + n) c, left.no_longer)) (in_rest (at + n + i) (omega arith)))
        ∙ sym (get_or-drop (at + n) before i 0))

    pub before_torn : TornBytes at n before c
    before_torn = record {
      before = same_front;
      after = same_rest;
      no_shorter = omega (arith, before_length);
      no_longer = omega (arith, before_length, left.no_longer);
    }

    pub before_left : IsLeftBytes Unsynced longest s before
    before_left = record {
      no_shorter = omega (arith, before_length, left.no_shorter, upto);
      no_longer = omega (arith, before_length);
      same = λ k lt out.
          let within : k < min (length c) longest = omega (arith, lt, left.no_shorter, upto) in
          elim (cases_lt k at) [
            | inl front ↦ kept_byte k within (in_front k front) ∙ left.same k lt (λ is. elim is [ inl range ↦ (let no : ⊥ = omega (arith, front, range.0) in no) | inr was ↦ out was ])
            | inr from ↦ elim (cases_lt k (at + n)) [
              | inl to ↦ at_before k within ∙ ap (λ (b : Bool). cond b (get_or s k 0) (get_or c k 0)) (in_true k from to lt)
              | inr rest ↦ kept_byte k within (in_rest k rest) ∙ left.same k lt (λ is. elim is [ inl range ↦ (let no : ⊥ = omega (arith, rest, range.1) in no) | inr was ↦ out was ])
            ]
          ];
    }

  -- so what is left after it is a write on what was left before it
  pub left_torn : (durable reads c : Option (List ℕ)) → AreAlike durable reads → Reaches reads at → IsUpTo longest reads → IsUpTo longest durable → Next durable c → (d : Option (List ℕ)) × IsLeftFrom Unsynced longest Creates durable d × Torn at n d c
  left_torn (Some s) reads (Some c) alike place upto durable_to left =
      (Some (before s c (place_upto longest at reads place upto) durable_to left), before_left s c (place_upto longest at reads place upto) durable_to left, before_torn s c (place_upto longest at reads place upto) durable_to left)
  left_torn (Some s) reads None alike place upto durable_to left = absurd left
  left_torn None None c alike place upto durable_to left = absurd place
  left_torn None (Some r) c alike place upto durable_to left = absurd alike

-- a create that failed
made_left : (Unsynced : ℕ → Type 0) (longest : ℕ) (Creates : Type 0) (durable c : Option (List ℕ)) → IsLeftFrom Unsynced longest Creates durable c → IsLeftFrom Unsynced longest (Unit {0}) durable c
made_left Unsynced longest Creates (Some s) (Some c) left = left
made_left Unsynced longest Creates (Some s) None left = absurd left
made_left Unsynced longest Creates None None left = tt
made_left Unsynced longest Creates None (Some c) left = (tt, left.1)

absent_alike : (durable reads : Option (List ℕ)) → AreAlike durable reads → is_none reads ≡ true → durable ≡ None
absent_alike None reads alike none = refl
absent_alike (Some s) None alike none = absurd alike
absent_alike (Some s) (Some r) alike none = absurd (let no : ⊥ = cc in no)

legal_absent : (past : List Effect) → (is_none (reads_after past) && is_legal past) ≡ true → durable_after past ≡ None
legal_absent past legal = absent_alike (durable_after past) (reads_after past) (durable_alike past) ((and_parts (is_none (reads_after past)) (is_legal past) legal).0)

-- what is durable alone
durable_left : (Unsynced : ℕ → Type 0) (longest : ℕ) (Creates : Type 0) (file : Option (List ℕ)) → length (bytes_of file) ≤ longest → IsLeftFrom Unsynced longest Creates file file
durable_left Unsynced longest Creates None long = tt
durable_left Unsynced longest Creates (Some bytes) long = record { no_shorter = omega arith; no_longer = long; same = λ k lt out. refl }

left_durable : (Creates : Type 0) (file c : Option (List ℕ)) → (Creates → ⊥) → IsLeftFrom (λ k. ⊥) (length (bytes_of file)) Creates file c → c ≡ file
left_durable Creates None None not left = refl
left_durable Creates None (Some c) not left = absurd (not left.0)
left_durable Creates (Some s) None not left = absurd left
left_durable Creates (Some s) (Some c) not left =
    let long : length c ≡ length s = omega (arith, left.no_shorter, left.no_longer) in
    ap (λ (b : List ℕ). Some b) (ext_get_or 0 c s long (λ i lt. left.same i (omega (arith, lt, long)) (λ none. none)))

made_from : (Unsynced : ℕ → Type 0) (longest : ℕ) (durable c : Option (List ℕ)) → durable ≡ None → c ≡ Some [] → IsLeftFrom Unsynced longest (Unit {0}) durable c
made_from Unsynced longest durable c none is = subst (λ (o : Option (List ℕ)). IsLeftFrom Unsynced longest (Unit {0}) o c) (sym none) (subst (λ (o : Option (List ℕ)). IsLeftFrom Unsynced longest (Unit {0}) None o) (sym is) (tt, refl))

pub flat : (past : List Effect) → is_legal past ≡ true → (c : Option (List ℕ)) → MayLeave past c → IsLeftAfter past c
flat [] legal c may = subst (λ (o : Option (List ℕ)). IsLeftFrom (λ k. ⊥) 0 ⊥ None o) (sym may) tt
flat (Held bytes ∷ past) legal c may = subst (λ (o : Option (List ℕ)). IsLeftFrom (λ k. ⊥) (length bytes.items) ⊥ (Some bytes.items) o) (sym may) (durable_left (λ k. ⊥) (length bytes.items) ⊥ (Some bytes.items) (omega arith))
flat (Made ∷ past) legal c may = subst (λ (o : Option (List ℕ)). IsLeftFrom (λ k. ⊥) 0 ⊥ (Some []) o) (sym may) (durable_left (λ k. ⊥) 0 ⊥ (Some []) (omega arith))
flat (Synced ∷ past) legal c may = subst (λ (o : Option (List ℕ)). IsLeftFrom (λ k. ⊥) (length (bytes_of (reads_after past))) ⊥ (reads_after past) o) (sym may) (durable_left (λ k. ⊥) (length (bytes_of (reads_after past))) ⊥ (reads_after past) (omega arith))
flat (NotMade ∷ past) legal c may = elim may [
  | inl was ↦ made_left (IsUnsynced past) (longest_after past) (MayBeMade past) (durable_after past) c (flat past (legal_before past (is_none (reads_after past)) legal) c was)
  | inr made ↦ made_from (IsUnsynced past) (longest_after past) (durable_after past) c (legal_absent past legal) made
]
flat (NotRead ∷ past) legal c may = flat past legal c may
flat (NotSynced ∷ past) legal c may = flat past legal c may
flat (Written at bytes ∷ past) legal c may =
    let before = legal_before past (reaches (reads_after past) at) legal in
    let place = legal_place past at legal in
    elim may [
      | inl read ↦
          torn_left (IsUnsynced past) (longest_after past) (MayBeMade past) at (length bytes.items) (durable_after past) (reads_after past) (reads_after past) c (durable_alike past) place
          (flat past before (reads_after past) (MayLeave-reads past)) (subst (λ (o : Option (List ℕ)). Torn at (length bytes.items) (reads_after past) o) (sym read) (torn_written at bytes.items (reads_after past) place))
      | inr was ↦
          torn_left (IsUnsynced past) (longest_after past) (MayBeMade past) at (length bytes.items) (durable_after past) (reads_after past) was.0 c (durable_alike past) place (flat past before was.0 was.1) was.2
    ]
flat (NotWritten at n ∷ past) legal c may =
    torn_left (IsUnsynced past) (longest_after past) (MayBeMade past) at n (durable_after past) (reads_after past) may.0 c (durable_alike past) (legal_place past at legal)
    (flat past (legal_before past (reaches (reads_after past) at) legal) may.0 may.1) may.2

unmade : (past : List Effect) (durable c : Option (List ℕ)) → durable ≡ None → ((d : Option (List ℕ)) → IsLeftFrom (IsUnsynced past) (longest_after past) (MayBeMade past) durable d → MayLeave past d)
    → IsLeftFrom (IsUnsynced past) (longest_after past) (Unit {0}) durable c → MayLeave past c ⊎ (c ≡ Some [])
unmade past None None none before left = inl (before None tt)
unmade past None (Some c) none before left = inr (ap (λ (b : List ℕ). Some b) left.1)
unmade past (Some s) c none before left = absurd (let no : ⊥ = cc in no)

pub unflat : (past : List Effect) → is_legal past ≡ true → (c : Option (List ℕ)) → IsLeftAfter past c → MayLeave past c
unflat [] legal c left = left_durable ⊥ None c (λ none. none) left
unflat (Held bytes ∷ past) legal c left = left_durable ⊥ (Some bytes.items) c (λ none. none) left
unflat (Made ∷ past) legal c left = left_durable ⊥ (Some []) c (λ none. none) left
unflat (Synced ∷ past) legal c left = left_durable ⊥ (reads_after past) c (λ none. none) left
unflat (NotMade ∷ past) legal c left =
    unmade past (durable_after past) c (legal_absent past legal) (λ d was. unflat past (legal_before past (is_none (reads_after past)) legal) d was) left
unflat (NotRead ∷ past) legal c left = unflat past legal c left
unflat (NotSynced ∷ past) legal c left = unflat past legal c left
unflat (Written at bytes ∷ past) legal c left =
    let before = legal_before past (reaches (reads_after past) at) legal in
    let was = left_torn (IsUnsynced past) (longest_after past) (MayBeMade past) at (length bytes.items) (durable_after past) (reads_after past) c (durable_alike past) (legal_place past at legal) (reads_upto past before) (durable_upto past) left in
    inr (was.0, unflat past before was.0 was.1, was.2)
unflat (NotWritten at n ∷ past) legal c left =
    let before = legal_before past (reaches (reads_after past) at) legal in
    let was = left_torn (IsUnsynced past) (longest_after past) (MayBeMade past) at n (durable_after past) (reads_after past) c (durable_alike past) (legal_place past at legal) (reads_upto past before) (durable_upto past) left in
    (was.0, unflat past before was.0 was.1, was.2)
