-- What a change of one link says, and which links are sound after it.
use Rattle.std.proofs.Common.{◌≡◌, ◌≢◌, inl, inr, ◌≤◌, ◌+◌, ℕ, Bool, true, false, ◌&&◌, ◌||◌, not, cond, List, ◌++◌, length, Option, Some, None, is_some, option_map, refl, sym, ap, subst, ◌∙◌, arith}
use Rattle.std.proofs.lemmas.List.{take-append-le, length-append}
use Rattle.lsv_port.specs.declared.memory.link.MemLink.{MemLink}
use Rattle.lsv_port.specs.declared.port.Ready.{Ready}
use Rattle.lsv_port.specs.Port.{LinkState, PortState, Changes, IsSame, Told}
use Rattle.lsv_port.specs.Memory.Link.{view_of, IsSound, with_bytes, with_last, with_room, breaking}
use Rattle.lsv_port.specs.Memory.Script.{Sent, unsent, goes_on}
use Rattle.lsv_port.specs.Memory.Links.{LinkMap, PortOver, told_of, state_of, faults_of, is_open_in, is_hearing, sent_to, IsSentBy, told_if, changed_at, with_link}
use Rattle.lsv_port.proofs.NumberLemmas.{true_or_false, itself, one_or_two, two_numbers}

-- ---- One link of many

pub at_it : (f : LinkMap) (l : ℕ) (F : MemLink → MemLink) → changed_at l F f l ≡ option_map F (f l)
at_it f l F = ap (λ (b : Bool). cond b (option_map F (f l)) (f l)) (itself l)

pub at_other : (f : LinkMap) (l : ℕ) (F : MemLink → MemLink) (m : ℕ) → m ≢ l → changed_at l F f m ≡ f m
at_other f l F m ne = ap (λ (b : Bool). cond b (option_map F (f m)) (f m)) (two_numbers l m (λ e. ne (sym e)))

pub put_at : (f : LinkMap) (l : ℕ) (o : Option MemLink) → with_link l o f l ≡ o
put_at f l o = ap (λ (b : Bool). cond b o (f l)) (itself l)

pub put_other : (f : LinkMap) (l : ℕ) (o : Option MemLink) (m : ℕ) → m ≢ l → with_link l o f m ≡ f m
put_other f l o m ne = ap (λ (b : Bool). cond b o (f m)) (two_numbers l m (λ e. ne (sym e)))

-- what is told where one link changed
pub tells_change : (f : LinkMap) (l : ℕ) (F : MemLink → MemLink) (opened : List ℕ) (over : PortOver) (now : LinkState) → told_of (option_map F (f l)) ≡ now
    → Changes l now (state_of f opened over) (state_of (changed_at l F f) opened over)
tells_change f l F opened over now e = record {
  this = ap told_of (at_it f l F) ∙ e;
  others = λ m ne. ap told_of (at_other f l F m ne);
  opened = refl;
  stopped = refl;
  failed = refl;
}

pub tells_same : (f : LinkMap) (l : ℕ) (F : MemLink → MemLink) (opened : List ℕ) (over : PortOver) → told_of (option_map F (f l)) ≡ told_of (f l)
    → IsSame (state_of f opened over) (state_of (changed_at l F f) opened over)
tells_same f l F opened over e = record {
  links = λ m. elim (one_or_two m l) [
    | inl is ↦ subst (λ (k : ℕ). told_of (changed_at l F f k) ≡ told_of (f k)) (sym is) (ap told_of (at_it f l F) ∙ e)
    | inr ne ↦ ap told_of (at_other f l F m ne)
  ];
  opened = refl;
  stopped = refl;
  failed = refl;
}

pub told_either : (b : Bool) (ready : Ready) (old new : PortState) → (b ≡ true → Told ready old new) → (b ≡ false → IsSame old new) → Told (told_if b ready) old new
told_either true ready old new holds fails = holds refl
told_either false ready old new holds fails = fails refl

-- ---- One link, or none

and_left : (a b : Bool) → (a && b) ≡ true → a ≡ true
and_left true b e = refl
and_left false b e = absurd cc

and_right : (a b : Bool) → (a && b) ≡ true → b ≡ true
and_right true b e = e
and_right false b e = absurd cc

not_true : (a : Bool) → not a ≡ true → a ≡ false
not_true true e = absurd cc
not_true false e = refl

or_true : (a b : Bool) → b ≡ true → (a || b) ≡ true
or_true true b e = refl
or_true false b e = e

or_false : (a b : Bool) → b ≡ false → (a || b) ≡ a
or_false true b e = refl
or_false false b e = e

open_where_last : (a b : Bool) → (a && not b) ≡ false → b ≡ false → a ≡ false
open_where_last true b e f = absurd (let g : not b ≡ true = ap not f in let h : true ≡ false = sym g ∙ e in cc)
open_where_last false b e f = refl

pub is_open_told : (o : Option MemLink) → is_open_in o ≡ (told_of o).is_open
is_open_told None = refl
is_open_told (Some v) = refl

pub hearing_open : (o : Option MemLink) → is_hearing o ≡ true → (told_of o).is_open ≡ true
hearing_open None e = absurd cc
hearing_open (Some v) e = and_left v.is_open (not v.last) e

pub hearing_going : (s : Sent) (o : Option MemLink) → IsSentBy s o → is_hearing o ≡ true → (told_of o).ended ≡ false
hearing_going s None h e = refl
hearing_going s (Some v) h e = elim (true_or_false v.ended) [
  | inl ended ↦ absurd (let f : true ≡ false = sym (h.1.ended ended).0 ∙ not_true v.last (and_right v.is_open (not v.last) e) in cc)
  | inr going ↦ going
]

-- ---- Bytes arrive

pub bytes_owe : (bytes : List ℕ) (s : Sent) (o : Option MemLink) → IsSentBy s o → is_hearing o ≡ true → told_of (option_map (with_bytes bytes) o) ≡ record (told_of o) { owed = true }
bytes_owe bytes s None h e = absurd cc
bytes_owe bytes s (Some v) h e =
    let going : v.last ≡ false = not_true v.last (and_right v.is_open (not v.last) e) in
    let more : MemLink = record v { arrived = v.arrived ++ bytes; owed = v.owed || v.is_open } in
    let same : view_of more ≡ record (view_of v) { owed = true } = λ i. record (view_of v) { input = take-append-le v.taken v.arrived bytes h.1.within i; owed = or_true v.owed v.is_open (and_left v.is_open (not v.last) e) i } in
    ap (λ (b : Bool). view_of (cond b v more)) going ∙ same

pub bytes_same : (bytes : List ℕ) (s : Sent) (o : Option MemLink) → IsSentBy s o → is_hearing o ≡ false → told_of (option_map (with_bytes bytes) o) ≡ told_of o
bytes_same bytes s None h e = refl
bytes_same bytes s (Some v) h e =
    let more : MemLink = record v { arrived = v.arrived ++ bytes; owed = v.owed || v.is_open } in
    elim (true_or_false v.last) [
      | inl last ↦ ap (λ (b : Bool). view_of (cond b v more)) last
      | inr going ↦
          let same : view_of more ≡ view_of v = λ i. record (view_of v) { input = take-append-le v.taken v.arrived bytes h.1.within i; owed = or_false v.owed v.is_open (open_where_last v.is_open v.last e going) i } in
          ap (λ (b : Bool). view_of (cond b v more)) going ∙ same
    ]

owed_is_open : (owed is_open : Bool) → is_open ≡ true → (owed || is_open) ≡ false → ⊥
owed_is_open owed is_open e f = absurd (let g : true ≡ false = sym (or_true owed is_open e) ∙ f in cc)

bytes_sound : (bytes : List ℕ) (v : MemLink) → IsSound v → v.last ≡ false → IsSound (record v { arrived = v.arrived ++ bytes; owed = v.owed || v.is_open })
bytes_sound bytes v h going = record {
  within = let e : length (v.arrived ++ bytes) ≡ length v.arrived + length bytes = length-append v.arrived bytes in omega (arith, e, h.within);
  ended = λ e. absurd (let f : true ≡ false = sym (h.ended e).0 ∙ going in cc);
  settled = λ here owed whole. absurd (owed_is_open v.owed v.is_open here owed);
}

pub bytes_sent : (bytes : List ℕ) (b : Bool) (s : Sent) (o : Option MemLink) → IsSentBy s o
    → IsSentBy (cond (b && goes_on s) (record s { bytes = s.bytes ++ bytes }) s) (cond b (option_map (with_bytes bytes) o) o)
bytes_sent bytes false s o h = h
bytes_sent bytes true s None h = subst (λ (t : Sent). cond (goes_on t) (record t { bytes = t.bytes ++ bytes }) t ≡ unsent) (sym h) refl
bytes_sent bytes true s (Some v) h =
    let more : MemLink = record v { arrived = v.arrived ++ bytes; owed = v.owed || v.is_open } in
    let sent : (t : Sent) → t ≡ sent_to v → cond (goes_on t) (record t { bytes = t.bytes ++ bytes }) t ≡ cond (goes_on (sent_to v)) (record (sent_to v) { bytes = v.arrived ++ bytes }) (sent_to v)
    = λ t e. ap (λ (u : Sent). cond (goes_on u) (record u { bytes = u.bytes ++ bytes }) u) e in
    elim (true_or_false v.last) [
      | inl last ↦ (
        sent s h.0 ∙ ap (λ (b : Bool). cond (not b) (record (sent_to v) { bytes = v.arrived ++ bytes }) (sent_to v)) last ∙ sym (ap (λ (b : Bool). sent_to (cond b v more)) last),
        subst (λ (b : Bool). IsSound (cond b v more)) (sym last) h.1,
      )
      | inr going ↦ (
        sent s h.0 ∙ ap (λ (b : Bool). cond (not b) (record (sent_to v) { bytes = v.arrived ++ bytes }) (sent_to v)) going ∙ sym (ap (λ (b : Bool). sent_to (cond b v more)) going),
        subst (λ (b : Bool). IsSound (cond b v more)) (sym going) (bytes_sound bytes v h.1 going),
      )
    ]

-- ---- A link's input ends

pub last_owes : (s : Sent) (o : Option MemLink) → IsSentBy s o → is_hearing o ≡ true → told_of (option_map with_last o) ≡ record (told_of o) { owed = true }
last_owes s None h e = absurd cc
last_owes s (Some v) h e =
    let going : v.last ≡ false = not_true v.last (and_right v.is_open (not v.last) e) in
    let more : MemLink = record v { last = true; owed = v.owed || v.is_open } in
    let same : view_of more ≡ record (view_of v) { owed = true } = λ i. record (view_of v) { owed = or_true v.owed v.is_open (and_left v.is_open (not v.last) e) i } in
    ap (λ (b : Bool). view_of (cond b v more)) going ∙ same

pub last_same : (s : Sent) (o : Option MemLink) → IsSentBy s o → is_hearing o ≡ false → told_of (option_map with_last o) ≡ told_of o
last_same s None h e = refl
last_same s (Some v) h e =
    let more : MemLink = record v { last = true; owed = v.owed || v.is_open } in
    elim (true_or_false v.last) [
      | inl last ↦ ap (λ (b : Bool). view_of (cond b v more)) last
      | inr going ↦
          let same : view_of more ≡ view_of v = λ i. record (view_of v) { owed = or_false v.owed v.is_open (open_where_last v.is_open v.last e going) i } in
          ap (λ (b : Bool). view_of (cond b v more)) going ∙ same
    ]

last_sound : (v : MemLink) → IsSound v → v.last ≡ false → IsSound (record v { last = true; owed = v.owed || v.is_open })
last_sound v h going = record {
  within = h.within;
  ended = λ e. absurd (let f : true ≡ false = sym (h.ended e).0 ∙ going in cc);
  settled = λ here owed whole. absurd (owed_is_open v.owed v.is_open here owed);
}

pub last_sent : (b : Bool) (s : Sent) (o : Option MemLink) → IsSentBy s o
    → IsSentBy (cond (b && goes_on s) (record s { ended = true }) s) (cond b (option_map with_last o) o)
last_sent false s o h = h
last_sent true s None h = subst (λ (t : Sent). cond (goes_on t) (record t { ended = true }) t ≡ unsent) (sym h) refl
last_sent true s (Some v) h =
    let more : MemLink = record v { last = true; owed = v.owed || v.is_open } in
    let sent : cond (goes_on s) (record s { ended = true }) s ≡ cond (goes_on (sent_to v)) (record (sent_to v) { ended = true }) (sent_to v)
    = ap (λ (u : Sent). cond (goes_on u) (record u { ended = true }) u) h.0 in
    elim (true_or_false v.last) [
      | inl last ↦ (
        sent ∙ ap (λ (b : Bool). cond (not b) (record (sent_to v) { ended = true }) (sent_to v)) last ∙ sym (ap (λ (b : Bool). sent_to (cond b v more)) last),
        subst (λ (b : Bool). IsSound (cond b v more)) (sym last) h.1,
      )
      | inr going ↦ (
        sent ∙ ap (λ (b : Bool). cond (not b) (record (sent_to v) { ended = true }) (sent_to v)) going ∙ sym (ap (λ (b : Bool). sent_to (cond b v more)) going),
        subst (λ (b : Bool). IsSound (cond b v more)) (sym going) (last_sound v h.1 going),
      )
    ]

-- ---- A link takes more, or is to fail

and_not_true : (a b : Bool) → b ≡ true → (a && not b) ≡ false
and_not_true true true e = refl
and_not_true false true e = refl
and_not_true a false e = absurd cc

and_not_false : (a b : Bool) → b ≡ false → (a && not b) ≡ a
and_not_false true false e = refl
and_not_false false false e = refl
and_not_false a true e = absurd cc

pub room_frees : (count : ℕ) (o : Option MemLink) → is_open_in o ≡ true → told_of (option_map (with_room count) o) ≡ record (told_of o) { full = false }
room_frees count None e = absurd cc
room_frees count (Some v) e = λ i. record (view_of v) { full = and_not_true v.full v.is_open e i }

pub room_same : (count : ℕ) (o : Option MemLink) → is_open_in o ≡ false → told_of (option_map (with_room count) o) ≡ told_of o
room_same count None e = refl
room_same count (Some v) e = λ i. record (view_of v) { full = and_not_false v.full v.is_open e i }

pub room_sent : (count : ℕ) (b : Bool) (s : Sent) (o : Option MemLink) → IsSentBy s o → IsSentBy s (cond b (option_map (with_room count) o) o)
room_sent count false s o h = h
room_sent count true s None h = h
room_sent count true s (Some v) h = (h.0, record { within = h.1.within; ended = h.1.ended; settled = λ here owed whole. record { taken = (h.1.settled here owed whole).taken; ended = (h.1.settled here owed whole).ended } })

pub break_same : (o : Option MemLink) → told_of (option_map breaking o) ≡ told_of o
break_same None = refl
break_same (Some v) = refl

pub break_sent : (b : Bool) (s : Sent) (o : Option MemLink) → IsSentBy s o → IsSentBy s (cond b (option_map breaking o) o)
break_sent false s o h = h
break_sent true s None h = h
break_sent true s (Some v) h = (h.0, record { within = h.1.within; ended = h.1.ended; settled = λ here owed whole. record { taken = (h.1.settled here owed whole).taken; ended = (h.1.settled here owed whole).ended } })

-- ---- What stays at each of these changes

-- a change that leaves a link open or not, and its count of faults
pub record IsMild (F : MemLink → MemLink) : Type 0 where
  pub is_open : (v : MemLink) → (F v).is_open ≡ v.is_open
  pub faults : (v : MemLink) → (F v).faults ≡ v.faults

cond_field : {X : Type 0} (h : MemLink → X) (b : Bool) (v w : MemLink) → h v ≡ h w → h (cond b v w) ≡ h v
cond_field h true v w e = refl
cond_field h false v w e = sym e

pub bytes_mild : (bytes : List ℕ) → IsMild (with_bytes bytes)
bytes_mild bytes = record {
  is_open = λ v. cond_field (λ (k : MemLink). k.is_open) v.last v (record v { arrived = v.arrived ++ bytes; owed = v.owed || v.is_open }) refl;
  faults = λ v. cond_field (λ (k : MemLink). k.faults) v.last v (record v { arrived = v.arrived ++ bytes; owed = v.owed || v.is_open }) refl;
}

pub last_mild : IsMild with_last
last_mild = record {
  is_open = λ v. cond_field (λ (k : MemLink). k.is_open) v.last v (record v { last = true; owed = v.owed || v.is_open }) refl;
  faults = λ v. cond_field (λ (k : MemLink). k.faults) v.last v (record v { last = true; owed = v.owed || v.is_open }) refl;
}

pub room_mild : (count : ℕ) → IsMild (with_room count)
room_mild count = record { is_open = λ v. refl; faults = λ v. refl }

pub break_mild : IsMild breaking
break_mild = record { is_open = λ v. refl; faults = λ v. refl }

pub mild_some : (F : MemLink → MemLink) (b : Bool) (o : Option MemLink) → is_some (cond b (option_map F o) o) ≡ is_some o
mild_some F false o = refl
mild_some F true None = refl
mild_some F true (Some v) = refl

pub mild_open : (F : MemLink → MemLink) → IsMild F → (b : Bool) (o : Option MemLink) → is_open_in (cond b (option_map F o) o) ≡ is_open_in o
mild_open F h false o = refl
mild_open F h true None = refl
mild_open F h true (Some v) = h.is_open v

pub mild_faults : (F : MemLink → MemLink) → IsMild F → (b : Bool) (o : Option MemLink) → faults_of o ≤ faults_of (cond b (option_map F o) o)
mild_faults F h false o = omega arith
mild_faults F h true None = omega arith
mild_faults F h true (Some v) = let e : (F v).faults ≡ v.faults = h.faults v in omega (arith, e)
