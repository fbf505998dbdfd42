-- A log that was sent is held: the point that is waited for was read, and so the server had answered it.
use Rattle.std.proofs.Common.{◌≡◌, ◌∙◌, ◌++◌, ◌∷◌, ◌||◌, ◌<◌, ◌⊎◌, inl, inr, ℕ, suc, Bool, true, false, List, [], length, slice_index_or, refl, sym, ap, subst, arith, Option, None, Some}
use Rattle.std.specs.Prelude.{Contains, if◌then◌else◌, ◌==◌}
use Rattle.std.proofs.lemmas.Bool.{eqb-true}
use Rattle.lsv_base.specs.Time.{nanos_of, time_of}
use Rattle.lsv_base.specs.declared.time.TimeSpec.{TimeSpec}
use Rattle.lsv_dialogue.specs.Ends.{Conversation, HasCome}
use Rattle.lsv_dialogue.specs.Ends.{HasCome.AtOnce, HasCome.AtEnd, HasCome.InSilence}
use Rattle.lsv_dialogue.specs.Events.{Event, Event.Heard, Event.Late, Event.Said, heard}
use Rattle.lsv_dialogue.specs.declared.ends.Wants.{Wants}
use Rattle.lsv_dialogue.specs.declared.ends.Wants.TheVariants as wants
use Rattle.lsv_msg.specs.declared.messages.ServerMessage.{ServerMessage}
use Rattle.lsv_msg.specs.declared.messages.ServerMessage.TheVariants as server
use Rattle.lsv_send.specs.Handing.{Far, is_there, wants_at}
use Rattle.lsv_send.specs.Reached.{commits, is_point, reached_by}

-- ---- What came when the conversation was over

-- who doesn't want to go on has all that is waited for
there_by : (far : Far) → (wants_at far ≡ wants.More → ⊥) → is_there far ≡ true
there_by far not_more = go (is_there far) refl
  where
    go : (b : Bool) → is_there far ≡ b → b ≡ true
    go true e = refl
    go false e = absurd (not_more (ap (λ (b : Bool). if b then (if far.exited then wants.End else wants.Nothing) else wants.More) e))

not_more : (wanted : Wants) (tells : Type 0) (c : Conversation) → HasCome wanted tells c → wanted ≡ wants.More → ⊥
not_more wanted tells c (AtOnce is waited) e = let no : wants.Nothing ≡ wants.More = sym is ∙ e in cc
not_more wanted tells c (AtEnd is ended rest waited) e = let no : wants.End ≡ wants.More = sym is ∙ e in cc
not_more wanted tells c (InSilence is silence rest waited) e = let no : wants.End ≡ wants.More = sym is ∙ e in cc

pub came_there : (far : Far) (tells : Type 0) (c : Conversation) → HasCome (wants_at far) tells c → is_there far ≡ true
came_there far tells c has = there_by far (not_more (wants_at far) tells c has)

-- ---- The point was read

either_true : (a b : Bool) → (a || b) ≡ true → (a ≡ true) ⊎ (b ≡ true)
either_true true b e = inl refl
either_true false b e = inr e

later : (xs : List ServerMessage) (x m : ServerMessage) → Contains xs m → Contains (x ∷ xs) m
later xs x m (k, within, is) = (suc k, omega (arith, within), is)

point_in : (time : ℕ) (b : Bool) (events : List Event) → reached_by time b events ≡ true → (b ≡ true) ⊎ ((m : ServerMessage) × Contains (heard events) m × (commits time m ≡ true))
point_in time b [] is = inl is
point_in time b (Said m ∷ events) is = elim (point_in time false events is) [ inl nothing ↦ absurd (let no_ : false ≡ true = nothing in cc) | inr found ↦ inr found ]
point_in time b (Heard m ∷ events) is = elim (point_in time (b || commits time m) events is) [
  | inl came ↦ (elim (either_true b (commits time m) came) [ inl before ↦ inl before | inr this ↦ inr (m, (0, omega arith, refl), this) ])
  | inr found ↦ inr (found.0, later (heard events) m found.0 found.1, found.2)
]
point_in time b (Late m ∷ events) is = elim (point_in time b events is) [ inl before ↦ inl before | inr found ↦ inr (found.0, later (heard events) m found.0 found.1, found.2) ]

point_is : (time : ℕ) (found : Option ℕ) → is_point time found ≡ true → found ≡ Some time
point_is time None is = absurd (let no : false ≡ true = is in cc)
point_is time (Some n) is = ap Some (eqb-true n time is)

commit_is : ((t : TimeSpec) (n : ℕ) → nanos_of t ≡ Some n → time_of n ≡ t) → (time : ℕ) (m : ServerMessage) → commits time m ≡ true → m ≡ server.CommitPoint (time_of time)
commit_is one time (server.CommitPoint t) is = ap server.CommitPoint (sym (one t time (point_is time (nanos_of t) is)))
commit_is one time (server.Hello m) is = absurd (let no : false ≡ true = is in cc)
commit_is one time (server.LogId id) is = absurd (let no : false ≡ true = is in cc)
commit_is one time (server.Error text) is = absurd (let no : false ≡ true = is in cc)
commit_is one time (server.Abort text) is = absurd (let no : false ≡ true = is in cc)

pub point_read : ((t : TimeSpec) (n : ℕ) → nanos_of t ≡ Some n → time_of n ≡ t) → (time : ℕ) (events : List Event) → reached_by time false events ≡ true → Contains (heard events) (server.CommitPoint (time_of time))
point_read one time events is = elim (point_in time false events is) [
  | inl nothing ↦ absurd (let no_ : false ≡ true = nothing in cc)
  | inr found ↦ subst (Contains (heard events)) (commit_is one time found.0 found.2) found.1
]
