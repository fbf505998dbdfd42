-- Lists of entries, of which the first with a key counts: how a place is found, and what a change of one entry does.
use Rattle.std.proofs.Common.{◌≡◌, ◌<◌, ◌+◌, ℕ, zero, suc, List, [], ◌∷◌, ◌++◌, length, get_or, set, refl, sym, ◌∙◌, ap, subst, arith, Option, Some, None}
use Rattle.std.specs.Prelude.{◌==◌, Bool, true, false, if◌then◌else◌}
use Rattle.std.proofs.lemmas.Bool.Decides.{nat_tests}
use Rattle.lsv_record.specs.Points.{Stored, one_more}
use Rattle.lsv_session.specs.declared.connection.ConnId.{ConnId}
use Rattle.lsv_session.specs.declared.connection.ConnState.{ConnState}
use Rattle.lsv_session.specs.declared.connection.ConnState.TheVariants.{Fresh}
use Rattle.lsv_machine.specs.Machine.{LogState, LogState.Absent, LogState.There, same}
use Rattle.lsvt_model.specs.Inner.{place}
use Rattle.lsvt_model.specs.Tables.{lookup}
use Rattle.lsvt_model.specs.Inner.{connection_place, log_place}
use Rattle.lsvt_model.specs.Views.{logs_in, owner_in, state_in, stored_of, there}
use Rattle.lsvt_model.specs.declared.connections.Connection.{Connection}
use Rattle.lsvt_model.specs.declared.logs.Log.{Log}

-- functions that agree everywhere are one
pub ext : {A B : Type 0} {f g : A → B} → ((x : A) → f x ≡ g x) → f ≡ g
ext h = λ i x. h x i

-- a place after this many more
abbrev pub later : ℕ → Option ℕ → Option ℕ
later i None = None
later i (Some n) = Some (i + n)

-- ---- What a place tells

-- what stands at the place of a key
pub record Found {E K V : Type 0} (eq : K → K → Bool) (key : E → K) (value : E → V) (none : V) (xs : List E) (k : K) (p : ℕ) (d : E) : Type 0 where
  pub within : p < length xs
  pub has_key : eq k (key (get_or xs p d)) ≡ true
  pub has_value : lookup eq key value none xs k ≡ value (get_or xs p d)

module _ {E K V : Type 0} (eq : K → K → Bool) (key : E → K) (value : E → V) (none : V) where
  pub absent : (xs : List E) (k : K) → place eq key xs k ≡ None → lookup eq key value none xs k ≡ none
  absent [] k h = refl
  absent (x ∷ xs) k h = go (eq k (key x)) (place eq key xs k) (absent xs k) h
    where
      go : (t : Bool) (o : Option ℕ) → (o ≡ None → lookup eq key value none xs k ≡ none) → (if t then Some 0 else one_more o) ≡ None
          → (if t then value x else lookup eq key value none xs k) ≡ none
      go true o ih h = cc
      go false None ih h = ih refl
      go false (Some q) ih h = cc

  pub found : (xs : List E) (k : K) (p : ℕ) (d : E) → place eq key xs k ≡ Some p → Found eq key value none xs k p d
  found [] k p d h = cc
  found (x ∷ xs) k p d h = go (eq k (key x)) refl (place eq key xs k) (λ q i. found xs k q d i) h
    where
      go : (t : Bool) → eq k (key x) ≡ t → (o : Option ℕ) → ((q : ℕ) → o ≡ Some q → Found eq key value none xs k q d) → (if t then Some 0 else one_more o) ≡ Some p
          → Found eq key value none (x ∷ xs) k p d
      go true e o ih h = let z : 0 ≡ p = cc in subst (λ q. Found eq key value none (x ∷ xs) k q d) z (record { within = omega arith; has_key = e; has_value = rw e refl })
      go false e None ih h = cc
      go false e (Some q) ih h =
          let z : suc q ≡ p = cc in
          let f = ih q refl in
          subst (λ q. Found eq key value none (x ∷ xs) k q d) z (record { within = omega (arith, f.within); has_key = f.has_key; has_value = rw e f.has_value })

  -- ---- What a change does

  pub same_at : (xs : List E) (p : ℕ) (y d : E) (j : K) → key y ≡ key (get_or xs p d) → value y ≡ value (get_or xs p d) → lookup eq key value none (set xs p y) j ≡ lookup eq key value none xs j
  same_at [] p y d j e f = refl
  same_at (x ∷ xs) zero y d j e f = rw (e, f) refl
  same_at (x ∷ xs) (suc p) y d j e f = ap (λ v. if eq j (key x) then value x else v) (same_at xs p y d j e f)

  module _ (decides : (a b : K) → eq a b ≡ true → a ≡ b) where
    -- another key than that of the place doesn't count there
    apart : (j k : K) (x : E) (v : V) (w u : V) → eq k (key x) ≡ false → u ≡ (if eq j k then v else w)
        → (if eq j (key x) then value x else u) ≡ (if eq j k then v else (if eq j (key x) then value x else w))
    apart j k x v w u e h = go (eq j (key x)) refl (eq j k) refl h
      where
        go : (s : Bool) → eq j (key x) ≡ s → (t : Bool) → eq j k ≡ t → u ≡ (if t then v else w) → (if s then value x else u) ≡ (if t then v else (if s then value x else w))
        go true a true b h =
            let p : j ≡ k = decides j k b in
            let q : eq k (key x) ≡ true = subst (λ i. eq i (key x) ≡ true) p a in
            cc
        go true a false b h = refl
        go false a t b h = h

    pub set_at : (xs : List E) (k : K) (p : ℕ) (y : E) (j : K) → place eq key xs k ≡ Some p → key y ≡ k
        → lookup eq key value none (set xs p y) j ≡ (if eq j k then value y else lookup eq key value none xs j)
    set_at [] k p y j h e = cc
    set_at (x ∷ xs) k p y j h e = go (eq k (key x)) refl (place eq key xs k) (λ q i. set_at xs k q y j i e) h
      where
        go : (t : Bool) → eq k (key x) ≡ t → (o : Option ℕ)
            → ((q : ℕ) → o ≡ Some q → lookup eq key value none (set xs q y) j ≡ (if eq j k then value y else lookup eq key value none xs j))
            → (if t then Some 0 else one_more o) ≡ Some p
            → lookup eq key value none (set (x ∷ xs) p y) j ≡ (if eq j k then value y else lookup eq key value none (x ∷ xs) j)
        go true a o ih h =
            let z : 0 ≡ p = cc in
            subst (λ q. lookup eq key value none (set (x ∷ xs) q y) j ≡ (if eq j k then value y else lookup eq key value none (x ∷ xs) j)) z
            (here (eq j k) (lookup eq key value none xs j) ∙ sym (key_is (decides k (key x) a)))
          where
            here : (t : Bool) (w : V) → (if eq j (key y) then value y else w) ≡ (if eq j k then value y else w)
            here t w = rw e refl

            key_is : k ≡ key x → (if eq j k then value y else lookup eq key value none (x ∷ xs) j) ≡ (if eq j k then value y else lookup eq key value none xs j)
            key_is q = rw (← q) (twice (eq j k))
              where
                twice : (t : Bool) → (if t then value y else (if t then value x else lookup eq key value none xs j)) ≡ (if t then value y else lookup eq key value none xs j)
                twice true = refl
                twice false = refl
        go false a None ih h = cc
        go false a (Some q) ih h =
            let z : suc q ≡ p = cc in
            subst (λ q. lookup eq key value none (set (x ∷ xs) q y) j ≡ (if eq j k then value y else lookup eq key value none (x ∷ xs) j)) z
            (apart j k x (value y) (lookup eq key value none xs j) (lookup eq key value none (set xs q y) j) a (ih q refl))

    pub push_at : (xs : List E) (k : K) (y : E) (j : K) → place eq key xs k ≡ None → key y ≡ k
        → lookup eq key value none (xs ++ y ∷ []) j ≡ (if eq j k then value y else lookup eq key value none xs j)
    push_at [] k y j h e = rw e refl
    push_at (x ∷ xs) k y j h e = go (eq k (key x)) refl (place eq key xs k) (λ i. push_at xs k y j i e) h
      where
        go : (t : Bool) → eq k (key x) ≡ t → (o : Option ℕ) → (o ≡ None → lookup eq key value none (xs ++ y ∷ []) j ≡ (if eq j k then value y else lookup eq key value none xs j))
            → (if t then Some 0 else one_more o) ≡ None
            → lookup eq key value none ((x ∷ xs) ++ y ∷ []) j ≡ (if eq j k then value y else lookup eq key value none (x ∷ xs) j)
        go true a o ih h = cc
        go false a None ih h = apart j k x (value y) (lookup eq key value none xs j) (lookup eq key value none (xs ++ y ∷ []) j) a (ih refl)
        go false a (Some q) ih h = cc

-- ---- Numbers and connections

pub number_decides : (a b : ℕ) → (a == b) ≡ true → a ≡ b
number_decides a b e = grind (arith, nat_tests)

conn_decides : (a b : ConnId) → same a b ≡ true → a ≡ b
conn_decides a b e =
    let p : a.worker ≡ b.worker = grind (arith, nat_tests) in
    let q : a.seq ≡ b.seq = grind (arith, nat_tests) in
    let on_worker : ℕ → ConnId = λ w. record { worker = w; seq = a.seq } in
    let on_seq : ℕ → ConnId = λ n. record { worker = b.worker; seq = n } in
    ap on_worker p ∙ ap on_seq q

-- ---- Connections

pub state_unknown : (xs : List Connection) (k : ConnId) → connection_place xs k ≡ None → state_in xs k ≡ Fresh
state_unknown xs k h = absent same (λ c. c.id) (λ c. c.state) Fresh xs k h

pub state_found : (xs : List Connection) (k : ConnId) (p : ℕ) (d : Connection) → connection_place xs k ≡ Some p → Found same (λ c. c.id) (λ c. c.state) Fresh xs k p d
state_found xs k p d h = found same (λ c. c.id) (λ c. c.state) Fresh xs k p d h

pub state_set : (xs : List Connection) (k : ConnId) (p : ℕ) (s : ConnState) → connection_place xs k ≡ Some p
    → state_in (set xs p (record { id = k; state = s })) ≡ (λ j. if same j k then s else state_in xs j)
state_set xs k p s h = ext (λ j. set_at same (λ c. c.id) (λ c. c.state) Fresh conn_decides xs k p (record { id = k; state = s }) j h refl)

pub state_push : (xs : List Connection) (k : ConnId) (s : ConnState) → connection_place xs k ≡ None
    → state_in (xs ++ record { id = k; state = s } ∷ []) ≡ (λ j. if same j k then s else state_in xs j)
state_push xs k s h = ext (λ j. push_at same (λ c. c.id) (λ c. c.state) Fresh conn_decides xs k (record { id = k; state = s }) j h refl)

-- ---- Logs

abbrev number_eq : ℕ → ℕ → Bool
number_eq i j = i == j

pub log_absent : (xs : List Log) (n : ℕ) → log_place xs n ≡ None → logs_in xs n ≡ Absent
log_absent xs n h = absent number_eq (λ l. l.number) there Absent xs n h

pub owner_absent : (xs : List Log) (n : ℕ) → log_place xs n ≡ None → owner_in xs n ≡ None
owner_absent xs n h = absent number_eq (λ l. l.number) (λ l. l.owner) None xs n h

-- the log at its place
pub record LogAt (xs : List Log) (n p : ℕ) (log : Log) : Type 0 where
  pub within : p < length xs
  pub number : log.number ≡ n
  pub has_log : logs_in xs n ≡ there log
  pub has_owner : owner_in xs n ≡ log.owner

pub log_at : (xs : List Log) (n p : ℕ) (log : Log) → log_place xs n ≡ Some p → log ≡ get_or xs p log → LogAt xs n p log
log_at xs n p log h e =
    let f = found number_eq (λ l. l.number) there Absent xs n p log h in
    let g = found number_eq (λ l. l.number) (λ l. l.owner) None xs n p log h in
    record {
      within = f.within;
      number = ap (λ (l : Log). l.number) e ∙ sym (number_decides n (get_or xs p log).number f.has_key);
      has_log = f.has_value ∙ sym (ap there e);
      has_owner = g.has_value ∙ sym (ap (λ (l : Log). l.owner) e);
    }

pub logs_set : (xs : List Log) (n p : ℕ) (log : Log) → log_place xs n ≡ Some p → log.number ≡ n → logs_in (set xs p log) ≡ (λ i. if i == n then there log else logs_in xs i)
logs_set xs n p log h e = ext (λ i. set_at number_eq (λ l. l.number) there Absent number_decides xs n p log i h e)

pub owners_set : (xs : List Log) (n p : ℕ) (log : Log) → log_place xs n ≡ Some p → log.number ≡ n → owner_in (set xs p log) ≡ (λ i. if i == n then log.owner else owner_in xs i)
owners_set xs n p log h e = ext (λ i. set_at number_eq (λ l. l.number) (λ l. l.owner) None number_decides xs n p log i h e)

pub logs_push : (xs : List Log) (n : ℕ) (log : Log) → log_place xs n ≡ None → log.number ≡ n → logs_in (xs ++ log ∷ []) ≡ (λ i. if i == n then there log else logs_in xs i)
logs_push xs n log h e = ext (λ i. push_at number_eq (λ l. l.number) there Absent number_decides xs n log i h e)

pub owners_push : (xs : List Log) (n : ℕ) (log : Log) → log_place xs n ≡ None → log.number ≡ n → owner_in (xs ++ log ∷ []) ≡ (λ i. if i == n then log.owner else owner_in xs i)
owners_push xs n log h e = ext (λ i. push_at number_eq (λ l. l.number) (λ l. l.owner) None number_decides xs n log i h e)

pub logs_same : (xs : List Log) (p : ℕ) (was log : Log) → was ≡ get_or xs p was → log.number ≡ was.number → there log ≡ there was → logs_in (set xs p log) ≡ logs_in xs
logs_same xs p was log r e f = ext (λ i. same_at number_eq (λ l. l.number) there Absent xs p log was i (e ∙ ap (λ (l : Log). l.number) r) (f ∙ ap there r))

pub owners_same : (xs : List Log) (p : ℕ) (was log : Log) → was ≡ get_or xs p was → log.number ≡ was.number → log.owner ≡ was.owner → owner_in (set xs p log) ≡ owner_in xs
owners_same xs p was log r e f = ext (λ i. same_at number_eq (λ l. l.number) (λ l. l.owner) None xs p log was i (e ∙ ap (λ (l : Log). l.number) r) (f ∙ ap (λ (l : Log). l.owner) r))

pub owners_free : (xs : List Log) (n : ℕ) → log_place xs n ≡ None → owner_in xs ≡ (λ i. if i == n then None else owner_in xs i)
owners_free xs n h = ext (λ i. go i (i == n) refl)
  where
    go : (i : ℕ) (t : Bool) → (i == n) ≡ t → owner_in xs i ≡ (if t then None else owner_in xs i)
    go i true e = let p : i ≡ n = number_decides i n e in rw p (owner_absent xs n h)
    go i false e = refl

-- the log at a place changes
pub changed : (xs : List Log) (n p : ℕ) (was log : Log) (stored : Stored) (promised : ℕ) (next : Stored → ℕ → LogState) → log_place xs n ≡ Some p → was ≡ get_or xs p was → log.number ≡ was.number
    → logs_in xs n ≡ There stored promised → there log ≡ next (stored_of was) was.promised
    → logs_in (set xs p log) ≡ (λ i. if i == n then next stored promised else logs_in xs i)
changed xs n p was log stored promised next h r e t becomes =
    let at = log_at xs n p was h r in
    let is : There (stored_of was) was.promised ≡ There stored promised = sym at.has_log ∙ t in
    let a : stored_of was ≡ stored = cc in
    let b : was.promised ≡ promised = cc in
    let put : LogState → ℕ → LogState = λ l i. if i == n then l else logs_in xs i in
    let on_stored : Stored → LogState = λ s. next s was.promised in
    let on_promised : ℕ → LogState = λ q. next stored q in
    logs_set xs n p log h (e ∙ at.number) ∙ ap put (becomes ∙ (ap on_stored a ∙ ap on_promised b))

-- where no log stands, none is there
pub not_there : {A : Type 0} (xs : List Log) (n : ℕ) (stored : Stored) (promised : ℕ) → log_place xs n ≡ None → logs_in xs n ≡ There stored promised → A
not_there xs n stored promised h t = let a = log_absent xs n h in cc
