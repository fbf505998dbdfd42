-- What stays of who writes which log where a connection's state changes, or it leaves.
use Rattle.std.proofs.Common.{◌≡◌, ◌≢◌, ℕ, List, [], ◌∷◌, refl, sym, ◌∙◌, ap, subst, Option, Some, None}
use Rattle.std.specs.Prelude.{Bool, true, false}
use Rattle.lsv_record.specs.declared.records.Record.{Record}
use Rattle.lsv_session.specs.declared.connection.ConnId.{ConnId}
use Rattle.lsv_session.specs.declared.connection.ConnState.{ConnState}
use Rattle.lsv_session.specs.declared.connection.ConnState.TheVariants.{Fresh, Dead}
use Rattle.lsv_machine.specs.Answers.{Saying.Shut}
use Rattle.lsv_machine.specs.History.{Ledger, heard, reopened}
use Rattle.lsv_machine.specs.Machine.{LogState, LogState.Absent, LogState.Damaged, LogState.There, Machine, Settings, is_dead, is_log, leaves, log_of, with_state, without_conn}
use Rattle.lsv_machine.specs.Stands.{HoldsAt, Sound, as_list}
use Rattle.lsv_machine.proofs.Choices.{SameOr.alike, SameOr.apart, same_or, same_refl, EqOr.equal, EqOr.unequal, eq_or}
use Rattle.lsv_machine.proofs.Fits.{Fits}

-- a state that says the same of the log that its connection writes
pub state_sound : (set : Settings) (k : ConnId) (s : ConnState) (m : Machine) → Sound set m → log_of s ≡ log_of (m.states k) → Sound set (with_state k s m)
state_sound set k s m h e = record {
  lane = h.lane;
  drawn = h.drawn;
  owns = λ n j o. elim (same_or j k) [
    | alike p t ↦ rw t (e ∙ (ap (λ x. log_of (m.states x)) (sym p) ∙ h.owns n j o))
    | apart p t ↦ rw t (h.owns n j o)
  ];
  owned = λ j n o. elim (same_or j k) [
    | alike p t ↦ h.owned j n (ap (λ x. log_of (m.states x)) p ∙ (sym e ∙ (rw t at o)))
    | apart p t ↦ h.owned j n (rw t at o)
  ];
  there = h.there;
  none_above = h.none_above;
}

-- who writes a log after a connection left
pub data LeftOwner (k : ConnId) (s : ConnState) (m : Machine) (n : ℕ) : Type 0 where
  its : log_of (m.states k) ≡ Some n → (leaves k s m).owner n ≡ None → LeftOwner k s m n
  another : log_of (m.states k) ≢ Some n → (leaves k s m).owner n ≡ m.owner n → LeftOwner k s m n

pub left_owner : (k : ConnId) (s : ConnState) (m : Machine) (n : ℕ) → LeftOwner k s m n
left_owner k s m n = go (log_of (m.states k)) refl
  where
    go : (o : Option ℕ) → log_of (m.states k) ≡ o → LeftOwner k s m n
    go None e = another (λ p. absurd (cc)) (rw e refl)
    go (Some i) e = elim (eq_or n i) [
      | equal p t ↦ its (e ∙ ap Some (sym p)) (let u : is_log (log_of (m.states k)) n ≡ true = rw e t in rw u refl)
      | unequal p t ↦ another (λ q. p (let r : Some i ≡ Some n = sym e ∙ q in cc)) (let u : is_log (log_of (m.states k)) n ≡ false = rw e t in rw u refl)
    ]

pub leaves_sound : (set : Settings) (k : ConnId) (s : ConnState) (m : Machine) → Sound set m → log_of s ≡ None → Sound set (leaves k s m)
leaves_sound set k s m h no_log = record {
  lane = h.lane;
  drawn = h.drawn;
  owns = λ n j o. elim (left_owner k s m n) [
    | its p t ↦ absurd (let x : None ≡ Some j = sym t ∙ o in cc)
    | another p t ↦ let o' : m.owner n ≡ Some j = sym t ∙ o in elim (same_or j k) [
      | alike q u ↦ absurd (p (subst (λ x. log_of (m.states x) ≡ Some n) q (h.owns n j o')))
      | apart q u ↦ rw u (h.owns n j o')
    ]
  ];
  owned = λ j n o. elim (same_or j k) [
    | alike q u ↦ let o' : log_of s ≡ Some n = rw u at o in absurd (cc)
    | apart q u ↦ let o' : log_of (m.states j) ≡ Some n = rw u at o in
        let a = h.owned j n o' in
        elim (left_owner k s m n) [
          | its p t ↦ absurd (q (let b = h.owned k n p in cc))
          | another p t ↦ t ∙ a
        ]
  ];
  there = λ n j o. elim (left_owner k s m n) [
    | its p t ↦ absurd (let x : None ≡ Some j = sym t ∙ o in cc)
    | another p t ↦ h.there n j (sym t ∙ o)
  ];
  none_above = λ n lane above. (
    (h.none_above n lane above).0,
    elim (left_owner k s m n) [
      | its p t ↦ t
      | another p t ↦ t ∙ (h.none_above n lane above).1
    ],
  );
}

pub owner_left : (k : ConnId) (s : ConnState) (m : Machine) (n : ℕ) (j : ConnId) → (leaves k s m).owner n ≡ Some j → m.owner n ≡ Some j
owner_left k s m n j o = elim (left_owner k s m n) [
  | its p t ↦ absurd (let x : None ≡ Some j = sym t ∙ o in cc)
  | another p t ↦ sym t ∙ o
]

pub without_self : (k : ConnId) → without_conn k (k ∷ []) ≡ []
without_self k = rw (same_refl k) refl

without_other : (j k : ConnId) → j ≢ k → without_conn k (j ∷ []) ≡ j ∷ []
without_other j k ne = elim (same_or j k) [ alike p t ↦ absurd (ne p) | apart p t ↦ rw t refl ]

pub without_owner : (k : ConnId) (o : Option ConnId) → o ≢ Some k → without_conn k (as_list o) ≡ as_list o
without_owner k None ne = refl
without_owner k (Some j) ne = without_other j k (λ p. ne (ap Some p))

pub writers_left : (set : Settings) (k : ConnId) (s : ConnState) (m : Machine) (n : ℕ) → Sound set m → without_conn k (as_list (m.owner n)) ≡ as_list ((leaves k s m).owner n)
writers_left set k s m n h = elim (left_owner k s m n) [
  | its p t ↦ ap (λ o. without_conn k (as_list o)) (h.owned k n p) ∙ (without_self k ∙ ap as_list (sym t))
  | another p t ↦ without_owner k (m.owner n) (λ e. p (h.owns n k e)) ∙ ap as_list (sym t)
]

-- fewer may write
pub holds_left : (x : LogState) (o o' : Option ConnId) (all : List Record) (told : Option ℕ) → ((k : ConnId) → o' ≡ Some k → o ≡ Some k) → HoldsAt x o all told → HoldsAt x o' all told
holds_left Absent o o' all told s h = h
holds_left Damaged o o' all told s h = h
holds_left (There stored promised) o o' all told s h = record {
  prefix = h.prefix;
  whole = λ k e. h.whole k (s k e);
  unfinished = λ k e. h.unfinished k (s k e);
  is_told = λ k e. h.is_told k (s k e);
  enough = h.enough;
  alike = h.alike;
  bare = h.bare;
}

module _ (good : Type 0) (set : Settings) (n : ℕ) (k : ConnId) (m : Machine) (l : Ledger) (f : Fits good set n m l) where
  -- a connection is shut
  pub fits_dies : (exits : Bool) → Fits good set n (leaves k Dead m) (heard exits k Shut l)
  fits_dies exits = record {
    sound = leaves_sound set k Dead m f.sound refl;
    agrees = record {
      texts = f.agrees.texts;
      shut = λ j. elim (same_or j k) [ alike p t ↦ rw t refl | apart p t ↦ rw t (f.agrees.shut j) ];
      writers = ap (without_conn k) f.agrees.writers ∙ writers_left set k Dead m n f.sound;
    };
    holds = λ g. holds_left (m.logs n) (m.owner n) ((leaves k Dead m).owner n) l.shown l.promised (owner_left k Dead m n) (f.holds g);
    untold = f.untold;
  }

  -- a connection goes, and its own Shut doesn't count
  pub fits_goes : (exits : Bool) → Fits good set n (leaves k Fresh m) (reopened k true (heard exits k Shut l))
  fits_goes exits = record {
    sound = leaves_sound set k Fresh m f.sound refl;
    agrees = record {
      texts = f.agrees.texts;
      shut = λ j. elim (same_or j k) [ alike p t ↦ rw t refl | apart p t ↦ rw t (f.agrees.shut j) ];
      writers = ap (without_conn k) f.agrees.writers ∙ writers_left set k Fresh m n f.sound;
    };
    holds = λ g. holds_left (m.logs n) (m.owner n) ((leaves k Fresh m).owner n) l.shown l.promised (owner_left k Fresh m n) (f.holds g);
    untold = f.untold;
  }

  -- a change of state alone
  pub fits_state : (s : ConnState) → log_of s ≡ log_of (m.states k) → is_dead s ≡ is_dead (m.states k) → Fits good set n (with_state k s m) l
  fits_state s e d = record {
    sound = state_sound set k s m f.sound e;
    agrees = record {
      texts = f.agrees.texts;
      shut = λ j. elim (same_or j k) [ alike p t ↦ rw t (f.agrees.shut j ∙ (ap (λ x. is_dead (m.states x)) p ∙ sym d)) | apart p t ↦ rw t (f.agrees.shut j) ];
      writers = f.agrees.writers;
    };
    holds = f.holds;
    untold = f.untold;
  }
