-- What stays of machine and history where a connection dies and its log is another one then, or where a number is drawn in vain.
use Rattle.std.proofs.Common.{◌≡◌, ◌≢◌, ◌≤◌, ◌<◌, ℕ, List, [], ◌∷◌, take, refl, sym, ◌∙◌, ap, subst, inl, inr, arith, Option, Some, None, ◌⊎◌}
use Rattle.std.specs.Prelude.{min, Bool, false}
use Rattle.std.proofs.lemmas.Grind.{common_steps}
use Rattle.lsv_disk.specs.declared.file.Owner.{Owner}
use Rattle.lsv_record.specs.Points.{Stored, first}
use Rattle.lsv_record.specs.declared.records.Record.{Record}
use Rattle.lsv_session.specs.declared.connection.ConnId.{ConnId}
use Rattle.lsv_session.specs.declared.connection.ConnState.{ConnState}
use Rattle.lsv_session.specs.declared.connection.ConnState.TheVariants.{Dead}
use Rattle.lsv_machine.specs.Answers.{Saying.Shut}
use Rattle.lsv_machine.specs.Failures.{Closes, FailsInCut, IsSet, LeavesLog, LosesTail}
use Rattle.lsv_machine.specs.History.{Ledger, heard, lowered_to}
use Rattle.lsv_machine.specs.Machine.{IsOfLane, LogState, LogState.There, Machine, Settings, leaves, log_of, with_log}
use Rattle.lsv_machine.specs.Stands.{HoldsAt, HoldsRecords, as_list}
use Rattle.lsv_machine.specs.Work.{draws, empty_log, with_exit}
use Rattle.lsv_machine.proofs.Choices.{SameOr.alike, SameOr.apart, same_or, EqOr.equal, EqOr.unequal, eq_or}
use Rattle.lsv_machine.proofs.Changing.{fits_log, owned_not_above, there_not_above}
use Rattle.lsv_machine.proofs.Fits.{Fits}
use Rattle.lsv_machine.proofs.Leaving.{LeftOwner.its, LeftOwner.another, fits_dies, left_owner}
use Rattle.lsv_machine.proofs.RecordLemmas.{cut_alike, lowered_is, lowered_none, prefix_trans, take_none, take_prefix}
use Rattle.lsv_machine.proofs.WorkFits.{holds_there, left_nobody}

-- a log that nobody writes any more, and of which a tail was lost
pub holds_loses : (stored : Stored) (promised : ℕ) (o w : Option ConnId) (all : List Record) (told : Option ℕ) (left : ℕ)
    → HoldsRecords stored promised o all told → promised ≤ left → ((j : ConnId) → w ≡ Some j → ⊥)
    → HoldsRecords (record stored { records = take left stored.records }) promised w all told
holds_loses stored promised o w all told left h enough nobody = record {
  prefix = prefix_trans (take left stored.records) stored.records all (take_prefix left stored.records) h.prefix;
  whole = λ j e. absurd (nobody j e);
  unfinished = λ j e. absurd (nobody j e);
  is_told = λ j e. absurd (nobody j e);
  enough = let x = h.enough in grind (arith, common_steps);
  alike = h.alike;
  bare = λ e. ap (λ (z : List Record). take left z) (h.bare e) ∙ take_none left;
}

-- the same with an exit, set or not
pub holds_freed : (stored : Stored) (promised : ℕ) (o w : Option ConnId) (all : List Record) (told : Option ℕ) (exit : Option (List ℕ))
    → HoldsRecords stored promised o all told → ((j : ConnId) → w ≡ Some j → ⊥)
    → HoldsRecords (record stored { exit = exit }) promised w all told
holds_freed stored promised o w all told exit h nobody = record {
  prefix = h.prefix;
  whole = λ j e. absurd (nobody j e);
  unfinished = λ j e. absurd (nobody j e);
  is_told = λ j e. absurd (nobody j e);
  enough = h.enough;
  alike = h.alike;
  bare = h.bare;
}

-- a log that failed inside a cut
holds_failed_cut : (stored : Stored) (promised : ℕ) (o w : Option ConnId) (all : List Record) (told : Option ℕ) (c f left cuts : ℕ)
    → HoldsRecords stored promised o all told → first stored.records c ≡ Some f → min promised f ≤ left → ((j : ConnId) → w ≡ Some j → ⊥)
    → HoldsRecords (record stored { records = take left stored.records; cuts = cuts }) (min promised f) w all (lowered_to told all c)
holds_failed_cut stored promised o w all told c f left cuts h at enough nobody =
    let a = cut_alike stored.records all c f h.prefix at in
    record {
      prefix = prefix_trans (take left stored.records) stored.records all (take_prefix left stored.records) h.prefix;
      whole = λ j e. absurd (nobody j e);
      unfinished = λ j e. absurd (nobody j e);
      is_told = λ j e. absurd (nobody j e);
      enough = let x = h.enough in grind (arith, common_steps);
      alike = λ p e. lowered_is told all c f p promised a.first_is e h.alike;
      bare = λ e. ap (λ (z : List Record). take left z) (h.bare (lowered_none told all c e)) ∙ take_none left;
    }

-- a log that nobody writes lost a tail besides
pub loses_beside : (good : Type 0) (set : Settings) (n i : ℕ) (m : Machine) (l : Ledger) (x : LogState) → Fits good set n m l → (n ≡ i → l.writers ≡ []) → LosesTail (m.logs i) x → Fits good set n (with_log i x m) l
loses_beside good set n i m l x f nobody t =
    rw t.now (fits_log good set n i (record t.stored { records = take t.left t.stored.records }) t.promised m l l (there_not_above set m i t.stored t.promised f.sound t.was) f refl (λ j. refl) refl
    (λ p g. holds_loses t.stored t.promised (m.owner n) (m.owner n) l.shown l.promised t.left (holds_there good set n m l t.stored t.promised f (ap m.logs p ∙ t.was) g) t.enough (λ j o. none j (nobody p) o))
    (λ p. (refl, refl)))
  where
    none : (j : ConnId) → l.writers ≡ [] → m.owner n ≡ Some j → ⊥
    none j e o = let a : [] ≡ j ∷ [] = sym e ∙ (f.agrees.writers ∙ ap as_list o) in cc

module _ (good : Type 0) (set : Settings) (n : ℕ) (k : ConnId) (m : Machine) (l : Ledger) (f : Fits good set n m l) where
  nobody_else : (s : ConnState) (i : ℕ) → m.owner i ≡ None → n ≡ i → (j : ConnId) → (leaves k s m).owner n ≡ Some j → ⊥
  nobody_else s i e p j o = elim (left_owner k s m n) [
    | its a b ↦ (let x : None ≡ Some j = sym b ∙ o in cc)
    | another a b ↦ let x : m.owner n ≡ Some j = sym b ∙ o in let y : m.owner n ≡ None = ap m.owner p ∙ e in cc
  ]

  -- a log is another one when the connection is dead
  pub died_with : (exits : Bool) (i : ℕ) (stored new : Stored) (promised left : ℕ) → m.logs i ≡ There stored promised
      → (n ≡ i → HoldsRecords stored promised (m.owner n) l.shown l.promised → HoldsRecords new left ((leaves k Dead m).owner n) l.shown l.promised)
      → Fits good set n (leaves k Dead (with_log i (There new left) m)) (heard exits k Shut l)
  died_with exits i stored new promised left at own = fits_log good set n i new left (leaves k Dead m) (heard exits k Shut l) (heard exits k Shut l)
      (there_not_above set m i stored promised f.sound at) (fits_dies good set n k m l f exits) refl (λ j. refl) refl
      (λ p g. own p (holds_there good set n m l stored promised f (ap m.logs p ∙ at) g)) (λ p. (refl, refl))

  died_closing : (exits : Bool) (failed : List Owner) (i : ℕ) (x : LogState) → log_of (m.states k) ≡ Some i → Closes failed i (m.logs i) x → Fits good set n (leaves k Dead (with_log i x m)) (heard exits k Shut l)
  died_closing exits failed i x e c = elim c [
    | inl same ↦ let (stored, promised, at) = f.sound.there i k (f.sound.owned k i e) in
        rw (same, at) (died_with exits i stored stored promised promised at (λ p h. holds_freed stored promised (m.owner n) ((leaves k Dead m).owner n) l.shown l.promised stored.exit h (left_nobody good set n k m l f Dead i e p)))
    | inr loses ↦ let t = loses.1 in
        rw t.now (died_with exits i t.stored (record t.stored { records = take t.left t.stored.records }) t.promised t.promised t.was
        (λ p h. holds_loses t.stored t.promised (m.owner n) ((leaves k Dead m).owner n) l.shown l.promised t.left h t.enough (left_nobody good set n k m l f Dead i e p)))
  ]

  pub died_exiting : (exits : Bool) (i : ℕ) (exit : List ℕ) (stored : Stored) (promised : ℕ) → log_of (m.states k) ≡ Some i → m.logs i ≡ There stored promised
      → Fits good set n (leaves k Dead (with_log i (There (with_exit exit stored) promised) m)) (heard exits k Shut l)
  died_exiting exits i exit stored promised e at = died_with exits i stored (with_exit exit stored) promised promised at
      (λ p h. holds_freed stored promised (m.owner n) ((leaves k Dead m).owner n) l.shown l.promised (Some exit) h (left_nobody good set n k m l f Dead i e p))

  pub died_set : (exits : Bool) (i : ℕ) (exit : List ℕ) (x : LogState) → log_of (m.states k) ≡ Some i → IsSet exit (m.logs i) x → Fits good set n (leaves k Dead (with_log i x m)) (heard exits k Shut l)
  died_set exits i exit x e t = rw t.now (died_exiting exits i exit t.stored t.promised e t.was)

  -- what may have become of the log that a connection lets go
  pub died_leaving : (exits : Bool) (failed : List Owner) (o : Option ℕ) (exit : Option (List ℕ)) (left : Machine) → log_of (m.states k) ≡ o → LeavesLog failed o exit m left
      → Fits good set n (leaves k Dead left) (heard exits k Shut l)
  died_leaving exits failed None exit left e t = rw t (fits_dies good set n k m l f exits)
  died_leaving exits failed (Some i) None left e t = rw t.2 (died_closing exits failed i t.0 e t.1)
  died_leaving exits failed (Some i) (Some exit) left e t = rw t.2 (elim t.1 [
    | inl closes ↦ died_closing exits failed i t.0 e closes
    | inr sets ↦ died_set exits i exit t.0 e sets
  ])

  -- a cut failed
  pub cut_failed : (c i : ℕ) (x : LogState) (l' : Ledger) → m.owner i ≡ None → FailsInCut c (m.logs i) x
      → l'.texts ≡ l.texts → ((j : ConnId) → l'.shut j ≡ l.shut j) → l'.writers ≡ l.writers
      → (n ≡ i → (l'.shown ≡ l.shown) × (l'.promised ≡ lowered_to l.promised l.shown c))
      → (n ≢ i → (l'.shown ≡ l.shown) × (l'.promised ≡ l.promised))
      → Fits good set n (leaves k Dead (with_log i x m)) (heard false k Shut l')
  cut_failed c i x l' free t texts s w own others =
      rw t.now (fits_log good set n i (record t.stored { records = take t.left t.stored.records; cuts = t.cuts }) (min t.promised t.kept) (leaves k Dead m) (heard false k Shut l) (heard false k Shut l')
      (there_not_above set m i t.stored t.promised f.sound t.was) (fits_dies good set n k m l f false) texts
      (λ j. elim (same_or j k) [ alike p u ↦ rw u refl | apart p u ↦ rw u (s j) ])
      (rw w refl)
      (λ p g. let (a, b) = own p in rw (a, b) (holds_failed_cut t.stored t.promised (m.owner n) ((leaves k Dead m).owner n) l.shown l.promised c t.kept t.left t.cuts
      (holds_there good set n m l t.stored t.promised f (ap m.logs p ∙ t.was) g) t.ends t.enough (nobody_else Dead i free p)))
      others)

  -- ---- Draws

  made_log : good → (i : ℕ) (head : List ℕ) (x : LogState) → IsOfLane set.lane set.lanes i → m.last < i → (x ≡ m.logs i) ⊎ (x ≡ There (empty_log head) 0) → n ≡ i → HoldsAt x (m.owner n) l.shown l.promised
  made_log g i head x lane above made p = elim made [
    | inl same ↦ rw (same, (f.sound.none_above i lane above).0) (f.untold g (subst (IsOfLane set.lane set.lanes) (sym p) lane) (let lo = above in omega arith))
    | inr empty ↦ rw empty (record {
      prefix = record { rest = l.shown; is = refl };
      whole = λ j o. absurd (no_owner j o);
      unfinished = λ j o. refl;
      is_told = λ j o. absurd (no_owner j o);
      enough = omega arith;
      alike = λ q d. absurd (let lo : m.last < n = omega arith in let a = f.untold g (subst (IsOfLane set.lane set.lanes) (sym p) lane) lo in cc);
      bare = λ e. refl;
    })
  ]
    where
      no_owner : (j : ConnId) → m.owner n ≡ Some j → ⊥
      no_owner j o = let a : m.owner n ≡ None = ap m.owner p ∙ (f.sound.none_above i lane above).1 in cc

  -- a number was drawn, and its log may be there, empty
  pub made_fits : (i : ℕ) (head : List ℕ) (x : LogState) → IsOfLane set.lane set.lanes i → m.last < i → (x ≡ m.logs i) ⊎ (x ≡ There (empty_log head) 0) → Fits good set n (with_log i x (draws i m)) l
  made_fits i head x lane above made = record {
    sound = record {
      lane = f.sound.lane;
      drawn = inr lane;
      owns = f.sound.owns;
      owned = f.sound.owned;
      there = λ j q o. elim (eq_or j i) [
        | equal p t ↦ absurd (owned_not_above set m j q f.sound o (subst (IsOfLane set.lane set.lanes) (sym p) lane) (omega arith))
        | unequal p t ↦ let (stored, promised, at) = f.sound.there j q o in (stored, promised, rw t at)
      ];
      none_above = λ j o a. (
        elim (eq_or j i) [
          | equal p t ↦ absurd (omega arith)
          | unequal p t ↦ let lo : m.last < j = omega arith in rw t (f.sound.none_above j o lo).0
        ],
        (let lo : m.last < j = omega arith in (f.sound.none_above j o lo).1),
      );
    };
    agrees = record { texts = f.agrees.texts; shut = f.agrees.shut; writers = f.agrees.writers };
    holds = elim (eq_or n i) [
      | equal p t ↦ rw t (λ g. made_log g i head x lane above made p)
      | unequal p t ↦ rw t f.holds
    ];
    untold = λ g o a. let lo : m.last < n = omega arith in f.untold g o lo;
  }
