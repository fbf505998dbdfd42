-- One log changes, or a connection begins to write one.
use Rattle.std.proofs.Common.{◌≡◌, ◌≢◌, ◌≤◌, ◌<◌, ◌+◌, ◌*◌, ℕ, List, ◌∷◌, take, refl, sym, ◌∙◌, ap, subst, inl, inr, arith, Option, Some, None, ◌⊎◌}
use Rattle.std.specs.Prelude.{◌==◌, true, false, if◌then◌else◌}
use Rattle.std.proofs.lemmas.Grind.{common_steps}
use Rattle.lsv_record.specs.Points.{Stored, cut, first, kept}
use Rattle.lsv_record.specs.declared.records.Record.{Record}
use Rattle.lsv_session.specs.declared.connection.ConnId.{ConnId}
use Rattle.lsv_session.specs.declared.connection.ConnState.TheVariants.{Running}
use Rattle.lsv_machine.specs.History.{Ledger, becomes}
use Rattle.lsv_machine.specs.Machine.{IsOfLane, LogState.There, Machine, Settings, is_dead, log_of, same, with_log, with_owner, with_state}
use Rattle.lsv_machine.specs.Stands.{HoldsRecords, Sound, as_list}
use Rattle.lsv_machine.specs.Failures.{MayDraw}
use Rattle.lsv_machine.specs.Work.{cut_to, draws}
use Rattle.std.proofs.Math.Nat.{add-mul}
use Rattle.lsv_machine.proofs.Choices.{SomeOr.nothing, SomeOr.just, some_or, SameOr.alike, SameOr.apart, same_or, same_refl, EqOr.equal, EqOr.unequal, eq_or}
use Rattle.lsv_machine.proofs.Fits.{Fits}
use Rattle.lsv_machine.proofs.RecordLemmas.{becomes_is, becomes_none, becomes_some, cut_alike, prefix_all, take_none}

-- a number that is none of the lane's above the last one
abbrev pub NotAbove : Settings → ℕ → ℕ → Type 0
NotAbove set last i = IsOfLane set.lane set.lanes i → last < i → ⊥

pub there_not_above : (set : Settings) (m : Machine) (i : ℕ) (stored : Stored) (promised : ℕ) → Sound set m → m.logs i ≡ There stored promised → NotAbove set m.last i
there_not_above set m i stored promised h at lane above = let n = (h.none_above i lane above).0 in cc

pub owned_not_above : (set : Settings) (m : Machine) (i : ℕ) (k : ConnId) → Sound set m → m.owner i ≡ Some k → NotAbove set m.last i
owned_not_above set m i k h o lane above = let n = (h.none_above i lane above).1 in cc

pub log_sound : (set : Settings) (i : ℕ) (stored : Stored) (promised : ℕ) (m : Machine) → NotAbove set m.last i → Sound set m → Sound set (with_log i (There stored promised) m)
log_sound set i stored promised m b h = record {
  lane = h.lane;
  drawn = h.drawn;
  owns = h.owns;
  owned = h.owned;
  there = λ n k o. elim (eq_or n i) [
    | equal p t ↦ (stored, promised, rw t refl)
    | unequal p t ↦ let (x, y, e) = h.there n k o in (x, y, rw t e)
  ];
  none_above = λ n lane above. (
    elim (eq_or n i) [
      | equal p t ↦ absurd (b (subst (IsOfLane set.lane set.lanes) p lane) (subst (λ x. m.last < x) p above))
      | unequal p t ↦ rw t (h.none_above n lane above).0
    ],
    (h.none_above n lane above).1,
  );
}

-- log i is another one now, and the ledger went on with it
pub fits_log : (good : Type 0) (set : Settings) (n i : ℕ) (stored : Stored) (promised : ℕ) (m : Machine) (l l' : Ledger) → NotAbove set m.last i → Fits good set n m l
    → l'.texts ≡ l.texts → ((k : ConnId) → l'.shut k ≡ l.shut k) → l'.writers ≡ l.writers
    → (n ≡ i → good → HoldsRecords stored promised (m.owner n) l'.shown l'.promised)
    → (n ≢ i → (l'.shown ≡ l.shown) × (l'.promised ≡ l.promised))
    → Fits good set n (with_log i (There stored promised) m) l'
fits_log good set n i stored promised m l l' b f x s w own others = record {
  sound = log_sound set i stored promised m b f.sound;
  agrees = record { texts = x ∙ f.agrees.texts; shut = λ k. s k ∙ f.agrees.shut k; writers = w ∙ f.agrees.writers };
  holds = elim (eq_or n i) [
    | equal p t ↦ rw t (own p)
    | unequal p t ↦ let (y, z) = others p in rw (t, y, z) f.holds
  ];
  untold = λ g lane a. elim (eq_or n i) [
    | equal p t ↦ absurd (b (subst (IsOfLane set.lane set.lanes) p lane) (subst (λ y. m.last < y) p a))
    | unequal p t ↦ (others p).1 ∙ f.untold g lane a
  ];
}

-- a later last number of the lane
pub record Draws (set : Settings) (m : Machine) (last : ℕ) : Type 0 where
  pub drawn : (last ≡ 0) ⊎ IsOfLane set.lane set.lanes last
  pub up : m.last ≤ last

begins_sound : (set : Settings) (i : ℕ) (k : ConnId) (stored : Stored) (promised : ℕ) (m : Machine) (last draws : ℕ) → Sound set m → log_of (m.states k) ≡ None → m.owner i ≡ None
    → Draws set m last → NotAbove set last i
    → Sound set (with_state k (Running (Some i)) (with_owner i (Some k) (with_log i (There stored promised) (record m { last = last; failed_draws = draws }))))
begins_sound set i k stored promised m last draws h idle free d b = record {
  lane = h.lane;
  drawn = d.drawn;
  owns = λ n j o. elim (eq_or n i) [
    | equal p t ↦ let o' : Some k ≡ Some j = rw t at o in
        let q : j ≡ k = cc in
        let u : same j k ≡ true = subst (λ x. same x k ≡ true) (sym q) (same_refl k) in
        rw u (ap Some (sym p))
    | unequal p t ↦ let o' : m.owner n ≡ Some j = rw t at o in elim (same_or j k) [
      | alike q u ↦ absurd (let a : log_of (m.states k) ≡ Some n = subst (λ x. log_of (m.states x) ≡ Some n) q (h.owns n j o') in cc)
      | apart q u ↦ rw u (h.owns n j o')
    ]
  ];
  owned = λ j n o. elim (same_or j k) [
    | alike q u ↦ let o' : Some i ≡ Some n = rw u at o in
        let p : n ≡ i = cc in
        elim (eq_or n i) [ equal p' t ↦ rw t (ap Some (sym q)) | unequal p' t ↦ absurd (p' p) ]
    | apart q u ↦ let o' : log_of (m.states j) ≡ Some n = rw u at o in elim (eq_or n i) [
      | equal p t ↦ absurd (let a : m.owner i ≡ Some j = subst (λ x. m.owner x ≡ Some j) p (h.owned j n o') in cc)
      | unequal p t ↦ rw t (h.owned j n o')
    ]
  ];
  there = λ n j o. elim (eq_or n i) [
    | equal p t ↦ (stored, promised, rw t refl)
    | unequal p t ↦ let (x, y, e) = h.there n j (rw t at o) in (x, y, rw t e)
  ];
  none_above = λ n lane above. elim (eq_or n i) [
    | equal p t ↦ absurd (b (subst (IsOfLane set.lane set.lanes) p lane) (subst (λ x. last < x) p above))
    | unequal p t ↦ let up = d.up in let lo : m.last < n = omega arith in rw t (h.none_above n lane lo)
  ];
}

-- a connection begins to write a log that nobody writes
pub fits_begins : (good : Type 0) (set : Settings) (n i : ℕ) (k : ConnId) (stored : Stored) (promised : ℕ) (m : Machine) (last draws : ℕ) (l l' : Ledger)
    → log_of (m.states k) ≡ None → is_dead (m.states k) ≡ false → m.owner i ≡ None → Draws set m last → NotAbove set last i → Fits good set n m l
    → l'.texts ≡ l.texts → ((j : ConnId) → l'.shut j ≡ l.shut j)
    → (n ≡ i → (l'.writers ≡ k ∷ l.writers) × (good → HoldsRecords stored promised (Some k) l'.shown l'.promised))
    → (n ≢ i → (l'.writers ≡ l.writers) × (l'.shown ≡ l.shown) × (l'.promised ≡ l.promised))
    → Fits good set n (with_state k (Running (Some i)) (with_owner i (Some k) (with_log i (There stored promised) (record m { last = last; failed_draws = draws })))) l'
fits_begins good set n i k stored promised m last draws l l' idle alive free d b f x s own others = record {
  sound = begins_sound set i k stored promised m last draws f.sound idle free d b;
  agrees = record {
    texts = x ∙ f.agrees.texts;
    shut = λ j. elim (same_or j k) [
      | alike p t ↦ rw t (s j ∙ (f.agrees.shut j ∙ (ap (λ y. is_dead (m.states y)) p ∙ alive)))
      | apart p t ↦ rw t (s j ∙ f.agrees.shut j)
    ];
    writers = elim (eq_or n i) [
      | equal p t ↦ rw t ((own p).0 ∙ ap (λ y. k ∷ y) (f.agrees.writers ∙ ap as_list (subst (λ y. m.owner y ≡ None) (sym p) free)))
      | unequal p t ↦ rw t ((others p).0 ∙ f.agrees.writers)
    ];
  };
  holds = elim (eq_or n i) [
    | equal p t ↦ rw t (own p).1
    | unequal p t ↦ let (w, y, z) = others p in rw (t, y, z) f.holds
  ];
  untold = λ g lane a. elim (eq_or n i) [
    | equal p t ↦ absurd (b (subst (IsOfLane set.lane set.lanes) p lane) (subst (λ y. last < y) p a))
    | unequal p t ↦ let up = d.up in let lo : m.last < n = omega arith in (others p).2 ∙ f.untold g lane lo
  ];
}

-- what a cut leaves
pub holds_cut : (stored : Stored) (promised : ℕ) (o w : Option ConnId) (all : List Record) (told : Option ℕ) (c f : ℕ)
    → HoldsRecords stored promised o all told → stored.exit ≡ None → first stored.records c ≡ Some f
    → HoldsRecords (cut_to f stored) f w (cut all c) (becomes told (kept all c))
holds_cut stored promised o w all told c f h un at =
    let a = cut_alike stored.records all c f h.prefix at in
    let same = a.cut_is in
    let point = a.kept_is in
    let within = a.within in
    record {
      prefix = prefix_all (take f stored.records) (cut all c) (sym same);
      whole = λ k e. sym same;
      unfinished = λ k e. un;
      is_told = λ k e. elim (some_or told) [
        | nothing u ↦ absurd (let b : first stored.records c ≡ None = ap (λ x. first x c) (h.bare u) in cc)
        | just p u ↦ (kept all c, becomes_some told (kept all c) p u)
      ];
      enough = grind (arith, common_steps);
      alike = λ p e. let b = becomes_is told (kept all c) p e in omega arith;
      bare = λ e. ap (λ (z : List Record). take f z) (h.bare (becomes_none told (kept all c) e)) ∙ take_none f;
    }

-- ---- Draws

-- a number that is drawn is of the lane, and above the last one
pub drawn_is : (set : Settings) (m : Machine) (i : ℕ) → Sound set m → MayDraw set m i → IsOfLane set.lane set.lanes i × (m.last < i)
drawn_is set m i h d = elim (eq_or m.last 0) [
  | equal p t ↦ let e : i ≡ set.lane + 1 + d.passed * set.lanes = d.next ∙ first_is t in ((d.passed, e), omega arith)
  | unequal p t ↦ elim h.drawn [
    | inl none ↦ absurd (p none)
    | inr (steps, at) ↦
        let e : i ≡ m.last + set.lanes + d.passed * set.lanes = d.next ∙ next_is t in
        let lanes = h.lane in
        let a : (steps + 1 + d.passed) * set.lanes ≡ (steps + 1) * set.lanes + d.passed * set.lanes = add-mul (steps + 1) d.passed set.lanes in
        let b : (steps + 1) * set.lanes ≡ steps * set.lanes + 1 * set.lanes = add-mul steps 1 set.lanes in
        ((steps + 1 + d.passed, omega arith), omega arith)
  ]
]
  where
    first_is : (m.last == 0) ≡ true → (if m.last == 0 then set.lane + 1 else m.last + set.lanes) + d.passed * set.lanes ≡ set.lane + 1 + d.passed * set.lanes
    first_is t = rw t refl

    next_is : (m.last == 0) ≡ false → (if m.last == 0 then set.lane + 1 else m.last + set.lanes) + d.passed * set.lanes ≡ m.last + set.lanes + d.passed * set.lanes
    next_is t = rw t refl

pub later : (set : Settings) (m : Machine) (i : ℕ) → IsOfLane set.lane set.lanes i → m.last < i → Draws set m i
later set m i lane above = record { drawn = inr lane; up = omega arith }

pub same_last : (set : Settings) (m : Machine) → Sound set m → Draws set m m.last
same_last set m h = record { drawn = h.drawn; up = omega arith }

pub itself_not_above : (set : Settings) (i : ℕ) → NotAbove set i i
itself_not_above set i lane above = omega arith

pub draws_fits : (good : Type 0) (set : Settings) (n i : ℕ) (m : Machine) (l : Ledger) → IsOfLane set.lane set.lanes i → m.last < i → Fits good set n m l → Fits good set n (draws i m) l
draws_fits good set n i m l lane above f = record {
  sound = record {
    lane = f.sound.lane;
    drawn = inr lane;
    owns = f.sound.owns;
    owned = f.sound.owned;
    there = f.sound.there;
    none_above = λ j o a. let lo : m.last < j = omega arith in f.sound.none_above j o lo;
  };
  agrees = record { texts = f.agrees.texts; shut = f.agrees.shut; writers = f.agrees.writers };
  holds = f.holds;
  untold = λ g o a. let lo : m.last < n = omega arith in f.untold g o lo;
}
