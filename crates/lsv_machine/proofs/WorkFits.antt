-- The table keeps the machine and the history together: a job where no device fails and memory is ample.
use Rattle.std.proofs.Common.{◌≡◌, ◌≢◌, ◌<◌, ℕ, List, [], ◌∷◌, ◌++◌, length, refl, sym, ◌∙◌, ap, subst, arith, Option, Some, None}
use Rattle.std.specs.Prelude.{◌||◌, nat_lt, Bool, true, false, is_some, Result, Ok}
use Rattle.std.proofs.lemmas.Grind.{common_steps}
use Rattle.lsv_info.specs.Layout.{head_text, exit_text}
use Rattle.lsv_mask.specs.Masking.{covered}
use Rattle.lsv_record.specs.Points.{Stored, first}
use Rattle.lsv_record.specs.Records.{elapsed}
use Rattle.lsv_record.specs.declared.records.Record.{Record}
use Rattle.lsv_request.specs.declared.refusal.Refusal.{Refusal}
use Rattle.lsv_request.specs.declared.refusal.Refusal.TheVariants as refusals
use Rattle.lsv_request.specs.declared.request.Accept.{Accept}
use Rattle.lsv_request.specs.declared.request.Restart.{Restart}
use Rattle.lsv_request.specs.declared.request.Request.{Request}
use Rattle.lsv_request.specs.declared.request.Request.TheVariants as request
use Rattle.lsv_session.specs.declared.connection.ConnId.{ConnId}
use Rattle.lsv_session.specs.declared.connection.ConnState.{ConnState}
use Rattle.lsv_session.specs.declared.connection.ConnState.TheVariants.{Running, Dead}
use Rattle.lsv_info.specs.declared.times.Exit.{Exit}
use Rattle.lsv_machine.specs.Answers.{Saying.LogId, Saying.CommitPoint, Saying.Shut, say, refusal}
use Rattle.lsv_machine.specs.History.{Ledger, asked, becomes, heard, heard_all, is_exit, opened_by, resumed_by, sent_one, writes}
use Rattle.lsv_machine.specs.Machine.{IsOfLane, LogState, LogState.Absent, LogState.Damaged, LogState.There, Machine, Settings, insert_once, is_dead, leaves, log_of, with_log, with_owner, with_state}
use Rattle.lsv_machine.specs.Stands.{HoldsRecords, as_list}
use Rattle.lsv_machine.specs.Work.{Done, can_cut, cut_to, draws, empty_log, ends, exited, finished, fits_file, last_number, makes, opened, recorded, refused, restarted, restarted_at, resumed, taken, takes, with_exit, with_record}
use Rattle.lsv_machine.proofs.Choices.{EqOr.equal, EqOr.unequal, eq_or}
use Rattle.lsv_machine.proofs.Changing.{draws_fits, fits_begins, fits_log, holds_cut, itself_not_above, later, same_last, there_not_above}
use Rattle.lsv_machine.proofs.Fits.{Fits, asked_loud, fits_beside, fits_same, writes_its, writes_none}
use Rattle.lsv_machine.proofs.Leaving.{LeftOwner.its, LeftOwner.another, fits_dies, left_owner}
use Rattle.lsv_machine.proofs.RecordLemmas.{becomes_is, becomes_none, prefix_all}

-- what is asked, with its answers, keeps the machine and the ledger together
abbrev pub Together : (good : Type 0) → Settings → ℕ → ConnId → Result Request Refusal → Ledger → Done → Type 0
Together good set n k what l d = Fits good set n d.machine (heard_all (is_exit what) d.answers (asked n k what d.answers false l))

pub holds_there : (good : Type 0) (set : Settings) (n : ℕ) (m : Machine) (l : Ledger) (stored : Stored) (promised : ℕ) → Fits good set n m l → m.logs n ≡ There stored promised
    → good → HoldsRecords stored promised (m.owner n) l.shown l.promised
holds_there good set n m l stored promised f e = rw e at f.holds

-- what is refused, or ended by a Shut, says nothing but that
pub refused_together : (good : Type 0) (set : Settings) (n : ℕ) (k : ConnId) (what : Result Request Refusal) (why : Refusal) (m : Machine) (l : Ledger) → Fits good set n m l
    → Together good set n k what l (refused k why m)
refused_together good set n k what why m l f = fits_dies good set n k m (asked n k what (refusal k why) false l)
    (fits_same good set n m l (asked n k what (refusal k why) false l) (asked_loud n k what (refusal k why) l refl refl) f) (is_exit what)

pub shut_together : (good : Type 0) (set : Settings) (n : ℕ) (k : ConnId) (what : Result Request Refusal) (m : Machine) (l : Ledger) → Fits good set n m l
    → Together good set n k what l (ends k (say k Shut ∷ []) m)
shut_together good set n k what m l f = fits_dies good set n k m (asked n k what (say k Shut ∷ []) false l)
    (fits_same good set n m l (asked n k what (say k Shut ∷ []) false l) (asked_loud n k what (say k Shut ∷ []) l refl refl) f) (is_exit what)

module _ (good : Type 0) (set : Settings) (n : ℕ) (k : ConnId) (m : Machine) (l : Ledger) (f : Fits good set n m l) where
  not_shut : is_dead (m.states k) ≡ false → l.shut k ≡ false
  not_shut d = f.agrees.shut k ∙ d

  -- ---- An accept

  pub opened_together : (accept : Accept) (i : ℕ) → log_of (m.states k) ≡ None → is_dead (m.states k) ≡ false → IsOfLane set.lane set.lanes i → m.last < i
      → Together good set n k (Ok (request.Accept accept)) l (opened k (head_text accept.head) i m)
  opened_together accept i idle alive lane above = go (nat_lt last_number i) refl (fits_file (head_text accept.head)) refl
    where
      head : List ℕ
      head = head_text accept.head

      begun : Fits good set n (with_state k (Running (Some i)) (with_owner i (Some k) (makes i (head_text accept.head) m))) (asked n k (Ok (request.Accept accept)) (say k (LogId i) ∷ []) false l)
      begun = elim (eq_or i n) [
        | equal p u ↦ rw u (fits_begins good set n i k (empty_log (head_text accept.head)) 0 m i 0 l (opened_by k (head_text accept.head) l) idle alive (f.sound.none_above i lane above).1 (later set m i lane above) (itself_not_above set i) f
            refl (λ j. refl)
            (λ q. (
              rw (not_shut alive) refl,
              λ g. record {
                prefix = prefix_all [] [] refl;
                whole = λ j d. refl;
                unfinished = λ j d. refl;
                is_told = λ j d. (0, refl);
                enough = omega arith;
                alike = λ p' d. let a : 0 ≡ p' = cc in omega arith;
                bare = λ d. refl;
              },
            ))
            (λ q. absurd (q (sym p))))
        | unequal p u ↦ rw u (fits_begins good set n i k (empty_log (head_text accept.head)) 0 m i 0 l l idle alive (f.sound.none_above i lane above).1 (later set m i lane above) (itself_not_above set i) f
            refl (λ j. refl)
            (λ q. absurd (p (sym q)))
            (λ q. (refl, refl, refl)))
      ]

      go : (b : Bool) → nat_lt last_number i ≡ b → (d : Bool) → fits_file (head_text accept.head) ≡ d → Together good set n k (Ok (request.Accept accept)) l (opened k (head_text accept.head) i m)
      go true e d u = rw e (refused_together good set n k (Ok (request.Accept accept)) refusals.NumbersSpent m l f)
      go false e true u = rw (e, u) begun
      go false e false u = rw (e, u) (refused_together good set n k (Ok (request.Accept accept)) refusals.LogFull (draws i m) l (draws_fits good set n i m l lane above f))

  -- ---- A restart

  resumed_together : (restart : Restart) (stored : Stored) (promised : ℕ) (o : Option ℕ) → log_of (m.states k) ≡ None → is_dead (m.states k) ≡ false → m.owner restart.log ≡ None
      → m.logs restart.log ≡ There stored promised → stored.exit ≡ None → first stored.records restart.point ≡ o
      → Together good set n k (Ok (request.Restart restart)) l (resumed k restart.log stored o m)
  resumed_together restart stored promised None idle alive unowned at un e = refused_together good set n k (Ok (request.Restart restart)) refusals.NoSuchResumePoint m l f
  resumed_together restart stored promised (Some x) idle alive unowned at un e = go (can_cut x stored) refl
    where
      begun : Fits good set n (with_state k (Running (Some restart.log)) (with_owner restart.log (Some k) (with_log restart.log (There (cut_to x stored) x) m))) (asked n k (Ok (request.Restart restart)) [] false l)
      begun = elim (eq_or restart.log n) [
        | equal p u ↦ rw (u, not_shut alive) (fits_begins good set n restart.log k (cut_to x stored) x m m.last m.failed_draws l (resumed_by k restart.point l) idle alive unowned
            (same_last set m f.sound) (there_not_above set m restart.log stored promised f.sound at) f
            refl (λ j. refl)
            (λ q. (refl, λ g. holds_cut stored promised (m.owner n) (Some k) l.shown l.promised restart.point x (holds_there good set n m l stored promised f (subst (λ y. m.logs y ≡ There stored promised) p at) g) un e))
            (λ q. absurd (q (sym p))))
        | unequal p u ↦ rw u (fits_begins good set n restart.log k (cut_to x stored) x m m.last m.failed_draws l l idle alive unowned
            (same_last set m f.sound) (there_not_above set m restart.log stored promised f.sound at) f
            refl (λ j. refl)
            (λ q. absurd (p (sym q)))
            (λ q. (refl, refl, refl)))
      ]

      go : (b : Bool) → can_cut x stored ≡ b → Together good set n k (Ok (request.Restart restart)) l (resumed k restart.log stored (Some x) m)
      go true d = rw d begun
      go false d = rw d (refused_together good set n k (Ok (request.Restart restart)) refusals.LogFull m l f)

  restarted_at_together : (restart : Restart) (x : LogState) → log_of (m.states k) ≡ None → is_dead (m.states k) ≡ false → m.owner restart.log ≡ None → m.logs restart.log ≡ x
      → Together good set n k (Ok (request.Restart restart)) l (restarted_at k restart.log restart.point x m)
  restarted_at_together restart Absent idle alive unowned at = refused_together good set n k (Ok (request.Restart restart)) refusals.NoSuchLog m l f
  restarted_at_together restart Damaged idle alive unowned at = refused_together good set n k (Ok (request.Restart restart)) refusals.LogDamaged m l f
  restarted_at_together restart (There stored promised) idle alive unowned at = go stored.exit refl
    where
      go : (o : Option (List ℕ)) → stored.exit ≡ o → Together good set n k (Ok (request.Restart restart)) l (restarted_at k restart.log restart.point (There stored promised) m)
      go (Some x) e = let d : is_some stored.exit ≡ true = ap is_some e in rw d (refused_together good set n k (Ok (request.Restart restart)) refusals.LogComplete m l f)
      go None e = let d : is_some stored.exit ≡ false = ap is_some e in rw d (resumed_together restart stored promised (first stored.records restart.point) idle alive unowned at e refl)

  pub restarted_together : (restart : Restart) → log_of (m.states k) ≡ None → is_dead (m.states k) ≡ false → Together good set n k (Ok (request.Restart restart)) l (restarted k restart.log restart.point m)
  restarted_together restart idle alive = go (m.owner restart.log) refl
    where
      go : (o : Option ConnId) → m.owner restart.log ≡ o → Together good set n k (Ok (request.Restart restart)) l (restarted k restart.log restart.point m)
      go (Some j) e = rw e (refused_together good set n k (Ok (request.Restart restart)) refusals.LogInUse m l f)
      go None e = rw e (restarted_at_together restart (m.logs restart.log) idle alive e refl)

  -- ---- The log that a connection writes

  pub owned_by : (i : ℕ) → log_of (m.states k) ≡ Some i → m.owner i ≡ Some k
  owned_by i e = f.sound.owned k i e

  pub its_writes : (i : ℕ) → log_of (m.states k) ≡ Some i → n ≡ i → writes l k ≡ true
  its_writes i e p = writes_its l k (f.agrees.writers ∙ ap as_list (subst (λ x. m.owner x ≡ Some k) (sym p) (owned_by i e)))

  pub not_its_writes : (i : ℕ) → log_of (m.states k) ≡ Some i → n ≢ i → writes l k ≡ false
  not_its_writes i e p = writes_none l k (m.owner n) f.agrees.writers (λ o. p (let a : log_of (m.states k) ≡ Some n = f.sound.owns n k o in cc))

  pub left_nobody : (s : ConnState) (i : ℕ) → log_of (m.states k) ≡ Some i → n ≡ i → (j : ConnId) → (leaves k s m).owner n ≡ Some j → ⊥
  left_nobody s i e p j o = elim (left_owner k s m n) [
    | its a b ↦ (let x : None ≡ Some j = sym b ∙ o in cc)
    | another a b ↦ a (e ∙ ap Some (sym p))
  ]

  -- ---- A record

  taken_holds : (i : ℕ) (stored : Stored) (promised : ℕ) (r : Record) → log_of (m.states k) ≡ Some i → m.logs i ≡ There stored promised → n ≡ i
      → good → HoldsRecords (with_record (covered m.texts stored.records r) stored) promised (m.owner n) (l.shown ++ covered l.texts l.shown r ∷ []) l.promised
  taken_holds i stored promised r e at p g =
      let h = holds_there good set n m l stored promised f (subst (λ y. m.logs y ≡ There stored promised) (sym p) at) g in
      let own : m.owner n ≡ Some k = subst (λ y. m.owner y ≡ Some k) (sym p) (owned_by i e) in
      let same : stored.records ≡ l.shown = h.whole k own in
      let texts : m.texts ≡ l.texts = sym f.agrees.texts in
      let cover : covered m.texts stored.records r ≡ covered l.texts l.shown r = ap (λ x. covered x stored.records r) texts ∙ ap (λ x. covered l.texts x r) same in
      let eq : stored.records ++ covered m.texts stored.records r ∷ [] ≡ l.shown ++ covered l.texts l.shown r ∷ [] =
      ap (λ (x : List Record). x ++ covered m.texts stored.records r ∷ []) same ∙ ap (λ (x : Record). l.shown ++ x ∷ []) cover in
      record {
        prefix = prefix_all (stored.records ++ covered m.texts stored.records r ∷ []) (l.shown ++ covered l.texts l.shown r ∷ []) eq;
        whole = λ j o. eq;
        unfinished = h.unfinished;
        is_told = h.is_told;
        enough = let w = h.enough in grind (arith, common_steps);
        alike = h.alike;
        bare = λ d. let (q, t) = h.is_told k own in let z : Some q ≡ None = sym t ∙ d in cc;
      }

  taken_together : (r : Record) (i : ℕ) (stored : Stored) (promised : ℕ) → log_of (m.states k) ≡ Some i → m.logs i ≡ There stored promised
      → Together good set n k (Ok (request.Record r)) l (taken k i r (There stored promised) m)
  taken_together r i stored promised e at = go (takes stored r) refl
    where
      longer : Machine
      longer = with_log i (There (with_record (covered m.texts stored.records r) stored) promised) m

      more : Fits good set n (with_log i (There (with_record (covered m.texts stored.records r) stored) promised) m) (asked n k (Ok (request.Record r)) [] false l)
      more = elim (eq_or n i) [
        | equal p u ↦ rw (its_writes i e p) (fits_log good set n i (with_record (covered m.texts stored.records r) stored) promised m l (sent_one r l)
            (there_not_above set m i stored promised f.sound at) f refl (λ j. refl) refl (λ q. taken_holds i stored promised r e at p) (λ q. absurd (q p)))
        | unequal p u ↦ rw (not_its_writes i e p) (fits_log good set n i (with_record (covered m.texts stored.records r) stored) promised m l l
            (there_not_above set m i stored promised f.sound at) f refl (λ j. refl) refl (λ q. absurd (p q)) (λ q. (refl, refl)))
      ]

      go : (b : Bool) → takes stored r ≡ b → Together good set n k (Ok (request.Record r)) l (taken k i r (There stored promised) m)
      go false d = rw d (refused_together good set n k (Ok (request.Record r)) refusals.LogFull m l f)
      go true d = rw d (fits_beside good set n (with_log i (There (with_record (covered m.texts stored.records r) stored) promised) m) m.failed_draws (insert_once i m.waiting) m.lines m.fresh m.noting
          (asked n k (Ok (request.Record r)) [] false l) more)

  pub recorded_together : (r : Record) (i : ℕ) → log_of (m.states k) ≡ Some i → Together good set n k (Ok (request.Record r)) l (recorded k (Some i) r m)
  recorded_together r i e = let (stored, promised, at) = f.sound.there i k (owned_by i e) in rw at (taken_together r i stored promised e at)

  -- ---- An exit

  finished_holds : (exit : List ℕ) (i : ℕ) (stored : Stored) (promised : ℕ) → log_of (m.states k) ≡ Some i → m.logs i ≡ There stored promised → n ≡ i
      → good → HoldsRecords (with_exit exit stored) (length stored.records) ((leaves k Dead m).owner n) l.shown (becomes l.promised (length l.shown))
  finished_holds exit i stored promised e at p g =
      let h = holds_there good set n m l stored promised f (subst (λ y. m.logs y ≡ There stored promised) (sym p) at) g in
      let own : m.owner n ≡ Some k = subst (λ y. m.owner y ≡ Some k) (sym p) (owned_by i e) in
      let eq = h.whole k own in
      record {
        prefix = prefix_all stored.records l.shown eq;
        whole = λ j o. eq;
        unfinished = λ j o. absurd (left_nobody Dead i e p j o);
        is_told = λ j o. absurd (left_nobody Dead i e p j o);
        enough = omega arith;
        alike = λ q d. let a = becomes_is l.promised (length l.shown) q d in let b : length l.shown ≡ length stored.records = ap length (sym eq) in omega arith;
        bare = λ d. h.bare (becomes_none l.promised (length l.shown) d);
      }

  finished_together : (exit : Exit) (i : ℕ) (stored : Stored) (promised : ℕ) → log_of (m.states k) ≡ Some i → m.logs i ≡ There stored promised
      → Together good set n k (Ok (request.Exit exit)) l (finished k i (exit_text exit) (There stored promised) m)
  finished_together exit i stored promised e at = go (fits_file (exit_text exit)) refl
    where
      ended : Together good set n k (Ok (request.Exit exit)) l (ends k (say k (CommitPoint (elapsed stored.records)) ∷ say k Shut ∷ []) (with_log i (There (with_exit (exit_text exit) stored) (length stored.records)) m))
      ended = elim (eq_or n i) [
        | equal p u ↦ rw (its_writes i e p, its_writes i e p) (fits_log good set n i (with_exit (exit_text exit) stored) (length stored.records) (leaves k Dead m) (heard true k Shut l)
            (record l { shut = (heard true k Shut l).shut; writers = (heard true k Shut l).writers; promised = becomes l.promised (length l.shown); exit = Some (exit_text exit); finished = l.finished || true })
            (there_not_above set m i stored promised f.sound at) (fits_dies good set n k m l f true) refl (λ j. refl) refl (λ q. finished_holds (exit_text exit) i stored promised e at p) (λ q. absurd (q p)))
        | unequal p u ↦ rw (not_its_writes i e p, not_its_writes i e p) (fits_log good set n i (with_exit (exit_text exit) stored) (length stored.records) (leaves k Dead m) (heard true k Shut l) (heard true k Shut l)
            (there_not_above set m i stored promised f.sound at) (fits_dies good set n k m l f true) refl (λ j. refl) refl (λ q. absurd (p q)) (λ q. (refl, refl)))
      ]

      go : (b : Bool) → fits_file (exit_text exit) ≡ b → Together good set n k (Ok (request.Exit exit)) l (finished k i (exit_text exit) (There stored promised) m)
      go true d = rw d ended
      go false d = rw d (refused_together good set n k (Ok (request.Exit exit)) refusals.LogFull m l f)

  pub exited_together : (exit : Exit) (o : Option ℕ) → log_of (m.states k) ≡ o → Together good set n k (Ok (request.Exit exit)) l (exited k o (exit_text exit) m)
  exited_together exit None e = shut_together good set n k (Ok (request.Exit exit)) m l f
  exited_together exit (Some i) e = let (stored, promised, at) = f.sound.there i k (owned_by i e) in rw at (finished_together exit i stored promised e at)
