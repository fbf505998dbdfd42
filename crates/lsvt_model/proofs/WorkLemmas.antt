-- The rows of the table, put together of what each step leaves.
use Rattle.std.proofs.Common.{◌≡◌, ℕ, List, [], ◌∷◌, length, refl, sym, ap, ◌∙◌, subst, Option, Some, None}
use Rattle.std.specs.Prelude.{◌==◌, ◌&&◌, not, nat_lt, Bool, true, false, if◌then◌else◌, is_some}
use Rattle.lsv_base.specs.declared.time.TimeSpec.{TimeSpec}
use Rattle.lsv_info.specs.Layout.{head_text}
use Rattle.lsv_mask.specs.Masking.{covered}
use Rattle.lsv_record.specs.Points.{Stored, first}
use Rattle.lsv_record.specs.Records.{delay_of, elapsed}
use Rattle.lsv_record.specs.declared.records.Record.{Record}
use Rattle.lsv_record.specs.declared.records.Record.TheVariants.{Io, Winsize, Suspend}
use Rattle.lsv_record.specs.declared.records.Stream.TheVariants.{Stdin, Stdout, Stderr, Ttyin, Ttyout}
use Rattle.lsv_request.specs.declared.refusal.Refusal.TheVariants.{LogFull}
use Rattle.lsv_request.specs.declared.request.Request.{Request}
use Rattle.lsv_request.specs.declared.request.Request.TheVariants as request
use Rattle.lsv_session.specs.declared.connection.ConnId.{ConnId}
use Rattle.lsv_session.specs.declared.connection.ConnState.{ConnState}
use Rattle.lsv_session.specs.declared.connection.ConnState.TheVariants.{Dead, Running}
use Rattle.lsv_machine.specs.Answers.{Saying.CommitPoint, Saying.LogId, Saying.Shut, is_refused, say}
use Rattle.lsv_machine.specs.Machine.{LogState, LogState.There, Machine, insert_once, is_running, leaves, log_of, with_log, with_owner, with_state}
use Rattle.lsv_machine.specs.Work.{Done, before_line, can_cut, cut_to, draws, empty_log, ends, finished, fits_file, has_line, last_number, lined, makes, opened, opens, refused, restarted, sets_exit, silently, taken, takes, with_exit, with_record, work}
use Rattle.lsvt_model.specs.Inner.{Gives, adds_any, fits_any, noted}
use Rattle.lsvt_model.specs.Inner.{drawn, next_of}
use Rattle.lsvt_model.specs.Views.{settings_of}
use Rattle.lsvt_model.specs.declared.settings.RunSettings.{RunSettings}
use Rattle.lsvt_model.specs.declared.told.Told.{Told}
use Rattle.lsvt_model.specs.declared.told.Told.TheVariants as told
use Rattle.lsvt_model.proofs.Outcomes.{fits_gives, full_gives, lined_noted, owner_same}

-- one log of a machine is another one, and the owners are as they were
pub relogged : (x m : Machine) (f : ℕ → LogState) (g : ℕ → Option ConnId) (n : ℕ) (l : LogState) → x ≡ m → f ≡ (λ i. if i == n then l else x.logs i) → g ≡ x.owner
    → record x { logs = f; owner = g } ≡ with_log n l m
relogged x m f g n l e a b =
    let on_logs : (ℕ → LogState) → Machine = λ h. record x { logs = h; owner = g } in
    let on_owner : (ℕ → Option ConnId) → Machine = λ h. record x { logs = λ i. if i == n then l else x.logs i; owner = h } in
    let on_machine : Machine → Machine = λ y. with_log n l y in
    ap on_logs a ∙ (ap on_owner b ∙ ap on_machine e)

-- ---- An exit

pub finish_full : (line : Option (List ℕ)) (k : ConnId) (n : ℕ) (exit : List ℕ) (stored : Stored) (promised : ℕ) (m x : Machine) (is_told : Bool) (f : ℕ → LogState) (g : ℕ → Option ConnId) (t : Told) (end : Machine)
    → m.logs n ≡ There stored promised → fits_file exit ≡ true → is_told ≡ false → fits_any line m ≡ false → x ≡ m
    → f ≡ (λ i. if i == n then There (with_exit exit stored) (if is_told then length stored.records else promised) else x.logs i) → g ≡ x.owner
    → Gives (refused k LogFull (record x { logs = f; owner = g })) k t end → Gives (noted line k (sets_exit n exit (m.logs n) m) m (finished k n exit (m.logs n) m)) k t end
finish_full line k n exit stored promised m x true f g t end a fit b full e h i s = cc
finish_full line k n exit stored promised m x false f g t end a fit b full e h i s =
    rw (a, fit) (full_gives line k (with_log n (There (with_exit exit stored) promised) m) m (record x { logs = f; owner = g })
    (ends k (say k (CommitPoint (elapsed stored.records)) ∷ say k Shut ∷ []) (with_log n (There (with_exit exit stored) (length stored.records)) m)) t end refl full
    (relogged x m f g n (There (with_exit exit stored) promised) e h i) s)

pub finish_fits : (line : Option (List ℕ)) (k : ConnId) (n : ℕ) (exit : List ℕ) (stored : Stored) (promised : ℕ) (m x : Machine) (is_told : Bool) (f : ℕ → LogState) (g : ℕ → Option ConnId) (point : ℕ) (end : Machine)
    → m.logs n ≡ There stored promised → fits_file exit ≡ true → is_told ≡ true → fits_any line m ≡ true → x ≡ adds_any k line m
    → f ≡ (λ i. if i == n then There (with_exit exit stored) (if is_told then length stored.records else promised) else x.logs i) → g ≡ x.owner
    → point ≡ elapsed stored.records → end ≡ leaves k Dead (record x { logs = f; owner = g })
    → Gives (noted line k (sets_exit n exit (m.logs n) m) m (finished k n exit (m.logs n) m)) k (told.Finished point) end
finish_fits line k n exit stored promised m x false f g point end a fit b fits e h i p s = cc
finish_fits line k n exit stored promised m x true f g point end a fit b fits e h i p s =
    let on_machine : Machine → Machine = λ y. leaves k Dead y in
    rw (a, fit, p) (fits_gives line k (with_log n (There (with_exit exit stored) promised) m) m
    (ends k (say k (CommitPoint (elapsed stored.records)) ∷ say k Shut ∷ []) (with_log n (There (with_exit exit stored) (length stored.records)) m)) (told.Finished (elapsed stored.records)) end refl fits refl
    (s ∙ ap on_machine (relogged x (adds_any k line m) f g n (There (with_exit exit stored) (length stored.records)) e h i)))

-- ---- An accept

fits_draws : (line : Option (List ℕ)) (n : ℕ) (m : Machine) → fits_any line (draws n m) ≡ fits_any line m
fits_draws None n m = refl
fits_draws (Some line) n m = refl

pub open_full : (line : Option (List ℕ)) (k : ConnId) (head : List ℕ) (n : ℕ) (m x y : Machine) (o : Option ConnId) (t : Told) (end : Machine)
    → nat_lt last_number n ≡ false → fits_file head ≡ true → fits_any line (draws n m) ≡ false → x ≡ draws n m → o ≡ x.owner n
    → y ≡ with_owner n o (with_log n (There (empty_log head) 0) x)
    → Gives (refused k LogFull y) k t end → Gives (noted line k (makes n head m) m (opened k head n m)) k t end
open_full line k head n m x y o t end small fit full e p q s =
    let on_log : Machine → Machine = λ z. with_log n (There (empty_log head) 0) z in
    let same : y ≡ makes n head m = q ∙ (owner_same n o (with_log n (There (empty_log head) 0) x) (sym p) ∙ ap on_log e) in
    rw (small, fit) (full_gives line k (makes n head m) m y
    (record { answers = say k (LogId n) ∷ []; line = []; machine = with_state k (Running (Some n)) (with_owner n (Some k) (makes n head m)) }) t end refl
    (sym (fits_draws line n m) ∙ full) same s)

pub open_fits : (line : Option (List ℕ)) (k : ConnId) (head : List ℕ) (n : ℕ) (m x y end : Machine)
    → nat_lt last_number n ≡ false → fits_file head ≡ true → fits_any line (draws n m) ≡ true → x ≡ adds_any k line (draws n m)
    → y ≡ with_owner n (Some k) (with_log n (There (empty_log head) 0) x) → end ≡ with_state k (Running (Some n)) y
    → Gives (noted line k (makes n head m) m (opened k head n m)) k (told.Log n) end
open_fits line k head n m x y end small fit fits e q s =
    let on_state : Machine → Machine = λ z. with_state k (Running (Some n)) z in
    let on_log : Machine → Machine = λ z. with_state k (Running (Some n)) (with_owner n (Some k) (with_log n (There (empty_log head) 0) z)) in
    rw (small, fit) (fits_gives line k (makes n head m) m
    (record { answers = say k (LogId n) ∷ []; line = []; machine = with_state k (Running (Some n)) (with_owner n (Some k) (makes n head m)) }) (told.Log n) end refl
    (sym (fits_draws line n m) ∙ fits) refl (s ∙ (ap on_state q ∙ ap on_log e)))

-- ---- A record

pub delay_covered : (texts : List (List ℕ)) (rs : List Record) (r : Record) → delay_of (covered texts rs r) ≡ delay_of r
delay_covered texts rs (Io delay Ttyin bytes) = refl
delay_covered texts rs (Io delay Ttyout bytes) = refl
delay_covered texts rs (Io delay Stdin bytes) = refl
delay_covered texts rs (Io delay Stdout bytes) = refl
delay_covered texts rs (Io delay Stderr bytes) = refl
delay_covered texts rs (Winsize delay rows cols) = refl
delay_covered texts rs (Suspend delay signal) = refl

pub take_gives : (k : ConnId) (n : ℕ) (r s : Record) (m : Machine) (stored : Stored) (promised : ℕ) (f : ℕ → LogState) (g : ℕ → Option ConnId) (w : List ℕ)
    → m.logs n ≡ There stored promised → takes stored r ≡ true → s ≡ covered m.texts stored.records r
    → f ≡ (λ i. if i == n then There (with_record s stored) promised else m.logs i) → g ≡ m.owner → w ≡ insert_once n m.waiting
    → Gives (taken k n r (m.logs n) m) k told.Nothing (record m { logs = f; owner = g; waiting = w })
take_gives k n r s m stored promised f g w t fits c a b d =
    let on_logs : (ℕ → LogState) → Machine = λ h. record m { logs = h; owner = g; waiting = w } in
    let on_record : Record → Machine = λ q. record m { logs = λ i. if i == n then There (with_record q stored) promised else m.logs i; owner = g; waiting = w } in
    let next : LogState = There (with_record (covered m.texts stored.records r) stored) promised in
    let on_owner : (ℕ → Option ConnId) → Machine = λ h. record m { logs = λ i. if i == n then next else m.logs i; owner = h; waiting = w } in
    let on_waiting : List ℕ → Machine = λ v. record m { logs = λ i. if i == n then next else m.logs i; waiting = v } in
    rw (t, fits) (record { answers = refl; machine = ap on_logs a ∙ (ap on_record c ∙ (ap on_owner b ∙ ap on_waiting d)) })

-- ---- A restart

pub restart_gives : (k : ConnId) (n point : ℕ) (m : Machine) (stored : Stored) (promised kept : ℕ) (f : ℕ → LogState) (g : ℕ → Option ConnId) (end : Machine)
    → is_some (m.owner n) ≡ false → m.logs n ≡ There stored promised → is_some stored.exit ≡ false → first stored.records point ≡ Some kept → can_cut kept stored ≡ true
    → f ≡ (λ i. if i == n then There (cut_to kept stored) kept else m.logs i) → g ≡ (λ i. if i == n then Some k else m.owner i)
    → end ≡ with_state k (Running (Some n)) (record m { logs = f; owner = g })
    → Gives (restarted k n point m) k told.Nothing end
restart_gives k n point m stored promised kept f g end free t goes_on at can a b s =
    let on_logs : (ℕ → LogState) → Machine = λ h. with_state k (Running (Some n)) (record m { logs = h; owner = g }) in
    let on_owner : (ℕ → Option ConnId) → Machine = λ h. with_state k (Running (Some n)) (record m { logs = λ i. if i == n then There (cut_to kept stored) kept else m.logs i; owner = h }) in
    rw (free, t, goes_on, at, can) (record { answers = refl; machine = s ∙ (ap on_logs a ∙ ap on_owner b) })

-- ---- The event line

spent_refused : (k : ConnId) (s : ConnState) (asked : Request) (n : ℕ) (m : Machine) → opens s asked ≡ true → nat_lt last_number n ≡ true → is_refused (work k s asked n m).answers ≡ true
spent_refused k s request.Hello n m o e = cc
spent_refused k s (request.Accept accept) n m o e = go (is_running s) accept.expect_iobufs o
  where
    go : (r i : Bool) → (not r && i) ≡ true
        → is_refused (if r then silently m else if i then opened k (head_text accept.head) n m else silently (with_state k (Running None) m)).answers ≡ true
    go true i o = cc
    go false true o = rw e refl
    go false false o = cc
spent_refused k s (request.Reject report) n m o e = cc
spent_refused k s (request.Alert report) n m o e = cc
spent_refused k s (request.Restart restart) n m o e = cc
spent_refused k s (request.Record r) n m o e = cc
spent_refused k s (request.Exit exit) n m o e = cc

noted_alike : (a b : List ℕ) (k : ConnId) (full old : Machine) (d : Done) → is_refused d.answers ≡ true → noted (Some a) k full old d ≡ noted (Some b) k full old d
noted_alike a b k full old d e = rw e refl

pub answer_gives : (set : RunSettings) (lines : TimeSpec → ConnId → Request → Option ℕ → List ℕ) (now : TimeSpec) (k : ConnId) (s : ConnState) (asked : Request) (m : Machine) (line : Option (List ℕ)) (t : Told) (end : Machine)
    → line ≡ (if has_line (settings_of set lines) asked then Some (lines now k asked (if opens s asked then drawn set m else log_of s)) else None)
    → Gives (noted line k (before_line s asked (next_of set m) m) m (work k s asked (next_of set m) m)) k t end
    → Gives (lined (settings_of set lines) now k s asked (next_of set m) m (work k s asked (next_of set m) m)) k t end
answer_gives set lines now k s asked m line t end e g =
    let d = work k s asked (next_of set m) m in
    let full = before_line s asked (next_of set m) m in
    let on_line : Option (List ℕ) → Done = λ l. noted l k full m d in
    subst (λ (x : Done). Gives x k t end)
    (ap on_line e ∙ (go (has_line (settings_of set lines) asked) (opens s asked) refl (nat_lt last_number (next_of set m)) refl
    ∙ sym (lined_noted (settings_of set lines) now k s asked (next_of set m) m d))) g
  where
    go : (h o : Bool) → opens s asked ≡ o → (b : Bool) → nat_lt last_number (next_of set m) ≡ b
        → noted (if h then Some (lines now k asked (if o then (if b then None else Some (next_of set m)) else log_of s)) else None) k (before_line s asked (next_of set m) m) m (work k s asked (next_of set m) m)
        ≡ noted (if h then Some (lines now k asked (if o then Some (next_of set m) else log_of s)) else None) k (before_line s asked (next_of set m) m) m (work k s asked (next_of set m) m)
    go false o p b q = refl
    go true false p b q = refl
    go true true p false q = refl
    go true true p true q = noted_alike (lines now k asked None) (lines now k asked (Some (next_of set m))) k (before_line s asked (next_of set m) m) m (work k s asked (next_of set m) m)
        (spent_refused k s asked (next_of set m) m p q)
