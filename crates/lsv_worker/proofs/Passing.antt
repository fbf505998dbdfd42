-- What holds of each connection of a table in a call.
use Rattle.std.proofs.Common.{◌≡◌, ◌≢◌, ◌⊎◌, ℕ, zero, suc, ◌+◌, ◌<◌, ◌≤◌, ◌==◌, Bool, true, false, List, [], ◌∷◌, ◌++◌, length, map, get_or, set, get_or-set_same, get_or-set_other, refl, sym, ap, subst, ◌∙◌, inl, inr, ⊎_elim, arith}
use Rattle.std.specs.Prelude.{if◌then◌else◌, not}
use Rattle.std.specs.List.{Contains}
use Rattle.std.proofs.lemmas.List.Elements.{Contains-append_cases, Contains-append_left, Contains-append_right}
use Rattle.lsv_port.specs.Port.{IsOpen, LinkState, PortState}
use Rattle.lsv_session.specs.Transcript.{answers}
use Rattle.lsv_session.specs.declared.job.Job.{Job}
use Rattle.lsv_session.specs.declared.reply.Reply.{Reply}
use Rattle.lsv_worker.specs.Incoming.{has_left}
use Rattle.lsv_worker.specs.Outgoing.{Alone}
use Rattle.lsv_worker.specs.Links.{IsPassed, IsSent, KeepsRules, ReadsNone, Remains, WritesNone, is_done}
use Rattle.lsv_worker.specs.Worker.{AllRemain, AreClosed, AreLast, AreOfLanes, ArePassed, HasLater, IsHeldFor, IsIn, IsMade, IsNoted, IsBlocked, IsThere, IsWritten, KeepRules, Setting, Stands, marked, open_in, owed_if, undone}
use Rattle.lsv_worker.specs.declared.link.Link.{Link}
use Rattle.lsv_worker.specs.declared.link.Blocked.{Blocked}
use Rattle.lsv_worker.specs.declared.link.Blocked.TheVariants as blocks
use Rattle.lsv_worker.specs.declared.link.Phase.{Phase}
use Rattle.lsv_worker.specs.declared.outgoing.Sending.TheVariants.{Open}
use Rattle.lsv_worker.specs.declared.worker.Worker.{Worker}
use Rattle.lsv_worker.proofs.Putting.{same_or_not}
use Rattle.lsv_worker.proofs.Reading.{Rest, numbers_apart}
use Rattle.lsv_worker.proofs.Ruling.{passed_from, passed_to, quiet_voice, reason_late, remains_here, remains_then, rules_quiet}
use Rattle.lsv_worker.proofs.Tables.{Fits, live_undone, same_default, table_at}

-- ---- lists

pub contains_at : (links : List Link) (i : ℕ) (d : Link) → i < length links → Contains links (get_or links i d)
contains_at links i d within = (i, within, same_default links i (get_or links i d) d within)

contains_next : (x link : Link) (links : List Link) → Contains links link → Contains (x ∷ links) link
contains_next x link links has = (suc has.0, (let low : has.0 < length links = has.1 in omega arith), has.2)

contains_first : (x link : Link) (links : List Link) → x ≡ link → Contains (x ∷ links) link
contains_first x link links is = (0, omega arith, is)

case_at : (x link : Link) (links : List Link) (i : ℕ) → i < length (x ∷ links) → get_or (x ∷ links) i link ≡ link → (x ≡ link) ⊎ Contains links link
case_at x link links zero within is = inl is
case_at x link links (suc i) within is = inr (i, omega arith, is)

contains_case : (x link : Link) (links : List Link) → Contains (x ∷ links) link → (x ≡ link) ⊎ Contains links link
contains_case x link links has = case_at x link links has.0 has.1 has.2

none_contains : (link : Link) → Contains [] link → ⊥
none_contains link has = let low : has.0 < 0 = has.1 in omega arith

swept_if : (b : Bool) (x link : Link) (links : List Link) → Contains (if b then x ∷ links else links) link → (x ≡ link) ⊎ Contains links link
swept_if true x link links has = contains_case x link links has
swept_if false x link links has = inr has

pub contains_swept : (link : Link) (links : List Link) → Contains (undone links) link → Contains links link
contains_swept link [] has = absurd (none_contains link has)
contains_swept link (x ∷ links) has = ⊎_elim (λ is. contains_first x link links is) (λ later. contains_next x link links (contains_swept link links later)) (swept_if (not (is_done x)) x link (undone links) has)

kept_if : (b : Bool) (x link : Link) (links : List Link) → Contains links link → Contains (if b then x ∷ links else links) link
kept_if true x link links has = contains_next x link links has
kept_if false x link links has = has

kept_first : (b : Bool) (x link : Link) (links : List Link) → b ≡ true → x ≡ link → Contains (if b then x ∷ links else links) link
kept_first true x link links e is = contains_first x link links is
kept_first false x link links e is = absurd cc

pub contains_undone : (link : Link) (links : List Link) → is_done link ≡ false → Contains links link → Contains (undone links) link
contains_undone link [] more has = absurd (none_contains link has)
contains_undone link (x ∷ links) more has =
    ⊎_elim (λ is. kept_first (not (is_done x)) x link (undone links) (ap (λ (l : Link). not (is_done l)) is ∙ ap not more) is)
    (λ later. kept_if (not (is_done x)) x link (undone links) (contains_undone link links more later)) (contains_case x link links has)

-- ---- links whose reading stopped

one_at : (l m i : ℕ) → i < length (l ∷ []) → get_or (l ∷ []) i m ≡ m → l ≡ m
one_at l m zero within e = e
one_at l m (suc i) within e = absurd (omega arith)

pub paused_more : (links : List Link) (held : List ℕ) (i : ℕ) (link : Link) → i < length links → link ≡ get_or links i link → link.blocked ≢ blocks.No → ((m : ℕ) → Contains held m → IsBlocked links m) → (m : ℕ) → Contains (held ++ link.number ∷ []) m → IsBlocked links m
paused_more links held i link within is blocked_by all m has =
    ⊎_elim (λ was. all m was)
    (λ now. record { link = link; is = (i, within, sym is); number = one_at link.number m now.0 now.1 now.2; blocked_by = blocked_by })
    (Contains-append_cases held (link.number ∷ []) m has)

calm_or_not : (p : Blocked) → (p ≡ blocks.No) ⊎ (p ≢ blocks.No)
calm_or_not blocks.No = inl refl
calm_or_not blocks.InboxFull = inr (λ (no : blocks.InboxFull ≡ blocks.No). cc)
calm_or_not blocks.OutputFull = inr (λ (no : blocks.OutputFull ≡ blocks.No). cc)
calm_or_not blocks.ReadBudget = inr (λ (no : blocks.ReadBudget ≡ blocks.No). cc)
calm_or_not blocks.OutOfMemory = inr (λ (no : blocks.OutOfMemory ≡ blocks.No). cc)

held_more : (held : List ℕ) (n m : ℕ) → Contains held m → Contains (held ++ n ∷ []) m
held_more held n m has = Contains-append_left held (n ∷ []) m has

held_last : (held : List ℕ) (n : ℕ) → Contains (held ++ n ∷ []) n
held_last held n = Contains-append_right held (n ∷ []) n (0, omega arith, refl)

-- the links before this one that something keeps from being read are held
abbrev pub HeldBelow : List Link → List ℕ → ℕ → Type 0
HeldBelow links held i = (j : ℕ) (d : Link) → j < i → (get_or links j d).blocked ≢ blocks.No → Contains held (get_or links j d).number

held_here : (links : List Link) (after : List ℕ) (i : ℕ) (link : Link) → i < length links → link ≡ get_or links i link → ((m : ℕ) → m ≡ link.number → link.blocked ≢ blocks.No → Contains after m) → (j : ℕ) (d : Link) → j ≡ i → (get_or links j d).blocked ≢ blocks.No → Contains after (get_or links j d).number
held_here links after i link within is now j d at blocked_by =
    let same : get_or links j d ≡ link = ap (λ (k : ℕ). get_or links k d) at ∙ same_default links i d link within ∙ sym is in
    now (get_or links j d).number (ap (λ (l : Link). l.number) same) (λ e. blocked_by (ap (λ (l : Link). l.blocked) same ∙ e))

pub held_on : (links : List Link) (before after : List ℕ) (i : ℕ) (link : Link) → i < length links → link ≡ get_or links i link → (link.blocked ≡ blocks.No → after ≡ before) → (link.blocked ≢ blocks.No → after ≡ before ++ link.number ∷ []) → HeldBelow links before i → HeldBelow links after (i + 1)
held_on links before after i link within is unblocked held below j d under blocked_by =
    ⊎_elim
    (λ at. held_here links after i link within is (λ m e stopped. subst (λ (h : List ℕ). Contains h m) (sym (held stopped)) (subst (λ (n : ℕ). Contains (before ++ link.number ∷ []) n) (sym e) (held_last before link.number))) j d at blocked_by)
    (λ ne.
    let low : j < i = omega arith in
    let was : Contains before (get_or links j d).number = below j d low blocked_by in
    ⊎_elim (λ e. subst (λ (h : List ℕ). Contains h (get_or links j d).number) (sym (unblocked e)) was)
    (λ stopped. subst (λ (h : List ℕ). Contains h (get_or links j d).number) (sym (held stopped)) (held_more before link.number (get_or links j d).number was)) (calm_or_not link.blocked))
    (same_or_not j i)

pub paused_on : (links : List Link) (before after : List ℕ) (i : ℕ) (link : Link) → i < length links → link ≡ get_or links i link → (link.blocked ≡ blocks.No → after ≡ before) → (link.blocked ≢ blocks.No → after ≡ before ++ link.number ∷ []) → ((m : ℕ) → Contains before m → IsBlocked links m) → (m : ℕ) → Contains after m → IsBlocked links m
paused_on links before after i link within is unblocked held all m has =
    ⊎_elim (λ e. all m (subst (λ (h : List ℕ). Contains h m) (unblocked e) has))
    (λ stopped. paused_more links before i link within is stopped all m (subst (λ (h : List ℕ). Contains h m) (held stopped) has)) (calm_or_not link.blocked)

-- ---- nothing more is put on the link of a connection that is silent

pub quiet_in : (s : Setting) (links : List Link) (port : PortState) (jobs : ℕ → List Job) (replies : List Reply) (i : ℕ) (old : Link) → i < length links → old ≡ get_or links i old → Stands s links port jobs replies → old.outgoing.sending ≢ Open → old.outgoing.unsent ≡ []
quiet_in s links port jobs replies i old within is h ne =
    let at : IsMade s old.conn.seq × (h.last old.conn.seq ≡ old) = table_at h.last s links i old within is h.table in
    let fits : Fits s old port jobs replies = subst (λ (l : Link). Fits s l port jobs replies) at.1 (h.each old.conn.seq at.0) in
    quiet_voice old.outgoing (port.link old.number).output (answers old.conn replies) ne fits.outward

-- ---- a pass over a table

-- what the pass did for the connections before this one
abbrev pub PassedBelow : Phase → List Link → List Link → ℕ → PortState → PortState → (ℕ → ℕ) → (ℕ → ℕ) → Type 0
PassedBelow phase firsts links i s t p q = (j : ℕ) (d : Link) → j < i → IsPassed phase (get_or firsts j d) (get_or links j d) (s.link (get_or firsts j d).number) (t.link (get_or firsts j d).number) p q

-- the connections from this one on are as they were
abbrev pub Later : List Link → List Link → ℕ → Type 0
Later firsts links i = (j : ℕ) (d : Link) → i ≤ j → get_or links j d ≡ get_or firsts j d

pub later_set : (firsts links : List Link) (i : ℕ) (new : Link) → Later firsts links i → Later firsts (set links i new) (i + 1)
later_set firsts links i new later j d above =
    let ne : j ≢ i = λ is. absurd (omega (arith, above, is)) in
    get_or-set_other links i j new d ne ∙ later j d (omega arith)

passed_here : (phase : Phase) (firsts links : List Link) (i : ℕ) (d e new : Link) (a b c : PortState) (p q r : ℕ → ℕ) → i < length links → Rest links i a b → Later firsts links i → ((m : ℕ) → p m ≤ q m)
    → IsPassed phase (get_or links i d) new (b.link (get_or links i d).number) (c.link (get_or links i d).number) q r
    → IsPassed phase (get_or firsts i e) (get_or (set links i new) i e) (a.link (get_or firsts i e).number) (c.link (get_or firsts i e).number) p r
passed_here phase firsts links i d e new a b c p q r here rest later le one =
    let x : Link = get_or links i d in
    let is : x ≡ get_or firsts i e = same_default links i d e here ∙ later i e (omega arith) in
    let early : IsPassed phase x new (a.link x.number) (c.link x.number) p r = passed_from phase x new (a.link x.number) (c.link x.number) p q r le (subst (λ (y : LinkState). IsPassed phase x new y (c.link x.number) q r) (rest i d (omega arith) here) one) in
    subst (λ (l : Link). IsPassed phase (get_or firsts i e) l (a.link (get_or firsts i e).number) (c.link (get_or firsts i e).number) p r) (sym (get_or-set_same links i new e here))
    (subst (λ (l : Link). IsPassed phase l new (a.link l.number) (c.link l.number) p r) is early)

passed_there : (s : Setting) (phase : Phase) (firsts links : List Link) (i j : ℕ) (d e new : Link) (a b c : PortState) (jobs : ℕ → List Job) (replies : List Reply) (p q r : ℕ → ℕ) → i < length links → j < length links → j ≢ i → Stands s links b jobs replies
    → Alone (get_or links i d).number b c → ((m : ℕ) → q m ≤ r m)
    → IsPassed phase (get_or firsts j e) (get_or links j e) (a.link (get_or firsts j e).number) (b.link (get_or firsts j e).number) p q
    → IsPassed phase (get_or firsts j e) (get_or (set links i new) j e) (a.link (get_or firsts j e).number) (c.link (get_or firsts j e).number) p r
passed_there s phase firsts links i j d e new a b c jobs replies p q r here there ne h alone le one =
    let x : Link = get_or firsts j e in
    let apart : x.number ≢ (get_or links i d).number = λ is. numbers_apart s links b jobs replies j i e d there here ne h (one.rules.remains.number ∙ is) in
    let now : IsPassed phase x (get_or links j e) (a.link x.number) (c.link x.number) p q = subst (λ (y : LinkState). IsPassed phase x (get_or links j e) (a.link x.number) y p q) (sym (alone.others x.number apart)) one in
    subst (λ (l : Link). IsPassed phase x l (a.link x.number) (c.link x.number) p r) (sym (get_or-set_other links i j new e ne)) (passed_to phase x (get_or links j e) (a.link x.number) (c.link x.number) p q r le now)

pub passed_on : (s : Setting) (phase : Phase) (firsts links : List Link) (i : ℕ) (d new : Link) (a b c : PortState) (jobs : ℕ → List Job) (replies : List Reply) (p q r : ℕ → ℕ) → i < length links → Stands s links b jobs replies → Alone (get_or links i d).number b c
    → Rest links i a b → Later firsts links i → ((m : ℕ) → p m ≤ q m) → ((m : ℕ) → q m ≤ r m) → IsPassed phase (get_or links i d) new (b.link (get_or links i d).number) (c.link (get_or links i d).number) q r
    → PassedBelow phase firsts links i a b p q → PassedBelow phase firsts (set links i new) (i + 1) a c p r
passed_on s phase firsts links i d new a b c jobs replies p q r here h alone rest later pq qr one below j e under =
    ⊎_elim
    (λ is. subst (λ (k : ℕ). IsPassed phase (get_or firsts k e) (get_or (set links i new) k e) (a.link (get_or firsts k e).number) (c.link (get_or firsts k e).number) p r) (sym is)
    (passed_here phase firsts links i d e new a b c p q r here rest later pq one))
    (λ ne.
    let low : j < i = omega arith in
    passed_there s phase firsts links i j d e new a b c jobs replies p q r here (omega arith) ne h alone qr (below j e low))
    (same_or_not j i)

-- ---- what it comes to

pub all_written : (phase : Phase) (olds links : List Link) (s t : PortState) (p q : ℕ → ℕ) → ArePassed phase olds links s t p q → IsWritten (undone links) t
all_written phase olds links s t p q h link has =
    let at : Contains links link = contains_swept link links has in
    let within : at.0 < length olds = let size = h.size in let low : at.0 < length links = at.1 in omega arith in
    let one = h.each at.0 link within in
    let number : link.number ≡ (get_or olds at.0 link).number = ap (λ (l : Link). l.number) (sym at.2) ∙ one.rules.remains.number in
    subst (λ (n : ℕ). IsSent link (t.link n)) (sym number) (subst (λ (l : Link). IsSent l (t.link (get_or olds at.0 link).number)) at.2 one.sent)

pub all_rules : (phase : Phase) (olds links : List Link) (s t : PortState) (p q : ℕ → ℕ) → ArePassed phase olds links s t p q → KeepRules phase olds (undone links) s t
all_rules phase olds links s t p q h link has =
    let within : has.0 < length links = let size = h.size in let low : has.0 < length olds = has.1 in omega arith in
    let one = h.each has.0 link has.1 in
    record {
      new = get_or links has.0 link;
      stands = λ more. contains_undone (get_or links has.0 link) links more (contains_at links has.0 link within);
      rules = subst (λ (l : Link). KeepsRules phase l (get_or links has.0 link) (s.link l.number) (t.link l.number)) has.2 one.rules;
    }

pub all_held : (phase : Phase) (w : Worker) (olds links : List Link) (s t : PortState) (p q : ℕ → ℕ) (l : ℕ) → w.links.items ≡ undone links → ArePassed phase olds links s t p q → IsBlocked (undone links) l → IsHeldFor w l s t p q
all_held phase w olds links s t p q l is h blocked_by =
    let at : Contains links blocked_by.link = contains_swept blocked_by.link links blocked_by.is in
    let within : at.0 < length olds = let size = h.size in let low : at.0 < length links = at.1 in omega arith in
    let one = h.each at.0 blocked_by.link within in
    let number : (get_or olds at.0 blocked_by.link).number ≡ l = sym (ap (λ (x : Link). x.number) (sym at.2) ∙ one.rules.remains.number) ∙ blocked_by.number in
    let same : IsPassed phase (get_or olds at.0 blocked_by.link) blocked_by.link (s.link l) (t.link l) p q =
    subst (λ (n : ℕ). IsPassed phase (get_or olds at.0 blocked_by.link) blocked_by.link (s.link n) (t.link n) p q) number
    (subst (λ (x : Link). IsPassed phase (get_or olds at.0 blocked_by.link) x (s.link (get_or olds at.0 blocked_by.link).number) (t.link (get_or olds at.0 blocked_by.link).number) p q) at.2 one) in
    record {
      link = blocked_by.link;
      is = subst (λ (x : List Link). Contains x blocked_by.link) (sym is) blocked_by.is;
      number = blocked_by.number;
      blocked_by = blocked_by.blocked_by;
      reason = same.reason;
    }

-- ---- calls before a pass, and without one

pub held_late : (w : Worker) (l : ℕ) (s t u : PortState) (p q : ℕ → ℕ) → ReadsNone s t → IsHeldFor w l t u p q → IsHeldFor w l s u p q
held_late w l s t u p q none h = record { link = h.link; is = h.is; number = h.number; blocked_by = h.blocked_by; reason = reason_late h.link.blocked h.link (s.link l) (t.link l) (u.link l) p q (none l) h.reason }

noted_rules : (phase : Phase) (link new : Link) (b : Bool) (s t u : LinkState) → t.reads ≡ s.reads → t.output ≡ s.output → KeepsRules phase (record link { owed = b }) new t u → KeepsRules phase link new s u
noted_rules phase link new b s t u reads output h = record {
  remains = record { number = h.remains.number; conn = h.remains.conn; lanes = h.remains.lanes; live = h.remains.live; out_of_memory = h.remains.out_of_memory; mute = h.remains.mute };
  out_of_memory = λ e. h.out_of_memory e ∙ reads;
  mute = λ ne. h.mute ne ∙ output;
  waiting = λ going le. h.waiting going (let same : length t.output ≡ length s.output = ap length output in omega (arith, same, le)) ∙ reads;
}

pub rules_late : (phase : Phase) (olds mids links : List Link) (s t u : PortState) → ((link : Link) → Contains olds link → IsNoted link mids) → ReadsNone s t → WritesNone s t → KeepRules phase mids links t u → KeepRules phase olds links s u
rules_late phase olds mids links s t u noted reads writes h link has =
    let mid = noted link has in
    let on : HasLater phase (record link { owed = mid.owed }) links t u = h (record link { owed = mid.owed }) mid.is in
    record { new = on.new; stands = on.stands; rules = noted_rules phase link on.new mid.owed (s.link link.number) (t.link link.number) (u.link link.number) (reads link.number) (writes link.number) on.rules }

pub rules_all : (phase : Phase) (olds links : List Link) (s t : PortState) → AllRemain olds links → ReadsNone s t → WritesNone s t → KeepRules phase olds links s t
rules_all phase olds links s t all reads writes link has =
    let within : has.0 < length links = let size = all.size in let low : has.0 < length olds = has.1 in omega arith in
    let new : Link = get_or links has.0 link in
    let remains : Remains link new = subst (λ (l : Link). Remains l new) has.2 (all.each has.0 link has.1) in
    record { new = new; stands = λ more. contains_at links has.0 link within; rules = rules_quiet phase link new (s.link link.number) (t.link link.number) remains (reads link.number) (writes link.number) }

pub remain_here : (links : List Link) → AllRemain links links
remain_here links = record { size = refl; each = λ i d within. remains_here (get_or links i d) }

size_set : (links : List Link) (i : ℕ) (new : Link) → length (set links i new) ≡ length links
size_set [] i new = refl
size_set (x ∷ links) zero new = refl
size_set (x ∷ links) (suc i) new = ap suc (size_set links i new)

pub remain_set : (olds links : List Link) (i : ℕ) (old new : Link) → i < length links → old ≡ get_or links i old → Remains old new → AllRemain olds links → AllRemain olds (set links i new)
remain_set olds links i old new here is one all = record {
  size = size_set links i new ∙ all.size;
  each = λ j d within.
      ⊎_elim
      (λ at.
      subst (λ (k : ℕ). Remains (get_or olds k d) (get_or (set links i new) k d)) (sym at)
      (subst (Remains (get_or olds i d)) (sym (get_or-set_same links i new d here))
      (remains_then (get_or olds i d) old new (subst (Remains (get_or olds i d)) (same_default links i d old here ∙ sym is) (all.each i d (let size = all.size in omega arith))) one)))
      (λ ne. subst (Remains (get_or olds j d)) (sym (get_or-set_other links i j new d ne)) (all.each j d within))
      (same_or_not j i);
}

-- each connection of a table still goes to one of `n` lanes
pub lanes_remain : (n : ℕ) (olds links : List Link) → AllRemain olds links → AreOfLanes n olds → AreOfLanes n links
lanes_remain n [] [] all h = tt
lanes_remain n [] (x ∷ links) all h = absurd (let size = all.size in omega arith)
lanes_remain n (y ∷ olds) [] all h = tt
lanes_remain n (y ∷ olds) (x ∷ links) all h = (
  (all.each 0 x (omega arith)).lanes ∙ h.0,
  lanes_remain n olds links (record { size = (let size = all.size in omega (arith, size)); each = λ i d within. all.each (suc i) d (omega arith) }) h.1,
)

-- ---- what the port told

pub noted_same : (link : Link) (links : List Link) → Contains links link → IsNoted link links
noted_same link links has = record { owed = link.owed; is = has }

map_in : (f : Link → Link) (link : Link) (links : List Link) → Contains links link → Contains (map f links) (f link)
map_in f link [] has = absurd (none_contains link has)
map_in f link (x ∷ links) has = ⊎_elim (λ is. contains_first (f x) (f link) (map f links) (ap f is)) (λ later. contains_next (f x) (f link) (map f links) (map_in f link links later)) (contains_case x link links has)

noted_if : (b : Bool) (link : Link) (links : List Link) → Contains links (owed_if b link) → IsNoted link links
noted_if true link links has = record { owed = true; is = has }
noted_if false link links has = record { owed = link.owed; is = has }

pub noted_marked : (number : ℕ) (link : Link) (links : List Link) → Contains links link → IsNoted link (marked number links)
noted_marked number link links has = noted_if (link.number == number) link (marked number links) (map_in (λ l. owed_if (l.number == number) l) link links has)

pub noted_more : (link new : Link) (links : List Link) → Contains links link → IsNoted link (links ++ new ∷ [])
noted_more link new links has = noted_same link (links ++ new ∷ []) (Contains-append_left links (new ∷ []) link has)

-- ---- every link is closed

in_closed : (last : ℕ → Link) (s : Setting) (k : ℕ) (links : List Link) → AreLast last s links → AreClosed links → IsIn k links → (last k).live ≡ false
in_closed last s k [] t closed within = absurd within
in_closed last s k (x ∷ links) t closed within =
    ⊎_elim (λ e. ap (λ (l : Link). l.live) (ap last (sym e) ∙ t.1) ∙ closed 0 x (omega arith)) (λ r. in_closed last s k links t.3 (λ i d low. closed (suc i) d (omega arith)) r) within

-- if each connection of the table is closed, no link is open
pub none_open : (s : Setting) (links : List Link) (port : PortState) (jobs : ℕ → List Job) (replies : List Reply) → Stands s links port jobs replies → AreClosed links → (l : ℕ) → IsOpen port l → ⊥
none_open s links port jobs replies h closed l here =
    let k : (n : ℕ) × IsMade s n × ((h.last n).number ≡ l) = h.linked l here in
    let fits : Fits s (h.last k.0) port jobs replies = h.each k.0 k.1 in
    let live : (h.last k.0).live ≡ true = sym fits.live ∙ subst (λ (n : ℕ). (port.link n).is_open ≡ true) (sym k.2) here in
    let dead : (h.last k.0).live ≡ false = in_closed h.last s k.0 links h.table closed (h.complete k.0 k.1 (live_undone (h.last k.0) live)) in
    let no : true ≡ false = sym live ∙ dead in cc

-- ---- a last Shut before the Gone

pub set_same : (links : List Link) (i : ℕ) (old : Link) → i < length links → old ≡ get_or links i old → set links i old ≡ links
set_same [] i old here is = refl
set_same (x ∷ links) zero old here is = ap (λ (l : Link). l ∷ links) is
set_same (x ∷ links) (suc i) old here is = ap (λ (l : List Link). x ∷ l) (set_same links i old (omega arith) is)

pub there_at : (seq : ℕ) (links : List Link) (i : ℕ) (d : Link) → i < length links → (get_or links i d).conn.seq ≡ seq → IsThere seq links → has_left (get_or links i d).incoming.stage ≡ false
there_at seq links i d within is there = there (get_or links i d) (contains_at links i d within) is

-- ---- how many links are open

open_if : (b c : Bool) (x y : Link) (xs ys : List Link) → (b ≡ true → c ≡ true) → length xs ≤ length ys → length (if b then x ∷ xs else xs) ≤ length (if c then y ∷ ys else ys)
open_if true true x y xs ys f le = omega (arith, le)
open_if true false x y xs ys f le = absurd (let no : false ≡ true = f refl in cc)
open_if false true x y xs ys f le = omega (arith, le)
open_if false false x y xs ys f le = le

open_less : (olds links : List Link) → length links ≡ length olds → ((i : ℕ) (d : Link) → i < length olds → (get_or links i d).live ≡ true → (get_or olds i d).live ≡ true) → length (open_in links) ≤ length (open_in olds)
open_less [] [] size live = omega arith
open_less [] (y ∷ ys) size live = absurd (omega (arith, size))
open_less (x ∷ xs) [] size live = absurd (omega (arith, size))
open_less (x ∷ xs) (y ∷ ys) size live = open_if y.live x.live y x (open_in ys) (open_in xs) (live 0 x (omega arith)) (open_less xs ys (omega (arith, size)) (λ i d low. live (suc i) d (omega arith)))

pub open_remain : (olds links : List Link) → AllRemain olds links → length (open_in links) ≤ length (open_in olds)
open_remain olds links all = open_less olds links all.size (λ i d within. (all.each i d within).live)

swept_open : (b c : Bool) (x : Link) (xs ys : List Link) → c ≡ x.live → length (open_in xs) ≤ length ys → length (open_in (if b then x ∷ xs else xs)) ≤ length (if c then x ∷ ys else ys)
swept_open true c x xs ys is le = open_if x.live c x x (open_in xs) ys (λ e. is ∙ e) le
swept_open false true x xs ys is le = omega (arith, le)
swept_open false false x xs ys is le = le

pub open_swept : (links : List Link) → length (open_in (undone links)) ≤ length (open_in links)
open_swept [] = omega arith
open_swept (x ∷ links) = swept_open (not (is_done x)) x.live x (undone links) (open_in links) refl (open_swept links)

open_once : (b : Bool) (x : Link) → length (if b then x ∷ [] else []) ≤ 1
open_once true x = omega arith
open_once false x = omega arith

open_next : (b : Bool) (x : Link) (xs ys : List Link) → length xs ≤ length ys + 1 → length (if b then x ∷ xs else xs) ≤ length (if b then x ∷ ys else ys) + 1
open_next true x xs ys le = omega (arith, le)
open_next false x xs ys le = le

pub open_push : (links : List Link) (new : Link) → length (open_in (links ++ new ∷ [])) ≤ length (open_in links) + 1
open_push [] new = open_once new.live new
open_push (x ∷ links) new = open_next x.live x (open_in (links ++ new ∷ [])) (open_in links) (open_push links new)

mark_live : (b : Bool) (x : Link) → (owed_if b x).live ≡ x.live
mark_live true x = refl
mark_live false x = refl

open_same : (b c : Bool) (x y : Link) (xs ys : List Link) → b ≡ c → length xs ≡ length ys → length (if b then x ∷ xs else xs) ≡ length (if c then y ∷ ys else ys)
open_same true true x y xs ys e same = ap suc same
open_same true false x y xs ys e same = absurd cc
open_same false true x y xs ys e same = absurd cc
open_same false false x y xs ys e same = same

pub open_marked : (number : ℕ) (links : List Link) → length (open_in (marked number links)) ≡ length (open_in links)
open_marked number [] = refl
open_marked number (x ∷ links) = open_same (owed_if (x.number == number) x).live x.live (owed_if (x.number == number) x) x (open_in (marked number links)) (open_in links) (mark_live (x.number == number) x) (open_marked number links)
