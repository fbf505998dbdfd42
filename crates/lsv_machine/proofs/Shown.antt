-- What is shown has the delays of what was sent; with no texts it is that; and with the same texts in all runs it is that masked.
use Rattle.std.proofs.Common.{◌≡◌, ℕ, zero, suc, List, [], ◌∷◌, ◌++◌, length, take, map, refl, sym, ◌∙◌, ap, arith, Some, unwrap_or}
use Rattle.std.specs.Prelude.{◌==◌, ◌&&◌, ◌||◌, Bool, true, false, if◌then◌else◌, Result, Ok, Err}
use Rattle.lsv_info.specs.Layout.{head_text, exit_text}
use Rattle.lsv_mask.specs.Masking.{covered, mask}
use Rattle.lsv_record.specs.Points.{cut, first, kept}
use Rattle.lsv_record.specs.Records.{delay_of}
use Rattle.lsv_record.specs.declared.records.Record.{Record}
use Rattle.lsv_record.specs.declared.records.Record.TheVariants.{Io, Winsize, Suspend}
use Rattle.lsv_record.specs.declared.records.Stream.TheVariants.{Stdin, Stdout, Stderr, Ttyin, Ttyout}
use Rattle.lsv_request.specs.declared.refusal.Refusal.{Refusal}
use Rattle.lsv_request.specs.declared.request.Request.{Request}
use Rattle.lsv_request.specs.declared.request.Request.TheVariants as request
use Rattle.lsv_session.specs.declared.connection.ConnId.{ConnId}
use Rattle.lsv_machine.specs.Answers.{Answer, Saying, Saying.LogId, Saying.CommitPoint, Saying.Error, Saying.Shut, is_silent}
use Rattle.lsv_machine.specs.History.{Ledger, asked, becomes, blank, heard, heard_all, is_exit, is_gone, ledger_from, lowered_to, noted, opened_by, raised_to, reopened, request_in, restarted_by, resumed_by, sent, sent_one, shown, tells_log, writes}
use Rattle.lsv_machine.specs.Failures.{Act}
use Rattle.lsv_machine.specs.Turns.{AllBegin, Happened, Happened.Did, Happened.Tailed, Happened.Begins}

-- each run of a history has texts of this kind
abbrev EachBegins : (List (List ℕ) → Type 0) → List Happened → Type 0
EachBegins Allowed [] = Unit {0}
EachBegins Allowed (Did act ∷ h) = EachBegins Allowed h
EachBegins Allowed (Tailed tail ∷ h) = EachBegins Allowed h
EachBegins Allowed (Begins texts ∷ h) = Allowed texts × EachBegins Allowed h

-- a relation between what was sent and what is shown, where texts are of a kind
module _ (Allowed : List (List ℕ) → Type 0) (Fit : List Record → List Record → Type 0)
    (none : Fit [] []) (more : (texts : List (List ℕ)) (rs ss : List Record) (r : Record) → Allowed texts → Fit rs ss → Fit (rs ++ r ∷ []) (ss ++ covered texts ss r ∷ [])) (cuts : (rs ss : List Record) (c : ℕ) → Fit rs ss → Fit (cut rs c) (cut ss c)) where
  pub record Fitted (l : Ledger) : Type 0 where
    pub texts_are : Allowed l.texts
    pub fit : Fit l.sent l.shown

  either : (b : Bool) (x y : Ledger) → Fitted x → Fitted y → Fitted (if b then x else y)
  either true x y h d = h
  either false x y h d = d

  asked_fitted : (n : ℕ) (k : ConnId) (what : Result Request Refusal) (answers : List Answer) (in_cut : Bool) (l : Ledger) → Fitted l → Fitted (asked n k what answers in_cut l)
  asked_fitted n k (Ok request.Hello) answers in_cut l h = h
  asked_fitted n k (Ok (request.Accept accept)) answers in_cut l h = either (tells_log n answers) (opened_by k (head_text accept.head) l) l (record { texts_are = h.texts_are; fit = none }) h
  asked_fitted n k (Ok (request.Reject report)) answers in_cut l h = h
  asked_fitted n k (Ok (request.Alert report)) answers in_cut l h = h
  asked_fitted n k (Ok (request.Restart restart)) answers in_cut l h =
      either (restart.log == n) (restarted_by k restart.point answers in_cut l) l
      (either (is_silent answers) (if l.shut k then l else resumed_by k restart.point l) (if in_cut then record l { promised = lowered_to l.promised l.shown restart.point } else l)
      (either (l.shut k) l (resumed_by k restart.point l) h (record { texts_are = h.texts_are; fit = cuts l.sent l.shown restart.point h.fit }))
      (either in_cut (record l { promised = lowered_to l.promised l.shown restart.point }) l (record { texts_are = h.texts_are; fit = h.fit }) h)) h
  asked_fitted n k (Ok (request.Record r)) answers in_cut l h =
      either (is_silent answers && writes l k) (sent_one r l) l
      (record { texts_are = h.texts_are; fit = more l.texts l.sent l.shown r h.texts_are h.fit }) h
  asked_fitted n k (Ok (request.Exit exit)) answers in_cut l h = either (writes l k) (record l { exit = Some (exit_text exit) }) l (record { texts_are = h.texts_are; fit = h.fit }) h
  asked_fitted n k (Err why) answers in_cut l h = h

  heard_fitted : (exits : Bool) (k : ConnId) (says : Saying) (l : Ledger) → Fitted l → Fitted (heard exits k says l)
  heard_fitted exits k (CommitPoint c) l h = either (writes l k) (record l { promised = if exits then becomes l.promised (length l.shown) else raised_to l.promised l.shown c; finished = l.finished || exits }) l (record { texts_are = h.texts_are; fit = h.fit }) h
  heard_fitted exits k Shut l h = record { texts_are = h.texts_are; fit = h.fit }
  heard_fitted exits k (LogId i) l h = h
  heard_fitted exits k (Error why) l h = h

  heard_all_fitted : (exits : Bool) (answers : List Answer) (l : Ledger) → Fitted l → Fitted (heard_all exits answers l)
  heard_all_fitted exits [] l h = h
  heard_all_fitted exits (a ∷ answers) l h = heard_all_fitted exits answers (heard exits a.conn a.says l) (heard_fitted exits a.conn a.says l h)

  reopened_fitted : (k : ConnId) (b : Bool) (l : Ledger) → Fitted l → Fitted (reopened k b l)
  reopened_fitted k true l h = record { texts_are = h.texts_are; fit = h.fit }
  reopened_fitted k false l h = h

  did_fitted : (n : ℕ) (l : Ledger) (act : Act) → Fitted l → Fitted (noted n l (Did act))
  did_fitted n l act h =
      let what = request_in act.job.body in
      reopened_fitted act.job.conn (is_gone act.job.body) (heard_all (is_exit what) act.answers (asked n act.job.conn what act.answers act.in_cut l))
      (heard_all_fitted (is_exit what) act.answers (asked n act.job.conn what act.answers act.in_cut l) (asked_fitted n act.job.conn what act.answers act.in_cut l h))

  pub all_fitted : (n : ℕ) (h : List Happened) (l : Ledger) → EachBegins Allowed h → Fitted l → Fitted (ledger_from n l h)
  all_fitted n [] l b f = f
  all_fitted n (Did act ∷ h) l b f = all_fitted n h (noted n l (Did act)) b (did_fitted n l act f)
  all_fitted n (Tailed tail ∷ h) l b f = all_fitted n h (noted n l (Tailed tail)) b (heard_all_fitted false tail.answers l f)
  all_fitted n (Begins t ∷ h) l b f = all_fitted n h (noted n l (Begins t)) b.1 (record { texts_are = b.0; fit = f.fit })

-- ---- Delays

append_delays : (rs ss : List Record) (r s : Record) → map delay_of rs ≡ map delay_of ss → delay_of r ≡ delay_of s → map delay_of (rs ++ r ∷ []) ≡ map delay_of (ss ++ s ∷ [])
append_delays [] [] r s e d = ap (λ x. x ∷ []) d
append_delays [] (s' ∷ ss) r s e d = absurd (cc)
append_delays (r' ∷ rs) [] r s e d = absurd (cc)
append_delays (r' ∷ rs) (s' ∷ ss) r s e d =
    let p : delay_of r' ≡ delay_of s' = cc in
    let q : map delay_of rs ≡ map delay_of ss = cc in
    ap (λ x. x ∷ map delay_of (rs ++ r ∷ [])) p ∙ ap (λ (x : List ℕ). delay_of s' ∷ x) (append_delays rs ss r s q d)

take_delays : (n : ℕ) (rs ss : List Record) → map delay_of rs ≡ map delay_of ss → map delay_of (take n rs) ≡ map delay_of (take n ss)
take_delays zero rs ss e = refl
take_delays (suc n) [] [] e = refl
take_delays (suc n) [] (s ∷ ss) e = absurd (cc)
take_delays (suc n) (r ∷ rs) [] e = absurd (cc)
take_delays (suc n) (r ∷ rs) (s ∷ ss) e =
    let p : delay_of r ≡ delay_of s = cc in
    let q : map delay_of rs ≡ map delay_of ss = cc in
    ap (λ x. x ∷ map delay_of (take n rs)) p ∙ ap (λ (x : List ℕ). delay_of s ∷ x) (take_delays n rs ss q)

same_length : (rs ss : List Record) → map delay_of rs ≡ map delay_of ss → length rs ≡ length ss
same_length [] [] e = refl
same_length [] (s ∷ ss) e = absurd (cc)
same_length (r ∷ rs) [] e = absurd (cc)
same_length (r ∷ rs) (s ∷ ss) e = let q : map delay_of rs ≡ map delay_of ss = cc in let l = same_length rs ss q in omega arith

-- that where records end hangs on their delays alone
abbrev pub ByDelays : Type 0
ByDelays = (rs ss : List Record) (c : ℕ) → map delay_of rs ≡ map delay_of ss → first rs c ≡ first ss c

kept_delays : ByDelays → (rs ss : List Record) (c : ℕ) → map delay_of rs ≡ map delay_of ss → kept rs c ≡ kept ss c
kept_delays by rs ss c e = let p = by rs ss c e in let q = same_length rs ss e in ap (λ o. unwrap_or o (length rs)) p ∙ ap (unwrap_or (first ss c)) q

cut_delays : ByDelays → (rs ss : List Record) (c : ℕ) → map delay_of rs ≡ map delay_of ss → map delay_of (cut rs c) ≡ map delay_of (cut ss c)
cut_delays by rs ss c e = take_delays (kept rs c) rs ss e ∙ ap (λ n. map delay_of (take n ss)) (kept_delays by rs ss c e)

delay_covered : (texts : List (List ℕ)) (rs : List Record) (r : Record) → delay_of r ≡ delay_of (covered texts rs r)
delay_covered texts rs (Io delay Ttyin bytes) = refl
delay_covered texts rs (Io delay Ttyout bytes) = refl
delay_covered texts rs (Io delay Stdin bytes) = refl
delay_covered texts rs (Io delay Stdout bytes) = refl
delay_covered texts rs (Io delay Stderr bytes) = refl
delay_covered texts rs (Winsize delay rows cols) = refl
delay_covered texts rs (Suspend delay signal) = refl

any_begins : (h : List Happened) → EachBegins (λ _. Unit {0}) h
any_begins [] = tt
any_begins (Did act ∷ h) = any_begins h
any_begins (Tailed tail ∷ h) = any_begins h
any_begins (Begins texts ∷ h) = (tt, any_begins h)

pub shown_delays : ByDelays → (h : List Happened) (n : ℕ) → map delay_of (sent h n) ≡ map delay_of (shown h n)
shown_delays by h n = (all_fitted (λ _. Unit {0}) (λ rs ss. map delay_of rs ≡ map delay_of ss) refl
    (λ texts rs ss r a e. append_delays rs ss r (covered texts ss r) e (delay_covered texts ss r)) (cut_delays by) n h blank (any_begins h) (record { texts_are = tt; fit = refl })).fit

-- ---- Masks

-- what is known of masks
pub record Masks : Type 0 where
  pub prefix : (texts : List (List ℕ)) (records : List Record) (n : ℕ) → mask texts (take n records) ≡ take n (mask texts records)
  pub more : (texts : List (List ℕ)) (records : List Record) (r : Record) → mask texts (records ++ r ∷ []) ≡ mask texts records ++ covered texts records r ∷ []
  pub covers : (texts : List (List ℕ)) (records : List Record) (r : Record) → covered texts (mask texts records) r ≡ covered texts records r
  pub delays : (texts : List (List ℕ)) (records : List Record) → map delay_of (mask texts records) ≡ map delay_of records
  pub no_texts : (records : List Record) → mask [] records ≡ records

-- what is shown is what was sent, masked
abbrev Masked : List (List ℕ) → List Record → List Record → Type 0
Masked texts rs ss = ss ≡ mask texts rs

masked_more : Masks → (same texts : List (List ℕ)) (rs ss : List Record) (r : Record) → texts ≡ same → Masked same rs ss → Masked same (rs ++ r ∷ []) (ss ++ covered texts ss r ∷ [])
masked_more m same texts rs ss r t e =
    ap (λ x. ss ++ covered x ss r ∷ []) t ∙ (ap (λ x. x ++ covered same x r ∷ []) e ∙ (ap (λ (x : Record). mask same rs ++ x ∷ []) (m.covers same rs r) ∙ sym (m.more same rs r)))

masked_cut : ByDelays → Masks → (same : List (List ℕ)) (rs ss : List Record) (c : ℕ) → Masked same rs ss → Masked same (cut rs c) (cut ss c)
masked_cut by m same rs ss c e =
    let d : map delay_of ss ≡ map delay_of rs = ap (map delay_of) e ∙ m.delays same rs in
    ap (λ n. take n ss) (kept_delays by ss rs c d) ∙ (ap (take (kept rs c)) e ∙ sym (m.prefix same rs (kept rs c)))

all_begin : (texts : List (List ℕ)) (h : List Happened) → AllBegin texts h → EachBegins (λ t. t ≡ texts) h
all_begin texts [] a = tt
all_begin texts (Did act ∷ h) a = all_begin texts h a
all_begin texts (Tailed tail ∷ h) a = all_begin texts h a
all_begin texts (Begins t ∷ h) a = (a.0, all_begin texts h a.1)

masked_from : ByDelays → Masks → (texts : List (List ℕ)) (h : List Happened) (n : ℕ) (l : Ledger) → l.texts ≡ texts → l.sent ≡ [] → l.shown ≡ [] → AllBegin texts h
    → (ledger_from n l h).shown ≡ mask texts (ledger_from n l h).sent
masked_from by m texts h n l t s u a = (all_fitted (λ x. x ≡ texts) (Masked texts) refl (masked_more m texts) (masked_cut by m texts) n h l (all_begin texts h a)
    (record { texts_are = t; fit = u ∙ ap (mask texts) (sym s) })).fit

pub shown_masked : ByDelays → Masks → (texts : List (List ℕ)) (h : List Happened) (n : ℕ) → AllBegin texts h → shown (Begins texts ∷ h) n ≡ mask texts (sent (Begins texts ∷ h) n)
shown_masked by m texts h n a = masked_from by m texts h n (noted n blank (Begins texts)) refl refl refl a

pub shown_plain : ByDelays → Masks → (h : List Happened) (n : ℕ) → AllBegin [] h → shown h n ≡ sent h n
shown_plain by m h n a = masked_from by m [] h n blank refl refl refl a ∙ m.no_texts (sent h n)

pub sent_length : ByDelays → (h : List Happened) (n : ℕ) → length (sent h n) ≡ length (shown h n)
sent_length by h n = same_length (sent h n) (shown h n) (shown_delays by h n)
