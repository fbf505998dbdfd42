-- Links that are no connection, and the links that were open when a link was opened.
use Rattle.std.proofs.Common.{◌≡◌, ◌≢◌, ◌⊎◌, ℕ, zero, suc, ◌<◌, ◌≤◌, Bool, true, false, List, [], ◌∷◌, ◌++◌, length, get_or, refl, sym, ap, subst, ◌∙◌, inl, inr, ⊎_elim, arith}
use Rattle.std.specs.List.{Contains}
use Rattle.std.proofs.lemmas.List.Elements.{Contains-append_cases, Contains-append_left}
use Rattle.lsv_port.specs.Port.{Changes, IsOpen, LinkState, Opens, PortState, closed, fresh_link, is_over}
use Rattle.lsv_links.specs.Views.{IsCrowded}
use Rattle.lsv_worker.specs.Outgoing.{Alone}
use Rattle.lsv_worker.specs.Worker.{IsTurnedAway, Setting}
use Rattle.lsv_worker.proofs.Ports.{alone_change}
use Rattle.lsv_worker.proofs.Putting.{same_or_not}

-- ---- the links that were opened

one_at : (l m i : ℕ) → i < length (l ∷ []) → get_or (l ∷ []) i m ≡ m → m ≡ l
one_at l m zero within e = sym e
one_at l m (suc i) within e = absurd (omega arith)

one_of : (l m : ℕ) → Contains (l ∷ []) m → m ≡ l
one_of l m has = one_at l m has.0 has.1 has.2

pub opened_before : (opened : List ℕ) (l m : ℕ) → m ≢ l → Contains (opened ++ l ∷ []) m → Contains opened m
opened_before opened l m ne has = ⊎_elim (λ was. was) (λ now. absurd (ne (one_of l m now))) (Contains-append_cases opened (l ∷ []) m has)

-- ---- which links were open beside which

-- a link that was open beside another one was opened
abbrev pub AreBeside : PortState → Type 0
AreBeside port = (m l : ℕ) → Contains port.opened m → (port.link m).beside l ≡ true → Contains port.opened l

pub beside_alone : (n : ℕ) (s t : PortState) → Alone n s t → (m : ℕ) → (t.link m).beside ≡ (s.link m).beside
beside_alone n s t alone m =
    ⊎_elim (λ e. subst (λ (k : ℕ). (t.link k).beside ≡ (s.link k).beside) (sym e) alone.beside) (λ ne. ap (λ (x : LinkState). x.beside) (alone.others m ne)) (same_or_not m n)

pub beside_links : (s t : PortState) → ((m : ℕ) → t.link m ≡ s.link m) → (m : ℕ) → (t.link m).beside ≡ (s.link m).beside
beside_links s t same m = ap (λ (x : LinkState). x.beside) (same m)

pub beside_on : (s t : PortState) → t.opened ≡ s.opened → ((m : ℕ) → (t.link m).beside ≡ (s.link m).beside) → AreBeside s → AreBeside t
beside_on s t opened beside h m l has e =
    subst (λ (o : List ℕ). Contains o l) (sym opened) (h m l (subst (λ (o : List ℕ). Contains o m) opened has) (sym (ap (λ (b : ℕ → Bool). b l) (beside m)) ∙ e))

pub beside_opens : (n : ℕ) (s t : PortState) → Opens n s t → ((l : ℕ) → IsOpen s l → Contains s.opened l) → AreBeside s → AreBeside t
beside_opens n s t opens known h m l has e =
    let on : Contains s.opened l → Contains t.opened l = λ was. subst (λ (o : List ℕ). Contains o l) (sym opens.opened) (Contains-append_left s.opened (n ∷ []) l was) in
    ⊎_elim
    (λ is. on (known l (sym (opens.beside l) ∙ subst (λ (k : ℕ). (t.link k).beside l ≡ true) is e)))
    (λ ne. on (h m l (opened_before s.opened n m ne (subst (λ (o : List ℕ). Contains o m) opens.opened has)) (sym (ap (λ (x : LinkState). x.beside l) (opens.others m ne)) ∙ e)))
    (same_or_not m n)

-- ---- links that were turned away

-- it is still so if the link and the notes of open links didn't change
pub away_on : (set : Setting) (s t : PortState) (l : ℕ) → t.link l ≡ s.link l → t.opened ≡ s.opened → ((m : ℕ) → (t.link m).beside ≡ (s.link m).beside) → IsTurnedAway set s l → IsTurnedAway set t l
away_on set s t l same opened beside a = record {
  input = ap (λ (x : LinkState). x.input) same ∙ a.input;
  reads = ap (λ (x : LinkState). x.reads) same ∙ a.reads;
  output = ap (λ (x : LinkState). x.output) same ∙ a.output;
  closed = ap (λ (x : LinkState). x.is_open) same ∙ a.closed;
  at_once = λ m has. ap (λ (b : ℕ → Bool). b l) (beside m) ∙ a.at_once m (subst (λ (o : List ℕ). Contains o m) opened has);
  early = ap (λ (x : LinkState). x.late) same ∙ a.early;
  why = subst (λ (x : LinkState). IsCrowded x.beside ⊎ (1 ≤ set.turned_away)) (sym same) a.why;
}

pub away_alone : (set : Setting) (n l : ℕ) (s t : PortState) → Alone n s t → l ≢ n → IsTurnedAway set s l → IsTurnedAway set t l
away_alone set n l s t alone ne a = away_on set s t l (alone.others l ne) alone.opened (beside_alone n s t alone) a

-- it is still so if the worker's count didn't fall
pub away_set : (a b : Setting) (port : PortState) (l : ℕ) → a.turned_away ≤ b.turned_away → IsTurnedAway a port l → IsTurnedAway b port l
away_set a b port l le h = record {
  input = h.input;
  reads = h.reads;
  output = h.output;
  closed = h.closed;
  at_once = h.at_once;
  early = h.early;
  why = ⊎_elim (λ crowd. inl crowd) (λ some. inr (omega (arith, le, some))) h.why;
}

-- after another link was opened
pub away_opens : (set : Setting) (n l : ℕ) (s t : PortState) → Opens n s t → l ≢ n → IsTurnedAway set s l → IsTurnedAway set t l
away_opens set n l s t opens ne a =
    let same : t.link l ≡ s.link l = opens.others l ne in
    record {
      input = ap (λ (x : LinkState). x.input) same ∙ a.input;
      reads = ap (λ (x : LinkState). x.reads) same ∙ a.reads;
      output = ap (λ (x : LinkState). x.output) same ∙ a.output;
      closed = ap (λ (x : LinkState). x.is_open) same ∙ a.closed;
      at_once = λ m has. ⊎_elim
          (λ e. subst (λ (k : ℕ). (t.link k).beside l ≡ false) (sym e) (opens.beside l ∙ a.closed))
          (λ other. ap (λ (x : LinkState). x.beside l) (opens.others m other) ∙ a.at_once m (opened_before s.opened n m other (subst (λ (o : List ℕ). Contains o m) opens.opened has)))
          (same_or_not m n);
      early = ap (λ (x : LinkState). x.late) same ∙ a.early;
      why = subst (λ (x : LinkState). IsCrowded x.beside ⊎ (1 ≤ set.turned_away)) (sym same) a.why;
    }

false_or : (b : Bool) → (b ≡ true → ⊥) → b ≡ false
false_or true not_so = absurd (not_so refl)
false_or false not_so = refl

-- a link that was opened, and closed at once
pub away_now : (set : Setting) (l : ℕ) (s mid t : PortState) → Opens l s mid → Changes l (closed (is_over mid) (mid.link l)) mid t → ((m : ℕ) → IsOpen s m → Contains s.opened m) → AreBeside s
    → is_over mid ≡ false → IsCrowded (mid.link l).beside ⊎ (1 ≤ set.turned_away) → IsTurnedAway set t l
away_now set l s mid t opens close known beside early why =
    let is : t.link l ≡ closed (is_over mid) (fresh_link (mid.link l).beside) = close.this ∙ ap (closed (is_over mid)) opens.this in
    let opened : t.opened ≡ s.opened ++ l ∷ [] = close.opened ∙ opens.opened in
    record {
      input = ap (λ (x : LinkState). x.input) is;
      reads = ap (λ (x : LinkState). x.reads) is;
      output = ap (λ (x : LinkState). x.output) is;
      closed = ap (λ (x : LinkState). x.is_open) is;
      at_once = λ m has. ⊎_elim
          (λ e. subst (λ (k : ℕ). (t.link k).beside l ≡ false) (sym e)
          (ap (λ (x : LinkState). x.beside l) is ∙ opens.beside l ∙ false_or (s.link l).is_open (λ here. opens.fresh (known l here))))
          (λ ne.
          let same : t.link m ≡ s.link m = close.others m ne ∙ opens.others m ne in
          ap (λ (x : LinkState). x.beside l) same ∙ false_or ((s.link m).beside l) (λ here. opens.fresh (beside m l (opened_before s.opened l m ne (subst (λ (o : List ℕ). Contains o m) opened has)) here)))
          (same_or_not m l);
      early = ap (λ (x : LinkState). x.late) is ∙ early;
      why = subst (λ (b : ℕ → Bool). IsCrowded b ⊎ (1 ≤ set.turned_away)) (sym (ap (λ (x : LinkState). x.beside) is)) why;
    }

-- and another link, meanwhile
pub away_still : (set : Setting) (n l : ℕ) (s mid t : PortState) → Opens n s mid → Changes n (closed (is_over mid) (mid.link n)) mid t → l ≢ n → IsTurnedAway set s l → IsTurnedAway set t l
away_still set n l s mid t opens close ne a = away_alone set n l mid t (alone_change n (closed (is_over mid) (mid.link n)) mid t refl close) ne (away_opens set n l s mid opens ne a)

pub beside_still : (n : ℕ) (s mid t : PortState) → Opens n s mid → Changes n (closed (is_over mid) (mid.link n)) mid t → ((l : ℕ) → IsOpen s l → Contains s.opened l) → AreBeside s → AreBeside t
beside_still n s mid t opens close known h =
    let alone : Alone n mid t = alone_change n (closed (is_over mid) (mid.link n)) mid t refl close in
    beside_on mid t alone.opened (beside_alone n mid t alone) (beside_opens n s mid opens known h)
