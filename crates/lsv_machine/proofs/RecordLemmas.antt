-- Prefixes of lists of records, and what a cut keeps of one.
use Rattle.std.proofs.Common.{◌≡◌, ◌≤◌, ℕ, zero, suc, List, [], ◌++◌, length, take, drop, refl, sym, ◌∙◌, ap, arith, Option, Some, None, unwrap_or}
use Rattle.std.specs.Prelude.{max, min}
use Rattle.std.proofs.lemmas.Grind.{common_steps}
use Rattle.std.proofs.lemmas.List.{take-append-drop}
use Rattle.lsv_record.specs.Points.{cut, first, kept}
use Rattle.lsv_record.specs.declared.records.Record.{Record}
use Rattle.lsv_machine.specs.Durable.{IsPrefix}
use Rattle.lsv_machine.specs.History.{becomes, lowered_to, raised_to}
use Rattle.lsv_machine.specs.Turns.{raised}
use Rattle.lsv_record.proofs.Points.{cut_append, first_append, first_some}

pub take_prefix : (n : ℕ) (rs : List Record) → IsPrefix (take n rs) rs
take_prefix n rs = record { rest = drop n rs; is = take-append-drop n rs }

pub prefix_trans : (rs ss ts : List Record) → IsPrefix rs ss → IsPrefix ss ts → IsPrefix rs ts
prefix_trans rs ss ts a b = record { rest = a.rest ++ b.rest; is = let x = a.is in let y = b.is in grind (arith, common_steps) }

pub prefix_all : (rs ss : List Record) → rs ≡ ss → IsPrefix rs ss
prefix_all rs ss e = record { rest = []; is = grind (arith, common_steps) }

abbrev pub no_records : List Record
no_records = []

pub take_none : (n : ℕ) → take n no_records ≡ no_records
take_none zero = refl
take_none (suc n) = refl

-- ---- What is promised

pub becomes_is : (t : Option ℕ) (n p : ℕ) → becomes t n ≡ Some p → p ≡ n
becomes_is None n p e = absurd (cc)
becomes_is (Some q) n p e = cc

pub becomes_none : (t : Option ℕ) (n : ℕ) → becomes t n ≡ None → t ≡ None
becomes_none None n e = refl
becomes_none (Some q) n e = absurd (cc)

pub becomes_some : (t : Option ℕ) (n p : ℕ) → t ≡ Some p → becomes t n ≡ Some n
becomes_some None n p e = absurd (cc)
becomes_some (Some q) n p e = refl

pub lowered_none : (t : Option ℕ) (rs : List Record) (c : ℕ) → lowered_to t rs c ≡ None → t ≡ None
lowered_none None rs c e = refl
lowered_none (Some q) rs c e = absurd (cc)

pub lowered_is : (t : Option ℕ) (all : List Record) (c f p promised : ℕ) → first all c ≡ Some f → lowered_to t all c ≡ Some p → ((q : ℕ) → t ≡ Some q → q ≤ promised) → p ≤ min promised f
lowered_is None all c f p promised at e tally = absurd (cc)
lowered_is (Some q) all c f p promised at e tally =
    let a : q ≤ promised = tally q refl in
    let b : Some (min q f) ≡ Some p = rw at at e in
    let d : min q f ≡ p = cc in
    omega arith

pub raised_within : (p : ℕ) (rs : List Record) (c : ℕ) → p ≤ length rs → raised p rs c ≤ length rs
raised_within p rs c h = go (first rs c) refl
  where
    go : (o : Option ℕ) → first rs c ≡ o → max p (unwrap_or o p) ≤ length rs
    go None e = omega arith
    go (Some x) e = let i = (first_some rs c x e).within in omega arith

raised_up : (p q : ℕ) (rs : List Record) (c : ℕ) → p ≤ q → raised p rs c ≤ raised q rs c
raised_up p q rs c h = go (first rs c)
  where
    go : (o : Option ℕ) → max p (unwrap_or o p) ≤ max q (unwrap_or o q)
    go None = omega arith
    go (Some x) = omega arith

pub raised_is : (t : Option ℕ) (all rs : List Record) (c p promised : ℕ) → rs ≡ all → raised_to t all c ≡ Some p → ((q : ℕ) → t ≡ Some q → q ≤ promised) → p ≤ raised promised rs c
raised_is None all rs c p promised same e tally = absurd (cc)
raised_is (Some q) all rs c p promised same e tally =
    let a = raised_up q promised rs c (tally q refl) in
    let b : raised q all c ≡ p = cc in
    let d : raised q rs c ≡ raised q all c = ap (λ x. raised q x c) same in
    omega arith

pub raised_some : (t : Option ℕ) (rs : List Record) (c : ℕ) → ((p : ℕ) × (t ≡ Some p)) → (p : ℕ) × (raised_to t rs c ≡ Some p)
raised_some None rs c (p, e) = absurd (cc)
raised_some (Some q) rs c e = (raised q rs c, refl)

pub raised_none : (t : Option ℕ) (rs : List Record) (c : ℕ) → raised_to t rs c ≡ None → t ≡ None
raised_none None rs c e = refl
raised_none (Some q) rs c e = absurd (cc)

-- ---- Cuts

-- what is cut of a list of which the log has a prefix, and of the log
pub record CutAlike (rs all : List Record) (c f : ℕ) : Type 0 where
  pub cut_is : cut all c ≡ take f rs
  pub kept_is : kept all c ≡ f
  pub within : f ≤ length rs
  pub first_is : first all c ≡ Some f

pub cut_alike : (rs all : List Record) (c f : ℕ) → IsPrefix rs all → first rs c ≡ Some f → CutAlike rs all c f
cut_alike rs all c f h at =
    let (a, b, d) = cut_append rs h.rest c f at in
    record {
      cut_is = ap (λ x. cut x c) (sym h.is) ∙ b;
      kept_is = ap (λ x. kept x c) (sym h.is) ∙ d;
      within = (first_some rs c f at).within;
      first_is = let e = first_append rs h.rest c f at in ap (λ x. first x c) (sym h.is) ∙ e;
    }
