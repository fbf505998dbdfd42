-- What is asked next, of one that plays a list of records.
use Rattle.std.proofs.Common.{◌≡◌, ◌≤◌, ◌<◌, ◌+◌, ℕ, zero, suc, List, [], ◌∷◌, ◌++◌, length, take, drop, map, refl, sym, ◌∙◌, ap, arith, Option, Some, None}
use Rattle.std.proofs.lemmas.Grind.{common_steps}
use Rattle.lsv_info.specs.declared.times.Exit.{Exit}
use Rattle.lsv_record.specs.Points.{first}
use Rattle.lsv_record.specs.declared.records.Record.{Record}
use Rattle.lsv_record.proofs.Points.{first_some}
use Rattle.lsv_request.specs.declared.request.Accept.{Accept}
use Rattle.lsv_request.specs.declared.request.Restart.{Restart}
use Rattle.lsv_request.specs.declared.request.Request.{Request}
use Rattle.lsv_request.specs.declared.request.Request.TheVariants as request
use Rattle.lsv_upstream.specs.Playing.{StillAsks, StillAsks.Greets, StillAsks.Opens, StillAsks.Over, StillAsks.Plays, StillAsks.Resumes, asks_from, ending}

-- the record after the first p
pub record Behind (rs : List Record) (p : ℕ) (r : Record) (more : List Record) : Type 0 where
  pub within : p < length rs
  pub drops : drop (p + 1) rs ≡ more
  pub takes : take (p + 1) rs ≡ take p rs ++ r ∷ []

pub behind_first : (rs : List Record) (p : ℕ) (r : Record) (more : List Record) → drop p rs ≡ r ∷ more → Behind rs p r more
behind_first [] zero r more e = absurd (cc)
behind_first [] (suc p) r more e = absurd (cc)
behind_first (x ∷ rs) zero r more e = let a : x ≡ r = cc in record { within = grind (arith, common_steps); drops = (cc); takes = ap (λ y. y ∷ []) a }
behind_first (x ∷ rs) (suc p) r more e =
    let b = behind_first rs p r more e in
    let s : suc p + 1 ≡ suc (p + 1) = omega arith in
    record {
      within = let w = b.within in grind (arith, common_steps);
      drops = ap (λ i. drop i (x ∷ rs)) s ∙ b.drops;
      takes = ap (λ i. take i (x ∷ rs)) s ∙ ap (λ (y : List Record). x ∷ y) b.takes;
    }

all_dropped : (rs : List Record) (p : ℕ) → p ≤ length rs → drop p rs ≡ [] → p ≡ length rs
all_dropped [] zero low e = refl
all_dropped [] (suc p) low e = absurd (omega arith)
all_dropped (x ∷ rs) zero low e = absurd (cc)
all_dropped (x ∷ rs) (suc p) low e = ap suc (all_dropped rs p (omega arith) e)

-- what is asked of the records from p on
pub data Next (rs : List Record) (e : Option Exit) (p : ℕ) (what : Request) (later : List Request) : Type 0 where
  a_record : (r : Record) → what ≡ request.Record r → p < length rs → take (p + 1) rs ≡ take p rs ++ r ∷ [] → later ≡ asks_from rs e (p + 1) → Next rs e p what later
  an_exit : (x : Exit) → what ≡ request.Exit x → p ≡ length rs → later ≡ [] → Next rs e p what later

pub next_from : (rs : List Record) (e : Option Exit) (p : ℕ) (what : Request) (later : List Request) → p ≤ length rs → asks_from rs e p ≡ what ∷ later → Next rs e p what later
next_from rs e p what later low is = go (drop p rs) refl e refl
  where
    go : (rest : List Record) → drop p rs ≡ rest → (x : Option Exit) → e ≡ x → Next rs e p what later
    go [] d None q = absurd (let a : asks_from rs e p ≡ [] = rw (d, q) refl in cc)
    go [] d (Some x) q =
        let a : request.Exit x ∷ [] ≡ what ∷ later = sym (rw (d, q) refl) ∙ is in
        an_exit x (cc) (all_dropped rs p low d) (cc)
    go (r ∷ more) d x q =
        let b = behind_first rs p r more d in
        let a : request.Record r ∷ (map (λ s. request.Record s) more ++ ending e) ≡ what ∷ later = sym (rw d refl) ∙ is in
        let l : map (λ s. request.Record s) more ++ ending e ≡ later = cc in
        a_record r (cc) b.within b.takes (sym l ∙ ap (λ (z : List Record). map (λ s. request.Record s) z ++ ending e) (sym b.drops))

-- what one that plays asks, and what it still plays then
pub data Asked (rs : List Record) (e : Option Exit) (what : Request) (later : List Request) : Type 0 where
  greets : what ≡ request.Hello → Asked rs e what later
  opens : (accept : Accept) → what ≡ request.Accept accept → later ≡ asks_from rs e 0 → Asked rs e what later
  goes_on : (restart : Restart) (kept : ℕ) → first rs restart.point ≡ Some kept → what ≡ request.Restart restart → later ≡ asks_from rs e kept → Asked rs e what later
  plays : (r : Record) → what ≡ request.Record r → Asked rs e what later
  exits : (x : Exit) → what ≡ request.Exit x → Asked rs e what later

pub asked_is : (rs : List Record) (e : Option Exit) (asks : List Request) (what : Request) (later : List Request) → StillAsks rs e asks → asks ≡ what ∷ later → Asked rs e what later × StillAsks rs e later
asked_is rs e asks what later (Greets a0 l is more) at = let a : request.Hello ∷ l ≡ what ∷ later = sym is ∙ at in let b : l ≡ later = cc in (greets (cc), rw (sym b) more)
asked_is rs e asks what later (Opens a0 accept is) at =
    let a : request.Accept accept ∷ asks_from rs e 0 ≡ what ∷ later = sym is ∙ at in
    let b : asks_from rs e 0 ≡ later = cc in
    (opens accept (cc) (sym b), Plays later 0 (omega arith) (sym b))
asked_is rs e asks what later (Resumes a0 restart kept there is) at =
    let a : request.Restart restart ∷ asks_from rs e kept ≡ what ∷ later = sym is ∙ at in
    let b : asks_from rs e kept ≡ later = cc in
    (goes_on restart kept there (cc) (sym b), Plays later kept (first_some rs restart.point kept there).within (sym b))
asked_is rs e asks what later (Plays a0 p low is) at = elim (next_from rs e p what later low (sym is ∙ at)) [
  | a_record r w within takes l ↦ (plays r w, Plays later (p + 1) (omega arith) l)
  | an_exit x w whole l ↦ (exits x w, Over later l)
]
asked_is rs e asks what later (Over a0 is) at = absurd (let a : [] ≡ what ∷ later = sym is ∙ at in cc)
