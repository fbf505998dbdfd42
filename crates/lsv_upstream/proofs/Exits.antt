-- A commit point that is told in a job answers the exit of one who has sent all.
use Rattle.std.proofs.Common.{◌≡◌, ◌≤◌, ℕ, List, [], ◌∷◌, ◌++◌, length, take, map, refl, sym, ◌∙◌, ap, subst, inl, inr, arith, Option, Some, ◌⊎◌}
use Rattle.std.specs.Prelude.{Bool, true, false, if◌then◌else◌, Result, Ok}
use Rattle.lsv_info.specs.Layout.{exit_text}
use Rattle.lsv_info.specs.declared.times.Exit.{Exit}
use Rattle.lsv_record.specs.Records.{delay_of, elapsed}
use Rattle.lsv_record.specs.declared.records.Record.{Record}
use Rattle.lsv_record.proofs.Points.{first_some}
use Rattle.lsv_request.specs.Requests.{request_of}
use Rattle.lsv_request.specs.declared.refusal.Refusal.{Refusal}
use Rattle.lsv_request.specs.declared.request.Request.{Request}
use Rattle.lsv_request.specs.declared.request.Request.TheVariants as request
use Rattle.lsv_session.specs.declared.connection.ConnId.{ConnId}
use Rattle.lsv_session.specs.declared.job.Body.{Body}
use Rattle.lsv_session.specs.declared.job.Body.TheVariants as body
use Rattle.lsv_machine.specs.Answers.{Answer, Saying, Saying.CommitPoint, Saying.Error, Saying.Shut, farewell, refusal, say}
use Rattle.lsv_machine.specs.Judgement.{fault_refusal}
use Rattle.lsv_machine.specs.Failures.{Act, Breaks, FailsCut, LosesLog, Step}
use Rattle.lsv_machine.specs.History.{Ledger, asked, becomes, heard_all, is_exit, is_gone, noted, request_in, writes}
use Rattle.lsv_machine.specs.Machine.{Machine, Settings, is_dead}
use Rattle.lsv_machine.specs.Turns.{Happened.Did}
use Rattle.lsv_machine.specs.Work.{plain}
use Rattle.lsv_machine.proofs.JobFits.{Last, refused_last}
use Rattle.lsv_machine.proofs.Shapes.{Shape, Shape.parting, Shape.quiet, Shape.refusing, Shape.shutting, Shape.told_end, Shape.told_log, plain_looks}
use Rattle.lsv_upstream.specs.Held.{HoldsThrough, HasPoint}
use Rattle.lsv_upstream.specs.Playing.{IsExpected, IsNext, asks_from}
use Rattle.lsv_upstream.proofs.Answering.{breaks_last, record_or}
use Rattle.lsv_upstream.proofs.Asking.{Next.a_record, Next.an_exit, next_from}
use Rattle.lsv_upstream.proofs.Keeping.{all_less, reopened_less, less_then, writer_owner}
use Rattle.lsv_upstream.proofs.Told.{last_no}
use Rattle.lsv_machine.proofs.Fits.{fits_of_stands}
use Rattle.lsv_machine.proofs.WorkFits.{holds_there}
use Rattle.lsv_machine.specs.Stands.{StandsFor}

-- a job tells its connection at most one commit point, and a Shut after it
told_shape : (k j : ConnId) (c : ℕ) (answers : List Answer) → Shape j answers → HasPoint k c answers → (d : ℕ) × (answers ≡ say j (CommitPoint d) ∷ say j Shut ∷ [])
told_shape k j c answers (quiet e) t = absurd (subst (HasPoint k c) e t)
told_shape k j c answers (told_log n e) t = absurd (elim (subst (HasPoint k c) e t) [ inl x ↦ let y = x.1 in cc | inr x ↦ x ])
told_shape k j c answers (told_end d e) t = (d, e)
told_shape k j c answers (refusing why ne e) t = absurd (elim (subst (HasPoint k c) e t) [ inl x ↦ let y = x.1 in cc | inr x ↦ elim x [ inl z ↦ let y = z.1 in cc | inr z ↦ z ] ])
told_shape k j c answers (shutting e) t = absurd (elim (subst (HasPoint k c) e t) [ inl x ↦ let y = x.1 in cc | inr x ↦ x ])
told_shape k j c answers (parting e) t = absurd (elim (subst (HasPoint k c) e t) [ inl x ↦ let y = x.1 in cc | inr x ↦ x ])

pub told_end_of : (set : Settings) (m : Machine) (act : Act) (after : Machine) (k : ConnId) (c : ℕ) → Step set m act after → HasPoint k c act.answers → (d : ℕ) × (act.answers ≡ say act.job.conn (CommitPoint d) ∷ say act.job.conn Shut ∷ [])
told_end_of set m act after k c (inl p) told = told_shape k act.job.conn c act.answers (subst (Shape act.job.conn) (sym p.answers) (plain_looks set act.now act.job p.number m).shape) told
told_end_of set m act after k c (inr d) told = go d.how
  where
    go : ((act.in_cut ≡ false) × Breaks set m act act.job.body after) ⊎ ((act.in_cut ≡ false) × LosesLog set m act after) ⊎ ((act.in_cut ≡ true) × FailsCut set m act after) → (x : ℕ) × (act.answers ≡ say act.job.conn (CommitPoint x) ∷ say act.job.conn Shut ∷ [])
    go (inl t) = absurd (last_no k act.job.conn c act.answers (breaks_last set m act act.job.body after t.1) told)
    go (inr (inl t)) = told_shape k act.job.conn c act.answers (subst (Shape act.job.conn) (sym t.1.answers) (plain_looks set act.now act.job t.1.number m).shape) told
    go (inr (inr t)) = absurd (last_no k act.job.conn c act.answers (refused_last act.job.conn act.answers t.1.answers) told)

abbrev says_first : List Answer → Saying
says_first [] = Shut
says_first (a ∷ answers) = a.says

not_error : (d : ℕ) (why : Refusal) (j k : ConnId) → refusal j why ≡ say k (CommitPoint d) ∷ say k Shut ∷ [] → ⊥
not_error d why j k e = let x : Error why ≡ CommitPoint d = ap says_first e in cc

not_nothing : (d : ℕ) (k : ConnId) → [] ≡ say k (CommitPoint d) ∷ say k Shut ∷ [] → ⊥
not_nothing d k e = cc

not_farewell : (d : ℕ) (j k : ConnId) → farewell j ≡ say k (CommitPoint d) ∷ say k Shut ∷ [] → ⊥
not_farewell d j k e = let x : Shut ≡ CommitPoint d = ap says_first e in cc

-- bytes that are no message, or the end, tell none
ended_no : (set : Settings) (m : Machine) (act : Act) (after : Machine) (d : ℕ) → ((fault : _) × (act.job.body ≡ body.Bad fault)) ⊎ (act.job.body ≡ body.Gone) → Step set m act after → act.answers ≡ say act.job.conn (CommitPoint d) ∷ say act.job.conn Shut ∷ [] → ⊥
ended_no set m act after d which (inl p) is = go which (is_dead (m.states act.job.conn)) refl
  where
    told : (plain set act.now act.job p.number m).answers ≡ say act.job.conn (CommitPoint d) ∷ say act.job.conn Shut ∷ []
    told = sym p.answers ∙ is

    go : ((fault : _) × (act.job.body ≡ body.Bad fault)) ⊎ (act.job.body ≡ body.Gone) → (b : Bool) → is_dead (m.states act.job.conn) ≡ b → ⊥
    go (inl (fault, e)) true q = not_nothing d act.job.conn (rw (q, e) at told)
    go (inl (fault, e)) false q = not_error d (fault_refusal fault) act.job.conn act.job.conn (rw (q, e) at told)
    go (inr e) true q = not_nothing d act.job.conn (rw (q, e) at told)
    go (inr e) false q = not_farewell d act.job.conn act.job.conn (rw (q, e) at told)
ended_no set m act after d which (inr x) is = go x.how
  where
    none : Last act.job.conn act.answers → ⊥
    none last = last_no act.job.conn act.job.conn d act.answers last (subst (HasPoint act.job.conn d) (sym is) (inl (refl, refl)))

    go : ((act.in_cut ≡ false) × Breaks set m act act.job.body after) ⊎ ((act.in_cut ≡ false) × LosesLog set m act after) ⊎ ((act.in_cut ≡ true) × FailsCut set m act after) → ⊥
    go (inl t) = none (breaks_last set m act act.job.body after t.1)
    go (inr (inr t)) = none (refused_last act.job.conn act.answers t.1.answers)
    go (inr (inl t)) = its which (is_dead (m.states act.job.conn)) refl
      where
        told : (plain set act.now act.job t.1.number m).answers ≡ say act.job.conn (CommitPoint d) ∷ say act.job.conn Shut ∷ []
        told = sym t.1.answers ∙ is

        its : ((fault : _) × (act.job.body ≡ body.Bad fault)) ⊎ (act.job.body ≡ body.Gone) → (b : Bool) → is_dead (m.states act.job.conn) ≡ b → ⊥
        its (inl (fault, e)) true q = not_nothing d act.job.conn (rw (q, e) at told)
        its (inl (fault, e)) false q = not_error d (fault_refusal fault) act.job.conn act.job.conn (rw (q, e) at told)
        its (inr e) true q = not_nothing d act.job.conn (rw (q, e) at told)
        its (inr e) false q = not_farewell d act.job.conn act.job.conn (rw (q, e) at told)

all_taken : (rs : List Record) (p : ℕ) → p ≡ length rs → take p rs ≡ rs
all_taken rs p e = rw e (whole rs)
  where
    whole : (xs : List Record) → take (length xs) xs ≡ xs
    whole [] = refl
    whole (x ∷ xs) = ap (λ (y : List Record). x ∷ y) (whole xs)

pub same_length : (rs ss : List Record) → map delay_of rs ≡ map delay_of ss → length rs ≡ length ss
same_length [] [] e = refl
same_length [] (s ∷ ss) e = absurd (cc)
same_length (r ∷ rs) [] e = absurd (cc)
same_length (r ∷ rs) (s ∷ ss) e = let q : map delay_of rs ≡ map delay_of ss = cc in let l = same_length rs ss q in omega arith

pub becomes_told : (t : Option ℕ) (n p : ℕ) → t ≡ Some p → becomes t n ≡ Some n
becomes_told t n p e = rw e refl

module _ (set : Settings) (n : ℕ) (rs : List Record) (e : Option Exit) (l : Ledger) (m after : Machine) (act : Act) (ours : ConnId → Bool) (coming : ConnId → List Request)
    (stands : StandsFor set n m l) (delays : map delay_of l.sent ≡ map delay_of l.shown)
    (writer : writes l act.job.conn ≡ true → (ours act.job.conn ≡ true) × ((p : ℕ) × (p ≤ length rs) × (l.sent ≡ take p rs) × ((coming act.job.conn ≡ asks_from rs e p) ⊎ (coming act.job.conn ≡ []))))
    (step : Step set m act after) where
  -- the exit of one who writes: all was sent, and all is promised
  pub exit_acknowledges : IsExpected n ours coming act → (c : ℕ) → writes l act.job.conn ≡ true → HasPoint act.job.conn c act.answers → (l.sent ≡ rs) × HoldsThrough rs (elapsed rs) (noted n l (Did act))
  exit_acknowledges brings c on told = go act.job.body refl brings
    where
      k : ConnId
      k = act.job.conn

      told_is : (d : ℕ) × (act.answers ≡ say k (CommitPoint d) ∷ say k Shut ∷ [])
      told_is = told_end_of set m act after k c step told

      go : (b : Body) → act.job.body ≡ b → IsExpected n ours coming act → (l.sent ≡ rs) × HoldsThrough rs (elapsed rs) (noted n l (Did act))
      go (body.Bad fault) is x = absurd (ended_no set m act after told_is.0 (inl (fault, is)) step told_is.1)
      go body.Gone is x = absurd (ended_no set m act after told_is.0 (inr is) step told_is.1)
      go (body.Msg message) is (inr (foreign, away)) = absurd (let (o, at) = writer on in cc)
      go (body.Msg message) is (inl (o, next)) = from (writer on).1 (subst (λ b. IsNext b (coming k)) is next)
        where
          from : (p : ℕ) × (p ≤ length rs) × (l.sent ≡ take p rs) × ((coming k ≡ asks_from rs e p) ⊎ (coming k ≡ [])) → IsNext (body.Msg message) (coming k) → (l.sent ≡ rs) × HoldsThrough rs (elapsed rs) (noted n l (Did act))
          from (p, low, sent_is, inr none) (what, later, at, asks) = absurd (let a : what ∷ later ≡ [] = sym at ∙ none in cc)
          from (p, low, sent_is, inl here) (what, later, at, asks) = elim (next_from rs e p what later low (sym here ∙ at)) [
            | a_record r w within takes l_is ↦ absurd (elim (record_or set m act after message r is (asks ∙ ap Ok w) step) [
              | inl none ↦ let a : say k (CommitPoint told_is.0) ∷ say k Shut ∷ [] ≡ [] = sym told_is.1 ∙ none in cc
              | inr last ↦ last_no k k c act.answers last told
            ])
            | an_exit x w whole l_is ↦ finishes x (asks ∙ ap Ok w) (sent_is ∙ all_taken rs p whole)
          ]
            where
              finishes : (x : Exit) → request_of message ≡ Ok (request.Exit x) → l.sent ≡ rs → (l.sent ≡ rs) × HoldsThrough rs (elapsed rs) (noted n l (Did act))
              finishes x request_is sent_all =
                  let asked_is : request_in act.job.body ≡ Ok (request.Exit x) = ap request_in is ∙ request_is in
                  let gone_is : is_gone act.job.body ≡ false = ap is_gone is in
                  let owner : m.owner n ≡ Some k = writer_owner n m l k stands.agrees.writers on in
                  let (stored, promised, there) = stands.sound.there n k owner in
                  let holds = holds_there (Unit {0}) set n m l stored promised (fits_of_stands set n m l stands) there tt in
                  let (p0, is_told) = holds.is_told k owner in
                  let a = noted n l (Did act) in
                  let now : a.promised ≡ Some (length l.shown) = noted_promised x asked_is gone_is p0 is_told in
                  let same_sent : a.sent ≡ l.sent = noted_sent x asked_is in (
                    sent_all,
                    record {
                      prefix = record { rest = []; is = append_nothing a.sent ∙ (same_sent ∙ sent_all) };
                      promises = λ f at. (length l.shown, now, (let w = (first_some rs (elapsed rs) f at).within in omega (arith, w, ap length sent_all, same_length l.sent l.shown delays)));
                    },
                  )
                where
                  append_nothing : (g : List Record) → g ++ [] ≡ g
                  append_nothing [] = refl
                  append_nothing (y ∷ g) = ap (λ (z : List Record). y ∷ z) (append_nothing g)

                  noted_sent : (y : Exit) → request_in act.job.body ≡ Ok (request.Exit y) → (noted n l (Did act)).sent ≡ l.sent
                  noted_sent y q =
                      let b = asked n k (request_in act.job.body) act.answers act.in_cut l in
                      let d = heard_all (is_exit (request_in act.job.body)) act.answers b in
                      let less = less_then b d (noted n l (Did act)) (all_less (is_exit (request_in act.job.body)) act.answers b) (reopened_less k (is_gone act.job.body) d) in
                      less.sent ∙ (ap (λ (w : Result Request _). (asked n k w act.answers act.in_cut l).sent) q ∙ either (writes l k))
                    where
                      either : (b : Bool) → (if b then record l { exit = Some (exit_text y) } else l).sent ≡ l.sent
                      either true = refl
                      either false = refl

                  noted_promised : (y : Exit) → request_in act.job.body ≡ Ok (request.Exit y) → is_gone act.job.body ≡ false → (q : ℕ) → l.promised ≡ Some q → (noted n l (Did act)).promised ≡ Some (length l.shown)
                  noted_promised y q stays p1 t = rw (q, stays, told_is.1, on, on) (becomes_told l.promised (length l.shown) p1 t)
