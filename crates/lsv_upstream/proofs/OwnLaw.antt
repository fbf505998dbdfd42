-- One client among any others: a commit point at the elapsed time of its list that is told to it while it writes promises the list.
use Rattle.std.proofs.Common.{◌≡◌, ℕ, List, [], ◌∷◌, ◌++◌, map, sym, ◌∙◌, ap, subst, inl, arith, Option}
use Rattle.std.specs.Prelude.{Bool, true, false}
use Rattle.std.proofs.lemmas.Grind.{common_steps}
use Rattle.lsv_info.specs.declared.times.Exit.{Exit}
use Rattle.lsv_record.specs.Records.{delay_of, elapsed}
use Rattle.lsv_record.specs.declared.records.Record.{Record}
use Rattle.lsv_request.specs.declared.request.Request.{Request}
use Rattle.lsv_session.specs.declared.connection.ConnId.{ConnId}
use Rattle.lsv_machine.specs.Durable.{IsPrefix}
use Rattle.lsv_machine.specs.Failures.{Act, Step}
use Rattle.lsv_machine.specs.History.{Ledger, blank, ledger, noted, writes}
use Rattle.lsv_machine.specs.Machine.{IsOfLane, Machine, Settings}
use Rattle.lsv_machine.specs.Stands.{StandsFor}
use Rattle.lsv_machine.specs.Starts.{GoodState, StartsAs}
use Rattle.lsv_machine.specs.Turns.{EndOfTurn, Happened, Happened.Did, Happened.Tailed, Happened.Begins, Run, Tail}
use Rattle.lsv_machine.proofs.RecordLemmas.{take_prefix}
use Rattle.lsv_machine.proofs.RunLaws.{job_stands, ledger_append, starts_stand, tail_stands}
use Rattle.lsv_machine.proofs.Shown.{ByDelays, shown_delays}
use Rattle.lsv_upstream.specs.Held.{HoldsThrough, HasPoint}
use Rattle.lsv_upstream.specs.Playing.{HasBegun, IsNext, OwnExpected, OwnRun, PlayedOwn, StillAsks, all_asks_after, with_run}
use Rattle.lsv_upstream.proofs.Among.{among}
use Rattle.lsv_upstream.proofs.Exits.{exit_acknowledges}
use Rattle.lsv_upstream.proofs.Keeping.{Less, all_less, writer_owner}
use Rattle.lsv_upstream.proofs.Law.{Waits, job_waits, sent_first}
use Rattle.lsv_upstream.proofs.OwnJobs.{own_played}
use Rattle.lsv_upstream.proofs.Told.{tail_told}

-- all that is known at a moment of a run
pub record KnownOwn (set : Settings) (n : ℕ) (rs : List Record) (e : Option Exit) (m : Machine) (l : Ledger) (ours : ConnId → Bool) (coming : ConnId → List Request) : Type 0 where
  pub stands : StandsFor set n m l
  pub delays : map delay_of l.sent ≡ map delay_of l.shown
  pub played : PlayedOwn rs e l (writes l) ours coming
  pub waits : Waits set n m l

module _ (by : ByDelays) (n : ℕ) (rs : List Record) (e : Option Exit) where
  delays_at : (g : List Happened) → map delay_of (ledger g n).sent ≡ map delay_of (ledger g n).shown
  delays_at g = shown_delays by g n

  after_one : (g : List Happened) (x : Happened) → ledger (g ++ x ∷ []) n ≡ noted n (ledger g n) x
  after_one g x = ledger_append n blank g (x ∷ [])

  job_known : (set : Settings) (lane : IsOfLane set.lane set.lanes n) (g : List Happened) (m after : Machine) (act : Act) (ours : ConnId → Bool) (coming : ConnId → List Request)
      → KnownOwn set n rs e m (ledger g n) ours coming → (ours act.job.conn ≡ true → HasBegun rs n (ledger g n) act) → (ours act.job.conn ≡ true → IsNext act.job.body (coming act.job.conn))
      → Step set m act after → KnownOwn set n rs e after (ledger (g ++ Did act ∷ []) n) ours (all_asks_after act coming)
  job_known set lane g m after act ours coming known begun next step = record {
    stands = subst (StandsFor set n after) (sym (after_one g (Did act))) (job_stands set n (ledger g n) act m after known.stands step);
    delays = delays_at (g ++ Did act ∷ []);
    played = subst (λ (l : Ledger). PlayedOwn rs e l (writes l) ours (all_asks_after act coming)) (sym (after_one g (Did act))) (own_played set n rs e (ledger g n) m after act ours coming known.stands known.played step begun next);
    waits = subst (Waits set n after) (sym (after_one g (Did act))) (job_waits set n lane m after (ledger g n) act known.stands step known.waits);
  }

  tail_known : (set : Settings) (g : List Happened) (m after : Machine) (tail : Tail) (ours : ConnId → Bool) (coming : ConnId → List Request)
      → KnownOwn set n rs e m (ledger g n) ours coming → EndOfTurn set m tail after → KnownOwn set n rs e after (ledger (g ++ Tailed tail ∷ []) n) ours coming
  tail_known set g m after tail ours coming known ended =
      let less = all_less false tail.answers (ledger g n) in
      record {
        stands = subst (StandsFor set n after) (sym (after_one g (Tailed tail))) (tail_stands set n (ledger g n) tail m after known.stands ended);
        delays = delays_at (g ++ Tailed tail ∷ []);
        played = subst (λ (l : Ledger). PlayedOwn rs e l (writes l) ours coming) (sym (after_one g (Tailed tail))) (less_played (ledger g n) (noted n (ledger g n) (Tailed tail)) less known.played);
        waits = λ w. absurd (let none : among n after.waiting ≡ false = ap (λ (x : Machine). among n x.waiting) ended.now in cc);
      }
    where
      less_played : (l l' : Ledger) → Less l l' → PlayedOwn rs e l (writes l) ours coming → PlayedOwn rs e l' (writes l') ours coming
      less_played l l' less p = record {
        shapes = p.shapes;
        writer = λ k w o. let (q, low, is, at) = p.writer k (less.writers k w) o in (q, low, less.sent ∙ is, at);
      }

  append_one : (g h : List Happened) (x : Happened) → (g ++ x ∷ []) ++ h ≡ g ++ x ∷ h
  append_one g h x = grind (arith, common_steps)

  run_known : (set : Settings) (lane : IsOfLane set.lane set.lanes n) (g h : List Happened) (m end : Machine) (ours : ConnId → Bool) (coming now : ConnId → List Request)
      → KnownOwn set n rs e m (ledger g n) ours coming → OwnExpected rs n ours coming g h now → Run set m h end → KnownOwn set n rs e end (ledger (g ++ h) n) ours now
  run_known set lane g [] m end ours coming now known follows runs =
      let k : KnownOwn set n rs e end (ledger g n) ours now = subst (λ x. KnownOwn set n rs e x (ledger g n) ours now) (sym runs) (subst (λ x. KnownOwn set n rs e m (ledger g n) ours x) (sym follows) known) in
      subst (λ (x : List Happened). KnownOwn set n rs e end (ledger x n) ours now) (sym (append_nothing g)) k
    where
      append_nothing : (g : List Happened) → g ++ [] ≡ g
      append_nothing g = grind (arith, common_steps)
  run_known set lane g (Did act ∷ h) m end ours coming now known (begun, next, follows) (mid, step, rest) =
      subst (λ (x : List Happened). KnownOwn set n rs e end (ledger x n) ours now) (append_one g h (Did act))
      (run_known set lane (g ++ Did act ∷ []) h mid end ours (all_asks_after act coming) now (job_known set lane g m mid act ours coming known begun next step) follows rest)
  run_known set lane g (Tailed tail ∷ h) m end ours coming now known follows (mid, ended, rest) =
      subst (λ (x : List Happened). KnownOwn set n rs e end (ledger x n) ours now) (append_one g h (Tailed tail))
      (run_known set lane (g ++ Tailed tail ∷ []) h mid end ours coming now (tail_known set g m mid tail ours coming known ended) follows rest)
  run_known set lane g (Begins texts ∷ h) m end ours coming now known follows runs = absurd runs

  -- a run begins: nobody writes
  begins_known : (set : Settings) (g : List Happened) (texts : List (List ℕ)) (start : Machine) (ours : ConnId → Bool) (coming : ConnId → List Request) → StartsAs set texts start → GoodState (ledger g n) (start.logs n)
      → ((k : ConnId) → ours k ≡ true → StillAsks rs e (coming k)) → KnownOwn set n rs e start (ledger (g ++ Begins texts ∷ []) n) ours coming
  begins_known set g texts start ours coming starts good shapes = record {
    stands = subst (StandsFor set n start) (sym (after_one g (Begins texts))) (starts_stand set n texts start (ledger g n) starts good);
    delays = delays_at (g ++ Begins texts ∷ []);
    played = subst (λ (l : Ledger). PlayedOwn rs e l (writes l) ours coming) (sym (after_one g (Begins texts))) (record { shapes = shapes; writer = λ k w. absurd (cc) });
    waits = λ w. absurd (let none : among n start.waiting ≡ false = ap (among n) starts.none_waits in cc);
  }

  pub part_known : (before run : List Happened) (set : Settings) (m : Machine) (ours : ConnId → Bool) (now : ConnId → List Request) (part : OwnRun n rs e before run set m ours now)
      → KnownOwn set n rs e m (ledger (with_run before part.texts run) n) ours now
  part_known before run set m ours now part =
      let begun = begins_known set before part.texts part.start ours part.coming part.starts part.good part.shapes in
      subst (λ (x : List Happened). KnownOwn set n rs e m (ledger x n) ours now) (append_one before run (Begins part.texts))
      (run_known set part.of_lane (before ++ Begins part.texts ∷ []) run part.start m ours part.coming now begun part.follows part.runs)

  pub own_acknowledged : (before run : List Happened) (set : Settings) (m after : Machine) (ours : ConnId → Bool) (now : ConnId → List Request) (tail : Tail) (k : ConnId)
      → (part : OwnRun n rs e before run set m ours now) → EndOfTurn set m tail after → ours k ≡ true → writes (ledger (with_run before part.texts run) n) k ≡ true → HasPoint k (elapsed rs) tail.answers
      → HoldsThrough rs (elapsed rs) (noted n (ledger (with_run before part.texts run) n) (Tailed tail))
  own_acknowledged before run set m after ours now tail k part ended mine writing told =
      let known = part_known before run set m ours now part in
      let l = ledger (with_run before part.texts run) n in
      let owner = writer_owner n m l k known.stands.agrees.writers writing in
      let a = tail_told set n k (elapsed rs) m after l tail known.stands ended told (known.stands.sound.owns n k owner) in
      let less = all_less false tail.answers l in
      let (p, low, is, at) = known.played.writer k writing mine in
      let prefix : IsPrefix l.sent rs = subst (λ (x : List Record). IsPrefix x rs) (sym is) (take_prefix p rs) in
      record {
        prefix = let same = less.sent in rw same prefix;
        promises = λ f at'. a.promises f (sent_first by n rs e l f known.delays prefix (known.waits a.waited).0 a.point at');
      }

  -- the same of its exit
  pub own_exit : (before run : List Happened) (set : Settings) (m after : Machine) (ours : ConnId → Bool) (now : ConnId → List Request) (act : Act) (c : ℕ)
      → ours act.job.conn ≡ true → IsNext act.job.body (now act.job.conn) → (part : OwnRun n rs e before run set m ours now) → Step set m act after
      → writes (ledger (with_run before part.texts run) n) act.job.conn ≡ true → HasPoint act.job.conn c act.answers → HoldsThrough rs (elapsed rs) (noted n (ledger (with_run before part.texts run) n) (Did act))
  own_exit before run set m after ours now act c mine next part step writing told =
      let known = part_known before run set m ours now part in
      (exit_acknowledges set n rs e (ledger (with_run before part.texts run) n) m after act ours now known.stands known.delays (λ on. (mine, known.played.writer act.job.conn on mine)) step (inl (mine, next)) c writing told).1
