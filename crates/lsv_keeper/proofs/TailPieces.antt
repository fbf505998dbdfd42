-- Pieces of the end of a turn: connections that are refused one after another, where their lines were lost.
use Rattle.std.proofs.Common.{◌≡◌, ℕ, List, [], ◌∷◌, ◌++◌, refl, sym, ◌∙◌, ap, subst, inl, inr, append_assoc, arith, ◌⊎◌}
use Rattle.std.specs.Prelude.{false, Contains}
use Rattle.std.proofs.lemmas.List.Elements.{Contains-append_left, Contains-append_right}
use Rattle.lsv_disk.specs.Throughout.{Jointly}
use Rattle.lsv_disk.specs.View.{DiskView, Image, IsCrashImage}
use Rattle.lsv_disk.specs.declared.file.Owner.{Owner}
use Rattle.lsv_disk.specs.declared.file.Owner.TheVariants.{Events}
use Rattle.lsv_session.specs.declared.connection.ConnId.{ConnId}
use Rattle.lsv_machine.specs.Answers.{Answer}
use Rattle.lsv_machine.specs.Disks.{LinesAs, LinesAsBefore, LinesAsBeforeOr}
use Rattle.lsv_machine.specs.Durable.{Reading}
use Rattle.lsv_machine.specs.Keeping.{Ended}
use Rattle.lsv_machine.specs.Machine.{Machine, Settings}
use Rattle.lsv_machine.specs.Stands.{StandsFor}
use Rattle.lsv_machine.specs.Tails.{LinesEnded, joined}
use Rattle.lsv_machine.specs.Turns.{FlushesLines, RefusesAll, Tail, with_lines}
use Rattle.lsv_machine.specs.History.{heard_all}
use Rattle.lsv_machine.proofs.Fits.{fits_of_stands, stands_of_fits}
use Rattle.lsv_machine.proofs.Folds.{each_down, lines_rest_on, moments_on, same_lines_on}
use Rattle.lsv_machine.proofs.RunFits.{all_refused, with_lines_together}
use Rattle.lsv_machine.proofs.TailFolds.{ended_on, wider_refuses}
use Rattle.lsv_keeper.specs.Tails.{Refused}
use Rattle.lsv_machine.proofs.Owners.{refused_written}

-- ---- Connections one after another

refuses_append : (failed : List Owner) (xs ys : List ConnId) (a b : List Answer) (m mid new : Machine) → RefusesAll failed xs a m mid → RefusesAll failed ys b mid new → RefusesAll failed (xs ++ ys) (a ++ b) m new
refuses_append failed [] ys a b m mid new s t = let p = s.0 in subst (λ z. RefusesAll failed ys (a ++ b) z new) s.1 (rw p t)
refuses_append failed (k ∷ xs) ys a b m mid new (inl s) t = inl (s.0, refuses_append failed xs ys a b m mid new s.1 t)
refuses_append failed (k ∷ xs) ys a b m mid new (inr (living, (next, its, rest, parts, one, more))) t =
    inr (living, (next, its, rest ++ b, ap (λ (x : List Answer). x ++ b) parts ∙ append_assoc its rest b, one, refuses_append failed xs ys rest b next mid new more t))

refused_stand : (set : Settings) (n : ℕ) (failed : List Owner) (conns : List ConnId) (answers : List Answer) (m new : Machine) (l : Rattle.lsv_machine.specs.History.Ledger) → StandsFor set n m l → RefusesAll failed conns answers m new
    → StandsFor set n new (heard_all false answers l)
refused_stand set n failed conns answers m new l s t = stands_of_fits set n new (heard_all false answers l) (all_refused (Unit {0}) set n failed conns answers m new l (fits_of_stands set n m l s) t)

pub refused_more : (r : Reading) (set : Settings) (xs ys : List ConnId) (s t : Tail) (m mid after : Machine) (one two three : DiskView)
    → Refused r set xs s m mid one two → Refused r set ys t mid after two three → Refused r set (xs ++ ys) (joined s t) m after one three
refused_more r set xs ys s t m mid after one two three a b = record {
  ended = ended_on r set s t (λ x y. RefusesAll s.failed xs s.answers x y) (λ x y. RefusesAll t.failed ys t.answers x y) (λ x y. RefusesAll (s.failed ++ t.failed) (xs ++ ys) (s.answers ++ t.answers) x y)
      m mid after one two three (λ n l stands. refused_stand set n s.failed xs s.answers m mid l stands a.ended.ends) (refused_written s.failed xs s.answers m mid a.ended.ends) both a.ended b.ended;
  lines = lines_rest_on r one two three a.lines b.lines;
  text = b.text ∙ a.text;
}
  where
    both : RefusesAll (s.failed ++ t.failed) (xs ++ ys) (s.answers ++ t.answers) m after
    both = refuses_append (s.failed ++ t.failed) xs ys s.answers t.answers m mid after
        (wider_refuses s.failed (s.failed ++ t.failed) xs s.answers m mid (Contains-append_left s.failed t.failed) a.ended.ends)
        (wider_refuses t.failed (s.failed ++ t.failed) ys t.answers mid after (Contains-append_right s.failed t.failed) b.ended.ends)

-- ---- The event log failed

-- the event log failed, and its lines are there or not
pub record LinesFailed (r : Reading) (set : Settings) (wrote : Rattle.std.specs.Prelude.Bool) (m : Machine) (old new : DiskView) : Type 0 where
  pub ended : Ended r set (record { answers = []; failed = Events set.lane ∷ [] }) (λ x y. y ≡ with_lines wrote x) m (with_lines wrote m) old new
  pub moments : Jointly (LinesAsBeforeOr r (IsCrashImage old) (m.lines ++ m.fresh)) old new
  pub now : LinesAsBeforeOr r (IsCrashImage old) (m.lines ++ m.fresh) (IsCrashImage new)
  pub reads : r.lines old.reads m.lines → r.lines new.reads (with_lines wrote m).lines

pub lines_lost : (r : Reading) (set : Settings) (wrote : Rattle.std.specs.Prelude.Bool) (t : Tail) (m after : Machine) (one two three : DiskView)
    → LinesFailed r set wrote m one two → Refused r set m.noting t (with_lines wrote m) after two three → LinesEnded r set (joined (record { answers = []; failed = Events set.lane ∷ [] }) t) m after one three
lines_lost r set wrote t m after one two three a b = record {
  ended = ended_on r set first t (λ x y. y ≡ with_lines wrote x) (λ x y. RefusesAll t.failed m.noting t.answers x y) (λ x y. FlushesLines set (Events set.lane ∷ t.failed) t.answers x y)
      m (with_lines wrote m) after one two three
      (λ n l stands. stands_of_fits set n (with_lines wrote m) l (with_lines_together (Unit {0}) set n m wrote l (fits_of_stands set n m l stands)))
      (λ n is. is)
      (inr (record { did = Contains-append_left (Events set.lane ∷ []) t.failed (Events set.lane) here; wrote = wrote; refuses = wider_refuses t.failed (Events set.lane ∷ t.failed) m.noting t.answers (with_lines wrote m) after (Contains-append_right (Events set.lane ∷ []) t.failed) b.ended.ends }))
      a.ended b.ended;
  lines = record {
    moments = moments_on (LinesAsBeforeOr r (IsCrashImage one) (m.lines ++ m.fresh)) (LinesAsBefore r (IsCrashImage two)) (LinesAsBeforeOr r (IsCrashImage one) (m.lines ++ m.fresh)) one two three
        (each_down (λ image. LinesAs r (IsCrashImage one) image ⊎ r.lines image (m.lines ++ m.fresh)))
        (λ images x. x) (λ images x image is. of_two image (x image is)) a.moments b.lines.moments;
    now = inl (Contains-append_left (Events set.lane ∷ []) t.failed (Events set.lane) here, λ image is. of_two image (b.lines.now image is));
    reads = λ is. subst (r.lines three.reads) (sym b.text) (b.lines.reads.to (with_lines wrote m).lines (a.reads is));
  };
}
  where
    first : Tail
    first = record { answers = []; failed = Events set.lane ∷ [] }

    here : Contains (Events set.lane ∷ []) (Events set.lane)
    here = (0, omega arith, refl)

    of_two : (image : Image) → LinesAs r (IsCrashImage two) image → LinesAs r (IsCrashImage one) image ⊎ r.lines image (m.lines ++ m.fresh)
    of_two image (was, is, alike) = go (a.now was is)
      where
        go : LinesAs r (IsCrashImage one) was ⊎ r.lines was (m.lines ++ m.fresh) → LinesAs r (IsCrashImage one) image ⊎ r.lines image (m.lines ++ m.fresh)
        go (inl y) = inl (y.0, y.1, same_lines_on r y.0 was image y.2 alike)
        go (inr y) = inr (alike.to (m.lines ++ m.fresh) y)
