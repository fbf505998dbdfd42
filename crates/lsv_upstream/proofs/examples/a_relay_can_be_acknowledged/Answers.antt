use Rattle.std.proofs.Common.{[], ◌∷◌, ◌++◌, refl, subst, inl, inr, arith, None}
use Rattle.lsv_machine.specs.Examples.{full_head, one_lane, starting}
use Rattle.lsv_machine.specs.Machine.{LogState.Absent, Machine}
use Rattle.lsv_machine.specs.Turns.{Happened.Tailed, Run}
use Rattle.lsv_upstream.specs.Examples.{before_point, one, turn_end, relay_visit, upstream_run}
use Rattle.lsv_upstream.specs.Relayed.{IsAcknowledged, IsRelayed, PlaysLog, Visit}
use Rattle.lsv_upstream.proofs.Asks.{played_anew}
use Rattle.lsv_upstream.proofs.Members.{In, in_of}
use Rattle.lsv_upstream.proofs.Starting.{starts_empty, whole_run}
use Rattle.lsv_upstream.proofs.examples.a_relay_can_be_acknowledged.Goals as goal

plays : (end : Machine) → PlaysLog full_head one None (upstream_run end ∷ []) relay_visit
plays end = record {
  at = record { before = []; its = upstream_run end; after = []; is = refl; place = refl };
  jobs = record { brought = played_anew full_head one None; later = []; whole = refl; ends = []; no_messages = tt; jobs = refl };
  read = record { later = []; whole = refl };
}

only_one : (end : Machine) (v : Visit) → In v (relay_visit ∷ []) → PlaysLog full_head one None (upstream_run end ∷ []) v
only_one end v (inl e) = subst (PlaysLog full_head one None (upstream_run end ∷ [])) e (plays end)
only_one end v (inr i) = absurd i

relayed : (end : Machine) → Run one_lane (starting Absent 0) (before_point ++ Tailed turn_end ∷ []) end → IsRelayed 0 1 1 full_head one None (upstream_run end ∷ []) (relay_visit ∷ [])
relayed end runs = record {
  of_lane = (0, refl);
  whole = (record { lane_is = refl; lanes_are = refl; starts = starts_empty; good = tt; runs = runs }, tt);
  each = λ v c. only_one end v (in_of (relay_visit ∷ []) v c);
  kept = (tt, tt);
  alone = (((λ o restart e. absurd (cc)), ((λ o restart e. absurd (cc)), ((λ o restart e. absurd (cc)), tt))), tt);
}

acknowledged : (end : Machine) → IsAcknowledged 1 one (upstream_run end ∷ []) (relay_visit ∷ [])
acknowledged end = record {
  visit = relay_visit;
  among = (0, omega arith, refl);
  run = record { before = []; its = upstream_run end; after = []; is = refl; place = refl };
  at = record { past = before_point; event = Tailed turn_end; later = []; is = refl; writing = refl; brings = inl (refl, refl) };
}

pub returns : goal.returns
returns c = record { relayed = (whole_run.0, relayed whole_run.0 whole_run.1, acknowledged whole_run.0) }
