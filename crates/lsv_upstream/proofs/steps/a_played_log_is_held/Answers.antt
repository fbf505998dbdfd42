use Rattle.lsv_machine.specs.History.{ledger}
use Rattle.lsv_upstream.specs.Playing.{with_run}
use Rattle.lsv_upstream.proofs.Exits.{exit_acknowledges}
use Rattle.lsv_upstream.proofs.Law.{part_known, tail_acknowledges, whole_prefix}
use Rattle.lsv_upstream.proofs.Lists.{lists_follow}
use Rattle.lsv_upstream.proofs.Once.{told_first}
use Rattle.lsv_upstream.proofs.OwnLaw.{own_acknowledged, own_exit}
use Rattle.lsv_upstream.proofs.steps.a_played_log_is_held.Goals as goal

pub returns : goal.returns
returns c =
    let by = c.a_cut_ends_at_the_first_record_of_its_point.ensures.delays in
    record {
      prefix = λ lane lanes n rs e h whole. whole_prefix by n rs e lane lanes h whole;
      tail = λ lane lanes n rs e before run set m after ours now tail k whole part ended writing told. tail_acknowledges by n rs e lane lanes before run set m after ours now tail k whole part ended writing told;
      exit = λ lane lanes n rs e before run set m after ours now act c whole part brings step writing told.
          let known = part_known by n rs e lane lanes before run set m ours now (whole_prefix by n rs e lane lanes before whole) part in
          (exit_acknowledges set n rs e (ledger (with_run before part.texts run) n) m after act ours now known.stands known.delays (known.played.writer act.job.conn) step brings c writing told).1;
      lists = λ n ours run coming lists others. lists_follow n ours run coming lists others;
      number_once = told_first;
      own_tail = λ n rs e before run set m after ours now tail k part ended mine writing told. own_acknowledged by n rs e before run set m after ours now tail k part ended mine writing told;
      own_exit = λ n rs e before run set m after ours now act c mine next part step writing told. own_exit by n rs e before run set m after ours now act c mine next part step writing told;
    }
