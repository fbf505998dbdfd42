use Rattle.std.proofs.Common.{◌≡◌, not, rules, tests}
use Rattle.std.specs.List.{list_all}
use Rattle.std.proofs.lemmas.Iterator.{YieldsList-from_slice}
use Rattle.std.proofs.lemmas.Iterator.Search.{all_from_yields_List}
use Rattle.lsv_conf.specs.Values.{is_mark}
use Rattle.lsv_conf.proofs.Hosts.{host_by}
use Rattle.lsv_conf.proofs.address.is_host.Goals as goal

pub returns-then-not-is_empty : goal.returns-then-not-is_empty
returns-then-not-is_empty c =
    let all : c.all.result ≡ list_all (λ b. not (is_mark b)) c.args.bytes.now =
    all_from_yields_List (λ b. not (is_mark b)) _ _ _ c.all.ensures.ran (YieldsList-from_slice c.args.bytes.now cc) (λ x b q k. search (rules, tests)) in
    host_by c.args.bytes.now c.all.result (search rules) all
