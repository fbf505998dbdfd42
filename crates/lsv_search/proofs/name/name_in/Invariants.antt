use Rattle.std.proofs.Common.{◌≡◌, take}
use Rattle.std.specs.Prelude.{filter}
use Rattle.lsv_search.specs.Names.{all_names, begins_with}
use Rattle.lsv_search.proofs.Naming.{listed}
use Rattle.lsv_search.proofs.name.name_in.Given as goal

abbrev pub invariant-loop-name : goal.invariant-loop-name
invariant-loop-name l = record {
  all : l.name-items ≡ all_names;
  found : filter (begins_with l.word) (take l.name-index l.name-items) ≡ listed l.found;
}
