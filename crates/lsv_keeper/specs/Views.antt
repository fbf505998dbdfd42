-- What is seen of a keeper.
use Rattle.lsv_hook.specs.declared.formatter.LineWriter
use Rattle.lsv_mask.specs.declared.prompt.Search
use Rattle.lsv_keeper.specs.declared.keeper.Keeper.{Keeper}
use Rattle.lsv_keeper.specs.Value.{KeeperView}

-- a keeper, as contracts see it
abbrev pub view_of : {F H : Type 0} {writer : LineWriter.Ghosts F} {search : Search.Ghosts H} → Keeper F H writer search → KeeperView
view_of k = record {
  lane = k.lane;
  lanes = k.lanes;
  log_exit = k.log_exit;
  kind = k.formatter.kind;
  texts = k.texts;
  table = k.table;
  logs = k.logs;
  numbers = k.numbers;
  events = k.events;
  waiting = k.waiting.items;
  noting = k.noting.items;
}
