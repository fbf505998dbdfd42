use Rattle.std.proofs.Common.{◌-◌, List, length, take, drop}
use Rattle.lsv_bundle.specs.Value.{FileView}
use Rattle.lsv_bundle.specs.Represents.{Each}
use Rattle.lsv_bundle.specs.InnerFiles.{IsSyncedFile, IsSyncedOnce}
use Rattle.lsv_bundle.proofs.Results.{on_ok_map}
use Rattle.lsv_bundle.proofs.DataFiles.{split_list, both_synced, both_once, both_calls}
use Rattle.lsv_bundle.proofs.data_file.+sync_all.Goals as goal

pub returns-clause-durable : goal.returns-clause-durable
returns-clause-durable g t c told =
    let files : List FileView = c.args.files.now in
    let rest : List FileView = take (length files - 1) (drop 1 files) in
    let old = g.D.Disk.view c.args.disk.now in
    let mid = g.D.Disk.view c.sync.new.disk in
    let new = g.D.Disk.view c.sync_all.new.disk in
    on_ok_map c.sync_all.result (Each (IsSyncedFile c.args.owner new) rest) (Each (IsSyncedFile c.args.owner new) files)
    (both_synced c.args.owner files c.first-item.result rest (split_list files c.first-item.result c.first-item.is c.in-len1-up.len_at_least) old mid new
    c.requires.differ (c.sync.ensures.calls told).syncs (c.sync_all.ensures.calls told).syncs (c.sync_all.ensures.unchanged told) (c.in_ok-sync.ensures.durable told))
    (c.sync_all.ensures.durable told)

pub returns-clause-once : goal.returns-clause-once
returns-clause-once g t c told =
    let files : List FileView = c.args.files.now in
    let rest : List FileView = take (length files - 1) (drop 1 files) in
    let old = g.D.Disk.view c.args.disk.now in
    let mid = g.D.Disk.view c.sync.new.disk in
    let new = g.D.Disk.view c.sync_all.new.disk in
    on_ok_map c.sync_all.result (Each (IsSyncedOnce c.args.owner mid new) rest) (Each (IsSyncedOnce c.args.owner old new) files)
    (both_once c.args.owner files c.first-item.result rest (split_list files c.first-item.result c.first-item.is c.in-len1-up.len_at_least) old mid new
    c.requires.differ (c.sync.ensures.calls told).syncs (c.sync_all.ensures.calls told).syncs (c.in_ok-sync.ensures.once told))
    (c.sync_all.ensures.once told)

pub returns-clause-calls : goal.returns-clause-calls
returns-clause-calls g t c told =
    let files : List FileView = c.args.files.now in
    let rest : List FileView = take (length files - 1) (drop 1 files) in
    both_calls c.args.owner files c.first-item.result rest (split_list files c.first-item.result c.first-item.is c.in-len1-up.len_at_least) c.requires.differ 0 1
    (g.D.Disk.view c.args.disk.now) (g.D.Disk.view c.sync.new.disk) (g.D.Disk.view c.sync_all.new.disk) (c.sync.ensures.calls told) (c.sync_all.ensures.calls told)
