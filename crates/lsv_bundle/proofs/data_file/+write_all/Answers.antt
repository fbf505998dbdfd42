use Rattle.std.proofs.Common.{rules, ◌≡◌, ◌-◌, List, ◌∷◌, length, take, drop}
use Rattle.lsv_bundle.specs.Value.{FileView}
use Rattle.lsv_bundle.specs.Represents.{Each}
use Rattle.lsv_bundle.specs.InnerFiles.{IsAppended}
use Rattle.lsv_bundle.proofs.Results.{on_ok_map}
use Rattle.lsv_bundle.proofs.DataFiles.{split_list, all_rest_differ, rest_durable, first_run, both_run, both_appended, both_calls, first_calls}
use Rattle.lsv_bundle.proofs.data_file.+write_all.Goals as goal

pub returns-in_err-write-clause-any_moment : goal.returns-in_err-write-clause-any_moment
returns-in_err-write-clause-any_moment g t c told =
    let files : List FileView = c.args.files.now in
    let rest : List FileView = take (length files - 1) (drop 1 files) in
    let old = g.D.Disk.view c.args.disk.now in
    let mid = g.D.Disk.view c.write.new.disk in
    first_run c.args.owner files c.first-item.result rest (split_list files c.first-item.result c.first-item.is c.in-len1-up.len_at_least) old mid mid
    (c.requires.durable told) c.requires.differ (c.write.ensures.any_moment told)

pub write_all-requires : goal.write_all-requires
write_all-requires g t c κs within =
    let files : List FileView = c.args.files.now in
    let rest : List FileView = take (length files - 1) (drop 1 files) in
    let old = g.D.Disk.view c.args.disk.now in
    let mid = g.D.Disk.view c.write.new.disk in
    let split : files ≡ c.first-item.result ∷ rest = split_list files c.first-item.result c.first-item.is c.in-len1-up.len_at_least in (
      search rules,
      (
        within,
        (
          λ told. rest_durable c.args.owner files c.first-item.result rest split old mid mid (c.requires.durable told) c.requires.differ (c.write.ensures.any_moment told),
          all_rest_differ c.args.owner files c.first-item.result rest split c.requires.differ,
        ),
      ),
    )

pub returns-clause-any_moment : goal.returns-clause-any_moment
returns-clause-any_moment g t c told =
    let files : List FileView = c.args.files.now in
    let rest : List FileView = take (length files - 1) (drop 1 files) in
    let old = g.D.Disk.view c.args.disk.now in
    let mid = g.D.Disk.view c.write.new.disk in
    let new = g.D.Disk.view c.write_all.new.disk in
    both_run c.args.owner files c.first-item.result rest (split_list files c.first-item.result c.first-item.is c.in-len1-up.len_at_least) old mid new
    (c.requires.durable told) c.requires.differ (c.write.ensures.any_moment told) (c.write.ensures.crash told) (c.write_all.ensures.any_moment told)

pub returns-clause-appended : goal.returns-clause-appended
returns-clause-appended g t c told =
    let files : List FileView = c.args.files.now in
    let rest : List FileView = take (length files - 1) (drop 1 files) in
    let old = g.D.Disk.view c.args.disk.now in
    let mid = g.D.Disk.view c.write.new.disk in
    let new = g.D.Disk.view c.write_all.new.disk in
    on_ok_map c.write_all.result (Each (IsAppended c.args.owner mid new) rest) (Each (IsAppended c.args.owner old new) files)
    (both_appended c.args.owner files c.first-item.result rest (split_list files c.first-item.result c.first-item.is c.in-len1-up.len_at_least) old mid new
    (c.requires.durable told) c.requires.differ (c.write.ensures.any_moment told) (c.write.ensures.crash told) (c.write_all.ensures.any_moment told) (c.in_ok-write.ensures.appended told))
    (c.write_all.ensures.appended told)

pub returns-in_err-write-clause-calls : goal.returns-in_err-write-clause-calls
returns-in_err-write-clause-calls g t c told =
    let files : List FileView = c.args.files.now in
    let rest : List FileView = take (length files - 1) (drop 1 files) in
    first_calls c.args.owner files c.first-item.result rest (split_list files c.first-item.result c.first-item.is c.in-len1-up.len_at_least) c.requires.differ 1 0
    (g.D.Disk.view c.args.disk.now) (g.D.Disk.view c.write.new.disk) (c.write.ensures.calls told)

pub returns-clause-calls : goal.returns-clause-calls
returns-clause-calls g t c told =
    let files : List FileView = c.args.files.now in
    let rest : List FileView = take (length files - 1) (drop 1 files) in
    both_calls c.args.owner files c.first-item.result rest (split_list files c.first-item.result c.first-item.is c.in-len1-up.len_at_least) c.requires.differ 1 0
    (g.D.Disk.view c.args.disk.now) (g.D.Disk.view c.write.new.disk) (g.D.Disk.view c.write_all.new.disk) (c.write.ensures.calls told) (c.write_all.ensures.calls told)
