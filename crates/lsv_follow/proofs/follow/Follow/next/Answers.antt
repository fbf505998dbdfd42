-- The next record of a view that was renewed is the log's.
use Rattle.std.proofs.Common.{◌∙◌, List, [], ◌∷◌, ◌++◌, Option, inr, sym}
use Rattle.lsv_disk.specs.View.{DiskView}
use Rattle.lsv_disk.proofs.Composition.{reads_trans}
use Rattle.lsv_record.specs.declared.records.Record.{Record}
use Rattle.lsv_iolog.specs.declared.fault.ViewFault.{ViewFault}
use Rattle.lsv_iolog.specs.declared.fault.ViewFault.TheVariants as views
use Rattle.lsv_iolog.specs.Reading.{IsBehind, IsWhole, ViewState}
use Rattle.lsv_iolog.proofs.Scans.{if_none_at, if_some_at}
use Rattle.lsv_iolog.proofs.Viewing.{err_of}
use Rattle.lsv_play.proofs.Played.{same_image}
use Rattle.lsv_follow.specs.Faults.{of_log}
use Rattle.lsv_follow.specs.declared.fault.FollowFault.TheVariants.{Log}
use Rattle.lsv_follow.proofs.Causes.{damaged_is, on_err, same_fault}
use Rattle.lsv_follow.proofs.Views.{behind_same, behind_shown, cuts_there, fault_same, found_none, found_record, sound_same, whole_same}
use Rattle.lsv_follow.proofs.follow.Follow.next.Goals as goal

pub returns-in_err-renew-clause-stays : goal.returns-in_err-renew-clause-stays
returns-in_err-renew-clause-stays g c told shown has = on_err c.from_residual.result _ (c.renew.ensures.same.2 ∙ has.counted)

pub returns-in_err-record-clause-stays : goal.returns-in_err-record-clause-stays
returns-in_err-record-clause-stays g c told shown has =
    let old : DiskView = g.D.Disk.view c.args.disk.now in
    let mid : DiskView = g.D.Disk.view c.renew.new.disk in
    let v : ViewState = c.renew.new.self.view in
    let behind = behind_same v shown mid old (sym (same_image old mid (c.renew.ensures.reads told))) (behind_shown c.args.self.now.view v old shown (c.in_ok-renew.ensures.renewed told) has) in
    on_err c.from_residual-in_err-record.result _ (c.in_err-record.ensures.stays told shown behind).given

pub returns-in_err-record-clause-damaged : goal.returns-in_err-record-clause-damaged
returns-in_err-record-clause-damaged g c told part at =
    let old : DiskView = g.D.Disk.view c.args.disk.now in
    let mid : DiskView = g.D.Disk.view c.renew.new.disk in
    let v : ViewState = c.renew.new.self.view in
    let e : ViewFault = c.in_err-record.field-0.0 in
    let same = same_image old mid (c.renew.ensures.reads told) in
    let is = damaged_is e part (same_fault c.from_residual-in_err-record.result (of_log e) (Log (views.Damaged part)) c.from_residual-in_err-record.ensures.1 at) in
    inr (inr (record {
      next = v;
      renewed = c.in_ok-renew.ensures.renewed told;
      fault = λ records behind. fault_same v records part old mid same
          (c.in_err-record.ensures.damaged told part (err_of {T = Option Record} e (views.Damaged part) is) records (behind_same v records mid old (sym same) behind));
    }))

pub returns-in-Some-clause-finds : goal.returns-in-Some-clause-finds
returns-in-Some-clause-finds g c told shown has =
    let old : DiskView = g.D.Disk.view c.args.disk.now in
    let mid : DiskView = g.D.Disk.view c.renew.new.disk in
    let new : DiskView = g.D.Disk.view c.next.new.disk in
    let f : ViewState = c.args.self.now.view in
    let v : ViewState = c.renew.new.self.view in
    let w : ViewState = c.next.new.self in
    let r : Record = c.in-Some.record in
    let first = same_image old mid (c.renew.ensures.reads told) in
    let both = same_image old new (reads_trans old mid new (c.renew.ensures.reads told) (c.next.ensures.reads told)) in
    let renewed = c.in_ok-renew.ensures.renewed told in
    let behind : IsBehind v shown mid = behind_same v shown mid old (sym first) (behind_shown f v old shown renewed has) in
    let further : IsBehind w (shown ++ r ∷ []) new =
    if_some_at c.in_ok-record.field-0 r (λ x. (rs : List Record) → IsBehind v rs mid → IsBehind w (rs ++ x ∷ []) new) c.in-Some.is (c.in_ok-record.ensures.given told) shown behind in
    found_record f v old shown renewed has w r c.next.ensures.same.0 c.next.ensures.same.2 (behind_same w (shown ++ r ∷ []) old new both further) (sound_same v shown old mid first (c.in_ok-record.ensures.sound told shown behind))

pub returns-in-Some-clause-uncut : goal.returns-in-Some-clause-uncut
returns-in-Some-clause-uncut g c told = cuts_there c.args.self.now.view c.renew.new.self.view (g.D.Disk.view c.args.disk.now) (c.in_ok-renew.ensures.renewed told)

pub returns-in-None-clause-finds : goal.returns-in-None-clause-finds
returns-in-None-clause-finds g c told shown has =
    let old : DiskView = g.D.Disk.view c.args.disk.now in
    let mid : DiskView = g.D.Disk.view c.renew.new.disk in
    let new : DiskView = g.D.Disk.view c.next.new.disk in
    let f : ViewState = c.args.self.now.view in
    let v : ViewState = c.renew.new.self.view in
    let w : ViewState = c.next.new.self in
    let first = same_image old mid (c.renew.ensures.reads told) in
    let both = same_image old new (reads_trans old mid new (c.renew.ensures.reads told) (c.next.ensures.reads told)) in
    let renewed = c.in_ok-renew.ensures.renewed told in
    let behind : IsBehind v shown mid = behind_same v shown mid old (sym first) (behind_shown f v old shown renewed has) in
    let end = if_none_at c.in_ok-record.field-0 ((rs : List Record) → IsBehind v rs mid → IsWhole v rs mid × IsBehind w rs new) c.in-None.is (c.in_ok-record.ensures.end told) shown behind in
    found_none f v old shown renewed has w c.at_end.result c.next.ensures.same.2 (whole_same v shown old mid first end.0) (sound_same v shown old mid first (c.in_ok-record.ensures.sound told shown behind)) (behind_same w shown old new both end.1)
    c.at_end.ensures.end c.at_end.ensures.going

pub returns-in-None-clause-uncut : goal.returns-in-None-clause-uncut
returns-in-None-clause-uncut g c told = cuts_there c.args.self.now.view c.renew.new.self.view (g.D.Disk.view c.args.disk.now) (c.in_ok-renew.ensures.renewed told)
