-- The second bundle may still be made once the first is, and then both are represented.
use Rattle.std.proofs.Common.{◌≡◌, ◌≢◌, sym, ◌∙◌, ap}
use Rattle.lsv_disk.specs.declared.file.Owner.{Owner}
use Rattle.lsv_disk.specs.declared.file.Owner.TheVariants.{Events, Relay}
use Rattle.lsv_journal.proofs.Laws.{own_owner, may_be_made_stays}
use Rattle.lsv_bundle.specs.declared.shape.Shape.TheVariants as shape
use Rattle.lsv_bundle.specs.Shape.{journal_of, IsWritable}
use Rattle.lsv_bundle.specs.Value.{BundleView, unstaged}
use Rattle.lsv_bundle.proofs.Laws.{writes_owner, staging_represents, owner_represents}
use Rattle.lsvt_tests_storage.proofs.both.script.Goals as goal

abbrev events : Owner
events = Events 0

abbrev relay : Owner
relay = Relay 7

differ : events ≢ relay
differ e = absurd (let no : ⊥ = cc in no)

-- the owner of a bundle is that of it without what is staged
same_owner : (a b : BundleView) → unstaged a ≡ unstaged b → a.owner ≡ b.owner
same_owner a b same = ap (λ (c : BundleView). c.owner) same

same_broken : (a b : BundleView) → unstaged a ≡ unstaged b → a.is_broken ≡ b.is_broken
same_broken a b same = ap (λ (c : BundleView). c.is_broken) same

pub create-requires-2 : goal.create-requires-2
create-requires-2 g c = record {
  may_be_made = λ told. may_be_made_stays 89 (journal_of relay) (IsWritable events shape.Lines) (g.D.Disk.view c.args.disk.now) (g.D.Disk.view c.create.new.disk) (c.requires.relay told)
      (c.create.ensures.any_moment told).elsewhere
      (λ f own writes. differ (sym (writes_owner events shape.Lines f writes) ∙ own_owner (journal_of relay) f own));
}

pub flush_both-requires : goal.flush_both-requires
flush_both-requires g c =
    let lines = c.in_ok-lines.lines in
    let other = c.in_ok-relay.relay in
    let mid = g.D.Disk.view c.create.new.disk in
    let new = g.D.Disk.view c.create-2.new.disk in
    let lines_owner : lines.owner ≡ events = c.in_ok-lines.ensures.fresh.owner_is in
    let other_owner : other.owner ≡ relay = c.in_ok-relay.ensures.fresh.owner_is in
    let lines_same : unstaged c.stage.new.self ≡ unstaged lines = c.in_ok-stage.ensures.value.same in
    let other_same : unstaged c.stage-2.new.self ≡ unstaged other = c.in_ok-stage-2.ensures.value.same in
    record {
      apart = λ e. differ (sym lines_owner ∙ sym (same_owner c.stage.new.self lines lines_same) ∙ e ∙ same_owner c.stage-2.new.self other other_same ∙ other_owner);
      first_whole = same_broken c.stage.new.self lines lines_same ∙ c.in_ok-lines.ensures.fresh.whole;
      second_whole = same_broken c.stage-2.new.self other other_same ∙ c.in_ok-relay.ensures.fresh.whole;
      first_represents = λ told. staging_represents lines c.stage.new.self new lines_same
          (owner_represents lines (IsWritable relay shape.Relay) mid new (c.create-2.ensures.any_moment told).elsewhere
          (λ f of writes. differ (sym lines_owner ∙ sym of ∙ writes_owner relay shape.Relay f writes)) (c.in_ok-lines.ensures.represents told));
      second_represents = λ told. staging_represents other c.stage-2.new.self new other_same (c.in_ok-relay.ensures.represents told);
    }
