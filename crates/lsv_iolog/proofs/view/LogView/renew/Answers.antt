-- A view that was renewed stands after the records that it gave.
use Rattle.std.proofs.Common.{◌≡◌, ◌≤◌, ℕ, [], refl, sym, ◌∙◌, ap, subst}
use Rattle.lsv_disk.specs.View.{DiskView}
use Rattle.lsv_bundle.specs.Body.{length_of}
use Rattle.lsv_bundle.specs.declared.view.View.{View}
use Rattle.lsv_disk.specs.declared.file.Part.TheVariants.{Timing}
use Rattle.lsv_record.specs.Records.{shape_of}
use Rattle.lsv_record.specs.Tally.{Totals, totals_of}
use Rattle.std.specs.Prelude.{map}
use Rattle.lsv_iolog.specs.Recovered.{HoldsLog}
use Rattle.lsv_iolog.specs.Reading.{ViewState, IsBehind, IsPlaced}
use Rattle.lsv_iolog.specs.Inner.Scanning.{Scan}
use Rattle.lsv_iolog.proofs.Renewing.{later_behind, placed_anew}
use Rattle.lsv_iolog.proofs.view.LogView.renew.Goals as goal

pub returns-clause-later : goal.returns-clause-later
returns-clause-later g c told same was now rs more is cuts holds later given =
    let old : DiskView = g.D.Disk.view c.args.disk.now in
    let new : DiskView = g.D.Disk.view c.view_log.new.disk in
    let lines : Scan = c.self.inside.lines in
    let here : HoldsLog c.self.inside.number now old.reads = subst (λ (v : ViewState). HoldsLog v.number now old.reads) (sym c.self.view_is) holds in
    let given_in : lines.tally ≡ totals_of (map shape_of rs) = subst (λ (v : ViewState). v.given ≡ totals_of (map shape_of rs)) (sym c.self.view_is) given in
    let extra : c.in_ok-view.view.body.extra ≡ c.view.result.body.extra = c.if-view.false in
    let cuts_in : was.cuts ≡ c.in_ok-view.view.body.extra =
    subst (λ (v : ViewState). was.cuts ≡ v.body.extra) (sym c.self.view_is) cuts ∙ ap (λ (v : View). v.body.extra) (sym c.view.ensures) ∙ sym extra in
    subst (λ (l : Scan). IsBehind (record { number = c.self.inside.number; head = c.in_ok-view.head; body = l.view.body; given = l.tally; start = l.start; window = l.window }) rs new) (sym c.renew.ensures)
    (later_behind (record { number = c.self.inside.number; head = c.in_ok-view.head; body = c.in_ok-view.view.body; given = lines.tally; start = lines.tally.timing; window = [] })
    old new was now rs more (c.in_ok-view.ensures.entry told) (c.view_log.ensures.reads told) (c.in_ok-view.ensures.there told) is cuts_in here later given_in refl refl)

pub returns-clause-placed : goal.returns-clause-placed
returns-clause-placed g c told same =
    let new : DiskView = g.D.Disk.view c.view_log.new.disk in
    let lines : Scan = c.self.inside.lines in
    let not_more : c.timing.result ≤ c.committed.result = c.if-committed-timing.false in
    let fits : lines.tally.timing ≤ length_of c.in_ok-view.view.body Timing =
    subst (λ (n : ℕ). lines.tally.timing ≤ n) c.committed.ensures (subst (λ (n : ℕ). n ≤ c.committed.result) (c.timing.ensures ∙ ap (λ (t : Totals). t.timing) c.tally.ensures.tally) not_more) in
    subst (λ (l : Scan). IsPlaced (record { number = c.self.inside.number; head = c.in_ok-view.head; body = l.view.body; given = l.tally; start = l.start; window = l.window }) new) (sym c.renew.ensures)
    (placed_anew c.self.inside.number c.in_ok-view.head c.in_ok-view.view.body lines.tally new (c.in_ok-view.ensures.there told) fits)
