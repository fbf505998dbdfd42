-- An end over its link.
use Rattle.std.proofs.Common.{◌≡◌, ◌⊎◌, inl, inr, ⊎_elim, ℕ, Bool, true, false, List, [], ◌++◌, refl, sym, ap, subst, ◌∙◌, append_assoc}
use Rattle.std.proofs.lemmas.List.{append-nil}
use Rattle.lsv_defs.specs.Pieces.{IsPrefix}
use Rattle.lsv_port.specs.Port.{Changes, LinkState, PortState, TellsReadable, closed, is_over}
use Rattle.lsv_live.specs.declared.end.End.{End}
use Rattle.lsv_live.specs.Ends.{Alone, EndStands, EndStep, IsClosed, Writes}

pub alone_here : (l : ℕ) (s : PortState) → Alone l s s
alone_here l s = record { others = λ m ne. refl; opened = refl; stopped = refl; failed = refl }

pub alone_change : (l : ℕ) (now : LinkState) (s t : PortState) → Changes l now s t → Alone l s t
alone_change l now s t c = record { others = c.others; opened = c.opened; stopped = c.stopped; failed = c.failed }

pub alone_then : (l : ℕ) (s t u : PortState) → Alone l s t → Alone l t u → Alone l s u
alone_then l s t u x y = record { others = λ m ne. y.others m ne ∙ x.others m ne; opened = y.opened ∙ x.opened; stopped = y.stopped ∙ x.stopped; failed = y.failed ∙ x.failed }

pub prefix_more : (p w more : List ℕ) → IsPrefix p w → IsPrefix p (w ++ more)
prefix_more p w more h = (h.0 ++ more, ap (λ (x : List ℕ). x ++ more) h.1 ∙ append_assoc p h.0 more)

pub prefix_both : (p w more : List ℕ) → p ≡ w → IsPrefix (p ++ more) (w ++ more)
prefix_both p w more e = ([], sym (ap (λ (x : List ℕ). x ++ more) e) ∙ sym (append-nil (p ++ more)))

pub prefix_less : (p more w : List ℕ) → IsPrefix (p ++ more) w → IsPrefix p w
prefix_less p more w h = (more ++ h.0, h.1 ∙ append_assoc p more h.0)

-- something was said on it, and isn't put
pub stands_lost : (e new : End) (s : LinkState) (taken said more : List ℕ) → new ≡ record e { is_cut = true; unsent = new.unsent } → new.unsent ≡ e.unsent → EndStands e s taken said → EndStands new s taken (said ++ more)
stands_lost e new s taken said more is same h = subst (λ (x : End). EndStands x s taken (said ++ more)) (sym is) (record {
  is_open = h.is_open;
  owed = h.owed;
  late = h.late;
  paid = h.paid;
  broken = h.broken;
  heard = h.heard;
  all_heard = h.all_heard;
  put = subst (λ (x : List ℕ). IsPrefix (s.output ++ x) (said ++ more)) (sym same) (prefix_more (s.output ++ e.unsent) said more h.put);
  all_put = λ no. absurd cc;
  sent = λ no. same ∙ h.sent no;
  over = h.over;
  known = h.known;
  fails = h.fails;
})

-- something was said on it, and is to be put
pub stands_said : (e new : End) (s : LinkState) (taken said more : List ℕ) → e.is_cut ≡ false → e.is_open ≡ true → new ≡ record e { unsent = new.unsent } → new.unsent ≡ e.unsent ++ more → EndStands e s taken said → EndStands new s taken (said ++ more)
stands_said e new s taken said more cut here is same h =
    let all : s.output ++ new.unsent ≡ said ++ more = ap (λ (x : List ℕ). s.output ++ x) same ∙ sym (append_assoc s.output e.unsent more) ∙ ap (λ (x : List ℕ). x ++ more) (h.all_put cut) in
    subst (λ (x : End). EndStands x s taken (said ++ more)) (sym is) (record {
      is_open = h.is_open;
      owed = h.owed;
      late = h.late;
      paid = h.paid;
      broken = h.broken;
      heard = h.heard;
      all_heard = h.all_heard;
      put = ([], sym all ∙ sym (append-nil (s.output ++ new.unsent)));
      all_put = λ no. all;
      sent = λ no. absurd (let bad : true ≡ false = sym here ∙ no in cc);
      over = h.over;
      known = h.known;
      fails = h.fails;
    })

-- it was closed; owed, full, failed: whether it is so, of its link, when it was closed. gone, broke: it was known to be over, or to have failed, then
pub stands_closed : (e new : End) (s : LinkState) (owed full failed gone broke late : Bool) (taken said : List ℕ) → e.is_open ≡ true → IsClosed (record e { is_owed = owed; is_over = gone; is_broken = broke }) new → (s.ended ≡ true → owed ≡ false)
    → (gone ≡ true → (e.is_over ≡ true) ⊎ (failed ≡ true)) → ((s.ended ≡ true) ⊎ (failed ≡ true) → gone ≡ true) → (broke ≡ true → failed ≡ true)
    → EndStands e s taken said → EndStands new (closed late (record s { owed = owed; full = full; failed = failed })) taken said
stands_closed e new s owed full failed gone broke late taken said here c paid why knows fails h = record {
  is_open = sym c.is_open;
  owed = sym c.owed;
  late = λ no. absurd (let bad : true ≡ false = sym no ∙ c.is_open in cc);
  paid = paid;
  broken = λ no. c.is_open;
  heard = subst (λ (x : List ℕ). IsPrefix (taken ++ x) s.input) (sym c.rest) h.heard;
  all_heard = λ no. h.all_heard (sym c.missing ∙ no) ∙ ap (λ (x : List ℕ). taken ++ x) (sym c.rest);
  put = subst (λ (x : List ℕ). IsPrefix (s.output ++ x) said) (sym c.unsent) (subst (λ (x : List ℕ). IsPrefix x said) (sym (append-nil s.output)) (prefix_less s.output e.unsent said h.put));
  all_put = λ no. ⊎_elim
      (λ cut. absurd (let bad : true ≡ false = sym cut ∙ no in cc))
      (λ both. ap (λ (x : List ℕ). s.output ++ x) (c.unsent ∙ sym both.1) ∙ h.all_put (sym both.0 ∙ no)) c.cut;
  sent = λ no. c.unsent;
  over = λ is. ⊎_elim (λ was. ⊎_elim (λ x. inl x) (λ x. absurd (let shut : true ≡ false = sym here ∙ h.broken x in cc)) (h.over was)) (λ f. inr f) (why (sym c.over ∙ is));
  known = λ is. c.over ∙ knows is;
  fails = λ is. fails (sym c.broken ∙ is);
}

-- what was unsent was written
pub stands_wrote : (e new : End) (s t : LinkState) (taken said : List ℕ) → Writes e new s t → t.failed ≡ s.failed → (e.is_open ≡ true) → EndStands e s taken said → EndStands new t taken said
stands_wrote e new s t taken said w well here h = subst (λ (x : End). EndStands x t taken said) (sym w.is) (subst (λ (x : LinkState). EndStands (record e { unsent = new.unsent }) x taken said) (sym w.state) (record {
  is_open = h.is_open;
  owed = h.owed;
  late = h.late;
  paid = h.paid;
  broken = λ f. h.broken (sym well ∙ f);
  heard = h.heard;
  all_heard = h.all_heard;
  put = subst (λ (x : List ℕ). IsPrefix x said) (sym w.whole) h.put;
  all_put = λ no. w.whole ∙ h.all_put no;
  sent = λ no. absurd (let bad : true ≡ false = sym here ∙ no in cc);
  over = λ is. ⊎_elim (λ x. inl x) (λ f. inr (well ∙ f)) (h.over is);
  known = λ is. ⊎_elim (λ x. h.known (inl x)) (λ f. h.known (inr (sym well ∙ f))) is;
  fails = λ is. well ∙ h.fails is;
}))

-- a write failed, and it was closed
pub stands_broke : (e mid new : End) (s t : LinkState) (late : Bool) (taken said : List ℕ) → Writes e mid s t → t.failed ≡ true → e.is_open ≡ true → IsClosed (record mid { is_over = true; is_broken = true }) new → EndStands e s taken said → EndStands new (closed late t) taken said
stands_broke e mid new s t late taken said w failed here c h =
    let d : IsClosed (record (record e { unsent = mid.unsent }) { is_owed = e.is_owed; is_over = true; is_broken = true }) new = subst (λ (x : End). IsClosed (record x { is_over = true; is_broken = true }) new) w.is c in
    let was : EndStands (record e { unsent = mid.unsent }) (record s { output = t.output }) taken said = record {
      is_open = h.is_open;
      owed = h.owed;
      late = h.late;
      paid = h.paid;
      broken = h.broken;
      heard = h.heard;
      all_heard = h.all_heard;
      put = subst (λ (x : List ℕ). IsPrefix x said) (sym w.whole) h.put;
      all_put = λ no. w.whole ∙ h.all_put no;
      sent = λ no. absurd (let bad : true ≡ false = sym here ∙ no in cc);
      over = h.over;
      known = h.known;
      fails = h.fails;
    } in
    subst (λ (x : LinkState). EndStands new (closed late x) taken said) (sym w.state)
    (subst (λ (o : Bool). EndStands new (closed late (record s { output = t.output; full = t.full; failed = t.failed; owed = o })) taken said) (sym h.owed)
    (stands_closed (record e { unsent = mid.unsent }) new (record s { output = t.output }) e.is_owed t.full t.failed true true late taken said here d (λ e. sym h.owed ∙ h.paid e) (λ is. inr failed) (λ is. refl) (λ is. failed) was))

-- it was closed
pub end_closed : (e new : End) (s t : PortState) → e.is_open ≡ true → IsClosed e new → Changes e.number (closed (is_over s) (s.link e.number)) s t → EndStep e new s t
end_closed e new s t here c change = record {
  number = c.number;
  alone = alone_change e.number (closed (is_over s) (s.link e.number)) s t change;
  goes = λ taken said h.
      let k = s.link e.number in
      let d : IsClosed (record e { is_owed = k.owed; is_over = e.is_over; is_broken = e.is_broken }) new = record { number = c.number; is_open = c.is_open; owed = c.owed ∙ sym h.owed; over = c.over; broken = c.broken; deaf = c.deaf; missing = c.missing; rest = c.rest; unsent = c.unsent; cut = c.cut; whole = c.whole } in
      subst (λ (x : LinkState). EndStands new x taken said) (sym change.this) (stands_closed e new k k.owed k.full k.failed e.is_over e.is_broken (is_over s) taken said here d h.paid (λ is. inl is) h.known h.fails h);
}

-- bytes came and were kept
pub stands_fed : (e new : End) (s t : LinkState) (piece taken said : List ℕ) → t ≡ record s { input = s.input ++ piece; reads = t.reads } → new ≡ record e { rest = e.rest ++ piece } → e.is_missing ≡ false → EndStands e s taken said → EndStands new t taken said
stands_fed e new s t piece taken said at is whole h =
    let all : s.input ++ piece ≡ taken ++ (e.rest ++ piece) = ap (λ (x : List ℕ). x ++ piece) (h.all_heard whole) ∙ append_assoc taken e.rest piece in
    subst (λ (x : End). EndStands x t taken said) (sym is) (subst (λ (x : LinkState). EndStands (record e { rest = e.rest ++ piece }) x taken said) (sym at) (record {
      is_open = h.is_open;
      owed = h.owed;
      late = h.late;
      paid = h.paid;
      broken = h.broken;
      heard = ([], all ∙ sym (append-nil (taken ++ (e.rest ++ piece))));
      all_heard = λ no. all;
      put = h.put;
      all_put = h.all_put;
      sent = h.sent;
      over = h.over;
      known = h.known;
      fails = h.fails;
    }))

-- bytes came and were dropped
pub stands_dropped : (e new : End) (s t : LinkState) (piece taken said : List ℕ) → t ≡ record s { input = s.input ++ piece; reads = t.reads } → new ≡ record e { is_deaf = true; is_missing = true } → EndStands e s taken said → EndStands new t taken said
stands_dropped e new s t piece taken said at is h =
    subst (λ (x : End). EndStands x t taken said) (sym is) (subst (λ (x : LinkState). EndStands (record e { is_deaf = true; is_missing = true }) x taken said) (sym at) (record {
      is_open = h.is_open;
      owed = h.owed;
      late = h.late;
      paid = h.paid;
      broken = h.broken;
      heard = prefix_more (taken ++ e.rest) s.input piece h.heard;
      all_heard = λ no. absurd (let bad : true ≡ false = no in cc);
      put = h.put;
      all_put = h.all_put;
      sent = h.sent;
      over = h.over;
      known = h.known;
      fails = h.fails;
    }))

-- it is owed a read
stands_marked : (e : End) (k : LinkState) (taken said : List ℕ) → k.ended ≡ false → EndStands e k taken said → EndStands (record e { is_owed = true }) (record k { owed = true }) taken said
stands_marked e k taken said going h = record {
  is_open = h.is_open;
  owed = refl;
  late = h.late;
  paid = λ x. absurd (let bad : true ≡ false = sym x ∙ going in cc);
  broken = h.broken;
  heard = h.heard;
  all_heard = h.all_heard;
  put = h.put;
  all_put = h.all_put;
  sent = h.sent;
  over = h.over;
  known = h.known;
  fails = h.fails;
}

pub end_marked : (e new : End) (s t : PortState) → new ≡ record e { is_owed = new.is_owed } → (e.is_over ≡ false → new.is_owed ≡ true) → TellsReadable e.number s t → EndStep e new s t
end_marked e new s t is owed r = record {
  number = ap (λ (x : End). x.number) is;
  alone = alone_change e.number (record (s.link e.number) { owed = true }) s t r.change;
  goes = λ taken said h. subst (λ (x : LinkState). EndStands new x taken said) (sym r.change.this)
      (subst (λ (x : End). EndStands x (record (s.link e.number) { owed = true }) taken said) (sym (is ∙ ap (λ (o : Bool). record e { is_owed = o }) (owed (not_over e.is_over refl taken said h))))
      (stands_marked e (s.link e.number) taken said r.going h));
}
  where
    not_over : (b : Bool) → e.is_over ≡ b → (taken said : List ℕ) → EndStands e (s.link e.number) taken said → e.is_over ≡ false
    not_over false x taken said h = x
    not_over true x taken said h = absurd (⊎_elim (λ n. let bad : true ≡ false = sym n ∙ r.going in cc) (λ f. let bad : true ≡ false = sym r.is_open ∙ h.is_open ∙ h.broken f in cc) (h.over x))
