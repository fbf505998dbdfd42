-- What was done with the links of an endpoint that was stopped.
use Rattle.std.proofs.Common.{◌≡◌, ◌≢◌, ℕ, ◌<◌, ◌%◌, false, Option, Some, None, List, [], ◌∷◌, ◌++◌, refl, sym, ap, subst, ◌∙◌, append_assoc, append-nil}
use Rattle.std.specs.List.{All, Contains}
use Rattle.std.specs.Option.{unwrap_or}
use Rattle.lsv_defs.specs.Pieces.{IsPrefix}
use Rattle.lsv_port.specs.Ledger.{GoesOn}
use Rattle.lsv_port.specs.Port.{PortState}
use Rattle.lsv_session.specs.Transcript.{AreJobs, answers, bodies_of, frames_of, said_to}
use Rattle.lsv_session.specs.declared.connection.ConnId.{ConnId}
use Rattle.lsv_session.specs.declared.job.Body.{Body}
use Rattle.lsv_session.specs.declared.job.Job.{Job}
use Rattle.lsv_session.specs.declared.reply.Reply.{Reply}
use Rattle.lsv_session.proofs.Replies.{answers-append}
use Rattle.lsv_links.specs.Lanes.{lane_of, share}
use Rattle.lsv_links.specs.Links.{BringsSome, IsPut, PutsPrefixes, conn_of}
use Rattle.lsv_links.specs.Views.{PortView}
use Rattle.lsv_reactor.proofs.Deciding.{part_decides}
use Rattle.lsv_worker.specs.Incoming.{pending}
use Rattle.lsv_worker.specs.Lanes.{Routed, Routing, lane_on, lane_or_home}
use Rattle.lsv_worker.specs.Outgoing.{Sends}
use Rattle.lsv_worker.specs.Worker.{IsMade, Setting, Stands}
use Rattle.lsv_worker.specs.declared.link.Link.{Link}
use Rattle.lsv_worker.proofs.Speaking.{speaks_prefix}
use Rattle.lsv_endpoint.proofs.BodyLemmas.{hears_some}
use Rattle.lsv_endpoint.proofs.LinkLemmas.{away_of, few_in, known_in, share_other, share_own}
use Rattle.lsv_endpoint.proofs.SeatLemmas.{SeatOf, SeatOf.taken, SeatOf.free, seat_below, seat_of, seats_apart}

-- a prefix of the answers by the replies that were kept is one of those by all
prefix_kept : (c : ConnId) (output : List ℕ) (kept rest took : List Reply) → took ≡ kept ++ rest → IsPrefix output (answers c kept) → IsPrefix output (answers c took)
prefix_kept c output kept rest took is p =
    (p.0 ++ frames_of (said_to c rest), ap (answers c) is ∙ answers-append c kept rest ∙ ap (λ (l : List ℕ). l ++ frames_of (said_to c rest)) p.1 ∙ append_assoc output p.0 (frames_of (said_to c rest)))

-- nothing of a connection goes to another lane than its own
share_elsewhere : (lane : Option ℕ) (home m : ℕ) (said : List Body) → m ≢ unwrap_or lane home → share lane m said ≡ []
share_elsewhere None home m said ne = refl
share_elsewhere (Some n) home m said ne = share_other n m said ne

some_is : (a b : ℕ) → Some a ≡ Some b → a ≡ b
some_is a b e = cc

-- what went to the lane of a connection decides no other lane
own_lane : (route : Routing) (put : ℕ → List Body) (said coming : List Body) → Routed route put said coming → (n : ℕ) → lane_on route (put (lane_or_home route)) ≡ Some n → n ≡ lane_or_home route
own_lane route put said coming r n e = go route.lane refl
  where
    go : (o : Option ℕ) → route.lane ≡ o → n ≡ lane_or_home route
    go None is =
        let none : put (lane_or_home route) ≡ [] = r.to_lane (lane_or_home route) ∙ ap (λ (q : Option ℕ). share q (lane_or_home route) said) is in
        absurd (let no : None ≡ Some n = ap (lane_on route) (sym none) ∙ e in cc)
    go (Some m) is =
        let own : lane_or_home route ≡ m = ap (λ (q : Option ℕ). unwrap_or q route.home) is in
        let all : put (lane_or_home route) ≡ said = r.to_lane (lane_or_home route) ∙ (ap (λ (q : Option ℕ). share q (lane_or_home route) said) is ∙ (ap (λ (x : ℕ). share (Some m) x said) own ∙ share_own m said)) in
        let later : (l : ℕ) → lane_on route (said ++ coming) ≡ Some l → l ≡ lane_or_home route = λ l f. some_is l (lane_or_home route) (sym f ∙ (sym r.lane ∙ (is ∙ ap (λ (x : ℕ). Some x) (sym own)))) in
        part_decides route.lanes route.home (lane_or_home route) said (said ++ coming) (coming, refl) later n (ap (lane_on route) (sym all) ∙ e)

module _ (always : (bytes : List ℕ) → All (λ b. b < 256) bytes → (jobs : List Body) × AreJobs bytes jobs) (set : Setting) (links : List Link) (start now : PortView) (jobs : ℕ → List Job) (kept rest took : List Reply) (h : Stands set links now.state jobs kept)
    (unopened : start.state.opened ≡ []) (on : GoesOn start.ledger now.ledger) (is : took ≡ kept ++ rest) where
  -- the lane of a connection, or its home lane
  abbrev lane_at : ℕ → ℕ
  lane_at k = lane_or_home (h.last k).incoming.route

  brought : (k : ℕ) → IsMade set k → BringsSome (now.state.link (h.last k).number).input (bodies_of (conn_of set.number k) (jobs (lane_at k)))
  brought k m =
      let at = h.each k m in
      let s = now.state.link (h.last k).number in
      subst (λ (c : ConnId). BringsSome s.input (bodies_of c (jobs (lane_at k)))) (h.conn k m) (hears_some (h.last k).incoming s.input (λ lane. bodies_of (h.last k).conn (jobs lane)) at.marks (lane_at k) (always s.input at.small) at.inward)

  elsewhere : (k : ℕ) → IsMade set k → (n : ℕ) → n ≢ lane_at k → bodies_of (conn_of set.number k) (jobs n) ≡ []
  elsewhere k m n ne =
      let at = h.each k m in
      let route = (h.last k).incoming.route in
      subst (λ (c : ConnId). bodies_of c (jobs n) ≡ []) (h.conn k m) (at.inward.routed.to_lane n ∙ share_elsewhere route.lane route.home n at.inward.said ne)

  -- its jobs decide no other lane than its own
  decided : (k : ℕ) → IsMade set k → (n : ℕ) → lane_of set.lanes (k % set.lanes) (bodies_of (conn_of set.number k) (jobs (lane_at k))) ≡ Some n → n ≡ lane_at k
  decided k m n e =
      let at = h.each k m in
      let c = h.conn k m in
      let route = (h.last k).incoming.route in
      let lanes : route.lanes ≡ set.lanes = at.inward.homed.lanes ∙ at.home.lanes in
      let home : route.home ≡ k % set.lanes = at.inward.homed.home ∙ (at.home.home ∙ ap (λ (d : ConnId). d.seq % set.lanes) c) in
      let its : lane_of route.lanes route.home (bodies_of (h.last k).conn (jobs (lane_at k))) ≡ Some n =
      ap (λ (x : ℕ). lane_of x route.home (bodies_of (h.last k).conn (jobs (lane_at k)))) lanes ∙ (ap (λ (x : ℕ). lane_of set.lanes x (bodies_of (h.last k).conn (jobs (lane_at k)))) home
      ∙ (ap (λ (d : ConnId). lane_of set.lanes (k % set.lanes) (bodies_of d (jobs (lane_at k)))) c ∙ e)) in
      own_lane route (λ lane. bodies_of (h.last k).conn (jobs lane)) at.inward.said (pending (h.last k).incoming) at.inward.routed n its

  put_of : (k : ℕ) → IsMade set k → IsPut set.lanes set.number (h.last k).number (Some k) jobs (λ lane. took) now.state
  put_of k m =
      let link = h.last k in
      let s = now.state.link link.number in
      record {
        lane = lane_at k;
        decided = decided k m;
        brought = brought k m;
        elsewhere = elsewhere k m;
        prefix = prefix_kept (conn_of set.number k) s.output kept rest took is (speaks_prefix link.outgoing s.output (answers (conn_of set.number k) kept) (subst (λ (c : ConnId). Sends link.outgoing s.output (answers c kept)) (h.conn k m) (h.each k m).outward));
      }

  put_at : (l : ℕ) {o : Option ℕ} → SeatOf (λ k. (h.last k).number) l set.next o → Contains now.state.opened l → IsPut set.lanes set.number l o jobs (λ lane. took) now.state
  put_at l (taken k first below at) has = subst (λ (n : ℕ). IsPut set.lanes set.number n (Some k) jobs (λ lane. took) now.state) at (put_of k (record { first = first; below = below }))
  put_at l (free none) has = away_of set now.state l (h.away l has (λ k m. none k m.first m.below))

  pub puts_prefixes : ((l : ℕ) → (now.state.link l).is_open ≡ false) → PutsPrefixes set.lanes set.number jobs (λ lane. took) start now
  puts_prefixes closed = record {
    seats = record {
      opened = now.state.opened;
      are = sym (ap (λ (o : List ℕ). o ++ now.state.opened) unopened);
      seat = λ l. seat_below (λ k. (h.last k).number) l set.next;
      apart = λ l m k e f. seats_apart (λ j. (h.last j).number) set.next l m k e f;
      few = λ l has crowd. few_in set links now.state jobs kept h l crowd;
    };
    closed = closed;
    put = λ l has. put_at l (seat_of (λ k. (h.last k).number) l set.next) has;
    known = known_in set links now.state jobs kept h;
    goes_on = on;
  }
