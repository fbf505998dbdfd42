-- What of the one lane is said by lanes.
use Rattle.std.proofs.Common.{◌≡◌, ◌≢◌, ◌++◌, ◌∷◌, [], List, ℕ, zero, suc, Option, Some, None, true, refl, sym, ap, subst, ◌∙◌, append-nil}
use Rattle.std.specs.Prelude.{◌%◌}
use Rattle.std.proofs.Math.Path.{fun_ext}
use Rattle.lsv_defs.specs.Pieces.{IsPrefix}
use Rattle.lsv_port.specs.Port.{LinkState, PortState}
use Rattle.lsv_session.specs.Connections.{same}
use Rattle.lsv_session.specs.Transcript.{answers, bodies_of}
use Rattle.lsv_session.specs.declared.connection.ConnId.{ConnId}
use Rattle.lsv_session.specs.declared.job.Body.{Body}
use Rattle.lsv_session.specs.declared.job.Body.TheVariants.{Gone}
use Rattle.lsv_session.specs.declared.job.Job.{Job}
use Rattle.lsv_session.specs.declared.reply.Reply.{Reply}
use Rattle.lsv_session.specs.declared.reply.ReplyBody.TheVariants.{Shut}
use Rattle.lsv_turn.specs.Turns.{AreAsked, EndsWithGone, NoneFor, shuts}
use Rattle.lsv_links.specs.Lanes.{lane_of, one_lane}
use Rattle.lsv_links.specs.Links.{BringsSome, IsPut, IsServed, PutsPrefixes, ServesBy, ServesLink, ServesPort, ServesSome, conn_of}
use Rattle.lsv_links.specs.Views.{PortView}
use Rattle.lsv_reactor.specs.Endpoints.{AreAskedBy, Serves}

-- ---- Jobs

-- nothing of one lane
no_jobs_at : (lane : ℕ) → ◌≡◌ {A = List Job} (one_lane lane []) []
no_jobs_at zero = refl
no_jobs_at (suc lane) = refl

pub none_of_one : ◌≡◌ {A = ℕ → List Job} (λ lane. one_lane lane []) (λ lane. [])
none_of_one = fun_ext no_jobs_at

one_join : (lane : ℕ) (gave more : List Job) → one_lane lane gave ++ one_lane lane more ≡ one_lane lane (gave ++ more)
one_join zero gave more = refl
one_join (suc lane) gave more = refl

-- what was given, and what stands in the inbox
pub both_of_one : (gave more : List Job) → ◌≡◌ {A = ℕ → List Job} (λ lane. one_lane lane gave ++ one_lane lane more) (λ lane. one_lane lane (gave ++ more))
both_of_one gave more = fun_ext (λ lane. one_join lane gave more)

-- where nothing stands there
pub none_waits_there : (gave waits : List Job) → waits ≡ [] → ◌≡◌ {A = ℕ → List Job} (λ lane. one_lane lane gave ++ one_lane lane waits) (λ lane. one_lane lane gave)
none_waits_there gave waits none = both_of_one gave waits ∙ ap {B = ℕ → List Job} (λ (l : List Job). λ lane. one_lane lane l) (ap (λ (l : List Job). gave ++ l) none ∙ append-nil gave)

pub none_at : (waits : List Job) → waits ≡ [] → (lane : ℕ) → one_lane lane waits ≡ []
none_at waits none zero = none
none_at waits none (suc lane) = refl

-- ---- Who is asked

none_behind : (k : ConnId) (before after : List Reply) (r : Reply) → NoneFor k (before ++ r ∷ after) → NoneFor k after
none_behind k [] after r n = n.1
none_behind k (x ∷ before) after r n = none_behind k before after r n.1

-- the one lane replies to those who asked
pub asked_of_one : (jobs : List Job) (replies : List Reply) → AreAsked jobs replies → AreAskedBy (λ lane. one_lane lane jobs) replies
asked_of_one jobs replies a = record {
  asked = λ k none. a.asked k (none 0);
  behind = λ k lane before after r others ends are to shut. go k lane before after r others ends are to shut;
}
  where
    go : (k : ConnId) (lane : ℕ) (before after : List Reply) (r : Reply) → ((m : ℕ) → m ≢ lane → bodies_of k (one_lane m jobs) ≡ []) → EndsWithGone (bodies_of k (one_lane lane jobs)) → replies ≡ before ++ r ∷ after → same r.conn k ≡ true → r.body ≡ Shut → NoneFor k after
    go k zero before after r others ends are to shut = a.behind k before after r ends are to shut
    go k (suc lane) before after r others ends are to shut = none_behind k before after r (subst (NoneFor k) are (a.asked k (others 0 (λ e. cc))))

-- ---- A port that was served

not_none : (xs ys : List Body) → xs ++ (ys ++ Gone ∷ []) ≡ [] → ⊥
not_none [] [] e = cc
not_none [] (y ∷ ys) e = cc
not_none (x ∷ xs) ys e = cc

link_of_one : (k : ConnId) (l : ℕ) (jobs : List Job) (took : List Reply) (old new : PortView) → ServesLink (λ lane. AreAskedBy (λ m. one_lane m jobs) took) 1 k l (λ lane. one_lane lane jobs) (λ lane. took) old new
    → ServesLink (λ lane. AreAsked jobs took) 1 k l (λ lane. one_lane lane jobs) (λ lane. one_lane lane took) old new
link_of_one k l jobs took old new s = go s.lane s.decided s.elsewhere s.by_lane
  where
    go : (lane : ℕ) → lane_of 1 (k.seq % 1) (bodies_of k (one_lane lane jobs)) ≡ Some lane → ((m : ℕ) → m ≢ lane → bodies_of k (one_lane m jobs) ≡ [])
        → ServesBy (AreAskedBy (λ m. one_lane m jobs) took) k l (one_lane lane jobs) took old new → ServesLink (λ m. AreAsked jobs took) 1 k l (λ m. one_lane m jobs) (λ m. one_lane m took) old new
    go zero decided elsewhere by = record {
      lane = 0;
      decided = decided;
      elsewhere = elsewhere;
      by_lane = record { brings = by.brings; cause = by.cause; paid = by.paid; prefix = by.prefix; puts = λ asks. by.puts (asked_of_one jobs took asks) };
    }
    go (suc lane) decided elsewhere by = absurd (not_none by.brings.heard by.brings.starved (sym by.brings.are))

served_of_one : (w l : ℕ) (seat : Option ℕ) (jobs : List Job) (took : List Reply) (old new : PortView) → IsServed (λ lane. AreAskedBy (λ m. one_lane m jobs) took) 1 w l seat (λ lane. one_lane lane jobs) (λ lane. took) old new
    → IsServed (λ lane. AreAsked jobs took) 1 w l seat (λ lane. one_lane lane jobs) (λ lane. one_lane lane took) old new
served_of_one w l None jobs took old new s = s
served_of_one w l (Some seq) jobs took old new s = link_of_one (conn_of w seq) l jobs took old new s

-- by the one lane's replies
pub serves_of_one : (w : ℕ) (jobs : List Job) (took : List Reply) (old new : PortView) → Serves 1 w (λ lane. one_lane lane jobs) took old new → ServesPort (λ lane. AreAsked jobs took) 1 w (λ lane. one_lane lane jobs) (λ lane. one_lane lane took) old new
serves_of_one w jobs took old new s = record {
  seats = s.seats;
  closed = s.closed;
  served = λ l is. served_of_one w l (s.seats.seat l) jobs took old new (s.served l is);
  known = s.known;
  over = s.over;
  goes_on = s.goes_on;
}

-- ---- A port whose links were served up to some point

none_decided : (n : ℕ) → ◌≡◌ {A = Option ℕ} None (Some n) → ⊥
none_decided n e = cc

some_of_one : (k : ConnId) (link : LinkState) (jobs : List Job) (took : List Reply) → ServesSome 1 k link (λ lane. one_lane lane jobs) (λ lane. took) → ServesSome 1 k link (λ lane. one_lane lane jobs) (λ lane. one_lane lane took)
some_of_one k link jobs took s = go s.lane s.decided s.brought s.elsewhere s.prefix
  where
    go : (lane : ℕ) → ((n : ℕ) → lane_of 1 (k.seq % 1) (bodies_of k (one_lane lane jobs)) ≡ Some n → n ≡ lane) → BringsSome link.input (bodies_of k (one_lane lane jobs)) → ((m : ℕ) → m ≢ lane → bodies_of k (one_lane m jobs) ≡ []) → IsPrefix link.output (answers k took) → ServesSome 1 k link (λ m. one_lane m jobs) (λ m. one_lane m took)
    go zero decided brought elsewhere prefix = record { lane = 0; decided = decided; brought = brought; elsewhere = elsewhere; prefix = prefix }
    go (suc lane) decided brought elsewhere prefix = record {
      lane = 0;
      decided = λ n e. absurd (none_decided n (sym (ap (lane_of 1 (k.seq % 1)) (elsewhere 0 (λ e. cc))) ∙ e));
      brought = subst (BringsSome link.input) (sym (elsewhere 0 (λ e. cc))) brought;
      elsewhere = λ m ne. other m ne;
      prefix = prefix;
    }
      where
        other : (m : ℕ) → m ≢ 0 → bodies_of k (one_lane m jobs) ≡ []
        other zero ne = absurd (ne refl)
        other (suc m) ne = refl

put_of_one : (w l : ℕ) (seat : Option ℕ) (jobs : List Job) (took : List Reply) (port : PortState) → IsPut 1 w l seat (λ lane. one_lane lane jobs) (λ lane. took) port → IsPut 1 w l seat (λ lane. one_lane lane jobs) (λ lane. one_lane lane took) port
put_of_one w l None jobs took port p = p
put_of_one w l (Some seq) jobs took port p = some_of_one (conn_of w seq) (port.link l) jobs took p

pub puts_of_one : (w : ℕ) (jobs : List Job) (took : List Reply) (old new : PortView) → PutsPrefixes 1 w (λ lane. one_lane lane jobs) (λ lane. took) old new → PutsPrefixes 1 w (λ lane. one_lane lane jobs) (λ lane. one_lane lane took) old new
puts_of_one w jobs took old new p = record {
  seats = p.seats;
  closed = p.closed;
  put = λ l is. put_of_one w l (p.seats.seat l) jobs took new.state (p.put l is);
  known = p.known;
  goes_on = p.goes_on;
}
