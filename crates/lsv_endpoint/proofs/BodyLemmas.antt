-- What a connection brought, told without why it ended.
use Rattle.std.proofs.Common.{◌≡◌, ◌≢◌, ℕ, zero, suc, ◌+◌, ◌<◌, ◌==◌, if◌then◌else◌, Bool, true, false, Option, Some, None, List, [], ◌∷◌, ◌++◌, length, refl, sym, ap, subst, ◌∙◌, append_assoc, inl, inr, ⊎_elim, arith}
use Rattle.std.proofs.lemmas.List.{append-nil, length-append}
use Rattle.lsv_wire.specs.Frame.{IsPartial}
use Rattle.lsv_wire.specs.declared.framing.TheConstants.{FRAME_LIMIT}
use Rattle.lsv_session.specs.Transcript.{AreAllJobs, AreFirst, AreJobs, HasCut}
use Rattle.lsv_session.specs.Transcript.AreJobs.{Rest, Message, NoMessage, TooLong}
use Rattle.lsv_session.specs.declared.job.Body.{Body}
use Rattle.lsv_session.specs.declared.job.Body.TheVariants.{Msg, Gone}
use Rattle.lsv_session.proofs.Jobs.{cut_message, cut_nothing}
use Rattle.lsv_turn.specs.Turns.{EndsWithGone}
use Rattle.lsv_links.specs.Lanes.{share}
use Rattle.lsv_links.proofs.PrefixLemmas.{brings_first}
use Rattle.lsv_links.specs.Links.{AtMostStarved, Brings, BringsSome, is_bad, was_bad}
use Rattle.lsv_worker.specs.Incoming.{AreBodies, Heard, Receives, IsWhole, Marks, is_shut, last_words, pending}
use Rattle.lsv_worker.specs.declared.incoming.Incoming.{Incoming}
use Rattle.lsv_worker.specs.declared.incoming.Stage.{Stage}
use Rattle.lsv_worker.specs.declared.incoming.Stage.TheVariants.{Open, Draining, OutOfMemory, Closing, Closed}
use Rattle.lsv_worker.specs.declared.incoming.Why.{Why}
use Rattle.lsv_worker.specs.declared.incoming.Why.TheVariants.{Ended, Refused, Shut, NoMemory}
use Rattle.lsv_endpoint.proofs.BoolLemmas.{or_front, or_later, true_or}

-- ---- The end is the last of a connection's jobs

-- no end is among these
abbrev pub HasNoGone : List Body → Type 0
HasNoGone [] = Unit {0}
HasNoGone (b ∷ bodies) = (b ≢ Gone) × HasNoGone bodies

no_gone : {bytes : List ℕ} {jobs : List Body} → AreJobs bytes jobs → HasNoGone jobs
no_gone (Rest b p) = tt
no_gone (Message b m rest read later front is j) = ((λ e. absurd cc), no_gone j)
no_gone (NoMessage b m rest fault front is) = ((λ e. absurd cc), tt)
no_gone (TooLong b n long) = ((λ e. absurd cc), tt)

no_gone_front : (xs ys : List Body) → HasNoGone (xs ++ ys) → HasNoGone xs
no_gone_front [] ys n = tt
no_gone_front (x ∷ xs) ys n = (n.0, no_gone_front xs ys n.1)

no_gone_both : (xs ys : List Body) → HasNoGone xs → HasNoGone ys → HasNoGone (xs ++ ys)
no_gone_both [] ys n m = m
no_gone_both (x ∷ xs) ys n m = (n.0, no_gone_both xs ys n.1 m)

no_gone_last : (why : Why) → HasNoGone (last_words why)
no_gone_last Ended = tt
no_gone_last Refused = tt
no_gone_last Shut = tt
no_gone_last NoMemory = ((λ e. absurd cc), tt)

ends_behind : (xs : List Body) → HasNoGone xs → EndsWithGone (xs ++ Gone ∷ [])
ends_behind [] n = ((λ e. refl), tt)
ends_behind (x ∷ xs) n = ((λ e. absurd (n.0 e)), ends_behind xs n.1)

-- ---- A refused frame leaves its mark

-- the bytes were cut into these jobs, up to a part of a frame
record CutUp (read : List ℕ) (said : List Body) : Type 0 where
  rest : List ℕ
  cut : HasCut read said rest
  partial : IsPartial rest

cut_up : (read said : _) {rest : List ℕ} {later : List Body} → HasCut read said rest → AreJobs rest later → was_bad later ≡ false → CutUp read (said ++ later)
cut_up read said h (Rest b p) ok = record { rest = b; cut = subst (λ (s : List Body). HasCut read s b) (sym (append-nil said)) h; partial = p }
cut_up read said h (Message b m behind message later front is j) ok =
    subst (CutUp read) (append_assoc said (Msg message ∷ []) later) (cut_up read (said ++ Msg message ∷ []) (cut_message read b m behind said message h front is) j ok)
cut_up read said h (NoMessage b m behind fault front is) ok = absurd (cc)
cut_up read said h (TooLong b n long) ok = absurd (cc)

-- some bytes, this many
far : (n : ℕ) → (more : List ℕ) × (length more ≡ n)
far zero = ([], refl)
far (suc n) = let less = far n in (0 ∷ less.0, ap (λ (k : ℕ). suc k) less.1)

partial_short : (bytes : List ℕ) → IsPartial bytes → length bytes < 4 + FRAME_LIMIT
partial_short bytes p = ⊎_elim (λ few. omega arith) (λ cut. omega (arith, cut.within, cut.missing)) p

not_partial : (rest more : List ℕ) → length more ≡ 4 + FRAME_LIMIT → IsPartial (rest ++ more) → ⊥
not_partial rest more long p = let short = partial_short (rest ++ more) p in omega (arith, short, long, length-append rest more)

none_later : (xs ys : List Body) → xs ≡ xs ++ ys → ys ≡ []
none_later [] ys e = sym e
none_later (x ∷ xs) ys e = none_later xs ys (cc)

only_partial : {bytes : List ℕ} {jobs : List Body} → AreJobs bytes jobs → jobs ≡ [] → IsPartial bytes
only_partial (Rest b p) e = p
only_partial (Message b m rest read later front is j) e = absurd (cc)
only_partial (NoMessage b m rest fault front is) e = absurd (cc)
only_partial (TooLong b n long) e = absurd (cc)

goes_bad : (read heard : _) → AreAllJobs read heard → was_bad heard ≡ false → ⊥
goes_bad read heard all ok =
    let now : AreJobs read heard = subst (λ (b : List ℕ). AreJobs b heard) (append-nil read) (all []) in
    let up : CutUp read heard = cut_up read [] (cut_nothing read) now ok in
    let more = far (4 + FRAME_LIMIT) in
    let began = up.cut.began more.0 heard (all more.0) in
    not_partial up.rest more.0 more.1 (only_partial began.2 (none_later heard began.0 began.1))

-- jobs that are all, however the bytes go on, end with a fault
pub all_bad : (read heard : _) → AreAllJobs read heard → was_bad heard ≡ true
all_bad read heard all = true_or (was_bad heard) (goes_bad read heard all)

pub bad_front : (xs ys : List Body) → was_bad xs ≡ true → was_bad (xs ++ ys) ≡ true
bad_front [] ys e = absurd (cc)
bad_front (x ∷ xs) ys e = or_front (is_bad x) (was_bad xs) (was_bad (xs ++ ys)) (bad_front xs ys) e

pub bad_behind : (xs ys : List Body) → was_bad ys ≡ true → was_bad (xs ++ ys) ≡ true
bad_behind [] ys e = e
bad_behind (x ∷ xs) ys e = or_later (is_bad x) (was_bad (xs ++ ys)) (bad_behind xs ys e)

-- ---- The jobs of the bytes

-- these were heard of the bytes: the first of their jobs, or all of them
record HeardOf (why : Why) (read : List ℕ) (heard : List Body) : Type 0 where
  jobs : List Body
  of_input : AreJobs read jobs
  first : AreFirst heard jobs
  whole : is_shut why ≡ false → last_words why ≡ [] → heard ≡ jobs

heard_all : (why : Why) (read : List ℕ) (heard : List Body) → AreJobs read heard → HeardOf why read heard
heard_all why read heard now = record { jobs = heard; of_input = now; first = ([], sym (append-nil heard)); whole = λ a b. refl }

heard_first : (why : Why) (read : List ℕ) (heard jobs : List Body) → ((more : List ℕ) (all : List Body) → AreJobs (read ++ more) all → AreFirst heard all) → AreJobs read jobs → (is_shut why ≡ false → last_words why ≡ [] → ⊥) → HeardOf why read heard
heard_first why read heard jobs begins is not = record {
  jobs = jobs;
  of_input = is;
  first = begins [] jobs (subst (λ (b : List ℕ). AreJobs b jobs) (sym (append-nil read)) is);
  whole = λ a b. absurd (not a b);
}

heard_of : (why : Why) (read : List ℕ) (heard : List Body) → (jobs : List Body) × AreJobs read jobs → Heard why read heard → HeardOf why read heard
heard_of Ended read heard some h = heard_all Ended read heard h
heard_of Refused read heard some h = heard_all Refused read heard (subst (λ (b : List ℕ). AreJobs b heard) (append-nil read) (h []))
heard_of Shut read heard some h = heard_first Shut read heard some.0 h some.1 (λ a b. cc)
heard_of NoMemory read heard some h = heard_first NoMemory read heard some.0 h some.1 (λ a b. cc)

at_most : (why : Why) → AtMostStarved (last_words why)
at_most Ended = inl refl
at_most Refused = inl refl
at_most Shut = inl refl
at_most NoMemory = inr refl

-- what was put of a connection that ended so is what it brought; shut: it was shut
pub brings : (why : Why) (read : List ℕ) (shut : Bool) (bodies : List Body) → (jobs : List Body) × AreJobs read jobs → IsWhole why read bodies → (is_shut why ≡ true → shut ≡ true) → Brings read shut bodies
brings why read shut bodies some h was =
    let of = heard_of why read h.heard some h.are in
    record {
      heard = h.heard;
      starved = last_words why;
      are = h.whole;
      at_most = at_most why;
      jobs = of.jobs;
      of_input = of.of_input;
      first = of.first;
      whole = λ unshut none. of.whole (not_shut why shut was unshut) none;
    }
  where
    not_shut : (why : Why) (shut : Bool) → (is_shut why ≡ true → shut ≡ true) → shut ≡ false → is_shut why ≡ false
    not_shut Ended shut was e = refl
    not_shut Refused shut was e = refl
    not_shut Shut shut was e = absurd (let yes = was refl in cc)
    not_shut NoMemory shut was e = refl

-- so is what a connection brings that ends so
whole_some : (why : Why) (read : List ℕ) (bodies : List Body) → (jobs : List Body) × AreJobs read jobs → IsWhole why read bodies → BringsSome read bodies
whole_some why read bodies some h =
    let of = heard_of why read h.heard some h.are in
    record {
      heard = h.heard;
      starved = last_words why;
      first = ([], sym h.whole ∙ sym (append-nil bodies));
      at_most = at_most why;
      jobs = of.jobs;
      of_input = of.of_input;
      of_jobs = of.first;
    }

-- and what was cut so far
cut_some : (read rest bodies : _) → (jobs : List Body) × AreJobs read jobs → HasCut read bodies rest → BringsSome read bodies
cut_some read rest bodies some h =
    let began = h.began [] some.0 (subst (λ (b : List ℕ). AreJobs b some.0) (sym (append-nil read)) some.1) in
    record {
      heard = bodies;
      starved = [];
      first = (Gone ∷ [], refl);
      at_most = inl refl;
      jobs = some.0;
      of_input = some.1;
      of_jobs = (began.0, began.1);
    }

stage_some : (stage : Stage) (read rest : List ℕ) (bodies : List Body) → (jobs : List Body) × AreJobs read jobs → AreBodies stage read rest bodies → BringsSome read bodies
stage_some Open read rest bodies some h = cut_some read rest bodies some h
stage_some Draining read rest bodies some h = cut_some read rest bodies some h
stage_some OutOfMemory read rest bodies some h = whole_some NoMemory read bodies some h
stage_some (Closing why) read rest bodies some h = whole_some why read bodies some h
stage_some (Closed why) read rest bodies some h = whole_some why read bodies some h

first_if : (b : Bool) (said : List Body) → AreFirst (if b then said else []) said
first_if true said = ([], sym (append-nil said))
first_if false said = (said, refl)

share_first : (at : Option ℕ) (lane : ℕ) (said : List Body) → AreFirst (share at lane said) said
share_first None lane said = (said, refl)
share_first (Some n) lane said = first_if (lane == n) said

-- what was put of a connection to a lane is the first of what it brings
pub hears_some : (link : Incoming) (read : List ℕ) (put : ℕ → List Body) (marks : Marks) (lane : ℕ) → (jobs : List Body) × AreJobs read jobs → Receives link read put marks → BringsSome read (put lane)
hears_some link read put marks lane some h =
    let part = share_first link.route.lane lane h.said in
    subst (BringsSome read) (sym (h.routed.to_lane lane))
    (brings_first read (share link.route.lane lane h.said) (h.said ++ pending link) (part.0 ++ pending link, ap (λ (l : List Body). l ++ pending link) part.1 ∙ append_assoc (share link.route.lane lane h.said) part.0 (pending link))
    (stage_some link.stage read link.rest (h.said ++ pending link) some h.bodies))

-- and its end is the last of it
pub ends_whole : (why : Why) (read : List ℕ) (bodies : List Body) → (jobs : List Body) × AreJobs read jobs → IsWhole why read bodies → EndsWithGone bodies
ends_whole why read bodies some h =
    let of = heard_of why read h.heard some h.are in
    let heard : HasNoGone h.heard = no_gone_front h.heard of.first.0 (subst HasNoGone of.first.1 (no_gone of.of_input)) in
    subst EndsWithGone (append_assoc h.heard (last_words why) (Gone ∷ []) ∙ sym h.whole) (ends_behind (h.heard ++ last_words why) (no_gone_both h.heard (last_words why) heard (no_gone_last why)))
