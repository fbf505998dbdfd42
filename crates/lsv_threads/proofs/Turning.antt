-- What a step makes of a lane's side.
use Rattle.std.proofs.Common.{◌≡◌, ℕ, ◌+◌, ◌<◌, ◌≤◌, true, false, Some, None, List, [], ◌∷◌, ◌++◌, set, length, refl, sym, ap, ◌∙◌, subst, append-nil, append_assoc, arith}
use Rattle.std.specs.Prelude.{◌==◌, slice_get}
use Rattle.std.proofs.lemmas.List.{length-append, length-set}
use Rattle.std.proofs.lemmas.Grind.{flat_map-append}
use Rattle.atomic_table.specs.Seated.{TableId}
use Rattle.lsv_queue.specs.Order.{after_body}
use Rattle.lsv_queue.specs.Passes.{items_of}
use Rattle.lsv_queue.specs.Settled.{puts_at}
use Rattle.lsv_queue.specs.declared.queue.InPass.{InPass}
use Rattle.lsv_queue.specs.declared.queue.OutPass.{OutPass}
use Rattle.lsv_queue.specs.declared.queue.Queue.{Queue}
use Rattle.lsv_session.specs.Transcript.{bodies_of}
use Rattle.lsv_session.specs.declared.connection.ConnId.{ConnId}
use Rattle.lsv_session.specs.declared.job.Job.{Job}
use Rattle.lsv_session.specs.declared.reply.Reply.{Reply}
use Rattle.lsv_session.proofs.Replies.{bodies_of-append}
use Rattle.lsv_links.specs.Turns.{replies_to}
use Rattle.lsv_turn.specs.Turns.{AreAskedIn, AreTaken, IsTaken, IsToThese, LaneTurn, NoneFor, jobs_in, replies_in}
use Rattle.lsv_turn.specs.declared.lane.Lane
use Rattle.lsv_threads.specs.Rows.{ArePasses, Gives}
use Rattle.lsv_threads.specs.LaneSides.{IsFrom, IsTurning, Turned, gap_of}
use Rattle.lsv_threads.specs.declared.lane_side.LaneSide.{LaneSide}
use Rattle.lsv_threads.proofs.Hearing.{EqOr.equal, EqOr.unequal, eq_or, replies_append}
use Rattle.lsv_threads.proofs.Rowing.{passes_ended, puts_ended}

pub no_jobs : (n : ℕ) (jobs : List Job) → n ≡ length jobs → true ≡ (n == 0) → jobs ≡ []
no_jobs n [] is e = refl
no_jobs n (x ∷ jobs) is e = elim (eq_or n 0) [
  | equal p t ↦ absurd (omega arith)
  | unequal ne t ↦ absurd (cc)
]

-- ---- One turn more

pub jobs_push : (ts : List LaneTurn) (t : LaneTurn) → jobs_in (ts ++ t ∷ []) ≡ jobs_in ts ++ t.jobs
jobs_push ts t = flat_map-append (λ (u : LaneTurn). u.jobs) ts (t ∷ []) ∙ ap (λ z. jobs_in ts ++ z) (append-nil t.jobs)

pub replies_push : (ts : List LaneTurn) (t : LaneTurn) → replies_in (ts ++ t ∷ []) ≡ replies_in ts ++ t.replies
replies_push ts t = flat_map-append (λ (u : LaneTurn). u.replies) ts (t ∷ []) ∙ ap (λ z. replies_in ts ++ z) (append-nil t.replies)

module _ (queue : TableId) where
  pub turns_push : (n : ℕ) (ts : List LaneTurn) (t : LaneTurn) → AreTaken queue n ts → IsTaken queue (n + length (jobs_in ts)) t → AreTaken queue n (ts ++ t ∷ [])
  turns_push n [] t h is = (subst (λ (k : ℕ). IsTaken queue k t) (omega arith) is, tt)
  turns_push n (u ∷ us) t h is = (h.0, turns_push (n + length u.jobs) us t h.1 (subst (λ (k : ℕ). IsTaken queue k t) (let e = length-append u.jobs (jobs_in us) in omega arith) is))

-- the first of two lists without an element has none, and so the other
pub both_none : {A : Type 0} (xs ys : List A) → xs ++ ys ≡ [] → (xs ≡ []) × (ys ≡ [])
both_none [] ys e = (refl, e)
both_none (x ∷ xs) ys e = absurd cc

none_append : (k : ConnId) (xs ys : List Reply) → NoneFor k xs → NoneFor k ys → NoneFor k (xs ++ ys)
none_append k [] ys h i = i
none_append k (x ∷ xs) ys h i = (h.0, none_append k xs ys h.1 i)

pub to_these_push : (ts : List LaneTurn) (t : LaneTurn) → IsToThese (jobs_in ts) (replies_in ts) → IsToThese t.jobs t.replies → IsToThese (jobs_in (ts ++ t ∷ [])) (replies_in (ts ++ t ∷ []))
to_these_push ts t olds new k e =
    let split : bodies_of k (jobs_in (ts ++ t ∷ [])) ≡ bodies_of k (jobs_in ts) ++ bodies_of k t.jobs = ap (bodies_of k) (jobs_push ts t) ∙ bodies_of-append k (jobs_in ts) t.jobs in
    let none = both_none (bodies_of k (jobs_in ts)) (bodies_of k t.jobs) (sym split ∙ e) in
    subst (λ (rs : List Reply). NoneFor k rs) (sym (replies_push ts t)) (none_append k (replies_in ts) t.replies (olds k none.0) (new k none.1))

abbrev pub with_taken : {L : Type 0} (side : LaneSide L) (taken : OutPass Job) → LaneSide L
with_taken {L} side taken = record { lane = side.lane; number = side.number; taken = taken; given = side.given; ended = side.ended; failed = side.failed }

module _ {L : Type 0} (words : Lane.Ghosts L) (outs : List (Queue Reply)) where
  -- jobs were taken
  turned_taken : (start : words.Start) (side : LaneSide L) (taken : OutPass Job) (jobs : List Job) → taken.queue ≡ side.taken.queue → items_of taken.taken.got ≡ items_of side.taken.taken.got ++ jobs → Turned words start side [] → Turned words start (with_taken side taken) jobs
  turned_taken start side taken jobs queue more t = record {
    turns = t.turns;
    dropped = t.dropped;
    made = t.made;
    are = subst (λ (q : TableId). AreTaken q 0 t.turns) (sym queue) t.are;
    to_these = t.to_these;
    asked = t.asked;
    jobs = more ∙ (ap (λ l. l ++ jobs) (t.jobs ∙ ap (λ l. jobs_in t.turns ++ l) (append-nil t.dropped)) ∙ append_assoc (jobs_in t.turns) t.dropped jobs);
    none = t.none;
    gave = t.gave;
  }

  pub from_taken : (first side : LaneSide L) (taken : OutPass Job) (jobs : List Job) → taken.queue ≡ side.taken.queue → taken.taken.joined ≡ side.taken.taken.joined → items_of taken.taken.got ≡ items_of side.taken.taken.got ++ jobs
      → IsFrom words outs first side → IsTurning words outs first (with_taken side taken) jobs
  from_taken first side taken jobs queue joined more from = record {
    number_is = from.number_is;
    passes = from.passes;
    queue = queue ∙ from.queue;
    joined = joined ∙ from.joined;
    begun = (from.begun.0, turned_taken from.begun.0 side taken jobs queue more from.begun.1);
    turned = λ start t. turned_taken start side taken jobs queue more (from.turned start t);
  }

  -- memory ran out, or had: jobs are dropped
  module _ (side new : LaneSide L) (number : new.number ≡ side.number) (jobs : List Job) (failed : new.failed ≡ true) (made : (start : words.Start) (turns : List LaneTurn) → words.made_by start side.lane turns → words.made_by start new.lane turns)
      (given : new.given.items ≡ side.given.items) (ended : new.ended ≡ side.ended) (taken : new.taken ≡ side.taken) where
    turned_dropped : (start : words.Start) → Turned words start side jobs → Turned words start new []
    turned_dropped start t = record {
      turns = t.turns;
      dropped = t.dropped ++ jobs;
      made = made start t.turns t.made;
      are = subst (λ (o : OutPass Job). AreTaken o.queue 0 t.turns) (sym taken) t.are;
      to_these = t.to_these;
      asked = t.asked;
      jobs = ap (λ (o : OutPass Job). items_of o.taken.got) taken ∙ (t.jobs ∙ ap (λ l. jobs_in t.turns ++ l) (sym (append-nil (t.dropped ++ jobs))));
      none = λ e. absurd (let no = sym failed ∙ e in cc);
      gave = λ w less. ap (λ l. puts_at l w) given ∙ t.gave w (let e = ap length given in omega arith);
    }

    pub from_dropped : (first : LaneSide L) → IsTurning words outs first side jobs → IsFrom words outs first new
    from_dropped first from = record {
      number_is = number ∙ from.number_is;
      passes = subst (λ (n : ℕ). ArePasses outs first.given.items new.given.items n) (sym ended) (subst (λ (l : List (InPass Reply)). ArePasses outs first.given.items l side.ended) (sym given) from.passes);
      queue = ap (λ (o : OutPass Job). o.queue) taken ∙ from.queue;
      joined = ap (λ (o : OutPass Job). o.taken.joined) taken ∙ from.joined;
      begun = (from.begun.0, turned_dropped from.begun.0 from.begun.1);
      turned = λ start t. turned_dropped start (from.turned start t);
    }

  -- a turn of these jobs was made, and its replies given
  module _ (side new : LaneSide L) (number : new.number ≡ side.number) (turn : LaneTurn) (going : side.failed ≡ false) (taken : new.taken ≡ side.taken) (some : 1 ≤ length turn.jobs) (most : length turn.jobs ≤ 256)
      (gap : length turn.jobs < 256 → turn.gap ≡ Some (gap_of side.taken)) (gives : Gives outs side.given.items new.given.items turn.replies)
      (made : (start : words.Start) (turns : List LaneTurn) → words.made_by start side.lane turns → words.made_by start new.lane (turns ++ turn ∷ []))
      (to_these : IsToThese turn.jobs turn.replies) (asked : words.tells → (start : words.Start) (turns : List LaneTurn) → words.made_by start side.lane turns → AreAskedIn (turns ++ turn ∷ [])) where
    turned_turn : (start : words.Start) → Turned words start side turn.jobs → Turned words start new []
    turned_turn start t =
        let all : items_of side.taken.taken.got ≡ jobs_in t.turns ++ turn.jobs = t.jobs ∙ ap (λ d. jobs_in t.turns ++ (d ++ turn.jobs)) (t.none going) in record {
          turns = t.turns ++ turn ∷ [];
          dropped = [];
          made = made start t.turns t.made;
          are = subst (λ (o : OutPass Job). AreTaken o.queue 0 (t.turns ++ turn ∷ [])) (sym taken) (turns_push side.taken.queue 0 t.turns turn t.are (record {
            some = some;
            most = most;
            gap = λ few. gap few ∙ ap (λ (n : ℕ). Some (record { queue = side.taken.queue; at = n })) (let e = ap length all in let f = length-append (jobs_in t.turns) turn.jobs in omega arith);
          }));
          to_these = to_these_push t.turns turn t.to_these to_these;
          asked = λ told. asked told start t.turns t.made;
          jobs = ap (λ (o : OutPass Job). items_of o.taken.got) taken ∙ (all ∙ (sym (jobs_push t.turns turn) ∙ sym (append-nil (jobs_in (t.turns ++ turn ∷ [])))));
          none = λ e. refl;
          gave = λ w less.
              let low : w < length side.given.items = let s = gives.size in omega arith in
              gives.puts w low ∙ (ap (λ l. l ++ replies_to w turn.replies) (t.gave w low) ∙ (sym (replies_append w (replies_in t.turns) turn.replies) ∙ ap (replies_to w) (sym (replies_push t.turns turn))));
        }

    pub from_turn : (first : LaneSide L) → side.ended ≡ 0 → new.ended ≡ side.ended → IsTurning words outs first side turn.jobs → IsFrom words outs first new
    from_turn first none ended from = record {
      number_is = number ∙ from.number_is;
      passes = subst (λ (n : ℕ). ArePasses outs first.given.items new.given.items n) (sym (ended ∙ none)) (gives.passes first.given.items (subst (λ (n : ℕ). ArePasses outs first.given.items side.given.items n) none from.passes));
      queue = ap (λ (o : OutPass Job). o.queue) taken ∙ from.queue;
      joined = ap (λ (o : OutPass Job). o.taken.joined) taken ∙ from.joined;
      begun = (from.begun.0, turned_turn from.begun.0 from.begun.1);
      turned = λ start t. turned_turn start (from.turned start t);
    }

  -- a pass has ended
  module _ (side new : LaneSide L) (number : new.number ≡ side.number) (p q : InPass Reply) (lane : new.lane ≡ side.lane) (failed : new.failed ≡ side.failed) (taken : new.taken ≡ side.taken) (more : new.ended ≡ side.ended + 1)
      (is : new.given.items ≡ set side.given.items side.ended q) (here : slice_get side.given.items side.ended ≡ Some p) (queue : q.queue ≡ p.queue) (list : q.list ≡ after_body None p.list) where
    turned_ended : (start : words.Start) → Turned words start side [] → Turned words start new []
    turned_ended start t = record {
      turns = t.turns;
      dropped = t.dropped;
      made = subst (λ (l : L). words.made_by start l t.turns) (sym lane) t.made;
      are = subst (λ (o : OutPass Job). AreTaken o.queue 0 t.turns) (sym taken) t.are;
      to_these = t.to_these;
      asked = t.asked;
      jobs = ap (λ (o : OutPass Job). items_of o.taken.got) taken ∙ t.jobs;
      none = λ e. t.none (sym failed ∙ e);
      gave = λ w less.
          let low : w < length side.given.items = let s = ap length is in let f = length-set side.given.items side.ended q in omega arith in
          ap (λ l. puts_at l w) is ∙ (puts_ended outs side.given.items side.ended p q here queue list w ∙ t.gave w low);
    }

    pub from_ended : (first : LaneSide L) → IsFrom words outs first side → IsFrom words outs first new
    from_ended first from = record {
      number_is = number ∙ from.number_is;
      passes = subst (λ (n : ℕ). ArePasses outs first.given.items new.given.items n) (sym more) (subst (λ (l : List (InPass Reply)). ArePasses outs first.given.items l (side.ended + 1)) (sym is) (passes_ended outs side.given.items side.ended p q here queue list first.given.items from.passes));
      queue = ap (λ (o : OutPass Job). o.queue) taken ∙ from.queue;
      joined = ap (λ (o : OutPass Job). o.taken.joined) taken ∙ from.joined;
      begun = (from.begun.0, turned_ended from.begun.0 from.begun.1);
      turned = λ start t. turned_ended start (from.turned start t);
    }

  -- nothing changed
  pub from_same : (first side new : LaneSide L) → new.number ≡ side.number → new.lane ≡ side.lane → new.failed ≡ side.failed → new.taken ≡ side.taken → new.ended ≡ side.ended → new.given.items ≡ side.given.items → IsFrom words outs first side → IsFrom words outs first new
  from_same first side new number lane failed taken ended given from =
      let t : (start : words.Start) → Turned words start side [] → Turned words start new [] = λ start t. record {
        turns = t.turns;
        dropped = t.dropped;
        made = subst (λ (l : L). words.made_by start l t.turns) (sym lane) t.made;
        are = subst (λ (o : OutPass Job). AreTaken o.queue 0 t.turns) (sym taken) t.are;
        to_these = t.to_these;
        asked = t.asked;
        jobs = ap (λ (o : OutPass Job). items_of o.taken.got) taken ∙ t.jobs;
        none = λ e. t.none (sym failed ∙ e);
        gave = λ w less. ap (λ l. puts_at l w) given ∙ t.gave w (let s = ap length given in omega arith);
      } in record {
        number_is = number ∙ from.number_is;
        passes = subst (λ (n : ℕ). ArePasses outs first.given.items new.given.items n) (sym ended) (subst (λ (l : List (InPass Reply)). ArePasses outs first.given.items l side.ended) (sym given) from.passes);
        queue = ap (λ (o : OutPass Job). o.queue) taken ∙ from.queue;
        joined = ap (λ (o : OutPass Job). o.taken.joined) taken ∙ from.joined;
        begun = (from.begun.0, t from.begun.0 from.begun.1);
        turned = λ start h. t start (from.turned start h);
      }
