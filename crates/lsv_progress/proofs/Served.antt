-- A legal conversation is served among others, since what its connection does alone is.
use Rattle.std.proofs.Common.{◌≡◌, ◌<◌, ℕ, List, [], ◌∷◌, ◌++◌, length, map, refl, sym, ◌∙◌, ap, subst, inl, inr, arith, None, ◌⊎◌, append-nil, length-append}
use Rattle.std.specs.Prelude.{false}
use Rattle.std.specs.List.{list_any}
use Rattle.lsv_session.specs.declared.connection.ConnId.{ConnId}
use Rattle.lsv_session.specs.declared.connection.ConnState.TheVariants.{Fresh}
use Rattle.lsv_session.specs.declared.job.Body.{Body}
use Rattle.lsv_machine.specs.Answers.{Answer}
use Rattle.lsv_machine.specs.Legal.{Fits, IsLegal, IsServed, all_answers, is_shut, records_in, whole_log}
use Rattle.lsv_machine.specs.Machine.{IsOfLane, LogState.Absent, LogState.There, Machine, Settings}
use Rattle.lsv_machine.specs.Recovery.{AtTheirMoments, Turn, all_turns}
use Rattle.lsv_machine.specs.Silence.{EndsWithGone}
use Rattle.lsv_machine.specs.Starts.{StartsAs}
use Rattle.lsv_machine.specs.Turns.{Happened, Happened.Did, Happened.Tailed, Happened.Begins, Run}
use Rattle.lsv_machine.specs.Work.{next_number}
use Rattle.lsv_machine.proofs.LegalTurns.{legal_served, none_is_shut}
use Rattle.lsv_machine.proofs.RunLaws.{starts_sound}
use Rattle.lsv_progress.specs.Among.{FitsAmong, IsServedAmong, IsUndisturbed, NeverGone, answers_to, asked_before, bodies_of, came_of, lines_before}
use Rattle.lsv_progress.proofs.Alone.{heard, lines_turns, own_at_moments, own_sent, own_turn, own_turns, spoken_turns}
use Rattle.lsv_progress.proofs.Asked.{legal_anyhow}
use Rattle.lsv_progress.proofs.Living.{Close, Close.early, Close.open_still, Close.over, Live, Ran, live_goes}
use Rattle.lsv_progress.proofs.Numbers.{Opening, Steady, next_above, next_of_lane, opening, opens_at}
use Rattle.lsv_progress.proofs.Twins.{Place.outside, Unfinished}
use Rattle.lsv_progress.proofs.Waiting.{Rising, among, only}

module _ (set : Settings) (texts : List (List ℕ)) (k : ConnId) (start end : Machine) (turns : List Turn) (later : List Body) (number : ℕ) (starts : StartsAs set texts start) (run : Run set start (all_turns turns) end)
    (moments : AtTheirMoments turns) (calm : IsUndisturbed k (all_turns turns)) (ends : EndsWithGone k (all_turns turns)) (parts : (later ≡ []) ⊎ NeverGone k (all_turns turns))
    (legal : IsLegal number Fresh (bodies_of k turns ++ later)) (fits : FitsAmong set k start turns (bodies_of k turns ++ later)) where
  steady : Steady set start
  steady = record { sound = starts_sound set texts start starts; drawn = starts.no_failed_draw; rising = subst Rising (sym starts.none_waits) tt }

  -- the machine at the moment at which the connection asks for its log, and the number that it gets
  abbrev at : Machine
  at = opens_at set k (all_turns turns) start end run

  abbrev n : ℕ
  n = next_number set at

  opens : Opening set k start (asked_before k (all_turns turns)) at
  opens = opening set k (all_turns turns) start end run calm steady

  lane : IsOfLane set.lane set.lanes n
  lane = next_of_lane set at opens.sound

  above : start.last < n
  above = let later_on = opens.later in let up = next_above set at opens.sound in omega arith

  limits : Fits set k n Fresh (start.lines ++ lines_before k (all_turns turns)) (came_of k turns) (bodies_of k turns ++ later)
  limits = fits n opens.number

  -- a machine for the connection alone: the next number is the one that it gets, and the lines of all others are there
  abbrev alone : Machine
  alone = record {
    texts = texts;
    logs = λ i. Absent;
    states = λ j. Fresh;
    owner = λ i. None;
    last = at.last;
    failed_draws = 0;
    waiting = [];
    lines = start.lines ++ lines_before k (all_turns turns);
    fresh = [];
    noting = [];
  }

  alone_starts : StartsAs set texts alone
  alone_starts = record {
    lane = starts.lane;
    texts_are = refl;
    promises = λ i stored promised e. absurd (cc);
    drawn = opens.sound.drawn;
    none_above = λ i of_lane up. refl;
    unknown = λ j. refl;
    free = λ i. refl;
    no_failed_draw = refl;
    none_waits = refl;
    no_line = refl;
    nobody_noted = refl;
  }

  legal_now : IsLegal n Fresh (bodies_of k turns ++ later)
  legal_now = legal_anyhow number n Fresh (bodies_of k turns ++ later) legal

  live : Live set n k later lane Fresh start alone (all_turns turns) end run
  live =
      let none = steady.sound.none_above n lane above in
      let beside = length-append start.lines (lines_before k (all_turns turns)) in
      let fresh : length start.fresh ≡ 0 = ap length starts.no_line in
      let events = limits.events in
      let own_length = ap length (lines_turns k set n Fresh turns moments) in
      record {
        pair = record {
          state = starts.unknown k;
          place = outside refl refl;
          mirrors = record {
            state = sym (starts.unknown k);
            texts = sym starts.texts_are;
            log = sym none.0;
            owner = sym none.1;
            waits = ap (λ (xs : List ℕ). only n (among n xs)) (sym starts.none_waits);
          };
          unfinished = tt;
          calm = λ off. refl;
          there = λ e. absurd (cc);
        };
        legal = subst (λ (bs : List Body). IsLegal n Fresh (bs ++ later)) (sym (spoken_turns k turns)) legal_now;
        level = λ more. omega arith;
        room = omega arith;
        next = λ off. (refl, refl);
        draws' = refl;
      }

  ran : Ran set n k later lane start alone end (all_turns turns) run
  ran = live_goes set n k later lane (all_turns turns) Fresh start alone end run calm steady ends parts live

  own_run : Run set alone (all_turns (map (own_turn k) turns)) ran.end'
  own_run = subst (λ (h : List Happened). Run set alone h ran.end') (sym (own_turns k turns)) ran.run'

  own_told : answers_to k (all_answers turns) ≡ all_answers (map (own_turn k) turns)
  own_told = heard k turns ran.hears

  -- while some of it hasn't come yet nobody shuts the connection
  isnt_shut : (later ≡ [] → ⊥) → list_any (λ a. is_shut a.says) (answers_to k (all_answers turns)) ≡ false
  isnt_shut some =
      ap (λ (xs : List Answer). list_any (λ a. is_shut a.says) xs) own_told
      ∙ none_is_shut set texts k alone ran.end' (came_of k turns) (map (own_turn k) turns) later alone_starts own_run (own_at_moments k turns moments) (own_sent k turns calm) legal_now some limits

  -- all of it has come
  served : later ≡ [] → (number_of : ℕ) × IsServedAmong set k number_of texts turns start end run
  served none = (n, go ran.close)
    where
      bodies_are : bodies_of k turns ++ later ≡ bodies_of k turns
      bodies_are = ap (λ (bs : List Body). bodies_of k turns ++ bs) none ∙ append-nil (bodies_of k turns)

      own_served : IsServed k n texts (came_of k turns) (map (own_turn k) turns) ran.end'
      own_served = legal_served set texts k alone ran.end' (came_of k turns) (map (own_turn k) turns) alone_starts own_run (own_at_moments k turns moments) (own_sent k turns calm)
          (subst (λ (bs : List Body). IsLegal n Fresh bs) bodies_are legal_now)
          (subst (λ (bs : List Body). Fits set k n Fresh (start.lines ++ lines_before k (all_turns turns)) (came_of k turns) bs) bodies_are limits)

      go : Close set n k later lane start end ran.end' (all_turns turns) run → IsServedAmong set k n texts turns start end run
      go (open_still s rest) = absurd (let h : IsLegal n s [] = subst (λ (bs : List Body). IsLegal n s bs) none rest in h)
      go (early open_log) = absurd (let h : Unfinished (There (whole_log texts (bodies_of k turns)) (length (records_in (bodies_of k turns)))) = subst Unfinished own_served.log open_log in cc)
      go (over log free left) = record {
        number = opens.number;
        above = above;
        told = own_told ∙ own_served.told;
        log = log ∙ own_served.log;
        free = free;
        alone = left;
      }

-- who never goes sends nothing after its Gone
never_ends : (k : ConnId) (history : List Happened) → NeverGone k history → EndsWithGone k history
never_ends k [] never = tt
never_ends k (Did act ∷ history) never = ((λ p q. absurd (never.0 p q)), never_ends k history never.1)
never_ends k (Tailed tail ∷ history) never = never_ends k history never
never_ends k (Begins texts ∷ history) never = never_ends k history never

pub served_among : (set : Settings) (texts : List (List ℕ)) (k : ConnId) (start end : Machine) (turns : List Turn) (number : ℕ) → StartsAs set texts start → (run : Run set start (all_turns turns) end) → AtTheirMoments turns → IsUndisturbed k (all_turns turns)
    → EndsWithGone k (all_turns turns) → IsLegal number Fresh (bodies_of k turns) → FitsAmong set k start turns (bodies_of k turns) → (n : ℕ) × IsServedAmong set k n texts turns start end run
served_among set texts k start end turns number starts run moments calm ends legal fits =
    let e : bodies_of k turns ≡ bodies_of k turns ++ [] = sym (append-nil (bodies_of k turns)) in
    served set texts k start end turns [] number starts run moments calm ends (inl refl) (subst (λ (bs : List Body). IsLegal number Fresh bs) e legal) (subst (λ (bs : List Body). FitsAmong set k start turns bs) e fits) refl

pub isnt_shut_among : (set : Settings) (texts : List (List ℕ)) (k : ConnId) (start end : Machine) (turns : List Turn) (later : List Body) (number : ℕ) → StartsAs set texts start → Run set start (all_turns turns) end → AtTheirMoments turns
    → IsUndisturbed k (all_turns turns) → NeverGone k (all_turns turns) → IsLegal number Fresh (bodies_of k turns ++ later) → (later ≡ [] → ⊥) → FitsAmong set k start turns (bodies_of k turns ++ later)
    → list_any (λ a. is_shut a.says) (answers_to k (all_answers turns)) ≡ false
isnt_shut_among set texts k start end turns later number starts run moments calm never legal some fits =
    isnt_shut set texts k start end turns later number starts run moments calm (never_ends k (all_turns turns) never) (inr never) legal fits some
