-- What a server cuts from a first part of the frames of messages: the first of these messages.
use Rattle.std.proofs.Common.{◌≡◌, ◌<◌, ◌+◌, ◌^◌, ℕ, List, [], ◌∷◌, ◌++◌, length, map, refl, sym, ◌∙◌, ap, subst, inl, inr, arith, append_assoc}
use Rattle.std.specs.Prelude.{◌⊎◌, Ok}
use Rattle.std.specs.List.{flat_map, AllByRecursion}
use Rattle.std.specs.Int.{w32, from_be_bytes, to_be_bytes}
use Rattle.std.proofs.lemmas.Bool.{cases_lt}
use Rattle.std.proofs.lemmas.List.{append-nil, length-append, take-append-le}
use Rattle.std.proofs.lemmas.List.Concat.{flat_map-cons}
use Rattle.lsv_defs.specs.Pieces.{IsPrefix}
use Rattle.lsv_wire.specs.Frame.{IsMessage, IsPartial, frame_of, stated_length}
use Rattle.lsv_wire.proofs.Streams.{stated_length-frame_of}
use Rattle.lsv_msg.specs.Fitting.{FitsClient}
use Rattle.lsv_msg.specs.Messages.{client_bytes, client_in}
use Rattle.lsv_msg.specs.declared.messages.ClientMessage.{ClientMessage}
use Rattle.lsv_session.specs.Transcript.{AreFirst, AreJobs, InFront}
use Rattle.lsv_session.specs.declared.job.Body.{Body}
use Rattle.lsv_session.specs.declared.job.Body.TheVariants as body
use Rattle.lsv_session.proofs.Jobs.{after_message, after_rest}
use Rattle.lsv_upstream.specs.Jobs.{BringsFirst, NoMessages}

-- the frames of these messages
abbrev pub frames : List ClientMessage → List ℕ
frames messages = flat_map (λ m. frame_of (client_bytes m)) messages

-- what is written of a message is read as it
abbrev pub ReadsBack : Type 0
ReadsBack = (m : ClientMessage) → FitsClient m → length (client_bytes m) < 2 ^ 64 → client_in (client_bytes m) ≡ Ok m

-- these jobs are the first of those messages
record AreFront (messages : List ClientMessage) (jobs : List Body) : Type 0 where
  front : List ClientMessage
  later : List ClientMessage
  is : front ++ later ≡ messages
  jobs_are : jobs ≡ map (λ m. body.Msg m) front

none_are : (messages : List ClientMessage) (jobs : List Body) → jobs ≡ [] → AreFront messages jobs
none_are messages jobs none = record { front = []; later = messages; is = refl; jobs_are = none }

-- two lists make one: the second of them goes on after the first of the others, or ends within it
two_splits : (a b c d : List ℕ) → a ++ b ≡ c ++ d → ((t : List ℕ) × (c ≡ a ++ t) × (b ≡ t ++ d)) ⊎ ((t : List ℕ) × (a ≡ c ++ t) × (length c < length a))
two_splits [] b c d e = inl (c, refl, e)
two_splits (x ∷ a) b [] d e = inr (x ∷ a, refl, omega arith)
two_splits (x ∷ a) b (y ∷ c) d e =
    let head : x ≡ y = cc in
    let tails : a ++ b ≡ c ++ d = cc in
    elim (two_splits a b c d tails) [
      | inl after ↦ inl (after.0, ap (λ (z : List ℕ). y ∷ z) after.1 ∙ ap (λ (z : ℕ). z ∷ (a ++ after.0)) (sym head), after.2)
      | inr within ↦ inr (within.0, ap (λ (z : List ℕ). x ∷ z) within.1 ∙ ap (λ (z : ℕ). z ∷ (c ++ within.0)) head, (let less = within.2 in omega (arith, less)))
    ]

-- a frame that is cut short is no whole one
partial_front : (b input t : List ℕ) → IsMessage b → frame_of b ≡ input ++ t → length input < length (frame_of b) → IsPartial input
partial_front b input t small e short = elim (cases_lt (length input) 4) [
  | inl few ↦ inl few
  | inr there ↦
      let stated : stated_length input ≡ length b = sym (ap (from_be_bytes w32) (take-append-le 4 input t there)) ∙ (ap stated_length (sym e) ∙ whole) in
      inr (record { length_is_there = there; within = omega (arith, stated, small); missing = (let all = long in omega (arith, stated, short, all)) })
]
  where
    long : length (frame_of b) ≡ 4 + length b
    long = omega (arith, length-append (to_be_bytes w32 (length b)) b)

    whole : stated_length (frame_of b) ≡ length b
    whole = subst (λ x. stated_length x ≡ length b) (append-nil (frame_of b)) (stated_length-frame_of b [] small)

module _ (reads : ReadsBack) where
  brought : (messages : List ClientMessage) (input more : List ℕ) (jobs : List Body) → AllByRecursion FitsClient messages → AllByRecursion (λ m. IsMessage (client_bytes m)) messages → frames messages ≡ input ++ more → AreJobs input jobs
      → AreFront messages jobs
  brought [] input more jobs fits each e are = none_are [] jobs (after_rest (inl (let few = ap length e in omega (arith, few, length-append input more))) are)
  brought (m ∷ messages) input more jobs fits each e are = elim (two_splits (frame_of (client_bytes m)) (frames messages) input more (sym (flat_map-cons (λ x. frame_of (client_bytes x)) m messages) ∙ e)) [
    | inr within ↦ none_are (m ∷ messages) jobs (after_rest (partial_front (client_bytes m) input within.0 each.0 within.1 within.2) are)
    | inl after ↦
        let front : InFront (client_bytes m) after.0 input = record { is_message = each.0; whole = after.1 } in
        let next = after_message front (reads m fits.0 (let small = each.0 in omega (arith, small))) are in
        let others = brought messages after.0 more next.0 fits.1 each.1 after.2 next.2 in
        record { front = m ∷ others.front; later = others.later; is = ap (λ (z : List ClientMessage). m ∷ z) others.is; jobs_are = next.1 ∙ ap (λ (z : List Body). body.Msg m ∷ z) others.jobs_are }
  ]

  -- the first of these jobs are the first of those messages
  first_of : (messages : List ClientMessage) (heard later : List Body) → map (λ m. body.Msg m) messages ≡ heard ++ later → AreFront messages heard
  first_of messages [] later e = none_are messages [] refl
  first_of [] (j ∷ heard) later e = absurd (cc)
  first_of (m ∷ messages) (j ∷ heard) later e =
      let head : body.Msg m ≡ j = cc in
      let tails : map (λ x. body.Msg x) messages ≡ heard ++ later = cc in
      let others = first_of messages heard later tails in
      record { front = m ∷ others.front; later = others.later; is = ap (λ (z : List ClientMessage). m ∷ z) others.is; jobs_are = ap (λ (z : Body). z ∷ heard) (sym head) ∙ ap (λ (z : List Body). body.Msg m ∷ z) others.jobs_are }

  pub sent_brings : (front unsent : List ClientMessage) (input : List ℕ) (jobs heard ends : List Body) → AllByRecursion FitsClient front → AllByRecursion (λ m. IsMessage (client_bytes m)) front → IsPrefix input (frames front) → AreJobs input jobs → AreFirst heard jobs → NoMessages ends
      → BringsFirst (front ++ unsent) (heard ++ ends)
  sent_brings front unsent input jobs heard ends fits each prefix are some none =
      let all = brought front input prefix.0 jobs fits each prefix.1 are in
      let its = first_of all.front heard some.0 (sym all.jobs_are ∙ some.1) in
      record {
        brought = its.front;
        later = its.later ++ (all.later ++ unsent);
        whole = sym (append_assoc its.front its.later (all.later ++ unsent)) ∙ (ap (λ (z : List ClientMessage). z ++ (all.later ++ unsent)) its.is ∙ (sym (append_assoc all.front all.later unsent) ∙ ap (λ (z : List ClientMessage). z ++ unsent) all.is));
        ends = ends;
        no_messages = none;
        jobs = ap (λ (z : List Body). z ++ ends) its.jobs_are;
      }
