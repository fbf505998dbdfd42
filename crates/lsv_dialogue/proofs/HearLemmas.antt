-- What was read, piece by piece.
use Rattle.std.proofs.Common.{◌≡◌, ◌≤◌, ◌<◌, ◌+◌, ◌-◌, ◌++◌, ◌∷◌, List, [], ℕ, length, map, take, nat_lt, if◌then◌else◌, refl, sym, ◌∙◌, ap, subst, append_assoc, append-nil, length-append, arith, Bool, true, false, Ok, ◌⊎◌, inl, inr}
use Rattle.std.proofs.lemmas.Bool.Decides.{nat_tests}
use Rattle.std.specs.List.{flat_map}
use Rattle.lsv_wire.specs.Frame.{frame_of, IsPartial}
use Rattle.lsv_wire.proofs.Streams.{stop_not_frame}
use Rattle.lsv_defs.specs.Pieces.{IsPrefix}
use Rattle.lsv_link.specs.declared.connection.Connection.{Connection}
use Rattle.lsv_link.specs.declared.connection.Look.{Look}
use Rattle.lsv_link.specs.Link.{look_of}
use Rattle.lsv_msg.specs.Messages.{server_in}
use Rattle.lsv_msg.specs.declared.messages.ClientMessage.{ClientMessage}
use Rattle.lsv_msg.specs.declared.messages.ServerMessage.{ServerMessage}
use Rattle.lsv_dialogue.specs.Events.{Event, all_said, as_heard, as_late, frames_of, heard, said}
use Rattle.lsv_dialogue.specs.Hears.{AreInOrder, AreReadAfter, Hears, came_before, came_in_all, through}
use Rattle.lsv_dialogue.specs.Puts.{ArePutFirst}
use Rattle.lsv_dialogue.specs.Stands.{AddsLook, BeginsWith, Unheard}
use Rattle.lsv_dialogue.proofs.EventLemmas.{at_each_few, at_each_heard, at_each_late, at_each_map, at_each_said, at_each_with, heard_heard, heard_late, heard_said}
use Rattle.lsv_dialogue.proofs.FrameLemmas.{each_push, flat_push, map_push}
use Rattle.lsv_dialogue.proofs.PieceLemmas.{len_map, partial_take, take_all, take_past, take_short}

-- ---- How many bytes came by when

came_push : (n : ℕ) (looks : List Look) (look : Look) → came_before n (looks ++ look ∷ []) ≡ came_before n looks + (if nat_lt look.put n then look.came else 0)
came_push n [] look = let e : (if nat_lt look.put n then look.came else 0) + 0 ≡ 0 + (if nat_lt look.put n then look.came else 0) = omega arith in e
came_push n (l ∷ looks) look = let h = came_push n looks look in omega (arith, h)

not_below : (a b : ℕ) → b ≤ a → nat_lt a b ≡ false
not_below a b le = grind (arith, nat_tests)

at_most : (b : Bool) (n : ℕ) → (if b then n else 0) ≤ n
at_most true n = omega arith
at_most false n = omega arith

-- a read when as much had been written brings nothing of what came before
came_same : (n : ℕ) (looks : List Look) (look : Look) → n ≤ look.put → came_before n (looks ++ look ∷ []) ≡ came_before n looks
came_same n looks look le = came_push n looks look ∙ (ap (λ (b : Bool). came_before n looks + (if b then look.came else 0)) (not_below look.put n le) ∙ (let e : came_before n looks + 0 ≡ came_before n looks = omega arith in e))

-- no more was read by some reads than by all
came_few : (n : ℕ) (looks : List Look) → came_before n looks ≤ came_in_all looks
came_few n [] = omega arith
came_few n (look ∷ looks) = let h = came_few n looks in let one = at_most (nat_lt look.put n) look.came in omega (arith, h, one)

in_all_push : (looks : List Look) (look : Look) → came_in_all (looks ++ look ∷ []) ≡ came_in_all looks + look.came
in_all_push [] look = let e : look.came + 0 ≡ 0 + look.came = omega arith in e
in_all_push (l ∷ looks) look = let h = in_all_push looks look in omega (arith, h)

-- the reads stay in order
order_push : (from upto : ℕ) (looks : List Look) (look : Look) → look.put ≡ upto → AreInOrder from upto looks → AreInOrder from upto (looks ++ look ∷ [])
order_push from upto [] look put a = (omega (arith, put, a), omega (arith, put))
order_push from upto (l ∷ looks) look put a = (a.0, order_push l.put upto looks look put a.1)

order_more : (from upto more : ℕ) (looks : List Look) → upto ≤ more → AreInOrder from upto looks → AreInOrder from more looks
order_more from upto more [] le a = omega (arith, le, a)
order_more from upto more (l ∷ looks) le a = (a.0, order_more l.put upto more looks le a.1)

order_prefix : (from : ℕ) (output output' : List ℕ) (looks : List Look) → IsPrefix output output' → AreInOrder from (length output) looks → AreInOrder from (length output') looks
order_prefix from output output' looks (rest, is) a = order_more from (length output) (length output') looks (let e = ap length is in omega (arith, e, length-append output rest)) a

-- ---- What is read

frames_many : (events : List Event) (messages : List ServerMessage) (frames : List (List ℕ)) → map server_in frames ≡ map (λ m. Ok m) (heard events ++ messages) → length frames ≡ length (heard events) + length messages
frames_many events messages frames are =
    let e = sym (len_map server_in frames) ∙ (ap length are ∙ len_map (λ (m : ServerMessage). Ok m) (heard events ++ messages)) in e ∙ length-append (heard events) messages

-- one frame more changes nothing of the frames before
after_push : (looks : List Look) (frames : List (List ℕ)) (f : List ℕ) (events : List Event) → length (heard events) ≤ length frames → AreReadAfter looks frames events → AreReadAfter looks (frames ++ f ∷ []) events
after_push looks frames f events le a =
    at_each_with _ _ _ _ (λ before m h few. subst (λ (x : List (List ℕ)). came_before (length (frames_of (said before))) looks < length (flat_map frame_of x)) (sym (take_short (length (heard before) + 1) frames (f ∷ []) few)) h)
    [] events a (at_each_map _ _ _ _ (λ before m few. few) (λ before m u. tt) [] events (at_each_few (length frames) [] events (omega (arith, le))))

-- the next frame is one message more
pub hears_next : (conn : Connection) (events : List Event) (m : ServerMessage) (old new : List ℕ) → Hears conn events [] old → BeginsWith m old new → Hears conn events (m ∷ []) new
hears_next conn events m old new h b =
    let are : map server_in h.has.frames ≡ map (λ x. Ok x) (heard events) = h.has.are ∙ ap (λ (l : List ServerMessage). map (λ (x : ServerMessage). Ok x) l) (append-nil (heard events)) in
    let many = frames_many events [] h.has.frames h.has.are in
    record {
      sum = h.sum;
      order = h.order;
      has = record {
        frames = h.has.frames ++ b.message ∷ [];
        whole = h.has.whole ∙ (ap (λ (x : List ℕ). flat_map frame_of h.has.frames ++ x) b.framed ∙ sym (flat_push h.has.frames b.message new));
        each = each_push h.has.frames b.message h.has.each b.within;
        are = map_push h.has.frames b.message (heard events) m are b.reads;
      };
      after = after_push conn.looks h.has.frames b.message events (omega (arith, many)) h.after;
    }

-- the messages are the same
hears_as : (conn : Connection) (events events' : List Event) (pending pending' : List ServerMessage) (rest : List ℕ) → (h : Hears conn events pending rest) → heard events ++ pending ≡ heard events' ++ pending' → AreReadAfter conn.looks h.has.frames events' → Hears conn events' pending' rest
hears_as conn events events' pending pending' rest h same after = record {
  sum = h.sum;
  order = h.order;
  has = record { frames = h.has.frames; whole = h.has.whole; each = h.has.each; are = h.has.are ∙ ap (λ (l : List ServerMessage). map (λ (x : ServerMessage). Ok x) l) same };
  after = after;
}

-- messages were said
pub hears_said : (conn : Connection) (events : List Event) (ms : List ClientMessage) (pending : List ServerMessage) (rest : List ℕ) → Hears conn events pending rest → Hears conn (events ++ all_said ms) pending rest
hears_said conn events ms pending rest h = hears_as conn events (events ++ all_said ms) pending pending rest h (ap (λ (l : List ServerMessage). l ++ pending) (sym (heard_said events ms))) (at_each_said _ _ events ms h.after)

-- the pending message was late
pub hears_late : (conn : Connection) (events : List Event) (m : ServerMessage) (rest : List ℕ) → Hears conn events (m ∷ []) rest → Hears conn (events ++ as_late m) [] rest
hears_late conn events m rest h = hears_as conn events (events ++ as_late m) (m ∷ []) [] rest h (sym (append-nil (heard (events ++ as_late m)) ∙ heard_late events m)) (at_each_late _ _ events m h.after tt)

-- the pending message was heard in time, and what was read before all that was said had been written ends before it
pub hears_heard : (conn : Connection) (events : List Event) (m : ServerMessage) (rest : List ℕ) → Hears conn events (m ∷ []) rest → length (frames_of (said events)) ≡ length conn.output → Unheard conn (m ∷ []) rest → Hears conn (events ++ as_heard m) [] rest
hears_heard conn events m rest h put unheard =
    let many = frames_many events (m ∷ []) h.has.frames h.has.are in
    let all : take (length (heard events) + 1) h.has.frames ≡ h.has.frames = take_all (length (heard events) + 1) h.has.frames (omega (arith, many)) in
    let len = ap length h.has.whole ∙ length-append (flat_map frame_of h.has.frames) rest in
    let end = ap (λ (x : List (List ℕ)). length (flat_map frame_of x)) all in
    let before = ap (λ (n : ℕ). came_before n conn.looks) put in
    let fact : came_before (length (frames_of (said events))) conn.looks < through h.has.frames (length (heard events) + 1) = omega (arith, len, end, before, unheard) in
    hears_as conn events (events ++ as_heard m) (m ∷ []) [] rest h (sym (append-nil (heard (events ++ as_heard m)) ∙ heard_heard events m)) (at_each_heard _ _ events m h.after fact)

-- the same was read, and no less was written
pub hears_same : (a b : Connection) (events : List Event) (pending : List ServerMessage) (rest : List ℕ) → Hears a events pending rest → b.input ≡ a.input → b.looks ≡ a.looks → IsPrefix a.output b.output → Hears b events pending rest
hears_same a b events pending rest h input looks written = record {
  sum = ap came_in_all looks ∙ (h.sum ∙ ap length (sym input));
  order = subst (λ (x : List Look). AreInOrder 0 (length b.output) x) (sym looks) (order_prefix 0 a.output b.output a.looks written h.order);
  has = record { frames = h.has.frames; whole = input ∙ h.has.whole; each = h.has.each; are = h.has.are };
  after = subst (λ (x : List Look). AreReadAfter x h.has.frames events) (sym looks) h.after;
}

-- a look is no earlier than what had been written before each message
after_looked : (tells : Type 0) (t : tells) (looks : List Look) (look : Look) (frames : List (List ℕ)) (output : List ℕ) (events : List Event) → look.put ≡ length output → ArePutFirst tells output events → AreReadAfter looks frames events → AreReadAfter (looks ++ look ∷ []) frames events
after_looked tells t looks look frames output events put first a =
    at_each_with _ _ _ _ (λ before m h p.
    let len = ap length (p.bytes t).1 ∙ length-append (frames_of (said before)) (p.bytes t).0 in
    let same = came_same (length (frames_of (said before))) looks look (omega (arith, len, put)) in
    omega (arith, h, same))
    [] events a first

-- more was read
pub hears_looked : (tells : Type 0) (t : tells) (a b : Connection) (events : List Event) (rest rest' more : List ℕ) (wait : Bool) → Hears a events [] rest → ArePutFirst tells a.output events → AddsLook wait (length more) a b → b.input ≡ a.input ++ more → b.output ≡ a.output → rest' ≡ rest ++ more → Hears b events [] rest'
hears_looked tells t a b events rest rest' more wait h first adds input output is = record {
  sum = ap came_in_all adds.looks ∙ (in_all_push a.looks (look_of wait (length more) a) ∙ (ap (λ (n : ℕ). n + length more) h.sum ∙ (sym (length-append a.input more) ∙ ap length (sym input))));
  order = subst (λ (x : List Look). AreInOrder 0 (length b.output) x) (sym adds.looks) (subst (λ (x : List ℕ). AreInOrder 0 (length x) (a.looks ++ look_of wait (length more) a ∷ [])) (sym output) (order_push 0 (length a.output) a.looks (look_of wait (length more) a) refl h.order));
  has = record {
    frames = h.has.frames;
    whole = input ∙ (ap (λ (x : List ℕ). x ++ more) h.has.whole ∙ (append_assoc (flat_map frame_of h.has.frames) rest more ∙ ap (λ (x : List ℕ). flat_map frame_of h.has.frames ++ x) (sym is)));
    each = h.has.each;
    are = h.has.are;
  };
  after = subst (λ (x : List Look). AreReadAfter x h.has.frames events) (sym adds.looks) (after_looked tells t a.looks (look_of wait (length more) a) h.has.frames a.output events refl first h.after);
}

-- ---- What isn't heard yet

-- the next message wasn't whole before
pub unheard_next : (conn : Connection) (m : ServerMessage) (old new : List ℕ) → Unheard conn [] old → BeginsWith m old new → Unheard conn (m ∷ []) new
unheard_next conn m old new u b = elim (less (came_before (length conn.output) conn.looks + length new) (length conn.input)) [
  | inl lt ↦ lt
  | inr le ↦ absurd (
      let len = ap length b.framed ∙ length-append (frame_of b.message) new in
      let k : ℕ = (came_before (length conn.output) conn.looks + length old) - length conn.input in
      let past : take k (frame_of b.message ++ new) ≡ frame_of b.message ++ take (k - length (frame_of b.message)) new = take_past k (frame_of b.message) new (omega (arith, len, le)) in
      stop_not_frame b.message (take (k - length (frame_of b.message)) new) b.within (inl (subst IsPartial (ap (λ (x : List ℕ). take k x) b.framed ∙ past) u)))
]
  where
    less : (x y : ℕ) → (x < y) ⊎ (y ≤ x)
    less x y = grind arith

-- it was heard
pub unheard_heard : (conn : Connection) (m : ServerMessage) (rest : List ℕ) → Unheard conn (m ∷ []) rest → Unheard conn [] rest
unheard_heard conn m rest u =
    let none : (came_before (length conn.output) conn.looks + length rest) - length conn.input ≡ 0 = omega (arith, u) in
    subst (λ (n : ℕ). IsPartial (take n rest)) (sym none) (inl (omega arith))

-- no whole message is left at all
pub unheard_partial : (conn : Connection) (rest : List ℕ) → IsPartial rest → Unheard conn [] rest
unheard_partial conn rest partial = partial_take ((came_before (length conn.output) conn.looks + length rest) - length conn.input) rest partial

-- more was read when no whole message was left
pub unheard_looked : (a b : Connection) (rest rest' more : List ℕ) (wait : Bool) → IsPartial rest → came_in_all a.looks ≡ length a.input → AddsLook wait (length more) a b → b.input ≡ a.input ++ more → b.output ≡ a.output → rest' ≡ rest ++ more → Unheard b [] rest'
unheard_looked a b rest rest' more wait partial sum adds input output is =
    let few = came_few (length a.output) a.looks in
    let most : came_before (length a.output) a.looks ≤ length a.input = omega (arith, few, sum) in
    let same = ap (λ (x : List Look). came_before (length a.output) x) adds.looks ∙ came_same (length a.output) a.looks (look_of wait (length more) a) (omega arith) in
    let put = ap (λ (x : List ℕ). came_before (length x) b.looks) output in
    let in_len = ap length input ∙ length-append a.input more in
    let rest_len = ap length is ∙ length-append rest more in
    let k : ℕ = (came_before (length b.output) b.looks + length rest') - length b.input in
    let few : k ≤ length rest = omega (arith, most, same, put, in_len, rest_len) in
    subst IsPartial (sym (ap (λ (x : List ℕ). take k x) is ∙ take_short k rest more few)) (partial_take k rest partial)

-- nothing changed
pub unheard_same : (a b : Connection) (pending : List ServerMessage) (rest : List ℕ) → Unheard a pending rest → b.looks ≡ a.looks → b.input ≡ a.input → b.output ≡ a.output → Unheard b pending rest
unheard_same a b [] rest u looks input output = subst (λ (n : ℕ). IsPartial (take n rest)) (let came = ap (λ (x : List Look). came_before (length a.output) x) looks in let put = ap (λ (x : List ℕ). came_before (length x) b.looks) output in let len = ap length input in omega (arith, came, put, len)) u
unheard_same a b (m ∷ pending) rest u looks input output = let came = ap (λ (x : List Look). came_before (length a.output) x) looks in let put = ap (λ (x : List ℕ). came_before (length x) b.looks) output in let len = ap length input in omega (arith, came, put, len, u)
