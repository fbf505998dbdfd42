-- What was written of what was said, piece by piece.
use Rattle.std.proofs.Common.{◌≡◌, ◌≤◌, ◌<◌, ◌++◌, ◌∷◌, List, [], ℕ, length, sym, ◌∙◌, ap, append_assoc, append-nil, length-append, arith, Option, Some, None}
use Rattle.lsv_defs.specs.Pieces.{IsPrefix}
use Rattle.lsv_wire.specs.Frame.{IsMessage}
use Rattle.lsv_msg.specs.Messages.{client_bytes}
use Rattle.lsv_msg.specs.declared.messages.ClientMessage.{ClientMessage}
use Rattle.lsv_dialogue.specs.Events.{frames_of}
use Rattle.lsv_dialogue.specs.Rounds.{IsUnput}
use Rattle.lsv_dialogue.specs.Puts.{AreSendable, PutsFirst, PutsPart, PutsUpTo, PutsWhole}
use Rattle.lsv_dialogue.specs.Stands.{PutsBy}
use Rattle.lsv_dialogue.specs.declared.talk.Halt.{Halt}
use Rattle.lsv_dialogue.specs.declared.talk.Halt.TheVariants as halts
use Rattle.lsv_dialogue.proofs.EventLemmas.{all_append}
use Rattle.lsv_dialogue.proofs.FrameLemmas.{frames_append, frames_some}

pub sendable_append : (xs ys : List ClientMessage) → AreSendable xs → AreSendable ys → AreSendable (xs ++ ys)
sendable_append xs ys a b = all_append (λ m. IsMessage (client_bytes m)) xs ys a b

pub whole_part : (tells : Type 0) (output : List ℕ) (ms : List ClientMessage) → PutsWhole tells output ms → PutsPart tells output ms
whole_part tells output ms w = record {
  front = ms;
  unsent = [];
  is = sym (append-nil ms);
  sendable = w.sendable;
  bytes = λ t. ([], sym (append-nil (frames_of ms)) ∙ ap (λ (x : List ℕ). x ++ []) (sym (w.bytes t)));
}

up_to_part : (n : ℕ) (tells : Type 0) (output : List ℕ) (ms : List ClientMessage) → PutsUpTo n tells output ms → PutsPart tells output ms
up_to_part n tells output ms u = record {
  front = u.front;
  unsent = u.long ∷ u.unsent;
  is = u.is;
  sendable = u.sendable;
  bytes = λ t. ([], sym (append-nil (frames_of u.front)) ∙ ap (λ (x : List ℕ). x ++ []) (sym (u.bytes t)));
}

pub by_part : (halt : Option Halt) (tells : Type 0) (output : List ℕ) (ms : List ClientMessage) → PutsBy halt tells output ms → PutsPart tells output ms
by_part None tells output ms p = whole_part tells output ms p
by_part (Some halts.NotYet) tells output ms p = p
by_part (Some halts.Failed) tells output ms p = p
by_part (Some (halts.TooLong n)) tells output ms p = up_to_part n tells output ms p

pub part_more : (tells : Type 0) (output : List ℕ) (ms more : List ClientMessage) → PutsPart tells output ms → PutsPart tells output (ms ++ more)
part_more tells output ms more p = record {
  front = p.front;
  unsent = p.unsent ++ more;
  is = ap (λ (x : List ClientMessage). x ++ more) p.is ∙ append_assoc p.front p.unsent more;
  sendable = p.sendable;
  bytes = p.bytes;
}

-- all was written, and then more
joined_bytes : (ms front : List ClientMessage) (output bytes output' rest : List ℕ) → output ≡ frames_of ms → output' ≡ output ++ bytes → frames_of front ≡ bytes ++ rest → frames_of (ms ++ front) ≡ output' ++ rest
joined_bytes ms front output bytes output' rest o o' f =
    frames_append ms front ∙ (ap (λ (x : List ℕ). x ++ frames_of front) (sym o) ∙ (ap (λ (x : List ℕ). output ++ x) f ∙ (sym (append_assoc output bytes rest) ∙ ap (λ (x : List ℕ). x ++ rest) (sym o'))))

joined_whole : (tells : Type 0) (output bytes output' : List ℕ) (ms more : List ClientMessage) → PutsWhole tells output ms → (tells → output' ≡ output ++ bytes) → PutsWhole (Unit {0}) bytes more → PutsWhole tells output' (ms ++ more)
joined_whole tells output bytes output' ms more w o' p = record {
  sendable = sendable_append ms more w.sendable p.sendable;
  bytes = λ t. o' t ∙ (ap (λ (x : List ℕ). x ++ bytes) (w.bytes t) ∙ (ap (λ (x : List ℕ). frames_of ms ++ x) (p.bytes tt) ∙ sym (frames_append ms more)));
}

joined_part : (tells : Type 0) (output bytes output' : List ℕ) (ms more : List ClientMessage) → PutsWhole tells output ms → (tells → output' ≡ output ++ bytes) → PutsPart (Unit {0}) bytes more → PutsPart tells output' (ms ++ more)
joined_part tells output bytes output' ms more w o' p = record {
  front = ms ++ p.front;
  unsent = p.unsent;
  is = ap (λ (x : List ClientMessage). ms ++ x) p.is ∙ sym (append_assoc ms p.front p.unsent);
  sendable = sendable_append ms p.front w.sendable p.sendable;
  bytes = λ t. ((p.bytes tt).0, joined_bytes ms p.front output bytes output' (p.bytes tt).0 (w.bytes t) (o' t) (p.bytes tt).1);
}

joined_up_to : (n : ℕ) (tells : Type 0) (output bytes output' : List ℕ) (ms more : List ClientMessage) → PutsWhole tells output ms → (tells → output' ≡ output ++ bytes) → PutsUpTo n (Unit {0}) bytes more → PutsUpTo n tells output' (ms ++ more)
joined_up_to n tells output bytes output' ms more w o' p = record {
  front = ms ++ p.front;
  long = p.long;
  unsent = p.unsent;
  is = ap (λ (x : List ClientMessage). ms ++ x) p.is ∙ sym (append_assoc ms p.front (p.long ∷ p.unsent));
  sendable = sendable_append ms p.front w.sendable p.sendable;
  bytes = λ t. o' t ∙ (ap (λ (x : List ℕ). x ++ bytes) (w.bytes t) ∙ (ap (λ (x : List ℕ). frames_of ms ++ x) (p.bytes tt) ∙ sym (frames_append ms p.front)));
  size = p.size;
  above = p.above;
}

pub joined : (halt : Option Halt) (tells : Type 0) (output bytes output' : List ℕ) (ms more : List ClientMessage) → PutsWhole tells output ms → (tells → output' ≡ output ++ bytes) → PutsBy halt (Unit {0}) bytes more → PutsBy halt tells output' (ms ++ more)
joined None tells output bytes output' ms more w o' p = joined_whole tells output bytes output' ms more w o' p
joined (Some halts.NotYet) tells output bytes output' ms more w o' p = joined_part tells output bytes output' ms more w o' p
joined (Some halts.Failed) tells output bytes output' ms more w o' p = joined_part tells output bytes output' ms more w o' p
joined (Some (halts.TooLong n)) tells output bytes output' ms more w o' p = joined_up_to n tells output bytes output' ms more w o' p

-- the output is the same
same_part : (tells : Type 0) (o o' : List ℕ) (ms : List ClientMessage) → (tells → o' ≡ o) → PutsPart tells o ms → PutsPart tells o' ms
same_part tells o o' ms e p = record {
  front = p.front;
  unsent = p.unsent;
  is = p.is;
  sendable = p.sendable;
  bytes = λ t. ((p.bytes t).0, (p.bytes t).1 ∙ ap (λ (x : List ℕ). x ++ (p.bytes t).0) (sym (e t)));
}

pub puts_same : (halt : Option Halt) (tells : Type 0) (o o' : List ℕ) (ms : List ClientMessage) → (tells → o' ≡ o) → PutsBy halt tells o ms → PutsBy halt tells o' ms
puts_same None tells o o' ms e p = record { sendable = p.sendable; bytes = λ t. e t ∙ p.bytes t }
puts_same (Some halts.NotYet) tells o o' ms e p = same_part tells o o' ms e p
puts_same (Some halts.Failed) tells o o' ms e p = same_part tells o o' ms e p
puts_same (Some (halts.TooLong n)) tells o o' ms e p = record { front = p.front; long = p.long; unsent = p.unsent; is = p.is; sendable = p.sendable; bytes = λ t. e t ∙ p.bytes t; size = p.size; above = p.above }

-- all was written, and more may be later
pub first_whole : (tells : Type 0) (output : List ℕ) (ms : List ClientMessage) → PutsWhole tells output ms → PutsFirst tells output ms
first_whole tells output ms w = record { sendable = w.sendable; bytes = λ t. ([], w.bytes t ∙ sym (append-nil (frames_of ms))) }

pub first_later : (tells : Type 0) (output output' : List ℕ) (ms : List ClientMessage) → (tells → IsPrefix output output') → PutsFirst tells output ms → PutsFirst tells output' ms
first_later tells output output' ms more p = record {
  sendable = p.sendable;
  bytes = λ t.
      let (rest, is) = p.bytes t in
      let (rest', is') = more t in (rest ++ rest', is' ∙ (ap (λ (x : List ℕ). x ++ rest') is ∙ append_assoc (frames_of ms) rest rest'));
}

-- ---- How many bytes were written

-- no more bytes were written than the frames have
part_most : (tells : Type 0) (output : List ℕ) (ms : List ClientMessage) → PutsPart tells output ms → tells → length output ≤ length (frames_of ms)
part_most tells output ms p t =
    let front = ap length (p.bytes t).1 in
    let all = ap (λ (x : List ClientMessage). length (frames_of x)) p.is in
    let both = ap length (frames_append p.front p.unsent) in
    omega (arith, front, all, both, length-append output (p.bytes t).0, length-append (frames_of p.front) (frames_of p.unsent))

-- a further message wasn't written
pub part_less : (tells : Type 0) (output : List ℕ) (ms : List ClientMessage) (m : ClientMessage) (more : List ClientMessage) → PutsPart tells output ms → IsUnput tells output (ms ++ m ∷ more)
part_less tells output ms m more p = λ t.
    let most = part_most tells output ms p t in
    let both = ap length (frames_append ms (m ∷ more)) in
    omega (arith, most, both, length-append (frames_of ms) (frames_of (m ∷ more)), frames_some m more)

pub less_more : (tells : Type 0) (output : List ℕ) (ms more : List ClientMessage) → IsUnput tells output ms → IsUnput tells output (ms ++ more)
less_more tells output ms more less = λ t.
    let few = less t in
    let both = ap length (frames_append ms more) in
    omega (arith, few, both, length-append (frames_of ms) (frames_of more))

-- all was written, and then not all of more
pub joined_less : (tells : Type 0) (output bytes output' : List ℕ) (ms more : List ClientMessage) → PutsWhole tells output ms → (tells → output' ≡ output ++ bytes) → length bytes < length (frames_of more) → IsUnput tells output' (ms ++ more)
joined_less tells output bytes output' ms more w o' less = λ t.
    let before = ap length (w.bytes t) in
    let after = ap length (o' t) in
    let both = ap length (frames_append ms more) in
    omega (arith, before, after, both, less, length-append output bytes, length-append (frames_of ms) (frames_of more))

pub less_same : (tells : Type 0) (o o' : List ℕ) (ms : List ClientMessage) → (tells → o' ≡ o) → IsUnput tells o ms → IsUnput tells o' ms
less_same tells o o' ms e less = λ t. let few = less t in let same = ap length (e t) in omega (arith, few, same)

-- the bytes of a part
pub bytes_most : (bytes : List ℕ) (ms : List ClientMessage) → PutsPart (Unit {0}) bytes ms → length bytes ≤ length (frames_of ms)
bytes_most bytes ms p = part_most (Unit {0}) bytes ms p tt

pub up_to_less : (n : ℕ) (bytes : List ℕ) (ms : List ClientMessage) → PutsUpTo n (Unit {0}) bytes ms → length bytes < length (frames_of ms)
up_to_less n bytes ms u =
    let front = ap length (u.bytes tt) in
    let all = ap (λ (x : List ClientMessage). length (frames_of x)) u.is in
    let both = ap length (frames_append u.front (u.long ∷ u.unsent)) in
    omega (arith, front, all, both, length-append (frames_of u.front) (frames_of (u.long ∷ u.unsent)), frames_some u.long u.unsent)
