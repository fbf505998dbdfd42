-- The frames of a step's messages, put together and written.
use Rattle.std.proofs.Common.{◌≡◌, ◌<◌, ◌-◌, ◌++◌, ◌∷◌, List, [], ℕ, zero, suc, length, take, get_or, refl, sym, ◌∙◌, ap, subst, append_assoc, append-nil, arith, Option, Some, None, IsSome, is_some, false}
use Rattle.lsv_defs.specs.Pieces.{IsPrefix}
use Rattle.lsv_wire.specs.Frame.{frame_of, IsMessage}
use Rattle.lsv_wire.specs.declared.framing.TheConstants.{FRAME_LIMIT}
use Rattle.lsv_msg.specs.Messages.{client_bytes}
use Rattle.lsv_msg.specs.declared.messages.ClientMessage.{ClientMessage}
use Rattle.lsv_link.specs.Link.{LinkState}
use Rattle.lsv_dialogue.specs.Events.{frames_of}
use Rattle.lsv_dialogue.specs.Puts.{PutsPart, PutsUpTo, PutsWhole}
use Rattle.lsv_dialogue.specs.Stands.{AreFrames, IsBatch, PutsBy, PutsMore, Writes, WritesFront}
use Rattle.lsv_dialogue.specs.declared.put.Batch.{Batch}
use Rattle.lsv_dialogue.specs.declared.talk.Halt.{Halt}
use Rattle.lsv_dialogue.specs.declared.talk.Halt.TheVariants as halts
use Rattle.lsv_dialogue.proofs.FrameLemmas.{frames_append}
use Rattle.lsv_dialogue.proofs.PutLemmas.{by_part, bytes_most, sendable_append, up_to_less}

pub whole_none : (bytes : List ℕ) → bytes ≡ [] → PutsWhole (Unit {0}) bytes []
whole_none bytes e = record { sendable = tt; bytes = λ t. e }

pub whole_push : (bytes bytes' : List ℕ) (ms : List ClientMessage) (m : ClientMessage) → PutsWhole (Unit {0}) bytes ms → bytes' ≡ bytes ++ frame_of (client_bytes m) → IsMessage (client_bytes m) → PutsWhole (Unit {0}) bytes' (ms ++ m ∷ [])
whole_push bytes bytes' ms m w e is = record {
  sendable = sendable_append ms (m ∷ []) w.sendable (is, tt);
  bytes = λ t.
      e ∙ (ap (λ (x : List ℕ). x ++ frame_of (client_bytes m)) (w.bytes tt)
      ∙ (ap (λ (x : List ℕ). frames_of ms ++ x) (sym (append-nil (frame_of (client_bytes m)))) ∙ sym (frames_append ms (m ∷ []))));
}

pub up_to_push : (n : ℕ) (bytes : List ℕ) (ms : List ClientMessage) (m : ClientMessage) → PutsWhole (Unit {0}) bytes ms → n ≡ length (client_bytes m) → FRAME_LIMIT < n → PutsUpTo n (Unit {0}) bytes (ms ++ m ∷ [])
up_to_push n bytes ms m w size above = record { front = ms; long = m; unsent = []; is = refl; sendable = w.sendable; bytes = w.bytes; size = size; above = above }

up_to_more : (n : ℕ) (bytes : List ℕ) (ms more : List ClientMessage) → PutsUpTo n (Unit {0}) bytes ms → PutsUpTo n (Unit {0}) bytes (ms ++ more)
up_to_more n bytes ms more u = record {
  front = u.front;
  long = u.long;
  unsent = u.unsent ++ more;
  is = ap (λ (x : List ClientMessage). x ++ more) u.is ∙ append_assoc u.front (u.long ∷ u.unsent) more;
  sendable = u.sendable;
  bytes = u.bytes;
  size = u.size;
  above = u.above;
}

-- a batch that goes on has the frames of all
pub batch_whole : (ms : List ClientMessage) (batch : Batch) → batch.too_long ≡ None → IsBatch ms batch → PutsWhole (Unit {0}) batch.bytes ms
batch_whole ms batch e b = subst (λ (o : Option ℕ). AreFrames o batch.bytes ms) e b

pub batch_up_to : (n : ℕ) (ms : List ClientMessage) (batch : Batch) → batch.too_long ≡ Some n → IsBatch ms batch → PutsUpTo n (Unit {0}) batch.bytes ms
batch_up_to n ms batch e b = subst (λ (o : Option ℕ). AreFrames o batch.bytes ms) e b

pub whole_batch : (ms : List ClientMessage) (batch : Batch) → batch.too_long ≡ None → PutsWhole (Unit {0}) batch.bytes ms → IsBatch ms batch
whole_batch ms batch e w = subst (λ (o : Option ℕ). AreFrames o batch.bytes ms) (sym e) w

pub up_to_batch : (n : ℕ) (ms : List ClientMessage) (batch : Batch) → batch.too_long ≡ Some n → PutsUpTo n (Unit {0}) batch.bytes ms → IsBatch ms batch
up_to_batch n ms batch e u = subst (λ (o : Option ℕ). AreFrames o batch.bytes ms) (sym e) u

split_at : (ms : List ClientMessage) (i : ℕ) (m : ClientMessage) → i < length ms → m ≡ get_or ms i m → (more : List ClientMessage) × (ms ≡ take i ms ++ m ∷ more)
split_at [] zero m lt e = absurd (omega arith)
split_at [] (suc i) m lt e = absurd (omega arith)
split_at (x ∷ ms) zero m lt e = (ms, ap (λ y. y ∷ ms) (sym e))
split_at (x ∷ ms) (suc i) m lt e = let (more, is) = split_at ms i m (omega (arith, lt)) e in (more, ap (λ (y : List ClientMessage). x ∷ y) is)

one_more : (ms more : List ClientMessage) (front : List ClientMessage) (m : ClientMessage) → ms ≡ front ++ m ∷ more → ms ≡ (front ++ m ∷ []) ++ more
one_more ms more front m e = e ∙ sym (append_assoc front (m ∷ []) more)

take_next : (ms : List ClientMessage) (i : ℕ) (m : ClientMessage) → i < length ms → m ≡ get_or ms i m → take (suc i) ms ≡ take i ms ++ m ∷ []
take_next [] zero m lt e = absurd (omega arith)
take_next [] (suc i) m lt e = absurd (omega arith)
take_next (x ∷ ms) zero m lt e = ap (λ y. y ∷ []) (sym e)
take_next (x ∷ ms) (suc i) m lt e = ap (λ (y : List ClientMessage). x ∷ y) (take_next ms i m (omega (arith, lt)) e)

-- the batch of the first messages and the next one
pub batch_next : (ms : List ClientMessage) (i j : ℕ) (m : ClientMessage) (batch : Batch) → i < length ms → m ≡ get_or ms i m → j ≡ suc i → IsBatch (take i ms ++ m ∷ []) batch → IsBatch (take j ms) batch
batch_next ms i j m batch lt e k b = subst (λ (x : List ClientMessage). IsBatch x batch) (sym (ap (λ (n : ℕ). take n ms) k ∙ take_next ms i m lt e)) b

-- one that is too long ends the batch
pub batch_ended : (ms : List ClientMessage) (i : ℕ) (m : ClientMessage) (batch : Batch) (n : ℕ) → i < length ms → m ≡ get_or ms i m → batch.too_long ≡ Some n → IsBatch (take i ms ++ m ∷ []) batch → IsBatch ms batch
batch_ended ms i m batch n lt e long b =
    let (more, is) = split_at ms i m lt e in
    up_to_batch n ms batch long (subst (λ (x : List ClientMessage). PutsUpTo n (Unit {0}) batch.bytes x) (sym (one_more ms more (take i ms) m is))
    (up_to_more n batch.bytes (take i ms ++ m ∷ []) more (batch_up_to n (take i ms ++ m ∷ []) batch long b)))

-- ---- Written

batch_part : (ms : List ClientMessage) (batch : Batch) (o : Option ℕ) → batch.too_long ≡ o → IsBatch ms batch → PutsPart (Unit {0}) batch.bytes ms
batch_part ms batch None e b = by_part None (Unit {0}) batch.bytes ms (batch_whole ms batch e b)
batch_part ms batch (Some n) e b = by_part (Some (halts.TooLong n)) (Unit {0}) batch.bytes ms (batch_up_to n ms batch e b)

part_front : (bytes front : List ℕ) (ms : List ClientMessage) → IsPrefix front bytes → PutsPart (Unit {0}) bytes ms → PutsPart (Unit {0}) front ms
part_front bytes front ms (rest, is) p = record {
  front = p.front;
  unsent = p.unsent;
  is = p.is;
  sendable = p.sendable;
  bytes = λ t. let (more, e) = p.bytes tt in (rest ++ more, e ∙ (ap (λ (x : List ℕ). x ++ more) is ∙ append_assoc front rest more));
}

-- the link took no more
pub put_halted : (tells whole : Type 0) (n : ℕ) (halt : Halt) (ms : List ClientMessage) (batch : Batch) (a b : LinkState) → IsBatch ms batch → WritesFront tells whole n batch.bytes a b → n ≡ length ms - 1 → (whole → ⊥) → ((n : ℕ) → halt ≡ halts.TooLong n → ⊥) → PutsMore (Some halt) tells ms a b
put_halted tells whole n halt ms batch a b is w count not other = record {
  bytes = w.front;
  puts = go halt other;
  less = λ h e. let less = w.less not in let most = bytes_most batch.bytes ms (batch_part ms batch batch.too_long refl is) in omega (arith, less, most);
  wrote = w.wrote;
  renewed = λ t. let r = w.renewed t in omega (arith, r, count);
}
  where
    part : PutsPart (Unit {0}) w.front ms
    part = part_front batch.bytes w.front ms w.is (batch_part ms batch batch.too_long refl is)

    go : (h : Halt) → ((n : ℕ) → h ≡ halts.TooLong n → ⊥) → PutsBy (Some h) (Unit {0}) w.front ms
    go halts.NotYet never = part
    go halts.Failed never = part
    go (halts.TooLong n) never = absurd (never n refl)

-- all was written
pub put_whole : (tells whole : Type 0) (n : ℕ) (ms : List ClientMessage) (batch : Batch) (a b : LinkState) → IsBatch ms batch → batch.too_long ≡ None → WritesFront tells whole n batch.bytes a b → n ≡ length ms - 1 → whole → PutsMore None tells ms a b
put_whole tells whole n ms batch a b is e w count all = record { bytes = batch.bytes; puts = batch_whole ms batch e is; less = λ h e. absurd cc; wrote = λ t. subst (λ (x : List ℕ). Writes x a b) (w.all all) (w.wrote t); renewed = λ t. let r = w.renewed t in omega (arith, r, count) }

pub put_up_to : (tells whole : Type 0) (k n : ℕ) (ms : List ClientMessage) (batch : Batch) (a b : LinkState) → IsBatch ms batch → batch.too_long ≡ Some n → WritesFront tells whole k batch.bytes a b → k ≡ length ms - 1 → whole → PutsMore (Some (halts.TooLong n)) tells ms a b
put_up_to tells whole k n ms batch a b is e w count all = record { bytes = batch.bytes; puts = batch_up_to n ms batch e is; less = λ h k. up_to_less n batch.bytes ms (batch_up_to n ms batch e is); wrote = λ t. subst (λ (x : List ℕ). Writes x a b) (w.all all) (w.wrote t); renewed = λ t. let r = w.renewed t in omega (arith, r, count) }

-- one that is too long, whatever its length, ends the batch
pub batch_ended_by : (ms : List ClientMessage) (i : ℕ) (m : ClientMessage) (batch : Batch) → i < length ms → m ≡ get_or ms i m → IsSome batch.too_long → IsBatch (take i ms ++ m ∷ []) batch → IsBatch ms batch
batch_ended_by ms i m batch lt e long b = go batch.too_long refl long
  where
    go : (o : Option ℕ) → batch.too_long ≡ o → IsSome o → IsBatch ms batch
    go None is none = absurd cc
    go (Some n) is some = batch_ended ms i m batch n lt e is b

pub none_of : {A : Type 0} (o : Option A) → is_some o ≡ false → o ≡ None
none_of None e = refl
none_of (Some x) e = absurd cc

pub some_not_none : {A : Type 0} (x : A) (o : Option A) → o ≡ Some x → o ≡ None → ⊥
some_not_none x o some none = let no : Some x ≡ None = sym some ∙ none in cc

pub none_not_some : {A : Type 0} (x : A) → (let o : Option A = None in o) ≡ Some x → ⊥
none_not_some x e = cc
