-- What writing and reading make of a link.
use Rattle.std.proofs.Common.{◌≡◌, ◌≤◌, ◌<◌, ◌+◌, ◌++◌, List, [], ℕ, length, refl, sym, ◌∙◌, ap, append_assoc, append-nil, length-append, arith, false, Option, Some, unwrap_or, option_map, take, drop}
use Rattle.lsv_defs.specs.Causes.{HasRisen}
use Rattle.std.proofs.lemmas.List.{take-append-drop}
use Rattle.lsv_port.specs.declared.port.Gave.{Gave}
use Rattle.lsv_port.specs.declared.port.Gave.TheVariants as gave
use Rattle.lsv_link.specs.declared.connection.Connection.{Connection}
use Rattle.lsv_link.specs.Link.{Continues, IsConnected, LinkCounts, LinkState, after_renew, after_write, open_of, renewed_on, unused, written_on}
use Rattle.lsv_dialogue.specs.Ends.{StaysOpen}
use Rattle.lsv_dialogue.specs.Stands.{HasPut, IsHaltedBy, Renews, RenewsFew, Writes, WritesFront}
use Rattle.lsv_dialogue.specs.declared.talk.Halt.{Halt}
use Rattle.lsv_dialogue.specs.declared.talk.Halt.TheVariants as halts

-- ---- Counts

pub continues_same : (a : LinkCounts) → Continues a a
continues_same a = record { faults = omega arith; full = omega arith; waits = omega arith }

pub continues_then : (a b c : LinkCounts) → Continues a b → Continues b c → Continues a c
continues_then a b c x y = record { faults = omega (arith, x.faults, y.faults); full = omega (arith, x.full, y.full); waits = omega (arith, x.waits, y.waits) }

-- a rise after it is a rise
pub risen_later : (a b c : ℕ) → a ≤ b → HasRisen b c → HasRisen a c
risen_later a b c low h = λ lt. let x = h lt in omega (arith, low, x)

-- a rise before it is a rise
pub risen_before : (a b c : ℕ) → HasRisen a b → b ≤ c → HasRisen a c
risen_before a b c h low = λ lt. let x = h (omega (arith, lt, low)) in omega (arith, low, x)

pub halted_later : (a b c : LinkCounts) (halt : Halt) → Continues a b → IsHaltedBy b c halt → IsHaltedBy a c halt
halted_later a b c halts.NotYet x y = risen_later a.full b.full c.full x.full y
halted_later a b c halts.Failed x y = risen_later a.faults b.faults c.faults x.faults y
halted_later a b c (halts.TooLong n) x y = tt

pub halted_before : (a b c : LinkCounts) (halt : Halt) → IsHaltedBy a b halt → Continues b c → IsHaltedBy a c halt
halted_before a b c halts.NotYet y x = risen_before a.full b.full c.full y x.full
halted_before a b c halts.Failed y x = risen_before a.faults b.faults c.faults y x.faults
halted_before a b c (halts.TooLong n) y x = tt

-- writing after it
pub put_none : (went took : Type 0) (a : LinkCounts) → HasPut went took a a
put_none went took a = record { continues = continues_same a; faults = λ t. refl; full = λ t. refl; waits = refl }

pub put_then : (went took : Type 0) (a b c : LinkCounts) → HasPut (Unit {0}) (Unit {0}) a b → HasPut went took b c → HasPut went took a c
put_then went took a b c x y = record { continues = continues_then a b c x.continues y.continues; faults = λ t. y.faults t ∙ x.faults tt; full = λ t. y.full t ∙ x.full tt; waits = y.waits ∙ x.waits }

pub put_by : (went went' took took' : Type 0) (a b : LinkCounts) → (went' → went) → (took' → took) → HasPut went took a b → HasPut went' took' a b
put_by went went' took took' a b g f x = record { continues = x.continues; faults = λ t. x.faults (g t); full = λ t. x.full (f t); waits = x.waits }

-- ---- The open connection

pub open_there : (s : LinkState) (conn : Connection) → s.now ≡ Some conn → open_of s ≡ conn
open_there s conn e = ap (λ (o : Option Connection). unwrap_or o (unused [] false)) e

pub stays_same : (s : LinkState) → IsConnected s → StaysOpen s s
stays_same s c = record { past = refl; missed = refl; host = refl; connected = refl; is_open = c.is_open ∙ ap (λ (x : Connection). Some x) (sym (open_there s c.conn c.is_open)) }

pub stays_then : (a b c : LinkState) → StaysOpen a b → StaysOpen b c → StaysOpen a c
stays_then a b c x y = record { past = y.past ∙ x.past; missed = y.missed ∙ x.missed; host = y.host ∙ x.host; connected = y.connected ∙ x.connected; is_open = y.is_open }

pub stays_connected : (a b : LinkState) → StaysOpen a b → IsConnected b
stays_connected a b x = record { conn = open_of b; is_open = x.is_open }

-- ---- Writing

pub writes_none : (s : LinkState) → IsConnected s → Writes [] s s
writes_none s c = record { stays = stays_same s c; output = sym (append-nil (open_of s).output); input = refl; looks = refl }

pub writes_more : (front more : List ℕ) (a b c : LinkState) → Writes front a b → Writes more b c → Writes (front ++ more) a c
writes_more front more a b c x y = record {
  stays = stays_then a b c x.stays y.stays;
  output = y.output ∙ (ap (λ (o : List ℕ). o ++ more) x.output ∙ append_assoc (open_of a).output front more);
  input = y.input ∙ x.input;
  looks = y.looks ∙ x.looks;
}

-- the state after a write
written : (answer : Gave) (bytes : List ℕ) (a b : LinkState) (c : IsConnected a) → b ≡ after_write answer bytes a → b ≡ record a { now = Some (written_on answer bytes (open_of a)) }
written answer bytes a b c e = e ∙ ap (λ (o : Option Connection). let t : LinkState = record a { now = option_map (written_on answer bytes) o } in t) (stays_same a c).is_open

-- one write that took these bytes
pub writes_one : (n : ℕ) (bytes : List ℕ) (a b : LinkState) → IsConnected a → b ≡ after_write (gave.Bytes n) bytes a → Writes (take n bytes) a b
writes_one n bytes a b c e =
    let is = written (gave.Bytes n) bytes a b c e in record {
      stays = record {
        past = ap (λ (s : LinkState). s.past) is;
        missed = ap (λ (s : LinkState). s.missed) is;
        host = ap (λ (s : LinkState). (open_of s).host) is;
        connected = ap (λ (s : LinkState). (open_of s).connected) is;
        is_open = ap (λ (s : LinkState). s.now) is ∙ ap (λ (x : Connection). Some x) (sym (ap open_of is));
      };
      output = ap (λ (s : LinkState). (open_of s).output) is;
      input = ap (λ (s : LinkState). (open_of s).input) is;
      looks = ap (λ (s : LinkState). (open_of s).looks) is;
    }

-- a write that put nothing
writes_nothing : (answer : Gave) (bytes : List ℕ) (a b : LinkState) → IsConnected a → b ≡ after_write answer bytes a → (written_on answer bytes (open_of a) ≡ record (open_of a) { dry = false }) → Writes [] a b
writes_nothing answer bytes a b c e same =
    let is : b ≡ record a { now = Some (record (open_of a) { dry = false }) } = written answer bytes a b c e ∙ ap (λ (k : Connection). let t : LinkState = record a { now = Some k } in t) same in record {
      stays = record {
        past = ap (λ (s : LinkState). s.past) is;
        missed = ap (λ (s : LinkState). s.missed) is;
        host = ap (λ (s : LinkState). (open_of s).host) is;
        connected = ap (λ (s : LinkState). (open_of s).connected) is;
        is_open = ap (λ (s : LinkState). s.now) is ∙ ap (λ (x : Connection). Some x) (sym (ap open_of is));
      };
      output = ap (λ (s : LinkState). (open_of s).output) is ∙ sym (append-nil (open_of a).output);
      input = ap (λ (s : LinkState). (open_of s).input) is;
      looks = ap (λ (s : LinkState). (open_of s).looks) is;
    }

same_front : (front : List ℕ) (a c : LinkState) → Writes (front ++ []) a c → Writes front a c
same_front front a c w = record { stays = w.stays; output = w.output ∙ ap (λ (x : List ℕ). (open_of a).output ++ x) (append-nil front); input = w.input; looks = w.looks }

pub writes_not_yet : (front bytes : List ℕ) (a b c : LinkState) → Writes front a b → IsConnected b → c ≡ after_write gave.NotYet bytes b → Writes front a c
writes_not_yet front bytes a b c w k e = same_front front a c (writes_more front [] a b c w (writes_nothing gave.NotYet bytes b c k e refl))

pub writes_failed : (front bytes : List ℕ) (a b c : LinkState) → Writes front a b → IsConnected b → c ≡ after_write gave.Failed bytes b → Writes front a c
writes_failed front bytes a b c w k e = same_front front a c (writes_more front [] a b c w (writes_nothing gave.Failed bytes b c k e refl))

-- a write renews nothing
same_renewed : (answer : Gave) (bytes : List ℕ) (k : Connection) → (written_on answer bytes k).renewed ≡ k.renewed
same_renewed (gave.Bytes n) bytes k = refl
same_renewed gave.NotYet bytes k = refl
same_renewed gave.Failed bytes k = refl

pub written_renewed : (answer : Gave) (bytes : List ℕ) (a b : LinkState) → IsConnected a → b ≡ after_write answer bytes a → (open_of b).renewed ≡ (open_of a).renewed
written_renewed answer bytes a b c e = ap (λ (s : LinkState). (open_of s).renewed) (written answer bytes a b c e) ∙ same_renewed answer bytes (open_of a)

-- the connection wasn't renewed, or was once
pub renews_never : (a : LinkState) → IsConnected a → RenewsFew 0 a a
renews_never a c = record { writes = writes_none a c; renewed = omega arith }

pub renews_once : (a b : LinkState) → Renews a b → RenewsFew 1 a b
renews_once a b r = record { writes = record { stays = r.stays; output = r.output ∙ sym (append-nil (open_of a).output); input = r.input; looks = r.looks }; renewed = r.renewed }

-- some bytes were written, and then it was renewed
pub writes_renewed : (front : List ℕ) (n : ℕ) (a b c : LinkState) → Writes front a b → RenewsFew n b c → Writes front a c
writes_renewed front n a b c w r = same_front front a c (writes_more front [] a b c w r.writes)

-- the connection was renewed
pub renews_by : (a b : LinkState) → IsConnected a → b ≡ after_renew a → Renews a b
renews_by a b c e =
    let is : b ≡ record a { now = Some (renewed_on (open_of a)) } = e ∙ ap (λ (o : Option Connection). let t : LinkState = record a { now = option_map renewed_on o } in t) (stays_same a c).is_open in record {
      stays = record {
        past = ap (λ (s : LinkState). s.past) is;
        missed = ap (λ (s : LinkState). s.missed) is;
        host = ap (λ (s : LinkState). (open_of s).host) is;
        connected = ap (λ (s : LinkState). (open_of s).connected) is;
        is_open = ap (λ (s : LinkState). s.now) is ∙ ap (λ (x : Connection). Some x) (sym (ap open_of is));
      };
      output = ap (λ (s : LinkState). (open_of s).output) is;
      input = ap (λ (s : LinkState). (open_of s).input) is;
      looks = ap (λ (s : LinkState). (open_of s).looks) is;
      renewed = let n = ap (λ (s : LinkState). (open_of s).renewed) is in omega (arith, n);
      some = let n = ap (λ (s : LinkState). (open_of s).renewed) is in omega (arith, n);
    }

pub taken_front : (whole front rest : List ℕ) (n : ℕ) → whole ≡ front ++ rest → whole ≡ (front ++ take n rest) ++ drop n rest
taken_front whole front rest n e = e ∙ (ap (λ (x : List ℕ). front ++ x) (sym (take-append-drop n rest)) ∙ sym (append_assoc front (take n rest) (drop n rest)))

-- the first part of the bytes was written
pub front_of : (tells whole : Type 0) (n : ℕ) (bytes front rest : List ℕ) (a b : LinkState) → bytes ≡ front ++ rest → (tells → Writes front a b) → (whole → rest ≡ []) → ((whole → ⊥) → 0 < length rest) → (tells → (open_of b).renewed ≤ (open_of a).renewed + n) → WritesFront tells whole n bytes a b
front_of tells whole n bytes front rest a b e w all some renewed = record {
  front = front;
  is = (rest, e);
  all = λ k. sym (append-nil front) ∙ (ap (λ (x : List ℕ). front ++ x) (sym (all k)) ∙ sym e);
  less = λ not. let more = some not in let both = ap length e in omega (arith, more, both, length-append front rest);
  wrote = w;
  renewed = renewed;
}
