-- A conversation between its connect and its close.
use Rattle.std.proofs.Common.{◌≡◌, ◌++◌, ◌∷◌, List, [], ℕ, length, refl, sym, ◌∙◌, ap, subst, append-nil, arith, true, false, Option, None, Result, Ok, Err, inl, inr, unwrap_or}
use Rattle.std.specs.Result.{is_err}
use Rattle.lsv_defs.specs.Causes.{HasRisen}
use Rattle.lsv_link.specs.declared.connection.Connection.{Connection}
use Rattle.lsv_link.specs.declared.connection.Look.{Look}
use Rattle.lsv_link.specs.declared.link.LinkFault.{LinkFault}
use Rattle.lsv_link.specs.Link.{Connects, Continues, LinkCounts, LinkState, after_close, all_of, joined, open_of, unused}
use Rattle.lsv_dialogue.specs.Hears.{AreInOrder, came_in_all}
use Rattle.lsv_dialogue.specs.Manner.{Manner}
use Rattle.lsv_dialogue.specs.Ends.{Adds, Broke, Ended, IsFresh, Matches, NoneWaited, StaysOpen}
use Rattle.lsv_dialogue.specs.declared.ends.Cause.TheVariants as causes
use Rattle.lsv_dialogue.specs.declared.ends.End.TheVariants as ends
use Rattle.lsv_dialogue.specs.declared.ends.TalkFault.TheVariants as faults
use Rattle.lsv_dialogue.specs.declared.ends.Wants.TheVariants as wants
use Rattle.lsv_dialogue.proofs.RoundLemmas.{rounds_begin}

-- ---- A connection without bytes

module _ {S W F : Type 0} (manner : Manner S W F) (tells : Type 0) where
  none_matches : (conn : Connection) (before after : LinkCounts) → (tells → conn.input ≡ []) → (tells → conn.output ≡ []) → (tells → conn.looks ≡ []) → (tells → conn.renewed ≡ 0) → Continues before after → Matches manner tells (record { events = []; refused = []; rest = []; conn = conn; before = before; after = after })
  none_matches conn before after input output looks renewed continues = record {
    hears = λ t. record {
      sum = let sum = ap came_in_all (looks t) in let none = ap length (input t) in omega (arith, sum, none);
      order = subst (λ (x : List Look). AreInOrder 0 (length conn.output) x) (sym (looks t)) (omega arith);
      has = record { frames = []; whole = input t; each = tt; are = refl };
      after = tt;
    };
    puts = record { front = []; unsent = []; is = refl; sendable = tt; bytes = λ t. ([], sym (append-nil conn.output ∙ output t)) };
    first = tt;
    late = inl tt;
    late_last = tt;
    rounds = rounds_begin manner tells conn looks renewed;
    made = λ t. inr refl;
    few = omega arith;
    continues = continues;
  }

  -- memory ran out before the first call of the speaker
  pub broke_first : (speaker : S) (world : W) (counts : LinkCounts) (s : LinkState) → manner.talks speaker world [] → (tells → IsFresh s) → Continues counts counts → Broke manner tells speaker world counts counts (open_of s) faults.NoMem
  broke_first speaker world counts s talks fresh continues = record {
    events = [];
    fails = talks;
    taken = tt;
    rest = [];
    matches = none_matches (open_of s) counts counts (λ t. ap (λ (o : Option Connection). (unwrap_or o (unused [] false)).input) (fresh t).is_open) (λ t. ap (λ (o : Option Connection). (unwrap_or o (unused [] false)).output) (fresh t).is_open)
        (λ t. ap (λ (o : Option Connection). (unwrap_or o (unused [] false)).looks) (fresh t).is_open) (λ t. ap (λ (o : Option Connection). (unwrap_or o (unused [] false)).renewed) (fresh t).is_open) continues;
    waited = refl;
    made = λ t. ap (λ (o : Option Connection). (unwrap_or o (unused [] false)).connected) (fresh t).is_open;
  }

  -- the connection couldn't be made
  pub ended_unreached : (speaker : S) (world : W) (before after : LinkCounts) (host : List ℕ) → manner.talks speaker world [] → manner.wants speaker ≡ wants.More → Continues before after → HasRisen before.faults after.faults → NoneWaited before after
      → Ended manner tells speaker world before after (unused host false) (ends.Stopped causes.Unreached)
  ended_unreached speaker world before after host talks wanting continues risen waited = record {
    events = [];
    talks = talks;
    taken = tt;
    refused = [];
    rest = [];
    matches = none_matches (unused host false) before after (λ t. refl) (λ t. refl) (λ t. refl) (λ t. refl) continues;
    cause = record { caused = (risen, refl); good = tt; left = refl; timely = tt; waited = waited; unfailed = tt; wanting = wanting; made = λ t. refl };
    unsaid = tt;
  }

-- ---- The counts

-- a connect that succeeded, and a close, change no count
pub same_counts : (a b : LinkCounts) → b.faults ≡ a.faults → b.full ≡ a.full → b.waits ≡ a.waits → b ≡ a
same_counts a b faults full waits =
    ap (λ (n : ℕ). let x : LinkCounts = record { faults = n; full = b.full; waits = b.waits } in x) faults
    ∙ (ap (λ (n : ℕ). let x : LinkCounts = record { faults = a.faults; full = n; waits = b.waits } in x) full ∙ ap (λ (n : ℕ). let x : LinkCounts = record { faults = a.faults; full = a.full; waits = n } in x) waits)

-- what didn't fail
pub not_err : (r : Result (Unit {0}) LinkFault) → is_err r ≡ false → is_err r ≡ true → ⊥
not_err (Ok u) e f = cc
not_err (Err fault) e f = cc

-- ---- What is added to the link

pub adds_refused : (host : List ℕ) (fault : LinkFault) (old new : LinkState) → Connects (Err fault) host old new → Adds host (unused host false) old new
adds_refused host fault old new (inl e) = record { is = refl; added = inl e }
adds_refused host fault old new (inr e) = record { is = refl; added = inr (refl, e) }

pub fresh_connected : (host : List ℕ) (u : Unit {0}) (old s : LinkState) → Connects (Ok u) host old s → IsFresh s
fresh_connected host u old s e = record { host = host; is_open = ap (λ (x : LinkState). x.now) e }

pub adds_closed : (host : List ℕ) (u : Unit {0}) (old s t new : LinkState) → Connects (Ok u) host old s → StaysOpen s t → new ≡ after_close t → Adds host (open_of t) old new
adds_closed host u old s t new e stays close = record {
  is = stays.host ∙ ap (λ (x : LinkState). (open_of x).host) e;
  added = inl
      (close
      ∙ (ap (λ (o : Option Connection). let x : LinkState = record { past = joined t.past o; now = None; missed = t.missed } in x) stays.is_open
      ∙ (ap (λ (p : List Connection). let x : LinkState = record { past = p ++ open_of t ∷ []; now = None; missed = t.missed } in x) (stays.past ∙ ap (λ (x : LinkState). x.past) e)
      ∙ ap (λ (n : ℕ). let x : LinkState = record { past = all_of old ++ open_of t ∷ []; now = None; missed = n } in x) (stays.missed ∙ ap (λ (x : LinkState). x.missed) e))));
}

-- ---- By what the connect answered

pub adds_refused_by : (r : Result (Unit {0}) LinkFault) (host : List ℕ) (old new : LinkState) → is_err r ≡ true → Connects r host old new → Adds host (unused host false) old new
adds_refused_by (Ok u) host old new e c = absurd cc
adds_refused_by (Err fault) host old new e c = adds_refused host fault old new c

pub fresh_by : (r : Result (Unit {0}) LinkFault) (host : List ℕ) (old s : LinkState) → is_err r ≡ false → Connects r host old s → IsFresh s
fresh_by (Ok u) host old s e c = fresh_connected host u old s c
fresh_by (Err fault) host old s e c = absurd cc

pub adds_closed_by : (r : Result (Unit {0}) LinkFault) (host : List ℕ) (old s t new : LinkState) → is_err r ≡ false → Connects r host old s → StaysOpen s t → new ≡ after_close t → Adds host (open_of t) old new
adds_closed_by (Ok u) host old s t new e c stays close = adds_closed host u old s t new c stays close
adds_closed_by (Err fault) host old s t new e c stays close = absurd cc
