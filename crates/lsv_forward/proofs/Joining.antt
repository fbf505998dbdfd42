-- What the connections of a run make of a link.
use Rattle.std.proofs.Common.{◌≡◌, ◌∙◌, inl, inr, ℕ, ◌+◌, ◌-◌, ◌^◌, ◌<◌, ◌≤◌, suc, min, Option, Some, None, IsSome, List, [], ◌∷◌, ◌++◌, length, sym, ap, subst, arith}
use Rattle.std.proofs.lemmas.List.{length-append}
use Rattle.lsv_disk.specs.View.{Image}
use Rattle.lsv_link.specs.declared.connection.Connection.{Connection}
use Rattle.lsv_link.specs.Link.{LinkState, after_miss, all_of, joined}
use Rattle.lsv_forward.specs.Logs.{AreJoined, Handled, Joins, WasAs, WereAs}
use Rattle.lsv_forward.specs.Run.{AreUnsent, IsClosed, IsUnsent}
use Rattle.lsv_forward.specs.declared.outcome.Outcome.{Outcome}
use Rattle.lsv_forward.specs.declared.outcome.Outcome.TheVariants.{Passed, Marked, Relayed, Pending, Untried, Unopened, Failed}

-- no connection went, none is open, and no count of missed ones fell or passed its end
record Grows (before after : LinkState) : Type 0 where
  closed : IsClosed after
  past : length before.past ≤ length after.past
  missed : before.missed ≤ after.missed
  bound : after.missed ≤ 2 ^ 64 - 1

all_closed : (link : LinkState) → IsClosed link → all_of link ≡ link.past
all_closed link closed = ap (λ (o : Option Connection). joined link.past o) closed

-- one connection more is there, or one more was missed
one_longer : (conn : Connection) (mid after : LinkState) → IsClosed mid → after ≡ record mid { past = all_of mid ++ conn ∷ []; now = None } → length after.past ≡ length mid.past + 1
one_longer conn mid after closed is =
    ap (λ (s : LinkState). length s.past) is ∙ length-append (all_of mid) (conn ∷ []) ∙ ap (λ (l : List Connection). length l + 1) (all_closed mid closed)

one_missed : (mid after : LinkState) → after ≡ after_miss mid → after.missed ≡ min (mid.missed + 1) (2 ^ 64 - 1)
one_missed mid after is = ap (λ (s : LinkState). s.missed) is

same_past : (mid after : LinkState) → IsClosed mid → after ≡ after_miss mid → after.past ≡ mid.past
same_past mid after closed is = ap (λ (s : LinkState). s.past) is ∙ all_closed mid closed

grows_one : (o : Option Connection) (before mid after : LinkState) → Grows before mid → Joins o mid after → Grows before after
grows_one None before mid after g is = subst (λ (s : LinkState). Grows before s) (sym is) g
grows_one (Some conn) before mid after g (inl is) = record {
  closed = ap (λ (s : LinkState). s.now) is;
  past = let more = one_longer conn mid after g.closed is in let was = g.past in omega arith;
  missed = let same : after.missed ≡ mid.missed = ap (λ (s : LinkState). s.missed) is in let was = g.missed in omega arith;
  bound = let same : after.missed ≡ mid.missed = ap (λ (s : LinkState). s.missed) is in let was = g.bound in omega arith;
}
grows_one (Some conn) before mid after g (inr (refused, is)) = record {
  closed = ap (λ (s : LinkState). s.now) is;
  past = let same : length after.past ≡ length mid.past = ap length (same_past mid after g.closed is) in let was = g.past in omega arith;
  missed = let more = one_missed mid after is in let was = g.missed in let few = g.bound in omega arith;
  bound = let more = one_missed mid after is in omega arith;
}

grows : (logs : List Handled) (before after : LinkState) → IsClosed before → before.missed ≤ 2 ^ 64 - 1 → AreJoined logs before after → Grows before after
grows [] before after closed few is = subst (λ (s : LinkState). Grows before s) (sym is) (record { closed = closed; past = omega arith; missed = omega arith; bound = few })
grows (log ∷ logs) before after closed few (mid, rest, one) = grows_one log.conn before mid after (grows logs before mid closed few rest) one

-- a link with a connection more, or one more that was missed, is another one
changed : (conn : Connection) (before mid : LinkState) → before.missed < 2 ^ 64 - 1 → Grows before mid → Joins (Some conn) mid before → ⊥
changed conn before mid few g (inl is) = let more = one_longer conn mid before g.closed is in let was = g.past in let f : ⊥ = omega arith in f
changed conn before mid few g (inr (refused, is)) = let more = one_missed mid before is in let was = g.missed in let f : ⊥ = omega arith in f

no_conn : IsSome {T = Connection} None → ⊥
no_conn some = absurd (cc)

unsent_one : (tells : Type 0) (n : ℕ) (outcome : Outcome) (image : Image) → WasAs tells n outcome None image → IsUnsent outcome
unsent_one tells n Passed image was = tt
unsent_one tells n Marked image was = tt
unsent_one tells n Relayed image was = no_conn was.0
unsent_one tells n (Pending cause) image was = no_conn was.0
unsent_one tells n Untried image was = tt
unsent_one tells n (Unopened fault) image was = tt
unsent_one tells n (Failed fault) image was = no_conn was.0

pub unsent : (tells : Type 0) (logs : List Handled) (image : Image) (link : LinkState) → IsClosed link → link.missed < 2 ^ 64 - 1 → WereAs tells logs image → AreJoined logs link link → AreUnsent logs
unsent tells [] image link closed room were is = tt
unsent tells (log ∷ logs) image link closed room were (mid, rest, one) = pick log.conn were.0 one (unsent tells logs image link closed room were.1) where
  pick : (o : Option Connection) → WasAs tells (suc (length logs)) log.outcome o image → Joins o mid link → (AreJoined logs link link → AreUnsent logs) → AreUnsent (log ∷ logs)
  pick None was same more = (
    unsent_one tells (suc (length logs)) log.outcome image was,
    more (subst (λ (s : LinkState). AreJoined logs link s) (sym same) rest),
  )
  pick (Some conn) was joins more = absurd (changed conn link mid room (grows logs link mid closed (omega (arith, room)) rest) joins)
