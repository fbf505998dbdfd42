-- One pass of a row puts something, or ends.
use Rattle.std.proofs.Common.{◌≡◌, ◌≢◌, ℕ, ◌+◌, ◌<◌, ◌≤◌, Some, None, List, [], ◌∷◌, ◌++◌, set, get_or, length, refl, sym, ap, ◌∙◌, subst, append-nil, append_assoc, arith}
use Rattle.std.specs.Prelude.{slice_get}
use Rattle.std.proofs.lemmas.List.{length-set, set-get_or}
use Rattle.std.proofs.lemmas.Option.{slice_get_within}
use mathlib.Core.Logic.{dite}
use native.Mathlib.Decide.{ℕ_discrete}
use Rattle.lsv_queue.specs.Order.{after_body}
use Rattle.lsv_queue.specs.Settled.{puts_at, puts_of}
use Rattle.lsv_queue.specs.declared.queue.InPass.{InPass}
use Rattle.lsv_queue.specs.declared.queue.Queue.{Queue}
use Rattle.lsv_queue.proofs.Places.{one_there, set_at, set_off}
use Rattle.lsv_session.specs.declared.reply.Reply.{Reply}
use Rattle.lsv_links.specs.Turns.{replies_to}
use Rattle.lsv_threads.specs.Rows.{ArePasses, Gives, IsSender}
use Rattle.lsv_threads.proofs.Hearing.{other_reply, own_reply, replies_append}

module _ {T : Type 0} where
  pub pass_is : (p q : InPass T) → q.queue ≡ p.queue → q.list ≡ p.list → q ≡ p
  pass_is p q a b i = record { queue = a i; list = b i }

  -- a pass that is written back as it was
  pub set_same : (xs : List (InPass T)) (i : ℕ) (p q : InPass T) → p ≡ get_or xs i p → q ≡ p → set xs i q ≡ xs
  set_same xs i p q here same = ap (set xs i) (same ∙ here) ∙ set-get_or xs i p

  module _ (queues : List (Queue T)) (put : List (InPass T)) (i : ℕ) (p q : InPass T) (here : slice_get put i ≡ Some p) (queue : q.queue ≡ p.queue) where
    low : i < length put
    low = slice_get_within put i p here

    now : slice_get (set put i q) i ≡ Some q
    now = set_at put i q low

    is_q : (k : ℕ) (y : InPass T) → k ≡ i → slice_get (set put i q) k ≡ Some y → y ≡ q
    is_q k y e b = one_there (set put i q) i y q (subst (λ (n : ℕ). slice_get (set put i q) n ≡ Some y) e b) now

    sender_at : (first : List (InPass T)) (ended : ℕ) → q.list.number ≡ p.list.number → q.list.made ≡ p.list.made → ArePasses queues first put ended → (k : ℕ) (a b : InPass T) → slice_get first k ≡ Some a → slice_get (set put i q) k ≡ Some b → IsSender a b
    sender_at first ended number made are k a b x y = dite (ℕ_discrete k i)
        (λ (e : k ≡ i).
        let s = are.each i a p (subst (λ (n : ℕ). slice_get first n ≡ Some a) e x) here in
        subst (λ (z : InPass T). IsSender a z) (sym (is_q k b e y)) (record { queue = queue ∙ s.queue; number = number ∙ s.number; made = made ∙ s.made }))
        (λ (ne : k ≢ i). are.each k a b x (sym (set_off put i k q ne) ∙ y))

    queue_at : (first : List (InPass T)) (ended : ℕ) → ArePasses queues first put ended → (k : ℕ) (a : Queue T) (b : InPass T) → slice_get queues k ≡ Some a → slice_get (set put i q) k ≡ Some b → b.queue ≡ a.name
    queue_at first ended are k a b x y = dite (ℕ_discrete k i)
        (λ (e : k ≡ i). ap (λ (z : InPass T). z.queue) (is_q k b e y) ∙ (queue ∙ are.of_queues.each i a p (subst (λ (n : ℕ). slice_get queues n ≡ Some a) e x) here))
        (λ (ne : k ≢ i). are.of_queues.each k a b x (sym (set_off put i k q ne) ∙ y))

    -- one more item was put by a pass that goes on
    module _ (x : T) (list : q.list ≡ after_body (Some x) p.list) where
      pub passes_put : (first : List (InPass T)) → ArePasses queues first put 0 → ArePasses queues first (set put i q) 0
      passes_put first are = record {
        size = length-set put i q ∙ are.size;
        of_queues = record { size = length-set put i q ∙ are.of_queues.size; each = queue_at first 0 are };
        within = let e = length-set put i q in let l = low in omega arith;
        each = sender_at first 0 (ap (λ t. t.number) list) (ap (λ t. t.made) list) are;
        over = λ k b y less. absurd (omega arith);
        going = λ k b y high. dite (ℕ_discrete k i)
            (λ (e : k ≡ i). ap (λ (z : InPass T). z.list.ended) (is_q k b e y) ∙ (ap (λ t. t.ended) list ∙ are.going i p here (omega arith)))
            (λ (ne : k ≢ i). are.going k b (sym (set_off put i k q ne) ∙ y) (omega arith));
      }

      pub puts_put : puts_at (set put i q) i ≡ puts_at put i ++ x ∷ []
      puts_put = ap puts_of now ∙ (ap (λ t. t.put) list ∙ ap (λ l. l ++ x ∷ []) (sym (ap puts_of here)))

      pub puts_off : (k : ℕ) → k ≢ i → puts_at (set put i q) k ≡ puts_at put k
      puts_off k ne = ap puts_of (set_off put i k q ne)

    -- the pass has ended
    module _ (list : q.list ≡ after_body None p.list) where
      pub passes_ended : (first : List (InPass T)) → ArePasses queues first put i → ArePasses queues first (set put i q) (i + 1)
      passes_ended first are = record {
        size = length-set put i q ∙ are.size;
        of_queues = record { size = length-set put i q ∙ are.of_queues.size; each = queue_at first i are };
        within = let e = length-set put i q in let l = low in omega arith;
        each = sender_at first i (ap (λ t. t.number) list) (ap (λ t. t.made) list) are;
        over = λ k b y less. dite (ℕ_discrete k i)
            (λ (e : k ≡ i). ap (λ (z : InPass T). z.list.ended) (is_q k b e y) ∙ ap (λ t. t.ended) list)
            (λ (ne : k ≢ i). are.over k b (sym (set_off put i k q ne) ∙ y) (omega (arith, ne)));
        going = λ k b y high. are.going k b (sym (set_off put i k q (λ e. absurd (omega arith))) ∙ y) (omega arith);
      }

      pub puts_ended : (k : ℕ) → puts_at (set put i q) k ≡ puts_at put k
      puts_ended k = dite (ℕ_discrete k i)
          (λ (e : k ≡ i). subst (λ (n : ℕ). puts_at (set put i q) n ≡ puts_at put n) (sym e) (ap puts_of now ∙ (ap (λ t. t.put) list ∙ sym (ap puts_of here))))
          (λ (ne : k ≢ i). ap puts_of (set_off put i k q ne))

-- ---- What is given

pub gives_none : (queues : List (Queue Reply)) (put : List (InPass Reply)) → Gives queues put put []
gives_none queues put = record { size = refl; passes = λ first a. a; puts = λ w less. sym (append-nil (puts_at put w)) }

pub gives_then : (queues : List (Queue Reply)) (a b c : List (InPass Reply)) (xs ys : List Reply) → Gives queues a b xs → Gives queues b c ys → Gives queues a c (xs ++ ys)
gives_then queues a b c xs ys f g = record {
  size = g.size ∙ f.size;
  passes = λ first p. g.passes first (f.passes first p);
  puts = λ w less.
      let low : w < length b = let e = f.size in omega arith in
      g.puts w low ∙ (ap (λ l. l ++ replies_to w ys) (f.puts w less) ∙ (append_assoc (puts_at a w) (replies_to w xs) (replies_to w ys) ∙ ap (λ l. puts_at a w ++ l) (sym (replies_append w xs ys))));
}

-- a reply to a worker that has no outbox
pub gives_past : (queues : List (Queue Reply)) (put : List (InPass Reply)) (r : Reply) → length put ≤ r.conn.worker → Gives queues put put (r ∷ [])
gives_past queues put r past = record {
  size = refl;
  passes = λ first a. a;
  puts = λ w less. sym (ap (λ l. puts_at put w ++ l) (other_reply w r (λ e. absurd (omega arith))) ∙ append-nil (puts_at put w));
}

-- a reply at its worker's outbox
pub gives_one : (queues : List (Queue Reply)) (put new : List (InPass Reply)) (p q : InPass Reply) (r : Reply) → new ≡ set put r.conn.worker q → slice_get put r.conn.worker ≡ Some p → q.queue ≡ p.queue → q.list ≡ after_body (Some r) p.list → Gives queues put new (r ∷ [])
gives_one queues put new p q r is here queue list = subst (λ (l : List (InPass Reply)). Gives queues put l (r ∷ [])) (sym is) (record {
  size = length-set put r.conn.worker q;
  passes = passes_put queues put r.conn.worker p q here queue r list;
  puts = λ w less. dite (ℕ_discrete w r.conn.worker)
      (λ (e : w ≡ r.conn.worker). subst (λ (n : ℕ). puts_at (set put r.conn.worker q) n ≡ puts_at put n ++ replies_to n (r ∷ [])) (sym e) (puts_put queues put r.conn.worker p q here queue r list ∙ ap (λ l. puts_at put r.conn.worker ++ l) (sym (own_reply r.conn.worker r refl))))
      (λ (ne : w ≢ r.conn.worker). puts_off queues put r.conn.worker p q here queue r list w ne ∙ sym (ap (λ l. puts_at put w ++ l) (other_reply w r (λ e. ne (sym e))) ∙ append-nil (puts_at put w)));
})
