-- A table whose first links go to its end.
use Rattle.std.proofs.Common.{◌≡◌, ℕ, ◌+◌, ◌≤◌, Bool, true, false, List, [], ◌∷◌, ◌++◌, length, take, drop, sym, subst, inl, inr, ⊎_elim, arith}
use Rattle.std.specs.Prelude.{if◌then◌else◌}
use Rattle.std.specs.List.{Contains}
use Rattle.std.proofs.Math.ListN.{take-append-drop}
use Rattle.std.proofs.lemmas.List.Elements.{Contains-append_cases, Contains-append_left, Contains-append_right}
use Rattle.lsv_port.specs.Port.{PortState}
use Rattle.lsv_session.specs.declared.job.Job.{Job}
use Rattle.lsv_session.specs.declared.reply.Reply.{Reply}
use Rattle.lsv_worker.specs.Worker.{AreLast, AreOfLanes, IsApart, IsIn, Setting, Stands, open_in}
use Rattle.lsv_worker.specs.declared.link.Link.{Link}

-- ---- lanes

lanes_first : (n : ℕ) (xs ys : List Link) → AreOfLanes n (xs ++ ys) → AreOfLanes n xs
lanes_first n [] ys h = tt
lanes_first n (x ∷ xs) ys h = (h.0, lanes_first n xs ys h.1)

lanes_last : (n : ℕ) (xs ys : List Link) → AreOfLanes n (xs ++ ys) → AreOfLanes n ys
lanes_last n [] ys h = h
lanes_last n (x ∷ xs) ys h = lanes_last n xs ys h.1

lanes_both : (n : ℕ) (xs ys : List Link) → AreOfLanes n xs → AreOfLanes n ys → AreOfLanes n (xs ++ ys)
lanes_both n [] ys first last = last
lanes_both n (x ∷ xs) ys first last = (first.0, lanes_both n xs ys first.1 last)

-- ---- the connections of a table

apart_first : (seq : ℕ) (xs ys : List Link) → IsApart seq (xs ++ ys) → IsApart seq xs
apart_first seq [] ys h = tt
apart_first seq (x ∷ xs) ys h = (h.0, apart_first seq xs ys h.1)

apart_last : (seq : ℕ) (xs ys : List Link) → IsApart seq (xs ++ ys) → IsApart seq ys
apart_last seq [] ys h = h
apart_last seq (x ∷ xs) ys h = apart_last seq xs ys h.1

apart_both : (seq : ℕ) (xs ys : List Link) → IsApart seq xs → IsApart seq ys → IsApart seq (xs ++ ys)
apart_both seq [] ys first last = last
apart_both seq (x ∷ xs) ys first last = (first.0, apart_both seq xs ys first.1 last)

-- no connection of one table stands in another
abbrev AreApart : List Link → List Link → Type 0
AreApart [] ys = Unit {0}
AreApart (x ∷ xs) ys = IsApart x.conn.seq ys × AreApart xs ys

apart_of_one : (y : Link) (xs ys : List Link) → AreApart xs (y ∷ ys) → IsApart y.conn.seq xs
apart_of_one y [] ys h = tt
apart_of_one y (x ∷ xs) ys h = (λ e. h.0.0 (sym e), apart_of_one y xs ys h.1)

apart_of_rest : (y : Link) (xs ys : List Link) → AreApart xs (y ∷ ys) → AreApart xs ys
apart_of_rest y [] ys h = tt
apart_of_rest y (x ∷ xs) ys h = (h.0.1, apart_of_rest y xs ys h.1)

apart_swapped : (xs ys : List Link) → AreApart xs ys → AreApart ys xs
apart_swapped xs [] h = tt
apart_swapped xs (y ∷ ys) h = (apart_of_one y xs ys h, apart_swapped xs ys (apart_of_rest y xs ys h))

table_first : (last : ℕ → Link) (s : Setting) (xs ys : List Link) → AreLast last s (xs ++ ys) → AreLast last s xs
table_first last s [] ys h = tt
table_first last s (x ∷ xs) ys h = (h.0, h.1, apart_first x.conn.seq xs ys h.2, table_first last s xs ys h.3)

table_last : (last : ℕ → Link) (s : Setting) (xs ys : List Link) → AreLast last s (xs ++ ys) → AreLast last s ys
table_last last s [] ys h = h
table_last last s (x ∷ xs) ys h = table_last last s xs ys h.3

table_apart : (last : ℕ → Link) (s : Setting) (xs ys : List Link) → AreLast last s (xs ++ ys) → AreApart xs ys
table_apart last s [] ys h = tt
table_apart last s (x ∷ xs) ys h = (apart_last x.conn.seq xs ys h.2, table_apart last s xs ys h.3)

table_both : (last : ℕ → Link) (s : Setting) (xs ys : List Link) → AreLast last s xs → AreLast last s ys → AreApart xs ys → AreLast last s (xs ++ ys)
table_both last s [] ys first end apart = end
table_both last s (x ∷ xs) ys first end apart = (first.0, first.1, apart_both x.conn.seq xs ys first.2 apart.0, table_both last s xs ys first.3 end apart.1)

table_swapped : (last : ℕ → Link) (s : Setting) (xs ys : List Link) → AreLast last s (xs ++ ys) → AreLast last s (ys ++ xs)
table_swapped last s xs ys h = table_both last s ys xs (table_last last s xs ys h) (table_first last s xs ys h) (apart_swapped xs ys (table_apart last s xs ys h))

in_first : (k : ℕ) (xs ys : List Link) → IsIn k xs → IsIn k (xs ++ ys)
in_first k [] ys h = absurd h
in_first k (x ∷ xs) ys h = ⊎_elim (λ e. inl e) (λ later. inr (in_first k xs ys later)) h

in_last : (k : ℕ) (xs ys : List Link) → IsIn k ys → IsIn k (xs ++ ys)
in_last k [] ys h = h
in_last k (x ∷ xs) ys h = inr (in_last k xs ys h)

in_next : (k : ℕ) (x : Link) (xs ys : List Link) → IsIn k (ys ++ xs) → IsIn k (ys ++ x ∷ xs)
in_next k x xs [] h = inr h
in_next k x xs (y ∷ ys) h = ⊎_elim (λ e. inl e) (λ later. inr (in_next k x xs ys later)) h

in_swapped : (k : ℕ) (xs ys : List Link) → IsIn k (xs ++ ys) → IsIn k (ys ++ xs)
in_swapped k [] ys h = in_first k ys [] h
in_swapped k (x ∷ xs) ys h = ⊎_elim (λ e. in_last k ys (x ∷ xs) (inl e)) (λ later. in_next k x xs ys (in_swapped k xs ys later)) h

stands_swapped : (s : Setting) (xs ys : List Link) (port : PortState) (jobs : ℕ → List Job) (replies : List Reply) → Stands s (xs ++ ys) port jobs replies → Stands s (ys ++ xs) port jobs replies
stands_swapped s xs ys port jobs replies h = record {
  last = h.last;
  table = table_swapped h.last s xs ys h.table;
  complete = λ k made not_done. in_swapped k xs ys (h.complete k made not_done);
  conn = h.conn;
  each = h.each;
  apart = h.apart;
  known = h.known;
  few = h.few;
  linked = h.linked;
  unused = h.unused;
  unasked = h.unasked;
  away = h.away;
  beside = h.beside;
  told = h.told;
}

-- ---- how many links are open

open_if : (b : Bool) (x : Link) (n : ℕ) (xs ys : List Link) → length ys ≡ length xs + n → length (if b then x ∷ ys else ys) ≡ length (if b then x ∷ xs else xs) + n
open_if true x n xs ys e = omega (arith, e)
open_if false x n xs ys e = e

open_both : (xs ys : List Link) → length (open_in (xs ++ ys)) ≡ length (open_in xs) + length (open_in ys)
open_both [] ys = omega arith
open_both (x ∷ xs) ys = open_if x.live x (length (open_in ys)) (open_in xs) (open_in (xs ++ ys)) (open_both xs ys)

open_swapped : (xs ys : List Link) → length (open_in (xs ++ ys)) ≤ 128 → length (open_in (ys ++ xs)) ≤ 128
open_swapped xs ys few =
    let one = open_both xs ys in
    let other = open_both ys xs in
    omega (arith, one, other, few)

contains_swapped : (xs ys : List Link) (link : Link) → Contains (xs ++ ys) link → Contains (ys ++ xs) link
contains_swapped xs ys link has = ⊎_elim (λ first. Contains-append_right ys xs link first) (λ end. Contains-append_left ys xs link end) (Contains-append_cases xs ys link has)

-- ---- the first n links at the end

abbrev pub rotated : ℕ → List Link → List Link
rotated n links = drop n links ++ take n links

whole : (n : ℕ) (links : List Link) → take n links ++ drop n links ≡ links
whole n links = take-append-drop n links

pub lanes_rotated : (n lanes : ℕ) (links : List Link) → AreOfLanes lanes links → AreOfLanes lanes (rotated n links)
lanes_rotated n lanes links h =
    let split : AreOfLanes lanes (take n links ++ drop n links) = subst (AreOfLanes lanes) (sym (whole n links)) h in
    lanes_both lanes (drop n links) (take n links) (lanes_last lanes (take n links) (drop n links) split) (lanes_first lanes (take n links) (drop n links) split)

pub stands_rotated : (n : ℕ) (s : Setting) (links : List Link) (port : PortState) (jobs : ℕ → List Job) (replies : List Reply) → Stands s links port jobs replies → Stands s (rotated n links) port jobs replies
stands_rotated n s links port jobs replies h =
    stands_swapped s (take n links) (drop n links) port jobs replies (subst (λ (l : List Link). Stands s l port jobs replies) (sym (whole n links)) h)

pub open_rotated : (n : ℕ) (links : List Link) → length (open_in links) ≤ 128 → length (open_in (rotated n links)) ≤ 128
open_rotated n links few = open_swapped (take n links) (drop n links) (subst (λ (l : List Link). length (open_in l) ≤ 128) (sym (whole n links)) few)

pub contains_rotated : (n : ℕ) (links : List Link) (link : Link) → Contains links link → Contains (rotated n links) link
contains_rotated n links link has = contains_swapped (take n links) (drop n links) link (subst (λ (l : List Link). Contains l link) (sym (whole n links)) has)
