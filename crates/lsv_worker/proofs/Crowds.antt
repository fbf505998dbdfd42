-- The number of links that are open when one more is opened.
use Rattle.std.proofs.Common.{◌≡◌, ◌≢◌, ◌⊎◌, ℕ, suc, ◌<◌, ◌≤◌, Bool, true, false, List, [], ◌∷◌, length, map, refl, sym, ap, subst, ◌∙◌, inl, inr, ⊎_elim, arith}
use Rattle.std.specs.Prelude.{if◌then◌else◌, ◌&&◌, not}
use Rattle.std.specs.List.{AllByRecursion}
use Rattle.lsv_port.specs.Port.{IsOpen, Opens, PortState}
use Rattle.lsv_links.specs.Views.{AreDifferent, IsCrowded, IsNoneOf}
use Rattle.lsv_session.specs.declared.job.Job.{Job}
use Rattle.lsv_session.specs.declared.reply.Reply.{Reply}
use Rattle.lsv_worker.specs.Incoming.{has_left}
use Rattle.lsv_worker.specs.Outgoing.{kept_up}
use Rattle.lsv_worker.specs.Worker.{AreLast, IsApart, IsIn, IsMade, Setting, Stands, open_in}
use Rattle.lsv_worker.specs.declared.link.Link.{Link}

-- the numbers of the open links of a table
abbrev numbers_in : List Link → List ℕ
numbers_in links = map (λ (l : Link). l.number) (open_in links)

-- the same with one link more, if it is open
abbrev more_if : Bool → ℕ → List ℕ → List ℕ
more_if b n ns = if b then n ∷ ns else ns

in_more : (b : Bool) (x : Link) (links : List Link) → map (λ (l : Link). l.number) (if b then x ∷ links else links) ≡ more_if b x.number (map (λ (l : Link). l.number) links)
in_more true x links = refl
in_more false x links = refl

counted : (links : List Link) → length (map (λ (l : Link). l.number) links) ≡ length links
counted [] = refl
counted (x ∷ links) = ap suc (counted links)

-- ---- the numbers differ

none_if : (b : Bool) (n m : ℕ) (ms : List ℕ) → m ≢ n → IsNoneOf n ms → IsNoneOf n (more_if b m ms)
none_if true n m ms ne h = (ne, h)
none_if false n m ms ne h = h

none_among : (last : ℕ → Link) (s : Setting) (seq n : ℕ) (links : List Link) → ((k : ℕ) → IsMade s k → k ≢ seq → (last k).number ≢ n) → IsApart seq links → AreLast last s links → IsNoneOf n (numbers_in links)
none_among last s seq n [] others a t = tt
none_among last s seq n (x ∷ links) others a t =
    subst (IsNoneOf n) (sym (in_more x.live x (open_in links)))
    (none_if x.live n x.number (numbers_in links) (λ e. others x.conn.seq t.0 a.0 (ap (λ (l : Link). l.number) t.1 ∙ e)) (none_among last s seq n links others a.1 t.3))

differ_if : (b : Bool) (n : ℕ) (ns : List ℕ) → IsNoneOf n ns → AreDifferent ns → AreDifferent (more_if b n ns)
differ_if true n ns none h = (none, h)
differ_if false n ns none h = h

all_differ : (last : ℕ → Link) (s : Setting) (links : List Link) → ((j k : ℕ) → IsMade s j → IsMade s k → j ≢ k → (last j).number ≢ (last k).number) → AreLast last s links → AreDifferent (numbers_in links)
all_differ last s [] apart t = tt
all_differ last s (x ∷ links) apart t =
    subst AreDifferent (sym (in_more x.live x (open_in links)))
    (differ_if x.live x.number (numbers_in links)
    (none_among last s x.conn.seq x.number links (λ k made ne e. apart k x.conn.seq made t.0 ne (e ∙ sym (ap (λ (l : Link). l.number) t.1))) t.2 t.3)
    (all_differ last s links apart t.3))

-- ---- they were open

open_if : (b : Bool) (P : ℕ → Type 0) (n : ℕ) (ns : List ℕ) → (b ≡ true → P n) → AllByRecursion P ns → AllByRecursion P (more_if b n ns)
open_if true P n ns here h = (here refl, h)
open_if false P n ns here h = h

all_open : (last : ℕ → Link) (s : Setting) (port : PortState) (P : ℕ → Type 0) (links : List Link) → ((k : ℕ) → IsMade s k → (port.link (last k).number).is_open ≡ (last k).live) → ((m : ℕ) → (port.link m).is_open ≡ true → P m) → AreLast last s links → AllByRecursion P (numbers_in links)
all_open last s port P [] live so t = tt
all_open last s port P (x ∷ links) live so t =
    let here : (port.link x.number).is_open ≡ x.live = subst (λ (l : Link). (port.link l.number).is_open ≡ l.live) t.1 (live x.conn.seq t.0) in
    subst (AllByRecursion P) (sym (in_more x.live x (open_in links))) (open_if x.live P x.number (numbers_in links) (λ e. so x.number (here ∙ e)) (all_open last s port P links live so t.3))

-- a link is opened when many are open
pub crowds : (s : Setting) (links : List Link) (l : ℕ) (before mid : PortState) (jobs : ℕ → List Job) (replies : List Reply) → 128 ≤ length (open_in links) → Opens l before mid → Stands s links before jobs replies → IsCrowded (mid.link l).beside
crowds s links l before mid jobs replies many opens h = record {
  those = numbers_in links;
  many = subst (λ (n : ℕ). 128 ≤ n) (sym (counted (open_in links))) many;
  differ = all_differ h.last s links h.apart h.table;
  were_open = all_open h.last s before (λ m. (mid.link l).beside m ≡ true) links (λ k made. (h.each k made).live) (λ m here. opens.beside m ∙ here) h.table;
}

-- ---- no more are open than the table has

-- a number is one of these
abbrev IsAmong : ℕ → List ℕ → Type 0
IsAmong n [] = ⊥
IsAmong n (m ∷ ms) = (m ≡ n) ⊎ IsAmong n ms

-- these numbers without one of them
without : (n : ℕ) (ms : List ℕ) → IsAmong n ms → (rest : List ℕ) × (length ms ≡ suc (length rest)) × ((k : ℕ) → k ≢ n → IsAmong k ms → IsAmong k rest)
without n [] is = absurd is
without n (m ∷ ms) is =
    ⊎_elim
    (λ e. (ms, refl, λ k ne has. ⊎_elim (λ here. absurd (ne (sym here ∙ e))) (λ later. later) has))
    (λ r. let w = without n ms r in (m ∷ w.0, ap suc w.1, λ k ne has. ⊎_elim (λ here. inl here) (λ later. inr (w.2 k ne later)) has)) is

others_among : (n : ℕ) (ns ms rest : List ℕ) → ((k : ℕ) → k ≢ n → IsAmong k ms → IsAmong k rest) → IsNoneOf n ns → AllByRecursion (λ m. IsAmong m ms) ns → AllByRecursion (λ m. IsAmong m rest) ns
others_among n [] ms rest keeps none all = tt
others_among n (x ∷ ns) ms rest keeps none all = (keeps x none.0 all.0, others_among n ns ms rest keeps none.1 all.1)

-- different numbers that are all among these are at most as many
no_more : (ns ms : List ℕ) → AreDifferent ns → AllByRecursion (λ n. IsAmong n ms) ns → length ns ≤ length ms
no_more [] ms differ all = omega arith
no_more (n ∷ ns) ms differ all =
    let w = without n ms all.0 in
    let fewer : length ns ≤ length w.0 = no_more ns w.0 differ.1 (others_among n ns ms w.0 w.2 differ.0 all.1) in
    omega (arith, fewer, w.1)

among_more : (b : Bool) (n m : ℕ) (ms : List ℕ) → IsAmong n ms → IsAmong n (more_if b m ms)
among_more true n m ms is = inr is
among_more false n m ms is = is

among_first : (b : Bool) (n m : ℕ) (ms : List ℕ) → b ≡ true → m ≡ n → IsAmong n (more_if b m ms)
among_first true n m ms is e = inl e
among_first false n m ms is e = absurd cc

-- the number of an open link of a table
in_numbers : (last : ℕ → Link) (s : Setting) (k n : ℕ) (links : List Link) → (last k).live ≡ true → (last k).number ≡ n → AreLast last s links → IsIn k links → IsAmong n (numbers_in links)
in_numbers last s k n [] live at t is = absurd is
in_numbers last s k n (x ∷ links) live at t is =
    subst (IsAmong n) (sym (in_more x.live x (open_in links)))
    (⊎_elim
    (λ e.
    let same : last k ≡ x = ap last (sym e) ∙ t.1 in
    among_first x.live n x.number (numbers_in links) (ap (λ (l : Link). l.live) (sym same) ∙ live) (ap (λ (l : Link). l.number) (sym same) ∙ at))
    (λ later. among_more x.live n x.number (numbers_in links) (in_numbers last s k n links live at t.3 later)) is)

live_undone : (live shut left kept : Bool) → live ≡ true → ((not live && (shut && left)) && kept) ≡ false
live_undone true shut left kept e = refl
live_undone false shut left kept e = absurd cc

-- a link that is open is one of the table
open_among : (s : Setting) (links : List Link) (port : PortState) (jobs : ℕ → List Job) (replies : List Reply) → Stands s links port jobs replies → (n : ℕ) → IsOpen port n → IsAmong n (numbers_in links)
open_among s links port jobs replies h n now =
    let at = h.linked n now in
    let link : Link = h.last at.0 in
    let live : link.live ≡ true = sym (h.each at.0 at.1).live ∙ subst (IsOpen port) (sym at.2) now in
    in_numbers h.last s at.0 n links live at.2 h.table (h.complete at.0 at.1 (live_undone link.live link.shut (has_left link.incoming.stage) (kept_up link.outgoing.sending) live))

all_among : (P Q : ℕ → Type 0) (ns : List ℕ) → ((n : ℕ) → P n → Q n) → AllByRecursion P ns → AllByRecursion Q ns
all_among P Q [] goes all = tt
all_among P Q (n ∷ ns) goes all = (goes n all.0, all_among P Q ns goes all.1)

-- a link is opened when few are open
pub uncrowded : (s : Setting) (links : List Link) (l : ℕ) (before mid : PortState) (jobs : ℕ → List Job) (replies : List Reply) → length (open_in links) < 128 → Opens l before mid → Stands s links before jobs replies → IsCrowded (mid.link l).beside → ⊥
uncrowded s links l before mid jobs replies few opens h crowd =
    let all : AllByRecursion (λ n. IsAmong n (numbers_in links)) crowd.those =
    all_among (λ n. (mid.link l).beside n ≡ true) (λ n. IsAmong n (numbers_in links)) crowd.those (λ n is. open_among s links before jobs replies h n (sym (opens.beside n) ∙ is)) crowd.were_open in
    let most : length crowd.those ≤ length (numbers_in links) = no_more crowd.those (numbers_in links) crowd.differ all in
    let same : length (numbers_in links) ≡ length (open_in links) = counted (open_in links) in
    let many : 128 ≤ length crowd.those = crowd.many in
    omega (arith, most, same, many, few)
