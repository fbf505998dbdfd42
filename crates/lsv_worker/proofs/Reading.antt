-- How often the links of a port were read, call by call and connection by connection.
use Rattle.std.proofs.Common.{◌≡◌, ◌≢◌, ℕ, zero, suc, ◌+◌, ◌<◌, ◌≤◌, Bool, true, false, List, [], ◌∷◌, ◌++◌, length, get_or, set, get_or-set_other, refl, sym, ap, subst, ◌∙◌, ⊎_elim, arith}
use Rattle.std.specs.Prelude.{if◌then◌else◌, not}
use Rattle.lsv_port.specs.Port.{Changes, LinkState, PortState, closed, is_over}
use Rattle.lsv_session.specs.declared.job.Job.{Job}
use Rattle.lsv_session.specs.declared.reply.Reply.{Reply}
use Rattle.lsv_worker.specs.Outgoing.{Alone}
use Rattle.lsv_worker.specs.Links.{TouchesNone, IsSpared, ReadsNone, WasReadAtMost, WritesNone, is_done, repeated}
use Rattle.lsv_worker.specs.Worker.{AreLast, AreSpared, IsMade, Setting, Stands, undone}
use Rattle.lsv_worker.specs.declared.link.Link.{Link}
use Rattle.lsv_worker.proofs.Putting.{same_or_not}
use Rattle.lsv_worker.proofs.Tables.{apart_at, below_set, same_default, table_at}

-- ---- no link was read

pub unread_here : (s : PortState) → ReadsNone s s
unread_here s l = refl

pub unread_then : (s t u : PortState) → ReadsNone s t → ReadsNone t u → ReadsNone s u
unread_then s t u x y l = y l ∙ x l

-- this link alone changed, and it wasn't read
pub unread_one : (n : ℕ) (s t : PortState) → ((m : ℕ) → m ≢ n → t.link m ≡ s.link m) → (t.link n).reads ≡ (s.link n).reads → ReadsNone s t
unread_one n s t others this l =
    ⊎_elim (λ e. subst (λ (k : ℕ). (t.link k).reads ≡ (s.link k).reads) (sym e) this) (λ ne. ap (λ (x : LinkState). x.reads) (others l ne)) (same_or_not l n)

pub unread_closed : (n : ℕ) (s t : PortState) → Changes n (closed (is_over s) (s.link n)) s t → ReadsNone s t
unread_closed n s t change = unread_one n s t change.others (ap (λ (x : LinkState). x.reads) change.this)

-- ---- nothing was put

pub unwritten_here : (s : PortState) → WritesNone s s
unwritten_here s l = refl

pub unwritten_then : (s t u : PortState) → WritesNone s t → WritesNone t u → WritesNone s u
unwritten_then s t u x y l = y l ∙ x l

pub unwritten_closed : (n : ℕ) (s t : PortState) → Changes n (closed (is_over s) (s.link n)) s t → WritesNone s t
unwritten_closed n s t change l =
    ⊎_elim (λ e. subst (λ (k : ℕ). (t.link k).output ≡ (s.link k).output) (sym e) (ap (λ (x : LinkState). x.output) change.this)) (λ ne. ap (λ (x : LinkState). x.output) (change.others l ne)) (same_or_not l n)

pub most_late : (n : ℕ) (s t u : LinkState) → t.reads ≡ s.reads → WasReadAtMost n t u → WasReadAtMost n s u
most_late n s t u e a = record { times = a.times; few = a.few; were = a.were ∙ ap (λ (l : List ℕ). l ++ repeated a.times 65536) e }

-- ---- no link was read or written

pub quiet_here : (s : PortState) → TouchesNone s s
quiet_here s = record { unread = unread_here s; unwritten = unwritten_here s }

pub quiet_then : (s t u : PortState) → TouchesNone s t → TouchesNone t u → TouchesNone s u
quiet_then s t u x y = record { unread = unread_then s t u x.unread y.unread; unwritten = unwritten_then s t u x.unwritten y.unwritten }

pub quiet_closed : (n : ℕ) (s t : PortState) → Changes n (closed (is_over s) (s.link n)) s t → TouchesNone s t
quiet_closed n s t change = record { unread = unread_closed n s t change; unwritten = unwritten_closed n s t change }

-- ---- each connection of a table has a link of its own

seqs_apart : (last : ℕ → Link) (s : Setting) (links : List Link) (i j : ℕ) (d e : Link) → i < length links → j < length links → i ≢ j → AreLast last s links → (get_or links i d).conn.seq ≢ (get_or links j e).conn.seq
seqs_apart last s [] i j d e wi wj ne t = absurd (omega arith)
seqs_apart last s (x ∷ links) zero zero d e wi wj ne t = absurd (ne refl)
seqs_apart last s (x ∷ links) zero (suc j) d e wi wj ne t = λ is. apart_at x.conn.seq links j e (omega arith) t.2 (sym is)
seqs_apart last s (x ∷ links) (suc i) zero d e wi wj ne t = λ is. apart_at x.conn.seq links i d (omega arith) t.2 is
seqs_apart last s (x ∷ links) (suc i) (suc j) d e wi wj ne t = seqs_apart last s links i j d e (omega arith) (omega arith) (λ is. ne (ap suc is)) t.3

pub numbers_apart : (s : Setting) (links : List Link) (port : PortState) (jobs : ℕ → List Job) (replies : List Reply) (i j : ℕ) (d e : Link) → i < length links → j < length links → i ≢ j → Stands s links port jobs replies
    → (get_or links i d).number ≢ (get_or links j e).number
numbers_apart s links port jobs replies i j d e wi wj ne h =
    let x : Link = get_or links i d in
    let y : Link = get_or links j e in
    let at_x : IsMade s x.conn.seq × (h.last x.conn.seq ≡ x) = table_at h.last s links i x wi (same_default links i d x wi) h.table in
    let at_y : IsMade s y.conn.seq × (h.last y.conn.seq ≡ y) = table_at h.last s links j y wj (same_default links j e y wj) h.table in
    λ is. h.apart x.conn.seq y.conn.seq at_x.0 at_y.0 (seqs_apart h.last s links i j d e wi wj ne h.table) (ap (λ (l : Link). l.number) at_x.1 ∙ is ∙ sym (ap (λ (l : Link). l.number) at_y.1))

-- ---- a pass over a table

-- the links of the connections from this one on are as they were
abbrev pub Rest : List Link → ℕ → PortState → PortState → Type 0
Rest links i s t = (j : ℕ) (d : Link) → i ≤ j → j < length links → t.link (get_or links j d).number ≡ s.link (get_or links j d).number

-- the links of the connections before this one were not read if too much is unsent
abbrev pub Below : List Link → ℕ → PortState → PortState → Type 0
Below links i s t = (j : ℕ) (d : Link) → j < i → IsSpared (get_or links j d) (s.link (get_or links j d).number) (t.link (get_or links j d).number)

length_set : (links : List Link) (i : ℕ) (new : Link) → length (set links i new) ≡ length links
length_set [] i new = refl
length_set (x ∷ links) zero new = refl
length_set (x ∷ links) (suc i) new = ap suc (length_set links i new)

pub rest_on : (s : Setting) (links : List Link) (i : ℕ) (d new : Link) (a b c : PortState) (jobs : ℕ → List Job) (replies : List Reply) → i < length links → Stands s links b jobs replies → Alone (get_or links i d).number b c
    → Rest links i a b → Rest (set links i new) (i + 1) a c
rest_on s links i d new a b c jobs replies here h alone rest j e above within =
    let inside : j < length links = let same = length_set links i new in omega arith in
    let ne : j ≢ i = λ is. absurd (omega (arith, above, is)) in
    let stays = get_or-set_other links i j new e ne in
    subst (λ (l : Link). c.link l.number ≡ a.link l.number) (sym stays)
    (alone.others (get_or links j e).number (numbers_apart s links b jobs replies j i e d inside here ne h) ∙ rest j e (omega arith) inside)

pub reads_on : (links : List Link) (i : ℕ) (d : Link) (a b c : PortState) → i < length links → Alone (get_or links i d).number b c → Rest links i a b → ((l : ℕ) → WasReadAtMost 16 (a.link l) (b.link l))
    → WasReadAtMost 16 (b.link (get_or links i d).number) (c.link (get_or links i d).number) → (l : ℕ) → WasReadAtMost 16 (a.link l) (c.link l)
reads_on links i d a b c here alone rest all one l =
    let n = (get_or links i d).number in
    ⊎_elim
    (λ e. subst (λ (k : ℕ). WasReadAtMost 16 (a.link k) (c.link k)) (sym e) (subst (λ (x : LinkState). WasReadAtMost 16 x (c.link n)) (rest i d (omega arith) here) one))
    (λ ne. subst (λ (x : LinkState). WasReadAtMost 16 (a.link l) x) (sym (alone.others l ne)) (all l))
    (same_or_not l n)

pub below_on : (s : Setting) (links : List Link) (i : ℕ) (d new : Link) (a b c : PortState) (jobs : ℕ → List Job) (replies : List Reply) → i < length links → Stands s links b jobs replies → Alone (get_or links i d).number b c
    → new.number ≡ (get_or links i d).number → IsSpared new (b.link (get_or links i d).number) (c.link (get_or links i d).number) → Rest links i a b → Below links i a b → Below (set links i new) (i + 1) a c
below_on s links i d new a b c jobs replies here h alone number spared rest below =
    below_set (λ l. IsSpared l (a.link l.number) (c.link l.number)) links i new here
    (λ output_full. subst (λ (k : ℕ). (c.link k).reads ≡ (a.link k).reads) (sym number) (spared output_full ∙ ap (λ (x : LinkState). x.reads) (rest i d (omega arith) here)))
    (λ j e under output_full.
    let ne : j ≢ i = λ is. absurd (omega (arith, under, is)) in
    ap (λ (x : LinkState). x.reads) (alone.others (get_or links j e).number (numbers_apart s links b jobs replies j i e d (omega arith) here ne h)) ∙ below j e under output_full)

pub unread_on : (n : ℕ) (a b c : PortState) → Alone n b c → ReadsNone a b → (c.link n).reads ≡ (b.link n).reads → ReadsNone a c
unread_on n a b c alone first one = unread_then a b c first (unread_one n b c alone.others one)

-- ---- what is said of each in a table

pub spared_all : (links : List Link) (s t : PortState) → Below links (length links) s t → AreSpared links s t
spared_all [] s t h = tt
spared_all (x ∷ links) s t h = (h 0 x (omega arith), spared_all links s t (λ i d within. h (suc i) d (omega arith)))

spared_if : (b : Bool) (x : Link) (links : List Link) (s t : PortState) → IsSpared x (s.link x.number) (t.link x.number) → AreSpared links s t → AreSpared (if b then x ∷ links else links) s t
spared_if true x links s t e h = (e, h)
spared_if false x links s t e h = h

pub spared_swept : (links : List Link) (s t : PortState) → AreSpared links s t → AreSpared (undone links) s t
spared_swept [] s t h = tt
spared_swept (x ∷ links) s t h = spared_if (not (is_done x)) x (undone links) s t h.0 (spared_swept links s t h.1)

pub spared_late : (links : List Link) (s t u : PortState) → ReadsNone s t → AreSpared links t u → AreSpared links s u
spared_late [] s t u none h = tt
spared_late (x ∷ links) s t u none h = (λ output_full. h.0 output_full ∙ none x.number, spared_late links s t u none h.1)
