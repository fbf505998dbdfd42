-- What is known of records that were read one by one.
use Rattle.std.proofs.lemmas.List.{take-append-le}
use Rattle.std.proofs.lemmas.List.Sums.{sum_by-append, sum_by-take-le}
use Rattle.std.proofs.Common.{◌≡◌, ◌+◌, ◌<◌, ◌≤◌, ℕ, suc, zero, List, [], ◌∷◌, ◌++◌, length, map, refl, sym, ◌∙◌, ap, subst, Option, Some, None, append_assoc, append-nil, arith, inl, inr, ◌⊎◌}
use Rattle.std.specs.Prelude.{Bool, true, false, if◌then◌else◌, nat_lt, ◌-◌, ◌==◌, ◌^◌, min, sum_by, take}
use Rattle.std.proofs.lemmas.Grind.{common_steps}
use Rattle.std.proofs.Math.Path.{fun_ext}
use Rattle.std.specs.Prelude.{Result, Ok, Err, OnOk, IfErr, IsErrOf}
use Rattle.std.specs.Result.{is_err}
use Rattle.lsv_record.proofs.Points.{FirstBy, FirstBy.here, FirstBy.past, FirstBy.later, first_by}
use Rattle.lsv_disk.specs.Throughout.{OnlyReads}
use Rattle.lsv_disk.specs.declared.file.FileId.{FileId}
use Rattle.lsv_disk.specs.declared.file.Part.{Part}
use Rattle.lsv_disk.specs.View.{DiskView, HasOwnCause, Image}
use Rattle.lsv_disk.proofs.Composition.{OnlyNow, reads_trans, unchanged_reads}
use Rattle.lsv_bundle.specs.declared.body.Body.{Body}
use Rattle.lsv_iolog.specs.Reading.{IsFaultBehind, committed_laid}
use Rattle.lsv_iolog.specs.declared.fault.ViewFault.{ViewFault}
use Rattle.lsv_iolog.specs.Recovered.{IsOfLog, laid_in, owner_of}
use Rattle.lsv_iolog.proofs.Scans.{reads_nothing}
use Rattle.lsv_record.specs.declared.laid.Laid.{Laid}
use Rattle.lsv_record.specs.Layout.{IsLayout}
use Rattle.lsv_iolog.specs.Reading.{IsBehind, IsWhole, ViewState}
use Rattle.lsv_record.specs.Points.{first, one_more}
use Rattle.lsv_record.proofs.Layouts.{elapsed-append, elapsed-push}
use Rattle.lsv_record.specs.Records.{delay_of, elapsed}
use Rattle.lsv_record.specs.declared.records.Record.{Record}
use Rattle.lsv_msg.specs.declared.messages.ClientMessage.{ClientMessage}
use Rattle.lsv_request.specs.Stored.{record_message}
use Rattle.lsv_transcript.specs.declared.messages.Batch.{Batch}
use Rattle.lsv_transcript.specs.Reading.{ArePiece, GivesNext, size_of}

-- a place that much after, if there is one
abbrev pub shifted : ℕ → Option ℕ → Option ℕ
shifted n None = None
shifted n (Some m) = Some (n + m)

-- after these records the first one that ends at the point is the first of the others that ends at the rest
abbrev pub Leaves : List Record → (point rest : ℕ) → Type 0
Leaves records point rest = (more : List Record) → first (records ++ more) point ≡ shifted (length records) (first more rest)

shifted_none : (o : Option ℕ) → o ≡ shifted 0 o
shifted_none None = refl
shifted_none (Some m) = ap Some (let x : m ≡ 0 + m = omega arith in x)

pub leaves_all : (point : ℕ) → Leaves [] point point
leaves_all point more = shifted_none (first more point)

shifted_one : (n : ℕ) (o : Option ℕ) → shifted n (one_more o) ≡ shifted (n + 1) o
shifted_one n None = refl
shifted_one n (Some m) = ap Some (let x : n + suc m ≡ n + 1 + m = omega arith in x)

length_one : (records : List Record) (r : Record) → length (records ++ r ∷ []) ≡ length records + 1
length_one records r = grind (arith, common_steps)

append_one : (records : List Record) (r : Record) (more : List Record) → (records ++ r ∷ []) ++ more ≡ records ++ r ∷ more
append_one records r more = grind (arith, common_steps)

first_less : (r : Record) (more : List Record) (rest : ℕ) → delay_of r < rest → first (r ∷ more) rest ≡ one_more (first more (rest - delay_of r))
first_less r more rest less = elim (first_by r more rest) [
  | here is at ↦ absurd (omega (arith, is, less))
  | past above at ↦ absurd (omega (arith, above, less))
  | later below at ↦ at
]

pub leaves_on : (records : List Record) (r : Record) (point rest : ℕ) → Leaves records point rest → delay_of r < rest → Leaves (records ++ r ∷ []) point (rest - delay_of r)
leaves_on records r point rest leaves less more =
    ap (λ (x : List Record). first x point) (append_one records r more) ∙ (leaves (r ∷ more) ∙ (ap (shifted (length records)) (first_less r more rest less)
    ∙ (shifted_one (length records) (first more (rest - delay_of r)) ∙ ap (λ (n : ℕ). shifted n (first more (rest - delay_of r))) (sym (length_one records r)))))

pub found_there : (records : List Record) (r : Record) (point rest : ℕ) → Leaves records point rest → delay_of r ≡ rest → first (records ++ r ∷ []) point ≡ Some (length (records ++ r ∷ []))
found_there records r point rest leaves is = leaves (r ∷ []) ∙ (ap (shifted (length records)) (first_here (first_by r [] rest)) ∙ ap Some (sym (length_one records r)))
  where
    first_here : FirstBy r [] rest → first (r ∷ []) rest ≡ Some 1
    first_here (here x at) = at
    first_here (past above at) = absurd (omega (arith, above, is))
    first_here (later below at) = absurd (omega (arith, below, is))

pub none_past : (records : List Record) (r : Record) (point rest : ℕ) → Leaves records point rest → rest < delay_of r → (more : List Record) → first ((records ++ r ∷ []) ++ more) point ≡ None
none_past records r point rest leaves less more = ap (λ (x : List Record). first x point) (append_one records r more) ∙ (leaves (r ∷ more) ∙ ap (shifted (length records)) (first_past (first_by r more rest)))
  where
    first_past : FirstBy r more rest → first (r ∷ more) rest ≡ None
    first_past (here x at) = absurd (omega (arith, x, less))
    first_past (past above at) = at
    first_past (later below at) = absurd (omega (arith, below, less))

pub none_at_all : (records : List Record) (point rest : ℕ) → Leaves records point rest → first records point ≡ None
none_at_all records point rest leaves = ap (λ (x : List Record). first x point) (sym (append-nil records)) ∙ leaves []

-- ---- a loop over the records of a log

-- it only read so far, and the log is the same
pub record IsReadingOn (tells : Type 0) (start log : ViewState) (old now : DiskView) : Type 0 where
  pub number : log.number ≡ start.number
  pub head : log.head ≡ start.head
  pub body : log.body ≡ start.body
  pub disk : (f : FileId) → old.faults f ≤ now.faults f
  pub reads : tells → OnlyReads old now

-- at first
pub reading_starts : (tells : Type 0) (log : ViewState) (disk : DiskView) → (tells → OnlyNow disk) → IsReadingOn tells log log disk disk
reading_starts tells log disk now = record {
  number = refl;
  head = refl;
  body = refl;
  disk = λ f. omega arith;
  reads = λ told. reads_nothing disk (now told);
}

-- with one more read
pub reading_goes_on : (tells : Type 0) (start log next : ViewState) (old now after : DiskView) → IsReadingOn tells start log old now → (next.number ≡ log.number) × (next.head ≡ log.head) × (next.body ≡ log.body)
    → (tells → OnlyReads now after) → ((f : FileId) → now.faults f ≤ after.faults f) → IsReadingOn tells start next old after
reading_goes_on tells start log next old now after is same reads mono = record {
  number = same.0 ∙ is.number;
  head = same.1 ∙ is.head;
  body = same.2 ∙ is.body;
  disk = λ f. omega (arith, is.disk f, mono f);
  reads = λ told. reads_trans old now after (is.reads told) (reads told);
}

pub same_parts : (tells : Type 0) (start log : ViewState) (old now : DiskView) → IsReadingOn tells start log old now → (log.number ≡ start.number) × (log.head ≡ start.head) × (log.body ≡ start.body)
same_parts tells start log old now is = (is.number, is.head, is.body)

-- the cause of a read that came after others
pub reading_cause : (tells : Type 0) (start log : ViewState) (Failed Cause : Type 0) (old now after : DiskView) → IsReadingOn tells start log old now → HasOwnCause (IsOfLog log.number) Cause now after → (Failed → Cause) → HasOwnCause (IsOfLog start.number) Failed old after
reading_cause tells start log Failed Cause old now after is cause when = record {
  monotone = λ f. omega (arith, is.disk f, cause.monotone f);
  risen = λ failed. let one = cause.risen (when failed) in (one.0, subst (λ (k : ℕ). IsOfLog k one.0) is.number one.1, λ small. omega (arith, is.disk one.0, one.2 small));
}

pub reading_none : (tells : Type 0) (start log : ViewState) (Failed : Type 0) (old now : DiskView) → IsReadingOn tells start log old now → (Failed → ⊥) → HasOwnCause (IsOfLog start.number) Failed old now
reading_none tells start log Failed old now is never = record { monotone = is.disk; risen = λ failed. absurd (never failed) }

-- ---- what was read

-- a log was read so far
pub record IsPassing (log : ViewState) (disk : DiskView) (point rest : ℕ) : Type 0 where
  pub records : List Record
  pub behind : IsBehind log records disk
  pub leaves : Leaves records point rest

-- messages were made so far
pub record IsGiving (log : ViewState) (disk : DiskView) (records : List Record) (batch : Batch) (size : ℕ) : Type 0 where
  pub more : List Record
  pub behind : IsBehind log (records ++ more) disk
  pub messages_are : batch.messages ≡ map record_message more
  pub elapsed_is : batch.elapsed ≡ elapsed more
  pub size_is : size ≡ sum_by size_of more
  pub piece : ArePiece more

pub none_given : (log : ViewState) (disk : DiskView) (records : List Record) → IsBehind log records disk → IsGiving log disk records (record { messages = []; elapsed = 0 }) 0
none_given log disk records behind = record {
  more = [];
  behind = subst (λ (rs : List Record). IsBehind log rs disk) (sym (append-nil records)) behind;
  messages_are = refl;
  elapsed_is = refl;
  size_is = refl;
  piece = λ n less. absurd (let h : n < 0 = less in omega (arith, h));
}

map_one : (rs : List Record) (r : Record) → map record_message rs ++ record_message r ∷ [] ≡ map record_message (rs ++ r ∷ [])
map_one [] r = refl
map_one (x ∷ rs) r = ap (λ (y : List ClientMessage). record_message x ∷ y) (map_one rs r)

piece_more : (rs : List Record) (r : Record) → sum_by size_of rs ≤ 65536 → ArePiece (rs ++ r ∷ [])
piece_more rs r little n less = subst (λ (xs : List Record). sum_by size_of xs ≤ 65536) (sym same) (let h = sum_by-take-le size_of rs n in omega (arith, h, little))
  where
    within : n ≤ length rs
    within = let h = length_one rs r in omega (arith, h, less)

    same : take n (rs ++ r ∷ []) ≡ take n rs
    same = take-append-le n rs (r ∷ []) within

pub gives_one : (log next : ViewState) (now after : DiskView) (records : List Record) (batch new : Batch) (size : ℕ) (r : Record) → IsGiving log now records batch size → size ≤ 65536
    → ((rs : List Record) → IsBehind log rs now → IsBehind next (rs ++ r ∷ []) after) → new.messages ≡ batch.messages ++ record_message r ∷ [] → new.elapsed ≡ min (batch.elapsed + delay_of r) (2 ^ 64 - 1)
    → IsGiving next after records new (size + size_of r)
gives_one log next now after records batch new size r is little given messages time = record {
  more = is.more ++ r ∷ [];
  behind = subst (λ (x : List Record). IsBehind next x after) (append_assoc records is.more (r ∷ [])) stands;
  messages_are = messages ∙ (ap (λ (x : List ClientMessage). x ++ record_message r ∷ []) is.messages_are ∙ map_one is.more r);
  elapsed_is = time ∙ least (batch.elapsed + delay_of r) (elapsed (is.more ++ r ∷ [])) (let h = elapsed-push is.more r in let k = is.elapsed_is in omega (arith, h, k))
      small;
  size_is = ap (λ (n : ℕ). n + size_of r) is.size_is ∙ (let h = sum_by-append size_of is.more (r ∷ []) in let k : sum_by size_of (r ∷ []) ≡ 0 + size_of r = refl in omega (arith, h, k));
  piece = piece_more is.more r (let s = is.size_is in omega (arith, s, little));
}
  where
    stands : IsBehind next ((records ++ is.more) ++ r ∷ []) after
    stands = given (records ++ is.more) is.behind

    small : elapsed (is.more ++ r ∷ []) < 2 ^ 63
    small = let t = stands.begins.time in let a = elapsed-push (records ++ is.more) r in let b = elapsed-append records is.more in let c = elapsed-push is.more r in omega (arith, t, a, b, c)

    least : (n m : ℕ) → n ≡ m → m < 2 ^ 63 → min n (2 ^ 64 - 1) ≡ m
    least n m same small = omega (arith, same, small)

-- what was made is what is given, if it is something or the log has ended
pub given_all : (log : ViewState) (disk : DiskView) (records : List Record) (batch : Batch) (size most : ℕ) → IsGiving log disk records batch size → (batch.messages ≡ [] → (most ≡ 0) ⊎ IsWhole log records disk) → GivesNext log disk records batch most
given_all log disk records batch size most is end = record { more = is.more; behind = is.behind; messages_are = is.messages_are; elapsed_is = is.elapsed_is; piece = is.piece; end = end }

-- what has a size is something
pub some_size : (log : ViewState) (disk : DiskView) (records : List Record) (batch : Batch) (size : ℕ) → IsGiving log disk records batch size → 65536 < size → batch.messages ≡ [] → ⊥
some_size log disk records batch size is big none = go is.more (sym is.messages_are ∙ none) is.size_is
  where
    go : (rs : List Record) → map record_message rs ≡ [] → size ≡ sum_by size_of rs → ⊥
    go [] e same = (let zero_ : size ≡ 0 = same in omega (arith, zero_, big))
    go (r ∷ rs) e same = absurd (cc (e))

-- a whole log stays whole while it is only read
pub whole_same : (old new : ViewState) (before after : DiskView) (records : List Record) → new.number ≡ old.number → new.body ≡ old.body → OnlyReads before after → IsWhole old records before → IsWhole new records after
whole_same old new before after records number body reads whole = record {
  layout = subst (λ (l : Laid). IsLayout l records) (sym laid) whole.layout;
  count = ap (λ (b : Body). b.count) body ∙ whole.count;
  time = ap (λ (b : Body). b.elapsed) body ∙ whole.time;
}
  where
    image : after.reads ≡ before.reads
    image = fun_ext (λ f. unchanged_reads before after reads.unchanged f)

    laid : committed_laid new.number new.body after ≡ committed_laid old.number old.body before
    laid = ap (λ (n : ℕ). committed_laid n new.body after) number ∙ (ap (λ (b : Body). committed_laid old.number b after) body ∙ ap (λ (i : Image). committed_laid old.number old.body (record after { reads = i })) image)

none_more : (rs : List Record) → map record_message rs ≡ [] → rs ≡ []
none_more [] e = refl
none_more (r ∷ rs) e = absurd (cc (e))

-- a fault of the next record, if none was given
pub damage_first : (tells : Type 0) (start log : ViewState) (old now : DiskView) (records : List Record) (batch : Batch) (size : ℕ) → IsReadingOn tells start log old now → tells → IsGiving log now records batch size → batch.messages ≡ [] → (part : Part)
    → ((rs : List Record) → IsBehind log rs now → IsFaultBehind (committed_laid log.number log.body now) log.body rs part) → IsFaultBehind (committed_laid start.number start.body old) start.body records part
damage_first tells start log old now records batch size reading told is none part damaged =
    subst (λ (b : Body). IsFaultBehind (committed_laid start.number b old) b records part) reading.body
    (subst (λ (n : ℕ). IsFaultBehind (committed_laid n log.body old) log.body records part) reading.number
    (subst (λ (i : Image). IsFaultBehind (committed_laid log.number log.body (record now { reads = i })) log.body records part) image
    (damaged records (subst (λ (rs : List Record). IsBehind log rs now) (ap (λ (rs : List Record). records ++ rs) (none_more is.more (sym is.messages_are ∙ none)) ∙ append-nil records) is.behind))))
  where
    image : now.reads ≡ old.reads
    image = fun_ext (λ f. unchanged_reads old now (reading.reads told).unchanged f)

-- a fault that was handed on, and nothing else
pub fault_first : (r : Result Batch ViewFault) (fault other : ViewFault) (none : Type 0) → IfErr r (λ e. (e ≡ fault) × none) → IsErrOf r other → (fault ≡ other) × none
fault_first (Ok x) fault other none holds is = absurd (cc (is))
fault_first (Err e) fault other none holds is = (sym holds.0 ∙ (let h : e ≡ other = cc (is) in h), holds.1)

-- at the log's end
pub gives_end : (log next : ViewState) (now after : DiskView) (records : List Record) (batch : Batch) (size most : ℕ) → IsGiving log now records batch size → (next.number ≡ log.number) × (next.head ≡ log.head) × (next.body ≡ log.body) → OnlyReads now after
    → ((rs : List Record) → IsBehind log rs now → IsWhole log rs now × IsBehind next rs after) → GivesNext next after records batch most
gives_end log next now after records batch size most is same reads over = record {
  more = is.more;
  behind = (over (records ++ is.more) is.behind).1;
  messages_are = is.messages_are;
  elapsed_is = is.elapsed_is;
  piece = is.piece;
  end = λ none. inr (whole_same log next now after records same.0 same.2 reads
      (subst (λ (rs : List Record). IsWhole log rs now) (ap (λ (rs : List Record). records ++ rs) (none_more is.more (sym is.messages_are ∙ none)) ∙ append-nil records) (over (records ++ is.more) is.behind).0));
}

pub went_well : {X E : Type 0} (r : Result X E) (P : Type 0) → false ≡ is_err r → OnOk r P → P
went_well (Ok x) P is holds = holds
went_well (Err e) P is holds = absurd (let no_ : ⊥ = cc in no_)

-- something was added to it
pub not_none : (ms : List ClientMessage) (m : ClientMessage) → ms ++ m ∷ [] ≡ [] → ⊥
not_none [] m is = absurd (cc)
not_none (x ∷ ms) m is = absurd (cc)

pub length_more : (ms : List ClientMessage) (m : ClientMessage) → length (ms ++ m ∷ []) ≡ length ms + 1
length_more ms m = grind (arith, common_steps)
