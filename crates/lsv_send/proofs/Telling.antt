-- How a conversation goes on: a message is heard, and messages are said.
use Rattle.std.proofs.Common.{◌≡◌, ◌≢◌, ◌∙◌, ◌++◌, ◌∷◌, ◌+◌, ◌<◌, ◌≤◌, ◌^◌, ◌||◌, ◌⊎◌, inl, inr, ℕ, suc, Bool, true, false, List, [], length, map, refl, sym, ap, subst, append-nil, append_assoc, arith, Option, Some, None}
use Rattle.std.specs.Prelude.{min, is_some, ◌-◌, if◌then◌else◌}
use Rattle.std.specs.List.{list_any}
use Rattle.std.proofs.lemmas.List.{map-append}
use Rattle.lsv_bundle.specs.declared.body.Body.{Body}
use Rattle.lsv_dialogue.specs.Events.{Event, Event.Heard, all_said, as_late, heard, said}
use Rattle.lsv_disk.specs.Throughout.{OnlyReads}
use Rattle.lsv_disk.specs.View.{DiskView, Image}
use Rattle.lsv_disk.proofs.Composition.{reads_trans}
use Rattle.lsv_info.specs.declared.times.Exit.{Exit}
use Rattle.lsv_info.specs.declared.times.Head.{Head}
use Rattle.lsv_iolog.specs.Reading.{IsBehind, IsWhole, ViewState, committed_laid}
use Rattle.lsv_msg.specs.declared.messages.ClientMessage.{ClientMessage}
use Rattle.lsv_msg.specs.declared.messages.ServerMessage.{ServerMessage}
use Rattle.lsv_play.specs.Playing.{laid_at}
use Rattle.lsv_play.proofs.Played.{same_image}
use Rattle.lsv_record.specs.Layout.{Begins, IsLayout}
use Rattle.lsv_record.specs.Records.{elapsed}
use Rattle.lsv_record.specs.declared.laid.Laid.{Laid}
use Rattle.lsv_record.specs.declared.records.Record.{Record}
use Rattle.lsv_record.proofs.Layouts.{elapsed-append}
use Rattle.lsv_request.specs.Stored.{record_message}
use Rattle.lsv_send_args.specs.Request.{Accept, Goes, Reject, Sending}
use Rattle.lsv_send_args.specs.Request as asked
use Rattle.lsv_transcript.specs.Reading.{GivesNext}
use Rattle.lsv_transcript.specs.Transcript.{ending, is_id}
use Rattle.lsv_transcript.specs.declared.messages.Batch.{Batch}
use Rattle.lsv_send.specs.Handing.{AreTaken, CanRecord, Far, HandsOut, HasWaited, IsExitBy, IsLone, IsPast, IsSaid, IsUnsaid, IsWithin, SaysAt, Source, has_rest, rest_of, said_at}
use Rattle.lsv_send.specs.Judging.{hears, hears_late, is_done}
use Rattle.lsv_send.specs.Reached.{commits, reached_by}
use Rattle.lsv_send.specs.Opening.{begins_of, opening_of, stop_of}
use Rattle.lsv_send.specs.Talks.{Ends, IsOf, StandsAt, Start, Told, far_of, most_of, place_after}
use Rattle.lsv_send.specs.declared.sender.Place.{Place}
use Rattle.lsv_send.specs.declared.sender.Place.TheVariants.{Opening, Waiting, Records, Closing, Over}
use Rattle.lsv_send.specs.declared.sender.Sender.{Sender}
use Rattle.lsv_send.proofs.Events.{any_snoc, heard_late, heard_one, heard_same, reached_heard, reached_late, reached_said, rest_some, said_late, said_more, said_one, waited_more}

-- ---- a message is heard

-- how far it is after a message
abbrev pub far_heard : ServerMessage → Far → Far
far_heard m far = record { place = far.place; known = far.known || is_id m; sent = far.sent; rest = far.rest; exited = far.exited; reached = far.reached || commits far.sent m }

abbrev pub hands_heard : (source : Source) (image : Image) (far : Far) (events : List Event) (m : ServerMessage) → HandsOut source image far events → HandsOut source image (far_heard m far) (events ++ Heard m ∷ [])
hands_heard source image far events m h = record {
  more = h.more;
  exit = h.exit;
  begins = h.begins;
  within = h.within;
  says = h.says;
  said_is = said_one events m ∙ h.said_is;
  waited = subst (HasWaited far.place (begins_of source.what)) (sym (heard_one events m)) (waited_more far.place (begins_of source.what) (heard events) (m ∷ []) h.waited);
  known = ap (λ (b : Bool). b || is_id m) h.known ∙ sym (any_snoc is_id (heard events) m) ∙ ap (list_any is_id) (sym (heard_one events m));
  sent = h.sent;
  rest = h.rest;
  exited = h.exited;
  reached = ap (λ (b : Bool). b || commits far.sent m) h.reached ∙ sym (reached_heard far.sent events m);
}

abbrev pub told_heard : (start : Start) (s : Sender) (disk : DiskView) (events : List Event) (m : ServerMessage) → Told start s disk events → Told start (hears m s) disk (events ++ Heard m ∷ [])
told_heard start s disk events m t = record {
  hands = hands_heard start.source start.disk.reads (far_of s) events m t.hands;
  stands = t.stands;
  opening = t.opening;
  cuts = t.cuts;
  reads = t.reads;
}

-- ---- a message is heard late

-- how far it is after it
abbrev pub far_late : ServerMessage → Far → Far
far_late m far = record { place = far.place; known = far.known || is_id m; sent = far.sent; rest = far.rest; exited = far.exited; reached = far.reached }

abbrev pub hands_late : (source : Source) (image : Image) (far : Far) (events : List Event) (m : ServerMessage) → HandsOut source image far events → HandsOut source image (far_late m far) (events ++ as_late m)
hands_late source image far events m h = record {
  more = h.more;
  exit = h.exit;
  begins = h.begins;
  within = h.within;
  says = h.says;
  said_is = said_late events m ∙ h.said_is;
  waited = subst (HasWaited far.place (begins_of source.what)) (sym (heard_late events m)) (waited_more far.place (begins_of source.what) (heard events) (m ∷ []) h.waited);
  known = ap (λ (b : Bool). b || is_id m) h.known ∙ sym (any_snoc is_id (heard events) m) ∙ ap (list_any is_id) (sym (heard_late events m));
  sent = h.sent;
  rest = h.rest;
  exited = h.exited;
  reached = h.reached ∙ sym (reached_late far.sent events m);
}

pub told_late : (start : Start) (s : Sender) (disk : DiskView) (events : List Event) (m : ServerMessage) → Told start s disk events → Told start (hears_late m s) disk (events ++ as_late m)
told_late start s disk events m t = record {
  hands = hands_late start.source start.disk.reads (far_of s) events m t.hands;
  stands = t.stands;
  opening = t.opening;
  cuts = t.cuts;
  reads = t.reads;
}

-- ---- nothing is said

pub told_silent : (start : Start) (s : Sender) (disk : DiskView) (events : List Event) → Told start s disk events → Told start s disk (events ++ all_said [])
told_silent start s disk events t = subst (Told start s disk) (sym (append-nil events)) t

-- all was said, by this answer or an earlier one
abbrev pub is_done_soon : Place → Bool
is_done_soon Opening = false
is_done_soon Waiting = false
is_done_soon Records = false
is_done_soon Closing = true
is_done_soon Over = true

over_says : (p : Place) (source : Source) (image : Image) (more : List Record) (exit : Option Exit) → is_done_soon p ≡ true → SaysAt p source image more exit → IsLone source more exit ⊎ IsSaid source image more exit
over_says Opening source image more exit done says = absurd (let no : false ≡ true = done in cc)
over_says Waiting source image more exit done says = absurd (let no : false ≡ true = done in cc)
over_says Records source image more exit done says = absurd (let no : false ≡ true = done in cc)
over_says Closing source image more exit done says = says
over_says Over source image more exit done says = says

over_said : (p : Place) (opening : List ClientMessage) (more : List Record) (exit : Option Exit) → is_done_soon p ≡ true → said_at p opening more exit ≡ opening ++ rest_of more exit
over_said Opening opening more exit done = absurd (let no : false ≡ true = done in cc)
over_said Waiting opening more exit done = refl
over_said Records opening more exit done = refl
over_said Closing opening more exit done = refl
over_said Over opening more exit done = refl

over_waited : (p begins : Place) (messages : List ServerMessage) → is_done_soon p ≡ true → HasWaited p begins messages → begins ≡ Waiting → list_any is_id messages ≡ true
over_waited Opening begins messages done waited = absurd (let no : false ≡ true = done in cc)
over_waited Waiting begins messages done waited = absurd (let no : false ≡ true = done in cc)
over_waited Records begins messages done waited = absurd (let no : false ≡ true = done in cc)
over_waited Closing begins messages done waited = waited
over_waited Over begins messages done waited = waited

abbrev hands_over : (source : Source) (image : Image) (far : Far) (events : List Event) (h : HandsOut source image far events) → is_done_soon far.place ≡ true → HandsOut source image (record { place = Over; known = far.known; sent = far.sent; rest = far.rest; exited = far.exited; reached = far.reached }) events
hands_over source image far events h done = record {
  more = h.more;
  exit = h.exit;
  begins = h.begins;
  within = h.within;
  says = over_says far.place source image h.more h.exit done h.says;
  said_is = h.said_is ∙ over_said far.place (opening_of source.what source.head) h.more h.exit done;
  waited = over_waited far.place (begins_of source.what) (heard events) done h.waited;
  known = h.known;
  sent = h.sent;
  rest = h.rest;
  exited = h.exited;
  reached = h.reached;
}

-- ---- the opening is said

pub within_none : (stop : Option ℕ) (skipped : List Record) → IsWithin stop skipped []
within_none None skipped = tt
within_none (Some time) skipped = inl refl

says_first : (what : Sending) (number : ℕ) (source : Source) (image : Image) → source.what ≡ what → SaysAt (begins_of what) source image [] None
says_first (asked.Records None stop) number source image is = record { more_is = refl; exit_is = refl }
says_first (asked.Records (Some goes) stop) number source image is = record { begins = λ e. let no : Records ≡ Closing = sym (ap begins_of is) ∙ e in cc; exit_is = refl }
says_first Accept number source image is = inl (record { begins = ap begins_of is; more_is = refl; exit_is = refl })
says_first (Reject reason) number source image is = inl (record { begins = ap begins_of is; more_is = refl; exit_is = refl })

waited_first : (what : Sending) (messages : List ServerMessage) → HasWaited (begins_of what) (begins_of what) messages
waited_first (asked.Records None stop) messages = refl
waited_first (asked.Records (Some goes) stop) messages = λ is. absurd (let no : Records ≡ Waiting = is in cc)
waited_first Accept messages = λ is. absurd (let no : Closing ≡ Waiting = is in cc)
waited_first (Reject reason) messages = λ is. absurd (let no : Closing ≡ Waiting = is in cc)

stands_first : (what : Sending) (log : ViewState) (records : List Record) (disk : DiskView) → IsBehind log records disk → StandsAt (begins_of what) log records disk
stands_first (asked.Records None stop) log records disk behind = behind
stands_first (asked.Records (Some goes) stop) log records disk behind = behind
stands_first Accept log records disk behind = tt
stands_first (Reject reason) log records disk behind = tt

said_first : (what : Sending) (opening : List ClientMessage) → said_at (begins_of what) opening [] None ≡ opening
said_first (asked.Records None stop) opening = append-nil opening
said_first (asked.Records (Some goes) stop) opening = append-nil opening
said_first Accept opening = append-nil opening
said_first (Reject reason) opening = append-nil opening

pub first_of : (what : Sending) (head : Head) → (m : ClientMessage) × (ms : List ClientMessage) × (opening_of what head ≡ m ∷ ms)
first_of (asked.Records None stop) head = (_, _, refl)
first_of (asked.Records (Some goes) stop) head = (_, _, refl)
first_of Accept head = (_, _, refl)
first_of (Reject reason) head = (_, _, refl)

-- the place after an opening is another
pub begins_not : (what : Sending) → begins_of what ≡ Opening → ⊥
begins_not (asked.Records None stop) is = cc
begins_not (asked.Records (Some goes) stop) is = cc
begins_not Accept is = cc
begins_not (Reject reason) is = cc

-- and there more is to be said
pub begins_goes : (what : Sending) → is_done (begins_of what) ≡ false
begins_goes (asked.Records None stop) = refl
begins_goes (asked.Records (Some goes) stop) = refl
begins_goes Accept = refl
begins_goes (Reject reason) = refl

-- the opening is said, and a place follows it
abbrev hands_first : (source : Source) (image : Image) (far : Far) (events : List Event) (h : HandsOut source image far events) → far.place ≡ Opening
    → (p : Place) → p ≡ begins_of source.what → (opening : List ClientMessage) → opening ≡ opening_of source.what source.head
    → HandsOut source image (record { place = p; known = far.known; sent = far.sent; rest = far.rest; exited = far.exited; reached = false }) (events ++ all_said opening)
hands_first source image far events h at p begins opening op =
    let unsaid : IsUnsaid h.more h.exit = subst (λ (q : Place). SaysAt q source image h.more h.exit) at h.says in
    let said_none : said events ≡ [] = h.said_is ∙ ap (λ (q : Place). said_at q (opening_of source.what source.head) h.more h.exit) at in
    let one = first_of source.what source.head in record {
      more = [];
      exit = None;
      begins = subst (λ (rs : List Record). Begins (laid_at source.number source.body image) (source.skipped ++ rs)) unsaid.more_is h.begins;
      within = within_none (stop_of source.what) source.skipped;
      says = subst (λ (q : Place). SaysAt q source image [] None) (sym begins) (says_first source.what source.number source image refl);
      said_is = said_more events opening ∙ ap (λ (ms : List ClientMessage). ms ++ opening) said_none ∙ op ∙ sym (said_first source.what (opening_of source.what source.head))
          ∙ ap (λ (q : Place). said_at q (opening_of source.what source.head) [] None) (sym begins);
      waited = subst (λ (q : Place). HasWaited q (begins_of source.what) (heard (events ++ all_said opening))) (sym begins) (waited_first source.what (heard (events ++ all_said opening)));
      known = h.known ∙ ap (list_any is_id) (sym (heard_same events opening));
      sent = h.sent ∙ ap (λ (rs : List Record). elapsed (source.skipped ++ rs)) unsaid.more_is;
      rest = h.rest ∙ ap (λ (rs : List Record). has_rest rs h.exit) unsaid.more_is ∙ ap (has_rest []) unsaid.exit_is;
      exited = h.exited ∙ ap is_some unsaid.exit_is;
      reached = sym (ap (λ (ms : List ClientMessage). reached_by far.sent false (events ++ all_said ms)) (op ∙ one.2) ∙ reached_said far.sent events one.0 one.1);
    }

-- it stands after the records that are passed over
stands_there : (p : Place) (log : ViewState) (records : List Record) (disk : DiskView) → p ≡ Opening → StandsAt p log records disk → IsBehind log records disk
stands_there p log records disk at stands = subst (λ (q : Place). StandsAt q log records disk) at stands

pub told_opening : (start : Start) (s : Sender) (disk : DiskView) (events : List Event) → IsOf start.source s → s.place ≡ Opening → Told start s disk events
    → Told start (record s { opening = []; place = s.begins; reached = false }) disk (events ++ all_said s.opening)
told_opening start s disk events is at t =
    let unsaid : IsUnsaid t.hands.more t.hands.exit = subst (λ (q : Place). SaysAt q start.source start.disk.reads t.hands.more t.hands.exit) at t.hands.says in
    let behind : IsBehind s.log (start.source.skipped ++ []) disk =
    subst (λ (rs : List Record). IsBehind s.log (start.source.skipped ++ rs) disk) unsaid.more_is (stands_there s.place s.log (start.source.skipped ++ t.hands.more) disk at t.stands) in record {
      hands = hands_first start.source start.disk.reads (far_of s) events t.hands at s.begins is.begins s.opening (t.opening at);
      stands = subst (λ (q : Place). StandsAt q s.log (start.source.skipped ++ []) disk) (sym is.begins) (stands_first start.source.what s.log (start.source.skipped ++ []) disk behind);
      opening = λ e. absurd (begins_not start.source.what (sym is.begins ∙ e));
      cuts = t.cuts;
      reads = t.reads;
    }

-- ---- where records may be said

can_exit : (p : Place) (k : Bool) (source : Source) (image : Image) (more : List Record) (exit : Option Exit) → CanRecord p k → SaysAt p source image more exit → exit ≡ None
can_exit Opening k source image more exit can says = absurd can
can_exit Waiting k source image more exit can says = says.exit_is
can_exit Records k source image more exit can says = says.exit_is
can_exit Closing k source image more exit can says = absurd can
can_exit Over k source image more exit can says = absurd can

can_said : (p : Place) (k : Bool) (opening : List ClientMessage) (more : List Record) (exit : Option Exit) → CanRecord p k → said_at p opening more exit ≡ opening ++ rest_of more exit
can_said Opening k opening more exit can = absurd can
can_said Waiting k opening more exit can = refl
can_said Records k opening more exit can = refl
can_said Closing k opening more exit can = absurd can
can_said Over k opening more exit can = absurd can

can_wait : (p : Place) (k : Bool) (begins : Place) (messages : List ServerMessage) → CanRecord p k → k ≡ list_any is_id messages → HasWaited p begins messages → begins ≡ Waiting → list_any is_id messages ≡ true
can_wait Opening k begins messages can known waited is = absurd can
can_wait Waiting k begins messages can known waited is = sym known ∙ can
can_wait Records k begins messages can known waited is = waited is
can_wait Closing k begins messages can known waited is = absurd can
can_wait Over k begins messages can known waited is = absurd can

pub can_begin : (p : Place) (k : Bool) (source : Source) (image : Image) (more : List Record) (exit : Option Exit) (messages : List ServerMessage) → CanRecord p k → SaysAt p source image more exit → HasWaited p (begins_of source.what) messages → begins_of source.what ≢ Closing
can_begin Opening k source image more exit messages can says waited = absurd can
can_begin Waiting k source image more exit messages can says waited = λ e. let no : Waiting ≡ Closing = sym waited ∙ e in cc
can_begin Records k source image more exit messages can says waited = says.begins
can_begin Closing k source image more exit messages can says waited = absurd can
can_begin Over k source image more exit messages can says waited = absurd can

pub can_stand : (p : Place) (k : Bool) (log : ViewState) (records : List Record) (disk : DiskView) → CanRecord p k → StandsAt p log records disk → IsBehind log records disk
can_stand Opening k log records disk can stands = absurd can
can_stand Waiting k log records disk can stands = stands
can_stand Records k log records disk can stands = stands
can_stand Closing k log records disk can stands = absurd can
can_stand Over k log records disk can stands = absurd can

-- what was said there: the opening, and some records
said_there : (source : Source) (image : Image) (far : Far) (events : List Event) (h : HandsOut source image far events) → CanRecord far.place far.known → said events ≡ opening_of source.what source.head ++ rest_of h.more None
said_there source image far events h can =
    h.said_is ∙ can_said far.place far.known (opening_of source.what source.head) h.more h.exit can
    ∙ ap (λ (e : Option Exit). opening_of source.what source.head ++ rest_of h.more e) (can_exit far.place far.known source image h.more h.exit can h.says)

-- ---- records are said

rest_join : (xs ys : List Record) → rest_of xs None ++ map record_message ys ≡ rest_of (xs ++ ys) None
rest_join xs ys =
    ap (λ (ms : List ClientMessage). ms ++ map record_message ys) (append-nil (map record_message xs)) ∙ sym (map-append record_message xs ys) ∙ sym (append-nil (map record_message (xs ++ ys)))

pub some_more : (more : List Record) (messages : List ClientMessage) → messages ≡ map record_message more → (messages ≡ [] → ⊥) → (r : Record) × (ys : List Record) × (more ≡ r ∷ ys)
some_more [] messages is some = absurd (some is)
some_more (r ∷ ys) messages is some = (r, ys, refl)

abbrev hands_records : (source : Source) (image : Image) (far : Far) (events : List Event) (h : HandsOut source image far events) → CanRecord far.place far.known
    → (ms : List ClientMessage) (r : Record) (ys more : List Record) → more ≡ r ∷ ys → ms ≡ map record_message more → Begins (laid_at source.number source.body image) (source.skipped ++ (h.more ++ more))
    → IsWithin (stop_of source.what) source.skipped (h.more ++ more) → (through : ℕ) → through ≡ elapsed (source.skipped ++ (h.more ++ more))
    → HandsOut source image (record { place = Records; known = far.known; sent = through; rest = true; exited = far.exited; reached = false }) (events ++ all_said ms)
hands_records source image far events h can ms r ys more are is begins within through time =
    let opening = opening_of source.what source.head in
    let first : ms ≡ record_message r ∷ map record_message ys = is ∙ ap (map record_message) are in record {
      more = h.more ++ more;
      exit = None;
      begins = begins;
      within = within;
      says = record { begins = can_begin far.place far.known source image h.more h.exit (heard events) can h.says h.waited; exit_is = refl };
      said_is = said_more events ms ∙ ap (λ (xs : List ClientMessage). xs ++ ms) (said_there source image far events h can) ∙ append_assoc opening (rest_of h.more None) ms
          ∙ ap (λ (xs : List ClientMessage). opening ++ (rest_of h.more None ++ xs)) is ∙ ap (λ (xs : List ClientMessage). opening ++ xs) (rest_join h.more more);
      waited = λ waits. ap (list_any is_id) (heard_same events ms) ∙ can_wait far.place far.known (begins_of source.what) (heard events) can h.known h.waited waits;
      known = h.known ∙ ap (list_any is_id) (sym (heard_same events ms));
      sent = time;
      rest = rest_some h.more r ys None ∙ ap (λ (zs : List Record). has_rest (h.more ++ zs) None) (sym are);
      exited = h.exited ∙ ap is_some (can_exit far.place far.known source image h.more h.exit can h.says);
      reached = sym (ap (λ (xs : List ClientMessage). reached_by through false (events ++ all_said xs)) first ∙ reached_said through events (record_message r) (map record_message ys));
    }

-- the committed bytes are those of the image at the beginning
pub laid_here : (number : ℕ) (body : Body) (log : ViewState) (old now : DiskView) → log.number ≡ number → log.body ≡ body → now.reads ≡ old.reads → committed_laid log.number log.body now ≡ laid_at number body old.reads
laid_here number body log old now n b reads =
    ap (λ (image : Image). laid_at log.number log.body image) reads ∙ ap (λ (k : ℕ). laid_at k log.body old.reads) n ∙ ap (λ (x : Body). laid_at number x old.reads) b

pub begins_here : (number : ℕ) (body : Body) (log : ViewState) (old now : DiskView) (rs : List Record) → log.number ≡ number → log.body ≡ body → OnlyReads old now → IsBehind log rs now → Begins (laid_at number body old.reads) rs
begins_here number body log old now rs n b reads behind = subst (λ (l : Laid). Begins l rs) (laid_here number body log old now n b (same_image old now reads)) behind.begins

-- the time of records that begin a log is small
small_sum : (a b through : ℕ) → a + b < 2 ^ 63 → through ≡ min (a + b) (2 ^ 64 - 1) → through ≡ a + b
small_sum a b through small is = omega (arith, small, is)

abbrev within_more : (stop : Option ℕ) (skipped more : List Record) (through : ℕ) → through ≡ elapsed (skipped ++ more) → (IsPast stop through → ⊥) → IsWithin stop skipped more
within_more None skipped more through is not = tt
within_more (Some time) skipped more through is not = inr (omega (arith, is, not))

-- a batch of records of which none ends after the stop is said
pub told_records : (start : Start) (s : Sender) (log : ViewState) (disk later : DiskView) (events : List Event) (batch : Batch) (most through : ℕ) → IsOf start.source s → CanRecord s.place s.known
    → log.number ≡ s.log.number → log.body ≡ s.log.body → OnlyReads disk later → ((records : List Record) → IsBehind s.log records disk → GivesNext log later records batch most)
    → (batch.messages ≡ [] → ⊥) → through ≡ min (s.sent + batch.elapsed) (2 ^ 64 - 1) → (IsPast s.stop through → ⊥) → Told start s disk events
    → Told start (record s { log = log; sent = through; place = Records; more = true; reached = false }) later (events ++ all_said batch.messages)
told_records start s log disk later events batch most through is can number body reads gives some sum not t =
    let behind = can_stand s.place s.known s.log (start.source.skipped ++ t.hands.more) disk can t.stands in
    let g = gives (start.source.skipped ++ t.hands.more) behind in
    let one = some_more g.more batch.messages g.messages_are some in
    let all = reads_trans start.disk disk later t.reads reads in
    let same : (start.source.skipped ++ t.hands.more) ++ g.more ≡ start.source.skipped ++ (t.hands.more ++ g.more) = append_assoc start.source.skipped t.hands.more g.more in
    let stands : IsBehind log (start.source.skipped ++ (t.hands.more ++ g.more)) later = subst (λ (rs : List Record). IsBehind log rs later) same g.behind in
    let begins : Begins (laid_at start.source.number start.source.body start.disk.reads) (start.source.skipped ++ (t.hands.more ++ g.more)) =
    begins_here start.source.number start.source.body log start.disk later (start.source.skipped ++ (t.hands.more ++ g.more)) (number ∙ is.number) (body ∙ is.body) all stands in
    let time : elapsed (start.source.skipped ++ (t.hands.more ++ g.more)) ≡ s.sent + batch.elapsed =
    ap elapsed (sym same) ∙ elapsed-append (start.source.skipped ++ t.hands.more) g.more ∙ ap (λ (n : ℕ). n + elapsed g.more) (sym t.hands.sent) ∙ ap (λ (n : ℕ). s.sent + n) (sym g.elapsed_is) in
    let sent : through ≡ elapsed (start.source.skipped ++ (t.hands.more ++ g.more)) = small_sum s.sent batch.elapsed through (subst (λ (n : ℕ). n < 2 ^ 63) time begins.time) sum ∙ sym time in record {
      hands = hands_records start.source start.disk.reads (far_of s) events t.hands can batch.messages one.0 one.1 g.more one.2 g.messages_are begins
          (subst (λ (o : Option ℕ). IsWithin o start.source.skipped (t.hands.more ++ g.more)) is.stop (within_more s.stop start.source.skipped (t.hands.more ++ g.more) through sent not)) through sent;
      stands = stands;
      opening = λ e. absurd (let no : Records ≡ Opening = e in cc);
      cuts = t.cuts;
      reads = all;
    }

-- ---- the ending is said

says_end : (exit : Option Exit) (source : Source) (image : Image) (more : List Record) → IsSaid source image more exit → SaysAt (place_after exit) source image more exit
says_end None source image more is = inr is
says_end (Some exit) source image more is = inr is

said_end : (exit : Option Exit) (opening : List ClientMessage) (more : List Record) → opening ++ (rest_of more None ++ ending exit) ≡ said_at (place_after exit) opening more exit
said_end None opening more = ap (λ (ms : List ClientMessage). opening ++ ms) (append-nil (rest_of more None))
said_end (Some exit) opening more = ap (λ (ms : List ClientMessage). opening ++ (ms ++ ending (Some exit))) (append-nil (map record_message more))

waited_end : (exit : Option Exit) (begins : Place) (messages : List ServerMessage) → (begins ≡ Waiting → list_any is_id messages ≡ true) → HasWaited (place_after exit) begins messages
waited_end None begins messages waits = waits
waited_end (Some exit) begins messages waits = waits

rest_end : (exit : Option Exit) (more : List Record) → (has_rest more None || is_some exit) ≡ has_rest more exit
rest_end None [] = refl
rest_end (Some exit) [] = refl
rest_end None (r ∷ more) = refl
rest_end (Some exit) (r ∷ more) = refl

reached_end : (exit : Option Exit) (time : ℕ) (events : List Event) (b c : Bool) → b ≡ reached_by time false events → c ≡ (if is_some exit then false else b) → c ≡ reached_by time false (events ++ all_said (ending exit))
reached_end None time events b c is same = same ∙ is ∙ ap (reached_by time false) (sym (append-nil events))
reached_end (Some exit) time events b c is same = same ∙ sym (reached_said time events _ [])

stands_end : (exit : Option Exit) (log : ViewState) (records : List Record) (disk : DiskView) → StandsAt (place_after exit) log records disk
stands_end None log records disk = tt
stands_end (Some exit) log records disk = tt

not_opening : (exit : Option Exit) → place_after exit ≡ Opening → ⊥
not_opening None is = cc
not_opening (Some exit) is = cc

abbrev hands_end : (source : Source) (image : Image) (far far' : Far) (events : List Event) (h : HandsOut source image far events) → CanRecord far.place far.known → (exit : Option Exit) (ms : List ClientMessage)
    → ms ≡ ending exit → IsSaid source image h.more exit → far'.place ≡ place_after exit → far'.known ≡ far.known → far'.sent ≡ far.sent → far'.rest ≡ (far.rest || is_some exit) → far'.exited ≡ (far.exited || is_some exit)
    → far'.reached ≡ (if is_some exit then false else far.reached) → HandsOut source image far' (events ++ all_said ms)
hands_end source image far far' events h can exit ms is said_all place known sent rest exited reached =
    let opening = opening_of source.what source.head in
    let none = can_exit far.place far.known source image h.more h.exit can h.says in record {
      more = h.more;
      exit = exit;
      begins = h.begins;
      within = h.within;
      says = subst (λ (q : Place). SaysAt q source image h.more exit) (sym place) (says_end exit source image h.more said_all);
      said_is = said_more events ms ∙ ap (λ (xs : List ClientMessage). xs ++ ms) (said_there source image far events h can) ∙ append_assoc opening (rest_of h.more None) ms
          ∙ ap (λ (xs : List ClientMessage). opening ++ (rest_of h.more None ++ xs)) is ∙ said_end exit opening h.more ∙ ap (λ (q : Place). said_at q opening h.more exit) (sym place);
      waited = subst (λ (q : Place). HasWaited q (begins_of source.what) (heard (events ++ all_said ms))) (sym place)
          (waited_end exit (begins_of source.what) (heard (events ++ all_said ms)) (λ waits. ap (list_any is_id) (heard_same events ms) ∙ can_wait far.place far.known (begins_of source.what) (heard events) can h.known h.waited waits));
      known = known ∙ h.known ∙ ap (list_any is_id) (sym (heard_same events ms));
      sent = sent ∙ h.sent;
      rest = rest ∙ ap (λ (b : Bool). b || is_some exit) (h.rest ∙ ap (has_rest h.more) none) ∙ rest_end exit h.more;
      exited = exited ∙ ap (λ (b : Bool). b || is_some exit) (h.exited ∙ ap is_some none);
      reached = reached_end exit far.sent events far.reached far'.reached h.reached reached ∙ ap (λ (xs : List ClientMessage). reached_by far.sent false (events ++ all_said xs)) (sym is)
          ∙ ap (λ (t : ℕ). reached_by t false (events ++ all_said ms)) (sym sent);
    }

-- the log's end, and a record after the stop
pub taken_whole : (source : Source) (stop : Option ℕ) (log : ViewState) (old now : DiskView) (records : List Record) → log.number ≡ source.number → log.body ≡ source.body → OnlyReads old now → IsBehind log records now → IsWhole log records now
    → AreTaken (laid_at source.number source.body old.reads) source.body stop records
taken_whole source stop log old now records number body reads behind whole = inl (record {
  begins = begins_here source.number source.body log old now records number body reads behind;
  layout = subst (λ (l : Laid). IsLayout l records) (laid_here source.number source.body log old now number body (same_image old now reads)) whole.layout;
  count = ap (λ (b : Body). b.count) (sym body) ∙ whole.count;
  time = ap (λ (b : Body). b.elapsed) (sym body) ∙ whole.time;
})

one_more : (more : List Record) (messages : List ClientMessage) → messages ≡ map record_message more → length messages ≤ 1 → (messages ≡ [] → ⊥) → (r : Record) × (more ≡ r ∷ [])
one_more [] messages is few some = absurd (some is)
one_more (r ∷ []) messages is few some = (r, refl)
one_more (r ∷ q ∷ more) messages is few some = absurd (let same : length messages ≡ suc (suc (length (map record_message more))) = ap length is in omega (arith, same, few))

one_with : (stop : Option ℕ) (time n most : ℕ) → IsPast stop time → n ≤ most_of stop most → n ≤ 1
one_with None time n most past few = absurd past
one_with (Some stop) time n most past few = few

pub taken_past : (source : Source) (stop : Option ℕ) (log : ViewState) (old now : DiskView) (records : List Record) (batch : Batch) (room most through sent : ℕ) → log.number ≡ source.number → log.body ≡ source.body → OnlyReads old now → GivesNext log now records batch most
    → length batch.messages ≤ most_of stop room → (batch.messages ≡ [] → ⊥) → sent ≡ elapsed records → through ≡ min (sent + batch.elapsed) (2 ^ 64 - 1) → IsPast stop through → AreTaken (laid_at source.number source.body old.reads) source.body stop records
taken_past source stop log old now records batch room most through sent number body reads g few some time sum past =
    let one = one_more g.more batch.messages g.messages_are (one_with stop through (length batch.messages) room past few) some in
    let begins : Begins (laid_at source.number source.body old.reads) (records ++ one.0 ∷ []) =
    subst (λ (rs : List Record). Begins (laid_at source.number source.body old.reads) (records ++ rs)) one.1 (begins_here source.number source.body log old now (records ++ g.more) number body reads g.behind) in
    let all : elapsed (records ++ one.0 ∷ []) ≡ sent + batch.elapsed =
    ap (λ (rs : List Record). elapsed (records ++ rs)) (sym one.1) ∙ elapsed-append records g.more ∙ ap (λ (n : ℕ). n + elapsed g.more) (sym time) ∙ ap (λ (n : ℕ). sent + n) (sym g.elapsed_is) in
    let is : through ≡ elapsed (records ++ one.0 ∷ []) = small_sum sent batch.elapsed through (subst (λ (n : ℕ). n < 2 ^ 63) all begins.time) sum ∙ sym all in
    inr (one.0, begins, subst (IsPast stop) is past)

-- the exit is said, if one is to be sent, after all records that are to be sent
pub told_ending : (start : Start) (s new : Sender) (log : ViewState) (disk later : DiskView) (image : Image) (events : List Event) (ms : List ClientMessage) → IsOf start.source s → CanRecord s.place s.known → log.number ≡ s.log.number → log.body ≡ s.log.body
    → image ≡ start.disk.reads → Ends (record s { log = log }) new image ms → OnlyReads disk later → (t : Told start s disk events)
    → AreTaken (laid_at start.source.number start.source.body start.disk.reads) start.source.body (stop_of start.source.what) (start.source.skipped ++ t.hands.more) → Told start new later (events ++ all_said ms)
told_ending start s new log disk later image events ms is can number body same ends reads t taken =
    let exit_is : IsExitBy (stop_of start.source.what) start.source.number start.source.body start.disk.reads ends.exit =
    subst (λ (o : Option ℕ). IsExitBy o start.source.number start.source.body start.disk.reads ends.exit) is.stop
    (subst (λ (n : ℕ). IsExitBy s.stop n start.source.body start.disk.reads ends.exit) (number ∙ is.number)
    (subst (λ (b : Body). IsExitBy s.stop log.number b start.disk.reads ends.exit) (body ∙ is.body) (subst (λ (i : Image). IsExitBy s.stop log.number log.body i ends.exit) same ends.exit_is))) in record {
      hands = hands_end start.source start.disk.reads (far_of s) (far_of new) events t.hands can ends.exit ms ends.said_is
          (record { begins = can_begin s.place s.known start.source start.disk.reads t.hands.more t.hands.exit (heard events) can t.hands.says t.hands.waited; taken = taken; exit_is = exit_is }) ends.place ends.known ends.sent ends.more ends.exited ends.reached;
      stands = subst (λ (q : Place). StandsAt q new.log (start.source.skipped ++ t.hands.more) later) (sym ends.place) (stands_end ends.exit new.log (start.source.skipped ++ t.hands.more) later);
      opening = λ e. absurd (not_opening ends.exit (sym ends.place ∙ e));
      cuts = t.cuts;
      reads = reads_trans start.disk disk later t.reads reads;
    }

-- all was said before
pub told_over : (start : Start) (s : Sender) (disk : DiskView) (events : List Event) → is_done_soon s.place ≡ true → Told start s disk events → Told start (record s { place = Over }) disk (events ++ all_said [])
told_over start s disk events done t = told_silent start (record s { place = Over }) disk events (record {
  hands = hands_over start.source start.disk.reads (far_of s) events t.hands done;
  stands = tt;
  opening = λ e. absurd (let no : Over ≡ Opening = e in cc);
  cuts = t.cuts;
  reads = t.reads;
})
