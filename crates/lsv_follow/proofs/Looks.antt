-- Lists of looks: with one look more, and what is put for them.
use Rattle.std.proofs.Common.{◌≡◌, ◌≢◌, ◌∙◌, ◌⊎◌, ◌<◌, ◌≤◌, ◌*◌, inl, inr, ℕ, suc, List, [], ◌∷◌, ◌++◌, refl, sym, ap, subst, append-nil, append_assoc, length, length-append, arith}
use Rattle.lsv_disk.specs.View.{Image}
use Rattle.lsv_iolog.specs.Reading.{HasCuts}
use Rattle.lsv_record.specs.declared.records.Record.{Record}
use Rattle.lsv_play.specs.declared.options.Options.{Options}
use Rattle.lsv_play.specs.declared.screen.Item.{Item}
use Rattle.lsv_follow.specs.Ending.{AreLooks, EndsOver, IsGoing, IsLook, most_quiet}
use Rattle.lsv_follow.specs.Followed.{followed, followed_by, followed_from, put_at_acts, quiet_after, quiet_in, records_of, seen_from}
use Rattle.lsv_follow.specs.Following.{Finds, given_by}
use Rattle.lsv_follow.specs.declared.follow.Seen.{Seen}
use Rattle.lsv_follow.specs.declared.follow.Seen.TheVariants as seen

-- ---- one look more

pub quiet_push : (n : ℕ) (looks : List Seen) (look : Seen) → quiet_in n (looks ++ look ∷ []) ≡ quiet_after (quiet_in n looks) look
quiet_push n [] look = refl
quiet_push n (first ∷ looks) look = quiet_push (quiet_after n first) looks look

from_push : (o : Options) (n : ℕ) (looks : List Seen) (look : Seen) → followed_from o n (looks ++ look ∷ []) ≡ followed_from o n looks ++ followed_by o (quiet_in n looks) look
from_push o n [] look = append-nil (followed_by o n look)
from_push o n (first ∷ looks) look =
    ap (λ (items : List Item). followed_by o n first ++ items) (from_push o (quiet_after n first) looks look)
    ∙ sym (append_assoc (followed_by o n first) (followed_from o (quiet_after n first) looks) (followed_by o (quiet_in (quiet_after n first) looks) look))

pub followed_push : (o : Options) (looks : List Seen) (look : Seen) → followed o (looks ++ look ∷ []) ≡ followed o looks ++ followed_by o (quiet_in 0 looks) look
followed_push o looks look = from_push o 0 looks look

pub records_push : (looks : List Seen) (look : Seen) → records_of (looks ++ look ∷ []) ≡ records_of looks ++ given_by look
records_push [] look = append-nil (given_by look)
records_push (first ∷ looks) look = ap (λ (rs : List Record). given_by first ++ rs) (records_push looks look) ∙ sym (append_assoc (given_by first) (records_of looks) (given_by look))

-- ---- the last look

pub none_split : (front : List Seen) (look : Seen) (after : List Seen) → [] ≡ front ++ look ∷ after → ⊥
none_split [] look after e = cc
none_split (x ∷ front) look after e = cc

-- a look among others and one more is this one, or among the others
pub last_look : (looks before : List Seen) (one look : Seen) (after : List Seen) → looks ++ one ∷ [] ≡ before ++ look ∷ after → ((before ≡ looks) × (look ≡ one)) ⊎ ((rest : List Seen) × (looks ≡ before ++ look ∷ rest))
last_look [] [] one look after e = inl (refl, (let a : look ≡ one = cc in a))
last_look [] (y ∷ before) one look after e = absurd (let a : [] ≡ before ++ look ∷ after = cc in none_split before look after a)
last_look (z ∷ looks) [] one look after e = inr (looks, let a : z ≡ look = cc in ap (λ (w : Seen). w ∷ looks) a)
last_look (z ∷ looks) (y ∷ before) one look after e = elim (last_look looks before one look after (let a : looks ++ one ∷ [] ≡ before ++ look ∷ after = cc in a)) [
  | inl p ↦ inl ((let a : z ≡ y = cc in ap (λ (w : Seen). w ∷ before) (sym a) ∙ ap (λ (l : List Seen). z ∷ l) p.0), p.1)
  | inr p ↦ inr (p.0, (let a : z ≡ y = cc in ap (λ (w : Seen). w ∷ looks) a ∙ ap (λ (l : List Seen). y ∷ l) p.1))
]

pub over_last : (looks : List Seen) (look : Seen) → EndsOver (looks ++ look ∷ []) → look ≡ seen.End
over_last looks look (front, e) = elim (last_look looks front look seen.End [] e) [
  | inl p ↦ sym p.1
  | inr p ↦ absurd (too_long front looks p.0 look e p.1)
] where
  too_long : (front looks rest : List Seen) (look : Seen) → looks ++ look ∷ [] ≡ front ++ seen.End ∷ [] → looks ≡ front ++ seen.End ∷ rest → ⊥
  too_long [] [] rest look e is = cc
  too_long [] (x ∷ looks) rest look e is = absurd (let a : looks ++ look ∷ [] ≡ [] = cc in none_split looks look [] (sym a))
  too_long (y ∷ front) [] rest look e is = cc
  too_long (y ∷ front) (x ∷ looks) rest look e is = too_long front looks rest look (let a : looks ++ look ∷ [] ≡ front ++ seen.End ∷ [] = cc in a) (let a : looks ≡ front ++ seen.End ∷ rest = cc in a)

-- ---- looks that don't end it

pub going_none : IsGoing []
going_none = record { not_over = λ over. none_split over.0 seen.End [] over.1; few = omega arith }

pub going_push : (looks : List Seen) (look : Seen) → look ≢ seen.End → quiet_in 0 (looks ++ look ∷ []) < most_quiet → IsGoing (looks ++ look ∷ [])
going_push looks look not_end few = record { not_over = λ over. not_end (over_last looks look over); few = few }

pub looks_none : (n cuts : ℕ) (images : ℕ → Image) → AreLooks n cuts images []
looks_none n cuts images before look after e = absurd (none_split before look after e)

pub looks_push : (n cuts : ℕ) (images : ℕ → Image) (looks : List Seen) (look : Seen) → AreLooks n cuts images looks → IsGoing looks → Finds n cuts (images (2 * length looks)) (records_of looks) look → HasCuts n cuts (images (suc (2 * length looks)))
    → AreLooks n cuts images (looks ++ look ∷ [])
looks_push n cuts images looks one are going finds uncut before look after e = elim (last_look looks before one look after e) [
  | inl p ↦ at_last before look p.0 p.1
  | inr p ↦ are before look p.0 p.1
] where
  at_last : (before : List Seen) (look : Seen) → before ≡ looks → look ≡ one → IsLook n cuts images before look
  at_last before look is same = subst (λ (b : List Seen). IsLook n cuts images b look) (sym is) (subst (λ (s : Seen). IsLook n cuts images looks s) (sym same) (record { going = going; finds = finds; uncut = uncut }))

-- ---- what the others saw

-- what was put by each act: two for each look
pub put_after : Options → List Seen → List Seen → List (List Item)
put_after o done [] = []
put_after o done (look ∷ looks) = followed o done ∷ followed o (done ++ look ∷ []) ∷ put_after o (done ++ look ∷ []) looks

-- none at first
pub seen_none : (o : Options) (noted : List (List Item)) (before : List Item) → noted ≡ noted ++ seen_from before (put_after o [] [])
unfolding put_after
seen_none o noted before = sym (append-nil noted)

pub acts_push : (o : Options) (done looks : List Seen) (one : Seen) → put_after o done (looks ++ one ∷ []) ≡ (put_after o done looks ++ followed o (done ++ looks) ∷ []) ++ followed o ((done ++ looks) ++ one ∷ []) ∷ []
unfolding put_after
acts_push o done [] one = ap (λ (d : List Seen). followed o d ∷ followed o (d ++ one ∷ []) ∷ []) (sym (append-nil done))
acts_push o done (look ∷ looks) one =
    ap (λ (l : List (List Item)). followed o done ∷ followed o (done ++ look ∷ []) ∷ l)
    (acts_push o (done ++ look ∷ []) looks one
    ∙ ap (λ (d : List Seen). (put_after o (done ++ look ∷ []) looks ++ followed o d ∷ []) ++ followed o (d ++ one ∷ []) ∷ []) (append_assoc done (look ∷ []) looks))

acts_all : (o : Options) (done looks : List Seen) → put_at_acts o done looks ≡ put_after o done looks ++ followed o (done ++ looks) ∷ []
unfolding put_after
acts_all o done [] = ap (λ (d : List Seen). followed o d ∷ []) (sym (append-nil done))
acts_all o done (look ∷ looks) =
    ap (λ (l : List (List Item)). followed o done ∷ followed o (done ++ look ∷ []) ∷ l)
    (acts_all o (done ++ look ∷ []) looks ∙ ap (λ (d : List Seen). put_after o (done ++ look ∷ []) looks ++ followed o d ∷ []) (append_assoc done (look ∷ []) looks))

acts_long : (o : Options) (done looks : List Seen) → length (put_after o done looks) ≡ 2 * length looks
unfolding put_after
acts_long o done [] = refl
acts_long o done (look ∷ looks) = let so_far = acts_long o (done ++ look ∷ []) looks in omega (arith, so_far)

-- the others saw what they did at a prefix of these acts
abbrev pub SawActs : Options → List Seen → List (List Item) → Type 0
SawActs o looks saw = ((rest : List (List Item)) × (put_at_acts o [] looks ≡ saw ++ rest)) × (2 * length looks ≤ suc (length saw))

-- after these looks
pub saw_looks : (o : Options) (looks : List Seen) → SawActs o looks (put_after o [] looks)
saw_looks o looks = ((followed o looks ∷ [], acts_all o [] looks), (let long = acts_long o [] looks in omega (arith, long)))

-- and in the midst of the next one
pub saw_next : (o : Options) (looks : List Seen) → SawActs o looks (put_after o [] looks ++ followed o looks ∷ [])
saw_next o looks = (
  ([], acts_all o [] looks ∙ sym (append-nil (put_after o [] looks ++ followed o looks ∷ []))),
  (let long = acts_long o [] looks in omega (arith, long, length-append (put_after o [] looks) (followed o looks ∷ []))),
)

-- or before the act after it
pub saw_last : (o : Options) (looks : List Seen) (one : Seen) → SawActs o (looks ++ one ∷ []) (put_after o [] looks ++ followed o looks ∷ [])
saw_last o looks one = (
  (
    followed o (looks ++ one ∷ []) ∷ followed o (looks ++ one ∷ []) ∷ [],
    acts_all o [] (looks ++ one ∷ []) ∙ ap (λ (l : List (List Item)). l ++ followed o (looks ++ one ∷ []) ∷ []) (acts_push o [] looks one)
        ∙ append_assoc (put_after o [] looks ++ followed o looks ∷ []) (followed o (looks ++ one ∷ []) ∷ []) (followed o (looks ++ one ∷ []) ∷ []),
  ),
  (let long = acts_long o [] looks in omega (arith, long, length-append (put_after o [] looks) (followed o looks ∷ []), length-append looks (one ∷ []))),
)
