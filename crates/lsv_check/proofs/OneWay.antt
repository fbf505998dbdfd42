-- What is found of a log is found of it alone.
use Rattle.std.proofs.Common.{◌≡◌, ◌∙◌, ℕ, List, Option, Some, None, Ok, refl, sym, ap, subst}
use Rattle.lsv_bundle.specs.Body.{encoded}
use Rattle.lsv_bundle.specs.Committed.{HasEntry}
use Rattle.lsv_bundle.specs.declared.body.Body.{Body}
use Rattle.lsv_bundle.proofs.Laws.{one_body}
use Rattle.lsv_check.specs.Alone.{IsBeside}
use Rattle.lsv_disk.specs.View.{Image}
use Rattle.lsv_disk.specs.declared.file.Part.{Part}
use Rattle.lsv_disk.specs.declared.file.Part.TheVariants.{Head as HeadPart}
use Rattle.lsv_finding.specs.Findings.{Finding, Nowhere, Unlisted, Closed, Broken, Sound, IsAbsent, IsDamage, IsFinding, IsStored, Means, ReadsExit}
use Rattle.lsv_info.specs.Reading.{head_of}
use Rattle.lsv_info.specs.declared.times.Exit.{Exit}
use Rattle.lsv_info.specs.declared.times.Head.{Head}
use Rattle.lsv_iolog.specs.Recovered.{Replays, ReplaysNothing, owner_of}
use Rattle.lsv_play.specs.Playing.{IsOpened, text_at}
use Rattle.lsv_record.specs.Points.{Stored}

-- ---- no log

some_bytes : (a b : List ℕ) → Some a ≡ Some b → a ≡ b
some_bytes a b e = cc

unlisted_part : (first : Option Part) (a b : Part) → first ≡ Some a → first ≡ Some b → Unlisted b ≡ Unlisted a
unlisted_part first a b one other = cc

no_first : (first : Option Part) (a : Part) → first ≡ None → first ≡ Some a → ⊥
no_first first a none some = cc

-- ---- a stored log

one_head : (bytes text : List ℕ) (a b : Head) → bytes ≡ text → head_of bytes ≡ Ok a → head_of text ≡ Ok b → a ≡ b
one_head bytes text a b same one other = cc

-- an exit reads as one exit
one_exit : (text : Option (List ℕ)) (a b : Option Exit) → ReadsExit text a → ReadsExit text b → b ≡ a
one_exit None a b one other = other ∙ sym one
one_exit (Some text) (Some a) (Some b) one other = cc
one_exit (Some text) (Some a) None one other = absurd (other a one)
one_exit (Some text) None (Some b) one other = absurd (one b other)
one_exit (Some text) None None one other = refl

same_sound : (h g : Head) (b c : Body) (l m : Stored) (e x : Option Exit) → g ≡ h → c ≡ b → m ≡ l → x ≡ e → Sound g c m x ≡ Sound h b l e
same_sound h g b c l m e x heads bodies logs exits = cc

two_entries : (n : ℕ) (a b : Body) (image : Image) → HasEntry (owner_of n) a image → HasEntry (owner_of n) b image → a ≡ b
two_entries n a b image one other = one_body a b one.is_body other.is_body (some_bytes (encoded a) (encoded b) (sym one.last ∙ other.last))

module _ (image : Image) (n : ℕ) where
  two_heads : (h g : Head) (b c : Body) → IsOpened n b h image → IsOpened n c g image → g ≡ h
  two_heads h g b c one other = one_head (text_at n c image HeadPart) (text_at n b image HeadPart) g h (ap (λ (body : Body). text_at n body image HeadPart) (two_entries n c b image other.entry one.entry)) other.head_is one.head_is

module _ (means : (image : Image) (n : ℕ) (f : Finding) → IsFinding image n f → Means image n f)
    (stored : (image : Image) (n : ℕ) (f : Finding) (log : Stored) → IsFinding image n f → Replays image n (Some log) → IsStored log f)
    (absent : (image : Image) (n : ℕ) (f : Finding) → IsFinding image n f → Replays image n None → IsAbsent f)
    (damaged : (image : Image) (n : ℕ) (f : Finding) → IsFinding image n f → ReplaysNothing image n → IsDamage f) where
  module _ (image : Image) (n : ℕ) where
    beside_none : (other : Finding) → IsFinding image n Nowhere → IsFinding image n other → IsAbsent other → other ≡ Nowhere
    beside_none Nowhere one is absent_ = refl
    beside_none (Unlisted part) one is absent_ = absurd (no_first _ part one.1 is.1)
    beside_none (Closed part) one is absent_ = absurd absent_
    beside_none (Broken head body records part) one is absent_ = absurd absent_
    beside_none (Sound head body log exit) one is absent_ = absurd absent_

    beside_unlisted : (other : Finding) (part : Part) → IsFinding image n (Unlisted part) → IsFinding image n other → IsAbsent other → other ≡ Unlisted part
    beside_unlisted Nowhere part one is absent_ = absurd (no_first _ part is.1 one.1)
    beside_unlisted (Unlisted more) part one is absent_ = unlisted_part _ part more one.1 is.1
    beside_unlisted (Closed more) part one is absent_ = absurd absent_
    beside_unlisted (Broken head body records more) part one is absent_ = absurd absent_
    beside_unlisted (Sound head body log exit) part one is absent_ = absurd absent_

    beside_sound : (other : Finding) (head : Head) (body : Body) (log : Stored) (exit : Option Exit) → IsFinding image n (Sound head body log exit) → IsFinding image n other → IsStored log other → other ≡ Sound head body log exit
    beside_sound Nowhere head body log exit one is stored_ = absurd stored_
    beside_sound (Unlisted part) head body log exit one is stored_ = absurd stored_
    beside_sound (Closed part) head body log exit one is stored_ = absurd stored_
    beside_sound (Broken h b records part) head body log exit one is stored_ = absurd stored_
    beside_sound (Sound h b found e) head body log exit one is stored_ = same_sound head h body b log found exit e (two_heads image n head h body b one.0 is.0) (two_entries n b body image is.0.entry one.0.entry) stored_
        (one_exit log.exit exit e one.2 (subst (λ (l : Stored). ReadsExit l.exit e) stored_ is.2))

  pub one_way : (image : Image) (n : ℕ) (one other : Finding) → IsFinding image n one → IsFinding image n other → IsBeside one other
  one_way image n Nowhere other one is = beside_none image n other one is (absent image n other is one.0)
  one_way image n (Unlisted part) other one is = beside_unlisted image n other part one is (absent image n other is one.0)
  one_way image n (Closed part) other one is = damaged image n other is (means image n (Closed part) one)
  one_way image n (Broken head body records part) other one is = damaged image n other is (means image n (Broken head body records part) one)
  one_way image n (Sound head body log exit) other one is = beside_sound image n other head body log exit one is (stored image n other log is one.1)
