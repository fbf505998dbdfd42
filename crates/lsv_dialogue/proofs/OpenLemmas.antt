-- What the opening of a conversation comes to.
use Rattle.std.proofs.Common.{◌≡◌, ◌≤◌, ◌<◌, List, [], length, ap, arith, inl, true}
use Rattle.lsv_wire.specs.Frame.{IsPartial}
use Rattle.lsv_msg.specs.declared.messages.ClientMessage.{ClientMessage}
use Rattle.lsv_link.specs.Link.{IsConnected, LinkState, unused}
use Rattle.lsv_dialogue.specs.Events.{all_said}
use Rattle.lsv_dialogue.specs.Ends.{IsFresh}
use Rattle.lsv_dialogue.specs.Manner.{Manner}
use Rattle.lsv_dialogue.specs.Stands.{Breaks, IsNew, SaidSo, Sends, View}
use Rattle.lsv_dialogue.specs.declared.ends.TheConstants.{MOST_HEARD, MOST_PUT}
use Rattle.lsv_dialogue.specs.declared.ends.TalkFault.TheVariants as faults
use Rattle.lsv_dialogue.specs.declared.ends.Wants.TheVariants as wants
use Rattle.lsv_dialogue.specs.declared.talk.Spoken.{Spoken}
use Rattle.lsv_dialogue.specs.declared.talk.Talk.{Talk}
use Rattle.lsv_dialogue.proofs.EndLemmas.{step_failed, unput_broken}
use Rattle.lsv_dialogue.proofs.SayLemmas.{said_by}
use Rattle.lsv_dialogue.proofs.StandLemmas.{begins}

pub fresh_connects : (s : LinkState) → IsFresh s → IsConnected s
fresh_connects s fresh = record { conn = unused fresh.host true; is_open = fresh.is_open }

pub new_partial : (talk : Talk) → IsNew talk → IsPartial talk.framer
new_partial talk new = inl (let e = ap length new.framer in omega (arith, e))

pub new_fewer : (talk : Talk) → IsNew talk → talk.heard < MOST_HEARD
new_fewer talk new = let e = new.heard in omega (arith, e)

module _ {S W F : Type 0} (manner : Manner S W F) (tells : Type 0) (begun : View) (talk : Talk) (s s' : S) (w w' : W) (b : View) (talks : manner.talks s w []) (fresh : tells → IsFresh begun.1) (new : IsNew talk) where
  -- the speaker failed
  pub opening_failed : (fault : F) → manner.fails s' w' [] fault → Breaks manner tells begun s' w' begun (faults.Speaker fault)
  unfolding begins
  opening_failed fault fails = step_failed manner tells begun 0 talk s s' w w' begun fault (begins manner tells begun talk s w talks fresh new) fails

  -- it was said, and memory ran out before anything of it was put
  pub opening_unput : (ms : List ClientMessage) → manner.talks s' w' (all_said ms) → length ms ≤ MOST_PUT → b.1 ≡ begun.1 → b.0 ≡ begun.0 → Breaks manner tells begun s' w' b faults.NoMem
  unfolding begins
  opening_unput ms said few link counts = unput_broken manner tells begun ms 0 talk s s' w w' begun b (begins manner tells begun talk s w talks fresh new) said (omega (arith, few)) link counts

  -- it was said, and put as far as the link took it
  pub opening_said : (ms : List ClientMessage) (said_so : Spoken) → manner.talks s' w' (all_said ms) → length ms ≤ MOST_PUT → Sends 0 said_so tells ms begun b → manner.wants s' ≡ wants.More → manner.opened s' → SaidSo manner tells begun said_so talk s' w' b
  unfolding begins
  opening_said ms said_so said few sends more opened = said_by manner tells begun ms 0 said_so talk s s' w w' begun b (begins manner tells begun talk s w talks fresh new) said (omega (arith, few)) sends (new_partial talk new) more opened
