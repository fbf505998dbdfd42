-- What an endpoint did, by what it put to each lane and the replies that it took, of whatever lane each is.
use Rattle.std.specs.Prelude.{◌≡◌, ◌≢◌, ◌++◌, ℕ, true, List, [], ◌∷◌}
use Rattle.lsv_session.specs.Connections.{same}
use Rattle.lsv_session.specs.Transcript.{bodies_of}
use Rattle.lsv_session.specs.declared.connection.ConnId.{ConnId}
use Rattle.lsv_session.specs.declared.job.Job.{Job}
use Rattle.lsv_session.specs.declared.reply.Reply.{Reply}
use Rattle.lsv_session.specs.declared.reply.ReplyBody.TheVariants.{Shut}
use Rattle.lsv_links.specs.Links.{ServesPort}
use Rattle.lsv_links.specs.Views.{PortView}
use Rattle.lsv_turn.specs.Turns.{EndsWithGone, NoneFor}

-- Nobody is replied to who gave no job. A connection whose jobs all went to one lane and end with its Gone gets nothing after a Shut.
pub record AreAskedBy (jobs : ℕ → List Job) (replies : List Reply) : Type 0 where
  pub asked : (k : ConnId) → ((lane : ℕ) → bodies_of k (jobs lane) ≡ []) → NoneFor k replies
  pub behind : (k : ConnId) (lane : ℕ) (before after : List Reply) (r : Reply) → ((m : ℕ) → m ≢ lane → bodies_of k (jobs m) ≡ []) → EndsWithGone (bodies_of k (jobs lane))
      → replies ≡ before ++ r ∷ after → same r.conn k ≡ true → r.body ≡ Shut → NoneFor k after

-- an endpoint with this number, whose jobs go to so many lanes, served its port by what it put and took
abbrev pub Serves : (lanes number : ℕ) (gave : ℕ → List Job) (took : List Reply) → PortView → PortView → Type 0
Serves lanes number gave took old new = ServesPort (λ lane. AreAskedBy gave took) lanes number gave (λ lane. took) old new
