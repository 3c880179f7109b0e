-- The cases of a request for a vote.
use Rattle.std.proofs.Common.{◌≡◌, ℕ, Bool, true, false, if◌then◌else◌, List, [], ◌∷◌, ◌++◌, Some, refl, ap, ◌∙◌}
use Rattle.raft_log.specs.declared.entry.Entry.{Entry}
use Rattle.raft_log.specs.declared.message.Message.{Message}
use Rattle.raft_log.specs.declared.message.Kind.TheVariants.{Vote}
use Rattle.raft_log.specs.declared.node_state.Standing.{Standing}
use Rattle.raft_log.specs.declared.step.Step.{Step}
use Rattle.raft_log.specs.Node.{message, sending}
use Rattle.raft_log.specs.Seen.{node_of}
use Rattle.raft_log.specs.Steps.{IsSending, Prepares}
use Rattle.raft_log.proofs.Sending.{sent-prepares}
use Rattle.election.specs.Elections.{grants, on_request_vote}

-- the answer to a request, and the vote with it if it is granted
pub votes : {B : Type 0} (i from t index last : ℕ) (s voted : Standing) (own to : ℕ) (granted : Bool) (log : List (Entry B)) (step : Step B)
    → IsSending voted log (message voted.term own to (Vote granted) ∷ []) step → own ≡ i → to ≡ from
    → granted ≡ grants (node_of s log []) from t index last → voted ≡ (if granted then record s { vote = Some from } else s)
    → Prepares (λ n. on_request_vote i n from t index last) s log step
votes {B} i from t index last s voted own to granted log step h a b e v =
    sent-prepares voted log (message voted.term own to (Vote granted) ∷ []) step h s (λ n. on_request_vote i n from t index last) (λ sent.
    ap (λ (k : ℕ). node_of voted log (sent ++ message voted.term k to (Vote granted) ∷ [])) a
    ∙ (ap (λ (k : ℕ). node_of voted log (sent ++ message voted.term i k (Vote granted) ∷ [])) b
    ∙ (ap (λ (n : Standing). node_of n log (sent ++ message n.term i from (Vote granted) ∷ [])) v
    ∙ (by granted sent
    ∙ ap (λ (g : Bool). if g then sending (record (node_of s log sent) { vote = Some from }) (message s.term i from (Vote true) ∷ []) else sending (node_of s log sent) (message s.term i from (Vote false) ∷ [])) e))))
  where
    by : (g : Bool) (sent : List (Message B))
        → node_of (if g then record s { vote = Some from } else s) log (sent ++ message (if g then record s { vote = Some from } else s).term i from (Vote g) ∷ [])
        ≡ (if g then sending (record (node_of s log sent) { vote = Some from }) (message s.term i from (Vote true) ∷ []) else sending (node_of s log sent) (message s.term i from (Vote false) ∷ []))
    by true sent = refl
    by false sent = refl
