-- Steps that leave the log as it is.
use Rattle.std.proofs.Common.{IfOk, Result, Ok, Err, false, ◌≡◌, ℕ, ◌≤◌, List, [], ◌++◌, length, take, append-nil, sym, ap, ◌∙◌, subst, arith}
use Rattle.std.proofs.lemmas.Bool.{true≢false}
use Rattle.std.proofs.lemmas.List.{take_all}
use Rattle.raft_log.specs.declared.entry.Entry.{Entry}
use Rattle.raft_log.specs.declared.message.Message.{Message}
use Rattle.raft_log.specs.declared.node_state.Standing.{Standing}
use Rattle.raft_log.specs.declared.step.Step.{Step}
use Rattle.raft_log.specs.declared.role.Role.{Role}
use Rattle.raft_log.specs.Node.{Node, is_leader}
use Rattle.raft_log.specs.Seen.{node_of}
use Rattle.raft_log.specs.Steps.{IsSending, IsStep, PlacesWithin, IsSavable, IsWithinLog, KeepsWithinLog, Prepares, log_after}

module _ {B : Type 0} (new : Standing) (log : List (Entry B)) (messages : List (Message B)) (step : Step B) (h : IsSending new log messages step) where
  -- the log stays
  pub sent-log : log_after log step ≡ log
  sent-log =
      ap (λ (es : List (Entry B)). take step.keep log ++ es) h.adds_none
      ∙ (append-nil (take step.keep log) ∙ take_all step.keep log (omega (arith, h.keeps_all)))

  pub sent-node : (sent : List (Message B)) → node_of step.standing (log_after log step) (sent ++ step.messages.items) ≡ node_of new log (sent ++ messages)
  sent-node sent =
      ap (λ (s : Standing). node_of s (log_after log step) (sent ++ step.messages.items)) h.standing_is
      ∙ (ap (λ (l : List (Entry B)). node_of new l (sent ++ step.messages.items)) sent-log
      ∙ ap (λ (ms : List (Message B)). node_of new log (sent ++ ms)) h.sends)

  pub sent-prepares : (old : Standing) (f : Node B → Node B) → ((sent : List (Message B)) → node_of new log (sent ++ messages) ≡ f (node_of old log sent)) → Prepares f old log step
  sent-prepares old f e sent = sent-node sent ∙ e sent

  pub sent-savable : (old : Standing) → new.boot ≡ old.boot → old.term ≤ new.term → IsSavable old log step
  sent-savable old b t =
      let few : length step.entries.items ≡ 0 = ap (length {A = Entry B}) h.adds_none in
      let term : step.standing.term ≡ new.term = ap (λ (s : Standing). s.term) h.standing_is in
      record {
        kept = omega (arith, h.keeps_all);
        few = omega arith;
        room = omega (arith, h.keeps_all, h.limit);
        boot = ap (λ (s : Standing). s.boot) h.standing_is ∙ b;
        term = omega arith;
      }

  pub sent-within : (old : Standing) → (IsWithinLog old log → IsWithinLog new log) → KeepsWithinLog old log step
  sent-within old keeps w =
      let on_log : IsWithinLog step.standing log = subst (λ (s : Standing). IsWithinLog s log) (sym h.standing_is) (keeps w) in
      subst (λ (l : List (Entry B)). IsWithinLog step.standing l) (sym sent-log) on_log

  pub sent-step : (old : Standing) (f : Node B → Node B) → ((sent : List (Message B)) → node_of new log (sent ++ messages) ≡ f (node_of old log sent))
      → new.boot ≡ old.boot → old.term ≤ new.term → old.commit ≤ new.commit → (IsWithinLog old log → IsWithinLog new log) → IsStep f old log step
  sent-step old f e b t rises keeps =
      let commit : step.standing.commit ≡ new.commit = ap (λ (s : Standing). s.commit) h.standing_is in
      record {
        prepares = sent-prepares old f e;
        savable = sent-savable old b t;
        places = sent-within old keeps;
        committed = (λ within. ap (λ (l : List (Entry B)). take old.commit l) sent-log, omega arith);
      }

-- two definitions that do the same to a node give the same step
pub step-as : {B : Type 0} (f f' : Node B → Node B) (s : Standing) (log : List (Entry B)) (step : Step B) → ((sent : List (Message B)) → f (node_of s log sent) ≡ f' (node_of s log sent))
    → IsStep f s log step → IsStep f' s log step
step-as f f' s log step same h = record { prepares = λ sent. h.prepares sent ∙ same sent; savable = h.savable; places = h.places; committed = h.committed }

-- a list of messages is unchanged if none are added
pub node_still : {B : Type 0} (s : Standing) (log : List (Entry B)) (sent : List (Message B)) → node_of s log (sent ++ []) ≡ node_of s log sent
node_still {B} s log sent = ap (λ (ms : List (Message B)). node_of s log ms) (append-nil sent)

-- a node that does not lead keeps no indexes except its commit
pub within-following : {last commit : ℕ} {next matched : List ℕ} (role : Role) → is_leader role ≡ false → commit ≤ last → PlacesWithin last role commit next matched
within-following role e h =
    record {
      commit_within = h;
      next_within = λ t. absurd (true≢false (sym t ∙ e));
      match_within = λ t. absurd (true≢false (sym t ∙ e));
    }

-- what follows where a call did not fail
pub ok_map : {A E : Type 0} {P Q : A → Type 0} (r : Result A E) → ((x : A) → P x → Q x) → IfOk r P → IfOk r Q
ok_map (Ok x) f h = f x h
ok_map (Err e) f h = tt
