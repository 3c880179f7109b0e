-- What the bouncer's machine brings about when a new session is opened: it joins the channels again.
use Rattle.std.proofs.Common.{◌≡◌, ℕ, zero, suc, true, false, List, [], ◌∷◌, ◌++◌, map, Some, refl, sym, ap, ◌∙◌, ⊎_elim}
use Rattle.std.specs.Prelude.{filter, is_some, if◌then◌else◌}
use Rattle.std.proofs.lemmas.Bool.{cond_both, cond-true, cond-false, cases_Bool}
use Rattle.std.proofs.lemmas.List.{append-nil}
use Rattle.wire_bytes.specs.declared.session_id.SessionId.{SessionId}
use Rattle.machine_laws.specs.declared.class.Class.TheVariants.{Rejoin}
use Rattle.machine_laws.specs.Runs.{History, came_at}
use Rattle.machine_laws.specs.Runs as runs
use Rattle.raft_log.specs.declared.node_state.Live.{Live}
use Rattle.raft_log.specs.Lists.{item}
use Rattle.raft_log.specs.Node.{Node}
use Rattle.raft_node.specs.Steps.{is_session, leaves}
use Rattle.buffer_commands.specs.Settings.{Settings}
use Rattle.buffer_commands.specs.declared.command.Command.{Command}
use Rattle.buffer_commands.specs.declared.command.Command.TheVariants as command
use Rattle.buffer_commands.specs.declared.effect.Effect.{Effect}
use Rattle.buffer_commands.specs.declared.effect.Effect.TheVariants as effect
use Rattle.buffer_machine.specs.Buffers.{channels, is_removed}
use Rattle.buffer_machine.specs.Effects as buffers
use Rattle.buffer_machine.specs.Held.{commands}
use Rattle.buffer_machine.specs.Machine.{effects_at}
use Rattle.session_fence.specs.declared.command.FenceCommand.TheVariants as fence
use Rattle.session_fence.specs.declared.effect.FenceEffect.{FenceEffect}
use Rattle.session_fence.specs.declared.effect.FenceEffect.TheVariants as fence_effect
use Rattle.session_fence.specs.Sessions.{is_new, greatest, labelled}
use Rattle.session_fence.specs.Sessions as sessions
use Rattle.session_fence.proofs.Ids.{same-itself}
use Rattle.upstream_claim.specs.declared.effect.ClaimsEffect.{ClaimsEffect}
use Rattle.upstream_claim.specs.declared.effect.ClaimsEffect.TheVariants as claims_effect
use Rattle.upstream_claim.specs.Numbered.{numbered, room}
use Rattle.upstream_claim.specs.Numbered as lines
use Rattle.request_once.specs.declared.answer.Answer.TheVariants as answer
use Rattle.request_once.specs.Fresh as requests
use Rattle.bouncer_tower.specs.Bodies.{Sessioned, TowerBody, TowerEffect, accepted, unclaimed, plain, rejoined, sent, sessioned_effects, answers}
use Rattle.bouncer_tower.specs.Hosting.{of_sessions, class_of}
use Rattle.progress.specs.Joining.{joining, channels_held}
use Rattle.progress.proofs.Handing.{unclaimed_opened}

keep_all : {A : Type 0} (xs : List A) → filter (λ x. true) xs ≡ xs
keep_all [] = refl
keep_all (x ∷ xs) = ap (λ z. x ∷ z) (keep_all xs)

-- neither the end of the upstream nor its beginning changes the channels

after_down : (s : Settings) (e : List Command) → channels s (command.Down ∷ e) ≡ channels s e
unfolding channels is_removed
after_down s e = keep_all (channels s e)

after_up : (s : Settings) (e : List Command) → channels s (command.Up ∷ e) ≡ channels s e
unfolding channels is_removed
after_up s e = keep_all (channels s e)

-- what they bring about

abbrev joined_again : List ℕ → Effect
joined_again c = effect.Rejoin (joining c)

by_down : (s : Settings) (e : List Command) → buffers.effects s e command.Down ≡ []
unfolding buffers.effects buffers.closings buffers.shown buffers.sent
by_down s e = refl

by_up : (s : Settings) (e : List Command) → buffers.effects s e command.Up ≡ map joined_again (channels s e)
unfolding buffers.effects buffers.closings buffers.shown buffers.sent
by_up s e = refl

-- and so what the opening of a new session does, below the sessions

module _ (s : Settings) (u : History Sessioned) (place : ℕ) (id : SessionId) where
  abbrev below : History Command
  below = sessions.plain command.Up command.Down command.Upstream u

  abbrev given : List Command
  given = sessions.commands command.Up command.Down command.Upstream u (fence.Opened id)

  by_given : is_new (greatest u) id ≡ true → (P : List Command → Type 0) → P (command.Up ∷ []) → P (command.Down ∷ command.Up ∷ []) → P given
  unfolding sessions.commands
  by_given new P one two =
      cond_both (is_new (greatest u) id) (if is_some (sessions.session u) then command.Down ∷ command.Up ∷ [] else command.Up ∷ []) [] P
      (λ h. cond_both (is_some (sessions.session u)) (command.Down ∷ command.Up ∷ []) (command.Up ∷ []) P (λ k. two) (λ k. one))
      (λ h. absurd (cc (new, h)))

  joins_below : is_new (greatest u) id ≡ true → runs.effects_at (effects_at s) place given below ≡ map joined_again (channels s (commands below))
  joins_below new =
      by_given new (λ z. runs.effects_at (effects_at s) place z below ≡ map joined_again (channels s (commands below)))
      (append-nil (buffers.effects s (commands below) command.Up) ∙ by_up s (commands below))
      (ap (λ z. z ++ (buffers.effects s (command.Down ∷ commands below) command.Up ++ [])) (by_down s (commands below))
      ∙ (append-nil (buffers.effects s (command.Down ∷ commands below) command.Up)
      ∙ (by_up s (command.Down ∷ commands below) ∙ ap (map joined_again) (after_down s (commands below)))))

  stay_below : is_new (greatest u) id ≡ true → channels s (commands (came_at place given below)) ≡ channels s (commands below)
  stay_below new =
      by_given new (λ z. channels s (commands (came_at place z below)) ≡ channels s (commands below))
      (after_up s (commands below))
      (after_up s (command.Down ∷ commands below) ∙ after_down s (commands below))

-- layer by layer

abbrev for_session : SessionId → List ℕ → FenceEffect Effect
for_session id c = fence_effect.Rejoin id (joining c)

abbrev unnumbered : SessionId → List ℕ → ClaimsEffect (FenceEffect Effect)
unnumbered id c = claims_effect.Inner (for_session id c)

abbrev pub word : SessionId → List ℕ → TowerEffect
word id c = answer.Effect (unnumbered id c)

abbrev opens : SessionId → Sessioned
opens id = fence.Opened id

labels : (id : SessionId) (cs : List (List ℕ)) → map (labelled rejoined (opens id)) (map joined_again cs) ≡ map (for_session id) cs
labels id [] = refl
labels id (c ∷ cs) = ap (λ z. for_session id c ∷ z) (labels id cs)

passes : (space : ℕ) (id : SessionId) (cs : List (List ℕ)) → lines.answered (sessions.sent sent) space (map (for_session id) cs) ≡ map (unnumbered id) cs
passes space id [] = refl
passes space id (c ∷ cs) = ap (λ z. unnumbered id c ∷ z) (passes space id cs)

wraps : (id : SessionId) (cs : List (List ℕ)) → map answer.Effect (map (unnumbered id) cs) ≡ map (word id) cs
wraps id [] = refl
wraps id (c ∷ cs) = ap (λ z. word id c ∷ z) (wraps id cs)

pub classes : (id : SessionId) (cs : List (List ℕ)) → map class_of (map (word id) cs) ≡ map (λ c. Rejoin id (joining c)) cs
classes id [] = refl
classes id (c ∷ cs) = ap (λ z. Rejoin id (joining c) ∷ z) (classes id cs)

module _ (s : Settings) (h : History TowerBody) (place : ℕ) (id : SessionId) (new : is_new (greatest (unclaimed h)) id ≡ true) where
  abbrev space : ℕ
  space = room (numbered sessions.session (sessions.sent sent) (sessioned_effects s) (accepted h))

  pub brings_joins : answers s h place (of_sessions (fence.Opened id)) ≡ map (word id) (channels_held s h)
  unfolding requests.answers lines.answers sessions.answers accepted unclaimed plain
  brings_joins =
      ap (λ z. map answer.Effect (lines.answered (sessions.sent sent) space (map (labelled rejoined (opens id)) z))) (joins_below s (unclaimed h) place id new)
      ∙ (ap (λ z. map answer.Effect (lines.answered (sessions.sent sent) space z)) (labels id (channels_held s h))
      ∙ (ap (λ z. map answer.Effect z) (passes space id (channels_held s h)) ∙ wraps id (channels_held s h)))

  pub same_held : channels_held s ((place, of_sessions (fence.Opened id)) ∷ h) ≡ channels_held s h
  unfolding plain sessions.plain
  same_held =
      ap (λ z. channels s (commands (sessions.plain command.Up command.Down command.Upstream z))) (unclaimed_opened h place id)
      ∙ stay_below s (unclaimed h) place id new

nothing_there : {A : Type 0} (j : ℕ) (x : A) → item [] j ≡ Some x → ⊥
nothing_there zero x e = cc
nothing_there (suc k) x e = cc

-- if some leave by the session, the session is live there, and all leave

module _ (i boot : ℕ) (live : Live) (node : Node TowerBody) where
  abbrev pub leave : List TowerEffect → List TowerEffect
  leave xs = filter (λ e. leaves i node.boot node.live (class_of e)) xs

  all : is_session node.live live.id ≡ true → (cs : List (List ℕ)) → leave (map (word live.id) cs) ≡ map (word live.id) cs
  all t [] = refl
  all t (c ∷ cs) =
      cond-true (is_session node.live live.id) (word live.id c ∷ leave (map (word live.id) cs)) (leave (map (word live.id) cs)) t
      ∙ ap (λ z. word live.id c ∷ z) (all t cs)

  none : is_session node.live live.id ≡ false → (cs : List (List ℕ)) → leave (map (word live.id) cs) ≡ []
  none f [] = refl
  none f (c ∷ cs) =
      cond-false (is_session node.live live.id) (word live.id c ∷ leave (map (word live.id) cs)) (leave (map (word live.id) cs)) f
      ∙ none f cs

  abbrev pub AllThatMay : List TowerEffect → Type 0
  AllThatMay xs =
      (k : ℕ) (x : TowerEffect) → item xs k ≡ Some x → leaves i boot (Some live) (class_of x) ≡ true
      → (j : ℕ) × (item (leave xs) j ≡ Some x)

  shut_out : is_session node.live live.id ≡ false → (cs : List (List ℕ)) → AllThatMay (map (word live.id) cs) → leave (map (word live.id) cs) ≡ map (word live.id) cs
  shut_out f [] may = refl
  shut_out f (c ∷ cs) may =
      let j = may 1 (word live.id c) refl (same-itself live.id) in
      absurd (nothing_there j.0 (word live.id c) (sym (ap (λ z. item z j.0) (none f (c ∷ cs))) ∙ j.1))

  pub all_leave : (cs : List (List ℕ)) → AllThatMay (map (word live.id) cs) → leave (map (word live.id) cs) ≡ map (word live.id) cs
  all_leave cs may = ⊎_elim (λ t. all t cs) (λ f. shut_out f cs may) (cases_Bool (is_session node.live live.id))
