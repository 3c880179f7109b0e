-- Each line is handed out once.
use Rattle.std.proofs.Common.{◌≡◌, ◌≢◌, ℕ, ◌+◌, ◌-◌, ◌≤◌, Bool, true, false, List, [], ◌∷◌, ◌++◌, map, length, take, Some, refl, ap, ◌∙◌, sym, append_assoc, arith, inl, inr}
use Rattle.std.specs.Prelude.{◌⊎◌, ◌==◌, nat_le, slice_get}
use Rattle.std.proofs.lemmas.Bool.Decides.{nat_tests}
use Rattle.irc_line.specs.Lines.{Parts}
use Rattle.machine_laws.specs.Classes.{Handed, handed_by}
use Rattle.machine_laws.specs.Runs.{History, all_effects}
use Rattle.wire_bytes.specs.declared.origin.Origin.{Origin}
use Rattle.wire_bytes.specs.declared.session_id.SessionId.{SessionId}
use Rattle.buffer_commands.specs.Settings.{Settings}
use Rattle.buffer_commands.specs.declared.command.Action.{Action}
use Rattle.buffer_commands.specs.declared.effect.Effect.{Effect}
use Rattle.buffer_commands.specs.declared.effect.Effect.TheVariants as effect
use Rattle.session_fence.specs.declared.effect.FenceEffect.{FenceEffect}
use Rattle.session_fence.specs.declared.effect.FenceEffect.TheVariants as fence_effect
use Rattle.session_fence.specs.Sessions as sessions
use Rattle.upstream_claim.specs.declared.effect.ClaimsEffect.{ClaimsEffect}
use Rattle.upstream_claim.specs.declared.effect.ClaimsEffect.TheVariants as claims_effect
use Rattle.upstream_claim.specs.Hands as below
use Rattle.upstream_claim.specs.Numbered as lines
use Rattle.upstream_claim.proofs.Sound as sound
use Rattle.upstream_claim.proofs.Handing as handing
use Rattle.std.proofs.lemmas.List.{append-nil}
use Rattle.wire_bytes.specs.declared.mark.Mark as mark
use Rattle.request_once.specs.declared.body.Body.TheVariants.{Inner, Asked, Blank, Mark}
use Rattle.request_once.specs.declared.answer.Answer.TheVariants as answer
use Rattle.request_once.specs.Fresh as requests
use Rattle.request_once.proofs.Requests.{plain-nil, plain-inner, plain-blank, plain-mark, plain-next, plain-skip}
use Rattle.bouncer_tower.specs.Bodies.{TowerBody, TowerEffect, Claimed, client, accepted, outgoing, claimed, answers, sent, sessioned_effects, claimed_effects}
use Rattle.bouncer_tower.specs.Hosting.{buffer_class, session_class, claim_class, is_node, hand_of, hands, handed_over}
use Rattle.irc_line.proofs.Numbers.{eq_of}

-- the buffers and the sessions hand out nothing
none-of_buffers : (e : Effect) → handed_by (buffer_class e) ≡ []
none-of_buffers (effect.Close o) = refl
none-of_buffers (effect.Show o shown) = refl
none-of_buffers (effect.Send o line) = refl
none-of_buffers (effect.Rejoin line) = refl

none-of_sessions : (e : FenceEffect Effect) → handed_by (session_class e) ≡ []
none-of_sessions (fence_effect.Inner e) = none-of_buffers e
none-of_sessions (fence_effect.Rejoin id line) = refl

-- the lines that an effect hands out by its class are those that the claims hand out
hand-below : (e : ClaimsEffect (FenceEffect Effect)) → handed_by (claim_class e) ≡ below.hand_of e
hand-below (claims_effect.Inner e) = none-of_sessions e
hand-below (claims_effect.Busy o) = refl
hand-below (claims_effect.Hand id n line) = refl

one_behind : (hs ks : List Handed) (e : ClaimsEffect (FenceEffect Effect)) → hs ≡ ks → handed_by (claim_class e) ++ hs ≡ below.hand_of e ++ ks
one_behind hs ks e h = ap (λ (xs : List Handed). xs ++ hs) (hand-below e) ∙ ap (λ (xs : List Handed). below.hand_of e ++ xs) h

-- what a layer below hands out
hands-below : (es : List (ClaimsEffect (FenceEffect Effect))) → hands (map answer.Effect es) ≡ below.hands es
hands-below [] = refl
hands-below (e ∷ es) = one_behind (hands (map answer.Effect es)) (below.hands es) e (hands-below es)

hands-done : (es : List (ClaimsEffect (FenceEffect Effect))) (o : Origin) (n : ℕ) → hands (map answer.Effect es ++ answer.Done o n ∷ []) ≡ below.hands es
hands-done [] o n = refl
hands-done (e ∷ es) o n = one_behind (hands (map answer.Effect es ++ answer.Done o n ∷ [])) (below.hands es) e (hands-done es o n)

hands-refused : (o : Origin) (n was : ℕ) (b : Bool) → nat_le n was ≡ b → hands (requests.refused o n was ∷ []) ≡ []
hands-refused o n was true e = rw e refl
hands-refused o n was false e = rw e refl

-- the answer to a mark hands out nothing
hands-marked : (m : mark.Mark) (b : Bool) → is_node m.node ≡ b → hands (answer.Marked m ∷ []) ≡ []
hands-marked m true e = rw e refl
hands-marked m false e = rw e refl

-- whether a request is the next of its origin
is_not_next : (n m : ℕ) → (n == m) ≡ false → n ≢ m
is_not_next n m e = grind (arith, nat_tests)

module _ (s : Settings) where
  abbrev claimed_at : History Claimed → List (ℕ × SessionId)
  claimed_at h = lines.claimed sessions.session (sessions.sent sent) (sessioned_effects s) h

  abbrev outgoing_at : History Claimed → List Parts
  outgoing_at h = lines.outgoing sessions.session (sessions.sent sent) (sessioned_effects s) h

  abbrev below_at : History Claimed → ℕ → Claimed → List Handed
  below_at h place c = below.hands (claimed_effects s h place c)

  -- what a body gives to the layers below the requests: a command, with all that it hands out; or
  -- nothing
  abbrev comes_to : History TowerBody → ℕ → TowerBody → Type 0
  comes_to h place x =
      ((c : Claimed) × (accepted ((place, x) ∷ h) ≡ (place, c) ∷ accepted h) × (hands (answers s h place x) ≡ below_at (accepted h) place c))
      ⊎ ((accepted ((place, x) ∷ h) ≡ accepted h) × (hands (answers s h place x) ≡ []))

  comes-asked : (h : History TowerBody) (place : ℕ) (o : Origin) (n at : ℕ) (a : Action) (b : Bool) → (n == requests.last h o + 1) ≡ b → comes_to h place (Asked o n at a)
  unfolding accepted requests.answers
  comes-asked h place o n at a true e =
      inl (client o at a, plain-next client h place o n at a (eq_of _ _ e), rw e (hands-done (claimed_effects s (requests.plain client h) place (client o at a)) o n))
  comes-asked h place o n at a false e =
      inr (plain-skip client h place o n at a (is_not_next _ _ e), rw e (hands-refused o n (requests.last h o) (nat_le n (requests.last h o)) refl))

  comes : (h : History TowerBody) (place : ℕ) (x : TowerBody) → comes_to h place x
  unfolding accepted requests.answers
  comes h place (Inner c) = inl (c, plain-inner client h place c, hands-below (claimed_effects s (requests.plain client h) place c))
  comes h place Blank = inr (plain-blank client h place, refl)
  comes h place (Mark m) = inr (plain-mark client h place m, hands-marked m (is_node m.node) refl)
  comes h place (Asked o n at a) = comes-asked h place o n at a (n == requests.last h o + 1) refl

  claims-by : (h : History TowerBody) (place : ℕ) (x : TowerBody) → comes_to h place x → claimed s ((place, x) ∷ h) ≡ claimed s h ++ map (λ k. k.0) (hands (answers s h place x))
  unfolding claimed
  claims-by h place x (inl c) = ap claimed_at c.1 ∙ (handing.hands_are_claims sessions.session (sessions.sent sent) (sessioned_effects s) (accepted h) place c.0 ∙ ap (λ k. claimed_at (accepted h) ++ map (λ p. p.0) k) (sym c.2))
  claims-by h place x (inr c) = ap claimed_at c.0 ∙ (sym (append-nil (claimed_at (accepted h))) ∙ ap (λ k. claimed_at (accepted h) ++ map (λ p. p.0) k) (sym c.1))

  lines-by : (h : History TowerBody) (place : ℕ) (x : TowerBody) → comes_to h place x → (i n : ℕ) (id : SessionId) (line : Parts) → slice_get (hands (answers s h place x)) i ≡ Some ((n, id), line) → slice_get (outgoing s h) (n - 1) ≡ Some line
  unfolding outgoing
  lines-by h place x (inl c) i n id line e = handing.hands_are_lines sessions.session (sessions.sent sent) (sessioned_effects s) (accepted h) place c.0 i n id line (ap (λ k. slice_get k i) (sym c.2) ∙ e)
  lines-by h place x (inr c) i n id line e = absurd (sound.none_not_some _ (ap (λ k. slice_get k i) (sym c.1) ∙ e))

  stay-by : (h : History TowerBody) (place : ℕ) (x : TowerBody) → comes_to h place x → take (length (outgoing s h)) (outgoing s ((place, x) ∷ h)) ≡ outgoing s h
  unfolding outgoing
  stay-by h place x (inl c) = ap (λ k. take (length (outgoing_at (accepted h))) (outgoing_at k)) c.1 ∙ handing.lines_stay sessions.session (sessions.sent sent) (sessioned_effects s) (accepted h) place c.0
  stay-by h place x (inr c) = ap (λ k. take (length (outgoing_at (accepted h))) (outgoing_at k)) c.0 ∙ handing.take_all (outgoing_at (accepted h))

-- the claims that a body adds are those of the lines that it hands out
pub hands_are_claims : (s : Settings) (h : History TowerBody) (place : ℕ) (x : TowerBody) → claimed s ((place, x) ∷ h) ≡ claimed s h ++ map (λ k. k.0) (hands (answers s h place x))
hands_are_claims s h place x = claims-by s h place x (comes s h place x)

pub hands_are_lines : (s : Settings) (h : History TowerBody) (place : ℕ) (x : TowerBody) (i n : ℕ) (id : SessionId) (line : Parts) → slice_get (hands (answers s h place x)) i ≡ Some ((n, id), line) → slice_get (outgoing s h) (n - 1) ≡ Some line
hands_are_lines s h place x = lines-by s h place x (comes s h place x)

pub lines_stay : (s : Settings) (h : History TowerBody) (place : ℕ) (x : TowerBody) → take (length (outgoing s h)) (outgoing s ((place, x) ∷ h)) ≡ outgoing s h
lines_stay s h place x = stay-by s h place x (comes s h place x)

-- the claims that took effect have the numbers from 1 on
pub claims_in_order : (s : Settings) (h : History TowerBody) (i n : ℕ) (id : SessionId) → slice_get (claimed s h) i ≡ Some (n, id) → n ≡ i + 1
unfolding claimed
claims_in_order s h i n id e = sound.claims_in_order sessions.session (sessions.sent sent) (sessioned_effects s) (accepted h) i n id e

pub claims_once : (s : Settings) (h : History TowerBody) (i j n : ℕ) (one other : SessionId) → slice_get (claimed s h) i ≡ Some (n, one) → slice_get (claimed s h) j ≡ Some (n, other) → i ≡ j
unfolding claimed
claims_once s h i j n one other e f = sound.claims_once sessions.session (sessions.sent sent) (sessioned_effects s) (accepted h) i j n one other e f

pub claims_numbered : (s : Settings) (h : History TowerBody) (i n : ℕ) (id : SessionId) → slice_get (claimed s h) i ≡ Some (n, id) → (1 ≤ n) × (n ≤ length (outgoing s h))
unfolding claimed outgoing
claims_numbered s h i n id e = sound.claims_numbered sessions.session (sessions.sent sent) (sessioned_effects s) (accepted h) i n id e

-- ---- over a whole list

hands_append : (xs ys : List TowerEffect) → hands (xs ++ ys) ≡ hands xs ++ hands ys
hands_append [] ys = refl
hands_append (x ∷ xs) ys = ap (λ (hs : List Handed). hand_of x ++ hs) (hands_append xs ys) ∙ sym (append_assoc (hand_of x) (hands xs) (hands ys))

-- the lines that are handed out are those of the claims that took effect
pub all_hands_are_claims : (s : Settings) (h : History TowerBody) → map (λ k. k.0) (handed_over s h) ≡ claimed s h
unfolding claimed accepted
all_hands_are_claims s [] =
    handing.all_hands_are_claims sessions.session (sessions.sent sent) (sessioned_effects s) [] ∙ ap (claimed_at s) (sym (plain-nil client))
all_hands_are_claims s (x ∷ h) =
    ap (map (λ k. k.0)) (hands_append (all_effects (answers s) h) (answers s h x.0 x.1))
    ∙ (handing.map_append (handed_over s h) (hands (answers s h x.0 x.1))
    ∙ (ap (λ cs. cs ++ map (λ k. k.0) (hands (answers s h x.0 x.1))) (all_hands_are_claims s h) ∙ sym (hands_are_claims s h x.0 x.1)))

-- no number is handed out twice
pub hands_differ : (s : Settings) (h : History TowerBody) (i j n : ℕ) (one other : SessionId) (line another : Parts) → slice_get (handed_over s h) i ≡ Some ((n, one), line)
    → slice_get (handed_over s h) j ≡ Some ((n, other), another) → i ≡ j
hands_differ s h i j n one other line another e f =
    let a : slice_get (claimed s h) i ≡ Some (n, one) = ap (λ (cs : List (ℕ × SessionId)). slice_get cs i) (sym (all_hands_are_claims s h)) ∙ handing.claim_at _ i (n, one) line e in
    let b : slice_get (claimed s h) j ≡ Some (n, other) = ap (λ (cs : List (ℕ × SessionId)). slice_get cs j) (sym (all_hands_are_claims s h)) ∙ handing.claim_at _ j (n, other) another f in
    claims_once s h i j n one other a b
