-- Which channels the own nick was in when a session was last in force.
use Rattle.std.proofs.Common.{◌≡◌, ℕ, List, [], ◌∷◌, refl, ap, ◌∙◌, sym, Bool, true, false, not, ◌&&◌, ◌||◌}
use Rattle.std.specs.Prelude.{Option, Some, None, is_some, if◌then◌else◌, filter, map, codes}
use Rattle.irc_line.specs.Names.{fold_name}
use Rattle.irc_line.specs.Keys.{at_key, is_in}
use Rattle.irc_line.specs.Lines.{Parts, parameter}
use Rattle.irc_line.proofs.Booleans.{and_false, and_right, not_true}
use Rattle.irc_line.proofs.Order.{key_is}
use Rattle.machine_laws.specs.Runs.{History}
use Rattle.wire_bytes.specs.declared.origin.Origin.{Origin}
use Rattle.wire_bytes.specs.declared.session_id.SessionId.{SessionId}
use Rattle.session_fence.specs.Sessions as sessions
use Rattle.session_fence.specs.declared.command.FenceCommand.TheVariants as fence
use Rattle.upstream_claim.specs.Numbered as lines
use Rattle.upstream_claim.specs.declared.command.ClaimsCommand.TheVariants as claims
use Rattle.request_once.specs.Fresh as requests
use Rattle.request_once.specs.declared.body.Body.TheVariants as body
use Rattle.buffer_commands.specs.Settings.{Settings}
use Rattle.buffer_commands.specs.declared.command.Action.TheVariants.{Attach, Leave, Say, Join, Part, Detach, Reattach, Play, Clear, ClearChannels, ClearQueries, ClearAll, SetBuffer, Pass}
use Rattle.buffer_commands.specs.declared.command.Command.{Command}
use Rattle.buffer_commands.specs.declared.command.Command.TheVariants.{Client, Upstream, NodeGone, Up, Down}
use Rattle.buffer_targets.specs.Targets.{channel_names}
use Rattle.buffer_machine.specs.Buffers.{channels, is_own_at, is_removed, joined, joined_after, made_by, nick, removes}
use Rattle.buffer_machine.specs.Crowd.{attached}
use Rattle.buffer_machine.specs.Held.{channel_held, commands, held}
use Rattle.buffer_machine.specs.Messages.{is_among, is_own}
use Rattle.buffer_machine.proofs.Names.{is_made_at}
use Rattle.buffer_machine.proofs.Standing.{known-next}
use Rattle.buffer_machine.proofs.Unknown.{removed-is}
use Rattle.bouncer_tower.specs.Bodies.{Sessioned, TowerBody, accepted, client, plain, session, unclaimed}
use Rattle.renewal.specs.Lists.{AreNoted, WereNoted, joined_names, last_live, may_end}

-- ---- an unknown channel is not joined

gone_or_not : {P : Type 0} (made was removed : Bool) → ((made || was) && not removed) ≡ false → (was ≡ false → made ≡ false → P) → (removed ≡ true → P) → P
gone_or_not made was true e f g = g refl
gone_or_not true was false e f g = absurd cc
gone_or_not false true false e f g = absurd cc
gone_or_not false false false e f g = f refl refl

joined-more : (s : Settings) (earlier : List Command) (x : Command) (k : List ℕ) → joined s (x ∷ earlier) k ≡ joined_after (nick s earlier) k (joined s earlier k) x
unfolding joined
joined-more s earlier x k = refl

joined-none : (s : Settings) (k : List ℕ) → joined s [] k ≡ false
unfolding joined
joined-none s k = refl

made_if : (k c : List ℕ) (b : Bool) → is_made_at k (if b then Some c else None) ≡ (b && at_key k c)
made_if k c true = refl
made_if k c false = refl

unmade : (own k : List ℕ) (x : Command) → is_made_at k (made_by own x) ≡ false → joined_after own k false x ≡ false
unmade own k (Upstream at line) e = rw (sym (made_if k (parameter 0 line) (is_own (codes "JOIN") own line)) ∙ e) refl
unmade own k (Client o at action) e = refl
unmade own k (NodeGone n f) e = refl
unmade own k Up e = refl
unmade own k Down e = refl

parted : (a p b : Bool) → p ≡ true → (a && not p && b) ≡ false
parted true true b e = refl
parted false true b e = refl
parted a false b e = cc

unjoined : (os : List Origin) (own k : List ℕ) (was : Bool) (x : Command) → removes os own was k x ≡ true → joined_after own k was x ≡ false
unjoined os own k was (Client o at (Part d)) e = not_true was (and_right (is_among o os && at_key k d) (not was) e)
unjoined os own k was (Client o at (Attach id)) e = cc
unjoined os own k was (Client o at Leave) e = cc
unjoined os own k was (Client o at (Say v u t)) e = cc
unjoined os own k was (Client o at (Join d)) e = cc
unjoined os own k was (Client o at (Detach d)) e = cc
unjoined os own k was (Client o at (Reattach d)) e = cc
unjoined os own k was (Client o at (Play t)) e = cc
unjoined os own k was (Client o at (Clear t)) e = cc
unjoined os own k was (Client o at ClearChannels) e = cc
unjoined os own k was (Client o at ClearQueries) e = cc
unjoined os own k was (Client o at ClearAll) e = cc
unjoined os own k was (Client o at (SetBuffer t n)) e = cc
unjoined os own k was (Client o at (Pass l)) e = cc
unjoined os own k was (Upstream at line) e = parted _ (is_own_at (codes "PART") own k line) _ e
unjoined os own k was (NodeGone n f) e = cc
unjoined os own k was Up e = cc
unjoined os own k was Down e = cc

pub joined-unknown : (s : Settings) (h : List Command) (k : List ℕ) → is_in k (channels s h) ≡ false → joined s h k ≡ false
joined-unknown s [] k e = joined-none s k
joined-unknown s (x ∷ earlier) k e =
    joined-more s earlier x k
    ∙ gone_or_not (is_made_at k (made_by (nick s earlier) x)) (is_in k (channels s earlier)) (is_removed s earlier k x) (sym (known-next s earlier x k) ∙ e)
    (λ i m. rw (joined-unknown s earlier k i) (unmade (nick s earlier) k x m))
    (λ r. unjoined (attached s earlier) (nick s earlier) k (joined s earlier k) x (sym (removed-is s earlier k x) ∙ r))

-- ---- the names of the channels that are joined

in_joined_by : (s : Settings) (h : List Command) (k n : List ℕ) (ns : List (List ℕ)) (a j : Bool) → at_key k n ≡ a → joined s h (fold_name n) ≡ j
    → is_in k (joined_names (map (channel_held s h) ns)) ≡ (is_in k ns && joined s h k)
    → is_in k (channel_names (if j then channel_held s h n ∷ filter (λ c. c.joined) (map (channel_held s h) ns) else filter (λ c. c.joined) (map (channel_held s h) ns)))
    ≡ ((a || is_in k ns) && joined s h k)
in_joined_by s h k n ns true true f g e = rw (f, ap (joined s h) (key_is k n f) ∙ g) refl
in_joined_by s h k n ns true false f g e = e ∙ rw (ap (joined s h) (key_is k n f) ∙ g) (and_false (is_in k ns))
in_joined_by s h k n ns false true f g e = rw f e
in_joined_by s h k n ns false false f g e = e

in-joined : (s : Settings) (h : List Command) (k : List ℕ) (ns : List (List ℕ)) → is_in k (joined_names (map (channel_held s h) ns)) ≡ (is_in k ns && joined s h k)
in-joined s h k [] = refl
in-joined s h k (n ∷ ns) = in_joined_by s h k n ns (at_key k n) (joined s h (fold_name n)) refl refl (in-joined s h k ns)

known_by : (b j : Bool) → (b ≡ false → j ≡ false) → (b && j) ≡ j
known_by true j f = refl
known_by false j f = sym (f refl)

pub in-held : (s : Settings) (h : List Command) (k : List ℕ) → is_in k (joined_names (held s h).channels) ≡ joined s h k
in-held s h k = in-joined s h k (channels s h) ∙ known_by (is_in k (channels s h)) (joined s h k) (joined-unknown s h k)

-- ---- when a session was last in force

last-live : (h : History TowerBody) → is_some (session h) ≡ true → last_live h ≡ h
unfolding session
last-live [] e = cc
last-live (x ∷ earlier) e = rw e refl

last-dead : (x : ℕ × TowerBody) (earlier : History TowerBody) → is_some (session (x ∷ earlier)) ≡ false → last_live (x ∷ earlier) ≡ last_live earlier
last-dead x earlier e = rw e refl

-- a session is in force
pub noted_live : (s : Settings) (h : History TowerBody) (names : List (List ℕ)) → is_some (session h) ≡ true → names ≡ joined_names (held s (commands (plain h))).channels → AreNoted s h names
noted_live s h names e f = λ k.
    ap (is_in k) f ∙ (in-held s (commands (plain h)) k ∙ ap (λ l. joined s (commands (plain l)) k) (sym (last-live h e)))

-- a session may end
pub noted_before : (s : Settings) (h : History TowerBody) (place : ℕ) (x : TowerBody) (names : List (List ℕ)) → AreNoted s h names → WereNoted s ((place, x) ∷ h) names
noted_before s h place x names f = λ e k. f k ∙ ap (λ l. joined s (commands (plain l)) k) (sym (last-dead (place, x) h e))

by_top : (place : ℕ) (c : Command) (h : History Sessioned) (o : Option SessionId) → sessions.unless_shut ((place, fence.Inner c) ∷ h) o ≡ sessions.unless_shut h o
by_top place c h None = refl
by_top place c h (Some id) = refl

inner-stays : (place : ℕ) (c : Command) (h : History Sessioned) → sessions.session ((place, fence.Inner c) ∷ h) ≡ sessions.session h
unfolding sessions.session
inner-stays place c h = by_top place c h (sessions.greatest h)

heard_by_top : (place : ℕ) (id : SessionId) (n at : ℕ) (line : Parts) (h : History Sessioned) (o : Option SessionId) → sessions.unless_shut ((place, fence.Heard id n at line) ∷ h) o ≡ sessions.unless_shut h o
heard_by_top place id n at line h None = refl
heard_by_top place id n at line h (Some other) = refl

heard-stays : (place : ℕ) (id : SessionId) (n at : ℕ) (line : Parts) (h : History Sessioned) → sessions.session ((place, fence.Heard id n at line) ∷ h) ≡ sessions.session h
unfolding sessions.session
heard-stays place id n at line h = heard_by_top place id n at line h (sessions.greatest h)

asked-stays : (place : ℕ) (o : Origin) (n at : ℕ) (a : Rattle.buffer_commands.specs.declared.command.Action.Action) (kept : History TowerBody) (b : Bool)
    → sessions.session (lines.plain (requests.plain_of client (requests.if_stays b (place, body.Asked o n at a) kept))) ≡ sessions.session (lines.plain (requests.plain_of client kept))
unfolding lines.plain
asked-stays place o n at a kept true = inner-stays place (Client o at a) (lines.plain (requests.plain_of client kept))
asked-stays place o n at a kept false = refl

session-stays : (h : History TowerBody) (place : ℕ) (x : TowerBody) → may_end x ≡ false → session ((place, x) ∷ h) ≡ session h
unfolding session unclaimed accepted requests.plain requests.fresh lines.plain
session-stays h place (body.Inner (claims.Inner (fence.Inner c))) e = inner-stays place c (unclaimed h)
session-stays h place (body.Inner (claims.Inner (fence.Opened id))) e = cc
session-stays h place (body.Inner (claims.Inner (fence.Shut id))) e = cc
session-stays h place (body.Inner (claims.Inner (fence.Heard id n at line))) e = heard-stays place id n at line (unclaimed h)
session-stays h place (body.Inner (claims.Claim id n)) e = refl
session-stays h place (body.Asked o n at a) e = asked-stays place o n at a (requests.fresh h) (requests.stays (requests.fresh h) (body.Asked o n at a))
session-stays h place body.Blank e = refl
session-stays h place (body.Mark m) e = refl

-- no session ends
pub noted_still : (s : Settings) (h : History TowerBody) (place : ℕ) (x : TowerBody) (names : List (List ℕ)) → may_end x ≡ false → WereNoted s h names → WereNoted s ((place, x) ∷ h) names
noted_still s h place x names m f = λ e. noted_before s h place x names (f (ap is_some (sym (session-stays h place x m)) ∙ e)) e

-- nothing came
pub noted_none : (s : Settings) → WereNoted s [] []
unfolding plain unclaimed accepted requests.plain requests.fresh lines.plain sessions.plain joined
noted_none s = λ e c. refl
