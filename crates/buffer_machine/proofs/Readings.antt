-- What a reader can check the definitions against.
use Rattle.std.proofs.Common.{◌≡◌, ℕ, Bool, true, false, not, ◌&&◌, ◌||◌, List, [], ◌∷◌, refl, ap, ◌∙◌, sym}
use Rattle.std.specs.Prelude.{None, if◌then◌else◌, filter}
use Rattle.irc_line.specs.Names.{fold_name, is_channel}
use Rattle.irc_line.specs.Keys.{at_key, is_in}
use Rattle.irc_line.specs.Lines.{Parts}
use Rattle.irc_line.proofs.Order.{key_is}
use Rattle.wire_bytes.specs.declared.origin.Origin.{Origin}
use Rattle.buffer_commands.specs.Settings.{Settings}
use Rattle.buffer_commands.specs.declared.command.Verb.{Verb}
use Rattle.buffer_commands.specs.declared.command.Action.{Action}
use Rattle.buffer_commands.specs.declared.command.Action.TheVariants.{Attach, Leave, Say, Join, Part, Detach, Reattach, Play, Clear, ClearChannels, ClearQueries, ClearAll, SetBuffer, Pass}
use Rattle.buffer_commands.specs.declared.command.Command.{Command}
use Rattle.buffer_commands.specs.declared.command.Command.TheVariants.{Client, Upstream, NodeGone, Up, Down}
use Rattle.buffer_commands.specs.declared.effect.Effect.TheVariants.{Close}
use Rattle.machine_laws.specs.Origins.{same_origin}
use Rattle.buffer_machine.specs.Messages.{channel_of, is_among}
use Rattle.buffer_machine.specs.Buffers.{empties, channels, nick, detached, is_known, stored, emptied, clears, plays, kept, size, playback}
use Rattle.buffer_machine.specs.Crowd.{attached, floor, id_of, ids, is_attach, takes}
use Rattle.buffer_machine.proofs.Holders.{holders, stay}
use Rattle.buffer_machine.specs.Effects.{shown, effects, open_channels}
use Rattle.buffer_machine.specs.Held.{Held, IsSound, held, names_held}
use Rattle.buffer_machine.specs.Steps.{after}
use Rattle.buffer_machine.specs.Answering.{answers}
use Rattle.buffer_machine.proofs.AnyEffects.{effects-step}
use Rattle.buffer_machine.proofs.HeldStep.{held-step}
use Rattle.buffer_machine.proofs.Kept.{kept-next}
use Rattle.buffer_machine.proofs.Playing.{played-held, played-is}
use Rattle.irc_line.proofs.Booleans.{false_of, or_both_false}
use Rattle.buffer_lines.proofs.Keeping.{keep_last-nil}

-- ---- what is kept fits

-- ---- a detached channel

if_false : {A : Type 0} (b : Bool) (xs : List A) → b ≡ false → (if b then xs else []) ≡ []
if_false true xs e = absurd cc
if_false false xs e = refl

welcome_or : (w d : Bool) → d ≡ true → not (w || d) ≡ false
welcome_or true d e = refl
welcome_or false true e = refl
welcome_or false false e = cc

pub line_unshown : (s : Settings) (earlier : List Command) (at : ℕ) (line : Parts) → detached s earlier (fold_name (channel_of line)) ≡ true → shown s earlier (Upstream at line) ≡ []
unfolding shown
line_unshown s earlier at line e = if_false _ _ (welcome_or _ _ e)

said_by : {A : Type 0} (b c d : Bool) (xs : List A) → d ≡ true → (if b then (if c && not d then xs else []) else []) ≡ []
said_by true true true xs e = refl
said_by true false d xs e = refl
said_by false c d xs e = refl
said_by true true false xs e = absurd cc

pub said_unshown : (s : Settings) (earlier : List Command) (o : Origin) (at : ℕ) (verb : Verb) (name text : List ℕ) → detached s earlier (fold_name name) ≡ true → shown s earlier (Client o at (Say verb name text)) ≡ []
unfolding shown
said_unshown s earlier o at verb name text e = said_by (is_among o (attached s earlier)) (is_channel name) (detached s earlier (fold_name name)) _ e

-- ---- playing empties

or_true : (a b c : Bool) → b ≡ true → (a || b || c) ≡ true
or_true true b c e = refl
or_true false true c e = refl
or_true false false c e = cc

abbrev plays_now : Settings → List Command → Command → List ℕ → Bool
plays_now s earlier x t = plays (takes s earlier x) (attached s earlier) (is_channel t && detached s earlier t) t (is_known s earlier t) x

emptied_played : (s : Settings) (earlier : List Command) (x : Command) (t : List ℕ) → clears s t ≡ true → empties (ids s earlier) x ≡ true → plays_now s earlier x t ≡ true → emptied s t earlier x ≡ true
unfolding emptied
emptied_played s earlier x t e g f =
    let middle : (clears s t && empties (ids s earlier) x && plays_now s earlier x t) ≡ true = rw (e, g, f) refl in
    or_true _ _ _ middle

-- a command that plays says nothing
unsaid : (s : Settings) (earlier : List Command) (x : Command) (t : List ℕ) → plays_now s earlier x t ≡ true → stored s t earlier x ≡ None
unfolding stored
unsaid s earlier (Client o at (Attach id)) t e = refl
unsaid s earlier (Client o at Leave) t e = refl
unsaid s earlier (Client o at (Say v n u)) t e = cc
unsaid s earlier (Client o at (Join c)) t e = refl
unsaid s earlier (Client o at (Part c)) t e = refl
unsaid s earlier (Client o at (Detach c)) t e = refl
unsaid s earlier (Client o at (Reattach c)) t e = refl
unsaid s earlier (Client o at (Play u)) t e = refl
unsaid s earlier (Client o at (Clear u)) t e = refl
unsaid s earlier (Client o at ClearChannels) t e = refl
unsaid s earlier (Client o at ClearQueries) t e = refl
unsaid s earlier (Client o at ClearAll) t e = refl
unsaid s earlier (Client o at (SetBuffer u n)) t e = refl
unsaid s earlier (Client o at (Pass l)) t e = refl
unsaid s earlier (Upstream at line) t e = cc
unsaid s earlier (NodeGone n f) t e = refl
unsaid s earlier Up t e = refl
unsaid s earlier Down t e = refl

pub played_out : (s : Settings) (earlier : List Command) (x : Command) (t : List ℕ) → clears s t ≡ true → empties (ids s earlier) x ≡ true
    → plays (takes s earlier x) (attached s earlier) (is_channel t && detached s earlier t) t (is_known s earlier t) x ≡ true → kept s (x ∷ earlier) t ≡ []
played_out s earlier x t e g f = kept-next s earlier x t ∙ rw (emptied_played s earlier x t e g f, unsaid s earlier x t f) (keep_last-nil (size s t (x ∷ earlier)))

-- ---- a client that is not attached

none_same_by : (o x : Origin) (os : List Origin) (b : Bool) → (b || is_among o os) ≡ false → (is_among o os ≡ false → filter (λ y. not (same_origin o y)) os ≡ os)
    → (if not b then x ∷ filter (λ y. not (same_origin o y)) os else filter (λ y. not (same_origin o y)) os) ≡ x ∷ os
none_same_by o x os true e ih = absurd cc
none_same_by o x os false e ih = ap (λ l. x ∷ l) (ih e)

none_same : (o : Origin) (os : List Origin) → is_among o os ≡ false → filter (λ y. not (same_origin o y)) os ≡ os
none_same o [] e = refl
none_same o (x ∷ os) e = none_same_by o x os (same_origin o x) e (λ f. none_same o os f)

-- its requests other than Attach do not change what is held
held_still : (s : Settings) (h : Held) (o : Origin) (at : ℕ) (a : Action) → is_attach a ≡ false → is_among o h.clients ≡ false → filter (λ x. not (same_origin o x.0)) h.names.holders ≡ h.names.holders → after s 0 h (Client o at a) ≡ h
held_still s h o at (Attach id) e f g = cc
held_still s h o at Leave e f g = rw (none_same o h.clients f, g) refl
held_still s h o at (Say v n u) e f g = rw f refl
held_still s h o at (Join c) e f g = rw f refl
held_still s h o at (Part c) e f g = rw f refl
held_still s h o at (Detach c) e f g = rw f refl
held_still s h o at (Reattach c) e f g = rw f refl
held_still s h o at (Play u) e f g = rw f refl
held_still s h o at (Clear u) e f g = rw f refl
held_still s h o at ClearChannels e f g = rw f refl
held_still s h o at ClearQueries e f g = rw f refl
held_still s h o at ClearAll e f g = rw f refl
held_still s h o at (SetBuffer u n) e f g = rw f refl
held_still s h o at (Pass l) e f g = refl

closed_only : (s : Settings) (h : Held) (o : Origin) (at : ℕ) (a : Action) → is_attach a ≡ false → is_among o h.clients ≡ false → answers s 0 h (Client o at a) ≡ Close o ∷ []
closed_only s h o at (Attach id) e f = cc
closed_only s h o at Leave e f = rw f refl
closed_only s h o at (Say v n u) e f = rw f refl
closed_only s h o at (Join c) e f = rw f refl
closed_only s h o at (Part c) e f = rw f refl
closed_only s h o at (Detach c) e f = rw f refl
closed_only s h o at (Reattach c) e f = rw f refl
closed_only s h o at (Play u) e f = rw f refl
closed_only s h o at (Clear u) e f = rw f refl
closed_only s h o at ClearChannels e f = rw f refl
closed_only s h o at ClearQueries e f = rw f refl
closed_only s h o at ClearAll e f = rw f refl
closed_only s h o at (SetBuffer u n) e f = rw f refl
closed_only s h o at (Pass l) e f = rw f refl

-- the floor matters only to an Attach
any_floor : (s : Settings) (h : Held) (n : ℕ) (o : Origin) (at : ℕ) (a : Action) → is_attach a ≡ false → after s n h (Client o at a) ≡ after s 0 h (Client o at a)
any_floor s h k o at (Attach id) e = cc
any_floor s h k o at Leave e = refl
any_floor s h k o at (Say v n u) e = refl
any_floor s h k o at (Join c) e = refl
any_floor s h k o at (Part c) e = refl
any_floor s h k o at (Detach c) e = refl
any_floor s h k o at (Reattach c) e = refl
any_floor s h k o at (Play u) e = refl
any_floor s h k o at (Clear u) e = refl
any_floor s h k o at ClearChannels e = refl
any_floor s h k o at ClearQueries e = refl
any_floor s h k o at ClearAll e = refl
any_floor s h k o at (SetBuffer u n) e = refl
any_floor s h k o at (Pass l) e = refl

any_floor_answers : (s : Settings) (h : Held) (n : ℕ) (o : Origin) (at : ℕ) (a : Action) → is_attach a ≡ false → answers s n h (Client o at a) ≡ answers s 0 h (Client o at a)
any_floor_answers s h k o at (Attach id) e = cc
any_floor_answers s h k o at Leave e = refl
any_floor_answers s h k o at (Say v n u) e = refl
any_floor_answers s h k o at (Join c) e = refl
any_floor_answers s h k o at (Part c) e = refl
any_floor_answers s h k o at (Detach c) e = refl
any_floor_answers s h k o at (Reattach c) e = refl
any_floor_answers s h k o at (Play u) e = refl
any_floor_answers s h k o at (Clear u) e = refl
any_floor_answers s h k o at ClearChannels e = refl
any_floor_answers s h k o at ClearQueries e = refl
any_floor_answers s h k o at ClearAll e = refl
any_floor_answers s h k o at (SetBuffer u n) e = refl
any_floor_answers s h k o at (Pass l) e = refl

-- nor does a client that is not attached have a name
none_held : (s : Settings) (earlier : List Command) (o : Origin) → is_among o (attached s earlier) ≡ false → filter (λ x. not (same_origin o x.0)) (names_held s earlier).holders ≡ (names_held s earlier).holders
none_held s earlier o f =
    stay (λ p. not (same_origin o p)) (ids s earlier) (id_of s earlier) (attached s earlier) ∙ ap (holders (ids s earlier) (id_of s earlier)) (none_same o (attached s earlier) f)

nothing_changed : (s : Settings) → IsSound s → (earlier : List Command) (o : Origin) (at : ℕ) (a : Action) → is_attach a ≡ false → is_among o (attached s earlier) ≡ false → held s (Client o at a ∷ earlier) ≡ held s earlier
nothing_changed s sound earlier o at a e f =
    sym (held-step s sound earlier (Client o at a)) ∙ (any_floor s (held s earlier) (floor earlier o.0) o at a e ∙ held_still s (held s earlier) o at a e f (none_held s earlier o f))

pub attached_still : (s : Settings) → IsSound s → (earlier : List Command) (o : Origin) (at : ℕ) (a : Action) → is_attach a ≡ false → is_among o (attached s earlier) ≡ false → attached s (Client o at a ∷ earlier) ≡ attached s earlier
attached_still s sound earlier o at a e f = ap (λ (h : Held). h.clients) (nothing_changed s sound earlier o at a e f)

pub nick_still : (s : Settings) → IsSound s → (earlier : List Command) (o : Origin) (at : ℕ) (a : Action) → is_attach a ≡ false → is_among o (attached s earlier) ≡ false → nick s (Client o at a ∷ earlier) ≡ nick s earlier
nick_still s sound earlier o at a e f = ap (λ (h : Held). h.nick) (nothing_changed s sound earlier o at a e f)

pub playback_still : (s : Settings) → IsSound s → (earlier : List Command) (o : Origin) (at : ℕ) (a : Action) (t : List ℕ) → is_attach a ≡ false → is_among o (attached s earlier) ≡ false → playback s (Client o at a ∷ earlier) t ≡ playback s earlier t
playback_still s sound earlier o at a t e f = sym (played-is s (Client o at a ∷ earlier) t) ∙ played-held s earlier t (held s (Client o at a ∷ earlier)) (nothing_changed s sound earlier o at a e f)

pub held_stays : (s : Settings) → IsSound s → (earlier : List Command) (o : Origin) (at : ℕ) (a : Action) → is_attach a ≡ false → is_among o (attached s earlier) ≡ false → held s (Client o at a ∷ earlier) ≡ held s earlier
held_stays s sound earlier o at a e f = nothing_changed s sound earlier o at a e f

pub closed_alone : (s : Settings) → IsSound s → (earlier : List Command) (o : Origin) (at : ℕ) (a : Action) → is_attach a ≡ false → is_among o (attached s earlier) ≡ false → effects s earlier (Client o at a) ≡ Close o ∷ []
closed_alone s sound earlier o at a e f =
    sym (effects-step s sound earlier (Client o at a)) ∙ (any_floor_answers s (held s earlier) (floor earlier o.0) o at a e ∙ closed_only s (held s earlier) o at a e f)

-- no channel that is shown at attaching has the key of a detached one
none_left_by : (d : List ℕ → Bool) (k c : List ℕ) (cs : List (List ℕ)) (b : Bool) → d (fold_name c) ≡ b → d k ≡ true → is_in k cs ≡ false → is_in k (if not b then c ∷ cs else cs) ≡ false
none_left_by d k c cs true e t ih = ih
none_left_by d k c cs false e t ih = or_both_false (at_key k c) (is_in k cs) (false_of _ (λ h. sym e ∙ (sym (ap d (key_is k c h)) ∙ t))) ih

none_left : (d : List ℕ → Bool) (k : List ℕ) (cs : List (List ℕ)) → d k ≡ true → is_in k (filter (λ c. not (d (fold_name c))) cs) ≡ false
none_left d k [] t = refl
none_left d k (c ∷ cs) t = none_left_by d k c (filter (λ x. not (d (fold_name x))) cs) (d (fold_name c)) refl t (none_left d k cs t)

pub not_open : (s : Settings) (earlier : List Command) (c : List ℕ) → detached s earlier c ≡ true → is_in c (open_channels s earlier) ≡ false
unfolding open_channels
not_open s earlier c t = none_left (detached s earlier) c (channels s earlier) t
