-- The name of an attached client has seen all that is kept of a target that is shown; and how much all names have seen
-- after each kind of change.
use Rattle.std.proofs.Common.{◌≡◌, ℕ, Bool, true, false, not, ◌&&◌, ◌||◌, List, [], ◌∷◌, ◌++◌, length, refl, sym, ap, ◌∙◌}
use Rattle.std.specs.Prelude.{Option, None, if◌then◌else◌, filter, ◌==◌, nat_lt}
use Rattle.std.specs.List.{list_any}
use Rattle.irc_line.specs.Names.{is_channel}
use Rattle.irc_line.specs.Keys.{at_key, is_in}
use Rattle.irc_line.proofs.Booleans.{and_false, and_true, or_true}
use Rattle.wire_bytes.specs.declared.origin.Origin.{Origin}
use Rattle.machine_laws.specs.Origins.{same_origin}
use Rattle.buffer_commands.specs.Settings.{Settings}
use Rattle.buffer_commands.specs.declared.command.Action.TheVariants.{Attach, Leave, Say, Join, Part, Detach, Reattach, Play, Clear, ClearChannels, ClearQueries, ClearAll, SetBuffer, Pass}
use Rattle.buffer_commands.specs.declared.command.Command.{Command}
use Rattle.buffer_commands.specs.declared.command.Command.TheVariants.{Client, Upstream, NodeGone, Up, Down}
use Rattle.buffer_machine.specs.Messages.{is_among}
use Rattle.buffer_machine.specs.Crowd.{attached, attached_after, holds, id_after, id_of, is_id, takes}
use Rattle.buffer_machine.specs.Buffers.{channels, detached, detached_after, emptied, is_known, is_removed, kept, plays, size, stored}
use Rattle.buffer_machine.specs.Marks.{is_shown_to, seen, sees}
use Rattle.buffer_machine.specs.Held.{IsSound}
use Rattle.buffer_machine.proofs.Holders.{same_origin-refl}
use Rattle.buffer_machine.proofs.Kept.{kept-next, kept-none, next-nothing}
use Rattle.buffer_machine.proofs.Placing.{there}
use Rattle.buffer_machine.proofs.SeenStep.{seen_nothing, seen_when}
use Rattle.buffer_machine.proofs.Standing.{known-channel, known-next, known-query}
use Rattle.buffer_machine.proofs.Unknown.{detached-more, detached-unknown, kept-unknown, query-kept-unknown, removed-is}
use Rattle.buffer_machine.proofs.Unnamed.{attached-more, id-more}

-- ---- who is attached after a command

any_same : {A : Type 0} (p q : A → Bool) → ((a : A) → p a ≡ q a) → (xs : List A) → list_any p xs ≡ list_any q xs
any_same p q h [] = refl
any_same p q h (x ∷ xs) = ap (λ b. b || list_any p xs) (h x) ∙ ap (λ b. q x || b) (any_same p q h xs)

holds-more : (s : Settings) (earlier : List Command) (x : Command) (id : List ℕ)
    → holds s (x ∷ earlier) id ≡ list_any (λ o. is_id id (id_after (takes s earlier x) (id_of s earlier o) o x)) (attached_after s.many_clients (takes s earlier x) (attached s earlier) x)
unfolding holds
holds-more s earlier x id =
    any_same (λ o. is_id id (id_of s (x ∷ earlier) o)) (λ o. is_id id (id_after (takes s earlier x) (id_of s earlier o) o x)) (λ o. ap (is_id id) (id-more s x earlier o)) (attached s (x ∷ earlier))
    ∙ ap (list_any (λ o. is_id id (id_after (takes s earlier x) (id_of s earlier o) o x))) (attached-more s x earlier)

holds-is : (s : Settings) (h : List Command) (id : List ℕ) → holds s h id ≡ list_any (λ o. is_id id (id_of s h o)) (attached s h)
unfolding holds
holds-is s h id = refl

filtered_by : {A : Type 0} (p q : A → Bool) (x : A) (xs : List A) (b c : Bool) → (list_any p (filter q xs) ≡ true → list_any p xs ≡ true) → p x ≡ c → list_any p (if b then x ∷ filter q xs else filter q xs) ≡ true → (c || list_any p xs) ≡ true
filtered_by p q x xs b true h e f = refl
filtered_by p q x xs true false h e f = h (rw e at f)
filtered_by p q x xs false false h e f = h f

any_filtered : {A : Type 0} (p q : A → Bool) (xs : List A) → list_any p (filter q xs) ≡ true → list_any p xs ≡ true
any_filtered p q [] e = cc
any_filtered p q (x ∷ xs) e = filtered_by p q x xs (q x) (p x) (any_filtered p q xs) refl e

-- a client that attaches by another name does not bring this name
none_by : (given n : Option (List ℕ)) (id : List ℕ) (b : Bool) → is_id id given ≡ false → is_id id n ≡ false → is_id id (if b then given else n) ≡ false
none_by given n id true e f = e
none_by given n id false e f = f

none_brought : (p : Origin) (given : Option (List ℕ)) (id : List ℕ) (g : Origin → Option (List ℕ)) (os : List Origin) → is_id id given ≡ false → list_any (λ o. is_id id (g o)) os ≡ false
    → list_any (λ o. is_id id (if same_origin p o then given else g o)) (os ++ p ∷ []) ≡ is_id id (if same_origin p p then given else g p)
none_brought p given id g [] e f = or_nothing (is_id id (if same_origin p p then given else g p))
  where
    or_nothing : (b : Bool) → (b || false) ≡ b
    or_nothing true = refl
    or_nothing false = refl
none_brought p given id g (o ∷ os) e f =
    rw (none_by given (g o) id (same_origin p o) e (or_left (is_id id (g o)) (list_any (λ q. is_id id (g q)) os) f)) (none_brought p given id g os e (or_right (is_id id (g o)) (list_any (λ q. is_id id (g q)) os) f))
  where
    or_left : (a b : Bool) → (a || b) ≡ false → a ≡ false
    or_left true b e = e
    or_left false b e = refl

    or_right : (a b : Bool) → (a || b) ≡ false → b ≡ false
    or_right true b e = cc
    or_right false b e = e

-- ---- what is kept of a target that is new or gone

nothing_all : (s : Settings) (h : List Command) (id t : List ℕ) → kept s h t ≡ [] → seen s h id t ≡ length (kept s h t)
nothing_all s h id t e = seen_nothing s h id t e ∙ sym (ap length e)

gone_nothing : (s : Settings) (earlier : List Command) (x : Command) (t : List ℕ) → is_channel t ≡ true → is_removed s earlier t x ≡ true → kept s (x ∷ earlier) t ≡ []
gone_nothing s earlier x t c r =
    kept-unknown s (x ∷ earlier) t c (known-next s earlier x t ∙ rw r (and_false _))

unknown_nothing : (s : Settings) → IsSound s → (h : List Command) (t : List ℕ) (b : Bool) → is_channel t ≡ b → is_known s h t ≡ false → kept s h t ≡ []
unknown_nothing s sound h t true c e = kept-unknown s h t c (sym (known-channel s h t c) ∙ e)
unknown_nothing s sound h t false c e = query-kept-unknown s sound h t c (sym (known-query s sound h t c) ∙ e)

attach_stores : (s : Settings) (earlier : List Command) (o : Origin) (at : ℕ) (given : Option (List ℕ)) (t : List ℕ) → stored s t earlier (Client o at (Attach given)) ≡ None
unfolding stored
attach_stores s earlier o at given t = refl

attach_nothing : (s : Settings) → IsSound s → (earlier : List Command) (o : Origin) (at : ℕ) (given : Option (List ℕ)) (t : List ℕ) → is_known s earlier t ≡ false → kept s (Client o at (Attach given) ∷ earlier) t ≡ []
attach_nothing s sound earlier o at given t e =
    kept-next s earlier (Client o at (Attach given)) t
    ∙ rw (unknown_nothing s sound earlier t (is_channel t) refl e, attach_stores s earlier o at given t) (next-nothing (size s t (Client o at (Attach given) ∷ earlier)) (emptied s t earlier (Client o at (Attach given))))

-- ---- who was attached before

again_bool : (a k : Bool) → (true && not (a && k)) ≡ false → ((a && true && true && k) && true) ≡ true
again_bool true true e = refl
again_bool true false e = cc
again_bool false true e = cc
again_bool false false e = cc

-- a channel that is shown again is played to all
plays_again : (s : Settings) (earlier : List Command) (x : Command) (t id : List ℕ) → detached_after (attached s earlier) true t true x ≡ false
    → (plays (takes s earlier x) (attached s earlier) true t true x && is_shown_to id true (id_of s earlier) x) ≡ true
plays_again s earlier (Client o at (Reattach d)) t id e = again_bool (is_among o (attached s earlier)) (at_key t d) e
plays_again s earlier (Client o at (Join d)) t id e = again_bool (is_among o (attached s earlier)) (at_key t d) e
plays_again s earlier (Client o at (Attach given)) t id e = cc
plays_again s earlier (Client o at Leave) t id e = cc
plays_again s earlier (Client o at (Say verb name text)) t id e = cc
plays_again s earlier (Client o at (Part c)) t id e = cc
plays_again s earlier (Client o at (Detach c)) t id e = cc
plays_again s earlier (Client o at (Play u)) t id e = cc
plays_again s earlier (Client o at (Clear u)) t id e = cc
plays_again s earlier (Client o at ClearChannels) t id e = cc
plays_again s earlier (Client o at ClearQueries) t id e = cc
plays_again s earlier (Client o at ClearAll) t id e = cc
plays_again s earlier (Client o at (SetBuffer u n)) t id e = cc
plays_again s earlier (Client o at (Pass line)) t id e = cc
plays_again s earlier (Upstream at line) t id e = cc
plays_again s earlier (NodeGone node boot) t id e = cc
plays_again s earlier Up t id e = cc
plays_again s earlier Down t id e = cc

sees_again : (s : Settings) (earlier : List Command) (x : Command) (t id : List ℕ) → holds s earlier id ≡ true → is_channel t ≡ true → detached s earlier t ≡ true → is_in t (channels s earlier) ≡ true
    → detached_after (attached s earlier) true t true x ≡ false → sees s earlier id t x ≡ true
unfolding sees
sees_again s earlier x t id h c d i e = rw (h, c, d, known-channel s earlier t c, i) (plays_again s earlier x t id e)

was_known : (s : Settings) (earlier : List Command) (t : List ℕ) (b : Bool) → is_in t (channels s earlier) ≡ b → detached s earlier t ≡ true → b ≡ true
was_known s earlier t true e d = refl
was_known s earlier t false e d = sym (detached-unknown s earlier t e) ∙ d

hidden_by : (s : Settings) (earlier : List Command) (x : Command) (t id : List ℕ) (b : Bool) → holds s earlier id ≡ true → is_channel t ≡ true → detached s earlier t ≡ true
    → detached_after (attached s earlier) true t true x ≡ b → (b && not (is_removed s earlier t x)) ≡ false → seen s (x ∷ earlier) id t ≡ length (kept s (x ∷ earlier) t)
hidden_by s earlier x t id true h c d e f = nothing_all s (x ∷ earlier) id t (gone_nothing s earlier x t c (not_false (is_removed s earlier t x) f))
  where
    not_false : (b : Bool) → not b ≡ false → b ≡ true
    not_false true e = refl
    not_false false e = cc
hidden_by s earlier x t id false h c d e f = seen_when s earlier x id t (sees_again s earlier x t id h c d (was_known s earlier t (is_in t (channels s earlier)) refl d) e)

hidden_once : (s : Settings) (earlier : List Command) (x : Command) (t id : List ℕ) (c d : Bool) → is_channel t ≡ c → detached s earlier t ≡ d → holds s earlier id ≡ true → (c && d) ≡ true → (c && detached s (x ∷ earlier) t) ≡ false
    → seen s (x ∷ earlier) id t ≡ length (kept s (x ∷ earlier) t)
hidden_once s earlier x t id true true c d h b e =
    hidden_by s earlier x t id (detached_after (attached s earlier) true t true x) h c d refl
    (rw (was_known s earlier t (is_in t (channels s earlier)) refl d, d) at (sym (detached-more s earlier x t) ∙ e))
hidden_once s earlier x t id true false c d h b e = cc
hidden_once s earlier x t id false d c f h b e = cc

stayed_by : (s : Settings) (earlier : List Command) (x : Command) (id t : List ℕ) (b : Bool) → holds s earlier id ≡ true → (is_channel t && detached s earlier t) ≡ b → (is_channel t && detached s (x ∷ earlier) t) ≡ false
    → seen s (x ∷ earlier) id t ≡ length (kept s (x ∷ earlier) t)
stayed_by s earlier x id t false h d e = seen_when s earlier x id t (there s earlier x id t h d)
stayed_by s earlier x id t true h d e = hidden_once s earlier x t id (is_channel t) (detached s earlier t) refl refl h d e

-- for a name that was attached before the command
stayed : (s : Settings) (earlier : List Command) (x : Command) (id t : List ℕ) → holds s earlier id ≡ true → (is_channel t && detached s (x ∷ earlier) t) ≡ false → seen s (x ∷ earlier) id t ≡ length (kept s (x ∷ earlier) t)
stayed s earlier x id t h e = stayed_by s earlier x id t (is_channel t && detached s earlier t) h refl e

-- ---- and for one that came

sees_came : (s : Settings) (earlier : List Command) (o : Origin) (at : ℕ) (given : Option (List ℕ)) (id t : List ℕ) → takes s earlier (Client o at (Attach given)) ≡ true → is_id id given ≡ true → is_known s earlier t ≡ true
    → (is_channel t && detached s earlier t) ≡ false → sees s earlier id t (Client o at (Attach given)) ≡ true
unfolding sees
sees_came s earlier o at given id t k i n d = rw (k, i, n, d) (or_true (holds s earlier id && true))

attach_detaches : (s : Settings) (earlier : List Command) (o : Origin) (at : ℕ) (given : Option (List ℕ)) (t : List ℕ) → detached s (Client o at (Attach given) ∷ earlier) t ≡ detached s earlier t
attach_detaches s earlier o at given t = detached-more s earlier (Client o at (Attach given)) t ∙ rw (removed-is s earlier t (Client o at (Attach given))) (and_true (detached s earlier t))

came_by : (s : Settings) → IsSound s → (earlier : List Command) (o : Origin) (at : ℕ) (given : Option (List ℕ)) (id t : List ℕ) (known : Bool) → takes s earlier (Client o at (Attach given)) ≡ true → is_id id given ≡ true → is_known s earlier t ≡ known
    → (is_channel t && detached s earlier t) ≡ false → seen s (Client o at (Attach given) ∷ earlier) id t ≡ length (kept s (Client o at (Attach given) ∷ earlier) t)
came_by s sound earlier o at given id t true k i n d = seen_when s earlier (Client o at (Attach given)) id t (sees_came s earlier o at given id t k i n d)
came_by s sound earlier o at given id t false k i n d = nothing_all s (Client o at (Attach given) ∷ earlier) id t (attach_nothing s sound earlier o at given t n)

brought : (many : Bool) (p : Origin) (given : Option (List ℕ)) (id : List ℕ) (g : Origin → Option (List ℕ)) (os : List Origin) (b : Bool) → is_id id given ≡ b → list_any (λ o. is_id id (g o)) os ≡ false
    → same_origin p p ≡ true → list_any (λ o. is_id id (if true && same_origin p o then given else g o)) ((if many then os else []) ++ p ∷ []) ≡ true → b ≡ true
brought many p given id g os true e f r h = refl
brought true p given id g os false e f r h = sym e ∙ (rw (none_brought p given id g os e f, r) at h)
brought false p given id g os false e f r h = sym e ∙ (rw (none_brought p given id g [] e refl, r) at h)

attached_by : (s : Settings) → IsSound s → (earlier : List Command) (o : Origin) (at : ℕ) (given : Option (List ℕ)) (id t : List ℕ) (taken here : Bool) → takes s earlier (Client o at (Attach given)) ≡ taken → holds s earlier id ≡ here
    → list_any (λ p. is_id id (if taken && same_origin o p then given else id_of s earlier p)) (if taken then ((if s.many_clients then attached s earlier else []) ++ o ∷ []) else attached s earlier) ≡ true
    → (is_channel t && detached s (Client o at (Attach given) ∷ earlier) t) ≡ false → seen s (Client o at (Attach given) ∷ earlier) id t ≡ length (kept s (Client o at (Attach given) ∷ earlier) t)
attached_by s sound earlier o at given id t taken true k h e d = stayed s earlier (Client o at (Attach given)) id t h d
attached_by s sound earlier o at given id t false false k h e d = stayed s earlier (Client o at (Attach given)) id t (holds-is s earlier id ∙ e) d
attached_by s sound earlier o at given id t true false k h e d =
    came_by s sound earlier o at given id t (is_known s earlier t) k
    (brought s.many_clients o given id (id_of s earlier) (attached s earlier) (is_id id given) refl (sym (holds-is s earlier id) ∙ h) (same_origin-refl o) e) refl
    (ap (λ b. is_channel t && b) (sym (attach_detaches s earlier o at given t)) ∙ d)

here_after : (s : Settings) → IsSound s → (earlier : List Command) (x : Command) (id t : List ℕ)
    → list_any (λ o. is_id id (id_after (takes s earlier x) (id_of s earlier o) o x)) (attached_after s.many_clients (takes s earlier x) (attached s earlier) x) ≡ true
    → (is_channel t && detached s (x ∷ earlier) t) ≡ false → seen s (x ∷ earlier) id t ≡ length (kept s (x ∷ earlier) t)
here_after s sound earlier (Client o at (Attach given)) id t e d = attached_by s sound earlier o at given id t (takes s earlier (Client o at (Attach given))) (holds s earlier id) refl refl e d
here_after s sound earlier (Client o at Leave) id t e d = stayed s earlier (Client o at Leave) id t (holds-is s earlier id ∙ any_filtered (λ p. is_id id (id_of s earlier p)) (λ x. not (same_origin o x)) (attached s earlier) e) d
here_after s sound earlier (NodeGone n floor) id t e d = stayed s earlier (NodeGone n floor) id t (holds-is s earlier id ∙ any_filtered (λ p. is_id id (id_of s earlier p)) (λ x. not (x.0 == n && nat_lt x.1 floor)) (attached s earlier) e) d
here_after s sound earlier (Client o at (Say verb name text)) id t e d = stayed s earlier (Client o at (Say verb name text)) id t (holds-is s earlier id ∙ e) d
here_after s sound earlier (Client o at (Join c)) id t e d = stayed s earlier (Client o at (Join c)) id t (holds-is s earlier id ∙ e) d
here_after s sound earlier (Client o at (Part c)) id t e d = stayed s earlier (Client o at (Part c)) id t (holds-is s earlier id ∙ e) d
here_after s sound earlier (Client o at (Detach c)) id t e d = stayed s earlier (Client o at (Detach c)) id t (holds-is s earlier id ∙ e) d
here_after s sound earlier (Client o at (Reattach c)) id t e d = stayed s earlier (Client o at (Reattach c)) id t (holds-is s earlier id ∙ e) d
here_after s sound earlier (Client o at (Play u)) id t e d = stayed s earlier (Client o at (Play u)) id t (holds-is s earlier id ∙ e) d
here_after s sound earlier (Client o at (Clear u)) id t e d = stayed s earlier (Client o at (Clear u)) id t (holds-is s earlier id ∙ e) d
here_after s sound earlier (Client o at ClearChannels) id t e d = stayed s earlier (Client o at ClearChannels) id t (holds-is s earlier id ∙ e) d
here_after s sound earlier (Client o at ClearQueries) id t e d = stayed s earlier (Client o at ClearQueries) id t (holds-is s earlier id ∙ e) d
here_after s sound earlier (Client o at ClearAll) id t e d = stayed s earlier (Client o at ClearAll) id t (holds-is s earlier id ∙ e) d
here_after s sound earlier (Client o at (SetBuffer u n)) id t e d = stayed s earlier (Client o at (SetBuffer u n)) id t (holds-is s earlier id ∙ e) d
here_after s sound earlier (Client o at (Pass line)) id t e d = stayed s earlier (Client o at (Pass line)) id t (holds-is s earlier id ∙ e) d
here_after s sound earlier (Upstream at line) id t e d = stayed s earlier (Upstream at line) id t (holds-is s earlier id ∙ e) d
here_after s sound earlier Up id t e d = stayed s earlier Up id t (holds-is s earlier id ∙ e) d
here_after s sound earlier Down id t e d = stayed s earlier Down id t (holds-is s earlier id ∙ e) d

-- the name of an attached client has seen all of a target that is shown
pub here_all : (s : Settings) → IsSound s → (h : List Command) (id t : List ℕ) → holds s h id ≡ true → (is_channel t && detached s h t) ≡ false → seen s h id t ≡ length (kept s h t)
here_all s sound [] id t e d = nothing_all s [] id t (kept-none s t)
here_all s sound (x ∷ earlier) id t e d = here_after s sound earlier x id t (sym (holds-more s earlier x id) ∙ e) d
