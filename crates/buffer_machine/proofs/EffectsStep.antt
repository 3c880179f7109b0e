-- What the machine answers is what its definitions say.
use Rattle.std.proofs.Common.{◌≡◌, ℕ, List, [], ◌∷◌, ◌++◌, map, refl, ap, ◌∙◌, sym, append_assoc, Bool, true, false, not, ◌&&◌, subst}
use Rattle.std.specs.Prelude.{Option, Some, None, if◌then◌else◌, filter, find, flat_map, unwrap_or, codes}
use Rattle.std.specs.List.{list_all}
use Rattle.irc_line.specs.Names.{fold_name}
use Rattle.irc_line.specs.Keys.{at_key, is_in}
use Rattle.irc_line.specs.Lines.{Parts}
use Rattle.buffer_targets.specs.Targets.{ChannelLines}
use Rattle.wire_bytes.specs.declared.origin.Origin.{Origin}
use Rattle.buffer_commands.specs.Settings.{Settings}
use Rattle.buffer_commands.specs.declared.command.Action.TheVariants.{Attach, Join, Part, Detach, Reattach}
use Rattle.buffer_commands.specs.declared.command.Command.{Command}
use Rattle.buffer_commands.specs.declared.command.Command.TheVariants.{Client}
use Rattle.buffer_commands.specs.declared.effect.Effect.{Effect}
use Rattle.buffer_commands.specs.declared.effect.Effect.TheVariants.{Close, Send}
use Rattle.buffer_machine.specs.Messages.{is_among, bare, own_line, is_query_name}
use Rattle.buffer_machine.specs.Buffers.{nick, channels, queries, joined, detached}
use Rattle.buffer_machine.specs.Crowd.{attached, floor, id_of, ids, takes}
use Rattle.buffer_machine.specs.Marks.{playback_by}
use Rattle.buffer_machine.proofs.Holders.{each_shown, flat_same, place}
use Rattle.buffer_machine.specs.Effects.{show_all, show_each, send_all, status, named, open_channels, closings, if_some, shown_again, sent_again, shown, sent, effects}
use Rattle.buffer_machine.specs.Answering.{played_by, shown_joined, standing, closed_out, others, shown_at_attach, sent_at_attach, answers, answers_attaching, answers_again, answers_joining, answers_parting, answers_detaching, answers_reattaching}
use Rattle.buffer_machine.specs.Held.{IsSound, channel_held, target_held, held}
use Rattle.buffer_machine.proofs.Folded.{query-key}
use Rattle.buffer_machine.proofs.Lists.{flat_map_at, flat_map_through}
use Rattle.buffer_machine.proofs.Names.{all-at}
use Rattle.buffer_machine.proofs.Standing.{queries-are, not_a_channel}
use Rattle.buffer_machine.proofs.Unknown.{detached-unknown}
use Rattle.buffer_machine.proofs.Found.{channel_under, channel-found}
use Rattle.buffer_machine.proofs.Playing.{played_by-both, played_by-channel, played_by-query, played-lines, standing-is}
use Rattle.std.proofs.lemmas.List.{append-nil}
use Rattle.buffer_machine.proofs.Named.{named-known, named-unknown, known-is}

-- ---- the parts of an answer, by whether the asker is attached

pub parts_by : (am : Bool) (all shows sends close : List Effect) → all ≡ shows ++ sends
    → (if am then all else close) ≡ (if am then [] else close) ++ (if am then shows else []) ++ (if am then sends else [])
parts_by true all shows sends close e = e
parts_by false all shows sends close e = sym (append-nil (close ++ []) ∙ append-nil close)

-- only what is shown
pub shows_by : (am : Bool) (shows close : List Effect) → (if am then shows else close) ≡ (if am then [] else close) ++ (if am then shows else []) ++ (if am then [] else [])
shows_by am shows close = parts_by am shows shows [] close (sym (append-nil shows))

-- ---- a channel attached again

abbrev under : Settings → List Command → List ℕ → ChannelLines
under s history c = channel_under s history (fold_name c) (find (at_key (fold_name c)) (channels s history))

-- what a client is shown of a channel that is attached again
again_one : (s : Settings) (history : List Command) (c : List ℕ) → is_in (fold_name c) (channels s history) ≡ true → (p : Origin)
    → shown_joined s.offset (nick s history) (under s history c) (place (ids s history) (id_of s history p)) p
    ≡ show_all p (own_line (nick s history) (codes "JOIN") (named s history c) ∷ playback_by s history (id_of s history p) (fold_name c))
again_one s history c e p =
    let name = unwrap_or (find (at_key (fold_name c)) (channels s history)) (fold_name c) in
    let plays : played_by s.offset (place (ids s history) (id_of s history p)) (under s history c).target ≡ playback_by s history (id_of s history p) (fold_name c) =
    played-lines s history (id_of s history p) (fold_name c) name ∙ sym (played_by-both s history (id_of s history p) (fold_name c) ∙ rw e refl) in
    ap (λ ls. show_all p (own_line (nick s history) (codes "JOIN") name ∷ ls)) plays
    ∙ ap (λ m. show_all p (own_line (nick s history) (codes "JOIN") m ∷ playback_by s history (id_of s history p) (fold_name c))) (sym (named-known s history c e))

again-is : (s : Settings) (history : List Command) (o : Origin) (c : List ℕ) → is_in (fold_name c) (channels s history) ≡ true
    → answers_again s (held s history) o (under s history c) ≡ shown_again s history (attached s history) (nick s history) c ++ send_all o (sent_again s history c)
again-is s history o c e =
    ap (λ es. es ++ send_all o (bare (if joined s history (fold_name c) then codes "NAMES" else codes "JOIN") (unwrap_or (find (at_key (fold_name c)) (channels s history)) (fold_name c) ∷ []) ∷ []))
    (each_shown s.offset (nick s history) (under s history c) (ids s history) (id_of s history) (attached s history)
    ∙ flat_same (λ p. shown_joined s.offset (nick s history) (under s history c) (place (ids s history) (id_of s history p)) p)
    (λ p. show_all p (own_line (nick s history) (codes "JOIN") (named s history c) ∷ playback_by s history (id_of s history p) (fold_name c))) (again_one s history c e) (attached s history))
    ∙ ap (λ m. shown_again s history (attached s history) (nick s history) c ++ send_all o (bare (if joined s history (fold_name c) then codes "NAMES" else codes "JOIN") (m ∷ []) ∷ [])) (sym (named-known s history c e))

-- what is shown and sent where a channel is joined, by whether it is known, detached and joined
abbrev join_shows : Settings → List Command → List ℕ → Bool → List Effect
join_shows s h c det = if det then shown_again s h (attached s h) (nick s h) c else []

abbrev join_sends : Settings → List Command → List ℕ → Bool → Bool → Bool → List Parts
join_sends s h c known det here =
    if det then sent_again s h c
    else
    if known && here then [] else bare (codes "JOIN") (named s h c ∷ []) ∷ []

join_by : (s : Settings) (h : List Command) (o : Origin) (c : List ℕ) (known det here : Bool) → is_in (fold_name c) (channels s h) ≡ known → detached s h (fold_name c) ≡ det → joined s h (fold_name c) ≡ here
    → answers_joining s (held s h) o c (if known then Some (under s h c) else None) ≡ join_shows s h c det ++ send_all o (join_sends s h c known det here)
join_by s h o c true true here e d j = rw d (again-is s h o c e)
join_by s h o c true false true e d j = rw (d, j) refl
join_by s h o c true false false e d j = rw (d, j, named-known s h c e) refl
join_by s h o c false true here e d j = absurd (let f = detached-unknown s h (fold_name c) e in cc)
join_by s h o c false false here e d j = rw (named-unknown s h c e) refl

pub join-is : (s : Settings) (h : List Command) (o : Origin) (at : ℕ) (c : List ℕ) → answers s (floor h o.0) (held s h) (Client o at (Join c)) ≡ effects s h (Client o at (Join c))
unfolding effects closings shown sent
join-is s h o at c =
    parts_by (is_among o (attached s h)) _ _ _ (Close o ∷ [])
    (ap (answers_joining s (held s h) o c) (channel-found s h (fold_name c) (channels s h))
    ∙ (join_by s h o c (is_in (fold_name c) (channels s h)) (detached s h (fold_name c)) (joined s h (fold_name c)) refl refl refl
    ∙ ap (λ b. join_shows s h c (detached s h (fold_name c)) ++ send_all o (join_sends s h c b (detached s h (fold_name c)) (joined s h (fold_name c)))) (sym (known-is s h c))))

part_by : (s : Settings) (h : List Command) (o : Origin) (c : List ℕ) (known here : Bool) → is_in (fold_name c) (channels s h) ≡ known → joined s h (fold_name c) ≡ here
    → answers_parting o c (if known then Some (under s h c) else None) ≡ send_all o (if known && not here then [] else bare (codes "PART") (named s h c ∷ []) ∷ [])
part_by s h o c true true e j = rw (j, named-known s h c e) refl
part_by s h o c true false e j = rw j refl
part_by s h o c false here e j = rw (named-unknown s h c e) refl

pub part-is : (s : Settings) (h : List Command) (o : Origin) (at : ℕ) (c : List ℕ) → answers s (floor h o.0) (held s h) (Client o at (Part c)) ≡ effects s h (Client o at (Part c))
unfolding effects closings shown sent
part-is s h o at c =
    parts_by (is_among o (attached s h)) _ [] _ (Close o ∷ [])
    (ap (answers_parting o c) (channel-found s h (fold_name c) (channels s h))
    ∙ (part_by s h o c (is_in (fold_name c) (channels s h)) (joined s h (fold_name c)) refl refl
    ∙ ap (λ b. send_all o (if b && not (joined s h (fold_name c)) then [] else bare (codes "PART") (named s h c ∷ []) ∷ [])) (sym (known-is s h c))))

detach_by : (s : Settings) (h : List Command) (o : Origin) (c : List ℕ) (known det : Bool) → is_in (fold_name c) (channels s h) ≡ known → detached s h (fold_name c) ≡ det
    → answers_detaching (held s h) o (if known then Some (under s h c) else None)
    ≡ (if not known then status (nick s h) o (codes "No such target.") else if det then [] else show_each (attached s h) (own_line (nick s h) (codes "PART") (named s h c) ∷ []))
detach_by s h o c true true e d = rw d refl
detach_by s h o c true false e d = rw (d, named-known s h c e) refl
detach_by s h o c false det e d = refl

pub detach-is : (s : Settings) (h : List Command) (o : Origin) (at : ℕ) (c : List ℕ) → answers s (floor h o.0) (held s h) (Client o at (Detach c)) ≡ effects s h (Client o at (Detach c))
unfolding effects closings shown sent
detach-is s h o at c =
    rw (known-is s h c)
    (ap (λ es. if is_among o (attached s h) then es else Close o ∷ [])
    (ap (answers_detaching (held s h) o) (channel-found s h (fold_name c) (channels s h)) ∙ detach_by s h o c (is_in (fold_name c) (channels s h)) (detached s h (fold_name c)) refl refl)
    ∙ shows_by (is_among o (attached s h)) _ (Close o ∷ []))

reattach_by : (s : Settings) (h : List Command) (o : Origin) (c : List ℕ) (known det : Bool) → is_in (fold_name c) (channels s h) ≡ known → detached s h (fold_name c) ≡ det
    → answers_reattaching s (held s h) o (if known then Some (under s h c) else None)
    ≡ (if not known then status (nick s h) o (codes "No such target.") else join_shows s h c det) ++ send_all o (if det then sent_again s h c else [])
reattach_by s h o c true true e d = rw d (again-is s h o c e)
reattach_by s h o c true false e d = rw d refl
reattach_by s h o c false true e d = absurd (let f = detached-unknown s h (fold_name c) e in cc)
reattach_by s h o c false false e d = refl

pub reattach-is : (s : Settings) (h : List Command) (o : Origin) (at : ℕ) (c : List ℕ) → answers s (floor h o.0) (held s h) (Client o at (Reattach c)) ≡ effects s h (Client o at (Reattach c))
unfolding effects closings shown sent
reattach-is s h o at c =
    parts_by (is_among o (attached s h)) _ _ _ (Close o ∷ [])
    (ap (answers_reattaching s (held s h) o) (channel-found s h (fold_name c) (channels s h))
    ∙ (reattach_by s h o c (is_in (fold_name c) (channels s h)) (detached s h (fold_name c)) refl refl
    ∙ ap (λ b. (if not b then status (nick s h) o (codes "No such target.") else join_shows s h c (detached s h (fold_name c))) ++ send_all o (if detached s h (fold_name c) then sent_again s h c else [])) (sym (known-is s h c))))

-- ---- Attach

flat_filter_by : {A B : Type 0} (f : A → List B) (x : A) (xs : List A) (ys : List B) (b : Bool) → flat_map f xs ≡ ys → flat_map f (if b then x ∷ xs else xs) ≡ (if b then f x else []) ++ ys
flat_filter_by f x xs ys true e = ap (λ l. f x ++ l) e
flat_filter_by f x xs ys false e = e

-- the results of the items that pass a test
flat_filter : {A B : Type 0} (f : A → List B) (p : A → Bool) (xs : List A) → flat_map f (filter p xs) ≡ flat_map (λ x. if p x then f x else []) xs
flat_filter f p [] = refl
flat_filter f p (x ∷ xs) = flat_filter_by f x (filter p xs) (flat_map (λ y. if p y then f y else []) xs) (p x) (flat_filter f p xs)

not_if : {A : Type 0} (b : Bool) (xs : List A) → (if b then [] else xs) ≡ (if not b then xs else [])
not_if true xs = refl
not_if false xs = refl

-- what a client that attaches is shown of a channel
open_one : (s : Settings) → IsSound s → (h : List Command) (o : Origin) (id : Option (List ℕ)) (front : List (List ℕ)) (c : List ℕ) (back : List (List ℕ)) → channels s h ≡ front ++ c ∷ back
    → shown_at_attach s.offset (nick s h) o (standing id (ids s h)) (channel_held s h c)
    ≡ (if not (detached s h (fold_name c)) then show_all o (if_some (joined s h (fold_name c)) (own_line (nick s h) (codes "JOIN") c ∷ []) ++ playback_by s h id (fold_name c)) else [])
open_one s sound h o id front c back e =
    ap (λ i. if detached s h (fold_name c) then [] else show_all o (if_some (joined s h (fold_name c)) (own_line (nick s h) (codes "JOIN") c ∷ []) ++ played_by s.offset i (target_held s h c))) (standing-is id (ids s h))
    ∙ (ap (λ ls. if detached s h (fold_name c) then [] else show_all o (if_some (joined s h (fold_name c)) (own_line (nick s h) (codes "JOIN") c ∷ []) ++ ls)) (played-lines s h id (fold_name c) c ∙ sym (played_by-channel s sound h id front c back e))
    ∙ not_if (detached s h (fold_name c)) (show_all o (if_some (joined s h (fold_name c)) (own_line (nick s h) (codes "JOIN") c ∷ []) ++ playback_by s h id (fold_name c))))

-- the channels that are played
channels-attaching : (s : Settings) → IsSound s → (h : List Command) (o : Origin) (id : Option (List ℕ))
    → flat_map (shown_at_attach s.offset (nick s h) o (standing id (ids s h))) (map (channel_held s h) (channels s h))
    ≡ flat_map (λ c. show_all o (if_some (joined s h (fold_name c)) (own_line (nick s h) (codes "JOIN") c ∷ []) ++ playback_by s h id (fold_name c))) (open_channels s h)
unfolding open_channels
channels-attaching s sound h o id =
    flat_map_through (channel_held s h) (shown_at_attach s.offset (nick s h) o (standing id (ids s h))) (channels s h)
    ∙ (flat_map_at (λ c. shown_at_attach s.offset (nick s h) o (standing id (ids s h)) (channel_held s h c))
    (λ c. if not (detached s h (fold_name c)) then show_all o (if_some (joined s h (fold_name c)) (own_line (nick s h) (codes "JOIN") c ∷ []) ++ playback_by s h id (fold_name c)) else []) (channels s h)
    (λ front c back e. open_one s sound h o id front c back e)
    ∙ sym (flat_filter (λ c. show_all o (if_some (joined s h (fold_name c)) (own_line (nick s h) (codes "JOIN") c ∷ []) ++ playback_by s h id (fold_name c))) (λ c. not (detached s h (fold_name c))) (channels s h)))

-- the queries that are played
queries-attaching : (s : Settings) → IsSound s → (h : List Command) (o : Origin) (id : Option (List ℕ))
    → flat_map (λ t. show_all o (played_by s.offset (standing id (ids s h)) t)) (map (target_held s h) (queries s h)) ≡ flat_map (λ q. show_all o (playback_by s h id (fold_name q))) (queries s h)
queries-attaching s sound h o id =
    flat_map_through (target_held s h) (λ t. show_all o (played_by s.offset (standing id (ids s h)) t)) (queries s h)
    ∙ flat_map_at (λ q. show_all o (played_by s.offset (standing id (ids s h)) (target_held s h q))) (λ q. show_all o (playback_by s h id (fold_name q))) (queries s h)
    (λ front q back e.
    let query_name : is_query_name q ≡ true = all-at is_query_name front q back (subst (λ qs. list_all is_query_name qs ≡ true) e (queries-are s h)) in
    ap (show_all o) (ap (λ i. played_by s.offset i (target_held s h q)) (standing-is id (ids s h)) ∙ (played-lines s h id (fold_name q) q ∙ sym (played_by-query s h id front q back e (not_a_channel s sound h (fold_name q) (query-key q query_name))))))

names_by : (o : Origin) (c : List ℕ) (cs : List (List ℕ)) (es : List Effect) (d j : Bool) → map (λ l. Send o l) (map (λ x. bare (codes "NAMES") (x ∷ [])) cs) ≡ es
    → map (λ l. Send o l) (map (λ x. bare (codes "NAMES") (x ∷ [])) (if j then c ∷ cs else cs)) ≡ (if j then Send o (bare (codes "NAMES") (c ∷ [])) ∷ [] else []) ++ es
names_by o c cs es d true e = ap (λ l. Send o (bare (codes "NAMES") (c ∷ [])) ∷ l) e
names_by o c cs es d false e = e

names_of : (s : Settings) (h : List Command) (o : Origin) (cs : List (List ℕ))
    → send_all o (map (λ c. bare (codes "NAMES") (c ∷ [])) (filter (λ c. joined s h (fold_name c)) cs)) ≡ flat_map (λ c. if joined s h (fold_name c) then Send o (bare (codes "NAMES") (c ∷ [])) ∷ [] else []) cs
names_of s h o [] = refl
names_of s h o (c ∷ cs) = names_by o c (filter (λ d. joined s h (fold_name d)) cs) _ false (joined s h (fold_name c)) (names_of s h o cs)

both_if : (d j : Bool) (e : Effect) → (if not d && j then e ∷ [] else []) ≡ (if not d then (if j then e ∷ [] else []) else [])
both_if true j e = refl
both_if false true e = refl
both_if false false e = refl

-- who is in the channels that are joined
names-attaching : (s : Settings) (h : List Command) (o : Origin)
    → flat_map (sent_at_attach o) (map (channel_held s h) (channels s h)) ≡ send_all o (map (λ c. bare (codes "NAMES") (c ∷ [])) (filter (λ c. joined s h (fold_name c)) (open_channels s h)))
unfolding open_channels
names-attaching s h o =
    flat_map_through (channel_held s h) (sent_at_attach o) (channels s h)
    ∙ (flat_map_at (λ c. sent_at_attach o (channel_held s h c)) (λ c. if not (detached s h (fold_name c)) then (if joined s h (fold_name c) then Send o (bare (codes "NAMES") (c ∷ [])) ∷ [] else []) else []) (channels s h)
    (λ front c back e. both_if (detached s h (fold_name c)) (joined s h (fold_name c)) (Send o (bare (codes "NAMES") (c ∷ []))))
    ∙ (sym (flat_filter (λ c. if joined s h (fold_name c) then Send o (bare (codes "NAMES") (c ∷ [])) ∷ [] else []) (λ c. not (detached s h (fold_name c))) (channels s h))
    ∙ sym (names_of s h o (filter (λ c. not (detached s h (fold_name c))) (channels s h)))))

attach_by : (taken : Bool) (others shows plays sends close : List Effect)
    → (if taken then others ++ shows ++ plays ++ sends else close) ≡ (if taken then others else close) ++ (if taken then shows ++ plays else []) ++ (if taken then sends else [])
attach_by true others shows plays sends close = ap (λ l. l ++ sends) (append_assoc others shows plays)
attach_by false others shows plays sends close = sym (append-nil (close ++ []) ∙ append-nil close)

pub attach-is : (s : Settings) → IsSound s → (h : List Command) (o : Origin) (at : ℕ) (id : Option (List ℕ)) → answers_attaching s (floor h o.0) (held s h) o id ≡ effects s h (Client o at (Attach id))
unfolding effects closings shown sent
attach-is s sound h o at id =
    rw (← channels-attaching s sound h o id, ← queries-attaching s sound h o id, ← names-attaching s h o)
    (attach_by (takes s h (Client o at (Attach id))) (if s.many_clients then [] else map Close (attached s h))
    (flat_map (shown_at_attach s.offset (nick s h) o (standing id (ids s h))) (map (channel_held s h) (channels s h))) (flat_map (λ t. show_all o (played_by s.offset (standing id (ids s h)) t)) (map (target_held s h) (queries s h)))
    (flat_map (sent_at_attach o) (map (channel_held s h) (channels s h))) (closed_out o (attached s h)))
