-- What is held once a client is among those that are attached.
use Rattle.std.proofs.Common.{◌≡◌, ℕ, Bool, true, false, not, List, [], ◌∷◌, ◌++◌, map, refl, sym, ap, ◌∙◌}
use Rattle.std.specs.Prelude.{if◌then◌else◌, Some, None}
use Rattle.std.proofs.lemmas.List.{append-nil}
use Rattle.irc_line.proofs.Booleans.{and_false}
use Rattle.wire_bytes.specs.declared.origin.Origin.{Origin}
use Rattle.buffer_targets.specs.Targets.{ChannelLines, TargetLines, cleared, open_cleared}
use Rattle.buffer_commands.specs.Settings.{Settings}
use Rattle.buffer_commands.specs.declared.command.Action.TheVariants.{Attach}
use Rattle.buffer_commands.specs.declared.command.Command.TheVariants.{Client}
use Rattle.buffer_machine.specs.Crowd.{is_some_of}
use Rattle.buffer_machine.specs.Held.{Held, Names, holding, names_of}
use Rattle.buffer_machine.specs.Steps.{after, after_play, channels_played, clears_attaching, clears_now, shown_emptied, shown_noted, with_room}
use Rattle.buffer_machine.specs.NameSteps.{taken_now}
use Rattle.buffer_machine.proofs.NobodySees.{all_by_none, no_clearing, open_by_none}

ids_same : (many : Bool) (names : Names) → (if many then names else names_of names.ids []).ids ≡ names.ids
ids_same true names = refl
ids_same false names = refl

holders_same : (many : Bool) (names : Names) → (if many then names else names_of names.ids []).holders ≡ (if many then names.holders else [])
holders_same true names = refl
holders_same false names = refl

names_same : (many : Bool) (names : Names) → (if many then names else names_of names.ids []) ≡ names_of names.ids ((if many then names.holders else []) ++ [])
names_same true names = rw (append-nil names.holders) refl
names_same false names = refl

none_cleared : (clears : Bool) (names : Names) (id : List ℕ) → clears_attaching clears names (Some id) ≡ false
none_cleared clears names id = and_false (clears_now clears names)

-- with a name
pub let_some : (s : Settings) (floor : ℕ) (h r : Held) (o : Origin) (id : List ℕ) (cs : List Origin) → taken_now floor h (Client o 0 (Attach (Some id))) ≡ true → r ≡ with_room s.many_clients h → cs ≡ r.clients ++ o ∷ []
    → shown_noted o id (holding r.nick cs r.names r.channels r.queries) ≡ after s floor h (Client o 0 (Attach (Some id)))
let_some s floor h r o id cs t e f =
    rw (f, e, t, ids_same s.many_clients h.names, holders_same s.many_clients h.names, none_cleared s.clears_channels h.names id, none_cleared s.clears_queries h.names id) refl

channels_emptied : (clears : Bool) (names : Names) (cs : List ChannelLines) → not (is_some_of names.ids) ≡ true → (if clears then open_cleared cs else cs) ≡ channels_played (clears_attaching clears names None) [] cs
channels_emptied true names cs e = rw e refl
channels_emptied false names cs e = sym (open_by_none cs)

queries_emptied : (clears : Bool) (names : Names) (ts : List TargetLines) → not (is_some_of names.ids) ≡ true → (if clears then map cleared ts else ts) ≡ map (after_play (clears_attaching clears names None) []) ts
queries_emptied true names ts e = rw e refl
queries_emptied false names ts e = sym (all_by_none ts)

-- without a name, if no name is known
pub let_none : (s : Settings) (floor : ℕ) (h r : Held) (o : Origin) (cs : List Origin) → taken_now floor h (Client o 0 (Attach None)) ≡ true → r ≡ with_room s.many_clients h → cs ≡ r.clients ++ o ∷ [] → not (is_some_of r.names.ids) ≡ true
    → shown_emptied s (holding r.nick cs r.names r.channels r.queries) ≡ after s floor h (Client o 0 (Attach None))
let_none s floor h r o cs t e f n =
    let none : not (is_some_of h.names.ids) ≡ true = sym (ap (λ i. not (is_some_of i)) (ap (λ g. g.names.ids) e ∙ ids_same s.many_clients h.names)) ∙ n in
    rw (f, e, t, names_same s.many_clients h.names, channels_emptied s.clears_channels h.names h.channels none, queries_emptied s.clears_queries h.names h.queries none) refl

channels_kept : (clears : Bool) (names : Names) (cs : List ChannelLines) → not (is_some_of names.ids) ≡ false → cs ≡ channels_played (clears_attaching clears names None) [] cs
channels_kept clears names cs e = rw (no_clearing clears names e) (sym (open_by_none cs))

queries_kept : (clears : Bool) (names : Names) (ts : List TargetLines) → not (is_some_of names.ids) ≡ false → ts ≡ map (after_play (clears_attaching clears names None) []) ts
queries_kept clears names ts e = rw (no_clearing clears names e) (sym (all_by_none ts))

-- without a name, where some name is known
pub let_plain : (s : Settings) (floor : ℕ) (h r : Held) (o : Origin) (cs : List Origin) → taken_now floor h (Client o 0 (Attach None)) ≡ true → r ≡ with_room s.many_clients h → cs ≡ r.clients ++ o ∷ [] → not (is_some_of r.names.ids) ≡ false
    → holding r.nick cs r.names r.channels r.queries ≡ after s floor h (Client o 0 (Attach None))
let_plain s floor h r o cs t e f n =
    let some : not (is_some_of h.names.ids) ≡ false = sym (ap (λ i. not (is_some_of i)) (ap (λ g. g.names.ids) e ∙ ids_same s.many_clients h.names)) ∙ n in
    rw (f, e, t, names_same s.many_clients h.names, ← channels_kept s.clears_channels h.names h.channels some, ← queries_kept s.clears_queries h.names h.queries some) refl
