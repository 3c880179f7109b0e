-- A client's requests as they go to its node.
use Rattle.std.proofs.Common.{◌≡◌, ◌∙◌, ◌≤◌, ◌++◌, ℕ, Bool, true, false, not, ◌&&◌, ◌||◌, ◌⊎◌, List, [], ◌∷◌, Option, None, length, refl, sym, ap, inl, inr, arith}
use Rattle.std.specs.Prelude.{IsTrue, codes, if◌then◌else◌, nat_le}
use Rattle.std.specs.List.{list_all, list_any}
use Rattle.std.proofs.lemmas.List.{append_assoc, append-nil}
use Rattle.std.proofs.lemmas.List.Folds.{list_any-append}
use Rattle.irc_line.specs.Limits.{line_limit}
use Rattle.irc_line.specs.Lines.{has_colon, is_line, parts, spelling}
use Rattle.irc_line.specs.Names.{first_is, is_name, is_name_byte, same_name}
use Rattle.irc_line.proofs.Booleans.{and_left, and_right}
use Rattle.irc_line.proofs.Numbers.{le_of}
use Rattle.buffer_machine.specs.declared.message.ChannelWord.TheVariants as word
use Rattle.buffer_machine.proofs.NameLemmas.{bare_channel_line}
use Rattle.buffer_commands.specs.declared.command.Action.{Action}
use Rattle.buffer_commands.specs.declared.command.Action.TheVariants.{Attach, Leave, Say, Join, Part, Detach, Reattach, Play, Clear, ClearChannels, ClearQueries, ClearAll, SetBuffer, Pass}
use Rattle.client_gate.specs.declared.request.Request.{Request}
use Rattle.client_gate.specs.Turns.{request as numbered}
use Rattle.wire_bytes.specs.declared.moment.Moment.{Moment}
use Rattle.wire_bytes.specs.declared.origin.Origin.{Origin}
use Rattle.driver.specs.declared.news.News.TheVariants.{Attached}
use Rattle.driver.specs.declared.order.Order.{Order}
use Rattle.driver.specs.declared.order.Order.TheVariants.{Log}
use Rattle.driver.specs.Clients.{asked_all, asks_of, welcome}
use Rattle.driver.specs.Cycling.{AreToldAs, CyclesGoAsLines, IsToldAs, OnlyJoinsAreReworded, is_cycled, join_line, parted_by, reworded, turned}
use Rattle.driver.specs.Once.{numbers_of}
use Rattle.driver.specs.Opening.{has_open, opened}
use Rattle.driver.specs.Telling.{Ordered, ordered}
use Rattle.driver.proofs.NewestKeys.{same_self}

-- The line by which a channel is joined.

pub join_is_line : (name : List ℕ) → IsTrue (is_name name) → IsTrue (is_line (parts None (codes "JOIN") (name ∷ [])))
join_is_line name is = bare_channel_line word.Join name is

name_short : (name : List ℕ) → IsTrue (is_name name) → length name ≤ 64
unfolding is_name
name_short name is =
    let front : (nat_le 1 (length name) && nat_le (length name) 64 && list_all is_name_byte name) ≡ true = and_left _ (not (first_is 58 name)) is in
    let lengths : (nat_le 1 (length name) && nat_le (length name) 64) ≡ true = and_left _ (list_all is_name_byte name) front in
    le_of (length name) 64 (and_right (nat_le 1 (length name)) _ lengths)

-- with a colon before the name or without
fits_by : (colon : Bool) (name : List ℕ) → length name ≤ 64 → length (codes "JOIN" ++ (if colon then 32 ∷ 58 ∷ name else 32 ∷ name)) ≤ 511
fits_by true name short = omega arith
fits_by false name short = omega arith

pub join_fits : (name : List ℕ) → IsTrue (is_name name) → length (spelling (parts None (codes "JOIN") (name ∷ []))) ≤ line_limit
unfolding spelling
join_fits name is = fits_by (has_colon (codes "JOIN") name) name (name_short name is)

-- Requests keep their numbers.
pub numbers_kept : (shown parting : List (List ℕ)) (requests : List Request) → numbers_of (reworded shown parting requests) ≡ numbers_of requests
unfolding reworded
numbers_kept shown parting [] = refl
numbers_kept shown parting (request ∷ requests) =
    ap (λ numbers. request.number ∷ numbers) (numbers_kept shown (parted_by shown parting request.action) requests)

-- no requests stay none
pub none_told : (shown parting : List (List ℕ)) (requests : List Request) → requests ≡ [] → reworded shown parting requests ≡ []
unfolding reworded
none_told shown parting requests is = ap (reworded shown parting) is

-- Only a Join is changed.

join_told : (cycled : Bool) (channel : List ℕ) → ((if cycled then Pass (join_line channel) else Join channel) ≡ Join channel) ⊎ ((if cycled then Pass (join_line channel) else Join channel) ≡ Pass (join_line channel))
join_told true channel = inr refl
join_told false channel = inl refl

action_told : (shown parting : List (List ℕ)) (action : Action) → IsToldAs action (turned shown parting action)
action_told shown parting (Join channel) = join_told (is_cycled shown parting channel) channel
action_told shown parting (Attach name) = refl
action_told shown parting Leave = refl
action_told shown parting (Say verb name text) = refl
action_told shown parting (Part channel) = refl
action_told shown parting (Detach channel) = refl
action_told shown parting (Reattach channel) = refl
action_told shown parting (Play name) = refl
action_told shown parting (Clear name) = refl
action_told shown parting ClearChannels = refl
action_told shown parting ClearQueries = refl
action_told shown parting ClearAll = refl
action_told shown parting (SetBuffer name size) = refl
action_told shown parting (Pass line) = refl

pub only_joins : OnlyJoinsAreReworded
unfolding reworded AreToldAs
only_joins shown parting [] = tt
only_joins shown parting (request ∷ requests) =
    (refl, action_told shown parting request.action, only_joins shown (parted_by shown parting request.action) requests)

-- A channel that was parted from a moment ago.

or_last : (a : Bool) → (a || true) ≡ true
or_last true = refl
or_last false = refl

opened_by : (has : Bool) (name : List ℕ) (names : List (List ℕ)) → is_name name ≡ true → has_open name names ≡ has → has_open name (if has || not (is_name name) then names else names ++ name ∷ []) ≡ true
opened_by true name names named is = is
opened_by false name names named is =
    ap (λ (b : Bool). has_open name (if not b then names else names ++ name ∷ [])) named
    ∙ list_any-append (same_name name) names (name ∷ [])
    ∙ ap (λ (b : Bool). list_any (same_name name) names || (b || false)) (same_self name)
    ∙ or_last (list_any (same_name name) names)

opened_has : (name : List ℕ) (names : List (List ℕ)) → is_name name ≡ true → has_open name (opened name names) ≡ true
opened_has name names named = opened_by (has_open name names) name names named refl

-- the JOIN after a PART, by whether the channel is open
cycled_by : (shown parting : List (List ℕ)) (channel : List ℕ) → is_name channel ≡ true → has_open channel shown ≡ true → is_cycled shown (parted_by shown parting (Part channel)) channel ≡ true
cycled_by shown parting channel named here =
    ap (λ (b : Bool). b && has_open channel (if b then opened channel parting else parting)) here ∙ opened_has channel parting named

pub cycles_go : CyclesGoAsLines
unfolding reworded
cycles_go shown parting channel first second named here =
    ap (λ (cycled : Bool). numbered first (Part channel) ∷ numbered second (if cycled then Pass (join_line channel) else Join channel) ∷ [])
    (cycled_by shown parting channel named here)

-- The orders for requests: the welcome first, if there are any.

pub asked_so : (attached : Bool) (origin : Origin) (name : Option (List ℕ)) (at : Moment) (shown parting : List (List ℕ)) (requests : List Request) → (requests ≡ [] → ⊥)
    → asked_all attached origin name at (reworded shown parting requests) ≡ welcome attached origin name ++ asks_of origin at (reworded shown parting requests)
unfolding reworded asked_all
asked_so attached origin name at shown parting [] some = absurd (some refl)
asked_so attached origin name at shown parting (request ∷ requests) some = refl

-- a client that was attached before, or is by its first request
pub later_told : (attached : Bool) (origin : Origin) (name : Option (List ℕ)) (before between : Ordered) → attached ≡ true → between ≡ before → between ≡ ordered before (welcome attached origin name)
later_told true origin name before between is same = same ∙ sym (ap (λ (items : List Order). record before { items = items }) (append-nil before.items))
later_told false origin name before between is same = absurd (cc is)

pub first_told : (attached : Bool) (origin : Origin) (name : Option (List ℕ)) (before between : Ordered) → attached ≡ false → between ≡ ordered before (Log (Attached origin name) ∷ []) → between ≡ ordered before (welcome attached origin name)
first_told true origin name before between is same = absurd (cc is)
first_told false origin name before between is same = same

-- and what it asks after that
pub asked_behind : (attached : Bool) (origin other : Origin) (name : Option (List ℕ)) (at : Moment) (shown parting : List (List ℕ)) (requests told : List Request) (before between : Ordered) → (requests ≡ [] → ⊥)
    → between ≡ ordered before (welcome attached origin name) → other ≡ origin → told ≡ reworded shown parting requests
    → ordered between (asks_of other at told) ≡ ordered before (asked_all attached origin name at (reworded shown parting requests))
asked_behind attached origin other name at shown parting requests told before between some first same is =
    let all = reworded shown parting requests in
    let behind = ordered before (welcome attached origin name) in
    ap (λ (orders : Ordered). ordered orders (asks_of other at told)) first
    ∙ ap (λ (own : Origin). ordered behind (asks_of own at told)) same
    ∙ ap (λ (requests : List Request). ordered behind (asks_of origin at requests)) is
    ∙ ap (λ (items : List Order). record before { items = items }) (append_assoc before.items (welcome attached origin name) (asks_of origin at all))
    ∙ ap (λ (orders : List Order). ordered before orders) (sym (asked_so attached origin name at shown parting requests some))
