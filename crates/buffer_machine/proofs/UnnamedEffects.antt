-- If no client ever gives a name, all that is closed, shown and sent is as it was before clients could give one; and
-- attaching by a name empties nothing.
use Rattle.std.proofs.Common.{◌≡◌, ℕ, Bool, true, false, not, ◌&&◌, ◌||◌, List, [], ◌∷◌, map, refl, ap, ◌∙◌, arith}
use Rattle.std.specs.Prelude.{Option, Some, None, if◌then◌else◌, codes, nat_le, nat_lt}
use Rattle.std.proofs.lemmas.Bool.Decides.{nat_tests}
use Rattle.irc_line.specs.Names.{fold_name, is_channel}
use Rattle.irc_line.specs.Keys.{is_in}
use Rattle.wire_bytes.specs.declared.origin.Origin.{Origin}
use Rattle.buffer_commands.specs.Settings.{Settings}
use Rattle.buffer_commands.specs.declared.command.Action.TheVariants.{Attach, Leave, Say, Join, Part, Detach, Reattach, Play, Clear, ClearChannels, ClearQueries, ClearAll, SetBuffer, Pass}
use Rattle.buffer_commands.specs.declared.command.Command.{Command}
use Rattle.buffer_commands.specs.declared.command.Command.TheVariants.{Client, Upstream, NodeGone, Up, Down}
use Rattle.buffer_commands.specs.declared.effect.Effect.{Effect}
use Rattle.buffer_commands.specs.declared.effect.Effect.TheVariants.{Close}
use Rattle.buffer_machine.specs.Messages.{is_among, own_line}
use Rattle.buffer_machine.specs.Crowd.{attached, floor, id_of, ids, is_naming, is_some_of, takes}
use Rattle.buffer_machine.specs.Buffers.{clears, detached, emptied, is_known, is_pushed_out, kept, nick, playback, plays, queries, removes_target, size}
use Rattle.buffer_machine.specs.Marks.{playback_by}
use Rattle.buffer_machine.specs.Effects.{closings, effects, is_channel_known, named, show_all, shown, shown_again, status}
use Rattle.buffer_machine.specs.Before.{again_before, closings_before, effects_before, is_unnamed, shown_before, was_taken}
use Rattle.buffer_machine.proofs.Holders.{flat_same}
use Rattle.buffer_machine.proofs.Kept.{kept-next, kept_fits, next-quiet, size-more}
use Rattle.buffer_machine.proofs.Next.{unsaid}
use Rattle.buffer_machine.proofs.QueriesStep.{nothing_new, same_names}
use Rattle.buffer_machine.proofs.Unknown.{removed-is, removes-channel, removes-query}
use Rattle.buffer_machine.proofs.Unnamed.{first_unnamed, no_id, rest_unnamed, taken_was}

-- ---- what is closed

lt_by : (a b : ℕ) (t : Bool) → nat_le b a ≡ t → nat_lt a b ≡ not t
lt_by a b true e = grind (arith, nat_tests)
lt_by a b false e = grind (arith, nat_tests)

close_by : (am le lt : Bool) (others close : List Effect) → lt ≡ not le
    → (if not am && le then others else (if am then [] else close)) ≡ (if not am && le then others else (if lt && not am then close else []))
close_by true le true others close e = refl
close_by true le false others close e = refl
close_by false true lt others close e = refl
close_by false false lt others close e = rw e refl

closed_was : (s : Settings) (earlier : List Command) (o : Origin) (at : ℕ) (id : Option (List ℕ)) → takes s earlier (Client o at (Attach id)) ≡ was_taken s earlier (Client o at (Attach id))
    → closings s earlier (Client o at (Attach id)) ≡ closings_before s earlier (Client o at (Attach id))
unfolding closings
closed_was s earlier o at id e =
    rw e (close_by (is_among o (attached s earlier)) (nat_le (floor earlier o.0) o.1) (nat_lt o.1 (floor earlier o.0)) (if s.many_clients then [] else map Close (attached s earlier)) (Close o ∷ []) (lt_by o.1 (floor earlier o.0) (nat_le (floor earlier o.0) o.1) refl))

pub closings_was : (s : Settings) (x : Command) (earlier : List Command) → is_unnamed (x ∷ earlier) ≡ true → closings s earlier x ≡ closings_before s earlier x
unfolding closings
closings_was s (Client o at (Attach id)) earlier e = closed_was s earlier o at id (taken_was s earlier (Client o at (Attach id)) (first_unnamed (Client o at (Attach id)) earlier e))
closings_was s (Client o at Leave) earlier e = refl
closings_was s (Client o at (Say verb name text)) earlier e = refl
closings_was s (Client o at (Join c)) earlier e = refl
closings_was s (Client o at (Part c)) earlier e = refl
closings_was s (Client o at (Detach c)) earlier e = refl
closings_was s (Client o at (Reattach c)) earlier e = refl
closings_was s (Client o at (Play t)) earlier e = refl
closings_was s (Client o at (Clear t)) earlier e = refl
closings_was s (Client o at ClearChannels) earlier e = refl
closings_was s (Client o at ClearQueries) earlier e = refl
closings_was s (Client o at ClearAll) earlier e = refl
closings_was s (Client o at (SetBuffer t n)) earlier e = refl
closings_was s (Client o at (Pass line)) earlier e = refl
closings_was s (Upstream at line) earlier e = refl
closings_was s (NodeGone node boot) earlier e = refl
closings_was s Up earlier e = refl
closings_was s Down earlier e = refl

-- ---- what is shown

-- a channel that is attached again is shown to all in the same way
again_was : (s : Settings) (earlier : List Command) (os : List Origin) (own c : List ℕ) → is_unnamed earlier ≡ true → shown_again s earlier os own c ≡ again_before s earlier os own c
again_was s earlier os own c e =
    flat_same (λ p. show_all p (own_line own (codes "JOIN") (named s earlier c) ∷ playback_by s earlier (id_of s earlier p) (fold_name c))) (λ p. show_all p (own_line own (codes "JOIN") (named s earlier c) ∷ playback s earlier (fold_name c)))
    (λ p. ap (λ n. show_all p (own_line own (codes "JOIN") (named s earlier c) ∷ playback_by s earlier n (fold_name c))) (no_id s earlier p e)) os

attaching_was : (s : Settings) (earlier : List Command) (o : Origin) (at : ℕ) (id : Option (List ℕ)) → not (is_naming (Client o at (Attach id))) ≡ true → takes s earlier (Client o at (Attach id)) ≡ was_taken s earlier (Client o at (Attach id))
    → shown s earlier (Client o at (Attach id)) ≡ shown_before s earlier (Client o at (Attach id))
unfolding shown
attaching_was s earlier o at None f e = rw e refl
attaching_was s earlier o at (Some id) f e = cc

pub shown_was : (s : Settings) (x : Command) (earlier : List Command) → is_unnamed (x ∷ earlier) ≡ true → shown s earlier x ≡ shown_before s earlier x
unfolding shown
shown_was s (Client o at (Attach id)) earlier e =
    attaching_was s earlier o at id (first_unnamed (Client o at (Attach id)) earlier e) (taken_was s earlier (Client o at (Attach id)) (first_unnamed (Client o at (Attach id)) earlier e))
shown_was s (Client o at (Join c)) earlier e =
    ap (λ es. if is_among o (attached s earlier) then (if detached s earlier (fold_name c) then es else []) else []) (again_was s earlier (attached s earlier) (nick s earlier) c (rest_unnamed (Client o at (Join c)) earlier e))
shown_was s (Client o at (Reattach c)) earlier e =
    ap (λ es. if is_among o (attached s earlier) then (if not (is_channel_known s earlier c) then status (nick s earlier) o (codes "No such target.") else if detached s earlier (fold_name c) then es else []) else [])
    (again_was s earlier (attached s earlier) (nick s earlier) c (rest_unnamed (Client o at (Reattach c)) earlier e))
shown_was s (Client o at Leave) earlier e = refl
shown_was s (Client o at (Say verb name text)) earlier e = refl
shown_was s (Client o at (Part c)) earlier e = refl
shown_was s (Client o at (Detach c)) earlier e = refl
shown_was s (Client o at (Play t)) earlier e = refl
shown_was s (Client o at (Clear t)) earlier e = refl
shown_was s (Client o at ClearChannels) earlier e = refl
shown_was s (Client o at ClearQueries) earlier e = refl
shown_was s (Client o at ClearAll) earlier e = refl
shown_was s (Client o at (SetBuffer t n)) earlier e = refl
shown_was s (Client o at (Pass line)) earlier e = refl
shown_was s (Upstream at line) earlier e = refl
shown_was s (NodeGone node boot) earlier e = refl
shown_was s Up earlier e = refl
shown_was s Down earlier e = refl

pub effects_was : (s : Settings) (x : Command) (earlier : List Command) → is_unnamed (x ∷ earlier) ≡ true → effects s earlier x ≡ effects_before s earlier x
unfolding effects
effects_was s x earlier e = rw (closings_was s x earlier e, shown_was s x earlier e) refl

-- ---- attaching by a name

pushes_none : (s : Settings) (earlier : List Command) (t : List ℕ) (x : Command) → queries s (x ∷ earlier) ≡ queries s earlier → is_pushed_out s earlier t x ≡ false
unfolding is_pushed_out
pushes_none s earlier t x e = rw e (none_left (is_in t (queries s earlier)))
  where
    none_left : (b : Bool) → (b && not b) ≡ false
    none_left true = refl
    none_left false = refl

removes_by : (s : Settings) (earlier : List Command) (o : Origin) (at : ℕ) (given : Option (List ℕ)) (t : List ℕ) (c : Bool) → is_channel t ≡ c → removes_target s earlier t (Client o at (Attach given)) ≡ false
removes_by s earlier o at given t true e = removes-channel s earlier (Client o at (Attach given)) t e ∙ removed-is s earlier t (Client o at (Attach given))
removes_by s earlier o at given t false e =
    removes-query s earlier (Client o at (Attach given)) t e
    ∙ pushes_none s earlier t (Client o at (Attach given)) (same_names s earlier (Client o at (Attach given)) (nothing_new s earlier (Client o at (Attach given)) refl))

none_emptied : (a b p : Bool) → ((a && (b && false) && p) || false) ≡ false
none_emptied true true p = refl
none_emptied true false p = refl
none_emptied false b p = refl

pub named_empties : (s : Settings) (earlier : List Command) (o : Origin) (at : ℕ) (id t : List ℕ) → emptied s t earlier (Client o at (Attach (Some id))) ≡ false
unfolding emptied
named_empties s earlier o at id t =
    rw (removes_by s earlier o at (Some id) t (is_channel t) refl)
    (none_emptied (clears s t) (not (is_some_of (ids s earlier))) (plays (takes s earlier (Client o at (Attach (Some id)))) (attached s earlier) (is_channel t && detached s earlier t) t (is_known s earlier t) (Client o at (Attach (Some id)))))

pub named_keeps : (s : Settings) (earlier : List Command) (o : Origin) (at : ℕ) (id t : List ℕ) → kept s (Client o at (Attach (Some id)) ∷ earlier) t ≡ kept s earlier t
named_keeps s earlier o at id t =
    let same : size s t (Client o at (Attach (Some id)) ∷ earlier) ≡ size s t earlier = size-more s earlier (Client o at (Attach (Some id))) t ∙ rw (removes_by s earlier o at (Some id) t (is_channel t) refl) refl in
    kept-next s earlier (Client o at (Attach (Some id))) t
    ∙ rw (named_empties s earlier o at id t, unsaid s earlier (Client o at (Attach (Some id))) t refl, same) (next-quiet (size s t earlier) (kept s earlier t) (kept_fits s earlier t))
