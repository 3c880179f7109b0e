-- What is played back from what is held is what the definitions play back from the history.
use Rattle.std.proofs.Common.{◌≡◌, ℕ, List, [], ◌∷◌, ◌++◌, refl, ap, ◌∙◌, sym, Bool, true, false, ◌||◌, subst}
use Rattle.std.specs.Prelude.{Option, Some, None, if◌then◌else◌, find, unwrap_or, codes}
use Rattle.irc_line.specs.Names.{fold_name}
use Rattle.irc_line.specs.Keys.{at_key, is_in, are_rising}
use Rattle.irc_line.specs.Lines.{Parts}
use Rattle.irc_line.proofs.Order.{find-own, in-own}
use Rattle.buffer_lines.specs.Stamps.{framed}
use Rattle.buffer_targets.specs.Targets.{TargetLines, target}
use Rattle.wire_bytes.specs.declared.origin.Origin.{Origin}
use Rattle.buffer_commands.specs.Settings.{Settings}
use Rattle.buffer_commands.specs.declared.command.Command.{Command}
use Rattle.buffer_machine.specs.Buffers.{channels, queries, targets, is_known, made_as, kept, playback, size}
use Rattle.buffer_machine.specs.Effects.{show_all, status}
use Rattle.std.proofs.Common.{drop}
use Rattle.std.specs.Prelude.{slice_index}
use Rattle.buffer_lines.specs.Stamps.{ring}
use Rattle.buffer_machine.specs.Crowd.{ids, is_id_in}
use Rattle.buffer_machine.specs.Marks.{playback_by, playback_for, seen, unseen}
use Rattle.buffer_machine.proofs.Holders.{place}
use Rattle.buffer_machine.proofs.Placing.{unseen_behind}
use Rattle.buffer_machine.proofs.SeenStep.{seen_unknown}
use Rattle.buffer_machine.proofs.Standings.{for_known, for_unknown}
use Rattle.buffer_machine.proofs.NameCount.{few_ids}
use Rattle.buffer_machine.specs.Answering.{played_by as played_to, standing, played_of, first_some, target_of_key, played_or_status, done_or_status}
use Rattle.buffer_machine.specs.Held.{Held, IsSound, held, index_in, seen_held}
use Rattle.buffer_machine.proofs.Names.{find-append, find-different}
use Rattle.buffer_machine.proofs.Standing.{channels-rise, queries-differ, known-both}
use Rattle.buffer_machine.proofs.Found.{channel_under, target_under, channel-found, query-found}
use Rattle.buffer_targets.specs.Places.{are_different}

made-both : (s : Settings) (history : List Command) (k : List ℕ)
    → made_as s history k ≡ unwrap_or (if is_in k (channels s history) then find (at_key k) (channels s history) else find (at_key k) (queries s history)) k
unfolding made_as targets
made-both s history k = ap (λ o. unwrap_or o k) (find-append k (channels s history) (queries s history))

-- the playback of a key, by whether it is a channel or a query
pub playback-both : (s : Settings) (history : List Command) (k : List ℕ)
    → playback s history k
    ≡ (if is_in k (channels s history) || is_in k (queries s history)
    then framed s.offset (unwrap_or (if is_in k (channels s history) then find (at_key k) (channels s history) else find (at_key k) (queries s history)) k) (kept s history k) else [])
unfolding playback
playback-both s history k = rw (known-both s history k, made-both s history k) refl

-- what is played of a target to a client: all that is kept, or what its name has not seen
abbrev pub lines_by : Settings → List Command → Option (List ℕ) → List ℕ → List (ℕ × Parts)
lines_by s history None k = kept s history k
lines_by s history (Some id) k = unseen s history id k

made_played : (s : Settings) (history : List Command) (n : Option (List ℕ)) (k : List ℕ) → playback_by s history n k ≡ (if is_known s history k then framed s.offset (made_as s history k) (lines_by s history n k) else [])
unfolding playback playback_for
made_played s history None k = refl
made_played s history (Some id) k = refl

pub played_by-both : (s : Settings) (history : List Command) (n : Option (List ℕ)) (k : List ℕ)
    → playback_by s history n k
    ≡ (if is_in k (channels s history) || is_in k (queries s history)
    then framed s.offset (unwrap_or (if is_in k (channels s history) then find (at_key k) (channels s history) else find (at_key k) (queries s history)) k) (lines_by s history n k) else [])
played_by-both s history n k = made_played s history n k ∙ rw (known-both s history k, made-both s history k) refl

-- a channel is played to a client
pub played_by-channel : (s : Settings) → IsSound s → (history : List Command) (n : Option (List ℕ)) (front : List (List ℕ)) (c : List ℕ) (back : List (List ℕ)) → channels s history ≡ front ++ c ∷ back
    → playback_by s history n (fold_name c) ≡ framed s.offset c (lines_by s history n (fold_name c))
played_by-channel s sound history n front c back e =
    let here : is_in (fold_name c) (channels s history) ≡ true = subst (λ cs. is_in (fold_name c) cs ≡ true) (sym e) (in-own front c back) in
    let own : find (at_key (fold_name c)) (channels s history) ≡ Some c = subst (λ cs. find (at_key (fold_name c)) cs ≡ Some c) (sym e) (find-own front c back (subst (λ cs. are_rising cs ≡ true) e (channels-rise s sound history))) in
    played_by-both s history n (fold_name c) ∙ rw (here, own) refl

-- a query is played to a client
pub played_by-query : (s : Settings) (history : List Command) (n : Option (List ℕ)) (front : List (List ℕ)) (q : List ℕ) (back : List (List ℕ)) → queries s history ≡ front ++ q ∷ back → is_in (fold_name q) (channels s history) ≡ false
    → playback_by s history n (fold_name q) ≡ framed s.offset q (lines_by s history n (fold_name q))
played_by-query s history n front q back e u =
    let here : is_in (fold_name q) (queries s history) ≡ true = subst (λ cs. is_in (fold_name q) cs ≡ true) (sym e) (in-own front q back) in
    let own : find (at_key (fold_name q)) (queries s history) ≡ Some q = subst (λ cs. find (at_key (fold_name q)) cs ≡ Some q) (sym e) (find-different front q back (subst (λ cs. are_different cs ≡ true) e (queries-differ s history))) in
    played_by-both s history n (fold_name q) ∙ rw (u, here, own) refl

seen_by : (s : Settings) (history : List Command) (id k : List ℕ) (b : Bool) → is_id_in id (ids s history) ≡ b → slice_index (seen_held s history k) (index_in id (ids s history)) ≡ seen s history id k
seen_by s history id k true e = for_known (λ i. seen s history i k) id 64 (ids s history) (few_ids s history) e
seen_by s history id k false e = for_unknown (λ i. seen s history i k) id 64 (ids s history) e ∙ sym (seen_unknown s history id k e)

-- what is held determines what a name has not seen
pub played-lines : (s : Settings) (history : List Command) (n : Option (List ℕ)) (k name : List ℕ) → played_to s.offset (place (ids s history) n) (target name (ring (kept s history k) (size s k history)) (seen_held s history k)) ≡ framed s.offset name (lines_by s history n k)
played-lines s history None k name = refl
played-lines s history (Some id) k name =
    ap (framed s.offset name) (ap (λ m. drop m (kept s history k)) (seen_by s history id k (is_id_in id (ids s history)) refl) ∙ sym (unseen_behind s history id k))

pub standing-is : (n : Option (List ℕ)) (is : List (List ℕ)) → standing n is ≡ place is n
standing-is None is = refl
standing-is (Some id) is = refl

-- for a channel
pub playback-channel : (s : Settings) → IsSound s → (history : List Command) (front : List (List ℕ)) (c : List ℕ) (back : List (List ℕ)) → channels s history ≡ front ++ c ∷ back
    → playback s history (fold_name c) ≡ framed s.offset c (kept s history (fold_name c))
playback-channel s sound history front c back e =
    let here : is_in (fold_name c) (channels s history) ≡ true = subst (λ cs. is_in (fold_name c) cs ≡ true) (sym e) (in-own front c back) in
    let own : find (at_key (fold_name c)) (channels s history) ≡ Some c = subst (λ cs. find (at_key (fold_name c)) cs ≡ Some c) (sym e) (find-own front c back (subst (λ cs. are_rising cs ≡ true) e (channels-rise s sound history))) in
    playback-both s history (fold_name c) ∙ rw (here, own) refl

-- for a query
pub playback-query : (s : Settings) (history : List Command) (front : List (List ℕ)) (q : List ℕ) (back : List (List ℕ)) → queries s history ≡ front ++ q ∷ back → is_in (fold_name q) (channels s history) ≡ false
    → playback s history (fold_name q) ≡ framed s.offset q (kept s history (fold_name q))
playback-query s history front q back e u =
    let here : is_in (fold_name q) (queries s history) ≡ true = subst (λ cs. is_in (fold_name q) cs ≡ true) (sym e) (in-own front q back) in
    let own : find (at_key (fold_name q)) (queries s history) ≡ Some q = subst (λ cs. find (at_key (fold_name q)) cs ≡ Some q) (sym e) (find-different front q back (subst (λ cs. are_different cs ≡ true) e (queries-differ s history))) in
    playback-both s history (fold_name q) ∙ rw (u, here, own) refl

-- ---- the target of a key

target-found : (s : Settings) (history : List Command) (k : List ℕ)
    → target_of_key k (held s history)
    ≡ first_some (if is_in k (channels s history) then Some (channel_under s history k (find (at_key k) (channels s history))) else None)
    (if is_in k (queries s history) then Some (target_under s history k (find (at_key k) (queries s history))) else None)
target-found s history k =
    rw (channel-found s history k (channels s history), query-found s history k (queries s history)) refl

abbrev found_by : Settings → List Command → List ℕ → Bool → Bool → Option TargetLines
found_by s history k c q =
    first_some (if c then Some (channel_under s history k (find (at_key k) (channels s history))) else None)
    (if q then Some (target_under s history k (find (at_key k) (queries s history))) else None)

abbrev played_by : Settings → List Command → List ℕ → Bool → Bool → List Parts
played_by s history k c q =
    if c || q then framed s.offset (unwrap_or (if c then find (at_key k) (channels s history) else find (at_key k) (queries s history)) k) (kept s history k) else []

status_by : (s : Settings) (history : List Command) (o : Origin) (k : List ℕ) (c q : Bool)
    → played_or_status s (held s history) o (found_by s history k c q) ≡ (if c || q then show_all o (played_by s history k c q) else status (held s history).nick o (codes "No such target."))
status_by s history o k true q = refl
status_by s history o k false true = refl
status_by s history o k false false = refl

-- the answer to a client that asks for a target
pub asked-is : (s : Settings) (history : List Command) (o : Origin) (k : List ℕ)
    → played_or_status s (held s history) o (target_of_key k (held s history)) ≡ (if is_known s history k then show_all o (playback s history k) else status (held s history).nick o (codes "No such target."))
asked-is s history o k =
    ap (played_or_status s (held s history) o) (target-found s history k)
    ∙ (status_by s history o k (is_in k (channels s history)) (is_in k (queries s history))
    ∙ rw (known-both s history k, playback-both s history k) refl)

done_by : (s : Settings) (history : List Command) (o : Origin) (k : List ℕ) (c q : Bool)
    → done_or_status (held s history) o (found_by s history k c q) ≡ status (held s history).nick o (if c || q then codes "Done." else codes "No such target.")
done_by s history o k true q = refl
done_by s history o k false true = refl
done_by s history o k false false = refl

pub done-is : (s : Settings) (history : List Command) (o : Origin) (k : List ℕ)
    → done_or_status (held s history) o (target_of_key k (held s history)) ≡ status (held s history).nick o (if is_known s history k then codes "Done." else codes "No such target.")
done-is s history o k =
    ap (done_or_status (held s history) o) (target-found s history k) ∙ (done_by s history o k (is_in k (channels s history)) (is_in k (queries s history)) ∙ rw (known-both s history k) refl)

found_played : (s : Settings) (history : List Command) (k : List ℕ) (c q : Bool) → played_of s.offset (found_by s history k c q) ≡ played_by s history k c q
found_played s history k true q = refl
found_played s history k false true = refl
found_played s history k false false = refl

pub played-is : (s : Settings) (history : List Command) (k : List ℕ) → played_of s.offset (target_of_key k (held s history)) ≡ playback s history k
played-is s history k =
    ap (played_of s.offset) (target-found s history k) ∙ (found_played s history k (is_in k (channels s history)) (is_in k (queries s history)) ∙ sym (playback-both s history k))

pub played-held : (s : Settings) (history : List Command) (k : List ℕ) (b : Held) → b ≡ held s history → played_of s.offset (target_of_key k b) ≡ playback s history k
played-held s history k b e = ap (λ h. played_of s.offset (target_of_key k h)) e ∙ played-is s history k
