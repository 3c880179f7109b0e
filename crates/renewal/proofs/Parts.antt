-- Where two machines hold the same, each part is the same.
use Rattle.std.proofs.Common.{◌≡◌, ℕ, List, [], ◌∷◌, map, refl, ap, ◌∙◌, sym, Bool, true, false, ◌||◌, drop}
use Rattle.std.specs.Prelude.{Option, Some, None, find, slice_index}
use Rattle.irc_line.specs.Keys.{at_key, is_in}
use Rattle.irc_line.specs.Lines.{Parts}
use Rattle.buffer_commands.specs.Settings.{Settings}
use Rattle.buffer_commands.specs.declared.command.Command.{Command}
use Rattle.buffer_targets.specs.Targets.{ChannelLines, TargetLines, channel_of_key, channel_names, query_names}
use Rattle.buffer_machine.specs.Answering.{target_of_key}
use Rattle.buffer_machine.specs.Buffers.{channels, detached, is_known, joined, kept, queries, size}
use Rattle.buffer_machine.specs.Crowd.{ids, is_id_in}
use Rattle.buffer_machine.specs.Held.{IsSound, channel_held, held, index_in, seen_held, target_held}
use Rattle.buffer_machine.specs.Marks.{seen, unseen}
use Rattle.buffer_machine.proofs.Found.{channel_under, channel-found}
use Rattle.buffer_machine.proofs.NameCount.{few_ids}
use Rattle.buffer_machine.proofs.Placing.{unseen_behind}
use Rattle.buffer_machine.proofs.SeenStep.{seen_unknown}
use Rattle.buffer_machine.proofs.Standing.{known-both}
use Rattle.buffer_machine.proofs.Standings.{for_known, for_unknown}
use Rattle.renewal.specs.Renewed.{Renewed}
use Rattle.renewal.proofs.Later.{SameFloors, found_of, means_the_same, target-is}

-- ---- names

channel_names-held : (s : Settings) (h : List Command) (cs : List (List ℕ)) → channel_names (map (channel_held s h) cs) ≡ cs
channel_names-held s h [] = refl
channel_names-held s h (c ∷ cs) = ap (λ xs. c ∷ xs) (channel_names-held s h cs)

query_names-held : (s : Settings) (h : List Command) (qs : List (List ℕ)) → query_names (map (target_held s h) qs) ≡ qs
query_names-held s h [] = refl
query_names-held s h (q ∷ qs) = ap (λ xs. q ∷ xs) (query_names-held s h qs)

channels-same : (s : Settings) (old new : List Command) → held s new ≡ held s old → channels s new ≡ channels s old
channels-same s old new e =
    sym (channel_names-held s new (channels s new)) ∙ (ap (λ h. channel_names h.channels) e ∙ channel_names-held s old (channels s old))

queries-same : (s : Settings) (old new : List Command) → held s new ≡ held s old → queries s new ≡ queries s old
queries-same s old new e =
    sym (query_names-held s new (queries s new)) ∙ (ap (λ h. query_names h.queries) e ∙ query_names-held s old (queries s old))

known-same : (s : Settings) (old new : List Command) (t : List ℕ) → held s new ≡ held s old → is_known s new t ≡ is_known s old t
known-same s old new t e =
    known-both s new t ∙ (ap (λ cs. is_in t cs || is_in t (queries s new)) (channels-same s old new e)
    ∙ (ap (λ qs. is_in t (channels s old) || is_in t qs) (queries-same s old new e) ∙ sym (known-both s old t)))

-- ---- what is kept of a target

abbrev lines_in : Option TargetLines → List (ℕ × Parts)
lines_in None = []
lines_in (Some t) = t.lines.lines

abbrev size_in : Option TargetLines → ℕ
size_in None = 0
size_in (Some t) = t.lines.size

abbrev unseen_in : ℕ → Option TargetLines → List (ℕ × Parts)
unseen_in i None = []
unseen_in i (Some t) = drop (slice_index t.seen i) t.lines.lines

kept_by : (s : Settings) (h : List Command) (k : List ℕ) (c q : Bool) → (c || q) ≡ true → lines_in (found_of s h k c q) ≡ kept s h k
kept_by s h k true q e = refl
kept_by s h k false true e = refl
kept_by s h k false false e = cc

size_by : (s : Settings) (h : List Command) (k : List ℕ) (c q : Bool) → (c || q) ≡ true → size_in (found_of s h k c q) ≡ size s k h
size_by s h k true q e = refl
size_by s h k false true e = refl
size_by s h k false false e = cc

seen_by : (s : Settings) (h : List Command) (id k : List ℕ) (b : Bool) → is_id_in id (ids s h) ≡ b → slice_index (seen_held s h k) (index_in id (ids s h)) ≡ seen s h id k
seen_by s h id k true e = for_known (λ i. seen s h i k) id 64 (ids s h) (few_ids s h) e
seen_by s h id k false e = for_unknown (λ i. seen s h i k) id 64 (ids s h) e ∙ sym (seen_unknown s h id k e)

dropped : (s : Settings) (h : List Command) (id k : List ℕ) → drop (slice_index (seen_held s h k) (index_in id (ids s h))) (kept s h k) ≡ unseen s h id k
dropped s h id k = ap (λ n. drop n (kept s h k)) (seen_by s h id k (is_id_in id (ids s h)) refl) ∙ sym (unseen_behind s h id k)

unseen_by : (s : Settings) (h : List Command) (id k : List ℕ) (c q : Bool) → (c || q) ≡ true → unseen_in (index_in id (ids s h)) (found_of s h k c q) ≡ unseen s h id k
unseen_by s h id k true q e = dropped s h id k
unseen_by s h id k false true e = dropped s h id k
unseen_by s h id k false false e = cc

known-now : (s : Settings) (h : List Command) (k : List ℕ) → is_known s h k ≡ true → (is_in k (channels s h) || is_in k (queries s h)) ≡ true
known-now s h k e = sym (known-both s h k) ∙ e

kept-held : (s : Settings) (h : List Command) (k : List ℕ) → is_known s h k ≡ true → lines_in (target_of_key k (held s h)) ≡ kept s h k
kept-held s h k e = ap lines_in (target-is s h k) ∙ kept_by s h k (is_in k (channels s h)) (is_in k (queries s h)) (known-now s h k e)

size-held : (s : Settings) (h : List Command) (k : List ℕ) → is_known s h k ≡ true → size_in (target_of_key k (held s h)) ≡ size s k h
size-held s h k e = ap size_in (target-is s h k) ∙ size_by s h k (is_in k (channels s h)) (is_in k (queries s h)) (known-now s h k e)

unseen-held : (s : Settings) (h : List Command) (id k : List ℕ) → is_known s h k ≡ true → unseen_in (index_in id (ids s h)) (target_of_key k (held s h)) ≡ unseen s h id k
unseen-held s h id k e =
    ap (unseen_in (index_in id (ids s h))) (target-is s h k) ∙ unseen_by s h id k (is_in k (channels s h)) (is_in k (queries s h)) (known-now s h k e)

-- ---- whether a channel is joined, and detached

abbrev joined_in : Option ChannelLines → Bool
joined_in None = false
joined_in (Some c) = c.joined

abbrev detached_in : Option ChannelLines → Bool
detached_in None = false
detached_in (Some c) = c.detached

found-here : (s : Settings) (h : List Command) (k : List ℕ) → is_in k (channels s h) ≡ true
    → channel_of_key k (held s h).channels ≡ Some (channel_under s h k (find (at_key k) (channels s h)))
found-here s h k e = channel-found s h k (channels s h) ∙ rw e refl

joined-held : (s : Settings) (h : List Command) (k : List ℕ) → is_in k (channels s h) ≡ true → joined_in (channel_of_key k (held s h).channels) ≡ joined s h k
joined-held s h k e = ap joined_in (found-here s h k e)

detached-held : (s : Settings) (h : List Command) (k : List ℕ) → is_in k (channels s h) ≡ true → detached_in (channel_of_key k (held s h).channels) ≡ detached s h k
detached-held s h k e = ap detached_in (found-here s h k e)

-- ---- all of it

pub is_renewed : (s : Settings) (old new : List Command) → IsSound s → SameFloors old new → held s new ≡ held s old → (held s new).clients ≡ [] → Renewed s old new
is_renewed s old new sound f e alone = record {
  gone = sym (ap (λ h. h.clients) e) ∙ alone;
  nobody = alone;
  floors = f;
  named = ap (λ h. h.nick) e;
  names = ap (λ h. h.names.ids) e;
  in_channels = channels-same s old new e;
  in_queries = queries-same s old new e;
  joining = λ c k. sym (joined-held s new c (ap (is_in c) (channels-same s old new e) ∙ k)) ∙ (ap (λ h. joined_in (channel_of_key c h.channels)) e ∙ joined-held s old c k);
  detaching = λ c k. sym (detached-held s new c (ap (is_in c) (channels-same s old new e) ∙ k)) ∙ (ap (λ h. detached_in (channel_of_key c h.channels)) e ∙ detached-held s old c k);
  sized = λ t k. sym (size-held s new t (known-same s old new t e ∙ k)) ∙ (ap (λ h. size_in (target_of_key t h)) e ∙ size-held s old t k);
  keeping = λ t k. sym (kept-held s new t (known-same s old new t e ∙ k)) ∙ (ap (λ h. lines_in (target_of_key t h)) e ∙ kept-held s old t k);
  unseen_by = λ id t k. sym (unseen-held s new id t (known-same s old new t e ∙ k)) ∙ (ap (λ h. unseen_in (index_in id h.names.ids) (target_of_key t h)) e ∙ unseen-held s old id t k);
  from_now_on = means_the_same s old new sound f e;
}
