-- What nobody sees, and what was played and kept, by whether any name is known.
use Rattle.std.proofs.Common.{◌≡◌, ℕ, ◌≤◌, Bool, true, false, not, List, [], ◌∷◌, length, take, refl, sym, ap, arith}
use Rattle.std.specs.Prelude.{if◌then◌else◌, replicate, map, Option, Some, None}
use Rattle.irc_line.specs.Lines.{Parts}
use Rattle.buffer_targets.specs.Targets.{ChannelLines, TargetLines, at_channel, at_query, cleared, has_key, has_name_key, open_seen, over, pushed, reader, seen_all, channel_of_key, with_detached}
use Rattle.wire_bytes.specs.declared.origin.Origin.{Origin}
use Rattle.buffer_commands.specs.Settings.{Settings}
use Rattle.buffer_machine.specs.Crowd.{is_some_of}
use Rattle.buffer_machine.specs.Held.{Held, Names, holding}
use Rattle.buffer_machine.specs.Steps.{after_play, attached_again, is_detached, kept_in, clears_now, played_emptied, played_out, played_seen, reader_at, reader_of}
use Rattle.buffer_machine.specs.NameSteps.{here_of, here_from, index_of}
use Rattle.buffer_machine.proofs.Readers.{flags_none, flags_taken}

-- ---- what nobody sees

pub seen_by_none : (t : TargetLines) → seen_all [] t ≡ t
seen_by_none t = refl

pub channels_by_none : (key : List ℕ) (cs : List ChannelLines) → at_channel key (over (seen_all [])) cs ≡ cs
channels_by_none key [] = refl
channels_by_none key (c ∷ cs) = same_first (has_key key c) c (at_channel key (over (seen_all [])) cs) cs (channels_by_none key cs)
  where
    same_first : (b : Bool) (c : ChannelLines) (xs ys : List ChannelLines) → xs ≡ ys → (if b then over (seen_all []) c else c) ∷ xs ≡ c ∷ ys
    same_first true c xs ys e = ap (λ zs. c ∷ zs) e
    same_first false c xs ys e = ap (λ zs. c ∷ zs) e

pub queries_by_none : (key : List ℕ) (ts : List TargetLines) → at_query key (seen_all []) ts ≡ ts
queries_by_none key [] = refl
queries_by_none key (t ∷ ts) = same_first (has_name_key key t) t (at_query key (seen_all []) ts) ts (queries_by_none key ts)
  where
    same_first : (b : Bool) (t : TargetLines) (xs ys : List TargetLines) → xs ≡ ys → (if b then seen_all [] t else t) ∷ xs ≡ t ∷ ys
    same_first true t xs ys e = ap (λ zs. t ∷ zs) e
    same_first false t xs ys e = ap (λ zs. t ∷ zs) e

pub all_by_none : (ts : List TargetLines) → map (seen_all []) ts ≡ ts
all_by_none [] = refl
all_by_none (t ∷ ts) = ap (λ zs. t ∷ zs) (all_by_none ts)

pub open_by_none : (cs : List ChannelLines) → open_seen [] cs ≡ cs
open_by_none [] = refl
open_by_none (c ∷ cs) = same_first c.detached c (open_seen [] cs) cs (open_by_none cs)
  where
    same_first : (b : Bool) (c : ChannelLines) (xs ys : List ChannelLines) → xs ≡ ys → (if b then c else over (seen_all []) c) ∷ xs ≡ c ∷ ys
    same_first true c xs ys e = ap (λ zs. c ∷ zs) e
    same_first false c xs ys e = ap (λ zs. c ∷ zs) e

-- if no name is known, no reader is here
pub here_none : (hs : List (Origin × ℕ)) (ids : List (List ℕ)) → not (is_some_of ids) ≡ true → here_from 0 hs ids ≡ []
here_none hs [] e = refl
here_none hs (x ∷ xs) e = cc

-- ---- what was played of a target

-- while no name is known, a target that is played is emptied where the setup says so
pub played_emptied_channel : (clears : Bool) (names : Names) (key : List ℕ) (cs : List ChannelLines) → not (is_some_of names.ids) ≡ true
    → (if clears then at_channel key (over cleared) cs else cs) ≡ at_channel key (over (after_play (clears_now clears names) [])) cs
played_emptied_channel true names key cs e = rw e refl
played_emptied_channel false names key cs e = sym (channels_by_none key cs)

pub played_emptied_query : (clears : Bool) (names : Names) (key : List ℕ) (ts : List TargetLines) → not (is_some_of names.ids) ≡ true
    → (if clears then at_query key cleared ts else ts) ≡ at_query key (after_play (clears_now clears names) []) ts
played_emptied_query true names key ts e = rw e refl
played_emptied_query false names key ts e = sym (queries_by_none key ts)

pub no_clearing : (clears : Bool) (names : Names) → not (is_some_of names.ids) ≡ false → clears_now clears names ≡ false
no_clearing true names e = e
no_clearing false names e = refl

pub emptied_is : (s : Settings) (o : Origin) (key : List ℕ) (h : Held) → not (is_some_of h.names.ids) ≡ true → h.names.holders ≡ [] → played_emptied s key h ≡ played_out s o key h
emptied_is s o key h n e =
    let nobody : reader_of o h.names ≡ [] = ap (λ hs. reader_at (index_of o hs)) e in
    rw (nobody, played_emptied_channel s.clears_channels h.names key h.channels n, played_emptied_query s.clears_queries h.names key h.queries n) refl

pub seen_is : (s : Settings) (o : Origin) (key : List ℕ) (h : Held) (i : ℕ) → not (is_some_of h.names.ids) ≡ false → index_of o h.names.holders ≡ Some i → played_seen (reader i) key h ≡ played_out s o key h
seen_is s o key h i n e = rw (no_clearing s.clears_channels h.names n, no_clearing s.clears_queries h.names n, e) refl

pub unseen_is : (s : Settings) (o : Origin) (key : List ℕ) (h : Held) → not (is_some_of h.names.ids) ≡ false → index_of o h.names.holders ≡ None → h ≡ played_out s o key h
unseen_is s o key h n e =
    rw (no_clearing s.clears_channels h.names n, no_clearing s.clears_queries h.names n, e, channels_by_none key h.channels, queries_by_none key h.queries) refl

-- ---- a line that is kept

pub kept_open : (key : List ℕ) (line : ℕ × Parts) (h : Held) (cs : List ChannelLines) (here : List Bool) → is_detached (channel_of_key key h.channels) ≡ false → here ≡ here_of h.names
    → cs ≡ at_channel key (over (pushed line here)) h.channels → holding h.nick h.clients h.names cs h.queries ≡ kept_in key line h
kept_open key line h cs here d e f = rw (f, e, d) refl

pub kept_hidden : (key : List ℕ) (line : ℕ × Parts) (h : Held) (cs : List ChannelLines) (here : List Bool) → is_detached (channel_of_key key h.channels) ≡ true → here ≡ here_from 0 [] h.names.ids
    → cs ≡ at_channel key (over (pushed line here)) h.channels → holding h.nick h.clients h.names cs h.queries ≡ kept_in key line h
kept_hidden key line h cs here d e f = rw (f, e, d) refl

pub nobody_taken : (n : ℕ) (ids : List (List ℕ)) → n ≡ length ids → n ≤ 64 → take n (replicate 64 false) ≡ here_from 0 [] ids
nobody_taken n ids e h =
    let few : length ids ≤ 64 = omega (arith, e, h) in
    rw (e, ← flags_none 0 64) (flags_taken 0 64 [] ids few)

-- a channel attached again, by whether any name is known
pub again_known : (clears : Bool) (names : Names) (key : List ℕ) (cs seen : List ChannelLines) (found : Option ChannelLines) → is_detached found ≡ true → not (is_some_of names.ids) ≡ false
    → seen ≡ at_channel key (over (seen_all (here_of names))) (at_channel key (with_detached false) cs) → seen ≡ attached_again clears names key cs found
again_known clears names key cs seen found d n e = rw (d, no_clearing clears names n, e) refl

pub again_cleared : (names : Names) (key : List ℕ) (cs cleared_now : List ChannelLines) (found : Option ChannelLines) → is_detached found ≡ true → not (is_some_of names.ids) ≡ true
    → cleared_now ≡ at_channel key (over cleared) (at_channel key (with_detached false) cs) → cleared_now ≡ attached_again true names key cs found
again_cleared names key cs cleared_now found d n e = rw (d, n, e) refl

pub again_kept : (names : Names) (key : List ℕ) (cs kept_now : List ChannelLines) (found : Option ChannelLines) → is_detached found ≡ true → not (is_some_of names.ids) ≡ true
    → kept_now ≡ at_channel key (with_detached false) cs → kept_now ≡ attached_again false names key cs found
again_kept names key cs kept_now found d n e =
    rw (d, here_none names.holders names.ids n, e) (sym (channels_by_none key (at_channel key (with_detached false) cs)))
