-- No channel is joined after a new list.
use Rattle.std.proofs.Common.{◌≡◌, ℕ, List, [], ◌∷◌, ◌++◌, map, refl, ap, ◌∙◌, sym, Bool, false}
use Rattle.std.specs.Prelude.{filter}
use Rattle.irc_line.specs.Keys.{is_in}
use Rattle.buffer_commands.specs.Settings.{Settings}
use Rattle.buffer_commands.specs.declared.command.Command.{Command}
use Rattle.buffer_targets.specs.Targets.{ChannelLines, unjoined}
use Rattle.buffer_machine.specs.Buffers.{joined}
use Rattle.buffer_machine.specs.Held.{Held, held}
use Rattle.renewal.specs.Lists.{joined_names}
use Rattle.renewal.specs.Moved.{added, before, channel_moved, goes, is_staying, key_of, merged, moved, not_before}
use Rattle.renewal.proofs.LastLive.{in-held}

none_new : (size : ℕ) (ns : List (List ℕ)) (cs : List ChannelLines) → filter (λ c. c.joined) cs ≡ [] → filter (λ c. c.joined) (unjoined size ns ++ cs) ≡ []
none_new size [] cs e = e
none_new size (n ∷ ns) cs e = none_new size ns cs e

none_in : (size old new : ℕ) (gone : List Bool) (ns : List (List ℕ)) (cs : List ChannelLines) → filter (λ c. c.joined) (merged size ns (map (channel_moved old new gone) cs)) ≡ []
none_in size old new gone [] [] = refl
none_in size old new gone (n ∷ ns) [] = none_in size old new gone ns []
none_in size old new gone ns (c ∷ cs) =
    none_new size (before (key_of c) ns) (channel_moved old new gone c ∷ merged size (not_before (key_of c) ns) (map (channel_moved old new gone) cs))
    (none_in size old new gone (not_before (key_of c) ns) cs)

pub unjoined_anew : (s t : Settings) (forgotten : List (List ℕ)) (was : List ℕ → Bool) (h : Held) (after : List Command) → held t after ≡ moved s t forgotten was h
    → (c : List ℕ) → joined t after c ≡ false
unjoined_anew s t forgotten was h after e = λ c.
    sym (in-held t after c)
    ∙ (ap (λ l. is_in c (joined_names l.channels)) e
    ∙ ap (λ cs. is_in c (map (λ d. d.target.name) cs)) (none_in t.channel_size s.channel_size t.channel_size (goes forgotten h.names.ids) (added s t h.channels) (filter (is_staying s t was) h.channels)))
