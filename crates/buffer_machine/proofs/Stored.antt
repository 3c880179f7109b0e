-- What a line does to the channel and the query that it is for, by the channel that it names.
use Rattle.std.proofs.Common.{◌≡◌, ℕ, Bool, true, false, not, ◌&&◌, ◌||◌, List, refl, sym, ap, subst, ◌∙◌}
use Rattle.std.specs.Prelude.{if◌then◌else◌, Option, Some, None, is_some, codes}
use Rattle.irc_line.specs.Names.{fold_name, is_name}
use Rattle.irc_line.specs.Lines.{Parts, parameter}
use Rattle.irc_line.proofs.Booleans.{and_left, and_right, or_second}
use Rattle.buffer_targets.specs.Targets.{StandsAt, TargetLines, at_channel, over, pushed, query_stored}
use Rattle.buffer_targets.proofs.ChannelEdits.{none_set}
use Rattle.buffer_commands.specs.Settings.{Settings}
use Rattle.buffer_machine.specs.Buffers.{keeps, nick_after}
use Rattle.buffer_commands.specs.declared.command.Command.TheVariants.{Upstream}
use Rattle.buffer_machine.specs.Held.{Held, holding}
use Rattle.buffer_machine.specs.Messages.{channel_of, has_command, is_new_nick, is_query_line, is_query_name, is_storable, names_first, source}
use Rattle.buffer_machine.specs.Steps.{HasPlace, channels_storing, channels_taking, storing, found, is_detached, kept_in, with_channels, queries_storing, stores_in_channel, stores_in_query, with_queries}
use Rattle.buffer_machine.specs.NameSteps.{here_in, here_of}

named_by : (j p k t m a b : Bool) → (a || b) ≡ true → (j || (p || (k || (t || (m || (a || (b || false))))))) ≡ true
named_by j p k t m true b e = or_second j _ (or_second p _ (or_second k _ (or_second t _ (or_second m _ refl))))
named_by j p k t m false true e = or_second j _ (or_second p _ (or_second k _ (or_second t _ (or_second m _ refl))))
named_by j p k t m false false e = cc

first_by : (b : Bool) (xs ys : List ℕ) → b ≡ true → (if b then xs else ys) ≡ xs
first_by true xs ys e = refl
first_by false xs ys e = cc

-- a message names its channel first
channel-of-storable : (line : Parts) → is_storable line ≡ true → channel_of line ≡ parameter 0 line
channel-of-storable line e =
    first_by (names_first line) (parameter 0 line) _ (named_by (has_command (codes "JOIN") line) (has_command (codes "PART") line) (has_command (codes "KICK") line) (has_command (codes "TOPIC") line) (has_command (codes "MODE") line) (has_command (codes "PRIVMSG") line) (has_command (codes "NOTICE") line) (and_left _ _ (and_left _ _ e)))

stored_by : {A : Type 0} (b k l : Bool) (x z y : A) → (b ≡ true → k ≡ l) → (b ≡ true → x ≡ z) → (if b then (if k then x else y) else y) ≡ (if b && l then z else y)
stored_by true k l x z y f g = rw (f refl, g refl) refl
stored_by false k l x z y f g = refl

channels-stored : (s : Settings) (h : Held) (at : ℕ) (line : Parts)
    → channels_storing s h (Some (at, line)) ≡ (if stores_in_channel s h line then at_channel (fold_name (channel_of line)) (over (pushed (at, line) (here_in h.names (is_detached (found (channel_of line) h))))) h.channels else h.channels)
channels-stored s h at line =
    stored_by (is_storable line) (keeps s.clears_channels h.clients h.names.ids || is_detached (found (parameter 0 line) h)) (keeps s.clears_channels h.clients h.names.ids || is_detached (found (channel_of line) h))
    (at_channel (fold_name (parameter 0 line)) (over (pushed (at, line) (here_in h.names (is_detached (found (parameter 0 line) h))))) h.channels) (at_channel (fold_name (channel_of line)) (over (pushed (at, line) (here_in h.names (is_detached (found (channel_of line) h))))) h.channels) h.channels
    (λ e. ap (λ n. keeps s.clears_channels h.clients h.names.ids || is_detached (found n h)) (sym (channel-of-storable line e)))
    (λ e. ap (λ n. at_channel (fold_name n) (over (pushed (at, line) (here_in h.names (is_detached (found n h))))) h.channels) (sym (channel-of-storable line e)))

both_by : (b k l m n : Bool) → (b ≡ true → k ≡ l) → (b && k && m && n) ≡ (b && l && m && n)
both_by true k l m n f = rw (f refl) refl
both_by false k l m n f = refl

query-stored-where : (s : Settings) (h : Held) (line : Parts)
    → (is_storable line && not (is_some (found (parameter 0 line) h)) && keeps s.clears_queries h.clients h.names.ids && is_query_line h.nick line) ≡ stores_in_query s h line
query-stored-where s h line =
    both_by (is_storable line) (not (is_some (found (parameter 0 line) h))) (not (is_some (found (channel_of line) h))) (keeps s.clears_queries h.clients h.names.ids) (is_query_line h.nick line)
    (λ e. ap (λ n. not (is_some (found n h))) (sym (channel-of-storable line e)))

if_by : {A : Type 0} (b : Bool) (x y : A) → b ≡ true → x ≡ (if b then x else y)
if_by true x y e = refl
if_by false x y e = cc

if_not_by : {A : Type 0} (b : Bool) (x y : A) → b ≡ false → y ≡ (if b then x else y)
if_not_by true x y e = cc
if_not_by false x y e = refl

if_same : {A : Type 0} (b : Bool) (x y : A) → y ≡ x → y ≡ (if b then x else y)
if_same true x y e = e
if_same false x y e = refl

-- storing in queries leaves the channels in their places
pub still-placed : (h i : Held) (line : Parts) (place : Option ℕ) (ts : List TargetLines) → i ≡ with_queries h ts → HasPlace line h place → HasPlace line i place
still-placed h i line place ts e stands = subst (λ cs. StandsAt (fold_name (channel_of line)) cs place) (sym (ap (λ g. g.channels) e)) stands

module _ (s : Settings) (h : Held) (at : ℕ) (line : Parts) where
  -- the channel that a line names stores it, or does not, or is unknown
  pub line-stored : (b : Bool) (g : Held) → b ≡ stores_in_channel s h line → b ≡ true → g ≡ kept_in (fold_name (channel_of line)) (at, line) h → g ≡ with_channels h (channels_storing s h (Some (at, line)))
  line-stored b g e t k =
      k ∙ ap (with_channels h) (if_by (stores_in_channel s h line) (at_channel (fold_name (channel_of line)) (over (pushed (at, line) (here_in h.names (is_detached (found (channel_of line) h))))) h.channels) h.channels (sym e ∙ t) ∙ sym (channels-stored s h at line))

  pub line-unstored : (b : Bool) → b ≡ stores_in_channel s h line → b ≡ false → h.channels ≡ channels_storing s h (Some (at, line))
  line-unstored b e t = if_not_by (stores_in_channel s h line) _ h.channels (sym e ∙ t) ∙ sym (channels-stored s h at line)

  pub line-unplaced : (place : Option ℕ) → HasPlace line h place → is_some place ≡ false → h.channels ≡ channels_storing s h (Some (at, line))
  line-unplaced (Some p) stands e = cc
  line-unplaced None stands e =
      if_same (stores_in_channel s h line) _ h.channels (none_set (fold_name (channel_of line)) h.channels stands (over (pushed (at, line) (here_in h.names (is_detached (found (channel_of line) h)))))) ∙ sym (channels-stored s h at line)

  -- a query stores it, or does not
  pub query-stored : (b : Bool) → b ≡ stores_in_query s h line → b ≡ true → query_stored s.most_queries s.query_size (source line) (at, line) (here_of h.names) h.queries ≡ queries_storing s h (Some (at, line))
  query-stored b e t = if_by _ _ h.queries (query-stored-where s h line ∙ (sym e ∙ t))

  pub query-unstored : (b : Bool) → b ≡ stores_in_query s h line → b ≡ false → h.queries ≡ queries_storing s h (Some (at, line))
  query-unstored b e t = if_not_by _ (query_stored s.most_queries s.query_size (source line) (at, line) (here_of h.names) h.queries) h.queries (query-stored-where s h line ∙ (sym e ∙ t))

  pub sender-named : (b : Bool) → b ≡ stores_in_query s h line → b ≡ true → is_name (source line) ≡ true
  sender-named b e t =
      and_left _ _ (and_right _ (is_query_name (source line)) (and_right _ (is_query_line h.nick line) (sym e ∙ t)))

-- a line stored in a query, then in a channel
pub both-stored : (s : Settings) (h i j : Held) (line : ℕ × Parts) → i ≡ holding h.nick h.clients h.names h.channels (queries_storing s h (Some line)) → j ≡ holding i.nick i.clients i.names (channels_storing s i (Some line)) i.queries
    → j ≡ storing s h (Some line)
both-stored s h i j line e f = f ∙ rw e refl

-- a line taken: in a query, for a channel, and for the own nick
pub line-taken : (s : Settings) (h i j : Held) (at : ℕ) (line : Parts) (nick : List ℕ) → i ≡ holding h.nick h.clients h.names h.channels (queries_storing s h (Some (at, line))) → j ≡ holding i.nick i.clients i.names (channels_taking s i at line) i.queries
    → nick ≡ (if is_new_nick j.nick line then parameter 0 line else j.nick)
    → holding nick j.clients j.names j.channels j.queries ≡ holding (nick_after h.nick (Upstream at line)) h.clients h.names (channels_taking s h at line) (queries_storing s h (Some (at, line)))
line-taken s h i j at line nick e f g = rw (g, f, e) refl
