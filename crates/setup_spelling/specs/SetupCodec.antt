-- Setups are a codec. These lemmas need not be trusted.
use Rattle.std.proofs.Common.{◌≡◌, ℕ, ◌^◌, zero, suc, ◌≤◌, Bool, true, false, List, [], ◌∷◌, ◌++◌, length, drop, Option, Some, None, IsTrue, refl, sym, ap, subst, ◌∙◌, arith}
use Rattle.std.specs.Prelude.{◌&&◌, nat_le}
use Rattle.std.specs.Int.{w16}
use Rattle.std.specs.List.{list_all}
use Rattle.std.proofs.lemmas.Bool.Decides.{nat_tests}
use Rattle.irc_line.specs.Keys.{are_rising, is_below_all}
use Rattle.irc_line.specs.Names.{is_channel, is_name}
use Rattle.irc_line.proofs.Booleans.{and_left, and_right}
use Rattle.wire_bytes.specs.Fields.{Reading, both, byte_within, truth, truth_byte, through}
use Rattle.wire_bytes.specs.Codecs.{IsCodec, both-codec, done-codec, only-codec, then-codec, through-codec}
use Rattle.wire_bytes.specs.FieldCodecs.{byte-codec, number-codec, truth_is_codec, wide16}
use Rattle.wire_bytes.specs.ContentCodecs.{name_is_codec, sized_some}
use Rattle.wire_bytes.specs.Contents.{name, sized}
use Rattle.buffer_commands.specs.ActionCodec.{channel_is_codec}
use Rattle.buffer_commands.specs.Settings.{are_channels}
use Rattle.buffer_commands.specs.Spellings.{FitsChannel, channel_name}
use Rattle.setup_spelling.specs.Spelling.{FitOptions, FitsSetup, SetupFields, channel_after, channels, channels_after, is_after, line_count, offset_minutes, options_in, options_taken, query_count, settings, setup_taken, spelled_channels, spelled_names, spelled_options, spelled_setup, spelled_short}
use Rattle.buffer_commands.specs.Settings.{channel_limit, query_limit, size_limit}

-- ---- numbers

pub line_count_is_codec : IsCodec spelled_short (λ n. n ≤ size_limit) line_count
unfolding line_count spelled_short
line_count_is_codec = number-codec w16 (2 ^ 16) size_limit wide16 (omega arith)

pub offset_is_codec : IsCodec spelled_short (λ n. n ≤ 2878) offset_minutes
unfolding offset_minutes spelled_short
offset_is_codec = number-codec w16 (2 ^ 16) 2878 wide16 (omega arith)

-- ---- channels

all_true : (a b : Bool) → IsTrue a → IsTrue b → IsTrue (a && b)
all_true true true h k = refl
all_true true false h k = k
all_true false b h k = h

-- these rise, and come after the name before them, if there is one
abbrev rise_after : Option (List ℕ) → List (List ℕ) → Bool
rise_after None cs = are_rising cs
rise_after (Some before) cs = are_rising (before ∷ cs)

-- this many channels that rise after a name
record AreAfter (before : Option (List ℕ)) (n : ℕ) (cs : List (List ℕ)) : Type 0 where
  pub named : IsTrue (list_all is_channel cs)
  pub rise : IsTrue (rise_after before cs)
  pub counted : length cs ≡ n

channel_codec : (before : Option (List ℕ)) → IsCodec sized (λ c. FitsChannel c × IsTrue (is_after before c)) (channel_after before)
unfolding channel_after
channel_codec before = only-codec sized FitsChannel channel_name (is_after before) channel_is_codec (λ c h. sized_some c)

nothing : (before : Option (List ℕ)) (cs : List (List ℕ)) → AreAfter before 0 cs → [] ≡ cs
nothing before [] h = refl
nothing before (c ∷ cs) h = absurd (omega (arith, h.counted))

none_rise : (before : Option (List ℕ)) → IsTrue (rise_after before [])
none_rise None = refl
none_rise (Some b) = refl

first_rises : (before : Option (List ℕ)) (c : List ℕ) (cs : List (List ℕ)) → IsTrue (rise_after before (c ∷ cs)) → IsTrue (is_after before c) × IsTrue (are_rising (c ∷ cs))
first_rises None c cs h = (refl, h)
first_rises (Some b) c cs h = (and_left (is_below_all b (c ∷ cs)) (are_rising (c ∷ cs)) h, and_right (is_below_all b (c ∷ cs)) (are_rising (c ∷ cs)) h)

all_rise : (before : Option (List ℕ)) (c : List ℕ) (cs : List (List ℕ)) → IsTrue (is_after before c) → IsTrue (are_rising (c ∷ cs)) → IsTrue (rise_after before (c ∷ cs))
all_rise None c cs a h = h
all_rise (Some b) c cs a h = all_true (is_below_all b (c ∷ cs)) (are_rising (c ∷ cs)) a h

-- the first of some channels, and the rest
split : (before : Option (List ℕ)) (n : ℕ) (cs : List (List ℕ)) → AreAfter before (suc n) cs → (c : List ℕ) × (FitsChannel c × IsTrue (is_after before c)) × ((others : List (List ℕ)) × (cs ≡ c ∷ others))
split before n [] h = absurd (omega (arith, h.counted))
split before n (c ∷ cs) h = (c, (and_left (is_channel c) (list_all is_channel cs) h.named, (first_rises before c cs h.rise).0), (cs, refl))

-- this is the first of these channels
abbrev FirstIs : List ℕ → List (List ℕ) → Type 0
FirstIs c cs = (others : List (List ℕ)) × (cs ≡ c ∷ others)

-- what follows the first
abbrev rest_spelled : List (List ℕ) → List ℕ
rest_spelled cs = spelled_names (drop 1 cs)

others_after : (before : Option (List ℕ)) (n : ℕ) (c : List ℕ) (others : List (List ℕ)) → AreAfter before (suc n) (c ∷ others) → AreAfter (Some c) n others
others_after before n c others h = record {
  named = and_right (is_channel c) (list_all is_channel others) h.named;
  rise = (first_rises before c others h.rise).1;
  counted = omega (arith, h.counted);
}

with_first : (before : Option (List ℕ)) (n : ℕ) (c : List ℕ) (others : List (List ℕ)) → FitsChannel c × IsTrue (is_after before c) → AreAfter (Some c) n others → AreAfter before (suc n) (c ∷ others)
with_first before n c others f h = record {
  named = all_true (is_channel c) (list_all is_channel others) f.0 h.named;
  rise = all_rise before c others f.1 h.rise;
  counted = omega (arith, h.counted);
}

splits : (before : Option (List ℕ)) (n : ℕ) (c : List ℕ) (cs : List (List ℕ)) → AreAfter before (suc n) cs × FirstIs c cs → (others : List (List ℕ)) × AreAfter (Some c) n others × (c ∷ others ≡ cs)
splits before n c cs h =
    let others : List (List ℕ) = h.1.0 in
    (others, others_after before n c others (subst (λ (l : List (List ℕ)). AreAfter before (suc n) l) h.1.1 h.0), sym h.1.1)

channels_codec : (n : ℕ) (before : Option (List ℕ)) → IsCodec spelled_names (AreAfter before n) (channels_after n before)
channels_codec zero before = done-codec spelled_names (AreAfter before 0) [] (record { named = refl; rise = none_rise before; counted = refl }) refl (nothing before)
channels_codec (suc n) before =
    then-codec spelled_names rest_spelled (AreAfter before (suc n)) sized (λ c. FitsChannel c × IsTrue (is_after before c)) (channel_after before) (λ c. through (λ cs. c ∷ cs) (channels_after n (Some c))) FirstIs
    (channel_codec before)
    (split before n)
    (λ c cs r. ap spelled_names r.1 ∙ ap (λ (l : List (List ℕ)). sized c ++ rest_spelled l) (sym r.1))
    (λ c f. through-codec rest_spelled (λ cs. AreAfter before (suc n) cs × FirstIs c cs) spelled_names (AreAfter (Some c) n) (channels_after n (Some c)) (λ cs. c ∷ cs) (channels_codec n (Some c))
    (λ others h. (with_first before n c others f h, (others, refl))) (λ others h. refl) (splits before n c))

-- the channels of a setup
abbrev AreChannels : List (List ℕ) → Type 0
AreChannels cs = IsTrue (are_channels cs)

few : (cs : List (List ℕ)) → AreChannels cs → length cs ≤ channel_limit
few cs h = let f = and_left (nat_le (length cs) channel_limit) (list_all is_channel cs && are_rising cs) h in grind (arith, nat_tests)

rest_of : (cs : List (List ℕ)) → AreChannels cs → IsTrue (list_all is_channel cs && are_rising cs)
rest_of cs h = and_right (nat_le (length cs) channel_limit) (list_all is_channel cs && are_rising cs) h

few_test : (n : ℕ) → n ≤ channel_limit → IsTrue (nat_le n channel_limit)
few_test n h = grind (arith, nat_tests)

to_channels : (n : ℕ) (cs : List (List ℕ)) → n ≤ channel_limit → AreAfter None n cs → AreChannels cs
to_channels n cs most h = all_true (nat_le (length cs) channel_limit) (list_all is_channel cs && are_rising cs) (few_test (length cs) (omega (arith, most, h.counted))) (all_true (list_all is_channel cs) (are_rising cs) h.named h.rise)

from_channels : (n : ℕ) (cs : List (List ℕ)) → AreChannels cs → length cs ≡ n → AreAfter None n cs
from_channels n cs h e = record {
  named = and_left (list_all is_channel cs) (are_rising cs) (rest_of cs h);
  rise = and_right (list_all is_channel cs) (are_rising cs) (rest_of cs h);
  counted = e;
}

-- the same codec, with its limits in other words
refit : {X : Type 0} (spelled : X → List ℕ) (fits other : X → Type 0) (taken : Reading X) → IsCodec spelled fits taken → ((v : X) → fits v → other v) → ((v : X) → other v → fits v) → IsCodec spelled other taken
refit spelled fits other taken codec to from = record {
  read_back = λ v rest h. codec.read_back v rest (from v h);
  one_spelling = λ input v n bytes e. let one = codec.one_spelling input v n bytes e in (to v one.0, one.1, one.2);
  bad_within = λ input p bytes e. codec.bad_within input p bytes e;
  no_memory = λ input bytes e. codec.no_memory input bytes e;
}

pub channels_is_codec : IsCodec spelled_channels (λ cs. IsTrue (are_channels cs)) channels
unfolding channels spelled_channels
channels_is_codec =
    then-codec spelled_channels spelled_names AreChannels (λ (n : ℕ). n ∷ []) (λ n. (0 ≤ n) × (n ≤ channel_limit)) (byte_within 0 channel_limit) (λ n. channels_after n None) (λ n cs. length cs ≡ n)
    (byte-codec 0 channel_limit)
    (λ cs h. (length cs, (omega arith, few cs h), refl))
    (λ n cs e. ap (λ (k : ℕ). k ∷ spelled_names cs) e)
    (λ n f. refit spelled_names (AreAfter None n) (λ cs. AreChannels cs × (length cs ≡ n)) (channels_after n None) (channels_codec n None)
    (λ cs h. (to_channels n cs f.1 h, h.counted)) (λ cs h. from_channels n cs h.0 h.1))

-- ---- options

pub options_is_codec : IsCodec spelled_options FitOptions options_taken
options_is_codec =
    both-codec _ _ _ spelled_short (λ n. n ≤ 2878) offset_minutes
    (both-codec _ _ _ (λ b. truth_byte b ∷ []) (λ _. Unit {0}) truth
    (both-codec _ _ _ (λ b. truth_byte b ∷ []) (λ _. Unit {0}) truth
    (both-codec _ _ _ (λ b. truth_byte b ∷ []) (λ _. Unit {0}) truth
    (both-codec _ _ _ (λ n. n ∷ []) (λ n. (1 ≤ n) × (n ≤ query_limit)) query_count
    (both-codec spelled_short (λ n. n ≤ size_limit) line_count spelled_short (λ n. n ≤ size_limit) line_count line_count_is_codec line_count_is_codec)
    (byte-codec 1 query_limit)) truth_is_codec) truth_is_codec) truth_is_codec)
    offset_is_codec

-- ---- setups

-- the fields of a setup as bytes: nick, channels, options
abbrev spelled_fields : SetupFields → List ℕ
spelled_fields p = (sized p.0.0 ++ spelled_channels p.0.1) ++ spelled_options p.1

-- the fields of a setup are within their limits: the nick is a name, and the channels and options are allowed in a
-- setup
abbrev FitFields : SetupFields → Type 0
FitFields p = (IsTrue (is_name p.0.0) × IsTrue (are_channels p.0.1)) × FitOptions p.1

fields_codec : IsCodec spelled_fields FitFields (both (both name channels) options_taken)
fields_codec =
    both-codec (λ (p : List ℕ × List (List ℕ)). sized p.0 ++ spelled_channels p.1) (λ p. IsTrue (is_name p.0) × IsTrue (are_channels p.1)) (both name channels) spelled_options FitOptions options_taken
    (both-codec sized (λ v. IsTrue (is_name v)) name spelled_channels (λ cs. IsTrue (are_channels cs)) channels name_is_codec channels_is_codec)
    options_is_codec

pub setup_is_codec : IsCodec spelled_setup FitsSetup setup_taken
unfolding spelled_setup setup_taken
setup_is_codec =
    through-codec spelled_setup FitsSetup spelled_fields FitFields (both (both name channels) options_taken) settings fields_codec
    (λ p h. h) (λ p h. refl) (λ s h. (((s.nick, s.channels), options_in s), h, refl))
