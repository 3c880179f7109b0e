-- Verbs, names of channels, sizes and actions are codecs.
use Rattle.std.proofs.Common.{◌≡◌, ℕ, ◌^◌, zero, suc, ◌≤◌, Bool, true, false, List, [], ◌∷◌, ◌++◌, IsTrue, refl, subst, arith}
use Rattle.std.specs.Prelude.{◌==◌, Some, None, is_some}
use Rattle.std.specs.Int.{w16}
use Rattle.irc_line.specs.Names.{is_name, is_channel, is_text}
use Rattle.wire_bytes.specs.Fields.{through, both, reading_of, byte_within}
use Rattle.wire_bytes.specs.Codecs.{IsCodec, through-codec, done-codec, both-codec, only-codec}
use Rattle.wire_bytes.specs.ChoiceCodec.{choice-codec}
use Rattle.wire_bytes.specs.FieldCodecs.{both_true, byte-codec, number-codec, wide16}
use Rattle.wire_bytes.specs.ContentCodecs.{name_is_codec, sized_some, text_is_codec}
use Rattle.wire_bytes.specs.LineCodec.{line_is_codec}
use Rattle.wire_bytes.specs.Contents.{sized, name, text, FitsLine, line}
use Rattle.buffer_commands.specs.Spellings.{verb_of, spelled_verb, verb, FitsChannel, channel_name, FitsSize, spelled_size, buffer_size, action_kind, action_body, spelled_action, FitsAction, say_of, set_of, attach_as, action_cases, action}
use Rattle.buffer_commands.specs.declared.command.Verb.{Verb}
use Rattle.buffer_commands.specs.declared.command.Verb.TheVariants.{Privmsg, Notice}
use Rattle.buffer_commands.specs.declared.command.Action.{Action}
use Rattle.buffer_commands.specs.declared.command.Action.TheVariants.{Attach, Leave, Say, Join, Part, Detach, Reattach, Play, Clear, ClearChannels, ClearQueries, ClearAll, SetBuffer, Pass}

-- ---- verbs

verb_bytes : (b : ℕ) → (0 ≤ b) × (b ≤ 1) → spelled_verb (verb_of b) ≡ b ∷ []
verb_bytes zero h = refl
verb_bytes (suc zero) h = refl
verb_bytes (suc (suc b)) h = absurd (omega (arith, h.1))

verb_split : (v : Verb) → Unit {0} → (b : ℕ) × ((0 ≤ b) × (b ≤ 1)) × (verb_of b ≡ v)
verb_split Privmsg h = (0, (omega arith, omega arith), refl)
verb_split Notice h = (1, (omega arith, omega arith), refl)

pub verb_is_codec : IsCodec spelled_verb (λ _. Unit {0}) verb
unfolding verb
verb_is_codec = through-codec spelled_verb (λ _. Unit {0}) (λ b. b ∷ []) (λ b. (0 ≤ b) × (b ≤ 1)) (byte_within 0 1) verb_of (byte-codec 0 1) (λ b h. tt) verb_bytes verb_split

-- ---- names of channels

pub channel_named : (c : List ℕ) → IsTrue (is_channel c) → IsTrue (is_name c)
unfolding is_channel
channel_named c h = (both_true (is_name c) _ h).0

named_codec : IsCodec sized (λ c. IsTrue (is_name c) × IsTrue (is_channel c)) channel_name
unfolding channel_name
named_codec = only-codec sized (λ c. IsTrue (is_name c)) name is_channel name_is_codec (λ c h. sized_some c)

pub channel_is_codec : IsCodec sized FitsChannel channel_name
channel_is_codec = record {
  read_back = λ c rest h. named_codec.read_back c rest (channel_named c h, h);
  one_spelling = λ input c n bytes e. let o = named_codec.one_spelling input c n bytes e in (o.0.1, o.1, o.2);
  bad_within = named_codec.bad_within;
  no_memory = named_codec.no_memory;
}

-- ---- sizes

pub size_is_codec : IsCodec spelled_size FitsSize buffer_size
unfolding buffer_size spelled_size
size_is_codec = number-codec w16 (2 ^ 16) 65535 wide16 (omega arith)

-- ---- actions

-- one of two facts
abbrev pub IfKind : Bool → Type 0 → Type 0 → Type 0
IfKind true A B = A
IfKind false A B = B

-- the action is made of something that fits
abbrev pub IsMade : {X : Type 0} → (X → Type 0) → (X → Action) → Action → Type 0
IsMade {X} fits make a = (x : X) × fits x × (make x ≡ a)

-- verb, name and text of a Say: the name and the text are within their limits
abbrev SaidFits : (Verb × List ℕ) × List ℕ → Type 0
SaidFits p = (Unit {0} × IsTrue (is_name p.0.1)) × IsTrue (is_text p.1)

-- name and size of a SetBuffer, each within its limits
abbrev SetFits : List ℕ × ℕ → Type 0
SetFits p = IsTrue (is_name p.0) × FitsSize p.1

-- the parts of an action of this kind
abbrev MadeAs : ℕ → Action → Type 0
MadeAs k a =
    IfKind (k == 1) (Attach None ≡ a)
    (IfKind (k == 2) (Leave ≡ a)
    (IfKind (k == 3) (IsMade SaidFits say_of a)
    (IfKind (k == 4) (IsMade FitsChannel Join a)
    (IfKind (k == 5) (IsMade FitsChannel Part a)
    (IfKind (k == 6) (IsMade FitsChannel Detach a)
    (IfKind (k == 7) (IsMade FitsChannel Reattach a)
    (IfKind (k == 8) (IsMade (λ n. IsTrue (is_name n)) Play a)
    (IfKind (k == 9) (IsMade (λ n. IsTrue (is_name n)) Clear a)
    (IfKind (k == 10) (ClearChannels ≡ a)
    (IfKind (k == 11) (ClearQueries ≡ a)
    (IfKind (k == 12) (ClearAll ≡ a)
    (IfKind (k == 13) (IsMade SetFits set_of a)
    (IfKind (k == 14) (IsMade FitsLine Pass a)
    (IsMade (λ n. IsTrue (is_name n)) attach_as a))))))))))))))

made_as_its_kind : (a : Action) → FitsAction a → MadeAs (action_kind a) a
made_as_its_kind (Attach None) h = refl
made_as_its_kind (Attach (Some id)) h = (id, h, refl)
made_as_its_kind Leave h = refl
made_as_its_kind (Say v n t) h = (((v, n), t), h, refl)
made_as_its_kind (Join c) h = (c, h, refl)
made_as_its_kind (Part c) h = (c, h, refl)
made_as_its_kind (Detach c) h = (c, h, refl)
made_as_its_kind (Reattach c) h = (c, h, refl)
made_as_its_kind (Play n) h = (n, h, refl)
made_as_its_kind (Clear n) h = (n, h, refl)
made_as_its_kind ClearChannels h = refl
made_as_its_kind ClearQueries h = refl
made_as_its_kind ClearAll h = refl
made_as_its_kind (SetBuffer n k) h = ((n, k), h, refl)
made_as_its_kind (Pass p) h = (p, h, refl)

-- the kind decides the parts of an action
made_as : (k : ℕ) (a : Action) → FitsAction a × (action_kind a ≡ k) → MadeAs k a
made_as k a h = subst (λ (n : ℕ). MadeAs n a) h.1 (made_as_its_kind a h.0)

said_codec : IsCodec (λ (p : (Verb × List ℕ) × List ℕ). (spelled_verb p.0.0 ++ sized p.0.1) ++ sized p.1) SaidFits (both (both verb name) text)
said_codec =
    both-codec (λ (p : Verb × List ℕ). spelled_verb p.0 ++ sized p.1) (λ p. Unit {0} × IsTrue (is_name p.1)) (both verb name) sized (λ v. IsTrue (is_text v)) text
    (both-codec spelled_verb (λ _. Unit {0}) verb sized (λ v. IsTrue (is_name v)) name verb_is_codec name_is_codec)
    text_is_codec

set_codec : IsCodec (λ (p : List ℕ × ℕ). sized p.0 ++ spelled_size p.1) SetFits (both name buffer_size)
set_codec = both-codec sized (λ v. IsTrue (is_name v)) name spelled_size FitsSize buffer_size name_is_codec size_is_codec

-- a channel's action is a codec of its kind
channel_case : (k : ℕ) (make : List ℕ → Action) → ((c : List ℕ) → FitsChannel c → FitsAction (make c) × (action_kind (make c) ≡ k)) → ((c : List ℕ) → action_body (make c) ≡ sized c)
    → ((a : Action) → FitsAction a × (action_kind a ≡ k) → IsMade FitsChannel make a) → IsCodec action_body (λ a. FitsAction a × (action_kind a ≡ k)) (through make channel_name)
channel_case k make makes spells splits = through-codec action_body (λ a. FitsAction a × (action_kind a ≡ k)) sized FitsChannel channel_name make channel_is_codec makes (λ c h. spells c) splits

-- a target's action is a codec of its kind
target_case : (k : ℕ) (make : List ℕ → Action) → ((n : List ℕ) → IsTrue (is_name n) → FitsAction (make n) × (action_kind (make n) ≡ k)) → ((n : List ℕ) → action_body (make n) ≡ sized n)
    → ((a : Action) → FitsAction a × (action_kind a ≡ k) → IsMade (λ n. IsTrue (is_name n)) make a) → IsCodec action_body (λ a. FitsAction a × (action_kind a ≡ k)) (through make name)
target_case k make makes spells splits = through-codec action_body (λ a. FitsAction a × (action_kind a ≡ k)) sized (λ n. IsTrue (is_name n)) name make name_is_codec makes (λ n h. spells n) splits

action_listed : (a : Action) → FitsAction a → IsTrue (is_some (reading_of (action_kind a) action_cases))
action_listed (Attach None) h = refl
action_listed (Attach (Some id)) h = refl
action_listed Leave h = refl
action_listed (Say v n t) h = refl
action_listed (Join c) h = refl
action_listed (Part c) h = refl
action_listed (Detach c) h = refl
action_listed (Reattach c) h = refl
action_listed (Play n) h = refl
action_listed (Clear n) h = refl
action_listed ClearChannels h = refl
action_listed ClearQueries h = refl
action_listed ClearAll h = refl
action_listed (SetBuffer n k) h = refl
action_listed (Pass p) h = refl

-- an action within its limits that has this kind byte
abbrev OfKind : ℕ → Action → Type 0
OfKind k a = FitsAction a × (action_kind a ≡ k)

pub action_is_codec : IsCodec spelled_action FitsAction action
unfolding action spelled_action
action_is_codec =
    choice-codec action_kind action_body FitsAction action_cases (
      done-codec action_body (OfKind 1) (Attach None) (tt, refl) refl (made_as 1),
      (
        done-codec action_body (OfKind 2) Leave (tt, refl) refl (made_as 2),
        (
          through-codec action_body (OfKind 3) _ _ (both (both verb name) text) say_of said_codec (λ p h. (h, refl)) (λ p h. refl) (made_as 3),
          (
            channel_case 4 Join (λ c h. (h, refl)) (λ c. refl) (made_as 4),
            (
              channel_case 5 Part (λ c h. (h, refl)) (λ c. refl) (made_as 5),
              (
                channel_case 6 Detach (λ c h. (h, refl)) (λ c. refl) (made_as 6),
                (
                  channel_case 7 Reattach (λ c h. (h, refl)) (λ c. refl) (made_as 7),
                  (
                    target_case 8 Play (λ n h. (h, refl)) (λ n. refl) (made_as 8),
                    (
                      target_case 9 Clear (λ n h. (h, refl)) (λ n. refl) (made_as 9),
                      (
                        done-codec action_body (OfKind 10) ClearChannels (tt, refl) refl (made_as 10),
                        (
                          done-codec action_body (OfKind 11) ClearQueries (tt, refl) refl (made_as 11),
                          (
                            done-codec action_body (OfKind 12) ClearAll (tt, refl) refl (made_as 12),
                            (
                              through-codec action_body (OfKind 13) _ _ (both name buffer_size) set_of set_codec (λ p h. (h, refl)) (λ p h. refl) (made_as 13),
                              (
                                through-codec action_body (OfKind 14) _ _ line Pass line_is_codec (λ p h. (h, refl)) (λ p h. refl) (made_as 14),
                                (target_case 15 attach_as (λ n h. (h, refl)) (λ n. refl) (made_as 15), tt),
                              ),
                            ),
                          ),
                        ),
                      ),
                    ),
                  ),
                ),
              ),
            ),
          ),
        ),
      ),
    )
    action_listed
