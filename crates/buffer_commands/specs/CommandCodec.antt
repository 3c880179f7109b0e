-- Commands are codecs.
use Rattle.std.proofs.Common.{◌≡◌, ℕ, ◌++◌, IsTrue, refl, subst}
use Rattle.std.specs.Prelude.{◌==◌, is_some}
use Rattle.irc_line.specs.Lines.{Parts}
use Rattle.wire_bytes.specs.Fields.{both, reading_of}
use Rattle.wire_bytes.specs.Codecs.{IsCodec, through-codec, done-codec, both-codec}
use Rattle.wire_bytes.specs.ChoiceCodec.{choice-codec}
use Rattle.wire_bytes.specs.FieldCodecs.{byte-codec}
use Rattle.wire_bytes.specs.LineCodec.{line_is_codec}
use Rattle.wire_bytes.specs.Contents.{spelled_line, FitsLine, line}
use Rattle.wire_bytes.specs.Values.{spelled_origin, spelled_number, FitsOrigin, FitsNumber, FitsMoment, origin, number, moment}
use Rattle.wire_bytes.specs.ValueCodecs.{origin_is_codec, number_is_codec, moment_is_codec}
use Rattle.wire_bytes.specs.declared.origin.Origin.{Origin}
use Rattle.buffer_commands.specs.ActionCodec.{IfKind, action_is_codec}
use Rattle.buffer_commands.specs.Spellings.{spelled_action, FitsAction, action, FitsNode, spelled_node, node, command_kind, command_body, spelled_command, FitsCommand, client_of, upstream_of, gone_of, command_cases, command}
use Rattle.buffer_commands.specs.declared.command.Action.{Action}
use Rattle.buffer_commands.specs.declared.command.Command.{Command}
use Rattle.buffer_commands.specs.declared.command.Command.TheVariants.{Client, Upstream, NodeGone, Up, Down}

-- ---- commands

-- the command is made of something that fits
abbrev IsMade : {X : Type 0} → (X → Type 0) → (X → Command) → Command → Type 0
IsMade {X} fits make c = (x : X) × fits x × (make x ≡ c)

-- origin, moment and action of a Client command, each within its limits
abbrev ClientFits : (Origin × ℕ) × Action → Type 0
ClientFits p = (FitsOrigin p.0.0 × FitsMoment p.0.1) × FitsAction p.1

-- moment and line of an Upstream command, each within its limits
abbrev UpstreamFits : ℕ × Parts → Type 0
UpstreamFits p = FitsMoment p.0 × FitsLine p.1

-- node and floor of a NodeGone, each within its limits
abbrev GoneFits : ℕ × ℕ → Type 0
GoneFits p = FitsNode p.0 × FitsNumber p.1

-- the parts of a command of this kind
abbrev MadeAs : ℕ → Command → Type 0
MadeAs k c =
    IfKind (k == 1) (IsMade ClientFits client_of c)
    (IfKind (k == 2) (IsMade UpstreamFits upstream_of c)
    (IfKind (k == 3) (IsMade GoneFits gone_of c)
    (IfKind (k == 4) (Up ≡ c)
    (Down ≡ c))))

made_as_its_kind : (c : Command) → FitsCommand c → MadeAs (command_kind c) c
made_as_its_kind (Client o at a) h = (((o, at), a), h, refl)
made_as_its_kind (Upstream at p) h = ((at, p), h, refl)
made_as_its_kind (NodeGone n floor) h = ((n, floor), h, refl)
made_as_its_kind Up h = refl
made_as_its_kind Down h = refl

-- the kind decides the parts of a command
made_as : (k : ℕ) (c : Command) → FitsCommand c × (command_kind c ≡ k) → MadeAs k c
made_as k c h = subst (λ (n : ℕ). MadeAs n c) h.1 (made_as_its_kind c h.0)

client_codec : IsCodec (λ (p : (Origin × ℕ) × Action). (spelled_origin p.0.0 ++ spelled_number p.0.1) ++ spelled_action p.1) ClientFits (both (both origin moment) action)
client_codec =
    both-codec (λ (p : Origin × ℕ). spelled_origin p.0 ++ spelled_number p.1) (λ p. FitsOrigin p.0 × FitsMoment p.1) (both origin moment) spelled_action FitsAction action
    (both-codec spelled_origin FitsOrigin origin spelled_number FitsMoment moment origin_is_codec moment_is_codec)
    action_is_codec

upstream_codec : IsCodec (λ (p : ℕ × Parts). spelled_number p.0 ++ spelled_line p.1) UpstreamFits (both moment line)
upstream_codec = both-codec spelled_number FitsMoment moment spelled_line FitsLine line moment_is_codec line_is_codec

gone_codec : IsCodec (λ (p : ℕ × ℕ). spelled_node p.0 ++ spelled_number p.1) GoneFits (both node number)
gone_codec = both-codec spelled_node FitsNode node spelled_number FitsNumber number (byte-codec 0 255) number_is_codec

command_listed : (c : Command) → FitsCommand c → IsTrue (is_some (reading_of (command_kind c) command_cases))
command_listed (Client o at a) h = refl
command_listed (Upstream at p) h = refl
command_listed (NodeGone n floor) h = refl
command_listed Up h = refl
command_listed Down h = refl

-- a command within its limits that has this kind byte
abbrev OfKind : ℕ → Command → Type 0
OfKind k c = FitsCommand c × (command_kind c ≡ k)

pub command_is_codec : IsCodec spelled_command FitsCommand command
unfolding command spelled_command
command_is_codec =
    choice-codec command_kind command_body FitsCommand command_cases (
      through-codec command_body (OfKind 1) _ _ (both (both origin moment) action) client_of client_codec (λ p h. (h, refl)) (λ p h. refl) (made_as 1),
      (
        through-codec command_body (OfKind 2) _ _ (both moment line) upstream_of upstream_codec (λ p h. (h, refl)) (λ p h. refl) (made_as 2),
        (
          through-codec command_body (OfKind 3) _ _ (both node number) gone_of gone_codec (λ p h. (h, refl)) (λ p h. refl) (made_as 3),
          (
            done-codec command_body (OfKind 4) Up (tt, refl) refl (made_as 4),
            (done-codec command_body (OfKind 5) Down (tt, refl) refl (made_as 5), tt),
          ),
        ),
      ),
    )
    command_listed
