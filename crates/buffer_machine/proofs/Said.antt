-- What a client says: what is shown of it, and what is held after it.
use Rattle.std.proofs.Common.{◌≡◌, ℕ, true, false, List, [], ◌∷◌, ◌++◌, refl}
use Rattle.std.specs.Prelude.{if◌then◌else◌, not, Some, None}
use Rattle.irc_line.specs.Names.{is_channel}
use Rattle.irc_line.specs.Lines.{Parts}
use Rattle.wire_bytes.specs.declared.origin.Origin.{Origin}
use Rattle.buffer_commands.specs.Settings.{Settings}
use Rattle.buffer_commands.specs.declared.command.Verb.{Verb}
use Rattle.buffer_commands.specs.declared.command.Verb.TheVariants.{Privmsg, Notice}
use Rattle.buffer_commands.specs.declared.effect.Effect.{Effect}
use Rattle.buffer_commands.specs.declared.effect.Effect.TheVariants.{Send}
use Rattle.buffer_machine.specs.Effects.{show_each}
use Rattle.buffer_machine.specs.Held.{Held}
use Rattle.buffer_machine.specs.Messages.{channel_of, own_said}
use Rattle.buffer_machine.specs.Steps.{found, is_detached, storing}
use Rattle.buffer_machine.specs.Answering.{answers_saying, others}

-- a message names the channel that it is for
pub said-channel : (nick name text : List ℕ) (verb : Verb) → channel_of (own_said nick verb name text) ≡ name
said-channel nick name text Privmsg = refl
said-channel nick name text Notice = refl

module _ (h : Held) (o : Origin) (name : List ℕ) (line sent : Parts) where
  pub said-shown : (es : List Effect) → is_channel name ≡ true → channel_of line ≡ name
      → es ≡ (if not (is_detached (found (channel_of line) h)) then show_each (others o h.clients) (line ∷ []) else []) → es ++ Send o sent ∷ [] ≡ answers_saying h o name line (sent ∷ [])
  said-shown es e k f = rw (f, k, e) refl

  pub said-alone : is_channel name ≡ false → Send o sent ∷ [] ≡ answers_saying h o name line (sent ∷ [])
  said-alone e = rw e refl

pub said-held : (s : Settings) (h g : Held) (at : ℕ) (name : List ℕ) (line : Parts) → is_channel name ≡ true → g ≡ storing s h (Some (at, line)) → g ≡ storing s h (if is_channel name then Some (at, line) else None)
said-held s h g at name line e f = rw e f

pub unsaid-held : (s : Settings) (h : Held) (at : ℕ) (name : List ℕ) (line : Parts) → is_channel name ≡ false → h ≡ storing s h (if is_channel name then Some (at, line) else None)
unsaid-held s h at name line e = rw e refl
