-- The text of the lines within an extent.
use Rattle.std.proofs.Common.{◌≡◌, ℕ, Bool, true, false, List, [], ◌∷◌, ◌++◌, Option, refl, ap, ◌∙◌, append-nil}
use Rattle.std.specs.Prelude.{◌&&◌, if◌then◌else◌, filter}
use Rattle.std.proofs.lemmas.List.Concat.{flat_map-append}
use Rattle.std.proofs.lemmas.List.Elements.{filter-append}
use Rattle.irc_line.specs.Lines.{Parts}
use Rattle.chat_log.specs.declared.choice.Extent.{Extent}
use Rattle.chat_log.specs.declared.choice.Extent.TheVariants.{All, Chat}
use Rattle.chat_log.specs.Chats.{is_chat, is_shown, is_wanted, shown_text, told_line}
use Rattle.chat_log.specs.Texts.{line_text, text_of}

pub nothing_shown : (e : Extent) → shown_text e [] ≡ []
nothing_shown Chat = refl
nothing_shown All = refl

-- one line, if it is wanted and within the extent
one_by : (e : Extent) (at : ℕ) (line : Parts) (shows : Bool) → is_shown e line ≡ shows → shown_text e ((at, line) ∷ []) ≡ (if shows then line_text at line else [])
one_by Chat at line true h = rw h (append-nil (line_text at line))
one_by Chat at line false h = rw h refl
one_by All at line true h = append-nil (line_text at line)
one_by All at line false h = cc

wanted_by : (e : Extent) (at : ℕ) (line : Parts) (wants : Bool) → shown_text e (if wants then (at, line) ∷ [] else []) ≡ (if wants && is_shown e line then line_text at line else [])
wanted_by e at line true = one_by e at line (is_shown e line) refl
wanted_by e at line false = nothing_shown e

pub one_shown : (e : Extent) (target : Option (List ℕ)) (nick : List ℕ) (at : ℕ) (line : Parts)
    → shown_text e (told_line target nick at line) ≡ (if is_wanted target nick line && is_shown e line then line_text at line else [])
one_shown e target nick at line = wanted_by e at line (is_wanted target nick line)

-- more lines, followed by their text
pub shown_text-append : (e : Extent) (xs ys : List (ℕ × Parts)) → shown_text e (xs ++ ys) ≡ shown_text e xs ++ shown_text e ys
shown_text-append Chat xs ys = ap text_of (filter-append (λ k. is_chat k.1) xs ys) ∙ flat_map-append (λ k. line_text k.0 k.1) (filter (λ k. is_chat k.1) xs) (filter (λ k. is_chat k.1) ys)
shown_text-append All xs ys = flat_map-append (λ k. line_text k.0 k.1) xs ys
