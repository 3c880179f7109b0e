-- Lines of restarts and stops, by their words.
use Rattle.std.proofs.Common.{◌≡◌, ℕ, Bool, true, false, List, ◌∷◌, ◌++◌, refl, sym, ap, ◌∙◌}
use Rattle.std.specs.Prelude.{codes, if◌then◌else◌, Option, Some}
use Rattle.irc_line.specs.Lines.{Parts}
use Rattle.irc_line.specs.Names.{same_bytes}
use Rattle.irc_line.proofs.SameBytes.{same_bytes-eq}
use Rattle.world_events.specs.declared.event.Input.{Input}
use Rattle.world_events.specs.declared.event.Event.TheVariants.{StopIn}
use Rattle.recorder.specs.InputReadings.{FitsInput, ReadsBehind, text_of_event, text_of_input}
use Rattle.recorder.specs.Kinds.{side_of_word, side_word}
use Rattle.recorder.specs.Readings.{ReadsAs}
use Rattle.recorder.specs.Splits.{split_at}
use Rattle.recorder.proofs.Splits.{parts}

side_step : (w : List ℕ) (b found : Bool) (rest : Option Bool) (t : Bool) → same_bytes w (side_word b) ≡ t → (rest ≡ Some found → side_word found ≡ w) → (if t then Some b else rest) ≡ Some found → side_word found ≡ w
side_step w b found rest true h more e = let same : b ≡ found = cc in ap side_word (sym same) ∙ sym (same_bytes-eq w (side_word b) h)
side_step w b found rest false h more e = more e

-- a side has the word by which it was found
pub side_back : (w : List ℕ) (b : Bool) → side_of_word w ≡ Some b → side_word b ≡ w
side_back w b e = side_step w false b _ _ refl (λ e. side_step w true b _ _ refl (λ e. absurd cc) e) e

-- lines with the same word have the same rest
pub behind_word : (line w known rest : List ℕ) → split_at 32 line ≡ Some (w, rest) → same_bytes w known ≡ true → known ++ 32 ∷ rest ≡ line
behind_word line w known rest s same = ap (λ (b : List ℕ). b ++ 32 ∷ rest) (sym (same_bytes-eq w known same)) ∙ parts 32 line w rest s

-- Over bodies, with their spelling and limits
module _ {B : Type 0} (spelled : B → List ℕ) (fits : B → Type 0) where
  stop_text : (rest behind : List ℕ) (x : Input B Parts (List ℕ)) (after : Bool) → side_word after ++ 32 ∷ behind ≡ rest → text_of_input spelled fits x ≡ behind → text_of_event spelled fits (StopIn x after) ≡ codes "stop " ++ rest
  stop_text rest behind x false p t = rw (← p, t) refl
  stop_text rest behind x true p t = rw (← p, t) refl

  -- a stop's line has its side and its input
  pub stop_read : (rest w behind : List ℕ) (after : Bool) (x : Input B Parts (List ℕ)) → split_at 32 rest ≡ Some (w, behind) → side_of_word w ≡ Some after
      → ReadsAs (text_of_input spelled fits) (FitsInput spelled fits) behind (Some x) → ReadsBehind spelled fits (codes "stop ") rest (Some (StopIn x after))
  stop_read rest w behind after x s is h =
      let p : side_word after ++ 32 ∷ behind ≡ rest = ap (λ (b : List ℕ). b ++ 32 ∷ behind) (side_back w after is) ∙ parts 32 rest w behind s in
      (h.0, stop_text rest behind x after p h.1)
