-- How lines are shown.
use Rattle.std.proofs.Common.{◌≡◌, ℕ, Bool, true, false, List, [], ◌∷◌, ◌++◌, map, refl, ap, ◌∙◌, append_assoc}
use Rattle.std.specs.Prelude.{flat_map, if◌then◌else◌}
use Rattle.irc_line.specs.Lines.{Parts, spelling}
use Rattle.wire_bytes.specs.declared.origin.Origin.{Origin}
use Rattle.buffer_commands.specs.declared.effect.Effect.TheVariants.{Show}
use Rattle.buffer_machine.specs.Messages.{is_none_of}
use Rattle.buffer_machine.specs.Effects.{copies, show_all, show_each}

pub show_all_is : (o : Origin) (lines : List Parts) → map (λ x. Show o x) (map spelling lines) ≡ show_all o lines
show_all_is o [] = refl
show_all_is o (line ∷ lines) = ap (λ es. Show o (spelling line) ∷ es) (show_all_is o lines)

-- to each of some clients
pub show_each_is : (os : List Origin) (lines : List Parts) → flat_map (copies (map spelling lines)) os ≡ show_each os lines
show_each_is [] lines = refl
show_each_is (o ∷ os) lines = ap (λ es. es ++ flat_map (copies (map spelling lines)) os) (show_all_is o lines) ∙ ap (λ es. show_all o lines ++ es) (show_each_is os lines)

-- of one line
pub show_one_is : (os : List Origin) (line : Parts) → flat_map (copies (spelling line ∷ [])) os ≡ show_each os (line ∷ [])
show_one_is os line = show_each_is os (line ∷ [])

-- to nobody
pub show_none_is : (b : Bool) (os : List Origin) (lines : List Parts) → is_none_of os ≡ true → [] ≡ (if b then show_each os lines else [])
show_none_is true [] lines e = refl
show_none_is false os lines e = refl
show_none_is true (o ∷ os) lines e = cc

-- to some clients and a last one
pub shown_to_last : (os : List Origin) (o : Origin) (lines : List (List ℕ)) → flat_map (copies lines) os ++ copies lines o ≡ flat_map (copies lines) (os ++ o ∷ [])
shown_to_last [] o lines = shown_to_one (copies lines o)
  where
    shown_to_one : {A : Type 0} (xs : List A) → xs ≡ xs ++ []
    shown_to_one [] = refl
    shown_to_one (x ∷ xs) = ap (λ ys. x ∷ ys) (shown_to_one xs)
shown_to_last (p ∷ os) o lines = append_assoc (copies lines p) (flat_map (copies lines) os) (copies lines o) ∙ ap (λ es. copies lines p ++ es) (shown_to_last os o lines)

-- a first line and others
pub show_first_is : (os : List Origin) (line : Parts) (lines : List Parts) → flat_map (copies (spelling line ∷ map spelling lines)) os ≡ show_each os (line ∷ lines)
show_first_is os line lines = show_each_is os (line ∷ lines)
