-- The lines that are handed upstream are the same, read off what came out as the code has it.
use Rattle.std.proofs.Common.{◌≡◌, ◌+◌, ◌<◌, ◌≤◌, ℕ, List, [], ◌∷◌, ◌++◌, Vec, Global, drop, get_or, length, map, refl, sym, ap, ◌∙◌}
use Rattle.std.proofs.lemmas.List.{append_assoc, append-nil, drop_all, map-append}
use Rattle.raft_node.specs.Machine.{Machine}
use Rattle.irc_line.specs.Lines.{Parts}
use Rattle.machine_laws.specs.Classes.{Handed, class_map, handed_by}
use Rattle.machine_laws.specs.declared.class.Class.{Class}
use Rattle.machine_laws.specs.declared.class.Class.TheVariants.{To, Hand, Rejoin, Nowhere}
use Rattle.wire_bytes.specs.declared.session_id.SessionId.{SessionId}
use Rattle.world_run.proofs.Onward.{first_of}
use Rattle.world_run.specs.declared.outcome.Outcome.{Outcome}
use Rattle.world_run.specs.declared.outcome.Outcome.TheVariants.{Quiet, Left, Looked, Refused, Missing}
use Rattle.world_run.specs.Groups.{WorldParts}
use Rattle.world_run.specs.Handing.{hands_by, handed_in, IsHandedOf}
use Rattle.world_run.specs.Told.{outs_of}
use Rattle.world_run.specs.World.{hands, hand_of, left_of}

-- if none of what came out is left, all of it is listed
pub all_is_told :
    {E P : Type 0} (class : E → Class Parts) (outs : List (Outcome E P)) (k : ℕ) (lines all : List (ℕ × Parts)) →
    length outs ≤ k → lines ++ handed_in class (drop k outs) ≡ all → lines ≡ all
all_is_told class outs k lines all past e = sym (append-nil lines) ∙ ap (λ left. lines ++ handed_in class left) (sym (drop_all k outs past)) ∙ e

pub all_are_told :
    {E : Type 0} (class : E → Class Parts) (effects : List E) (k : ℕ) (lines all : List (ℕ × Parts)) →
    length effects ≤ k → lines ++ hands_by class (drop k effects) ≡ all → lines ≡ all
all_are_told class effects k lines all past e = sym (append-nil lines) ∙ ap (λ left. lines ++ hands_by class left) (sym (drop_all k effects past)) ∙ e

-- the numbers and lines
abbrev numbered : List Handed → List (ℕ × Parts)
numbered hands = map (λ h. (h.0.0, h.1)) hands

module _ {E L : Type 0} (class : E → Class Parts) (now : L → Parts) where
  -- these, with each line read through its holder
  abbrev told : List (ℕ × L) → List (ℕ × Parts)
  told lines = map (λ h. (h.0, now h.1)) lines

  -- an effect that is handed upstream is listed, and no longer to come
  pub hand_told : (es : List E) (k : ℕ) (e : E) (at : Class L) (id : SessionId) (number : ℕ) (line : L) (old new : List (ℕ × L)) (all : List (ℕ × Parts))
      → k < length es → e ≡ get_or es k e → class_map now at ≡ class e → at ≡ Hand id number line → new ≡ old ++ (number, line) ∷ []
      → told old ++ hands_by class (drop k es) ≡ all → told new ++ hands_by class (drop (k + 1) es) ≡ all
  hand_told es k e at id number line old new all lt is of hand more was =
      let rest : List (ℕ × Parts) = hands_by class (drop (k + 1) es) in
      ap (λ (l : List (ℕ × L)). told l ++ rest) more
      ∙ (ap (λ (l : List (ℕ × Parts)). l ++ rest) (map-append (λ (h : ℕ × L). let n : ℕ × Parts = (h.0, now h.1) in n) old ((number, line) ∷ []))
      ∙ (append_assoc (told old) ((number, now line) ∷ []) rest
      ∙ (ap (λ (c : Class Parts). told old ++ (numbered (handed_by c) ++ rest)) (ap (λ (c : Class L). class_map now c) (sym hand) ∙ of)
      ∙ (ap (λ (l : List E). told old ++ hands_by class l) (sym (first_of es k e lt is)) ∙ was))))

  no_hand : (at : Class L) → ((id : SessionId) (number : ℕ) (line : L) → at ≡ Hand id number line → ⊥) → [] ≡ numbered (handed_by (class_map now at))
  no_hand (To o) other = refl
  no_hand (Hand id number line) other = absurd (other id number line refl)
  no_hand (Rejoin id line) other = refl
  no_hand Nowhere other = refl

  -- another effect lists nothing
  pub none_told : (es : List E) (k : ℕ) (e : E) (at : Class L) (old new : List (ℕ × L)) (all : List (ℕ × Parts))
      → k < length es → e ≡ get_or es k e → class_map now at ≡ class e → ((id : SessionId) (number : ℕ) (line : L) → at ≡ Hand id number line → ⊥) → new ≡ old
      → told old ++ hands_by class (drop k es) ≡ all → told new ++ hands_by class (drop (k + 1) es) ≡ all
  none_told es k e at old new all lt is of other same was =
      let rest : List (ℕ × Parts) = hands_by class (drop (k + 1) es) in
      ap (λ (l : List (ℕ × L)). told l ++ rest) same
      ∙ (ap (λ (l : List (ℕ × Parts)). told old ++ (l ++ rest)) (no_hand at other ∙ ap (λ (c : Class Parts). numbered (handed_by c)) of)
      ∙ (ap (λ (l : List E). told old ++ hands_by class l) (sym (first_of es k e lt is)) ∙ was))

  module _ {P : Type 0} where
    -- the effects that left are listed, and no longer to come
    pub left_told : (outs : List (Outcome E P)) (k : ℕ) (o : Outcome E P) (place : ℕ) (effects : Vec E Global) (seen : List E) (old mid new : List (ℕ × L)) (all : List (ℕ × Parts))
        → k < length outs → o ≡ get_or outs k o → o ≡ Left place effects → seen ≡ effects.items → told mid ≡ told old ++ hands_by class seen → new ≡ mid
        → told old ++ handed_in class (drop k outs) ≡ all → told new ++ handed_in class (drop (k + 1) outs) ≡ all
    left_told outs k o place effects seen old mid new all lt is left these more same was =
        let rest : List (ℕ × Parts) = handed_in class (drop (k + 1) outs) in
        ap (λ (l : List (ℕ × L)). told l ++ rest) same
        ∙ (ap (λ (l : List (ℕ × Parts)). l ++ rest) (more ∙ ap (λ (l : List E). told old ++ hands_by class l) these)
        ∙ (append_assoc (told old) (hands_by class effects.items) rest
        ∙ (ap (λ (x : Outcome E P). told old ++ handed_in class (x ∷ drop (k + 1) outs)) (sym left)
        ∙ (ap (λ (l : List (Outcome E P)). told old ++ handed_in class l) (sym (first_of outs k o lt is)) ∙ was))))

    none_left : (o : Outcome E P) (outs : List (Outcome E P)) → ((place : ℕ) (effects : Vec E Global) → o ≡ Left place effects → ⊥) → handed_in class outs ≡ handed_in class (o ∷ outs)
    none_left Quiet outs other = refl
    none_left (Left place effects) outs other = absurd (other place effects refl)
    none_left (Looked place lines) outs other = refl
    none_left (Refused refusal) outs other = refl
    none_left Missing outs other = refl

    -- if no effects left there is nothing to list
    pub rest_told : (outs : List (Outcome E P)) (k : ℕ) (o : Outcome E P) (old new : List (ℕ × L)) (all : List (ℕ × Parts))
        → k < length outs → o ≡ get_or outs k o → ((place : ℕ) (effects : Vec E Global) → o ≡ Left place effects → ⊥) → new ≡ old
        → told old ++ handed_in class (drop k outs) ≡ all → told new ++ handed_in class (drop (k + 1) outs) ≡ all
    rest_told outs k o old new all lt is other same was =
        ap (λ (l : List (ℕ × L)). told l ++ handed_in class (drop (k + 1) outs)) same
        ∙ (ap (λ (l : List (ℕ × Parts)). told old ++ l) (none_left o (drop (k + 1) outs) other)
        ∙ (ap (λ (l : List (Outcome E P)). told old ++ handed_in class l) (sym (first_of outs k o lt is)) ∙ was))

module _ (M : Machine) where
  hands_are : (es : List M.Effect) → hands M es ≡ hands_by M.class es
  hands_are [] = refl
  hands_are (e ∷ es) = ap (λ l. hand_of M e ++ l) (hands_are es)

  hands_append : (xs ys : List M.Effect) → hands M (xs ++ ys) ≡ hands M xs ++ hands M ys
  hands_append [] ys = refl
  hands_append (x ∷ xs) ys = ap (λ l. hand_of M x ++ l) (hands_append xs ys) ∙ sym (append_assoc (hand_of M x) (hands M xs) (hands M ys))

  handed_are : (outs : List (Outcome M.Effect M.Played)) → handed_in M.class outs ≡ hands M (left_of M (outs_of M outs))
  handed_are [] = refl
  handed_are (Quiet ∷ outs) = handed_are outs
  handed_are (Left place effects ∷ outs) =
      ap (λ l. hands_by M.class effects.items ++ l) (handed_are outs) ∙ ap (λ l. l ++ hands M (left_of M (outs_of M outs))) (sym (hands_are effects.items))
      ∙ sym (hands_append effects.items (left_of M (outs_of M outs)))
  handed_are (Looked place lines ∷ outs) = handed_are outs
  handed_are (Refused refusal ∷ outs) = handed_are outs
  handed_are (Missing ∷ outs) = handed_are outs

  pub handed_of_world : {Setup : Type 0} (w : WorldParts Setup M.Body M.Effect M.Played) (lines : List (ℕ × Parts)) → lines ≡ handed_in M.class w.outs → IsHandedOf M w lines
  handed_of_world w lines e size es h = e ∙ handed_are w.outs ∙ ap (λ outs. hands M (left_of M outs)) h.outs
