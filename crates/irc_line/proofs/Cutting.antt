-- The places of a line's command cut its parts out of its canonical spelling.
use Rattle.std.proofs.Common.{◌≡◌, ℕ, Bool, true, false, ◌+◌, ◌-◌, ◌≤◌, List, [], ◌∷◌, ◌++◌, length, take, drop, map, refl, ap, sym, subst, ◌∙◌, arith, append_assoc}
use Rattle.std.proofs.Math.Seq.{drop-append_seam, take-append_seam}
use Rattle.std.proofs.lemmas.List.{length-append, length-map, take_rest}
use Rattle.std.specs.Prelude.{◌==◌, if◌then◌else◌, slice_range, Option, Some, None, IsTrue}
use Rattle.irc_line.specs.Names.{same_bytes}
use Rattle.irc_line.specs.Lines.{Parts, is_line, parts, spelled_parameters, spelled_prefix, spelling}
use Rattle.irc_line.specs.Grammar.{upper}
use Rattle.irc_line.specs.Reading.{parameters_of, drafted}
use Rattle.irc_line.specs.Places.{IsCut, IsHeld, cut_parts, cut_prefix}
use Rattle.irc_line.proofs.Building.{line_facts, line_with_prefix}
use Rattle.irc_line.proofs.Canonical.{tail_spelled}
use Rattle.irc_line.proofs.Grammar.{tail_read}
use Rattle.irc_line.proofs.Numbers.{eq_of}
use Rattle.irc_line.proofs.SameBytes.{same_bytes-eq}

-- the bytes between two fronts
between : (a b c : List ℕ) → slice_range (a ++ (b ++ c)) (length a) (length a + length b) ≡ b
between a b c =
    let wide : length a + length b - length a ≡ length b = omega arith in
    rw (drop-append_seam a (b ++ c), wide) (take-append_seam b c)

prefix_cut_by : (q rest text : List ℕ) (n : ℕ) (v : Bool) → text ≡ 58 ∷ (q ++ 32 ∷ rest) → n ≡ 2 + length q → (n == 0) ≡ v
    → (if v then None else Some (slice_range text 1 (n - 1))) ≡ Some q
prefix_cut_by q rest text n true t e b = absurd (let zero = eq_of n 0 b in omega arith)
prefix_cut_by q rest text n false t e b =
    let place : n - 1 ≡ 1 + length q = omega arith in
    rw (t, place) (ap Some (between (58 ∷ []) q (32 ∷ rest)))

-- the prefix, cut out of bytes that begin with its spelling
prefix_cut : (o : Option (List ℕ)) (rest : List ℕ) → cut_prefix (spelled_prefix o ++ rest) (length (spelled_prefix o)) ≡ o
prefix_cut None rest = refl
prefix_cut (Some q) rest =
    let n : length (spelled_prefix (Some q)) ≡ 2 + length q = rw (length-append q (32 ∷ [])) (omega arith) in
    let whole : spelled_prefix (Some q) ++ rest ≡ 58 ∷ (q ++ 32 ∷ rest) = ap (λ t. 58 ∷ t) (append_assoc q (32 ∷ []) rest) in
    prefix_cut_by q rest (spelled_prefix (Some q) ++ rest) (length (spelled_prefix (Some q))) (length (spelled_prefix (Some q)) == 0) whole n refl

prefix_room : (o : Option (List ℕ)) → ¬ (length (spelled_prefix o) ≡ 0) → 2 ≤ length (spelled_prefix o)
prefix_room None h = absurd (h refl)
prefix_room (Some q) h = rw (length-append q (32 ∷ [])) (omega arith)

-- the canonical spelling as its three pieces, the last two joined
pieces : (p : Parts) → spelling p ≡ spelled_prefix p.prefix ++ (p.command ++ spelled_parameters p.command p.parameters)
unfolding spelling
pieces p = append_assoc (spelled_prefix p.prefix) p.command (spelled_parameters p.command p.parameters)

-- what follows the command
behind_command : (p : Parts) → drop (length (spelled_prefix p.prefix) + length p.command) (spelling p) ≡ spelled_parameters p.command p.parameters
unfolding spelling
behind_command p = rw (← length-append (spelled_prefix p.prefix) p.command) (drop-append_seam (spelled_prefix p.prefix ++ p.command) (spelled_parameters p.command p.parameters))

spelling_cut : (p : Parts) → IsTrue (is_line p) → cut_parts (spelling p) (length (spelled_prefix p.prefix)) (length (spelled_prefix p.prefix) + length p.command) ≡ p
spelling_cut p h =
    let rest = p.command ++ spelled_parameters p.command p.parameters in
    let prefix : cut_prefix (spelling p) (length (spelled_prefix p.prefix)) ≡ p.prefix = rw (pieces p) (prefix_cut p.prefix rest) in
    let command : slice_range (spelling p) (length (spelled_prefix p.prefix)) (length (spelled_prefix p.prefix) + length p.command) ≡ p.command =
    rw (pieces p) (between (spelled_prefix p.prefix) p.command (spelled_parameters p.command p.parameters)) in
    let parameters : parameters_of (drop (length (spelled_prefix p.prefix) + length p.command) (spelling p)) ≡ p.parameters =
    rw (behind_command p) (tail_read (tail_spelled p.command p.parameters (line_facts p h).parameters)) in
    rw (prefix, command, parameters) refl

spelling_end : (p : Parts) → length (spelled_prefix p.prefix) + length p.command ≤ length (spelling p)
unfolding spelling
spelling_end p = rw (length-append (spelled_prefix p.prefix ++ p.command) (spelled_parameters p.command p.parameters), length-append (spelled_prefix p.prefix) p.command) (omega arith)

-- the places of a line's command cut the line's own parts out of its canonical spelling
pub cut_is : (text : List ℕ) (command tail : ℕ) (p : Parts) → IsCut text command tail p → cut_parts text command tail ≡ p
cut_is text command tail p h = rw (h.tail_place, h.command_place, h.whole) (spelling_cut p h.line)

-- a line may therefore be held as that spelling and those places
pub cut_held : (text : List ℕ) (command tail : ℕ) (p : Parts) → IsCut text command tail p → IsHeld text command tail
cut_held text command tail p h =
    let same = cut_is text command tail p h in
    let end : tail ≤ length text = rw (h.tail_place, h.command_place, h.whole) (spelling_end p) in
    let place = h.tail_place in
    record { cut = subst (λ q. IsCut text command tail q) (sym same) h; command_end = omega arith; tail_end = end; prefix_end = λ n. rw h.command_place (prefix_room p.prefix (λ e. n (h.command_place ∙ e))) }

-- what was spelled piece by piece
pub spelled_cut : (p : Parts) (none front named text : List ℕ) (start end : ℕ) → IsTrue (is_line p) → none ≡ [] → front ≡ none ++ spelled_prefix p.prefix → start ≡ length front
    → named ≡ front ++ p.command → end ≡ length named → text ≡ named ++ spelled_parameters p.command p.parameters → IsCut text start end p
unfolding spelling
spelled_cut p none front named text start end h n f s m e t =
    let first : front ≡ spelled_prefix p.prefix = f ∙ ap (λ x. x ++ spelled_prefix p.prefix) n in
    let second : named ≡ spelled_prefix p.prefix ++ p.command = m ∙ ap (λ x. x ++ p.command) first in
    record {
      line = h;
      whole = t ∙ ap (λ x. x ++ spelled_parameters p.command p.parameters) second;
      command_place = s ∙ ap length first;
      tail_place = e ∙ ap length second ∙ length-append (spelled_prefix p.prefix) p.command ∙ ap (λ x. x + length p.command) (sym (s ∙ ap length first));
    }

-- where the text is the draft's canonical spelling already
pub draft_cut : (p : Parts) (prefix : Option (List ℕ)) (word tail bytes text : List ℕ) (start : ℕ) → drafted prefix word tail ≡ p → IsTrue (is_line p) → same_bytes (spelling p) bytes ≡ true
    → text ≡ bytes → start ≡ length (spelled_prefix prefix) → IsCut text start (start + length word) p
draft_cut p prefix word tail bytes text start d h e t s =
    let name : p.prefix ≡ prefix = ap (λ q. q.prefix) (sym d) in
    let command : p.command ≡ map upper word = ap (λ q. q.command) (sym d) in
    record {
      line = h;
      whole = t ∙ sym (same_bytes-eq (spelling p) bytes e);
      command_place = rw name s;
      tail_place = rw (command, length-map) refl;
    }

-- what follows the prefix of a line is the line without it
bare_cut : (text : List ℕ) (command tail : ℕ) (p : Parts) → IsCut text command tail p → IsCut (drop command text) 0 (tail - command) (parts None p.command p.parameters)
unfolding spelling
bare_cut text command tail p h =
    let whole : drop command text ≡ p.command ++ spelled_parameters p.command p.parameters =
    rw (h.command_place, h.whole, pieces p) (drop-append_seam (spelled_prefix p.prefix) (p.command ++ spelled_parameters p.command p.parameters)) in
    let place = h.tail_place in
    record { line = line_with_prefix None p h.line refl; whole = whole; command_place = refl; tail_place = omega arith }

pub rest_cut : (p : Parts) (text spelled rest : List ℕ) (command tail : ℕ) → cut_parts text command tail ≡ p → IsHeld text command tail → spelled ≡ spelling p
    → rest ≡ take (length spelled - command) (drop command spelled) → IsCut rest 0 (tail - command) (parts None p.command p.parameters)
rest_cut p text spelled rest command tail v h s r =
    let cut : IsCut text command tail p = subst (λ q. IsCut text command tail q) v h.cut in
    let same : rest ≡ drop command text = r ∙ take_rest spelled command ∙ ap (λ x. drop command x) (s ∙ sym cut.whole) in
    subst (λ x. IsCut x 0 (tail - command) (parts None p.command p.parameters)) (sym same) (bare_cut text command tail p cut)
