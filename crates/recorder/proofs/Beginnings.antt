-- Lines that begin with the word of a kind.
use Rattle.std.proofs.Common.{◌≡◌, ℕ, Bool, true, false, List, Result, Ok, Err, refl, sym, ap, subst, ◌∙◌}
use Rattle.std.specs.Prelude.{if◌then◌else◌, IfOk, Option, Some, None}
use Rattle.irc_line.specs.Lines.{Parts, spelling}
use Rattle.irc_line.specs.Names.{same_bytes}
use Rattle.irc_line.proofs.SameBytes.{same_bytes-eq}
use Rattle.world_events.specs.declared.event.Input.{Input}
use Rattle.recorder.specs.declared.kind.Kind.{Kind}
use Rattle.recorder.specs.declared.kind.Kind.TheVariants.{Timeout, Beat, Deliver, Ask, Opened, Closed, Heard, Claim, Apply, Look}
use Rattle.recorder.specs.EventText.{kind_of, fields}
use Rattle.recorder.specs.InputReadings.{FitsInput, ReadsFields, text_of_input}
use Rattle.recorder.specs.Kinds.{word, kind_of_word}
use Rattle.recorder.specs.Readings.{ReadsAs}
use Rattle.recorder.specs.Splits.{split_at}
use Rattle.recorder.proofs.Splits.{joined, parts}

step : (w : List ℕ) (k found : Kind) (rest : Option Kind) (t : Bool) → same_bytes w (word k) ≡ t → (rest ≡ Some found → word found ≡ w) → (if t then Some k else rest) ≡ Some found → word found ≡ w
step w k found rest true h more e = let same : k ≡ found = cc in ap word (sym same) ∙ sym (same_bytes-eq w (word k) h)
step w k found rest false h more e = more e

-- a kind has the word by which it was found
pub word_back : (w : List ℕ) (k : Kind) → kind_of_word w ≡ Some k → word k ≡ w
word_back w k e =
    step w Timeout k _ _ refl (λ e. step w Beat k _ _ refl (λ e. step w Deliver k _ _ refl (λ e. step w Ask k _ _ refl (λ e. step w Opened k _ _ refl
    (λ e. step w Closed k _ _ refl (λ e. step w Heard k _ _ refl (λ e. step w Claim k _ _ refl (λ e. step w Apply k _ _ refl (λ e. step w Look k _ _ refl (λ e. absurd cc) e) e) e) e) e) e) e) e) e) e

-- a kind is found by its word
pub word_found : (k : Kind) → kind_of_word (word k) ≡ Some k
word_found Timeout = refl
word_found Beat = refl
word_found Deliver = refl
word_found Ask = refl
word_found Opened = refl
word_found Closed = refl
word_found Heard = refl
word_found Claim = refl
word_found Apply = refl
word_found Look = refl

word_lacks : (k : Kind) → split_at 32 (word k) ≡ None
word_lacks Timeout = refl
word_lacks Beat = refl
word_lacks Deliver = refl
word_lacks Ask = refl
word_lacks Opened = refl
word_lacks Closed = refl
word_lacks Heard = refl
word_lacks Claim = refl
word_lacks Apply = refl
word_lacks Look = refl

-- Over bodies, with their spelling and limits
module _ {B : Type 0} (spelled : B → List ℕ) (fits : B → Type 0) where
  -- where to split the line of an input in two
  pub input_split : (line : List ℕ) (x : Input B Parts (List ℕ)) → text_of_input spelled fits x ≡ line → split_at 32 line ≡ Some (word (kind_of spelled spelling x), fields spelled spelling x)
  input_split line x e = rw (← e) (joined 32 (word (kind_of spelled spelling x)) (fields spelled spelling x) (word_lacks (kind_of spelled spelling x)))

  -- no input has a line that can't be split in two
  pub no_input : (line : List ℕ) → split_at 32 line ≡ None → (x : Input B Parts (List ℕ)) → FitsInput spelled fits x → text_of_input spelled fits x ≡ line → ⊥
  no_input line s x f e = let p = input_split line x e in absurd cc

  same_word : (line w rest : List ℕ) (x : Input B Parts (List ℕ)) → split_at 32 line ≡ Some (w, rest) → text_of_input spelled fits x ≡ line → (word (kind_of spelled spelling x) ≡ w) × (fields spelled spelling x ≡ rest)
  same_word line w rest x s e =
      let p = input_split line x e in
      let pair : (word (kind_of spelled spelling x), fields spelled spelling x) ≡ (w, rest) = cc in
      (ap (λ (q : List ℕ × List ℕ). q.0) pair, ap (λ (q : List ℕ × List ℕ). q.1) pair)

  -- nor one whose word is no kind's
  pub no_kind : (line w rest : List ℕ) → split_at 32 line ≡ Some (w, rest) → kind_of_word w ≡ None → (x : Input B Parts (List ℕ)) → FitsInput spelled fits x → text_of_input spelled fits x ≡ line → ⊥
  no_kind line w rest s none x f e =
      let p = same_word line w rest x s e in
      let some : kind_of_word w ≡ Some (kind_of spelled spelling x) = subst (λ (b : List ℕ). kind_of_word b ≡ Some (kind_of spelled spelling x)) p.0 (word_found (kind_of spelled spelling x)) in
      absurd cc

  other_fields : (line w rest : List ℕ) (kind : Kind) → split_at 32 line ≡ Some (w, rest) → kind_of_word w ≡ Some kind → ReadsFields spelled fits kind rest None
      → (x : Input B Parts (List ℕ)) → FitsInput spelled fits x → text_of_input spelled fits x ≡ line → ⊥
  other_fields line w rest kind s is none x f e =
      let p = same_word line w rest x s e in
      let some : kind_of_word w ≡ Some (kind_of spelled spelling x) = subst (λ (b : List ℕ). kind_of_word b ≡ Some (kind_of spelled spelling x)) p.0 (word_found (kind_of spelled spelling x)) in
      let same : kind_of spelled spelling x ≡ kind = cc in
      none x f same p.1

  -- reading the fields reads the line
  pub input_read : {E : Type 0} (line w rest : List ℕ) (kind : Kind) (r : Result (Option (Input B Parts (List ℕ))) E) → split_at 32 line ≡ Some (w, rest) → kind_of_word w ≡ Some kind
      → IfOk r (ReadsFields spelled fits kind rest) → IfOk r (ReadsAs (text_of_input spelled fits) (FitsInput spelled fits) line)
  input_read line w rest kind (Err fault) s is h = tt
  input_read line w rest kind (Ok (Some x)) s is h = (h.0, rw (h.1, h.2, word_back w kind is) (parts 32 line w rest s))
  input_read line w rest kind (Ok None) s is h = λ x f e. other_fields line w rest kind s is h x f e
