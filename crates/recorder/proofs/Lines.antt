-- Lines of events have no LF before their end.
use Rattle.std.proofs.Common.{◌≡◌, ℕ, Bool, true, false, not, List, [], ◌∷◌, ◌++◌, refl, sym, ap, subst, ◌∙◌, append_assoc, arith}
use Rattle.std.specs.Prelude.{◌==◌, if◌then◌else◌, Option, Some, None, codes, decimal, IsTrue}
use Rattle.std.specs.List.{list_all}
use Rattle.std.proofs.lemmas.Bool.Decides.{nat_tests}
use Rattle.std.proofs.lemmas.List.Sums.{list_all-from_AllPass}
use Rattle.hex.specs.Hex.{IsBytes, encode_lower, is_hex_digit}
use Rattle.hex.proofs.HexLemmas.{decode_of-encode_lower, decode_of-ok}
use Rattle.irc_line.specs.Lines.{Parts, spelling}
use Rattle.irc_line.specs.Names.{first_is, is_content_byte, is_name, is_name_byte}
use Rattle.irc_line.proofs.Booleans.{and_left, and_right}
use Rattle.irc_line.proofs.Canonical.{line_content}
use Rattle.wire_bytes.specs.Contents.{FitsLine}
use Rattle.world_events.specs.declared.event.Input.{Input}
use Rattle.world_events.specs.declared.event.Input.TheVariants as input
use Rattle.world_events.specs.declared.event.Event.{Event}
use Rattle.world_events.specs.declared.event.Event.TheVariants.{Does, Restart, StopIn}
use Rattle.recorder.specs.declared.kind.Kind.{Kind}
use Rattle.recorder.specs.declared.kind.Kind.TheVariants as kind
use Rattle.recorder.specs.EventText.{fields, kind_of, number_and}
use Rattle.recorder.specs.EventLists.{FitsFirst, line_and}
use Rattle.recorder.specs.InputReadings.{FitsEvent, FitsInput, text_of_event, text_of_input}
use Rattle.recorder.specs.Kinds.{word}
use Rattle.recorder.specs.Readings.{IsWord, ReadsAs}
use Rattle.recorder.specs.Splits.{put_first, split_at}
use Rattle.recorder.proofs.Fronts.{node_small}
use Rattle.recorder.proofs.Splits.{joined, number_lacks, parts}

lacks_by : (m b : ℕ) (s back : List ℕ) (t : Bool) (r q : Option (List ℕ × List ℕ)) → (if t then Some ([], s) else put_first b r) ≡ None → (r ≡ None → q ≡ None) → (if t then Some ([], s ++ back) else put_first b q) ≡ None
lacks_by m b s back true r q h more = absurd cc
lacks_by m b s back false None q h more = let e : q ≡ None = more refl in rw e refl
lacks_by m b s back false (Some p) q h more = absurd cc

-- if two texts lack a byte, so does the joined text
pub both_lack : (m : ℕ) (s back : List ℕ) → split_at m s ≡ None → split_at m back ≡ None → split_at m (s ++ back) ≡ None
both_lack m [] back h k = k
both_lack m (b ∷ s) back h k = lacks_by m b s back (b == m) (split_at m s) (split_at m (s ++ back)) h (λ e. both_lack m s back e k)

lacks_step : (m b : ℕ) (test : ℕ → Bool) (s : List ℕ) (t : Bool) → (b == m) ≡ t → test m ≡ false → list_all test (b ∷ s) ≡ true → split_at m s ≡ None → (if t then Some ([], s) else put_first b (split_at m s)) ≡ None
lacks_step m b test s true is h all more =
    let same : b ≡ m = grind (arith, nat_tests) in
    let passes : test m ≡ true = subst (λ (x : ℕ). test x ≡ true) same (and_left (test b) (list_all test s) all) in
    absurd cc
lacks_step m b test s false is h all more = rw more refl

-- a text whose bytes pass a test lacks a byte that does not
pub tested_lack : (m : ℕ) (test : ℕ → Bool) (s : List ℕ) → test m ≡ false → list_all test s ≡ true → split_at m s ≡ None
tested_lack m test [] h all = refl
tested_lack m test (b ∷ s) h all = lacks_step m b test s (b == m) refl h all (tested_lack m test s h (and_right (test b) (list_all test s) all))

-- names, lines and digits lack an LF

name_lacks : (name : List ℕ) → IsTrue (is_name name) → split_at 10 name ≡ None
unfolding is_name
name_lacks name h = tested_lack 10 is_name_byte name refl (and_right _ (list_all is_name_byte name) (and_left _ (not (first_is 58 name)) h))

line_lacks : (p : Parts) → FitsLine p → split_at 10 (spelling p) ≡ None
line_lacks p h = tested_lack 10 is_content_byte (spelling p) refl (line_content p h.0)

pub digits_lack : (bytes : List ℕ) → IsBytes bytes → split_at 10 (encode_lower bytes) ≡ None
digits_lack bytes are = tested_lack 10 is_hex_digit (encode_lower bytes) refl (list_all-from_AllPass is_hex_digit (encode_lower bytes) (decode_of-ok (encode_lower bytes) bytes (decode_of-encode_lower bytes are)).1)

number_lack : (n : ℕ) → IsWord n → split_at 10 (decimal n) ≡ None
number_lack n small = number_lacks 10 n (omega arith) small

space_lacks : (s : List ℕ) → split_at 10 s ≡ None → split_at 10 (32 ∷ s) ≡ None
space_lacks s h = both_lack 10 (32 ∷ []) s refl h

front_lacks : (n : ℕ) (s : List ℕ) → IsWord n → split_at 10 s ≡ None → split_at 10 (number_and n s) ≡ None
front_lacks n s small h = both_lack 10 (decimal n) (32 ∷ s) (number_lack n small) (space_lacks s h)

word_lack : (k : Kind) → split_at 10 (word k) ≡ None
word_lack kind.Timeout = refl
word_lack kind.Beat = refl
word_lack kind.Deliver = refl
word_lack kind.Ask = refl
word_lack kind.Opened = refl
word_lack kind.Closed = refl
word_lack kind.Heard = refl
word_lack kind.Claim = refl
word_lack kind.Apply = refl
word_lack kind.Look = refl

-- Over bodies, with their spelling and limits
module _ {B : Type 0} (spelled : B → List ℕ) (fits : B → Type 0) where
  fields_lack : (x : Input B Parts (List ℕ)) → FitsInput spelled fits x → split_at 10 (fields spelled spelling x) ≡ None
  fields_lack (input.Timeout n) f = number_lack n (node_small n f)
  fields_lack (input.Beat n) f = number_lack n (node_small n f)
  fields_lack (input.Deliver n k) f = front_lacks n (decimal k) (node_small n f.0) (number_lack k f.1)
  fields_lack (input.Ask n b) f = front_lacks n (encode_lower (spelled b)) (node_small n f.0) (digits_lack (spelled b) f.1.1)
  fields_lack (input.Opened n) f = number_lack n (node_small n f)
  fields_lack (input.Closed n) f = number_lack n (node_small n f)
  fields_lack (input.Heard n at l) f = front_lacks n (number_and at (spelling l)) (node_small n f.0) (front_lacks at (spelling l) (omega (arith, f.1.0)) (line_lacks l f.1.1))
  fields_lack (input.Claim n) f = number_lack n (node_small n f)
  fields_lack (input.Apply n) f = number_lack n (node_small n f)
  fields_lack (input.Look n place target) f = front_lacks n (number_and place target) (node_small n f.0) (front_lacks place target f.1.0 (name_lacks target f.1.1))

  input_lacks : (x : Input B Parts (List ℕ)) → FitsInput spelled fits x → split_at 10 (text_of_input spelled fits x) ≡ None
  input_lacks x f = both_lack 10 (word (kind_of spelled spelling x)) (32 ∷ fields spelled spelling x) (word_lack (kind_of spelled spelling x)) (space_lacks (fields spelled spelling x) (fields_lack x f))

  pub event_lacks : (e : Event B Parts (List ℕ)) → FitsEvent spelled fits e → split_at 10 (text_of_event spelled fits e) ≡ None
  event_lacks (Does x) f = input_lacks x f
  event_lacks (Restart n) f = both_lack 10 (codes "restart ") (decimal n) refl (number_lack n (node_small n f))
  event_lacks (StopIn x false) f = both_lack 10 (codes "stop before ") (text_of_input spelled fits x) refl (input_lacks x f)
  event_lacks (StopIn x true) f = both_lack 10 (codes "stop after ") (text_of_input spelled fits x) refl (input_lacks x f)

  -- a text that begins with an event's line and its end is split after that line
  pub line_split : (e : Event B Parts (List ℕ)) (more rest : List ℕ) → FitsEvent spelled fits e → line_and spelled fits (e, more) ≡ rest → split_at 10 rest ≡ Some (text_of_event spelled fits e, more)
  line_split e more rest f t =
      let whole : text_of_event spelled fits e ++ 10 ∷ more ≡ rest = sym (append_assoc (text_of_event spelled fits e) (10 ∷ []) more) ∙ t in
      subst (λ (r : List ℕ). split_at 10 r ≡ Some (text_of_event spelled fits e, more)) whole (joined 10 (text_of_event spelled fits e) more (event_lacks e f))

  -- a text without an LF begins with no event's line
  pub no_line : (rest : List ℕ) → split_at 10 rest ≡ None → (p : Event B Parts (List ℕ) × List ℕ) → FitsFirst spelled fits p → line_and spelled fits p ≡ rest → ⊥
  no_line rest s p f t = let l = line_split p.0 p.1 rest f t in absurd cc

  -- nor does one whose first line is no event
  pub other_line : (rest line behind : List ℕ) → split_at 10 rest ≡ Some (line, behind) → ReadsAs (text_of_event spelled fits) (FitsEvent spelled fits) line None
      → (p : Event B Parts (List ℕ) × List ℕ) → FitsFirst spelled fits p → line_and spelled fits p ≡ rest → ⊥
  other_line rest line behind s none p f t =
      let l = line_split p.0 p.1 rest f t in
      let pair : (text_of_event spelled fits p.0, p.1) ≡ (line, behind) = cc in
      none p.0 f (ap (λ (q : List ℕ × List ℕ). q.0) pair)

  -- the event of the first line, and what follows it
  pub first_line : (rest line behind : List ℕ) (e : Event B Parts (List ℕ)) → split_at 10 rest ≡ Some (line, behind) → text_of_event spelled fits e ≡ line → line_and spelled fits (e, behind) ≡ rest
  first_line rest line behind e s t = append_assoc (text_of_event spelled fits e) (10 ∷ []) behind ∙ (ap (λ (l : List ℕ). l ++ 10 ∷ behind) t ∙ parts 10 rest line behind s)
