-- No two events have one line.
use Rattle.std.proofs.Common.{◌≡◌, ℕ, Bool, true, false, List, ◌∷◌, ◌++◌, refl, sym, ap, subst, arith}
use Rattle.std.specs.Prelude.{codes, Some, None, decimal}
use Rattle.std.proofs.lemmas.Fmt.{decimal_injective}
use Rattle.hex.specs.Hex.{IsBytes, encode_lower}
use Rattle.hex.proofs.HexLemmas.{decode_of-encode_lower}
use Rattle.irc_line.specs.Lines.{Parts, spelling}
use Rattle.irc_line.proofs.Canonical.{one_line}
use Rattle.raft_log.specs.Lists.{IsNode}
use Rattle.world_events.specs.declared.event.Input.{Input}
use Rattle.world_events.specs.declared.event.Input.TheVariants as input
use Rattle.world_events.specs.declared.event.Event.{Event}
use Rattle.world_events.specs.declared.event.Event.TheVariants.{Does, Restart, StopIn}
use Rattle.recorder.specs.declared.kind.Kind.{Kind}
use Rattle.recorder.specs.EventText.{fields, kind_of, node_and, number_and}
use Rattle.recorder.specs.InputReadings.{FitsEvent, FitsInput, text_of_event, text_of_input}
use Rattle.recorder.specs.Kinds.{kind_of_word, side_of_word, side_word, word}
use Rattle.recorder.specs.Readings.{FitsDigits, IsWord}
use Rattle.recorder.specs.Splits.{split_at}
use Rattle.recorder.proofs.Beginnings.{input_split, word_found}
use Rattle.recorder.proofs.ByKind.{behind_number, of_apply, of_ask, of_beat, of_claim, of_closed, of_deliver, of_heard, of_look, of_opened, of_timeout, one_number}
use Rattle.recorder.proofs.Fronts.{node_small}
use Rattle.recorder.proofs.Splits.{joined}

-- a word belongs to one kind
one_kind : (j k : Kind) → word j ≡ word k → j ≡ k
one_kind j k e = let f = word_found j in let g = word_found k in cc

-- and a side's word to one side
side_found : (b : Bool) → side_of_word (side_word b) ≡ Some b
side_found false = refl
side_found true = refl

one_side : (a b : Bool) → side_word a ≡ side_word b → a ≡ b
one_side a b e = let f = side_found a in let g = side_found b in cc

side_lacks : (b : Bool) → split_at 32 (side_word b) ≡ None
side_lacks false = refl
side_lacks true = refl

-- digits belong to one number, and to one node
one_of : (m n : ℕ) → IsWord m → IsWord n → decimal m ≡ decimal n → m ≡ n
one_of m n a b e = decimal_injective m n a b e

node_of : (m n : ℕ) → IsNode m → IsNode n → decimal m ≡ decimal n → m ≡ n
node_of m n a b e = one_of m n (node_small m a) (node_small n b) e

-- a number and what follows it
front_of : (m n : ℕ) (s tail : List ℕ) → IsWord m → IsWord n → number_and m s ≡ number_and n tail → (m ≡ n) × (s ≡ tail)
front_of m n s tail a b e = (one_number (number_and n tail) tail n b refl m s a e, behind_number (number_and n tail) tail n b refl m s a e)

one_digits : (a b : List ℕ) → IsBytes a → IsBytes b → encode_lower a ≡ encode_lower b → a ≡ b
one_digits a b h k e = let f = decode_of-encode_lower a h in let g = decode_of-encode_lower b k in cc

-- Over bodies, with their spelling and limits, where no two have one spelling
module _ {B : Type 0} (spelled : B → List ℕ) (fits : B → Type 0) (own : (a b : B) → fits a → fits b → spelled a ≡ spelled b → a ≡ b) where
  one_body : (a b : B) → FitsDigits fits spelled a → FitsDigits fits spelled b → encode_lower (spelled a) ≡ encode_lower (spelled b) → a ≡ b
  one_body a b h k e = own a b h.0 k.0 (one_digits (spelled a) (spelled b) h.1 k.1 e)

  -- inputs of one kind with the same fields are equal
  one_of_fields : (x y : Input B Parts (List ℕ)) → FitsInput spelled fits x → FitsInput spelled fits y → kind_of spelled spelling y ≡ kind_of spelled spelling x → fields spelled spelling y ≡ fields spelled spelling x → x ≡ y
  one_of_fields (input.Timeout n) y f g = of_timeout spelled fits (λ z. input.Timeout n ≡ z) (decimal n) (λ m h e. let same : m ≡ n = node_of m n h f e in cc) y g
  one_of_fields (input.Beat n) y f g = of_beat spelled fits (λ z. input.Beat n ≡ z) (decimal n) (λ m h e. let same : m ≡ n = node_of m n h f e in cc) y g
  one_of_fields (input.Deliver n k) y f g =
      of_deliver spelled fits (λ z. input.Deliver n k ≡ z) (node_and n (decimal k)) (λ m j h small e.
      let p = front_of m n (decimal j) (decimal k) (node_small m h) (node_small n f.0) e in
      let node : m ≡ n = p.0 in
      let same : j ≡ k = one_of j k small f.1 p.1 in
      cc) y g
  one_of_fields (input.Ask n b) y f g =
      of_ask spelled fits (λ z. input.Ask n b ≡ z) (node_and n (encode_lower (spelled b))) (λ m d h fit e.
      let p = front_of m n (encode_lower (spelled d)) (encode_lower (spelled b)) (node_small m h) (node_small n f.0) e in
      let node : m ≡ n = p.0 in
      let same : d ≡ b = one_body d b fit f.1 p.1 in
      cc) y g
  one_of_fields (input.Opened n) y f g = of_opened spelled fits (λ z. input.Opened n ≡ z) (decimal n) (λ m h e. let same : m ≡ n = node_of m n h f e in cc) y g
  one_of_fields (input.Closed n) y f g = of_closed spelled fits (λ z. input.Closed n ≡ z) (decimal n) (λ m h e. let same : m ≡ n = node_of m n h f e in cc) y g
  one_of_fields (input.Heard n at l) y f g =
      of_heard spelled fits (λ z. input.Heard n at l ≡ z) (node_and n (number_and at (spelling l))) (λ m t k h small fit e.
      let p = front_of m n (number_and t (spelling k)) (number_and at (spelling l)) (node_small m h) (node_small n f.0) e in
      let q = front_of t at (spelling k) (spelling l) (omega (arith, small)) (omega (arith, f.1.0)) p.1 in
      let node : m ≡ n = p.0 in
      let moment : t ≡ at = q.0 in
      let same : k ≡ l = one_line k l fit.0 f.1.1.0 q.1 in
      cc) y g
  one_of_fields (input.Claim n) y f g = of_claim spelled fits (λ z. input.Claim n ≡ z) (decimal n) (λ m h e. let same : m ≡ n = node_of m n h f e in cc) y g
  one_of_fields (input.Apply n) y f g = of_apply spelled fits (λ z. input.Apply n ≡ z) (decimal n) (λ m h e. let same : m ≡ n = node_of m n h f e in cc) y g
  one_of_fields (input.Look n place target) y f g =
      of_look spelled fits (λ z. input.Look n place target ≡ z) (node_and n (number_and place target)) (λ m j name h small fit e.
      let p = front_of m n (number_and j name) (number_and place target) (node_small m h) (node_small n f.0) e in
      let q = front_of j place name target small f.1.0 p.1 in
      let node : m ≡ n = p.0 in
      let number : j ≡ place = q.0 in
      let same : name ≡ target = q.1 in
      cc) y g

  -- no two inputs have one line
  one_input : (x y : Input B Parts (List ℕ)) → FitsInput spelled fits x → FitsInput spelled fits y → text_of_input spelled fits x ≡ text_of_input spelled fits y → x ≡ y
  one_input x y f g t =
      let p = input_split spelled fits (text_of_input spelled fits y) x t in
      let q = input_split spelled fits (text_of_input spelled fits y) y refl in
      let pair : (word (kind_of spelled spelling y), fields spelled spelling y) ≡ (word (kind_of spelled spelling x), fields spelled spelling x) = cc in
      one_of_fields x y f g (one_kind (kind_of spelled spelling y) (kind_of spelled spelling x) (ap (λ (s : List ℕ × List ℕ). s.0) pair)) (ap (λ (s : List ℕ × List ℕ). s.1) pair)

  -- the first word of an event's line, and what follows it
  abbrev front : Event B Parts (List ℕ) → List ℕ
  front (Does x) = word (kind_of spelled spelling x)
  front (Restart n) = codes "restart"
  front (StopIn x after) = codes "stop"

  abbrev tail : Event B Parts (List ℕ) → List ℕ
  tail (Does x) = fields spelled spelling x
  tail (Restart n) = decimal n
  tail (StopIn x after) = side_word after ++ 32 ∷ text_of_input spelled fits x

  event_parts : (e : Event B Parts (List ℕ)) → split_at 32 (text_of_event spelled fits e) ≡ Some (front e, tail e)
  event_parts (Does x) = input_split spelled fits (text_of_input spelled fits x) x refl
  event_parts (Restart n) = joined 32 (codes "restart") (decimal n) refl
  event_parts (StopIn x false) = joined 32 (codes "stop") (side_word false ++ 32 ∷ text_of_input spelled fits x) refl
  event_parts (StopIn x true) = joined 32 (codes "stop") (side_word true ++ 32 ∷ text_of_input spelled fits x) refl

  same_parts : (e f : Event B Parts (List ℕ)) → text_of_event spelled fits e ≡ text_of_event spelled fits f → (front e ≡ front f) × (tail e ≡ tail f)
  same_parts e f t =
      let p = event_parts e in
      let q = event_parts f in
      let pair : (front e, tail e) ≡ (front f, tail f) = cc in
      (ap (λ (s : List ℕ × List ℕ). s.0) pair, ap (λ (s : List ℕ × List ℕ). s.1) pair)

  -- no kind's word is another word
  other_word : (x : Input B Parts (List ℕ)) (w : List ℕ) → kind_of_word w ≡ None → word (kind_of spelled spelling x) ≡ w → ⊥
  other_word x w none e =
      let some : kind_of_word w ≡ Some (kind_of spelled spelling x) = subst (λ (b : List ℕ). kind_of_word b ≡ Some (kind_of spelled spelling x)) e (word_found (kind_of spelled spelling x)) in
      absurd cc

  one_stop : (x y : Input B Parts (List ℕ)) (a b : Bool) → FitsInput spelled fits x → FitsInput spelled fits y → side_word a ++ 32 ∷ text_of_input spelled fits x ≡ side_word b ++ 32 ∷ text_of_input spelled fits y → (x ≡ y) × (a ≡ b)
  one_stop x y a b f g t =
      let p = joined 32 (side_word a) (text_of_input spelled fits x) (side_lacks a) in
      let q = joined 32 (side_word b) (text_of_input spelled fits y) (side_lacks b) in
      let pair : (side_word a, text_of_input spelled fits x) ≡ (side_word b, text_of_input spelled fits y) = cc in
      (one_input x y f g (ap (λ (s : List ℕ × List ℕ). s.1) pair), one_side a b (ap (λ (s : List ℕ × List ℕ). s.0) pair))

  -- no two events have one line
  pub one_event : (e f : Event B Parts (List ℕ)) → FitsEvent spelled fits e → FitsEvent spelled fits f → text_of_event spelled fits e ≡ text_of_event spelled fits f → e ≡ f
  one_event (Does x) (Does y) h k t = let same : x ≡ y = one_input x y h k t in cc
  one_event (Does x) (Restart n) h k t = absurd (other_word x (codes "restart") refl (same_parts (Does x) (Restart n) t).0)
  one_event (Does x) (StopIn y b) h k t = absurd (other_word x (codes "stop") refl (same_parts (Does x) (StopIn y b) t).0)
  one_event (Restart n) (Does y) h k t = absurd (other_word y (codes "restart") refl (sym (same_parts (Restart n) (Does y) t).0))
  one_event (Restart n) (Restart m) h k t = let same : n ≡ m = node_of n m h k (same_parts (Restart n) (Restart m) t).1 in cc
  one_event (Restart n) (StopIn y b) h k t = let same : codes "restart" ≡ codes "stop" = (same_parts (Restart n) (StopIn y b) t).0 in absurd cc
  one_event (StopIn x a) (Does y) h k t = absurd (other_word y (codes "stop") refl (sym (same_parts (StopIn x a) (Does y) t).0))
  one_event (StopIn x a) (Restart m) h k t = let same : codes "stop" ≡ codes "restart" = (same_parts (StopIn x a) (Restart m) t).0 in absurd cc
  one_event (StopIn x a) (StopIn y b) h k t =
      let p = one_stop x y a b h k (same_parts (StopIn x a) (StopIn y b) t).1 in
      let input : x ≡ y = p.0 in
      let side : a ≡ b = p.1 in
      cc
