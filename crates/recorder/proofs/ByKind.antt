-- Inputs by their kind.
use Rattle.std.proofs.Common.{◌≡◌, ℕ, ◌≤◌, List, ap}
use Rattle.std.specs.Prelude.{decimal, IsTrue}
use Rattle.std.proofs.lemmas.Fmt.{decimal_injective}
use Rattle.hex.specs.Hex.{encode_lower}
use Rattle.irc_line.specs.Lines.{Parts, spelling}
use Rattle.irc_line.specs.Names.{is_name}
use Rattle.raft_log.specs.Lists.{IsNode}
use Rattle.wire_bytes.specs.Contents.{FitsLine}
use Rattle.wire_bytes.specs.Limits.{second_limit}
use Rattle.world_events.specs.declared.event.Input.{Input}
use Rattle.world_events.specs.declared.event.Input.TheVariants as input
use Rattle.recorder.specs.declared.kind.Kind.TheVariants as kind
use Rattle.recorder.specs.EventText.{kind_of, fields, node_and, number_and}
use Rattle.recorder.specs.Readings.{FitsDigits, IsWord}
use Rattle.recorder.specs.InputReadings.{FitsInput}
use Rattle.recorder.proofs.Fronts.{fronted, node_small}

-- only one text can follow a number
pub behind_number : (rest tail : List ℕ) (n : ℕ) → IsWord n → number_and n tail ≡ rest → (m : ℕ) (s : List ℕ) → IsWord m → number_and m s ≡ rest → s ≡ tail
behind_number rest tail n small e m s less is =
    let f = fronted n tail rest small e in
    let g = fronted m s rest less is in
    let pair : (decimal m, s) ≡ (decimal n, tail) = cc in
    ap (λ (p : List ℕ × List ℕ). p.1) pair

-- and only one number can be in front
pub one_number : (rest tail : List ℕ) (n : ℕ) → IsWord n → number_and n tail ≡ rest → (m : ℕ) (s : List ℕ) → IsWord m → number_and m s ≡ rest → m ≡ n
one_number rest tail n small e m s less is =
    let f = fronted n tail rest small e in
    let g = fronted m s rest less is in
    let pair : (decimal m, s) ≡ (decimal n, tail) = cc in
    decimal_injective m n less small (ap (λ (p : List ℕ × List ℕ). p.0) pair)

-- only one text can follow a node
pub behind_node : (rest tail : List ℕ) (n : ℕ) → IsNode n → node_and n tail ≡ rest → (m : ℕ) (s : List ℕ) → IsNode m → node_and m s ≡ rest → s ≡ tail
behind_node rest tail n small e m s less is = behind_number rest tail n (node_small n small) e m s (node_small m less) is

-- Over bodies, with their spelling and limits: what holds of each input of a kind with these fields
module _ {B : Type 0} (spelled : B → List ℕ) (fits : B → Type 0) where
  pub of_timeout : (P : Input B Parts (List ℕ) → Type 0) (rest : List ℕ) → ((n : ℕ) → IsNode n → decimal n ≡ rest → P (input.Timeout n))
      → (x : Input B Parts (List ℕ)) → FitsInput spelled fits x → kind_of spelled spelling x ≡ kind.Timeout → fields spelled spelling x ≡ rest → P x
  of_timeout P rest h (input.Timeout n) f is e = h n f e
  of_timeout P rest h (input.Beat n) f is e = absurd cc
  of_timeout P rest h (input.Deliver n k) f is e = absurd cc
  of_timeout P rest h (input.Ask n b) f is e = absurd cc
  of_timeout P rest h (input.Opened n) f is e = absurd cc
  of_timeout P rest h (input.Closed n) f is e = absurd cc
  of_timeout P rest h (input.Heard n at l) f is e = absurd cc
  of_timeout P rest h (input.Claim n) f is e = absurd cc
  of_timeout P rest h (input.Apply n) f is e = absurd cc
  of_timeout P rest h (input.Look n place target) f is e = absurd cc

  pub of_beat : (P : Input B Parts (List ℕ) → Type 0) (rest : List ℕ) → ((n : ℕ) → IsNode n → decimal n ≡ rest → P (input.Beat n))
      → (x : Input B Parts (List ℕ)) → FitsInput spelled fits x → kind_of spelled spelling x ≡ kind.Beat → fields spelled spelling x ≡ rest → P x
  of_beat P rest h (input.Timeout n) f is e = absurd cc
  of_beat P rest h (input.Beat n) f is e = h n f e
  of_beat P rest h (input.Deliver n k) f is e = absurd cc
  of_beat P rest h (input.Ask n b) f is e = absurd cc
  of_beat P rest h (input.Opened n) f is e = absurd cc
  of_beat P rest h (input.Closed n) f is e = absurd cc
  of_beat P rest h (input.Heard n at l) f is e = absurd cc
  of_beat P rest h (input.Claim n) f is e = absurd cc
  of_beat P rest h (input.Apply n) f is e = absurd cc
  of_beat P rest h (input.Look n place target) f is e = absurd cc

  pub of_deliver : (P : Input B Parts (List ℕ) → Type 0) (rest : List ℕ) → ((n k : ℕ) → IsNode n → IsWord k → node_and n (decimal k) ≡ rest → P (input.Deliver n k))
      → (x : Input B Parts (List ℕ)) → FitsInput spelled fits x → kind_of spelled spelling x ≡ kind.Deliver → fields spelled spelling x ≡ rest → P x
  of_deliver P rest h (input.Timeout n) f is e = absurd cc
  of_deliver P rest h (input.Beat n) f is e = absurd cc
  of_deliver P rest h (input.Deliver n k) f is e = h n k f.0 f.1 e
  of_deliver P rest h (input.Ask n b) f is e = absurd cc
  of_deliver P rest h (input.Opened n) f is e = absurd cc
  of_deliver P rest h (input.Closed n) f is e = absurd cc
  of_deliver P rest h (input.Heard n at l) f is e = absurd cc
  of_deliver P rest h (input.Claim n) f is e = absurd cc
  of_deliver P rest h (input.Apply n) f is e = absurd cc
  of_deliver P rest h (input.Look n place target) f is e = absurd cc

  pub of_ask : (P : Input B Parts (List ℕ) → Type 0) (rest : List ℕ) → ((n : ℕ) (b : B) → IsNode n → FitsDigits fits spelled b → node_and n (encode_lower (spelled b)) ≡ rest → P (input.Ask n b))
      → (x : Input B Parts (List ℕ)) → FitsInput spelled fits x → kind_of spelled spelling x ≡ kind.Ask → fields spelled spelling x ≡ rest → P x
  of_ask P rest h (input.Timeout n) f is e = absurd cc
  of_ask P rest h (input.Beat n) f is e = absurd cc
  of_ask P rest h (input.Deliver n k) f is e = absurd cc
  of_ask P rest h (input.Ask n b) f is e = h n b f.0 f.1 e
  of_ask P rest h (input.Opened n) f is e = absurd cc
  of_ask P rest h (input.Closed n) f is e = absurd cc
  of_ask P rest h (input.Heard n at l) f is e = absurd cc
  of_ask P rest h (input.Claim n) f is e = absurd cc
  of_ask P rest h (input.Apply n) f is e = absurd cc
  of_ask P rest h (input.Look n place target) f is e = absurd cc

  pub of_opened : (P : Input B Parts (List ℕ) → Type 0) (rest : List ℕ) → ((n : ℕ) → IsNode n → decimal n ≡ rest → P (input.Opened n))
      → (x : Input B Parts (List ℕ)) → FitsInput spelled fits x → kind_of spelled spelling x ≡ kind.Opened → fields spelled spelling x ≡ rest → P x
  of_opened P rest h (input.Timeout n) f is e = absurd cc
  of_opened P rest h (input.Beat n) f is e = absurd cc
  of_opened P rest h (input.Deliver n k) f is e = absurd cc
  of_opened P rest h (input.Ask n b) f is e = absurd cc
  of_opened P rest h (input.Opened n) f is e = h n f e
  of_opened P rest h (input.Closed n) f is e = absurd cc
  of_opened P rest h (input.Heard n at l) f is e = absurd cc
  of_opened P rest h (input.Claim n) f is e = absurd cc
  of_opened P rest h (input.Apply n) f is e = absurd cc
  of_opened P rest h (input.Look n place target) f is e = absurd cc

  pub of_closed : (P : Input B Parts (List ℕ) → Type 0) (rest : List ℕ) → ((n : ℕ) → IsNode n → decimal n ≡ rest → P (input.Closed n))
      → (x : Input B Parts (List ℕ)) → FitsInput spelled fits x → kind_of spelled spelling x ≡ kind.Closed → fields spelled spelling x ≡ rest → P x
  of_closed P rest h (input.Timeout n) f is e = absurd cc
  of_closed P rest h (input.Beat n) f is e = absurd cc
  of_closed P rest h (input.Deliver n k) f is e = absurd cc
  of_closed P rest h (input.Ask n b) f is e = absurd cc
  of_closed P rest h (input.Opened n) f is e = absurd cc
  of_closed P rest h (input.Closed n) f is e = h n f e
  of_closed P rest h (input.Heard n at l) f is e = absurd cc
  of_closed P rest h (input.Claim n) f is e = absurd cc
  of_closed P rest h (input.Apply n) f is e = absurd cc
  of_closed P rest h (input.Look n place target) f is e = absurd cc

  pub of_heard : (P : Input B Parts (List ℕ) → Type 0) (rest : List ℕ) → ((n at : ℕ) (l : Parts) → IsNode n → at ≤ second_limit → FitsLine l → node_and n (number_and at (spelling l)) ≡ rest → P (input.Heard n at l))
      → (x : Input B Parts (List ℕ)) → FitsInput spelled fits x → kind_of spelled spelling x ≡ kind.Heard → fields spelled spelling x ≡ rest → P x
  of_heard P rest h (input.Timeout n) f is e = absurd cc
  of_heard P rest h (input.Beat n) f is e = absurd cc
  of_heard P rest h (input.Deliver n k) f is e = absurd cc
  of_heard P rest h (input.Ask n b) f is e = absurd cc
  of_heard P rest h (input.Opened n) f is e = absurd cc
  of_heard P rest h (input.Closed n) f is e = absurd cc
  of_heard P rest h (input.Heard n at l) f is e = h n at l f.0 f.1.0 f.1.1 e
  of_heard P rest h (input.Claim n) f is e = absurd cc
  of_heard P rest h (input.Apply n) f is e = absurd cc
  of_heard P rest h (input.Look n place target) f is e = absurd cc

  pub of_claim : (P : Input B Parts (List ℕ) → Type 0) (rest : List ℕ) → ((n : ℕ) → IsNode n → decimal n ≡ rest → P (input.Claim n))
      → (x : Input B Parts (List ℕ)) → FitsInput spelled fits x → kind_of spelled spelling x ≡ kind.Claim → fields spelled spelling x ≡ rest → P x
  of_claim P rest h (input.Timeout n) f is e = absurd cc
  of_claim P rest h (input.Beat n) f is e = absurd cc
  of_claim P rest h (input.Deliver n k) f is e = absurd cc
  of_claim P rest h (input.Ask n b) f is e = absurd cc
  of_claim P rest h (input.Opened n) f is e = absurd cc
  of_claim P rest h (input.Closed n) f is e = absurd cc
  of_claim P rest h (input.Heard n at l) f is e = absurd cc
  of_claim P rest h (input.Claim n) f is e = h n f e
  of_claim P rest h (input.Apply n) f is e = absurd cc
  of_claim P rest h (input.Look n place target) f is e = absurd cc

  pub of_apply : (P : Input B Parts (List ℕ) → Type 0) (rest : List ℕ) → ((n : ℕ) → IsNode n → decimal n ≡ rest → P (input.Apply n))
      → (x : Input B Parts (List ℕ)) → FitsInput spelled fits x → kind_of spelled spelling x ≡ kind.Apply → fields spelled spelling x ≡ rest → P x
  of_apply P rest h (input.Timeout n) f is e = absurd cc
  of_apply P rest h (input.Beat n) f is e = absurd cc
  of_apply P rest h (input.Deliver n k) f is e = absurd cc
  of_apply P rest h (input.Ask n b) f is e = absurd cc
  of_apply P rest h (input.Opened n) f is e = absurd cc
  of_apply P rest h (input.Closed n) f is e = absurd cc
  of_apply P rest h (input.Heard n at l) f is e = absurd cc
  of_apply P rest h (input.Claim n) f is e = absurd cc
  of_apply P rest h (input.Apply n) f is e = h n f e
  of_apply P rest h (input.Look n place target) f is e = absurd cc

  pub of_look : (P : Input B Parts (List ℕ) → Type 0) (rest : List ℕ) → ((n place : ℕ) (target : List ℕ) → IsNode n → IsWord place → IsTrue (is_name target) → node_and n (number_and place target) ≡ rest → P (input.Look n place target))
      → (x : Input B Parts (List ℕ)) → FitsInput spelled fits x → kind_of spelled spelling x ≡ kind.Look → fields spelled spelling x ≡ rest → P x
  of_look P rest h (input.Timeout n) f is e = absurd cc
  of_look P rest h (input.Beat n) f is e = absurd cc
  of_look P rest h (input.Deliver n k) f is e = absurd cc
  of_look P rest h (input.Ask n b) f is e = absurd cc
  of_look P rest h (input.Opened n) f is e = absurd cc
  of_look P rest h (input.Closed n) f is e = absurd cc
  of_look P rest h (input.Heard n at l) f is e = absurd cc
  of_look P rest h (input.Claim n) f is e = absurd cc
  of_look P rest h (input.Apply n) f is e = absurd cc
  of_look P rest h (input.Look n place target) f is e = h n place target f.0 f.1.0 f.1.1 e
