-- What the reading of a body after its length returns, which inputs need memory for it, and what is overwritten at a
-- place.
use Rattle.std.proofs.Common.{◌≡◌, ◌≢◌, ℕ, ◌+◌, Bool, true, false, ◌||◌, cond, eqb, List, ◌++◌, length, take, drop, Result, Ok, Err, is_ok, IsTrue, refl, sym, subst, ap, ◌∙◌, arith, append_assoc}
use Rattle.std.proofs.lemmas.Bool.{eq-eqb}
use Rattle.std.proofs.lemmas.List.{take_at, drop_at, length-append}
use Rattle.wire_bytes.specs.declared.wire_fault.WireFault.{WireFault}
use Rattle.wire_bytes.specs.declared.wire_fault.WireFault.TheVariants.{Bad}
use Rattle.wire_bytes.specs.Fields.{Reading, behind, goes_on}
use Rattle.wire_bytes.specs.Wants.{Wants, wants_next}
use Rattle.wire_bytes.specs.FieldCodecs.{wide32}
use Rattle.std.specs.Int.{w32, to_be_bytes}
use Rattle.raft_log.specs.Spellings.{body_length, ending_at, measured, spelled_measured, wants_measured}

module _ {X : Type 0} (reading : Reading X) (input : List ℕ) where
  abbrev goes : Result (ℕ × ℕ) WireFault → Result (X × ℕ) WireFault
  goes r = goes_on r (λ n k. ending_at (k + n) (behind k reading input))

  pub measured-short : (e : WireFault) → body_length input ≡ Err e → measured reading input ≡ Err e
  unfolding measured
  measured-short e h = ap goes h

  pub measured-stops : (n k : ℕ) (e : WireFault) → body_length input ≡ Ok (n, k) → behind k reading input ≡ Err e → measured reading input ≡ Err e
  unfolding measured
  measured-stops n k e h b = ap goes h ∙ ap (ending_at (k + n)) b

  ends_by : (x : X) (m end : ℕ) (b : Bool) → eqb m end ≡ b → ending_at end (Ok (x, m)) ≡ cond b (Ok (x, m)) (Err (Bad 0))
  ends_by x m end b h = ap (λ (t : Bool). let r : Result (X × ℕ) WireFault = cond t (Ok (x, m)) (Err (Bad 0)) in r) h

  pub measured-read : (n k : ℕ) (x : X) (m : ℕ) → body_length input ≡ Ok (n, k) → behind k reading input ≡ Ok (x, m) → m ≡ k + n → measured reading input ≡ Ok (x, m)
  unfolding measured
  measured-read n k x m h b e = ap goes h ∙ (ap (ending_at (k + n)) b ∙ ends_by x m (k + n) true (eq-eqb m (k + n) e))

  pub measured-refused : (n k : ℕ) (x : X) (m : ℕ) → body_length input ≡ Ok (n, k) → behind k reading input ≡ Ok (x, m) → m ≢ k + n → measured reading input ≡ Err (Bad 0)
  unfolding measured
  measured-refused n k x m h b e = ap goes h ∙ (ap (ending_at (k + n)) b ∙ ends_by x m (k + n) false (grind arith))

or_left : (a b : Bool) → IsTrue a → IsTrue (a || b)
or_left true b h = refl
or_left false b h = absurd cc

or_right : (a b : Bool) → IsTrue b → IsTrue (a || b)
or_right true b h = refl
or_right false b h = h

-- a body that needs memory, after its length
pub measured_wants : {X : Type 0} (wants : Wants) (reading : Reading X) (input : List ℕ) (n k : ℕ) → body_length input ≡ Ok (n, k) → IsTrue (wants (drop k input)) → IsTrue (wants_measured wants reading input)
measured_wants wants reading input n k h w = or_left (wants_next (body_length input) wants input) (is_ok (measured reading input)) (subst (λ (r : Result (ℕ × ℕ) WireFault). IsTrue (wants_next r wants input)) (sym h) w)

-- a body that was read whole is kept apart from the input
pub whole_wants : {X : Type 0} (wants : Wants) (reading : Reading X) (input : List ℕ) (x : X) (m : ℕ) → measured reading input ≡ Ok (x, m) → IsTrue (wants_measured wants reading input)
whole_wants wants reading input x m e = or_right (wants_next (body_length input) wants input) (is_ok (measured reading input)) (ap is_ok e)

-- the length of a body's spelling with its length field
pub measured_length : {X : Type 0} (spelled : X → List ℕ) (x : X) → length (spelled_measured spelled x) ≡ 4 + length (spelled x)
unfolding spelled_measured
measured_length spelled x = omega (arith, length-append (to_be_bytes w32 (length (spelled x))) (spelled x), wide32.len (length (spelled x)))

-- four bytes after a front are overwritten
pub covered : (front four new rest : List ℕ) (place end : ℕ) → place ≡ length front → end ≡ place + length four → take place ((front ++ four) ++ rest) ++ (new ++ drop end ((front ++ four) ++ rest)) ≡ front ++ (new ++ rest)
covered front four new rest place end at e =
    let whole : (front ++ four) ++ rest ≡ front ++ (four ++ rest) = append_assoc front four rest in
    let before : take place ((front ++ four) ++ rest) ≡ front = ap (take place) whole ∙ take_at front (four ++ rest) place (sym at) in
    let after : drop end ((front ++ four) ++ rest) ≡ rest = drop_at (front ++ four) rest end (omega (arith, length-append front four)) in
    rw (before, after) refl
