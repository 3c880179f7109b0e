-- Items that are read one after the other.
use Rattle.std.proofs.Common.{◌≡◌, ℕ, zero, suc, ◌-◌, ◌<◌, ◌≤◌, ◌&&◌, ◌||◌, inl, inr, Bool, true, false, List, [], ◌∷◌, ◌++◌, drop, Result, Ok, Err, is_ok, IsTrue, refl, sym, ap, subst, ◌∙◌, arith, append_assoc, append-nil}
use Rattle.std.proofs.lemmas.Bool.{cases_lt, lt-ltb}
use Rattle.wire_bytes.specs.declared.wire_fault.WireFault.{WireFault}
use Rattle.std.specs.Int.{w16}
use Rattle.wire_bytes.specs.Fields.{Reading, behind, both, goes_on, number_to, ◌>>=◌}
use Rattle.wire_bytes.specs.Codecs.{behind-done, behind-ok}
use Rattle.wire_bytes.specs.Wants.{Wants}
use Rattle.wire_bytes.proofs.Steps.{through-read, through-stops, both-read, both-stops, both-stops_behind}
use Rattle.raft_log.specs.Batches.{batch_limit}
use Rattle.stable_store.specs.Lists.{joined_pair, many, counted, wants_many, wants_by, wants_counted}

module _ {X : Type 0} where
  -- these before those that were read
  abbrev pub joined : List X → Result (List X × ℕ) WireFault → Result (List X × ℕ) WireFault
  joined front (Ok r) = Ok (front ++ r.0, r.1)
  joined front (Err e) = Err e

  abbrev read : List X → ℕ → Result (List X × ℕ) WireFault
  read xs n = Ok (xs, n)

  pub joined-joined : (a b : List X) (r : Result (List X × ℕ) WireFault) → joined a (joined b r) ≡ joined (a ++ b) r
  joined-joined a b (Ok r) = ap (λ (xs : List X). read xs r.1) (sym (append_assoc a b r.0))
  joined-joined a b (Err e) = refl

  pub joined-nothing : (a : List X) (n : ℕ) → joined a (Ok ([], n)) ≡ Ok (a, n)
  joined-nothing a n = ap (λ (xs : List X). read xs n) (append-nil a)

  module _ (reading : Reading X) (input : List ℕ) where
    step_by : (place : ℕ) (x : X) (k m : ℕ) (r : Result (List X × ℕ) WireFault) → behind place reading input ≡ Ok (x, k) → behind k (many m reading) input ≡ r → behind place (many (suc m) reading) input ≡ joined (x ∷ []) r
    step_by place x k m (Ok r) h e =
        through-read joined_pair (both reading (many m reading)) place input (x, r.0) r.1 (both-read reading (many m reading) place input x k r.0 r.1 h e)
    step_by place x k m (Err d) h e =
        through-stops joined_pair (both reading (many m reading)) place input d (both-stops_behind reading (many m reading) place input x k d h e)

    -- one was read, and this many are left
    pub many-step : (place : ℕ) (x : X) (k n : ℕ) → 0 < n → behind place reading input ≡ Ok (x, k) → behind place (many n reading) input ≡ joined (x ∷ []) (behind k (many (n - 1) reading) input)
    many-step place x k zero pos h = absurd (omega arith)
    many-step place x k (suc m) pos h =
        step_by place x k m (behind k (many m reading) input) h refl ∙ ap (λ (i : ℕ). joined (x ∷ []) (behind k (many i reading) input)) (omega arith)

    pub many-stops : (place : ℕ) (e : WireFault) (n : ℕ) → 0 < n → behind place reading input ≡ Err e → behind place (many n reading) input ≡ Err e
    many-stops place e zero pos h = absurd (omega arith)
    many-stops place e (suc m) pos h = through-stops joined_pair (both reading (many m reading)) place input e (both-stops reading (many m reading) place input e h)

    -- none is left
    pub many-none : (place n : ℕ) → n ≡ 0 → behind place (many n reading) input ≡ Ok ([], place)
    many-none place n h = ap (λ (i : ℕ). behind place (many i reading) input) h ∙ behind-done place [] input

-- ---- the number before them

module _ {X : Type 0} (reading : Reading X) (input : List ℕ) where
  abbrev goes : Result (ℕ × ℕ) WireFault → Result (List X × ℕ) WireFault
  goes r = goes_on r (λ n k. behind k (many n reading) input)

  pub counted-short : (e : WireFault) → number_to w16 batch_limit input ≡ Err e → counted reading input ≡ Err e
  unfolding counted ◌>>=◌
  counted-short e h = ap goes h

  pub counted-goes : (n k : ℕ) → number_to w16 batch_limit input ≡ Ok (n, k) → counted reading input ≡ behind k (many n reading) input
  unfolding counted ◌>>=◌
  counted-goes n k h = ap goes h

-- ---- what needs memory

or_left : (a b : Bool) → IsTrue a → IsTrue (a || b)
or_left true b h = refl
or_left false b h = absurd cc

or_right : (a b : Bool) → IsTrue b → IsTrue (a || b)
or_right true b h = refl
or_right false b h = h

module _ {X : Type 0} (wants : Wants) (reading : Reading X) (input : List ℕ) where
  wants_of-one : (n : ℕ) → 0 < n → IsTrue (wants input || is_ok (reading input)) → IsTrue (wants_many n wants reading input)
  wants_of-one n pos h = ap (λ (b : Bool). b && (wants input || is_ok (reading input))) (lt-ltb 0 n pos) ∙ h

  -- an item that was read is kept apart
  pub was_read : (place : ℕ) (x : X) (k : ℕ) → behind place reading input ≡ Ok (x, k) → IsTrue (is_ok (reading (drop place input)))
  was_read place x k e = let b = behind-ok place reading input x k e in ap (λ (r : Result (X × ℕ) WireFault). is_ok r) b.1

  -- the first item of this many was read, if fewer are left or the next one was read
  pub first_was_read : (place end count left : ℕ) → (left < count → IsTrue (is_ok (reading (drop place input)))) → (left ≡ count → end ≡ place) → left ≤ count
      → IsTrue (is_ok (reading (drop end input))) → IsTrue (is_ok (reading (drop place input)))
  first_was_read place end count left some none few h =
      elim (cases_lt left count) [
        | inl lt ↦ some lt
        | inr ge ↦ subst (λ (k : ℕ). IsTrue (is_ok (reading (drop k input)))) (none (omega arith)) h
      ]

module _ {X : Type 0} (wants : Wants) (reading : Reading X) (input : List ℕ) where
  -- memory may be needed for one more of this many items, and where one was read
  pub many_want : (place end count left : ℕ) → (left < count → IsTrue (is_ok (reading (drop place input)))) → (left ≡ count → end ≡ place) → left ≤ count → 0 < left
      → IsTrue (wants (drop end input)) → IsTrue (wants_many count wants reading (drop place input))
  many_want place end count left some none few pos h =
      elim (cases_lt left count) [
        | inl lt ↦ wants_of-one wants reading (drop place input) count (omega arith) (or_right (wants (drop place input)) (is_ok (reading (drop place input))) (some lt))
        | inr ge ↦
            let here : IsTrue (wants (drop place input)) = subst (λ (k : ℕ). IsTrue (wants (drop k input))) (none (omega arith)) h in
            wants_of-one wants reading (drop place input) count (omega arith) (or_left (wants (drop place input)) (is_ok (reading (drop place input))) here)
      ]

  pub many_want_room : (place count : ℕ) → 0 < count → IsTrue (is_ok (reading (drop place input))) → IsTrue (wants_many count wants reading (drop place input))
  many_want_room place count pos h = wants_of-one wants reading (drop place input) count pos (or_right (wants (drop place input)) (is_ok (reading (drop place input))) h)

  -- the same after their number
  pub counted_wants : (n k : ℕ) → number_to w16 batch_limit input ≡ Ok (n, k) → IsTrue (wants_many n wants reading (drop k input)) → IsTrue (wants_counted wants reading input)
  counted_wants n k e h = subst (λ (r : Result (ℕ × ℕ) WireFault). IsTrue (wants_by r wants reading input)) (sym e) h
