-- Lists are a codec where their items are. These lemmas need not be trusted.
use Rattle.std.proofs.Common.{◌≡◌, ℕ, zero, suc, ◌^◌, ◌≤◌, List, [], ◌∷◌, ◌++◌, length, refl, ap, arith}
use Rattle.std.specs.Int.{w16, to_be_bytes}
use Rattle.wire_bytes.specs.Fields.{Reading, number_to, both}
use Rattle.wire_bytes.specs.Codecs.{IsCodec, done-codec, through-codec, both-codec, then-codec}
use Rattle.wire_bytes.specs.FieldCodecs.{number-codec, wide16}
use Rattle.raft_log.specs.Batches.{batch_limit}
use Rattle.stable_store.specs.Lists.{AllFit, spelled_all, joined_pair, many, counted, spelled_counted, FitsCounted}

-- The same codec, with its limits in other words.
refit : {X : Type 0} (spelled : X → List ℕ) (fits other : X → Type 0) (taken : Reading X) → IsCodec spelled fits taken → ((v : X) → fits v → other v) → ((v : X) → other v → fits v) → IsCodec spelled other taken
refit spelled fits other taken codec to from = record {
  read_back = λ v rest h. codec.read_back v rest (from v h);
  one_spelling = λ input v n bytes e. let one = codec.one_spelling input v n bytes e in (to v one.0, one.1, one.2);
  bad_within = λ input p bytes e. codec.bad_within input p bytes e;
  no_memory = λ input bytes e. codec.no_memory input bytes e;
}

pub count_codec : IsCodec (to_be_bytes w16) (λ n. n ≤ batch_limit) (number_to w16 batch_limit)
count_codec = number-codec w16 (2 ^ 16) batch_limit wide16 (omega arith)

module _ {X : Type 0} (spelled : X → List ℕ) (fits : X → Type 0) (taken : Reading X) (codec : IsCodec spelled fits taken) where
  nothing : (xs : List X) → AllFit fits xs × (length xs ≡ 0) → [] ≡ xs
  nothing [] h = refl
  nothing (x ∷ xs) h = absurd (omega (arith, h.1))

  split : (n : ℕ) (xs : List X) → AllFit fits xs × (length xs ≡ suc n) → (p : X × List X) × (fits p.0 × (AllFit fits p.1 × (length p.1 ≡ n))) × (joined_pair p ≡ xs)
  split n [] h = absurd (omega (arith, h.1))
  split n (x ∷ xs) h = ((x, xs), (h.0.0, (h.0.1, omega (arith, h.1))), refl)

  pub many-codec : (n : ℕ) → IsCodec (spelled_all spelled) (λ xs. AllFit fits xs × (length xs ≡ n)) (many n taken)
  many-codec zero = done-codec (spelled_all spelled) (λ xs. AllFit fits xs × (length xs ≡ 0)) [] (tt, refl) refl nothing
  many-codec (suc n) =
      through-codec (spelled_all spelled) (λ xs. AllFit fits xs × (length xs ≡ suc n)) (λ (p : X × List X). spelled p.0 ++ spelled_all spelled p.1) (λ p. fits p.0 × (AllFit fits p.1 × (length p.1 ≡ n))) (both taken (many n taken)) joined_pair
      (both-codec spelled fits taken (spelled_all spelled) (λ xs. AllFit fits xs × (length xs ≡ n)) (many n taken) codec (many-codec n))
      (λ p h. ((h.0, h.1.0), omega (arith, h.1.1))) (λ p h. refl) (split n)

  pub counted-codec : IsCodec (spelled_counted spelled) (FitsCounted fits) (counted taken)
  unfolding counted spelled_counted
  counted-codec =
      then-codec (spelled_counted spelled) (spelled_all spelled) (FitsCounted fits) (to_be_bytes w16) (λ n. n ≤ batch_limit) (number_to w16 batch_limit) (λ n. many n taken) (λ n xs. length xs ≡ n)
      count_codec
      (λ xs h. (length xs, h.0, refl))
      (λ n xs e. ap (λ (k : ℕ). to_be_bytes w16 k ++ spelled_all spelled xs) e)
      (λ n few. refit (spelled_all spelled) (λ xs. AllFit fits xs × (length xs ≡ n)) (λ xs. FitsCounted fits xs × (length xs ≡ n)) (many n taken) (many-codec n)
      (λ xs h. ((omega (arith, h.1, few), h.0), h.1)) (λ xs h. (h.0.1, h.1)))
