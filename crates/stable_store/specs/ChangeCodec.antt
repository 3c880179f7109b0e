-- Changes are a codec where the bodies are. These lemmas need not be trusted.
use Rattle.std.proofs.Common.{◌≡◌, ℕ, zero, suc, ◌≤◌, List, [], ◌∷◌, ◌++◌, Option, None, Some, refl, ap, arith}
use Rattle.wire_bytes.specs.Fields.{Reading, byte_within, both}
use Rattle.wire_bytes.specs.Codecs.{IsCodec, through-codec, both-codec}
use Rattle.wire_bytes.specs.FieldCodecs.{byte-codec}
use Rattle.wire_bytes.specs.Values.{spelled_number, FitsNumber, number}
use Rattle.wire_bytes.specs.ValueCodecs.{number_is_codec}
use Rattle.raft_log.specs.declared.entry.Entry.{Entry}
use Rattle.raft_log.specs.Entries.{spelled_entry, FitsEntry, entry_taken}
use Rattle.raft_log.specs.EntryCodec.{entry-codec}
use Rattle.stable_store.specs.Lists.{counted, spelled_counted, FitsCounted}
use Rattle.stable_store.specs.ListCodec.{counted-codec}
use Rattle.stable_store.specs.Changes.{ChangeParts, FitsVote, vote_byte, vote_of, change_of, spelled_change, FitsChange, change_taken}

vote_fits : (n : ℕ) → n ≤ 255 → FitsVote (vote_of n)
vote_fits zero h = tt
vote_fits (suc n) h = (omega arith, h)

pub byte_again : (n : ℕ) → vote_byte (vote_of n) ≡ n
byte_again zero = refl
byte_again (suc n) = refl

vote_again : (v : Option ℕ) → FitsVote v → vote_of (vote_byte v) ≡ v
vote_again None h = refl
vote_again (Some zero) h = absurd (omega (arith, h.0))
vote_again (Some (suc n)) h = refl

pub byte_fits : (v : Option ℕ) → FitsVote v → (0 ≤ vote_byte v) × (vote_byte v ≤ 255)
byte_fits None h = (omega arith, omega arith)
byte_fits (Some n) h = (omega arith, h.1)

module _ {B : Type 0} (spelled : B → List ℕ) (fits : B → Type 0) (taken : Reading B) (codec : IsCodec spelled fits taken) where
  -- a change as it is read: boot, term, the byte of the vote, how many entries are kept, and the entries
  abbrev Parts : Type 0
  Parts = (((ℕ × ℕ) × ℕ) × ℕ) × List (Entry B)

  -- what comes before the entries in the bytes
  abbrev front : ((ℕ × ℕ) × ℕ) × ℕ → List ℕ
  front p = ((spelled_number p.0.0.0 ++ spelled_number p.0.0.1) ++ p.0.1 ∷ []) ++ spelled_number p.1

  -- boot, term and the count are numbers, and the vote is a byte
  abbrev front_fits : ((ℕ × ℕ) × ℕ) × ℕ → Type 0
  front_fits p = ((FitsNumber p.0.0.0 × FitsNumber p.0.0.1) × ((0 ≤ p.0.1) × (p.0.1 ≤ 255))) × FitsNumber p.1

  front_codec : IsCodec front front_fits (both (both (both number number) (byte_within 0 255)) number)
  front_codec =
      both-codec (λ (p : (ℕ × ℕ) × ℕ). (spelled_number p.0.0 ++ spelled_number p.0.1) ++ p.1 ∷ []) (λ p. (FitsNumber p.0.0 × FitsNumber p.0.1) × ((0 ≤ p.1) × (p.1 ≤ 255))) (both (both number number) (byte_within 0 255)) spelled_number FitsNumber number
      (both-codec (λ (p : ℕ × ℕ). spelled_number p.0 ++ spelled_number p.1) (λ p. FitsNumber p.0 × FitsNumber p.1) (both number number) (λ (n : ℕ). n ∷ []) (λ n. (0 ≤ n) × (n ≤ 255)) (byte_within 0 255)
      (both-codec spelled_number FitsNumber number spelled_number FitsNumber number number_is_codec number_is_codec) (byte-codec 0 255))
      number_is_codec

  splits : (c : ChangeParts B) → FitsChange fits spelled c → (p : Parts) × (front_fits p.0 × FitsCounted (FitsEntry fits spelled) p.1) × (change_of p ≡ c)
  splits c h =
      (((((c.boot, c.term), vote_byte c.vote), c.keep), c.entries), (((h.0.0.0, byte_fits c.vote h.0.0.1), h.0.1), h.1), ap (λ (v : Option ℕ). let d : ChangeParts B = record c { vote = v } in d) (vote_again c.vote h.0.0.1))

  pub change-codec : IsCodec (spelled_change spelled) (FitsChange fits spelled) (change_taken taken)
  unfolding spelled_change change_taken
  change-codec =
      through-codec (spelled_change spelled) (FitsChange fits spelled) (λ (p : Parts). front p.0 ++ spelled_counted (spelled_entry spelled) p.1) (λ p. front_fits p.0 × FitsCounted (FitsEntry fits spelled) p.1)
      (both (both (both (both number number) (byte_within 0 255)) number) (counted (entry_taken taken))) change_of
      (both-codec front front_fits (both (both (both number number) (byte_within 0 255)) number) (spelled_counted (spelled_entry spelled)) (FitsCounted (FitsEntry fits spelled)) (counted (entry_taken taken))
      front_codec (counted-codec (spelled_entry spelled) (FitsEntry fits spelled) (entry_taken taken) (entry-codec spelled fits taken codec)))
      (λ p h. (((h.0.0.0, vote_fits p.0.0.1 h.0.0.1.1), h.0.1), h.1))
      (λ p h. ap (λ (n : ℕ). (((spelled_number p.0.0.0.0 ++ spelled_number p.0.0.0.1) ++ n ∷ []) ++ spelled_number p.0.1) ++ spelled_counted (spelled_entry spelled) p.1) (byte_again p.0.0.1))
      splits
