-- The fields of a store's setup are a codec. These lemmas need not be trusted.
use Rattle.std.proofs.Common.{ℕ, ◌≤◌, List, [], ◌∷◌, ◌++◌, IsTrue, inl, inr, refl, arith}
use Rattle.std.proofs.lemmas.Bool.Decides.{nat_tests}
use Rattle.wire_bytes.specs.Fields.{both, byte_within, only}
use Rattle.wire_bytes.specs.Codecs.{IsCodec, both-codec, only-codec}
use Rattle.wire_bytes.specs.FieldCodecs.{byte-codec}
use Rattle.wire_bytes.specs.ValueCodecs.{number_is_codec}
use Rattle.wire_bytes.specs.Values.{FitsNumber, number, spelled_number}
use Rattle.raft_log.specs.Peers.{IsGroupSize}
use Rattle.setup_spelling.specs.Spelling.{FitsSetup, setup_taken, spelled_setup}
use Rattle.setup_spelling.specs.SetupCodec.{setup_is_codec}
use Rattle.store_setup.specs.Files.{Fields, NamedFields, fields_taken, is_group_size, named_fields_taken, nodes_taken, spelled_fields, spelled_named_fields}

-- the limits of a byte that passes the test for a group's size
abbrev IsTested : ℕ → Type 0
IsTested n = ((3 ≤ n) × (n ≤ 7)) × IsTrue (is_group_size n)

tested : (n : ℕ) → IsTested n → IsGroupSize n
tested n h = let t = h.1 in grind (arith, nat_tests)

allowed : (n : ℕ) → IsGroupSize n → IsTested n
allowed n (inl h) = rw h ((omega arith, omega arith), refl)
allowed n (inr (inl h)) = rw h ((omega arith, omega arith), refl)
allowed n (inr (inr h)) = rw h ((omega arith, omega arith), refl)

tested_codec : IsCodec (λ (n : ℕ). n ∷ []) IsTested (only is_group_size (byte_within 3 7))
tested_codec = only-codec (λ (n : ℕ). n ∷ []) (λ n. (3 ≤ n) × (n ≤ 7)) (byte_within 3 7) is_group_size (byte-codec 3 7) (λ n h. omega arith)

pub nodes_is_codec : IsCodec (λ (n : ℕ). n ∷ []) IsGroupSize nodes_taken
unfolding nodes_taken
nodes_is_codec = record {
  read_back = λ n rest h. tested_codec.read_back n rest (allowed n h);
  one_spelling = λ input n k bytes e. let one = tested_codec.one_spelling input n k bytes e in (tested n one.0, one.1, one.2);
  bad_within = λ input p bytes e. tested_codec.bad_within input p bytes e;
  no_memory = λ input bytes e. tested_codec.no_memory input bytes e;
}

-- the limits of the fields of every store's setup, without a name and with one
abbrev pub FitFields : Fields → Type 0
FitFields f = (IsGroupSize f.0.0 × FitsNumber f.0.1) × FitsSetup f.1

abbrev pub FitNamedFields : NamedFields → Type 0
FitNamedFields f = ((IsGroupSize f.0.0.0 × FitsNumber f.0.0.1) × FitsNumber f.0.1) × FitsSetup f.1

-- the nodes and how often the log was renewed
abbrev spelled_counts : (ℕ × ℕ) → List ℕ
spelled_counts c = c.0 ∷ [] ++ spelled_number c.1

abbrev FitCounts : (ℕ × ℕ) → Type 0
FitCounts c = IsGroupSize c.0 × FitsNumber c.1

counts_codec : IsCodec spelled_counts FitCounts (both nodes_taken number)
counts_codec = both-codec (λ (n : ℕ). n ∷ []) IsGroupSize nodes_taken spelled_number FitsNumber number nodes_is_codec number_is_codec

pub fields_is_codec : IsCodec spelled_fields FitFields fields_taken
fields_is_codec = both-codec _ _ _ spelled_setup FitsSetup setup_taken counts_codec setup_is_codec

pub named_fields_is_codec : IsCodec spelled_named_fields FitNamedFields named_fields_taken
named_fields_is_codec =
    both-codec _ _ _ spelled_setup FitsSetup setup_taken
    (both-codec spelled_counts FitCounts (both nodes_taken number) spelled_number FitsNumber number counts_codec number_is_codec)
    setup_is_codec
