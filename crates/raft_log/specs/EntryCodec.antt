-- Entries are a codec where their bodies are. This lemma need not be trusted.
use Rattle.std.proofs.Common.{ℕ, List, ◌++◌, refl}
use Rattle.wire_bytes.specs.Fields.{Reading, both}
use Rattle.wire_bytes.specs.Codecs.{IsCodec, both-codec, through-codec}
use Rattle.wire_bytes.specs.Values.{spelled_number, FitsNumber, number}
use Rattle.wire_bytes.specs.ValueCodecs.{number_is_codec}
use Rattle.raft_log.specs.Spellings.{measured, spelled_measured, FitsMeasured}
use Rattle.raft_log.specs.Entries.{entry_of, spelled_entry, FitsEntry, entry_taken}
use Rattle.raft_log.specs.BodyCodec.{measured-codec}

pub entry-codec : {B : Type 0} (spelled : B → List ℕ) (fits : B → Type 0) (taken : Reading B) → IsCodec spelled fits taken → IsCodec (spelled_entry spelled) (FitsEntry fits spelled) (entry_taken taken)
unfolding spelled_entry entry_taken
entry-codec {B} spelled fits taken codec =
    through-codec (spelled_entry spelled) (FitsEntry fits spelled) (λ (p : ℕ × B). spelled_number p.0 ++ spelled_measured spelled p.1) (λ p. FitsNumber p.0 × FitsMeasured fits spelled p.1) (both number (measured taken)) entry_of
    (both-codec spelled_number FitsNumber number (spelled_measured spelled) (FitsMeasured fits spelled) (measured taken) number_is_codec (measured-codec spelled fits taken codec))
    (λ p h. h) (λ p h. refl) (λ e h. ((e.term, e.body), h, refl))
