-- Lists of entries are a codec where the bodies are. This lemma need not be trusted.
use Rattle.std.specs.Prelude.{ℕ, List}
use Rattle.wire_bytes.specs.Fields.{Reading}
use Rattle.wire_bytes.specs.Codecs.{IsCodec}
use Rattle.raft_log.specs.Entries.{spelled_entry, FitsEntry, entry_taken}
use Rattle.raft_log.specs.EntryCodec.{entry-codec}
use Rattle.stable_store.specs.Lists.{counted, spelled_counted, FitsCounted}
use Rattle.stable_store.specs.ListCodec.{counted-codec}

pub entries-codec : {B : Type 0} (spelled : B → List ℕ) (fits : B → Type 0) (taken : Reading B) → IsCodec spelled fits taken
    → IsCodec (spelled_counted (spelled_entry spelled)) (FitsCounted (FitsEntry fits spelled)) (counted (entry_taken taken))
entries-codec spelled fits taken codec = counted-codec (spelled_entry spelled) (FitsEntry fits spelled) (entry_taken taken) (entry-codec spelled fits taken codec)
