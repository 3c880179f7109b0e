-- A node's changes as the payload of a journal.
use Rattle.std.proofs.Common.{◌≡◌, ℕ, true, Option, None, Some, List, [], length, Ok, refl, subst}
use Rattle.std.proofs.lemmas.List.{append-nil}
use Rattle.std.proofs.lemmas.Bool.{le-leb, and_from}
use Rattle.wire_bytes.specs.Fields.{Reading}
use Rattle.wire_bytes.specs.Codecs.{IsCodec}
use Rattle.stable_store.specs.declared.saved.Saved.{Saved}
use Rattle.stable_store.specs.Changes.{ChangeParts, spelled_change, FitsChange, change_taken}
use Rattle.stable_store.specs.ChangeCodec.{change-codec}
use Rattle.stable_store.specs.Stores.{MayFollow, NamesNode}
use Rattle.journal_store.specs.Payloads.{may_follow, names_node, payloads}
use Rattle.journal_store.proofs.Scanning.{Spells}
use Rattle.journal_store.proofs.Sizes.{change_size}

vote_named : (vote : Option ℕ) → NamesNode vote → names_node vote ≡ true
vote_named None h = refl
vote_named (Some node) h = and_from _ _ (le-leb _ _ h.0) (le-leb _ _ h.1)

-- the reader accepts a change that may follow
pub may_be : {B : Type 0} (s : Saved B) (c : ChangeParts B) → MayFollow s c → may_follow s c ≡ true
may_be s c may =
    and_from _ _ (and_from _ _ (le-leb _ _ may.kept) (le-leb _ _ may.room))
    (and_from _ _ (le-leb _ _ may.boot) (and_from _ _ (le-leb _ _ may.term) (vote_named c.vote may.vote)))

module _ {B : Type 0} (spelled : B → List ℕ) (fits : B → Type 0) (taken : Reading B) (codec : IsCodec spelled fits taken) where
  pub spells : (s : Saved B) (c : ChangeParts B) → FitsChange fits spelled c → MayFollow s c → Spells (payloads taken) s c (spelled_change spelled c)
  spells s c h may = record {
    reads = subst (λ (l : List ℕ). change_taken taken l ≡ Ok (c, length (spelled_change spelled c))) (append-nil (spelled_change spelled c)) ((change-codec spelled fits taken codec).read_back c [] h);
    may = may_be s c may;
    small = change_size fits spelled c h;
  }
