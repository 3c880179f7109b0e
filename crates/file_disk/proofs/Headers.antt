-- A journal whose header is replaced by that of the newer version stands for what it did.
use Rattle.std.proofs.Common.{◌≡◌, ℕ, Bool, true, false, List, [], ◌∷◌, ◌++◌, length, drop, refl, sym, ap, ◌∙◌, subst}
use Rattle.std.specs.Prelude.{◌==◌, if◌then◌else◌}
use Rattle.std.proofs.lemmas.Bool.{and_parts, eqb-true}
use Rattle.wire_bytes.specs.Fields.{Reading}
use Rattle.stable_store.specs.Stores.{nothing_saved}
use Rattle.journal_store.specs.Journals.{begins, found, header}
use Rattle.journal_store.specs.Payloads.{payloads}
use Rattle.journal_store.proofs.Standing.{read_alike}
use Rattle.file_disk.specs.Headers.{older_header, renewed}

begins_is : (xs file : List ℕ) → begins xs file ≡ true → file ≡ xs ++ drop (length xs) file
begins_is [] file h = refl
begins_is (x ∷ xs) [] h = absurd cc
begins_is (x ∷ xs) (y ∷ file) h =
    let parts = and_parts (x == y) (begins xs file) h in
    ap (λ (z : ℕ). z ∷ file) (sym (eqb-true x y parts.0)) ∙ ap (λ (l : List ℕ). x ∷ l) (begins_is xs file parts.1)

module _ {B : Type 0} (body : Reading B) (bytes : List ℕ) where
  renewed_by : (older : Bool) → begins older_header bytes ≡ older
      → found (payloads body) nothing_saved (if older then header ++ drop 8 bytes else bytes) ≡ found (payloads body) nothing_saved bytes
  renewed_by true h =
      subst (λ (l : List ℕ). found (payloads body) nothing_saved (header ++ drop 8 bytes) ≡ found (payloads body) nothing_saved l) (sym (begins_is older_header bytes h))
      (sym (read_alike (payloads body) nothing_saved (drop 8 bytes)))
  renewed_by false h = refl

  -- a file whose header is renewed is read as before
  pub read_as_before : found (payloads body) nothing_saved (renewed bytes) ≡ found (payloads body) nothing_saved bytes
  read_as_before = renewed_by (begins older_header bytes) refl
