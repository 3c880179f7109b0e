-- What the calls that open a disk preserve.
use Rattle.std.proofs.Common.{◌≡◌, ◌≤◌, inl, inr, ℕ, List, ◌++◌, length, Err, refl, sym, ◌∙◌, ap, subst, append_assoc}
use Rattle.std.specs.Prelude.{IsErr}
use Rattle.wire_bytes.specs.Fields.{Reading}
use Rattle.stable_store.specs.declared.store_fault.StoreFault.{StoreFault}
use Rattle.stable_store.specs.Stores.{nothing_saved}
use Rattle.journal_store.specs.Disks.{DiskState, Leaves, LeavesOnly, Runs, Within, now}
use Rattle.journal_store.specs.Journals.{found}
use Rattle.journal_store.specs.Opening.{IsKept, IsToBeMade}
use Rattle.journal_store.specs.Payloads.{payloads}
use Rattle.journal_store.specs.Serving.{IsNew}
use Rattle.journal_store.proofs.Moments.{each_joined, each_through}

module _ {B : Type 0} (body : Reading B) where
  -- if nothing is written, a crash could leave nothing new at any moment
  pub kept_adopted : (old new : List DiskState) → Runs (now old) old new → LeavesOnly (IsKept body (now old)) old new
  kept_adopted old new runs = record {
    added = runs.added;
    joined = runs.joined;
    each = each_through (λ s. Within s (now old)) (Leaves (IsKept body (now old))) (λ s within file im. inl (within.leaves file im)) runs.added runs.each;
  }

  -- if a file becomes a new journal, a crash could leave only what it could before, or a new file
  pub kept_made : (old mid new : List DiskState) → IsToBeMade body (now old) → Runs (now old) old mid → LeavesOnly (IsNew body) mid new → LeavesOnly (IsKept body (now old)) old new
  kept_made old mid new made_of runs made =
      let before = kept_adopted old mid runs in
      record {
        added = made.added ++ before.added;
        joined = made.joined ∙ (ap (λ (l : List DiskState). made.added ++ l) before.joined ∙ sym (append_assoc made.added before.added old));
        each = each_joined (Leaves (IsKept body (now old))) made.added before.added
            (each_through (Leaves (IsNew body)) (Leaves (IsKept body (now old))) (λ s leaves file im. inr (leaves file im, made_of)) made.added made.each) before.each;
      }

  refused_is : (s : DiskState) (e : StoreFault) → found (payloads body) nothing_saved s.bytes ≡ Err e → IsErr (found (payloads body) nothing_saved s.bytes)
  refused_is s e is = rw is refl

  -- a short file that is refused
  pub to_be_made : (s : DiskState) (file : List ℕ) (e : StoreFault) → file ≡ s.bytes → length file ≤ 9 → found (payloads body) nothing_saved file ≡ Err e → IsToBeMade body s
  to_be_made s file e same short refused = record {
    short = subst (λ (l : List ℕ). length l ≤ 9) same short;
    refused = refused_is s e (subst (λ (l : List ℕ). found (payloads body) nothing_saved l ≡ Err e) same refused);
  }
