-- A change's payload is below the limit.
use Rattle.std.proofs.Common.{◌≡◌, ℕ, ◌*◌, ◌≤◌, List, [], ◌∷◌, ◌++◌, length, arith, length-append}
use Rattle.std.specs.Int.{w16, w32, to_be_bytes}
use Rattle.wire_bytes.specs.FieldCodecs.{wide16, wide32, wide64}
use Rattle.wire_bytes.specs.Values.{spelled_number}
use Rattle.raft_log.specs.declared.entry.Entry.{Entry}
use Rattle.raft_log.specs.Entries.{spelled_entry, FitsEntry}
use Rattle.raft_log.specs.Spellings.{spelled_measured, FitsMeasured}
use Rattle.stable_store.specs.Lists.{AllFit, spelled_all, spelled_counted}
use Rattle.stable_store.specs.Changes.{ChangeParts, spelled_change, FitsChange, vote_byte}
use Rattle.journal_store.specs.Journals.{payload_limit}

number_size : (n : ℕ) → length (spelled_number n) ≡ 8
unfolding spelled_number
number_size n = wide64.len n

module _ {B : Type 0} (fits : B → Type 0) (body : B → List ℕ) where
  measured_size : (b : B) → FitsMeasured fits body b → length (spelled_measured body b) ≤ 65540
  unfolding spelled_measured
  measured_size b h = omega (arith, h.1, wide32.len (length (body b)), length-append (to_be_bytes w32 (length (body b))) (body b))

  entry_size : (e : Entry B) → FitsEntry fits body e → length (spelled_entry body e) ≤ 65548
  unfolding spelled_entry
  entry_size e h = omega (arith, h.1, number_size e.term, measured_size e.body h.1, length-append (spelled_number e.term) (spelled_measured body e.body))

  entries_size : (es : List (Entry B)) → AllFit (FitsEntry fits body) es → length (spelled_all (spelled_entry body) es) ≤ 65548 * length es
  entries_size [] h = omega arith
  entries_size (e ∷ es) h = omega (arith, entry_size e h.0, entries_size es h.1, length-append (spelled_entry body e) (spelled_all (spelled_entry body) es))

  pub change_size : (c : ChangeParts B) → FitsChange fits body c → length (spelled_change body c) ≤ payload_limit
  unfolding spelled_change spelled_counted
  change_size c h =
      let counted = spelled_all (spelled_entry body) c.entries in
      let front = ((spelled_number c.boot ++ spelled_number c.term) ++ vote_byte c.vote ∷ []) ++ spelled_number c.keep in
      omega (
        arith,
        length-append front (to_be_bytes w16 (length c.entries) ++ counted),
        length-append (to_be_bytes w16 (length c.entries)) counted,
        wide16.len (length c.entries),
        entries_size c.entries h.1.1,
        h.1.0,
        length-append ((spelled_number c.boot ++ spelled_number c.term) ++ vote_byte c.vote ∷ []) (spelled_number c.keep),
        length-append (spelled_number c.boot ++ spelled_number c.term) (vote_byte c.vote ∷ []),
        length-append (spelled_number c.boot) (spelled_number c.term),
        number_size c.boot,
        number_size c.term,
        number_size c.keep,
      )
