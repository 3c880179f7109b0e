-- What a store may hold after a save that failed, until the file is read again; and while a new
-- journal is made.
use Rattle.std.proofs.Common.{◌≡◌, ◌⊎◌, inl, inr, ⊎_elim, ℕ, ◌+◌, ◌≤◌, List, [], ◌∷◌, ◌++◌, length, drop, get_or, Result, Ok, Err, refl, sym, ◌∙◌, ap, subst, arith}
use Rattle.std.specs.Int.{w32}
use Rattle.std.proofs.lemmas.Bool.{cases_eq, cases_lt, cases_Bool}
use Rattle.std.proofs.lemmas.List.{drop_all}
use Rattle.wire_bytes.specs.declared.wire_fault.WireFault.{WireFault}
use Rattle.wire_bytes.specs.Fields.{Reading, number_to}
use Rattle.stable_store.specs.declared.saved.Saved.{Saved}
use Rattle.stable_store.specs.declared.store_fault.StoreFault.{StoreFault}
use Rattle.stable_store.specs.Stores.{nothing_saved}
use Rattle.journal_store.specs.Disks.{DiskState, IsImage, writing, written_over, now, Leaves, Runs, LeavesOnly}
use Rattle.journal_store.specs.Journals.{Payload, name, version, older_version, has_version, header, begins, found, StandsForOne, AtRest, payload_limit, IsEmptyOrRefused}
use Rattle.journal_store.specs.Payloads.{payloads}
use Rattle.journal_store.specs.Serving.{IsSettled, IsFound}
use Rattle.journal_store.proofs.Torn.{settled_image}
use Rattle.journal_store.proofs.Moments.{ends, started, goes_on, within_now, within_self}
use Rattle.journal_store.proofs.Saving.{stands, empty_rest}
use Rattle.journal_store.proofs.Reaching.{not_long, not_named, not_this_version, begun, reached_rest, reached_damage, no_size}

module _ {B : Type 0} (taken : Reading B) where
  value_of : (a b : Saved B) → ◌≡◌ {A = Result (Saved B) StoreFault} (Ok a) (Ok b) → a ≡ b
  value_of a b e = cc

  -- if each image stands for one of two states, the state that is found is one of them
  pub either_found : (s t v : Saved B) (state : DiskState) → Leaves (StandsForOne (payloads taken) nothing_saved s t) state → IsFound taken state v → (v ≡ s) ⊎ (v ≡ t)
  either_found s t v state each is = ⊎_elim (λ a. inl (value_of v s (sym is.stands ∙ a))) (λ b. inr (value_of v t (sym is.stands ∙ b))) (each is.file is.image)

  -- a store that can be used: each image stands for what is saved
  pub serving : (states : List DiskState) (s t : Saved B) (place : ℕ) → IsSettled taken states s place → Leaves (StandsForOne (payloads taken) nothing_saved s t) (now states)
  serving states s t place serves file im =
      let same : file ≡ serves.file = settled_image serves.file file (subst (λ (b : DiskState). IsImage b file) serves.settled im) in
      inl (ap (found (payloads taken) nothing_saved) same ∙ stands (payloads taken) nothing_saved serves.file s place serves.rest)

  -- after a save, also one that failed: each image stands for the state before or after
  pub after_save : (old new : List DiskState) (s t : Saved B) (place : ℕ) → IsSettled taken old s place → LeavesOnly (StandsForOne (payloads taken) nothing_saved s t) old new → Leaves (StandsForOne (payloads taken) nothing_saved s t) (now new)
  after_save old new s t place serves moments = ends (Leaves (StandsForOne (payloads taken) nothing_saved s t)) old new (serving old s t place serves) moments

none_short : number_to w32 payload_limit [] ≡ Err WireFault.Short
unfolding number_to
none_short = refl

module _ {S C : Type 0} (p : Payload S C) (start : S) where
  -- any file of at most nine bytes is an empty store or refused
  pub short_file : (file : List ℕ) → length file ≤ 9 → IsEmptyOrRefused p start file
  short_file file few = elim (cases_lt (length file) 9) [
    | inl less ↦ inr (inl (not_long p start file less))
    | inr long ↦ elim (cases_Bool (begins name file)) [
      | inr other ↦ inr (inl (not_named p start file long other))
      | inl named ↦ elim (cases_Bool (has_version (drop 6 file))) [
        | inr other ↦ inr (inr (inl (not_this_version p start file long named other)))
        | inl of_version ↦
            let reached = begun p start file long named of_version in
            elim (cases_eq (get_or file 8 0) 0) [
              | inl closed ↦ inl (stands p start file start 8 (reached_rest p start file start 8 reached closed))
              | inr shut ↦ inr (inr (inr (reached_damage p start file start 8 reached shut (no_size p start (drop (8 + 1) file) WireFault.Short (ap (number_to w32 payload_limit) (drop_all (8 + 1) file (omega (arith, few))) ∙ none_short)))))
            ]
      ]
    ]
  ]

  pub making : (old new : List DiskState) → (now old).most ≤ 9 → Runs (writing 0 9 (now old)) old new → LeavesOnly (IsEmptyOrRefused p start) old new
  making old new few runs = goes_on (IsEmptyOrRefused p start) (writing 0 9 (now old)) old old new (started (IsEmptyOrRefused p start) old) runs (λ file im. short_file file (omega (arith, few, im.no_longer)))

  pub made : (bytes : List ℕ) → AtRest p start (written_over bytes 0 (header ++ 0 ∷ [])) start 8
  made bytes = empty_rest p start (drop 9 bytes)

  -- files of both versions are read alike
  pub read_alike : (behind : List ℕ) → found p start (name ++ (older_version ++ behind)) ≡ found p start (name ++ (version ++ behind))
  read_alike behind = refl
