-- The requests that a leader is asked together are the first of those that wait.
use Rattle.std.proofs.Common.{◌≡◌, ◌≤◌, inl, ⊎_elim, true, ℕ, Option, Some, zero, suc, List, [], ◌∷◌, ◌++◌, length, take, drop, min, refl, sym, ap, ◌∙◌, subst, append_assoc, append-nil, arith}
use Rattle.std.proofs.lemmas.List.{drop_min, take_min}
use Rattle.raft_log.specs.Batches.{batch_limit}
use Rattle.world_views.specs.Inputs.{NodeInput}
use Rattle.raft_node.specs.declared.input.Input.TheVariants.{Ask}
use Rattle.node_threads.specs.declared.worker_loop.requests.Asked.{Asked}
use Rattle.node_threads.specs.declared.worker_loop.requests.Request.{Request}
use Rattle.node_threads.specs.Requests.{last_asked, request}
use Rattle.node_threads.specs.Reports.{leads_in}
use Rattle.node_threads.specs.Together.{AreReady, TakesFront, asks_of}
use Rattle.node_threads.proofs.Taken.{none_ready}
use Rattle.node_cells.specs.Cells.{CellParts}
use Rattle.node_cells.specs.Inputs.{OnlyAppend}

module _ {B : Type 0} where
  pub next_left : (old new rest : List (Request B)) (note : ℕ) (body : B) (n m : ℕ) → n ≡ suc m → old ≡ request note body ∷ new → drop n old ≡ rest → drop m new ≡ rest
  next_left old new rest note body n m next is h = sym (λ i. drop (next i) (is i)) ∙ h

  -- one more is asked
  pub next_last : (term : ℕ) (old new : List (Request B)) (note : ℕ) (body : B) (before now all : Option Asked) (n m : ℕ) → n ≡ suc m → old ≡ request note body ∷ new
      → now ≡ Some (record { note = note; term = term; may_return = true }) → last_asked term (take n old) before ≡ all → last_asked term (take m new) now ≡ all
  next_last term old new note body before now all n m next is last h =
      ap (last_asked term (take m new)) last ∙ sym (λ i. last_asked term (take (next i) (is i)) before) ∙ h

  none_left : (n : ℕ) (w : List (Request B)) → w ≡ [] → take n w ≡ []
  none_left zero w is = refl
  none_left (suc n) w is = ap (take (suc n)) is

  all_last : (term : ℕ) (old left : List (Request B)) (before now : Option Asked) (m : ℕ) → m ≡ min batch_limit (length old) → left ≡ [] → last_asked term left now ≡ last_asked term (take m old) before
      → now ≡ last_asked term (take batch_limit old) before
  all_last term old left before now m many none h =
      sym (ap (λ (l : List (Request B)). last_asked term l now) none) ∙ h ∙ (λ i. last_asked term (take (many i) old) before) ∙ ap (λ (l : List (Request B)). last_asked term l before) (take_min batch_limit old)

  -- the last of those that were asked was asked last, since the limit is reached or none waits any
  -- more
  pub last_of_many : (term : ℕ) (old new : List (Request B)) (before now : Option Asked) (n m : ℕ) → m ≡ min batch_limit (length old) → n ≡ 0
      → last_asked term (take n new) now ≡ last_asked term (take m old) before → now ≡ last_asked term (take batch_limit old) before
  last_of_many term old new before now n m many end h = all_last term old (take n new) before now m many (ap (λ k. take k new) end) h

  pub last_of_all : (term : ℕ) (old new : List (Request B)) (before now : Option Asked) (n m : ℕ) → m ≡ min batch_limit (length old) → new ≡ []
      → last_asked term (take n new) now ≡ last_asked term (take m old) before → now ≡ last_asked term (take batch_limit old) before
  last_of_all term old new before now n m many none h = all_last term old (take n new) before now m many (none_left n new none) h

  few_taken : (n : ℕ) (w : List (Request B)) → length (take n w) ≤ n
  few_taken zero w = omega arith
  few_taken (suc n) [] = omega arith
  few_taken (suc n) (r ∷ w) = let few = few_taken n w in omega (arith, few)

module _ {B : Type 0} (L : Type 0) where
  asks_append : (w : List (Request B)) → OnlyAppend (asks_of {B = B} {L = L} w)
  asks_append [] = tt
  asks_append (r ∷ w) = (refl, asks_append w)

  asks_many : (w : List (Request B)) → length (asks_of {B = B} {L = L} w) ≡ length w
  asks_many [] = refl
  asks_many (r ∷ w) = ap suc (asks_many w)

module _ {B L : Type 0} where
  -- one more request is taken
  pub next_taken : (old new : List (Request B)) (note : ℕ) (body : B) (inputs all : List (NodeInput B L)) (n m : ℕ) → n ≡ suc m → old ≡ request note body ∷ new
      → inputs ++ asks_of (take n old) ≡ all → (inputs ++ Ask body ∷ []) ++ asks_of (take m new) ≡ all
  next_taken old new note body inputs all n m next is h =
      append_assoc inputs (Ask body ∷ []) (asks_of (take m new)) ∙ sym (λ i. inputs ++ asks_of (take (next i) (is i))) ∙ h

  none_taken : (n : ℕ) (w : List (Request B)) → w ≡ [] → (asks_of {B = B} {L = L} (take n w) ≡ []) × (w ≡ drop n w)
  none_taken zero w is = (refl, refl)
  none_taken (suc n) w is = (λ i. asks_of (take (suc n) (is i)), is ∙ sym (ap (drop (suc n)) is))

  -- all are, since the limit is reached or none waits any more
  pub all_taken : (old new : List (Request B)) (inputs : List (NodeInput B L)) (n m : ℕ) → m ≡ min batch_limit (length old) → inputs ++ asks_of (take n new) ≡ asks_of (take m old) → drop n new ≡ drop m old
      → asks_of {B = B} {L = L} (take n new) ≡ [] → new ≡ drop n new → TakesFront old inputs new
  all_taken old new inputs n m many taken left none same =
      inl (
        sym (append-nil inputs) ∙ sym (ap (λ (l : List (NodeInput B L)). inputs ++ l) none) ∙ taken ∙ (λ i. asks_of (take (many i) old)) ∙ ap asks_of (take_min batch_limit old),
        same ∙ left ∙ (λ i. drop (many i) old) ∙ drop_min batch_limit old,
      )

  pub none_waits_more : (old new : List (Request B)) (inputs : List (NodeInput B L)) (n m : ℕ) → m ≡ min batch_limit (length old) → inputs ++ asks_of (take n new) ≡ asks_of (take m old) → drop n new ≡ drop m old
      → new ≡ [] → TakesFront old inputs new
  none_waits_more old new inputs n m many taken left none = let end = none_taken n new none in all_taken old new inputs n m many taken left end.0 end.1

  pub so_many : (old new : List (Request B)) (inputs : List (NodeInput B L)) (n m : ℕ) → m ≡ min batch_limit (length old) → inputs ++ asks_of (take n new) ≡ asks_of (take m old) → drop n new ≡ drop m old
      → n ≡ 0 → TakesFront old inputs new
  so_many old new inputs n m many taken left end = all_taken old new inputs n m many taken left (λ i. asks_of (take (end i) new)) (sym (λ i. drop (end i) new))

  -- ---- a leader may be asked them

  module _ {Setup Hosted Store T E P U : Type 0} where
    front_ready : (w : List (Request B)) (c : CellParts Setup Hosted Store B L T E P U) → leads_in c ≡ true → AreReady (asks_of (take batch_limit w)) c
    front_ready w c leads =
        let many = asks_many L (take batch_limit w) in
        let few = few_taken batch_limit w in
        record { append = asks_append L (take batch_limit w); leads = λ some. leads; few = omega (arith, many, few) }

    pub asks_ready : (old new : List (Request B)) (inputs : List (NodeInput B L)) (c : CellParts Setup Hosted Store B L T E P U) → TakesFront old inputs new → leads_in c ≡ true → AreReady inputs c
    asks_ready old new inputs c h leads =
        ⊎_elim (λ (s : (inputs ≡ asks_of (take batch_limit old)) × (new ≡ drop batch_limit old)). subst (λ (l : List (NodeInput B L)). AreReady l c) (sym s.0) (front_ready old c leads))
        (λ (s : (inputs ≡ []) × (new ≡ old)). none_ready inputs c s.0) h

  pub front_left : (old new : List (Request B)) (inputs : List (NodeInput B L)) → TakesFront old inputs new → (inputs ≡ [] → ⊥) → new ≡ drop batch_limit old
  front_left old new inputs h some =
      ⊎_elim (λ (s : (inputs ≡ asks_of (take batch_limit old)) × (new ≡ drop batch_limit old)). s.1) (λ (s : (inputs ≡ []) × (new ≡ old)). absurd (some s.0)) h

  pub front_asked : (old new : List (Request B)) (inputs : List (NodeInput B L)) → TakesFront old inputs new → (inputs ≡ [] → ⊥) → inputs ≡ asks_of (take batch_limit old)
  front_asked old new inputs h some =
      ⊎_elim (λ (s : (inputs ≡ asks_of (take batch_limit old)) × (new ≡ drop batch_limit old)). s.0) (λ (s : (inputs ≡ []) × (new ≡ old)). absurd (some s.0)) h
