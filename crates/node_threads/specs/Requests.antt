-- The requests that wait at a worker.
use Rattle.std.specs.Prelude.{◌≡◌, ◌⊎◌, ◌&&◌, ℕ, true, false, nat_eq, nat_lt, max, List, [], ◌∷◌, ◌++◌, Option, Some, None, if◌then◌else◌}
use Rattle.node_threads.specs.declared.worker_loop.requests.Asked.{Asked}
use Rattle.node_threads.specs.declared.worker_loop.requests.Request.{Request}
use Rattle.node_threads.specs.declared.worker_loop.requests.Requests.{Requests}

-- what waits, in order, the last that was asked, and the last note whose request may be lost
pub record Queue (B : Type 0) : Type 0 where
  pub waiting : List (Request B)
  pub asked : Option Asked
  pub lost : ℕ

-- the note of the last request, if it was asked in this term and may come back
abbrev pub note_in : ℕ → Option Asked → Option ℕ
note_in term None = None
note_in term (Some asked) = if nat_eq asked.term term && asked.may_return then Some asked.note else None

-- the last that was asked, which no longer comes back
abbrev pub at_rest : Option Asked → Option Asked
at_rest None = None
at_rest (Some asked) = Some (record asked { may_return = false })

module _ {B : Type 0} where
  abbrev pub queue_of : Requests B → Queue B
  queue_of r = record { waiting = r.waiting.items; asked = r.asked; lost = r.lost }

  abbrev pub request : ℕ → B → Request B
  request note body = record { note = note; body = body }

  -- the request of this note may be lost, and so may those before it
  abbrev pub lose : ℕ → Queue B → Queue B
  lose note q = record q { lost = max q.lost note }

  -- it waits after all others
  abbrev pub behind : Request B → Queue B → Queue B
  behind r q = record q { waiting = q.waiting ++ r ∷ [] }

  -- it waits before all others
  abbrev pub in_front : Request B → Queue B → Queue B
  in_front r q = record q { waiting = r ∷ q.waiting }

  -- a request waits like this, or, if memory runs out, may be lost
  abbrev pub WaitsOrIsLost : ℕ → Queue B → Queue B → Queue B → Type 0
  WaitsOrIsLost note waits old new = (new ≡ waits) ⊎ (new ≡ lose note old)

  abbrev pub lose_before : ℕ → Option Asked → Queue B → Queue B
  lose_before term None q = q
  lose_before term (Some asked) q = if nat_lt asked.term term then lose asked.note q else q

  -- in this term, what was asked in an earlier one may be lost
  abbrev pub in_term : ℕ → Queue B → Queue B
  in_term term q = lose_before term q.asked q

  abbrev pub asked_now : ℕ → ℕ → Queue B → Queue B
  asked_now note term q = record q { asked = Some (record { note = note; term = term; may_return = true }) }

  -- the same for the queue
  abbrev pub settled : Queue B → Queue B
  settled q = record q { asked = at_rest q.asked }

  -- the last that was asked, after these were asked in this term, in order
  abbrev pub last_asked : ℕ → List (Request B) → Option Asked → Option Asked
  last_asked term [] asked = asked
  last_asked term (r ∷ requests) asked = last_asked term requests (Some (record { note = r.note; term = term; may_return = true }))

  -- The first of those that wait, if there is one, is asked in this term.
  abbrev pub HasAsked : ℕ → Queue B → Option B → Queue B → Type 0
  HasAsked term old None new = (old.waiting ≡ []) × (new ≡ old)
  HasAsked term old (Some body) new =
      (note : ℕ) × (old.waiting ≡ request note body ∷ new.waiting) × (new ≡ asked_now note term (in_term term (record old { waiting = new.waiting })))

  -- none waits, and none was asked in this run
  abbrev pub ended : Queue B → Queue B
  ended q = record q { waiting = []; asked = None }
