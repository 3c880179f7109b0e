-- How the requests that wait at a worker change, over several steps.
use Rattle.std.proofs.Common.{◌≡◌, ◌≤◌, ◌++◌, ◌+◌, ◌&&◌, ◌⊎◌, inl, inr, ⊎_elim, ℕ, Bool, nat_eq, true, false, List, [], ◌∷◌, nat_lt, Option, Some, None, refl, sym, ap, ◌∙◌, subst, if◌then◌else◌, arith, ◌<◌, length, drop, get_or}
use Rattle.std.proofs.lemmas.Bool.{eqb-true}
use Rattle.std.proofs.lemmas.List.{drop_more, append_assoc}
use Rattle.world_views.specs.declared.envelope.Envelope.{Envelope}
use Rattle.node_notes.specs.declared.note.Note.{Note}
use Rattle.node_notes.specs.declared.note.Note.TheVariants as note
use Rattle.world_views.specs.Inputs.{NodeInput}
use Rattle.node_threads.specs.declared.inflow.Next.{Next}
use Rattle.node_threads.specs.declared.job.Job.{Job}
use Rattle.node_threads.specs.declared.job.Job.TheVariants as job
use Rattle.node_threads.specs.declared.worker_loop.requests.Asked.{Asked}
use Rattle.node_threads.specs.declared.worker_loop.requests.Request.{Request}
use Rattle.node_threads.specs.Inflows.{jobs_in}
use Rattle.node_threads.specs.Reports.{is_end, is_told}
use Rattle.node_threads.specs.Requests.{HasAsked, Queue, WaitsOrIsLost, at_rest, in_front, in_term, lose, lose_before, note_in, request, settled}
use Rattle.node_threads.specs.Together.{appended, input_in}
use Rattle.node_threads.specs.Waiting.{Account, AreBack, CameBack, ComesBack, HaveComeBack, Heeds, HeedsJob, HeedsNote, HeedsUnless, brought_back, counted}
use Rattle.node_threads.proofs.Inflows.{jobs_end}

pub some_pushed : {A : Type 0} (xs : List A) (x : A) → xs ++ x ∷ [] ≡ [] → ⊥
some_pushed [] x is = cc is
some_pushed (y ∷ xs) x is = cc is

-- ---- the last that was asked comes back once

rest_twice : (asked : Option Asked) → at_rest (at_rest asked) ≡ at_rest asked
rest_twice None = refl
rest_twice (Some asked) = refl

rests : (asked : Option Asked) (note term : ℕ) → at_rest asked ≡ Some (record { note = note; term = term; may_return = true }) → ⊥
rests None note term is = cc is
rests (Some asked) note term is = let back : Asked = record asked { may_return = false } in let same : back ≡ record { note = note; term = term; may_return = true } = cc is in
    let clash : false ≡ true = ap (λ (a : Asked). a.may_return) same in cc clash

rest_more : (asked mid now : Option Asked) → mid ≡ at_rest asked → (now ≡ mid) ⊎ (now ≡ at_rest mid) → now ≡ at_rest asked
rest_more asked mid now one two =
    ⊎_elim (λ (same : now ≡ mid). same ∙ one) (λ (rest : now ≡ at_rest mid). rest ∙ ap at_rest one ∙ rest_twice asked) two

noted : (same may : Bool) (is : ℕ) (note : ℕ) → (if same && may then Some is else None) ≡ Some note → (same ≡ true) × (may ≡ true) × (is ≡ note)
noted true true is note h = (refl, refl, cc h)
noted true false is note h = absurd (cc h)
noted false may is note h = absurd (cc h)

-- what comes back was asked last, and in this term
asked_last : (term : ℕ) (asked : Option Asked) (note : ℕ) → note_in term asked ≡ Some note → asked ≡ Some (record { note = note; term = term; may_return = true })
asked_last term None note is = absurd (cc is)
asked_last term (Some asked) note is =
    let h = noted (nat_eq asked.term term) asked.may_return asked.note note is in
    let terms = eqb-true asked.term term h.0 in
    λ i. Some (record { note = h.2 i; term = terms i; may_return = h.1 i })

module _ {B : Type 0} where
  came_again : (asked mid now : Option Asked) (xs ys : List (Request B)) → CameBack asked xs mid → CameBack mid ys now → CameBack asked (ys ++ xs) now
  came_again asked mid now [] [] one two =
      ⊎_elim (λ (same : mid ≡ asked). subst (λ (z : Option Asked). CameBack {B = B} z [] now) same two) (λ (rest : mid ≡ at_rest asked). inr (rest_more asked mid now rest two)) one
  came_again asked mid now (r ∷ []) [] one two = (one.0, one.1, rest_more asked mid now one.2 two)
  came_again asked mid now [] (q ∷ []) one two =
      ⊎_elim (λ (same : mid ≡ asked). subst (λ (z : Option Asked). CameBack z (q ∷ []) now) same two) (λ (rest : mid ≡ at_rest asked). absurd (rests asked q.note two.0 (sym rest ∙ two.1))) one
  came_again asked mid now (r ∷ []) (q ∷ []) one two = absurd (rests asked q.note two.0 (sym one.2 ∙ two.1))
  came_again asked mid now (r ∷ p ∷ xs) ys one two = absurd one
  came_again asked mid now xs (q ∷ p ∷ ys) one two = absurd two

  -- none came back
  pub none_back : (a b : Account B) → b ≡ a → HaveComeBack a b
  none_back a b is = subst (λ (z : Account B). HaveComeBack a z) (sym is) (record { back = []; waiting_is = refl; came = inl refl; lost_grows = omega arith; done_is = refl })

  -- some came back, and then some more
  pub back_again : (a m b : Account B) → HaveComeBack a m → HaveComeBack m b → HaveComeBack a b
  back_again a m b one two =
      let least = one.lost_grows in
      let more = two.lost_grows in
      record {
        back = two.back ++ one.back;
        waiting_is = two.waiting_is ∙ ap (λ w. two.back ++ w) one.waiting_is ∙ sym (append_assoc two.back one.back a.requests.waiting);
        came = came_again a.requests.asked m.requests.asked b.requests.asked one.back two.back one.came two.came;
        lost_grows = omega (arith, least, more);
        done_is = two.done_is ∙ one.done_is;
      }

  -- a request that came back, for which memory ran out
  pub one_lost : (note done : ℕ) (old new : Queue B) → new ≡ lose note (settled old) → HaveComeBack (record { done = done; requests = old }) (record { done = done; requests = new })
  one_lost note done old new lost =
      subst (λ (q : Queue B). HaveComeBack (record { done = done; requests = old }) (record { done = done; requests = q })) (sym lost)
      (record { back = []; waiting_is = refl; came = inr refl; lost_grows = omega arith; done_is = refl })

  -- a request that came back, or for which memory ran out
  pub one_or_lost : (note : ℕ) (body : B) (term done : ℕ) (old new : Queue B) → note_in term old.asked ≡ Some note → WaitsOrIsLost note (in_front (request note body) (settled old)) (settled old) new
      → HaveComeBack (record { done = done; requests = old }) (record { done = done; requests = new })
  one_or_lost note body term done old new last is =
      ⊎_elim
      (λ (waits : new ≡ in_front (request note body) (settled old)).
      subst (λ (q : Queue B). HaveComeBack (record { done = done; requests = old }) (record { done = done; requests = q })) (sym waits)
      (record { back = request note body ∷ []; waiting_is = refl; came = (term, asked_last term old.asked note last, refl); lost_grows = omega arith; done_is = refl }))
      (λ (lost : new ≡ lose note (settled old)). one_lost note done old new lost) is

  -- what was asked before no longer comes back
  pub none_again : (done : ℕ) (old new : Queue B) → new ≡ settled old → HaveComeBack (record { done = done; requests = old }) (record { done = done; requests = new })
  none_again done old new is =
      subst (λ (q : Queue B). HaveComeBack (record { done = done; requests = old }) (record { done = done; requests = q })) (sym is)
      (record { back = []; waiting_is = refl; came = inr refl; lost_grows = omega arith; done_is = refl })

  lost_if : (late : Bool) (note : ℕ) (q : Queue B) → q.lost ≤ (if late then lose note q else q).lost
  lost_if true note q = omega arith
  lost_if false note q = omega arith

  lost_before : (term : ℕ) (asked : Option Asked) (q : Queue B) → q.lost ≤ (lose_before term asked q).lost
  lost_before term None q = omega arith
  lost_before term (Some asked) q = lost_if (nat_lt asked.term term) asked.note q

  -- a request that is asked leaves no fewer that may be lost
  pub lost_by_asking : (term : ℕ) (old : Queue B) (body : B) (new : Queue B) → HasAsked term old (Some body) new → old.lost ≤ new.lost
  lost_by_asking term old body new h =
      let q : Queue B = record old { waiting = new.waiting } in
      let is : new.lost ≡ (in_term term q).lost = ap (λ (z : Queue B). z.lost) h.2 in
      let least = lost_before term old.asked q in
      omega (arith, is, least)

  -- one more message, of those that were not taken
  pub back_more : (term : ℕ) (leader : Option ℕ) (es : List (Envelope B)) (i : ℕ) (e : Envelope B) (q m new : Queue B) → i < length es → e ≡ get_or es i e
      → ComesBack (brought_back term leader q.asked e.message) q m → AreBack term leader (drop (i + 1) es) m new → AreBack term leader (drop i es) q new
  back_more term leader es i e q m new within is one more =
      subst (λ (l : List (Envelope B)). AreBack term leader l q new) (sym (drop_more es i e within ∙ ap (λ z. z ∷ drop (i + 1) es) (sym is))) (m, one, more)

module _ {B L : Type 0} where
  note_kept : (n : Note B L) (x : NodeInput B L) (a b : Account B) → input_in n ≡ Some x → HaveComeBack a b → HeedsNote n a b
  note_kept (note.Timeout contacts) x a b is h = h
  note_kept note.Beat x a b is h = h
  note_kept (note.Ask body) x a b is h = absurd (cc is)
  note_kept note.Opened x a b is h = h
  note_kept note.Closed x a b is h = h
  note_kept (note.Heard at line) x a b is h = h
  note_kept note.Claim x a b is h = h
  note_kept note.Wake x a b is h = h
  note_kept note.Restart x a b is h = absurd (cc is)
  note_kept note.End x a b is h = h

module _ {M A L T P S C E : Type 0} where
  -- what a leader only appends removes no request
  pub job_kept : (j : Job M A L T P S C E) (x : NodeInput C L) (a b : Account C) → appended j ≡ Some x → HaveComeBack a b → HeedsJob j a b
  job_kept (job.Note n) x a b is h = note_kept n x a b is h
  job_kept (job.Look place target reply) x a b is h = h
  job_kept (job.Mark reply) x a b is h = h
  job_kept (job.LookAfter number target reply) x a b is h = h
  job_kept (job.Restart reply) x a b is h = absurd (cc is)
  job_kept (job.Status reply) x a b is h = h

  pub heeds_both : (js ks : List (Job M A L T P S C E)) (a m b : Account C) → Heeds js a m → Heeds ks m b → Heeds (js ++ ks) a b
  heeds_both [] ks a m b h more = subst (λ (z : Account C). Heeds ks z b) h more
  heeds_both (j ∷ js) ks a m b h more = (h.0, h.1, heeds_both js ks h.0 m b h.2 more)

  -- a job that is taken up is heeded, and the end is not taken up
  pub heeds_one : (j : Job M A L T P S C E) (a b : Account C) → is_end j ≡ false → HeedsJob j (counted (is_told j) a) b → Heeds (j ∷ []) a b
  heeds_one j a b is h = (b, subst (λ (e : Bool). HeedsUnless e j a b) (sym is) h, refl)

  pub heeds_stop : (j : Job M A L T P S C E) (a : Account C) → is_end j ≡ true → Heeds (j ∷ []) a a
  heeds_stop j a is = (a, subst (λ (e : Bool). HeedsUnless e j a a) (sym is) refl, refl)

  -- what came next is heeded after what came before
  pub heeds_next : (came : List (Next (Job M A L T P S C E))) (x : Next (Job M A L T P S C E)) (a m b : Account C) → Heeds (jobs_in came) a m → Heeds (jobs_in (x ∷ [])) m b
      → Heeds (jobs_in (came ++ x ∷ [])) a b
  heeds_next came x a m b h one =
      subst (λ (js : List (Job M A L T P S C E)). Heeds js a b) (sym (jobs_end came x)) (heeds_both (jobs_in came) (jobs_in (x ∷ [])) a m b h one)
