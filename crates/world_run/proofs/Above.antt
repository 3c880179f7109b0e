-- What no event brought so far is agreed later only above all that is committed.
use Rattle.std.proofs.Common.{pred, take, ◌≡◌, ℕ, zero, suc, ◌<◌, ◌≤◌, List, [], ◌∷◌, ◌++◌, ◌⊎◌, ⊎_elim, Some, length, slice_get, sym, subst, ◌∙◌, arith}
use Rattle.std.proofs.lemmas.Bool.{cases_lt}
use Rattle.raft_log.specs.Lists.{item}
use Rattle.raft_log.specs.declared.entry.Entry.{Entry}
use Rattle.agreement.specs.World.{committed, Begins, start}
use Rattle.raft_node.specs.Machine.{Machine}
use Rattle.world_run.specs.World.{Event, Brought, moment, agreed}
use Rattle.agreement.proofs.Lists.{begins_length, begins_trans, begins_shorter, begins_take, length_take}
use Rattle.world_run.specs.Laws.{OverAll, LaterIsAbove, ConfirmedHas, AppliedHas, LookHas}
use Rattle.world_run.proofs.Leaving.{Fine}
use Rattle.world_run.proofs.Holds.{in_agreed, agreed_grows, each_brought, Whole, whole, fine_at}
use Rattle.world_run.proofs.Answers.{looks_are_faithful}

module _ {B : Type 0} where
  get_front : (xs rest : List (Entry B)) (k : ℕ) (e : Entry B) → k < length xs → slice_get (xs ++ rest) k ≡ Some e → slice_get xs k ≡ Some e
  get_front [] rest k e h at = absurd (omega arith)
  get_front (x ∷ xs) rest zero e h at = at
  get_front (x ∷ xs) rest (suc k) e h at = get_front xs rest k e (omega arith) at

  -- an entry of a list, at a place that a beginning of the list has
  item_front : (xs ys : List (Entry B)) (p : ℕ) (e : Entry B) → Begins xs ys → p ≤ length xs → item ys p ≡ Some e → item xs p ≡ Some e
  item_front xs ys zero e b h at = absurd (cc at)
  item_front xs ys (suc p) e b h at = get_front xs b.0 p e h (subst (λ z. slice_get z p ≡ Some e) (sym b.1) at)

  get_more : (xs rest : List (Entry B)) (k : ℕ) (e : Entry B) → slice_get xs k ≡ Some e → (k < length xs) × (slice_get (xs ++ rest) k ≡ Some e)
  get_more [] rest k e at = absurd (cc at)
  get_more (x ∷ xs) rest zero e at = (omega arith, at)
  get_more (x ∷ xs) rest (suc k) e at = let r = get_more xs rest k e at in (omega (arith, r.0), r.1)

  -- an entry of a beginning
  item_more : (xs ys : List (Entry B)) (p : ℕ) (e : Entry B) → Begins xs ys → item xs p ≡ Some e → (p ≤ length xs) × (item ys p ≡ Some e)
  item_more xs ys zero e b at = absurd (cc at)
  item_more xs ys (suc p) e b at =
      let r = get_more xs b.0 p e at in (omega (arith, r.0), subst (λ z. slice_get z p ≡ Some e) b.1 r.1)

module _ (M : Machine) where
  -- what is agreed so far begins what is agreed later, and was brought; what is committed begins it
  pub later_is_above : OverAll M LaterIsAbove
  later_is_above size early late b p e full new at is k a =
      ⊎_elim (λ h. h)
      (λ h.
      let up : Begins (agreed M size early) (agreed M size (early ++ late)) = agreed_grows M size early late in
      let within : p ≤ length (agreed M size early) = omega (arith, h, begins_length _ (agreed M size early) (in_agreed M size early k a)) in
      let here : item (agreed M size early) p ≡ Some e = item_front (agreed M size early) (agreed M size (early ++ late)) p e up within at in
      let of : (e.body ≡ M.blank) ⊎ Brought M early (start size) e.body = each_brought M size early p e here in
      absurd (⊎_elim (λ x. full (sym is ∙ x)) (λ x. new (subst (λ z. Brought M early (start size) z) is x)) of))
      (cases_lt (length (committed (moment M size early k) a)) p)

  old_in : (size : ℕ) (early late : List (Event M)) (k a : ℕ) → Begins (committed (moment M size early k) a) (agreed M size (early ++ late))
  old_in size early late k a = begins_trans _ (agreed M size early) (agreed M size (early ++ late)) (in_agreed M size early k a) (agreed_grows M size early late)

  -- any beginning of the agreed list that has the body
  has_all : (size : ℕ) (early late : List (Event M)) (b : M.Body) (theirs : List (Entry M.Body)) (p : ℕ) (e : Entry M.Body) → Begins theirs (agreed M size (early ++ late))
      → (b ≡ M.blank → ⊥) → (Brought M early (start size) b → ⊥) → item theirs p ≡ Some e → e.body ≡ b → (k a : ℕ) → Begins (committed (moment M size early k) a) (take (pred p) theirs)
  has_all size early late b theirs p e theirs_in full new at is k a =
      let l : List (Entry M.Body) = agreed M size (early ++ late) in
      let r : (p ≤ length theirs) × (item l p ≡ Some e) = item_more theirs l p e theirs_in at in
      let lt : length (committed (moment M size early k) a) < p = later_is_above size early late b p e full new r.1 is k a in
      begins_shorter (committed (moment M size early k) a) (take (pred p) theirs) l (old_in size early late k a)
      (begins_trans (take (pred p) theirs) theirs l (begins_take (pred p) theirs) theirs_in)
      (omega (arith, lt, length_take (pred p) theirs (omega (arith, r.0))))

  pub confirmed_has : OverAll M ConfirmedHas
  confirmed_has size early late b m c p e full new at is k a =
      has_all size early late b (committed (moment M size (early ++ late) m) c) p e (in_agreed M size (early ++ late) m c) full new at is k a

  pub applied_has : OverAll M AppliedHas
  applied_has size early late b m c p s e full new there at is k a =
      let h : Whole M size (early ++ late) = whole M size (early ++ late) in
      let f : Fine M h.owner h.boots (agreed M size (early ++ late)) c s = fine_at M size (early ++ late) h m c s there in
      let shorter : Begins (take s.applied s.log) (take s.commit s.log) =
      begins_shorter (take s.applied s.log) (take s.commit s.log) s.log (begins_take s.applied s.log) (begins_take s.commit s.log)
      (omega (arith, f.applied_in, f.commit_in, length_take s.applied s.log (omega (arith, f.applied_in, f.commit_in)), length_take s.commit s.log f.commit_in)) in
      has_all size early late b (take s.applied s.log) p e (begins_trans (take s.applied s.log) (take s.commit s.log) (agreed M size (early ++ late)) shorter f.begins) full new at is k a

  pub look_has : OverAll M LookHas
  look_has size early late b p e j i from place target lines full new at is le asked told k a =
      let l : List (Entry M.Body) = agreed M size (early ++ late) in
      let lt : length (committed (moment M size early k) a) < p = later_is_above size early late b p e full new at is k a in
      let f = looks_are_faithful M size (early ++ late) j i from place target lines asked told in (
        f.2,
        begins_shorter (committed (moment M size early k) a) (take place l) l (old_in size early late k a) (begins_take place l)
            (omega (arith, lt, le, length_take place l f.1)),
      )
