-- How a run of a disk's calls goes on.
use Rattle.std.proofs.Common.{◌≡◌, inl, inr, ⊎_elim, ℕ, List, [], ◌∷◌, ◌++◌, refl, sym, ◌∙◌, ap, subst, arith, append_assoc}
use Rattle.journal_store.specs.Disks.{DiskState, Within, Leaves, Each, Adds, Runs, LeavesOnly, IsImage, now, settled_at, writing}
use Rattle.journal_store.specs.DiskLaws.{own_image}

pub each_joined : (P : DiskState → Type 0) (a b : List DiskState) → Each P a → Each P b → Each P (a ++ b)
each_joined P [] b p q = q
each_joined P (s ∷ a) b p q = (p.0, each_joined P a b p.1 q)

pub each_through : (P Q : DiskState → Type 0) → ((s : DiskState) → P s → Q s) → (a : List DiskState) → Each P a → Each Q a
each_through P Q to [] h = tt
each_through P Q to (s ∷ a) h = (to s h.0, each_through P Q to a h.1)

-- before the first call
pub started : (P : List ℕ → Type 0) (old : List DiskState) → LeavesOnly P old old
started P old = record { added = []; joined = refl; each = tt }

-- one more call
pub goes_on : (P : List ℕ → Type 0) (bound : DiskState) (old mid new : List DiskState) → LeavesOnly P old mid → Runs bound mid new → Leaves P bound → LeavesOnly P old new
goes_on P bound old mid new so_far call here = record {
  added = call.added ++ so_far.added;
  joined = call.joined ∙ (ap (λ (l : List DiskState). call.added ++ l) so_far.joined ∙ sym (append_assoc call.added so_far.added old));
  each = each_joined (Leaves P) call.added so_far.added (each_through (λ s. Within s bound) (Leaves P) (λ s within file im. here file (within.leaves file im)) call.added call.each) so_far.each;
}

-- the final state is one of them, or the one from before
pub ends : (P : DiskState → Type 0) (old new : List DiskState) → P (now old) → Adds P old new → P (now new)
ends P old new before call = subst (λ l. P (now l)) (sym call.joined) (of call.added call.each)
  where
    of : (added : List DiskState) → Each P added → P (now (added ++ old))
    of [] h = before
    of (s ∷ added) h = h.0

pub within_self : (s : DiskState) → Within s s
within_self s = record { leaves = λ file im. im; risks = λ r h. h }

pub within_both : (s mid bound : DiskState) → Within s mid → Within mid bound → Within s bound
within_both s mid bound first second = record { leaves = λ file im. second.leaves file (first.leaves file im); risks = λ r h. second.risks r (first.risks r h) }

-- a crash can still leave a state's own images while more is written
pub while_writing : (at n : ℕ) (s : DiskState) → Within s (writing at n s)
while_writing at n s = record {
  leaves = λ file im. record { no_shorter = im.no_shorter; no_longer = omega (arith, im.no_longer); stays = λ i lt inside out left. im.stays i lt inside out.1 left };
  risks = λ r h. ⊎_elim (λ w. inl (inr w)) (λ l. inr l) h;
}

pub within_now : (bound : DiskState) (old new : List DiskState) → Within (now old) bound → Runs bound old new → Within (now new) bound
within_now bound old new = ends (λ s. Within s bound) old new

-- a sync after a write
pub then_syncs : (bound : DiskState) (old mid new : List DiskState) → Within (now old) bound → Runs bound old mid → Runs (now mid) mid new → Runs bound old new
then_syncs bound old mid new before write sync = record {
  added = sync.added ++ write.added;
  joined = sync.joined ∙ (ap (λ (l : List DiskState). sync.added ++ l) write.joined ∙ sym (append_assoc sync.added write.added old));
  each = each_joined (λ s. Within s bound) sync.added write.added (each_through (λ s. Within s (now mid)) (λ s. Within s bound) (λ s within. within_both s (now mid) bound within (within_now bound old mid before write)) sync.added sync.each) write.each;
}
