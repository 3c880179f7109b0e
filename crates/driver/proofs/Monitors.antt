-- What changes in the monitors, and what does not.
use Rattle.std.proofs.Common.{◌≡◌, ◌∙◌, ℕ, ◌+◌, ◌-◌, ◌<◌, ◌≤◌, List, Option, Some, None, length, refl, sym, ap, subst, set, slice_get, ⊎_elim}
use Rattle.std.specs.Prelude.{map, option_map}
use Rattle.std.proofs.lemmas.Bool.{cases_lt}
use Rattle.std.proofs.lemmas.List.{get_or-set_same, get_or-set_other, length-set}
use Rattle.std.proofs.lemmas.Option.{slice_get-get_or, slice_get-map, slice_get_past, slice_get_within}
use Rattle.node_notes.specs.declared.note.Note.TheVariants as note
use Rattle.node_notes.specs.declared.status.Status.{Status}
use Rattle.bouncer_tower.specs.Bodies.{TowerBody}
use Rattle.buffer_commands.specs.declared.wire_line.WireLine.{WireLine}
use Rattle.node_notes.specs.declared.note.Note.{Note}
use Rattle.driver.specs.declared.node_monitor.standing.Claimed.{Claimed}
use Rattle.driver.specs.declared.node_monitor.NodeMonitor.{NodeMonitor}
use Rattle.driver.specs.declared.retirement.Retirement.{Retirement}
use Rattle.driver.specs.declared.settings.Settings.{Settings}
use Rattle.driver.specs.Monitors.{monitor_behind, note_at}
use Rattle.driver.specs.Driving.{changed_at, changed_if, clock_told, clocked, ticked}
use Rattle.driver.specs.Retiring.{restart_at, restart_behind}
use Rattle.driver.specs.Telling.{Ordered}
use Rattle.driver.proofs.Growing.{by_number}

-- the parts of a monitor that the law of claims looks at: its node, the last claim, and the node's
-- state
pub record Look : Type 0 where
  pub id : ℕ
  pub claimed : Option Claimed
  pub status : Option Status

abbrev pub look : NodeMonitor → Look
look monitor = record { id = monitor.id; claimed = monitor.claimed; status = monitor.status }

abbrev pub look_in : Option NodeMonitor → Option Look
look_in None = None
look_in (Some monitor) = Some (look monitor)

abbrev pub look_at : List NodeMonitor → ℕ → Option Look
look_at monitors i = look_in (slice_get monitors i)

-- the monitor at place i belongs to node i + 1
abbrev pub Ids : List NodeMonitor → Type 0
Ids monitors = (i : ℕ) (x : Look) → look_at monitors i ≡ Some x → x.id ≡ i + 1

pub get_same : (monitors : List NodeMonitor) (i : ℕ) (d v : NodeMonitor) → slice_get monitors i ≡ Some d → slice_get (set monitors i v) i ≡ Some v
get_same monitors i d v is =
    let within : i < length monitors = slice_get_within monitors i d is in
    let inside : i < length (set monitors i v) = subst (λ n. i < n) (sym (length-set monitors i v)) within in
    slice_get-get_or (set monitors i v) i d inside ∙ ap Some (get_or-set_same monitors i v d within)

pub get_other : (monitors : List NodeMonitor) (i j : ℕ) (d v : NodeMonitor) → (j ≡ i → ⊥) → slice_get (set monitors i v) j ≡ slice_get monitors j
get_other monitors i j d v apart =
    ⊎_elim
    (λ h.
    let inside : j < length (set monitors i v) = subst (λ n. j < n) (sym (length-set monitors i v)) h in
    slice_get-get_or (set monitors i v) j d inside ∙ ap Some (get_or-set_other monitors i j v d apart) ∙ sym (slice_get-get_or monitors j d h))
    (λ h.
    let past : length (set monitors i v) ≤ j = subst (λ n. n ≤ j) (sym (length-set monitors i v)) h in
    slice_get_past (set monitors i v) j past ∙ sym (slice_get_past monitors j h))
    (cases_lt j (length monitors))

changed_own_by : (change : NodeMonitor → NodeMonitor) (monitors : List NodeMonitor) (i : ℕ) (found : Option NodeMonitor) → slice_get monitors i ≡ found → look_at (changed_if change monitors i found) i ≡ look_in (option_map change found)
changed_own_by change monitors i None is = ap look_in is
changed_own_by change monitors i (Some d) is = ap look_in (get_same monitors i d (change d) is)

-- the monitor that is changed
pub changed_own : (change : NodeMonitor → NodeMonitor) (monitors : List NodeMonitor) (node : ℕ) → look_at (changed_at change monitors node) (node - 1) ≡ look_in (option_map change (slice_get monitors (node - 1)))
changed_own change monitors node = changed_own_by change monitors (node - 1) (slice_get monitors (node - 1)) refl

changed_other_by : (change : NodeMonitor → NodeMonitor) (monitors : List NodeMonitor) (i j : ℕ) (found : Option NodeMonitor) → (j ≡ i → ⊥) → look_at (changed_if change monitors i found) j ≡ look_at monitors j
changed_other_by change monitors i j None apart = refl
changed_other_by change monitors i j (Some d) apart = ap look_in (get_other monitors i j d (change d) apart)

-- the others
pub changed_other : (change : NodeMonitor → NodeMonitor) (monitors : List NodeMonitor) (node j : ℕ) → (j ≡ node - 1 → ⊥) → look_at (changed_at change monitors node) j ≡ look_at monitors j
changed_other change monitors node j apart = changed_other_by change monitors (node - 1) j (slice_get monitors (node - 1)) apart

look_kept : (change : NodeMonitor → NodeMonitor) → ((d : NodeMonitor) → look (change d) ≡ look d) → (found : Option NodeMonitor) → look_in (option_map change found) ≡ look_in found
look_kept change same None = refl
look_kept change same (Some d) = ap Some (same d)

-- a change that this law does not look at
pub changed_same : (change : NodeMonitor → NodeMonitor) → ((d : NodeMonitor) → look (change d) ≡ look d) → (monitors : List NodeMonitor) (node j : ℕ) → look_at (changed_at change monitors node) j ≡ look_at monitors j
changed_same change same monitors node j =
    by_number j (node - 1) (look_at (changed_at change monitors node) j ≡ look_at monitors j)
    (λ is.
    subst (λ (i : ℕ). look_at (changed_at change monitors node) i ≡ look_at monitors i) (sym is)
    (changed_own change monitors node ∙ look_kept change same (slice_get monitors (node - 1))))
    (λ apart. changed_other change monitors node j apart)

pub mapped_same : (change : NodeMonitor → NodeMonitor) → ((d : NodeMonitor) → look (change d) ≡ look d) → (monitors : List NodeMonitor) (j : ℕ) → look_at (map change monitors) j ≡ look_at monitors j
mapped_same change same monitors j = ap look_in (slice_get-map change monitors j) ∙ look_kept change same (slice_get monitors j)

pub ids_kept : (old new : List NodeMonitor) → ((j : ℕ) → look_at new j ≡ look_at old j) → Ids old → Ids new
ids_kept old new same ids = λ i x is. ids i x (sym (same i) ∙ is)

abbrev or_look : Look → Option Look → Look
or_look x None = x
or_look x (Some y) = y

id_of : (found : Option NodeMonitor) (change : NodeMonitor → NodeMonitor) (i : ℕ) (x : Look) → ((d : NodeMonitor) → (change d).id ≡ d.id) → ((y : Look) → look_in found ≡ Some y → y.id ≡ i + 1) → look_in (option_map change found) ≡ Some x → x.id ≡ i + 1
id_of None change i x same ids is = absurd (cc is)
id_of (Some d) change i x same ids is =
    ap (λ (y : Look). y.id) (sym (ap (or_look x) is)) ∙ same d ∙ ids (look d) refl

-- a change that keeps the node of a monitor
pub ids_changed : (change : NodeMonitor → NodeMonitor) → ((d : NodeMonitor) → (change d).id ≡ d.id) → (monitors : List NodeMonitor) (node : ℕ) → Ids monitors → Ids (changed_at change monitors node)
ids_changed change same monitors node ids = λ i x is.
    by_number i (node - 1) (x.id ≡ i + 1)
    (λ e.
    id_of (slice_get monitors i) change i x same (λ y here. ids i y here)
    (subst (λ (k : ℕ). look_in (option_map change (slice_get monitors k)) ≡ Some x) (sym e)
    (sym (changed_own change monitors node) ∙ subst (λ (k : ℕ). look_at (changed_at change monitors node) k ≡ Some x) e is)))
    (λ apart. ids i x (sym (changed_other change monitors node i apart) ∙ is))

-- the note of the clock changes none of this
pub clocked_by : (orders : Ordered) (now : ℕ) (told : Option (Note TowerBody WireLine)) (d : NodeMonitor) → look (monitor_behind orders d now told) ≡ look d
unfolding monitor_behind
clocked_by orders now None d = refl
clocked_by orders now (Some note.Beat) d = refl
clocked_by orders now (Some (note.Timeout contacts)) d = refl
clocked_by orders now (Some note.Restart) d = refl
clocked_by orders now (Some (note.Ask body)) d = refl
clocked_by orders now (Some note.Opened) d = refl
clocked_by orders now (Some note.Closed) d = refl
clocked_by orders now (Some (note.Heard at line)) d = refl
clocked_by orders now (Some note.Claim) d = refl
clocked_by orders now (Some note.Wake) d = refl
clocked_by orders now (Some note.End) d = refl

restarted_by : (orders : Ordered) (told : Option (Note TowerBody WireLine)) (d : NodeMonitor) → look (restart_behind orders d told) ≡ look d
restarted_by orders None d = refl
restarted_by orders (Some told) d = refl

pub ticked_look : (orders : Ordered) (retirements : List (Option Retirement)) (settings : Settings) (now : ℕ) (d : NodeMonitor) → look (ticked orders retirements settings now d) ≡ look d
ticked_look orders retirements settings now d =
    let behind = clocked orders settings now d in
    restarted_by (clock_told orders settings now d) (restart_at retirements behind) behind ∙ clocked_by orders now (note_at d settings now) d
