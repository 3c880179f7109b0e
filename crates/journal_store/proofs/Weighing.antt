-- Case distinctions on faults.
use Rattle.std.proofs.Common.{◌≡◌, ◌≢◌, ◌⊎◌, inl, inr, ℕ, Result, Ok, Err, refl, sym, ◌∙◌}
use Rattle.std.specs.Prelude.{IfErr}
use Rattle.wire_bytes.specs.declared.wire_fault.WireFault.{WireFault}
use Rattle.stable_store.specs.declared.store_fault.StoreFault.{StoreFault}
use Rattle.stable_store.specs.declared.store_fault.StoreFault.TheVariants.{Device, NotAStore, Version, Damaged, Memory}

short_not : WireFault.Short ≢ WireFault.Memory
short_not e = absurd cc

bad_not : (n : ℕ) → WireFault.Bad n ≢ WireFault.Memory
bad_not n e = absurd cc

pub short_is : (e : WireFault) → e ≡ WireFault.Short → e ≢ WireFault.Memory
short_is e is h = short_not (sym is ∙ h)

pub bad_is : (e : WireFault) (n : ℕ) → e ≡ WireFault.Bad n → e ≢ WireFault.Memory
bad_is e n is h = bad_not n (sym is ∙ h)

pub weigh : {X : Type 0} (r : Result X StoreFault) (S : Type 0) (P Q R : StoreFault → Type 0) → S → ((e : StoreFault) → P e → Q e) → IfErr r (λ e. e ≢ Memory → P e) → IfErr r (λ e. (((e ≡ Memory) × S) ⊎ R e) ⊎ Q e)
weigh (Ok x) S P Q R is to h = tt
weigh (Err Device) S P Q R is to h = inr (to Device (h (λ e. absurd cc)))
weigh (Err NotAStore) S P Q R is to h = inr (to NotAStore (h (λ e. absurd cc)))
weigh (Err Version) S P Q R is to h = inr (to Version (h (λ e. absurd cc)))
weigh (Err (Damaged n)) S P Q R is to h = inr (to (Damaged n) (h (λ e. absurd cc)))
weigh (Err Memory) S P Q R is to h = inl (inl (refl, is))
