-- What holds on success.
use Rattle.std.proofs.Common.{Bool, IsTrue}
use Rattle.std.specs.Prelude.{Result, Ok, Err, IfOk, OnOk}

pub on_ok_each : {V E : Type 0} (A B C : Type 0) (r : Result V E) → OnOk r A → OnOk r B → C → OnOk r (A × B × C)
on_ok_each A B C (Ok v) a b c = (a, b, c)
on_ok_each A B C (Err e) a b c = a

pub if_true : {E : Type 0} (A B C D : Type 0) (r : Result Bool E) → (A → B → C → D) → IfOk r (λ b. IsTrue b → A) → IfOk r (λ b. IsTrue b → B) → IfOk r (λ b. IsTrue b → C) → IfOk r (λ b. IsTrue b → D)
if_true A B C D (Ok b) f x y z = λ t. f (x t) (y t) (z t)
if_true A B C D (Err e) f x y z = x
