-- What follows of a reading that found something.
use Rattle.std.proofs.Common.{◌≡◌, Bool, true, false, cond, Option, Some, Result, Ok, Err, refl, inl, inr}
use Rattle.std.specs.Prelude.{◌⊎◌}
use Rattle.lsv_wire.specs.declared.field.WireFault.{WireFault}
use Rattle.lsv_wire.specs.Fields.{◌>>=◌}

-- the value of a step that found one
pub bound : {A B : Type 0} (r : Result A WireFault) (f : A → Result B WireFault) (y : B) → (r >>= f) ≡ Ok y → (x : A) × (r ≡ Ok x) × (f x ≡ Ok y)
bound (Ok x) f y e = (x, refl, e)
bound (Err d) f y e = absurd cc

-- a test that let the reading go on
pub guarded : {A : Type 0} (b : Bool) (d : WireFault) (r : Result A WireFault) (y : A) → cond b (Err d) r ≡ Ok y → (b ≡ false) × (r ≡ Ok y)
guarded true d r y e = absurd cc
guarded false d r y e = (refl, e)

pub chosen : {A : Type 0} (b : Bool) (x y z : Result A WireFault) → cond b x y ≡ z → ((b ≡ true) × (x ≡ z)) ⊎ ((b ≡ false) × (y ≡ z))
chosen true x y z e = inl (refl, e)
chosen false x y z e = inr (refl, e)

abbrev found : {A : Type 0} → A → Result A WireFault
found x = Ok x

pub ok_is : {A : Type 0} (x y : A) → found x ≡ found y → x ≡ y
ok_is x y e = cc

abbrev one_found : {A : Type 0} → A → Result (Option A) WireFault
one_found x = Ok (Some x)

pub some_is : {A : Type 0} (x y : A) → one_found x ≡ one_found y → x ≡ y
some_is x y e = cc
