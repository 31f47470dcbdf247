-- What a test that was passed says, and a choice that came to nothing.
use Rattle.std.proofs.Common.{◌≡◌, ℕ, Bool, true, false, cond, Some, None, Ok, Err, Option, Result, refl}
use Rattle.refusal.specs.declared.Refusal.{Refusal}
use Rattle.burstfile.specs.Reading.{Layout, unless_broken}
use Rattle.burstfile.specs.Values.{or_else}

module _ {X : Type 0} where
  pub or_none : (a b : Option X) → or_else a b ≡ None → (a ≡ None) × (b ≡ None)
  or_none None b e = (refl, e)
  or_none (Some x) b e = cc

  pub cond_none : (b : Bool) (o : Option X) (x : X) → cond b o (Some x) ≡ None → (b ≡ true) × (o ≡ None)
  cond_none true o x e = (refl, e)
  cond_none false o x e = cc

  pub refused : (e : Refusal) (l : X) → ◌≡◌ {A = Result X Refusal} (Err e) (Ok l) → ⊥
  refused e l h = cc

  pub passed : (b : Bool) (x : Result X Refusal) (e : Refusal) (l : X) → cond b x (Err e) ≡ Ok l → (b ≡ true) × (x ≡ Ok l)
  passed true x e l h = (refl, h)
  passed false x e l h = cc

  pub ok_same : (x y : X) → ◌≡◌ {A = Result X Refusal} (Ok x) (Ok y) → x ≡ y
  ok_same x y h = cc

pub unbroken : (o : Option ℕ) (r : Result Layout Refusal) (l : Layout) → unless_broken o r ≡ Ok l → (o ≡ None) × (r ≡ Ok l)
unbroken None r l h = (refl, h)
unbroken (Some offset) r l h = cc
