-- What the making of a layer answers.
use Rattle.std.specs.Prelude.{◌≡◌, ℕ, true, false, cond, List, Some, None, Ok, Err, Option, Result, ◌==◌}
use Rattle.refusal.specs.declared.Cause.{Cause}
use Rattle.refusal.specs.declared.Cause.TheVariants.{Size, Fit}
use Rattle.refusal.specs.declared.Refusal.{Refusal}
use Rattle.constellation.specs.Meaning.{Meaning}
use Rattle.rings.specs.Layered.{room, layered, stacked}
use Rattle.rings.specs.Copies.{Plan, plan_of, ring_copies, ratio_copies}
use Rattle.rings.specs.declared.copied.Copied.{Copied}
use Rattle.rings.specs.declared.count.Count.{Count}
use Rattle.rings.specs.declared.count.Count.TheVariants.{Two, Four}
use Rattle.rings.specs.declared.layer.Layer.{Layer}
use Rattle.rings.specs.declared.ratios.AtRatios.{AtRatios}
use Rattle.rings.specs.declared.rings.OnRings.{OnRings}

-- the plan for a number of rings, of a kind of layer with these copies
abbrev pub numbered : (Count → List Copied) → ℕ → Option Plan
numbered copies n = cond (n == 2) (Some (plan_of copies Two)) (cond (n == 4) (Some (plan_of copies Four)) None)

-- the plan for a number of rings, by which `Rings::new` answers
abbrev pub ring_plan : ℕ → Option Plan
ring_plan = numbered ring_copies

-- the plan for a number of ratios, by which `Ratios::new` answers
abbrev pub ratio_plan : ℕ → Option Plan
ratio_plan = numbered ratio_copies

abbrev pub refused : Cause → Refusal
refused cause = record { cause = cause; place = 0 }

-- what a layer means, over what is below
abbrev pub layer_meaning : {C K : Type 0} → (Count → List Copied) → (C → Meaning) → Layer C K → Meaning
layer_meaning copies meaning s = layered (plan_of copies s.count) (meaning s.below)

abbrev pub rings_meaning : {C : Type 0} → (C → Meaning) → Layer C OnRings → Meaning
rings_meaning = layer_meaning ring_copies

abbrev pub ratios_meaning : {C : Type 0} → (C → Meaning) → Layer C AtRatios → Meaning
ratios_meaning = layer_meaning ratio_copies

-- Over a meaning M, by plan: a number that names none is refused by its size, a layer that does not fit by that, any other is made.
abbrev pub Answered : {S : Type 0} → (S → Meaning) → Meaning → Option Plan → Result S Refusal → Type 0
Answered meaning M None (Ok s) = ⊥
Answered meaning M None (Err f) = f ≡ refused Size
Answered meaning M (Some plan) (Ok s) = (room plan M ≡ true) × (meaning s ≡ stacked plan M)
Answered meaning M (Some plan) (Err f) = (room plan M ≡ false) × (f ≡ refused Fit)
