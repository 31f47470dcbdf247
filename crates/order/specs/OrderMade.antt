-- What the making of a bit order answers.
use Rattle.std.specs.Prelude.{◌≡◌, ℕ, true, false, List, Ok, Err, Result}
use Rattle.refusal.specs.declared.Cause.TheVariants.{Order as Unordered}
use Rattle.refusal.specs.declared.Refusal.{Refusal}
use Rattle.constellation.specs.Meaning.{Meaning}
use Rattle.constellation.specs.Ordered.{permutes, shuffled, arranged}
use Rattle.order.specs.declared.Order.{Order}

-- what a bit order means, over what is below
abbrev pub order_meaning : {C : Type 0} → (C → Meaning) → Order C → Meaning
order_meaning meaning s = arranged s.list.items (meaning s.below)

-- made exactly where the list has each of 1 to m once
abbrev pub Ordering : {C : Type 0} → (C → Meaning) → C → List ℕ → Result (Order C) Refusal → Type 0
Ordering meaning below list (Ok s) = (permutes (meaning below).m list ≡ true) × (order_meaning meaning s ≡ shuffled list (meaning below))
Ordering meaning below list (Err f) = (permutes (meaning below).m list ≡ false) × (f ≡ record { cause = Unordered; place = 0 })
