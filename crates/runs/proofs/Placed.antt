-- What placings keep.
use Rattle.std.proofs.Common.{◌≡◌, ℕ, List, length, Ok, Err, refl}
use Rattle.constellation.specs.Meaning.{Meaning}
use Rattle.metric.specs.Exhaustive.{Symbol}
use Rattle.observation.specs.Observed.{symbol_of}
use Rattle.protocol.specs.Verdicts.{Verdict}
use Rattle.protocol.specs.Placings.{OpenState, Placing, opened, place_verdict, place_after}
use Rattle.trace.proofs.Trace.{finally}
use Rattle.runs.specs.Runs.{place, placed_all}

-- what was chosen at the opening
pub record Chosen (M : Meaning) (n s : ℕ) (o : OpenState Symbol) : Type 0 where
  pub meaning : o.meaning ≡ M
  pub number : o.number ≡ n
  pub shift : o.shift ≡ s

module _ (M : Meaning) (number s : ℕ) where
  chosen_after : (v : Verdict) (o : OpenState Symbol) (p : Placing) → Chosen M number s o → Chosen M number s (place_after symbol_of v o p)
  chosen_after (Ok a) o p h = record { meaning = h.meaning; number = h.number; shift = h.shift }
  chosen_after (Err e) o p h = h

  pub chosen : (ps : List Placing) → Chosen M number s (placed_all (opened M number s) ps)
  chosen ps =
      finally place (Chosen M number s) (λ t. Unit {0}) (λ o p h. (chosen_after (place_verdict (length o.symbols) o.reference p) o p h, tt))
      ps (opened M number s) (record { meaning = refl; number = refl; shift = refl })
