-- The burst that a file's contents are.
use Rattle.std.specs.Prelude.{◌≡◌, ℕ, ◌*◌, cond, List, [], ◌∷◌, ◌++◌, map, length, drop, ℤ, Some, None, Ok, Err, Option, Result, nat_le}
use Rattle.constellation.specs.Meaning.{Meaning}
use Rattle.kinds.specs.Psks.{psk_meaning}
use Rattle.kinds.specs.declared.psk.Psk.TheVariants.{Four}
use Rattle.catalogue.specs.Modes.{mode_meaning, catalogue_meaning}
use Rattle.catalogue.specs.declared.Catalogue.{Catalogue}
use Rattle.metric.specs.Exhaustive.{Symbol}
use Rattle.metric.specs.Value.{extrinsic_value}
use Rattle.observation.specs.declared.Sample.{Sample}
use Rattle.observation.specs.Observed.{symbol_of}
use Rattle.protocol.specs.Verdicts.{accepted}
use Rattle.protocol.specs.Placings.{OpenState, Placing, coherent, differential, opened, place_after}
use Rattle.protocol.specs.Calls.{State, closed, with_symbols, spread, sheet_of}
use Rattle.protocol.specs.Stands.{StandsOpen, Stands}
use Rattle.observation.specs.declared.Record.{Record}
use Rattle.burst.specs.Public.{open_kept}
use Rattle.burst.specs.declared.burst.OpenBurst.{OpenBurst}
use Rattle.burstfile.specs.declared.refused.FileRefusal.{FileRefusal}
use Rattle.burstfile.specs.Format.{Pair, Vector, Contents, symbols_of}
use Rattle.burstfile.specs.Values.{values_fault, numbered_fault, priors_fault}

-- the pairs of a file as samples
abbrev pub sample_of : Pair → Sample
sample_of p = record { re = p.re; im = p.im }

abbrev pub samples_of : List Pair → List Sample
samples_of ps = map sample_of ps

-- modes 1 to 8 place y over h; 9 and 10 place y over the y before it
abbrev pub placing_of : ℕ → Vector → Placing
placing_of mode v =
    cond (nat_le mode 8)
    (coherent (samples_of v.y) (samples_of v.h) v.weight)
    (differential (samples_of v.y) v.weight)

-- the vectors placed, in their order
abbrev pub placed_all : ℕ → OpenState Symbol → List Vector → OpenState Symbol
placed_all mode o [] = o
placed_all mode o (v ∷ vs) = placed_all mode (place_after symbol_of accepted o (placing_of mode v)) vs

-- the a priori values, m to a symbol; where there are none, they stay as they are
abbrev pub told_all : {X : Type 0} → State X → List ℤ → State X
told_all s [] = s
told_all s (z ∷ zs) = with_symbols s (spread s.meaning.m s.symbols (z ∷ zs))

-- the constellation of a mode; there is one for each of 1 to 10, and a file has no other
abbrev pub offered : Option Meaning → Meaning
offered (Some M) = M
offered None = psk_meaning Four

-- the closed burst of this number that a file holds
abbrev pub file_state : Contents → ℕ → State Symbol
file_state c number =
    told_all (closed (placed_all c.mode (opened (offered (mode_meaning c.mode)) number c.shift) c.vectors)) c.priors

-- what a file's contents, once read, are held as: a burst that keeps k
abbrev pub Holds : Result Contents FileRefusal → ℕ → State Record → Type 0
Holds (Ok c) number k = Stands k (file_state c number)
Holds (Err e) number k = ⊥

-- an open burst over the constellation with all vectors of the contents placed; only the a priori values can still be refused
pub record Filled (C : Contents) (c : Catalogue) (number : ℕ) (b : OpenBurst Catalogue) : Type 0 where
  pub same : b.c ≡ c
  pub stands : StandsOpen (open_kept (catalogue_meaning c) b.draft) (placed_all C.mode (opened (catalogue_meaning c) number C.shift) C.vectors)
  pub count : length (placed_all C.mode (opened (catalogue_meaning c) number C.shift) C.vectors).symbols ≡ symbols_of C.mode (length C.vectors)
  pub fault : values_fault C ≡ numbered_fault 0 (priors_fault 1 C.priors)

-- what demapping a file answers and writes: how many symbols there are, how many positions each has, and the extrinsic values
-- in front of the sheet, symbol by symbol; the rest of the sheet is as it was
abbrev pub Demapped : Result Contents FileRefusal → ℕ → ℕ → List ℤ → List ℤ → Type 0
Demapped (Ok c) n m before after =
    (n ≡ length (file_state c 1).symbols) × (m ≡ (file_state c 1).meaning.m) × (after ≡ sheet_of extrinsic_value (file_state c 1) ++ drop (n * m) before)
Demapped (Err e) n m before after = ⊥
