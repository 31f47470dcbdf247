-- What a draft holds: the state of an open burst by the records of its symbols.
use Rattle.std.specs.Prelude.{ℕ, List, [], ◌∷◌, ◌++◌, Some, None, Ok, Err, Option}
use Rattle.std.specs.Option.{option_map}
use Rattle.constellation.specs.Meaning.{Meaning}
use Rattle.observation.specs.declared.Record.{Record}
use Rattle.observation.specs.declared.Sample.{Sample}
use Rattle.protocol.specs.Verdicts.{Verdict}
use Rattle.protocol.specs.Placings.{OpenState, Placing, placed_symbols, placed_reference}
use Rattle.protocol.specs.Stands.{recorded}
use Rattle.draft.specs.declared.draft.Draft.{Draft}

-- a draft without what is proved of it: the placed records, the numbers and the reference, if one is kept
pub record View : Type 0 where
  pub records : List Record
  pub number : ℕ
  pub shift : ℕ
  pub reference : Option (List Sample)

abbrev pub reference_of : Draft → Option (List Sample)
reference_of d = option_map (λ y. y.items) d.reference

abbrev pub view : Draft → View
view d = record { records = d.records.items; number = d.number; shift = d.shift.exponent; reference = reference_of d }

abbrev pub empty : ℕ → ℕ → View
empty number shift = record { records = []; number = number; shift = shift; reference = None }

-- one record more
abbrev pub added : View → Record → View
added v x = record { records = v.records ++ (x ∷ []); number = v.number; shift = v.shift; reference = v.reference }

-- y is the reference from here on
abbrev pub referring : View → List Sample → View
referring v y = record { records = v.records; number = v.number; shift = v.shift; reference = Some y }

-- what a placing leaves, by its verdict
abbrev pub place_left : Verdict → View → Placing → View
place_left (Ok _) v p = record { records = placed_symbols recorded v.records v.reference p; number = v.number; shift = v.shift; reference = placed_reference v.reference p }
place_left (Err _) v p = v

-- the state of an open burst over the constellation M that has this draft
abbrev pub kept : Meaning → View → OpenState Record
kept M v = record { meaning = M; number = v.number; shift = v.shift; symbols = v.records; reference = v.reference }
