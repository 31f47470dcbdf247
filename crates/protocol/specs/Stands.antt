-- What a burst keeps, and the vectors that it stands for. A burst keeps a record of each symbol and not its vectors;
-- it stands for every state whose symbols have those records.
use Rattle.std.specs.Prelude.{◌≡◌, ℕ, List, map}
use Rattle.metric.specs.Exhaustive.{Symbol}
use Rattle.observation.specs.declared.Record.{Record}
use Rattle.observation.specs.declared.Sample.{Sample}
use Rattle.observation.specs.Observed.{held, symbol_of}
use Rattle.protocol.specs.Placings.{OpenState}
use Rattle.protocol.specs.Calls.{Placed, State}

module _ {X Y : Type 0} (f : X → Y) where
  abbrev pub open_image : OpenState X → OpenState Y
  open_image o = record { meaning = o.meaning; number = o.number; shift = o.shift; symbols = map f o.symbols; reference = o.reference }

  abbrev pub placed_image : Placed X → Placed Y
  placed_image y = record { symbol = f y.symbol; priors = y.priors }

  abbrev pub image : State X → State Y
  image s = record { meaning = s.meaning; number = s.number; shift = s.shift; symbols = map placed_image s.symbols; given = s.given; out = s.out }

-- what an open burst keeps (k) stands for the vectors of o
abbrev pub StandsOpen : OpenState Record → OpenState Symbol → Type 0
StandsOpen k o = k ≡ open_image held o

-- what a closed burst keeps (k) stands for the vectors and values of s
abbrev pub Stands : State Record → State Symbol → Type 0
Stands k s = k ≡ image held s

-- the record of a symbol that was received as y over h
abbrev pub recorded : List Sample → List Sample → ℕ → Record
recorded y h w = held (symbol_of y h w)

-- erased: the weight is 0
abbrev pub erased_symbol : Symbol → Symbol
erased_symbol x = record { antennas = x.antennas; weight = 0 }

abbrev pub erased_record : Record → Record
erased_record r = record { z_re = r.z_re; z_im = r.z_im; y_energy = r.y_energy; h_energy = r.h_energy; weight = 0 }
