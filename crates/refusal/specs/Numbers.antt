-- The number of each cause, and the text of a refusal. Every promise about a refusal reads these.
use Rattle.std.specs.Prelude.{ℕ, List, ◌++◌, codes, decimal}
use Rattle.refusal.specs.declared.Cause.{Cause}
use Rattle.refusal.specs.declared.Cause.TheVariants.{Antennas, Sample, Weight, Full, Shift, Size, Fit, Order, Symbol, Length, Range, Out, Foreign, Position, Cut, Field}
use Rattle.refusal.specs.declared.Refusal.{Refusal}

abbrev pub number_of : Cause → ℕ
number_of Antennas = 1
number_of Sample = 2
number_of Weight = 3
number_of Full = 4
number_of Shift = 5
number_of Size = 6
number_of Fit = 7
number_of Order = 8
number_of Symbol = 9
number_of Length = 10
number_of Range = 11
number_of Out = 12
number_of Foreign = 13
number_of Position = 14
number_of Cut = 15
number_of Field = 16

-- for instance "16 at 1"
abbrev pub refusal_text : Refusal → List ℕ
refusal_text f = decimal (number_of f.cause) ++ (codes " at " ++ decimal f.place)
