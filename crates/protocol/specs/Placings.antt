-- A burst while symbols are placed. X is whatever is kept of a symbol.
use Rattle.std.specs.Prelude.{ℕ, Bool, true, ◌&&◌, List, [], ◌∷◌, ◌++◌, length, ℤ, pos, negsuc, Some, None, Ok, Err, Option, ◌==◌, int_le, nat_le, nat_lt}
use Rattle.refusal.specs.declared.Cause.TheVariants.{Antennas, Sample as BadSample, Weight, Full, Shift}
use Rattle.constellation.specs.Meaning.{Meaning}
use Rattle.observation.specs.declared.Sample.{Sample}
use Rattle.protocol.specs.Verdicts.{Verdict, accepted, need, each, up_to}

-- The placed symbols in their order, and the received vector that the next differential symbol refers to, once there is one.
pub record OpenState (X : Type 0) : Type 0 where
  pub meaning : Meaning
  pub number : ℕ
  pub shift : ℕ
  pub symbols : List X
  pub reference : Option (List Sample)

-- a coherent placing has y, h and the weight; a differential one y and the weight
pub data Placing : Type 0 where
  coherent : List Sample → List Sample → ℕ → Placing
  differential : List Sample → ℕ → Placing

-- each part of a sample is from −1023 to 1023
abbrev pub part : ℤ → Bool
part z = int_le (negsuc 1022) z && int_le z (pos 1023)

abbrev pub fine : Sample → Bool
fine s = part s.re && part s.im

-- opening: the shift is 40 at most
abbrev pub open_verdict : ℕ → Verdict
open_verdict s = need (nat_le s 40) Shift 0 accepted

abbrev pub opened : {X : Type 0} → Meaning → ℕ → ℕ → OpenState X
opened M number s = record { meaning = M; number = number; shift = s; symbols = []; reference = None }

-- a vector of 1 to 4 antennas that has as many as the one beside it
abbrev pub beside : List Sample → Option (List Sample) → Bool
beside y None = up_to 4 (length y)
beside y (Some h) = up_to 4 (length y) && length h == length y

-- a symbol is only added where there is a reference
abbrev pub room : ℕ → Option (List Sample) → Bool
room n None = true
room n (Some h) = nat_lt n 128

-- tested in this order: antennas, samples of y and then of h, the weight, the room
abbrev pub place_verdict : ℕ → Option (List Sample) → Placing → Verdict
place_verdict n kept (coherent y h w) =
    need (beside y (Some h)) Antennas (length y)
    (each fine y BadSample
    (each fine h BadSample
    (need (nat_le w 1023) Weight 0
    (need (room n (Some h)) Full 0
    accepted))))
place_verdict n kept (differential y w) =
    need (beside y kept) Antennas (length y)
    (each fine y BadSample
    (need (nat_le w 1023) Weight 0
    (need (room n kept) Full 0
    accepted)))

-- a differential placing keeps y as the reference of the next
abbrev pub placed_reference : Option (List Sample) → Placing → Option (List Sample)
placed_reference kept (coherent y h w) = kept
placed_reference kept (differential y w) = Some y

module _ {X : Type 0} (made : List Sample → List Sample → ℕ → X) where
  -- the symbols after an accepted placing: `made y h w` is what is kept of one
  abbrev pub placed_symbols : List X → Option (List Sample) → Placing → List X
  placed_symbols xs kept (coherent y h w) = xs ++ (made y h w ∷ [])
  placed_symbols xs None (differential y w) = xs
  placed_symbols xs (Some h) (differential y w) = xs ++ (made y h w ∷ [])

  -- what an accepted placing leaves; a refused one leaves everything
  abbrev pub place_after : Verdict → OpenState X → Placing → OpenState X
  place_after (Ok _) o p = record { meaning = o.meaning; number = o.number; shift = o.shift; symbols = placed_symbols o.symbols o.reference p; reference = placed_reference o.reference p }
  place_after (Err _) o p = o
