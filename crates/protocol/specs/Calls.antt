-- A closed burst, its calls, and what each answers and leaves. X is whatever is kept of a symbol.
use Rattle.std.specs.Prelude.{ℕ, zero, suc, ◌+◌, ◌-◌, ◌*◌, Bool, true, false, cond, not, ◌&&◌, List, [], ◌∷◌, map, length, take, drop, replicate, ℤ, pos, ◌+ℤ◌, Ok, Err, ◌==◌, int_lt, nat_lt, slice_index_or}
use Rattle.std.specs.List.{range_with_len, flat_map}
use Rattle.refusal.specs.declared.Cause.TheVariants.{Full, Symbol as NoSymbol, Length, Range, Out, Foreign, Position}
use Rattle.constellation.specs.Meaning.{Meaning}
use Rattle.protocol.specs.Verdicts.{Verdict, accepted, need, each, inside, up_to}
use Rattle.protocol.specs.Placings.{OpenState}

-- A symbol of a closed burst: what is kept of it, and its standing a priori values, one a position.
pub record Placed (X : Type 0) : Type 0 where
  pub symbol : X
  pub priors : List ℤ

-- given: how many turns were given out. out: whether the last of them still is.
pub record State (X : Type 0) : Type 0 where
  pub meaning : Meaning
  pub number : ℕ
  pub shift : ℕ
  pub symbols : List (Placed X)
  pub given : ℕ
  pub out : Bool

-- Symbols and positions are counted from 1. A turn is its burst's number and its own. A sheet that a call writes counts by its length.
pub data Call : Type 0 where
  tell : ℕ → List ℤ → Call
  taking : ℕ → Call
  answer : ℕ → ℕ → List ℤ → Call
  withdraw : ℕ → ℕ → Call
  erase : ℕ → Call
  read : ℕ → ℕ → Call
  decide : ℕ → Call

-- All that decides whether a call is accepted: how many symbols there are, how many positions each has, and the turns.
pub record Outline : Type 0 where
  pub count : ℕ
  pub m : ℕ
  pub number : ℕ
  pub given : ℕ
  pub out : Bool

-- how many values a sheet has
abbrev pub needed : Outline → ℕ
needed o = o.count * o.m

-- the turn (b, n) is the one that is out
abbrev pub ours : Outline → ℕ → ℕ → Bool
ours o b n = o.out && (b == o.number && n == o.given)

-- Which calls are accepted, and why the others are not: the tests in their order.
abbrev pub verdict : Outline → Call → Verdict
verdict o (tell i zs) =
    need (up_to o.count i) NoSymbol 0
    (need (not o.out) Out 0
    (need (length zs == o.m) Length o.m
    (each inside zs Range
    accepted)))
verdict o (taking n) =
    need (not o.out) Out 0
    (need (nat_lt o.given 4294967295) Full 0
    (need (n == needed o) Length (needed o)
    accepted))
verdict o (answer b n zs) =
    need (ours o b n) Foreign 0
    (need (length zs == needed o) Length (needed o)
    (each inside zs Range
    accepted))
verdict o (withdraw b n) = need (ours o b n) Foreign 0 accepted
verdict o (erase i) =
    need (up_to o.count i) NoSymbol 0
    (need (not o.out) Out 0
    accepted)
verdict o (read i k) =
    need (up_to o.count i) NoSymbol 0
    (need (up_to o.m k) Position 0
    accepted)
verdict o (decide n) = need (n == needed o) Length (needed o) accepted

-- f at the i-th symbol from 0, the others as they are
abbrev pub at_symbol : {X : Type 0} → (X → X) → ℕ → List X → List X
at_symbol f i [] = []
at_symbol f zero (y ∷ ys) = f y ∷ ys
at_symbol f (suc i) (y ∷ ys) = y ∷ at_symbol f i ys

-- what g gives of the i-th symbol from 0, and d where there is none
abbrev pub of_symbol : {X Y : Type 0} → (X → Y) → Y → ℕ → List X → Y
of_symbol g d i [] = d
of_symbol g d zero (y ∷ ys) = g y
of_symbol g d (suc i) (y ∷ ys) = of_symbol g d i ys

module _ {X : Type 0} where
  -- closing: every a priori value is 0, and no turn was given out
  abbrev pub closed : OpenState X → State X
  closed o = record {
    meaning = o.meaning;
    number = o.number;
    shift = o.shift;
    symbols = map (λ x. record { symbol = x; priors = replicate o.meaning.m (pos 0) }) o.symbols;
    given = 0;
    out = false;
  }

  abbrev pub outline : State X → Outline
  outline s = record { count = length s.symbols; m = s.meaning.m; number = s.number; given = s.given; out = s.out }

  abbrev pub with_symbols : State X → List (Placed X) → State X
  with_symbols s ys = record { meaning = s.meaning; number = s.number; shift = s.shift; symbols = ys; given = s.given; out = s.out }

  abbrev pub told : List ℤ → Placed X → Placed X
  told zs y = record { symbol = y.symbol; priors = zs }

  -- each symbol's values from a sheet, m to a symbol
  abbrev pub spread : ℕ → List (Placed X) → List ℤ → List (Placed X)
  spread m [] zs = []
  spread m (y ∷ ys) zs = told (take m zs) y ∷ spread m ys (drop m zs)

-- `erased x` is x with its weight at 0
module _ {X : Type 0} (erased : X → X) where
  -- what an accepted call leaves
  abbrev pub after : State X → Call → State X
  after s (tell i zs) = with_symbols s (at_symbol (told zs) (i - 1) s.symbols)
  after s (taking n) = record { meaning = s.meaning; number = s.number; shift = s.shift; symbols = s.symbols; given = s.given + 1; out = true }
  after s (answer b n zs) = record { meaning = s.meaning; number = s.number; shift = s.shift; symbols = spread s.meaning.m s.symbols zs; given = s.given; out = false }
  after s (withdraw b n) = record { meaning = s.meaning; number = s.number; shift = s.shift; symbols = s.symbols; given = s.given; out = false }
  after s (erase i) = with_symbols s (at_symbol (λ y. record { symbol = erased y.symbol; priors = y.priors }) (i - 1) s.symbols)
  after s (read i k) = s
  after s (decide n) = s

  -- a refused call leaves everything as it stood
  abbrev pub leaves : Verdict → State X → Call → State X
  leaves (Ok _) s c = after s c
  leaves (Err _) s c = s

-- `value M s x priors k` is the extrinsic value of position k
module _ {X : Type 0} (value : Meaning → ℕ → X → List ℤ → ℕ → ℤ) where
  -- a symbol's extrinsic values, at the positions 1 to m
  abbrev pub extrinsics : Meaning → ℕ → Placed X → List ℤ
  extrinsics M s y = map (value M s y.symbol y.priors) (range_with_len 1 M.m)

  -- what a taking writes, symbol by symbol
  abbrev pub sheet_of : State X → List ℤ
  sheet_of s = flat_map (extrinsics s.meaning s.shift) s.symbols

  -- what reading answers: the standing a priori value, the extrinsic and the posterior value
  abbrev pub looked : Meaning → ℕ → ℕ → Placed X → ℤ × ℤ × ℤ
  looked M s k y =
      let a = slice_index_or y.priors (k - 1) (pos 0) in
      let e = value M s y.symbol y.priors k in
      (a, e, a +ℤ e)

  abbrev pub reading : State X → ℕ → ℕ → ℤ × ℤ × ℤ
  reading s i k = of_symbol (looked s.meaning s.shift k) (pos 0, pos 0, pos 0) (i - 1) s.symbols

  -- 1 where the posterior value is above 0, else 0
  abbrev pub decided : Meaning → ℕ → Placed X → List ℕ
  decided M s y = map (λ k. cond (int_lt (pos 0) (looked M s k y).2) 1 0) (range_with_len 1 M.m)

  -- what hard deciding writes, symbol by symbol
  abbrev pub bits_of : State X → List ℕ
  bits_of s = flat_map (decided s.meaning s.shift) s.symbols
