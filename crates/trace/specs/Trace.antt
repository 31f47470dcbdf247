-- Runs of any machine that takes calls: S its states, C the calls, R the replies, and `step` what a call leaves and replies.
use Rattle.std.specs.Prelude.{List, [], ◌∷◌, map}

-- one call of a run: the state it found, the call, its reply, the state it left
pub record Moment (S C R : Type 0) : Type 0 where
  pub before : S
  pub call : C
  pub reply : R
  pub after : S

-- the replies of a run, first to last
abbrev pub replies : {S C R : Type 0} → List (Moment S C R) → List R
replies ts = map (λ t. t.reply) ts

module _ {S C R : Type 0} (step : S → C → S × R) where
  -- the moment of a call at a state
  abbrev pub moment : S → C → Moment S C R
  moment s c = record { before = s; call = c; reply = (step s c).1; after = (step s c).0 }

  -- the moments of a run, first to last
  abbrev pub run : S → List C → List (Moment S C R)
  run s [] = []
  run s (c ∷ cs) = moment s c ∷ run (step s c).0 cs

  -- the state that a run ends in
  abbrev pub final : S → List C → S
  final s [] = s
  final s (c ∷ cs) = final (step s c).0 cs
