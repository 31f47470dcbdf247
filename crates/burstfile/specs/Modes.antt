-- The modes by their numbers, and how each places its records.
use Rattle.std.specs.Prelude.{◌≡◌, ℕ, ◌<◌, ◌≤◌, Bool, true, false, Result, MatchResult}
use Rattle.burstfile.specs.declared.mode.Mode.{Mode}
use Rattle.burstfile.specs.declared.mode.Mode.TheVariants.{Psk4, Psk8, Psk16, Qam16, Qam64, Qam256, Apsk16, Apsk64, Dapsk16, Dapsk64}
use Rattle.burstfile.specs.declared.mode.Placing.{Placing}
use Rattle.burstfile.specs.declared.mode.Placing.TheVariants.{Coherent, Differential}
use Rattle.burstfile.specs.declared.mode.UnknownMode.{UnknownMode}

-- the byte that stands for a mode
abbrev pub mode_number : Mode → ℕ
mode_number Psk4 = 1
mode_number Psk8 = 2
mode_number Psk16 = 3
mode_number Qam16 = 4
mode_number Qam64 = 5
mode_number Qam256 = 6
mode_number Apsk16 = 7
mode_number Apsk64 = 8
mode_number Dapsk16 = 9
mode_number Dapsk64 = 10

-- the mode of this number, or an error where it is not from 1 to 10
abbrev pub NumbersMode : ℕ → Result Mode UnknownMode → Type 0
NumbersMode n r = MatchResult r (λ mode. mode_number mode ≡ n) (λ _. 1 ≤ n → 10 < n)

-- y over h, and not y over the y before it
abbrev pub is_coherent : Placing → Bool
is_coherent Coherent = true
is_coherent Differential = false
