-- The constellation of each mode has as many bits as the format says, and no mode has more than 8.
use Rattle.std.proofs.Common.{◌≡◌, ℕ, ◌≤◌, refl, arith}
use Rattle.std.proofs.lemmas.Bool.Decides.{nat_tests}
use Rattle.catalogue.specs.Modes.{mode_meaning}
use Rattle.burstfile.specs.declared.mode.Mode.{Mode}
use Rattle.burstfile.specs.declared.mode.Mode.TheVariants.{Psk4, Psk8, Psk16, Qam16, Qam64, Qam256, Apsk16, Apsk64, Dapsk16, Dapsk64}
use Rattle.burstfile.specs.Format.{bits_of}
use Rattle.burstfile.specs.Modes.{mode_number}
use Rattle.reading.specs.Held.{offered}

pub offered_bits : (mode : Mode) → (offered (mode_meaning (mode_number mode))).m ≡ bits_of (mode_number mode)
offered_bits Psk4 = refl
offered_bits Psk8 = refl
offered_bits Psk16 = refl
offered_bits Qam16 = refl
offered_bits Qam64 = refl
offered_bits Qam256 = refl
offered_bits Apsk16 = refl
offered_bits Apsk64 = refl
offered_bits Dapsk16 = refl
offered_bits Dapsk64 = refl

pub few_bits : (mode : ℕ) → bits_of mode ≤ 8
few_bits mode = grind (arith, nat_tests)
