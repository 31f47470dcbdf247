use Rattle.observation.proofs.joined.Goals as goal
use Rattle.std.proofs.Common.{◌≡◌, ℕ, ◌+◌, ◌≤◌, ℤ, nat_abs, refl, ap, sym, subst, w32}
use Rattle.arith.proofs.Exact.{Known, arg, keep, know, equal, fits, ◌⊕◌}
use Rattle.observation.specs.declared.antenna.Antenna.{Antenna}
use Rattle.observation.specs.Joining.{product_of, conjugated}
use Rattle.observation.proofs.Antennas.{re_small, im_small, conjugate_ranged}

-- a part so far and the new one: both within bounds
abbrev summed : (z : ℤ) {t x : ℤ} → nat_abs z ≤ 6279174 → t ≡ x → nat_abs x ≤ 2093058 → Known
summed z {t} {x} h e k = keep w32 (arg z h) tt ⊕ keep w32 (know (equal e (subst (λ (y : ℤ). nat_abs y ≤ 2093058) (sym e) k))) tt

abbrev real : {t : ℤ × ℤ} (z : ℤ) (a : Antenna) → nat_abs z ≤ 6279174 → t ≡ product_of a.y (conjugated a.h) → Known
real z a h e = summed z h (ap (λ (t : ℤ × ℤ). t.0) e) (re_small a.y (conjugated a.h) a.y_ranged (conjugate_ranged a.h a.h_ranged))

abbrev imaginary : {t : ℤ × ℤ} (z : ℤ) (a : Antenna) → nat_abs z ≤ 6279174 → t ≡ product_of a.y (conjugated a.h) → Known
imaginary z a h e = summed z h (ap (λ (t : ℤ × ℤ). t.1) e) (im_small a.y (conjugated a.h) a.y_ranged (conjugate_ranged a.h a.h_ranged))

pub overflow_add-result : goal.overflow_add-result
overflow_add-result c = fits w32 (real c.args.before.z_re c.args.antenna c.requires.re c.product-z_re.ensures).is tt

pub overflow_add-result-2 : goal.overflow_add-result-2
overflow_add-result-2 c = fits w32 (imaginary c.args.before.z_im c.args.antenna c.requires.im c.product-z_re.ensures).is tt

pub returns : goal.returns
returns c = record {
  re = (keep w32 (real c.args.before.z_re c.args.antenna c.requires.re c.product-z_re.ensures) tt).is.same;
  im = (keep w32 (imaginary c.args.before.z_im c.args.antenna c.requires.im c.product-z_re.ensures) tt).is.same;
  y_energy = ap (λ (t : ℕ × ℕ). c.args.before.y_energy + t.0) c.energies-y_energy.ensures;
  h_energy = ap (λ (t : ℕ × ℕ). c.args.before.h_energy + t.1) c.energies-y_energy.ensures;
  weight = refl;
}
