-- What an accepting verdict says.
use Rattle.std.proofs.Common.{◌≡◌, ℕ, ◌*◌, ◌≤◌, Bool, true, false, not, eqb, leb, List, length, ℤ, refl}
use Rattle.std.proofs.lemmas.Bool.{leb-true, eqb-true, and_parts, not-true}
use Rattle.refusal.specs.declared.Cause.{Cause}
use Rattle.refusal.specs.declared.Cause.TheVariants.{Symbol as NoSymbol, Length, Range, Out, Foreign, Position}
use Rattle.protocol.specs.Verdicts.{Verdict, accepted, need, each, inside, up_to}
use Rattle.protocol.specs.Calls.{tell, taking, answer, withdraw, erase, read, Outline, needed, ours, verdict}

pub passed : (b : Bool) (c : Cause) (p : ℕ) (v : Verdict) → need b c p v ≡ accepted → (b ≡ true) × (v ≡ accepted)
passed true c p v e = (refl, e)
passed false c p v e = ((cc), (cc))

pub up_to_lem : (n i : ℕ) → up_to n i ≡ true → (1 ≤ i) × (i ≤ n)
up_to_lem n i e = let h = and_parts (leb 1 i) (leb i n) e in (leb-true 1 i h.0, leb-true i n h.1)

module _ (o : Outline) where
  pub tell_is : (i : ℕ) (zs : List ℤ) → verdict o (tell i zs) ≡ accepted → (1 ≤ i) × (i ≤ o.count) × (length zs ≡ o.m)
  tell_is i zs e =
      let last = each inside zs Range accepted in
      let third = need (eqb (length zs) o.m) Length o.m last in
      let a = passed (up_to o.count i) NoSymbol 0 (need (not o.out) Out 0 third) e in
      let b = passed (not o.out) Out 0 third a.1 in
      let c = passed (eqb (length zs) o.m) Length o.m last b.1 in
      let h = up_to_lem o.count i a.0 in
      (h.0, h.1, eqb-true (length zs) o.m c.0)

  pub taking_is : (n : ℕ) → verdict o (taking n) ≡ accepted → o.out ≡ false
  taking_is n e = not-true o.out (passed (not o.out) Out 0 _ e).0

  pub ours_is : (b n : ℕ) → ours o b n ≡ true → o.out ≡ true
  ours_is b n e = (and_parts o.out _ e).0

  pub answer_is : (b n : ℕ) (zs : List ℤ) → verdict o (answer b n zs) ≡ accepted → (o.out ≡ true) × (length zs ≡ o.count * o.m)
  answer_is b n zs e =
      let last = each inside zs Range accepted in
      let x = passed (ours o b n) Foreign 0 (need (eqb (length zs) (needed o)) Length (needed o) last) e in
      let y = passed (eqb (length zs) (needed o)) Length (needed o) last x.1 in
      (ours_is b n x.0, eqb-true (length zs) (needed o) y.0)

  pub withdraw_is : (b n : ℕ) → verdict o (withdraw b n) ≡ accepted → o.out ≡ true
  withdraw_is b n e = ours_is b n (passed (ours o b n) Foreign 0 accepted e).0

  pub erase_is : (i : ℕ) → verdict o (erase i) ≡ accepted → (1 ≤ i) × (i ≤ o.count)
  erase_is i e = up_to_lem o.count i (passed (up_to o.count i) NoSymbol 0 (need (not o.out) Out 0 accepted) e).0

  pub read_is : (i k : ℕ) → verdict o (read i k) ≡ accepted → (1 ≤ i) × (i ≤ o.count) × (1 ≤ k) × (k ≤ o.m)
  read_is i k e =
      let a = passed (up_to o.count i) NoSymbol 0 (need (up_to o.m k) Position 0 accepted) e in
      let h = up_to_lem o.count i a.0 in
      let g = up_to_lem o.m k (passed (up_to o.m k) Position 0 accepted a.1).0 in
      (h.0, h.1, g.0, g.1)
