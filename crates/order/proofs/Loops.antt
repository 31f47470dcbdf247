-- The chains and the loop over an order.
use Rattle.std.proofs.Common.{◌≡◌, ℕ, zero, suc, ◌+◌, ◌*◌, ◌^◌, ◌<◌, ◌≤◌, Bool, true, List, length, get_or, take, refl, sym, eqb, ltb, ◌&&◌, add-zero, zero-add, not, Some, None, [], ◌∷◌, ap, ◌∙◌, subst, arith, pow_mono}
use Rattle.std.specs.List.{list_all, position as index_where, position_or_len, range_with_len}
use Rattle.std.proofs.Math.Bool.{and_assoc, and_comm, and-true}
use Rattle.std.specs.Option.{unwrap_or}
use Rattle.std.proofs.lemmas.List.Sums.{prefix_len-le-length}
use Rattle.std.proofs.lemmas.List.{take_more, length-take-le}
use Rattle.std.proofs.lemmas.Bool.{cond_both, ltb-false}
use Rattle.constellation.specs.Meaning.{bit}
use Rattle.constellation.specs.Ordered.{reorder, position, each, permutes}
use Rattle.constellation.proofs.OrderLaws.{order_from}
use Rattle.constellation.proofs.Reorder.{reorder-small, reorder_push}

-- where q stands first
pub position_first : (q : ℕ) (ps : List ℕ) → position q ps ≡ position_or_len (λ p. eqb p q) ps + 1
position_first q [] = refl
position_first q (p ∷ ps) = grind (arith, position_first q ps)

pub index_or_len : (test : ℕ → Bool) (ps : List ℕ) → unwrap_or (index_where test ps) (length ps) ≡ position_or_len test ps
index_or_len test ps =
    let n : ℕ = position_or_len test ps in
    cond_both (ltb n (length ps)) (Some n) None (λ o. unwrap_or o (length ps) ≡ n) (λ t. refl) (λ f. omega (arith, ltb-false n (length ps) f, prefix_len-le-length (λ p. not (test p)) ps))

-- the numbers below n, tested from the first on and from the last back
list_all_more : (f : ℕ → Bool) (a n : ℕ) → list_all f (range_with_len a (suc n)) ≡ (list_all f (range_with_len a n) && f (a + n))
list_all_more f a zero = rw (add-zero, and-true) refl
list_all_more f a (suc n) =
    let e : a + suc n ≡ a + 1 + n = omega arith in
    rw (e, list_all_more f (a + 1) n) (sym (and_assoc (f a) (list_all f (range_with_len (a + 1) n)) (f (a + 1 + n))))

pub each_listed : (f : ℕ → Bool) (n : ℕ) → list_all f (range_with_len 0 n) ≡ each f n
each_listed f zero = refl
each_listed f (suc n) = list_all_more f 0 n ∙ and_comm (list_all f (range_with_len 0 n)) (f (0 + n)) ∙ rw (zero-add, each_listed f n) refl

module _ (m : ℕ) (xs : List ℕ) (l i : ℕ) (h : i < length xs) where
  pub reorder_more : reorder m (take (i + 1) xs) l ≡ reorder m (take i xs) l * 2 + bit m (get_or xs i 0) l
  reorder_more = ap (λ z. reorder m z l) (take_more xs i 0 h) ∙ reorder_push m (take i xs) (get_or xs i 0) l

  pub reorder_room : length xs ≤ 8 → reorder m (take i xs) l < 2 ^ 7
  reorder_room k =
      let n : length (take i xs) ≡ i = length-take-le i xs (omega arith) in
      let a : reorder m (take i xs) l < 2 ^ i = subst (λ z. reorder m (take i xs) l < 2 ^ z) n (reorder-small m (take i xs) l) in
      let s : i ≤ 7 = omega arith in
      let b : 2 ^ i ≤ 2 ^ 7 = pow_mono s in
      omega arith

-- each place of an order holds one of 1 to its length
module _ (ps : List ℕ) (j : ℕ) (t : permutes (length ps) ps ≡ true) (h : j < length ps) where
  pub listed_least : 1 ≤ get_or ps j 0
  listed_least = (order_from (length ps) ps t).least j h

  pub listed_most : get_or ps j 0 ≤ length ps
  listed_most = (order_from (length ps) ps t).most j h
