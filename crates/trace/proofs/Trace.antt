-- From one step to whole runs: what each step keeps, of one machine or of two side by side, and a program's loop that makes the calls of a list.
use Rattle.std.proofs.Common.{◌≡◌, ℕ, ◌+◌, ◌<◌, ◌≤◌, List, [], ◌∷◌, ◌++◌, map, length, get_or, take, drop, set, sym, ap, ◌∙◌, ap₂, append_assoc, append-nil}
use Rattle.std.specs.List.{AllZip, AllByRecursion}
use Rattle.std.proofs.lemmas.List.{drop_more, drop_all, take_more_set, take_all}
use Rattle.trace.specs.Trace.{Moment, replies, moment, run, final}

-- ---- one machine: each step from a state in P ends in P, and shows Q of its moment
module _ {S C R : Type 0} (step : S → C → S × R) (P : S → Type 0) (Q : Moment S C R → Type 0)
    (one : (s : S) (c : C) → P s → P (step s c).0 × Q (moment step s c))
  where
    -- Q holds all along a run
    pub always : (cs : List C) (s : S) → P s → AllByRecursion Q (run step s cs)
    always [] s p = tt
    always (c ∷ cs) s p = let h = one s c p in (h.1, always cs (step s c).0 h.0)

    -- P holds at its end
    pub finally : (cs : List C) (s : S) → P s → P (final step s cs)
    finally [] s p = p
    finally (c ∷ cs) s p = finally cs (step s c).0 (one s c p).0

-- ---- two machines: states in K that get calls in L end in K, and their moments are in Q
module _ {S C R : Type 0} (step step' : S → C → S × R)
    (K : S → S → Type 0) (L : C → C → Type 0) (Q : Moment S C R → Moment S C R → Type 0)
    (one : (s s' : S) (c c' : C) → K s s' → L c c' → K (step s c).0 (step' s' c').0 × Q (moment step s c) (moment step' s' c'))
  where
    pub side_by_side : (cs cs' : List C) (s s' : S) → K s s' → AllZip L cs cs' → AllZip Q (run step s cs) (run step' s' cs')
    side_by_side [] [] s s' k l = tt
    side_by_side [] (c' ∷ cs') s s' k l = absurd l
    side_by_side (c ∷ cs) [] s s' k l = absurd l
    side_by_side (c ∷ cs) (c' ∷ cs') s s' k l =
        let h = one s s' c c' k l.0 in
        (h.1, side_by_side cs cs' (step s c).0 (step' s' c').0 h.0 l.1)

-- ---- a program that makes the calls of a list one by one, as it holds them (X), and notes the replies in a list
module _ {S C R X : Type 0} (step : S → C → S × R) (f : X → C) where
  -- its loop's invariant after i calls: what is left, from the state now, gives the end; and the replies so far, with those of what is left, are all
  abbrev pub Driven : S → List X → S → List R → ℕ → Type 0
  Driven s₀ xs s rs i =
      (final step s (map f (drop i xs)) ≡ final step s₀ (map f xs))
      × (take i rs ++ replies (run step s (map f (drop i xs))) ≡ replies (run step s₀ (map f xs)))

  -- one more call
  pub drive_more : (s₀ : S) (xs : List X) (s : S) (rs : List R) (i : ℕ) (d : X) (s' : S) (r : R)
      → i < length xs → i < length rs → step s (f (get_or xs i d)) ≡ (s', r) → Driven s₀ xs s rs i → Driven s₀ xs s' (set rs i r) (i + 1)
  drive_more s₀ xs s rs i d s' r h l e k =
      let x = get_or xs i d in
      let rest = drop (i + 1) xs in
      let a : final step s (map f (drop i xs)) ≡ final step s' (map f rest)
      = ap (λ ys. final step s (map f ys)) (drop_more xs i d h) ∙ ap (λ (q : S × R). final step q.0 (map f rest)) e in
      let b : replies (run step s (map f (drop i xs))) ≡ r ∷ replies (run step s' (map f rest))
      = ap (λ ys. replies (run step s (map f ys))) (drop_more xs i d h) ∙ ap (λ (q : S × R). q.1 ∷ replies (run step q.0 (map f rest))) e in (
        sym a ∙ k.0,
        ap (λ ys. ys ++ replies (run step s' (map f rest))) (take_more_set rs i r l)
            ∙ append_assoc (take i rs) (r ∷ []) (replies (run step s' (map f rest)))
            ∙ ap (λ ys. take i rs ++ ys) (sym b) ∙ k.1,
      )

  -- the end
  pub drive_end : (s₀ : S) (xs : List X) (s : S) (rs : List R) (i : ℕ) → length xs ≤ i → length rs ≤ i → Driven s₀ xs s rs i
      → (s ≡ final step s₀ (map f xs)) × (rs ≡ replies (run step s₀ (map f xs)))
  drive_end s₀ xs s rs i h l k =
      let e = drop_all i xs h in (
        ap (λ ys. final step s (map f ys)) (sym e) ∙ k.0,
        sym (append-nil rs) ∙ ap₂ (λ us vs. us ++ replies (run step s (map f vs))) (sym (take_all i rs l)) (sym e) ∙ k.1,
      )
