-- Distinct paths that pass a test are no more than all paths up to their length that pass it. Assumes nothing.
use Rattle.std.proofs.Common.{◌≡◌, ℕ, zero, suc, ◌+◌, ◌≤◌, Bool, true, false, cond, ◌⊎◌, List, [], ◌∷◌, map, length, sym, refl, ◌∙◌, subst, inl, inr, arith}
use mathlib.Core.Bool.{beq, false≢true}
use Rattle.search.specs.Lists.{count, Each}
use Rattle.search.specs.Paths.{paths_up_to}
use Rattle.search.proofs.Lists.{count-append, count_map}
use Rattle.search.proofs.Prefixes.{same, times, same-is}

-- what follows bit u in those that begin with it
abbrev tails : Bool → List (List Bool) → List (List Bool)
tails u [] = []
tails u ([] ∷ ws) = tails u ws
tails u ((v ∷ w) ∷ ws) = cond (beq u v) (w ∷ tails u ws) (tails u ws)

parts : (ws : List (List Bool)) → length ws ≡ times [] ws + (length (tails false ws) + length (tails true ws))
parts [] = refl
parts ([] ∷ ws) = let h = parts ws in omega arith
parts ((true ∷ w) ∷ ws) = let h = parts ws in omega arith
parts ((false ∷ w) ∷ ws) = let h = parts ws in omega arith

times-tails : (u : Bool) (w : List Bool) (ws : List (List Bool)) → times w (tails u ws) ≡ times (u ∷ w) ws
times-tails u w [] = refl
times-tails u w ([] ∷ ws) = let h = times-tails u w ws in omega arith
times-tails true w ((true ∷ v) ∷ ws) = let h = times-tails true w ws in omega arith
times-tails true w ((false ∷ v) ∷ ws) = let h = times-tails true w ws in omega arith
times-tails false w ((true ∷ v) ∷ ws) = let h = times-tails false w ws in omega arith
times-tails false w ((false ∷ v) ∷ ws) = let h = times-tails false w ws in omega arith

each-tails : (u : Bool) (P Q : List Bool → Type 0) → ((w : List Bool) → P (u ∷ w) → Q w) → (ws : List (List Bool)) → Each P ws → Each Q (tails u ws)
each-tails u P Q f [] e = tt
each-tails u P Q f ([] ∷ ws) e = each-tails u P Q f ws e.1
each-tails true P Q f ((true ∷ v) ∷ ws) e = (f v e.0, each-tails true P Q f ws e.1)
each-tails true P Q f ((false ∷ v) ∷ ws) e = each-tails true P Q f ws e.1
each-tails false P Q f ((true ∷ v) ∷ ws) e = each-tails false P Q f ws e.1
each-tails false P Q f ((false ∷ v) ∷ ws) e = (f v e.0, each-tails false P Q f ws e.1)

none_of : (xs : List (List Bool)) → Each (λ w. ⊥) xs → length xs ≡ 0
none_of [] e = refl
none_of (x ∷ xs) e = absurd e.0

pub each-times : (P : List Bool → Type 0) (w : List Bool) (ws : List (List Bool)) → Each P ws → 1 ≤ times w ws → P w
each-times P w [] e h = absurd (omega arith)
each-times P w (v ∷ ws) e h = go (same w v) refl (each-times P w ws e.1)
  where
    go : (t : Bool) → same w v ≡ t → (1 ≤ times w ws → P w) → P w
    go true q ih = subst P (sym (same-is w v q)) e.0
    go false q ih = let k : 1 ≤ cond false 1 0 + times w ws = subst (λ t. 1 ≤ cond t 1 0 + times w ws) q h in ih (omega arith)

-- at most one is empty, and it passes
empties : (test : List Bool → Bool) (ws : List (List Bool)) → times [] ws ≤ 1 → (1 ≤ times [] ws → test [] ≡ true) → times [] ws ≤ cond (test []) 1 0
empties test ws h f = go (test []) refl
  where
    go : (t : Bool) → test [] ≡ t → times [] ws ≤ cond t 1 0
    go true e = h
    go false e = elim (cases (times [] ws)) [ inl z ↦ omega arith | inr o ↦ absurd (false≢true (sym e ∙ f o)) ]
      where
        cases : (n : ℕ) → (n ≡ 0) ⊎ (1 ≤ n)
        cases zero = inl refl
        cases (suc n) = inr (omega arith)

abbrev pub Within : (List Bool → Bool) → ℕ → List Bool → Type 0
Within test n w = (test w ≡ true) × (length w ≤ n)

pub distinct-within : (n : ℕ) (test : List Bool → Bool) (ws : List (List Bool)) → ((w : List Bool) → times w ws ≤ 1) → Each (Within test n) ws → length ws ≤ count test (paths_up_to n)
unfolding paths_up_to
distinct-within zero test ws once e =
    let p = parts ws in
    let a = empties test ws (once []) (λ h. (each-times (Within test zero) [] ws e h).0) in
    let f = none_of (tails false ws) (each-tails false (Within test zero) (λ w. ⊥) (λ w h. omega arith) ws e) in
    let t = none_of (tails true ws) (each-tails true (Within test zero) (λ w. ⊥) (λ w h. omega arith) ws e) in
    omega arith
distinct-within (suc n) test ws once e =
    let p = parts ws in
    let a = empties test ws (once []) (λ h. (each-times (Within test (suc n)) [] ws e h).0) in
    let f = distinct-within n (λ w. test (false ∷ w)) (tails false ws) (λ w. rw (times-tails false w ws) (once (false ∷ w))) (each-tails false (Within test (suc n)) (Within (λ w. test (false ∷ w)) n) (λ w h. (h.0, omega arith)) ws e) in
    let t = distinct-within n (λ w. test (true ∷ w)) (tails true ws) (λ w. rw (times-tails true w ws) (once (true ∷ w))) (each-tails true (Within test (suc n)) (Within (λ w. test (true ∷ w)) n) (λ w h. (h.0, omega arith)) ws e) in
    let c = count-append test (map (λ path. false ∷ path) (paths_up_to n)) (map (λ path. true ∷ path) (paths_up_to n)) in
    let x = count_map (λ path. false ∷ path) test (paths_up_to n) in
    let y = count_map (λ path. true ∷ path) test (paths_up_to n) in
    omega arith
