-- The table's put and take as steps on the list of its slots. Assumes what each section names.
use Rattle.std.proofs.Common.{◌≡◌, ℕ, ◌+◌, ◌<◌, Bool, true, false, cond, List, [], ◌∷◌, ◌++◌, length, get_or, take, drop, set, Some, None, Option, MatchOption, sym, refl, ap, ◌∙◌, arith}
use Rattle.std.proofs.lemmas.List.{append_assoc, drop_more, drop-set-lt, length_push, same_from_push, take_more_set}
use Rattle.store.specs.Ordered.{inserted, in_order}
use Rattle.store.proofs.Inserts.{insert-after, insert-here, insert-first, none-before-head}

module _ {X : Type 0} (before : X → X → Bool) where
  -- of the element met and the one carried, the first stays and the other goes on
  pub insert-in-turn :
      (x : X) (xs : List X) (c : X) → in_order before (x ∷ xs) ≡ true
      → inserted before (x ∷ xs) c ≡ cond (before x c) x c ∷ inserted before xs (cond (before x c) c x)
  insert-in-turn x xs c h =
      elim (before x c) as (λ b. before x c ≡ b → inserted before (x ∷ xs) c ≡ cond b x c ∷ inserted before xs (cond b c x)) [
        | true ↦ insert-after before x xs c
        | false ↦ (λ f. insert-here before x xs c f ∙ ap (λ ys. c ∷ ys) (sym (insert-first before xs x (none-before-head before x xs h))))
      ]
      refl

  -- one turn of the squeeze, with c carried to the place i
  pub squeeze-more :
      (whole xs : List X) (i : ℕ) (c d stays goes : X) → i < length xs → in_order before (drop i xs) ≡ true
      → stays ≡ cond (before (get_or xs i d) c) (get_or xs i d) c → goes ≡ cond (before (get_or xs i d) c) c (get_or xs i d)
      → whole ≡ take i xs ++ inserted before (drop i xs) c
      → whole ≡ take (i + 1) (set xs i stays) ++ inserted before (drop (i + 1) (set xs i stays)) goes
  squeeze-more whole xs i c d stays goes h ordered first second e =
      let split = drop_more xs i d h in
      let turn = insert-in-turn (get_or xs i d) (drop (i + 1) xs) c (rw split at ordered) in
      let lt : i < i + 1 = omega arith in
      rw (first, second, take_more_set, drop-set-lt (i + 1), append_assoc)
      (e ∙ ap (λ ys. take i xs ++ inserted before ys c) split ∙ ap (λ ys. take i xs ++ ys) turn)

-- the first goes to the end, and then the last out of use
pub rotated-popped :
    {X : Type 0} (xs ys : List X) {zs : List X} (r : Option X) → (xs ≡ [] → ⊥) → zs ≡ drop 1 xs ++ take 1 xs
    → MatchOption r (zs ≡ []) (λ c. zs ≡ ys ++ c ∷ []) → ys ≡ drop 1 xs
rotated-popped [] ys r some e h = absurd (some refl)
rotated-popped (x ∷ xs) ys None some e h =
    let long : length (xs ++ x ∷ []) ≡ 0 = ap length (sym e ∙ h) in absurd (let b : ⊥ = omega (arith, long, length_push xs x) in b)
rotated-popped (x ∷ xs) ys (Some c) some e h = (same_from_push ys xs c x (sym h ∙ e)).0
