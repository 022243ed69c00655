-- Parts of lists, named by numbers that may be too large. Assumes nothing.
use Rattle.std.proofs.Common.{◌≡◌, ℕ, ◌+◌, ◌-◌, ◌<◌, ◌≤◌, min, ◌⊎◌, List, ◌++◌, length, take, drop, replicate, sym, ap, ◌∙◌, ap₂, inl, inr, arith}
use Rattle.std.proofs.lemmas.List.{append_assoc, drop_all, drop-append-le, drop-replicate, length-append, length-drop, length-take, take_all, take-append-drop}
use Rattle.std.proofs.lemmas.Bool.{cases_lt}

take_min : {X : Type 0} (n k : ℕ) (xs : List X) → k ≡ min n (length xs) → take k xs ≡ take n xs
take_min n k xs e = go (cases_lt n (length xs))
  where
    go : (n < length xs) ⊎ (length xs ≤ n) → take k xs ≡ take n xs
    go (inl h) = ap (λ i. take i xs) (omega arith)
    go (inr h) = take_all k xs (omega arith) ∙ sym (take_all n xs h)

drop_min : {X : Type 0} (n k : ℕ) (xs : List X) → k ≡ min n (length xs) → drop k xs ≡ drop n xs
drop_min n k xs e = go (cases_lt n (length xs))
  where
    go : (n < length xs) ⊎ (length xs ≤ n) → drop k xs ≡ drop n xs
    go (inl h) = ap (λ i. drop i xs) (omega arith)
    go (inr h) = drop_all k xs (omega arith) ∙ sym (drop_all n xs h)

-- n elements from place i on, as far as there are
pub part-is :
    {X : Type 0} (xs rest : List X) (i n j k : ℕ) → j ≡ min i (length xs) → rest ≡ take (length xs - j) (drop j xs) → k ≡ min n (length rest)
    → take (k - 0) rest ≡ take n (drop i xs)
part-is xs rest i n j k from whole few =
    let all : rest ≡ drop i xs = whole ∙ take_all (length xs - j) (drop j xs) (let e = length-drop j xs in omega arith) ∙ drop_min i j xs from in
    let zero : k - 0 ≡ k = omega arith in
    ap (λ m. take m rest) zero ∙ take_min n k rest few ∙ ap (take n) all

pub front_length : {X : Type 0} (n k : ℕ) (xs : List X) → k ≡ min n (length xs) → length (take (k - 0) xs) ≡ min n (length xs)
front_length n k xs e = let size = length-take (k - 0) xs in omega arith

-- what was written over the front of a part was written over the front of the whole
pub written-front :
    {X : Type 0} (n k : ℕ) (front xs ys : List X) → length front ≡ k → ys ≡ front ++ drop k (take n xs) → length ys ≡ length (take n xs)
    → ys ++ drop n xs ≡ front ++ drop k xs
written-front n k front xs ys size written same =
    let total : length ys ≡ length front + length (drop k (take n xs)) = ap length written ∙ length-append front (drop k (take n xs)) in
    let rest : length (drop k (take n xs)) ≡ length (take n xs) - k = length-drop k (take n xs) in
    let inside : k ≤ length (take n xs) = omega arith in
    ap (λ zs. zs ++ drop n xs) written ∙ append_assoc front (drop k (take n xs)) (drop n xs)
    ∙ ap (λ zs. front ++ zs) (sym (drop-append-le k (take n xs) (drop n xs) inside) ∙ ap (drop k) (take-append-drop n xs))

pub kept-front : {X : Type 0} (n : ℕ) (xs ys : List X) → ys ≡ take n xs → ys ++ drop n xs ≡ xs
kept-front n xs ys e = ap (λ zs. zs ++ drop n xs) e ∙ take-append-drop n xs

-- zeros behind what was copied
pub padded : {X : Type 0} (n k m : ℕ) (v : X) (front bytes : List X) → k ≡ n → front ≡ take (k - 0) bytes → front ++ drop (k - 0) (replicate m v) ≡ take n bytes ++ replicate (m - n) v
padded n k m v front bytes e copied =
    let zero : k - 0 ≡ n = omega arith in
    ap₂ (λ xs i. xs ++ drop i (replicate m v)) (copied ∙ ap (λ i. take i bytes) zero) zero ∙ ap (λ ys. take n bytes ++ ys) (drop-replicate n m v)
