-- What a receiver reads of the values that are written. Assumes nothing.
use Rattle.std.proofs.Common.{◌≡◌, ℕ, zero, suc, ◌+◌, ◌-◌, ◌*◌, ◌/◌, ◌%◌, ◌<◌, ◌≤◌, Bool, true, false, cond, eqb, ltb, ◌⊎◌, List, ◌++◌, length, get_or, pos, sym, refl, ap, ◌∙◌, inl, inr, arith, length-append, w16, to_z}
use Rattle.std.proofs.lemmas.List.{get_or_append_left, get_or-append_right}
use Rattle.std.proofs.lemmas.Bool.{lt-ltb}
use Rattle.std.proofs.lemmas.Bool.Decides.{nat_tests}
use Rattle.block.specs.Bytes.{wide}
use Rattle.block.specs.Fields.{received_at}
use Rattle.code.specs.Sending.{byte_of}
use Rattle.sender.specs.Arrivals.{value_of, twos, two_bytes, value_bytes}

pub value-bytes-length : (magnitude : ℕ) (ones : ℕ → Bool) (n : ℕ) → length (value_bytes magnitude ones n) ≡ 2 * n
unfolding value_bytes
value-bytes-length magnitude ones zero = refl
value-bytes-length magnitude ones (suc n) =
    let before = value-bytes-length magnitude ones n in
    length-append (value_bytes magnitude ones n) (two_bytes (twos (value_of magnitude (ones n)))) ∙ omega (arith, before)

-- the word of a value fits two bytes
pub twos-fits : (magnitude : ℕ) (one : Bool) → magnitude ≤ 4095 → twos (value_of magnitude one) < 65536
twos-fits magnitude true h = omega arith
twos-fits magnitude false h = omega arith

wide-last : (front : List ℕ) (x n : ℕ) → length front ≡ 2 * n → x < 65536 → wide (front ++ two_bytes x) (2 * n) ≡ x
wide-last front x n e h =
    let same : 2 * n - 2 * n ≡ 0 = omega arith in
    let next : 2 * n + 1 - 2 * n ≡ 1 = omega arith in
    let high : get_or (front ++ two_bytes x) (2 * n) 0 ≡ x / 256 % 256 =
    get_or-append_right front (two_bytes x) (2 * n) (2 * n) 0 e (omega arith) ∙ ap (λ (j : ℕ). get_or (two_bytes x) j 0) same in
    let low : get_or (front ++ two_bytes x) (2 * n + 1) 0 ≡ x % 256 =
    get_or-append_right front (two_bytes x) (2 * n) (2 * n + 1) 0 e (omega arith) ∙ ap (λ (j : ℕ). get_or (two_bytes x) j 0) next in
    omega arith

wide-front : (front back : List ℕ) (k : ℕ) → 2 * k + 1 < length front → wide (front ++ back) (2 * k) ≡ wide front (2 * k)
wide-front front back k h =
    let high : get_or (front ++ back) (2 * k) 0 ≡ get_or front (2 * k) 0 = get_or_append_left front back 0 (2 * k) (omega arith) in
    let low : get_or (front ++ back) (2 * k + 1) 0 ≡ get_or front (2 * k + 1) 0 = get_or_append_left front back 0 (2 * k + 1) h in
    cc

below-or-last : (k n : ℕ) → k < suc n → (k < n) ⊎ (k ≡ n)
below-or-last k n h = grind arith

-- two bytes of value k, as one number
pub wide-values : (magnitude : ℕ) (ones : ℕ → Bool) → magnitude ≤ 4095 → (n k : ℕ) → k < n
    → wide (value_bytes magnitude ones n) (2 * k) ≡ twos (value_of magnitude (ones k))
unfolding value_bytes
wide-values magnitude ones most zero k h = absurd (omega arith)
wide-values magnitude ones most (suc n) k h =
    let size = value-bytes-length magnitude ones n in
    elim (below-or-last k n h) [
      | inl l ↦
          wide-front (value_bytes magnitude ones n) (two_bytes (twos (value_of magnitude (ones n)))) k (omega arith)
          ∙ wide-values magnitude ones most n k l
      | inr e ↦
          ap (λ (j : ℕ). wide (value_bytes magnitude ones n ++ two_bytes (twos (value_of magnitude (ones n)))) (2 * j)) e
          ∙ wide-last (value_bytes magnitude ones n) (twos (value_of magnitude (ones n))) n size (twos-fits magnitude (ones n) most)
          ∙ ap (λ (j : ℕ). twos (value_of magnitude (ones j))) (sym e)
    ]

-- two's complement there and back
back : (magnitude : ℕ) (one : Bool) → 1 ≤ magnitude → magnitude ≤ 4095 → to_z w16 (twos (value_of magnitude one)) ≡ value_of magnitude one
back magnitude true least most = grind (arith, nat_tests)
back magnitude false least most = grind (arith, nat_tests)

-- what is read of value k is that value
pub received-values : (magnitude : ℕ) (ones : ℕ → Bool) (n k : ℕ) → 1 ≤ magnitude → magnitude ≤ 4095 → k < n
    → received_at (value_bytes magnitude ones n) k ≡ value_of magnitude (ones k)
received-values magnitude ones n k least most h =
    let size = value-bytes-length magnitude ones n in
    let inside : ltb k (length (value_bytes magnitude ones n) / 2) ≡ true = lt-ltb k (length (value_bytes magnitude ones n) / 2) (omega arith) in
    ap (λ (b : Bool). cond b (to_z w16 (wide (value_bytes magnitude ones n) (2 * k))) (pos 0)) inside
    ∙ ap (to_z w16) (wide-values magnitude ones most n k h)
    ∙ back magnitude (ones k) least most

-- a bit that was written as a byte is read again
pub byte-back : (byte : ℕ) (bit : Bool) → byte ≡ byte_of bit → eqb byte 1 ≡ bit
byte-back byte true e = ap (λ (b : ℕ). eqb b 1) e
byte-back byte false e = ap (λ (b : ℕ). eqb b 1) e
