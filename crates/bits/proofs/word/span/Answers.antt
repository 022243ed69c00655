use Rattle.std.proofs.Common.{◌≡◌, ℕ, ◌-◌, ◌*◌, ◌%◌, ◌^◌, ◌<◌, ap, ◌∙◌, arith, pow_pos}
use lib.Pow.{pow-lt}
use Rattle.std.proofs.lemmas.Nat.{one_shl}
use Rattle.base.specs.Bits.{bit_of}
use Rattle.bits.proofs.Masks.{bit-span}
use Rattle.bits.proofs.word.span.Goals as goal

size : (n : ℕ) → n < 6 → 1 * 2 ^ n % 2 ^ 64 ≡ 2 ^ n
size n small = one_shl n 64 (omega arith)

beyond : (n : ℕ) → n < 6 → 1 * 2 ^ (1 * 2 ^ n % 2 ^ 64) % 2 ^ 64 ≡ 2 ^ (2 ^ n)
beyond n small = ap (λ p. 1 * 2 ^ p % 2 ^ 64) (size n small) ∙ one_shl (2 ^ n) 64 (pow-lt small)

pub overflow_shl-result-2 : goal.overflow_shl-result-2
overflow_shl-result-2 c = omega (arith, size c.args.n c.requires.width.0, pow-lt c.requires.width.0)

pub overflow_sub-result : goal.overflow_sub-result
overflow_sub-result c = omega (arith, beyond c.args.n c.requires.width.0, pow_pos (2 ^ c.args.n))

pub returns : goal.returns
returns c = λ k h.
    ap (λ m. bit_of ((m - 1) * 2 ^ c.args.offset % 2 ^ 64) k) (beyond c.args.n c.requires.width.0)
    ∙ bit-span (2 ^ c.args.n) c.args.offset k h
