-- What a request for a plan asks, and when it is refused. Assumes nothing.
use Rattle.std.specs.Prelude.{ℕ, ◌+◌, ◌^◌, Bool, cond, ◌&&◌, ◌||◌, Some, None, Option, ◌==◌, nat_le, nat_lt}
use Rattle.base.specs.declared.refusal.Refusal.{Refusal}
use Rattle.base.specs.declared.refusal.Refusal.TheVariants.{Limits, Crowded}
use Rattle.plan.specs.declared.kind.Kind.{Kind}
use Rattle.plan.specs.declared.mode.Mode.{Mode}
use Rattle.plan.specs.declared.request.Request.{Request}
use Rattle.plan.specs.Kinds.{kind_by, open_count}
use Rattle.plan.specs.Order.{mode_of, barred_by}
use Rattle.plan.specs.Reliability.{more_reliable}

-- N
abbrev pub length_for : Request → ℕ
length_for q = 2 ^ q.n

-- K: payload and check bits
abbrev pub word_for : Request → ℕ
word_for q = q.payload + q.check_bits

abbrev pub mode_for : Request → Mode
mode_for q = mode_of q.n (word_for q) q.sent

abbrev pub barred_for : Request → ℕ → Bool
barred_for q i = barred_by (mode_for q) q.n q.sent q.low i

abbrev pub kind_for : Request → ℕ → Kind
kind_for q i = kind_by more_reliable (barred_for q) (length_for q) (word_for q) q.parity i

-- n 5 to 10, A 1 to 512 and no more than H, E 1 to 8,192, t 0 to N, p 0 or 3, L at most 24
abbrev pub within_limits : Request → Bool
within_limits q =
    (nat_le 5 q.n && nat_le q.n 10)
    && (nat_le 1 q.payload && nat_le q.payload 512 && nat_le q.payload q.longest)
    && (nat_le 1 q.sent && nat_le q.sent 8192)
    && nat_le q.low (2 ^ q.n)
    && (q.parity == 0 || q.parity == 3)
    && nat_le q.check_bits 24

-- fewer than K + p positions are not barred
abbrev pub crowded : Request → Bool
crowded q = nat_lt (open_count (barred_for q) (length_for q)) (word_for q + q.parity)

-- what refuses the request, if anything does
abbrev pub verdict : Request → Option Refusal
verdict q = cond (within_limits q) (cond (crowded q) (Some Crowded) None) (Some Limits)
