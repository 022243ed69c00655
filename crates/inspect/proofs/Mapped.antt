-- What a result was before its error was mapped. Assumes nothing.
use Rattle.std.proofs.Common.{◌≡◌, Ok, Err, Result, MatchResult, IsErrAnd, refl, ap, subst}

pub ok-before : {A D E : Type 0} (r : Result A E) (s : Result A D) (Q : E → D → Type 0) (x : A)
    → MatchResult r (λ a. s ≡ Ok a) (λ e. IsErrAnd s (Q e)) → s ≡ Ok x → r ≡ Ok x
ok-before (Ok a) s Q x m is = cc
ok-before {D = D} (Err e) s Q x m is = absurd (subst (λ (t : Result _ D). IsErrAnd t (Q e)) is m)

pub err-before : {A D E : Type 0} (r : Result A E) (s : Result A D) (Q : E → D → Type 0) (d : D)
    → MatchResult r (λ a. s ≡ Ok a) (λ e. IsErrAnd s (Q e)) → s ≡ Err d → (e : E) × ((r ≡ Err e) × Q e d)
err-before (Ok a) s Q d m is = absurd (cc)
err-before {D = D} (Err e) s Q d m is = (e, (refl, subst (λ (t : Result _ D). IsErrAnd t (Q e)) is m))

-- an error that is passed on as it is
pub passed-on : {T D : Type 0} (s : Result T D) (d : D) → IsErrAnd s (λ e. e ≡ d) → s ≡ Err d
passed-on (Ok x) d h = absurd h
passed-on (Err e) d h = ap Err h
