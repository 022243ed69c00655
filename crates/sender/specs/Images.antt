-- The block file of a request and its sent bits, byte for byte. Assumes nothing.
use Rattle.std.specs.Prelude.{ℕ, ◌/◌, ◌%◌, List, [], ◌∷◌, ◌++◌, length, vec_items}
use Rattle.block.specs.Codes.{check_code, store_code}
use Rattle.block.specs.declared.numbers.PlanNumbers.{PlanNumbers}
use Rattle.block.specs.declared.numbers.SearchNumbers.{SearchNumbers}
use Rattle.block.specs.Layout.{written}
use Rattle.sender.specs.declared.request.Request.{Request}
use Rattle.sender.specs.Arrivals.{arriving, value_bytes}

-- n, A, E, t, p, check
abbrev pub plan_body : PlanNumbers → List ℕ
plan_body p =
    p.n ∷ (p.payload / 256 % 256) ∷ (p.payload % 256) ∷ (p.sent / 256 % 256) ∷ (p.sent % 256)
    ∷ (p.low / 256 % 256) ∷ (p.low % 256) ∷ p.parity ∷ check_code p.check ∷ []

-- S, store, C, T, words wanted
abbrev pub search_body : SearchNumbers → List ℕ
search_body s =
    s.capacity ∷ store_code s.store ∷ (s.failures / 256 % 256) ∷ (s.failures % 256)
    ∷ (s.steps / 16777216 % 256) ∷ (s.steps / 65536 % 256) ∷ (s.steps / 256 % 256) ∷ (s.steps % 256)
    ∷ s.words ∷ []

-- the values of sent bits that arrive as the request says
abbrev pub values_body : Request → (bits : List ℕ) → List ℕ
values_body request bits =
    value_bytes request.magnitude (arriving (vec_items request.flips) bits) (length bits)

-- three fields, one after the other
abbrev pub image_of : Request → (bits : List ℕ) → List ℕ
image_of request bits =
    written 1 (plan_body request.plan) ++ (written 2 (search_body request.search) ++ written 3 (values_body request bits))
