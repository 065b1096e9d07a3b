-- Tables: the values of a function as a list. Places without a part hold a value of their own.
-- Assumes nothing.
use Rattle.std.specs.Prelude.{List, [], ◌∷◌, ℕ, zero, suc, ltb}
use Rattle.base.specs.Pick.{pick}

-- the list f 0, f 1 .. of n elements
unfoldable pub table : {A : Type 0} → ℕ → (ℕ → A) → List A
table zero f = []
table (suc n) f = f 0 ∷ table n (λ i. f (suc i))

-- 64 places: f of the first n parts, and `none` past them
unfoldable pub firsts : {A : Type 0} → A → ℕ → (ℕ → A) → List A
firsts none n f = table 64 (λ p. pick (ltb p n) (f p) none)
