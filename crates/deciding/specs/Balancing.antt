-- Whether loads are a sheet: none above 64,000, and balanced. Each node has a sum: `LEVEL`, and what comes to it, less what goes from it.
-- Assumes nothing.
use Rattle.std.specs.Prelude.{◌≡◌, Bool, true, false, List, ℕ, ◌+◌, ◌-◌, ◌≤◌, ◌<◌}
use Rattle.theory.specs.Sum.{into, cells}
use Rattle.nets.specs.declared.Net.{Net}
use Rattle.nets.specs.Flow.{Sheet}
use Rattle.nets.specs.Steps.{Put}

-- what every sum starts at: more than can go from a node
abbrev pub LEVEL : ℕ
LEVEL = 30000000

-- the sums s of the first n arcs
pub record Sums (tail head x : ℕ → ℕ) (n : ℕ) (s : ℕ → ℕ) : Type 0 where
  pub sums : (v : ℕ) → v < 130 → s v + into n tail x v ≡ LEVEL + into n head x v

-- the loads x are a sheet
unfoldable pub SheetIn : Net → List ℕ → Type 0
SheetIn net x = Sheet net.arcs (cells net.tail) (cells net.head) (cells x)

module _ (net : Net) (x : List ℕ) where
  -- arc a lies within the sheets, and its load can be carried
  pub record Weighable (s : List ℕ) (a : ℕ) : Type 0 where
    pub arc_in : a < 448
    pub tail_in : cells net.tail a < 130
    pub head_in : cells net.head a < 130
    pub fits : cells s (cells net.head a) + cells x a ≤ 4000000000
    pub enough : (s' : ℕ → ℕ) → Put (cells s) (cells net.head a) (cells s (cells net.head a) + cells x a) s' → cells x a ≤ s' (cells net.tail a)

  -- the load of arc a goes to its head, and then from its tail
  pub record Weighs (s : List ℕ) (a : ℕ) (s' : List ℕ) : Type 0 where
    pub between : ℕ → ℕ
    pub head : Put (cells s) (cells net.head a) (cells s (cells net.head a) + cells x a) between
    pub tail : Put between (cells net.tail a) (between (cells net.tail a) - cells x a) (cells s')

  -- the first n arcs
  pub record Weighing (n : ℕ) (s : List ℕ) : Type 0 where
    pub small : (a : ℕ) → a < n → cells x a ≤ 64000
    pub weighed : Sums (cells net.tail) (cells net.head) (cells x) n (cells s)

  pub record WeighedIn (s : List ℕ) (r : Bool) : Type 0 where
    pub yes : r ≡ true → Weighing net.arcs s
    pub no : r ≡ false → SheetIn net x → ⊥

  pub record BalancedIn (r : Bool) : Type 0 where
    pub yes : r ≡ true → SheetIn net x
    pub no : r ≡ false → SheetIn net x → ⊥
