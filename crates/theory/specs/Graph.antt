-- A board as mathematics: functions of part and link numbers with two counts. Then its times and its flows.
-- The subtle point: a part's `used` counts ticks past its fastest delay and may here pass the slowest, where further ticks save nothing,
-- and a part may wait. The cheapest times do neither all the same (`earliest_budget`), and no theorem needs a special case.
-- Assumes nothing.
use Rattle.std.specs.Prelude.{◌≡◌, ℕ, ◌+◌, ◌-◌, ◌≤◌, ◌<◌}
use Rattle.theory.specs.Sum.{sum, into}
use Rattle.theory.specs.Saving.{Suits, Falling, saves}

-- Parts p < parts and links l < links. A link goes from part `from l` to part `to l` and takes `wire l` ticks.
-- Part p takes `fastest p` ticks at its fastest and `ticks p` more at its slowest. It draws `power p` at its fastest, and the j-th tick
-- past that saves `saving p j`.
pub record Graph : Type 0 where
  pub parts : ℕ
  pub links : ℕ
  pub from : ℕ → ℕ
  pub to : ℕ → ℕ
  pub wire : ℕ → ℕ
  pub fastest : ℕ → ℕ
  pub ticks : ℕ → ℕ
  pub saving : ℕ → ℕ → ℕ
  pub power : ℕ → ℕ

-- Part p runs from start p to end p, and uses `used p` ticks more than its fastest delay.
pub record Times : Type 0 where
  pub start : ℕ → ℕ
  pub end : ℕ → ℕ
  pub used : ℕ → ℕ

-- Loads: of a part, of a link, of a part's entry and of its exit.
pub record Flow : Type 0 where
  pub part : ℕ → ℕ
  pub link : ℕ → ℕ
  pub entry : ℕ → ℕ
  pub exit : ℕ → ℕ

module _ (G : Graph) where
  -- Links join parts of the board; a part takes time; a tick past the slowest delay saves nothing, no tick saves more than one before it,
  -- and all ticks together save no more than the part draws.
  pub record Lawful : Type 0 where
    pub from_in : (l : ℕ) → l < G.links → G.from l < G.parts
    pub to_in : (l : ℕ) → l < G.links → G.to l < G.parts
    pub takes : (p : ℕ) → p < G.parts → 0 < G.fastest p
    pub past : (p : ℕ) → p < G.parts → (j : ℕ) → G.ticks p ≤ j → G.saving p j ≡ 0
    pub falls : (p : ℕ) → p < G.parts → Falling (G.saving p)
    pub affords : (p : ℕ) → p < G.parts → saves (G.saving p) (G.ticks p) ≤ G.power p

  -- no loop, as a number of each part that rises along every link
  pub record Ranked (top : ℕ) : Type 0 where
    pub rank : ℕ → ℕ
    pub rises : (l : ℕ) → l < G.links → rank (G.from l) < rank (G.to l)
    pub below : (p : ℕ) → p < G.parts → rank p < top

  -- the times keep the usable deadline T
  pub record Feasible (T : ℕ) (τ : Times) : Type 0 where
    pub spans : (p : ℕ) → p < G.parts → τ.start p + (G.fastest p + τ.used p) ≡ τ.end p
    pub waits : (l : ℕ) → l < G.links → τ.end (G.from l) + G.wire l ≤ τ.start (G.to l)
    pub ends : (p : ℕ) → p < G.parts → τ.end p ≤ T

  -- what is saved against all parts at their fastest
  unfoldable pub saved : Times → ℕ
  saved τ = sum G.parts (λ p. saves (G.saving p) (τ.used p))

  -- "the sum of the powers": the power at the fastest, less the saving of each tick used
  unfoldable pub total : Times → ℕ
  total τ = sum G.parts (λ p. G.power p - saves (G.saving p) (τ.used p))

  -- as much comes to each part as goes through it, and as goes on from it
  pub record Conserves (φ : Flow) : Type 0 where
    pub arrives : (p : ℕ) → p < G.parts → into G.links G.to φ.link p + φ.entry p ≡ φ.part p
    pub leaves : (p : ℕ) → p < G.parts → into G.links G.from φ.link p + φ.exit p ≡ φ.part p

  -- all that leaves the board
  unfoldable pub value : Flow → ℕ
  value φ = sum G.parts φ.exit

  -- complementary slackness: each part's load suits its ticks, and load runs only where there is no slack
  pub record Slack (T : ℕ) (τ : Times) (φ : Flow) : Type 0 where
    pub suits : (p : ℕ) → p < G.parts → Suits (G.saving p) (τ.used p) (φ.part p)
    pub tight : (l : ℕ) → l < G.links → 0 < φ.link l → τ.end (G.from l) + G.wire l ≡ τ.start (G.to l)
    pub starts : (p : ℕ) → p < G.parts → 0 < φ.entry p → τ.start p ≡ 0
    pub stops : (p : ℕ) → p < G.parts → 0 < φ.exit p → τ.end p ≡ T
