-- 01, The budget: "When the fastest delays alone exceed the deadline, the shown path is fixed." Refusal 10: "a path too slow at its fastest".
-- The idea: a part's end, all at fastest, is what the slowest path to it takes, and a step back goes to the part that its start waits for.
-- So the greatest end is the ticks of the path walked back from there. The subtle point: ties go to the lowest number, so the path is one.
-- Assumes nothing.
use Rattle.std.specs.Prelude.{◌≡◌, Option, Some, None, List, [], ◌∷◌, ◌++◌, ℕ, ◌+◌, ◌≤◌, ◌<◌}
use Rattle.theory.specs.Graph.{Graph}
use Rattle.theory.specs.Budget.{Timed}
use Rattle.board.specs.declared.Board.{Board}
use Rattle.board.specs.Board.{usable, view}
pub use Rattle.times.specs.Times.{Loopless}
use Rattle.slow.specs.declared.ShownPath.{ShownPath}
use Rattle.slow.specs.Walk.{trail_of}

module _ (G : Graph) where
  -- a link leads from part q to part p
  pub record Joins (q p : ℕ) : Type 0 where
    pub link : ℕ
    pub here : link < G.links
    pub from : G.from link ≡ q
    pub to : G.to link ≡ p

  -- a path to part p, its parts from first to last, and the ticks that it takes at its fastest: those of its parts and of the links between
  pub data PathTo : ℕ → List ℕ → ℕ → Type 0 where
    alone : {p : ℕ} → p < G.parts → PathTo p (p ∷ []) (G.fastest p)
    onward :
        {p q : ℕ} {before : List ℕ} {ticks : ℕ} → PathTo q before ticks → (j : Joins q p) →
        PathTo p (before ++ (p ∷ [])) (ticks + G.wire j.link + G.fastest p)

  -- "until a part has none before it"
  pub record First (p : ℕ) : Type 0 where
    pub none : (l : ℕ) → l < G.links → G.to l ≡ p → ⊥

  -- below, parts end at e, all at fastest
  module _ (e : ℕ → ℕ) where
    -- "it ends at the lowest-numbered part whose end, all at fastest, is greatest"
    pub record LastPart (p : ℕ) : Type 0 where
      pub here : p < G.parts
      pub greatest : (q : ℕ) → q < G.parts → e q ≤ e p
      pub lowest : (q : ℕ) → q < G.parts → e q ≡ e p → p ≤ q

    -- "each time to the lowest-numbered linked part whose fastest end is greatest": from p to q, by end plus link delay
    pub record StepBack (p q : ℕ) : Type 0 where
      pub by : Joins q p
      pub greatest : (l : ℕ) → l < G.links → G.to l ≡ p → e (G.from l) + G.wire l ≤ e q + G.wire by.link
      pub lowest : (l : ℕ) → l < G.links → G.to l ≡ p → e (G.from l) + G.wire l ≡ e q + G.wire by.link → q ≤ G.from l

    -- "Walk back from that part, .. until a part has none before it. The path is listed from first part to last."
    pub data Walked : ℕ → List ℕ → Type 0 where
      first : {p : ℕ} → First p → Walked p (p ∷ [])
      next : {p q : ℕ} {before : List ℕ} → StepBack p q → Walked q before → Walked p (before ++ (p ∷ []))

-- parts end at e, all at fastest
pub record FastestEnds (b : Board) (e : ℕ → ℕ) : Type 0 where
  pub start : ℕ → ℕ
  pub timed : Timed (view b) (view b).fastest start e

-- the fastest delays alone keep the usable deadline
pub record InTime (b : Board) : Type 0 where
  pub end : ℕ → ℕ
  pub ends : FastestEnds b end
  pub within : (p : ℕ) → p < b.parts → end p ≤ usable b

-- "When the fastest delays alone exceed the deadline, the shown path is fixed"; refusal 10's place is "that path's ticks"
pub record SlowPath (b : Board) (ticks : ℕ) (path : List ℕ) : Type 0 where
  pub end : ℕ → ℕ
  pub part : ℕ
  pub ends : FastestEnds b end
  pub last : LastPart (view b) end part
  pub walked : Walked (view b) end part path
  pub place : ticks ≡ end part
  pub over : usable b < ticks

-- a path of the board that takes more ticks at its fastest than the usable deadline has
pub record TooSlow (b : Board) : Type 0 where
  pub part : ℕ
  pub path : List ℕ
  pub ticks : ℕ
  pub is : PathTo (view b) part path ticks
  pub over : usable b < ticks

-- an answer with that path
unfoldable pub shown : ℕ → List ℕ → Option ShownPath
shown ticks path = Some (record { ticks = ticks; path = trail_of path })

-- which of the two it is: no path is shown in time
pub data SlowOf (b : Board) (r : Option ShownPath) : Type 0 where
  kept : InTime b → r ≡ None → SlowOf b r
  exceeded : {ticks : ℕ} {path : List ℕ} → SlowPath b ticks path → r ≡ shown ticks path → SlowOf b r
