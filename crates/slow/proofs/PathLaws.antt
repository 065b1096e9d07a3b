-- Paths at their fastest: none takes more ticks than its last part's end, and the walk back finds one that takes as many.
-- A walk is fixed by the ends of the parts.
-- Assumes nothing.
use mathlib.Core.Path.{◌≡◌, refl, sym, ap}
use mathlib.Core.List.{List, [], ◌∷◌, ◌++◌}
use Prim.Native.Nat.{ℕ, ◌+◌, ◌≤◌, ◌<◌}
use native.Mathlib.Omega.{arith}
use lib.ListN.{length, get_or, length-append, get_or-append}
use Rattle.theory.specs.Graph.{Graph, Lawful}
use Rattle.theory.specs.Budget.{arrive, Timed}
use Rattle.theory.proofs.ArriveLaws.{arrive_ge, arrive_le}
use Rattle.slow.specs.Slow.{Joins, PathTo, alone, onward, First, LastPart, StepBack, Walked, first, next}

module _ (G : Graph) (o : Lawful G) where
  open G use {parts, links, from, to, wire, fastest}

  pub joins_to : {q p : ℕ} → Joins G q p → p < parts
  joins_to j = omega (arith, o.to_in j.link j.here, j.to)

  pub joins_from : {q p : ℕ} → Joins G q p → q < parts
  joins_from j = omega (arith, o.from_in j.link j.here, j.from)

  -- ---- ticks
  module _ {s e : ℕ → ℕ} (t : Timed G fastest s e) where
    -- what comes by a link arrives no later than the start
    pub joins_waits : {q p : ℕ} (j : Joins G q p) → e q + wire j.link ≤ s p
    joins_waits {q} {p} j = omega (arith, arrive_ge G e j.link j.here, ap e j.from, ap (arrive G e) j.to, t.starts p (joins_to j))

    pub path_in : {p : ℕ} {path : List ℕ} {ticks : ℕ} → PathTo G p path ticks → p < parts
    path_in (alone h) = h
    path_in (onward w j) = joins_to j

    pub path_le : {p : ℕ} {path : List ℕ} {ticks : ℕ} → PathTo G p path ticks → ticks ≤ e p
    path_le {p} (alone h) = omega (arith, t.ends p h)
    path_le {p} (onward w j) = omega (arith, path_le w, joins_waits j, t.ends p (joins_to j))

    pub walked_path : {p : ℕ} {path : List ℕ} → p < parts → Walked G e p path → PathTo G p path (e p)
    walked_path {p} h (first f) =
        let ticks : e p ≡ fastest p = omega (arith, t.ends p h, t.starts p h, arrive_le G e p 0 (λ l k q. absurd (f.none l k q))) in
        rw ticks (alone h)
    walked_path {p} h (next {q = q} st w) =
        let ticks : e p ≡ e q + wire st.by.link + fastest p =
        omega (arith, t.ends p h, t.starts p h, arrive_le G e p (e q + wire st.by.link) st.greatest, joins_waits st.by) in
        rw ticks (onward (walked_path (joins_from st.by) w) st.by)

  -- ---- the first part has none before it
  walked_some : {e : ℕ → ℕ} {p : ℕ} {path : List ℕ} → Walked G e p path → 0 < length path
  walked_some (first f) = omega arith
  walked_some (next {p = p} {before = before} st w) = omega (arith, walked_some w, length-append before (p ∷ []))

  pub walked_first : {e : ℕ → ℕ} {p : ℕ} {path : List ℕ} → Walked G e p path → First G (get_or path 0 0)
  walked_first (first f) = f
  walked_first (next {p = p} {before = before} st w) = rw (get_or-append before (p ∷ []) 0 0 (walked_some w)) (walked_first w)

  -- ---- ends that agree at the parts have one last part, one step back from each part, and one walk
  module _ {e e' : ℕ → ℕ} (same : (p : ℕ) → p < parts → e p ≡ e' p) where
    pub last_once : {p p' : ℕ} → LastPart G e p → LastPart G e' p' → p ≡ p'
    last_once {p} {p'} l l' =
        let here = same p l.here in
        let there = same p' l'.here in
        let up = l.greatest p' l'.here in
        let up' = l'.greatest p l.here in
        omega (arith, l.lowest p' l'.here (omega arith), l'.lowest p l.here (omega arith))

    step_le : {p q q' : ℕ} → StepBack G e p q → StepBack G e' p q' → q ≤ q'
    step_le {p} {q} {q'} st st' =
        let here = same q (joins_from st.by) in
        let there = same q' (joins_from st'.by) in
        let back = ap e st'.by.from in
        let back' = ap e' st.by.from in
        let up = st.greatest st'.by.link st'.by.here st'.by.to in
        let up' = st'.greatest st.by.link st.by.here st.by.to in
        omega (arith, st.lowest st'.by.link st'.by.here st'.by.to (omega arith), st'.by.from)

  pub walked_once : {e e' : ℕ → ℕ} → ((p : ℕ) → p < parts → e p ≡ e' p) → {p : ℕ} {path path' : List ℕ} → Walked G e p path
      → Walked G e' p path' → path ≡ path'
  walked_once same (first f) (first f') = refl
  walked_once same (first f) (next st' w') = absurd (f.none st'.by.link st'.by.here st'.by.to)
  walked_once same (next st w) (first f') = absurd (f'.none st.by.link st.by.here st.by.to)
  walked_once {e} {e'} same {p} (next {q = q} st w) (next {q = q'} {before = before'} st' w') =
      let back : q' ≡ q = omega (arith, step_le same st st', step_le (λ i h. sym (same i h)) st' st) in
      let w'' : Walked G e' q before' = rw back at w' in
      ap (λ (l : List ℕ). l ++ (p ∷ [])) (walked_once same w w'')
