-- The walk of the code is the walk back of 01: as many steps as parts are enough, since each goes to a part that ends earlier.
-- Assumes nothing.
use mathlib.Core.Path.{◌≡◌, refl, sym, ◌∙◌}
use mathlib.Core.List.{List, [], ◌∷◌, ◌++◌}
use Prim.Native.Nat.{ℕ, zero, suc, ◌+◌, ◌-◌, ◌≤◌, ◌<◌}
use native.Mathlib.Omega.{arith}
use lib.ListN.{length, set, replicate, length-append}
use lib.Seq.{set-append_seam, append_snoc}
use borrow.Author.Tests.{lt-leb}
use Rattle.base.specs.Pick.{pick}
use Rattle.base.proofs.TableLaws.{table_at}
use Rattle.std.specs.Prelude.{Option, Some, None, get_or}
use Rattle.theory.specs.Budget.{Timed}
use Rattle.curve.specs.declared.Ticks.{Ticks}
use Rattle.curve.specs.Rows.{ticks_at}
use Rattle.board.specs.declared.Board.{Board}
use Rattle.board.specs.Board.{view, WellFormed}
use Rattle.board.proofs.Lawful.{lawful}
use Rattle.slow.specs.declared.Trail.{Trail}
use Rattle.slow.specs.Slow.{Walked, first, next}
use Rattle.slow.specs.Walk.{back_of, backs_of, trail_of, pushed_of, walk_of}
use Rattle.slow.proofs.Ways.{nowhere}
use Rattle.slow.proofs.Earlier.{earlier, earlier_lt, earlier_falls}
use Rattle.slow.proofs.Steps.{back_first, back_step}
use Rattle.slow.proofs.PathLaws.{joins_from, joins_waits}

-- ---- a part put behind a path
trail_eq : (n m : ℕ) (xs ys : List ℕ) → n ≡ m → xs ≡ ys → ◌≡◌ {A = Trail} (record { count = n; parts = xs }) (record { count = m; parts = ys })
trail_eq n m xs ys count parts = rw (count, parts)

seam : (path : List ℕ) (p m : ℕ) → set (path ++ replicate (suc m) 0) (length path) p ≡ path ++ (p ∷ []) ++ replicate m 0
seam path p m = set-append_seam path 0 (replicate m 0) p ∙ sym (append_snoc path p (replicate m 0))

pushed_is : (path : List ℕ) (p : ℕ) → length path < 64 → pushed_of (trail_of path) p ≡ trail_of (path ++ (p ∷ []))
unfolding pushed_of trail_of pick
pushed_is path p h =
    let long : length (path ++ (p ∷ [])) ≡ length path + 1 = length-append path (p ∷ []) in
    let room : 64 - length path ≡ suc (64 - length (path ++ (p ∷ []))) = omega arith in
    rw (lt-leb 64 (length path) h)
    (trail_eq _ _ _ _ (sym long) (rw room (seam path p (64 - length (path ++ (p ∷ []))))))

-- ---- the walk from part p
module _ (b : Board) (ok : WellFormed b) (s e : List Ticks) (t : Timed (view b) (view b).fastest (ticks_at s) (ticks_at e)) where
  abbrev backs : List (Option ℕ)
  backs = backs_of b.link s e b.links

  pub record Walks (left p : ℕ) : Type 0 where
    pub path : List ℕ
    pub walked : Walked (view b) (ticks_at e) p path
    pub is : walk_of left backs (Some p) ≡ trail_of path
    pub short : length path ≤ suc (earlier b.parts (ticks_at e) p)

  back_at : (p : ℕ) → p < b.parts → get_or backs p None ≡ back_of b.link s e b.links p
  unfolding backs_of
  back_at p h = table_at None 64 (back_of b.link s e b.links) p (omega (arith, ok.parts_to))

  walk_suc : (left p : ℕ) → p < b.parts → (o : Option ℕ) → back_of b.link s e b.links p ≡ o → (path : List ℕ) → walk_of left backs o ≡ trail_of path
      → length path < 64 → walk_of (suc left) backs (Some p) ≡ trail_of (path ++ (p ∷ []))
  unfolding walk_of pick
  walk_suc left p h o at path is short =
      let here : get_or backs p None ≡ o = back_at p h ∙ at in
      rw (lt-leb 64 p (omega (arith, ok.parts_to)), here, is) (pushed_is path p short)

  walks_to : (left p : ℕ) → p < b.parts → (o : Option ℕ) → back_of b.link s e b.links p ≡ o → ((q : ℕ) → q < b.parts → ticks_at e q < ticks_at e p → Walks left q)
      → Walks (suc left) p
  unfolding view
  walks_to left p h None at onward = record {
    path = p ∷ [];
    walked = first (back_first b ok s e t p h at);
    is = walk_suc left p h None at [] (sym (nowhere backs left None (trail_of []) refl refl)) (omega arith);
    short = omega arith;
  }
  walks_to left p h (Some q) at onward =
      let st = back_step b ok s e t p q h at in
      let here : q < b.parts = joins_from (view b) (lawful b ok) st.by in
      let sooner : ticks_at e q < ticks_at e p = omega (arith, joins_waits (view b) (lawful b ok) t st.by, t.ends p h, (ok.curves p h).fastest_from) in
      let fewer = earlier_falls b.parts (ticks_at e) q p here sooner in
      let w = onward q here sooner in
      record {
        path = w.path ++ (p ∷ []);
        walked = next st w.walked;
        is = walk_suc left p h (Some q) at w.path w.is (omega (arith, w.short, earlier_lt b.parts (ticks_at e) p h, ok.parts_to));
        short = omega (arith, w.short, length-append w.path (p ∷ []));
      }

  pub walks : (left p : ℕ) → p < b.parts → earlier b.parts (ticks_at e) p < left → Walks left p
  walks zero p h l = absurd (omega arith)
  walks (suc left) p h l =
      walks_to left p h (back_of b.link s e b.links p) refl
      (λ q here sooner. walks left q here (omega (arith, earlier_falls b.parts (ticks_at e) q p here sooner)))
