-- What a sweep reaches over the rows of a board is downstream, over the rows turned back upstream.
-- Assumes nothing.
use Rattle.std.proofs.Common.{◌≡◌, ℕ, ◌<◌, List, length, get_or, take, min, sym, ⊎_elim, arith}
use Rattle.base.proofs.Cases.{eq_or_ne}
use Rattle.marks.specs.Marks.{bit, one_of}
use Rattle.marks.proofs.Bits.{mark_below, bit_one_same, bit_one_other, one_fits, exactly_once}
use Rattle.board.specs.declared.Link.{Link}
use Rattle.board.specs.declared.Board.{Board}
use Rattle.board.specs.Board.{Linked, WellFormed}
use Rattle.board.specs.Leads.{Leads, one, more, Reach, here, by}
use Rattle.cone.specs.Cone.{Downstream, Upstream}
use Rattle.cone.specs.Sweeps.{rows_of, columns_of, forth_rows, back_rows, cone_of, downstream_of, upstream_of}
use Rattle.cone.proofs.Marked.{rows_forth, columns_back, forth_fit, back_fit, row_linked, column_linked, linked_row, linked_column}
use Rattle.cone.proofs.Sweeping.{Reached, start, step, reached_fits, reached_marked, reached_all}

-- ---- paths
module _ (b : Board) where
  -- a path and a link after it
  pub path_link : {p q r : ℕ} → Leads b p q → Linked b q r → Leads b p r
  path_link (one l) m = more l (one m)
  path_link (more l t) m = more l (path_link t m)

  pub reach_path : {p q r : ℕ} → Reach b p q → Linked b q r → Leads b p r
  reach_path {p} {q} {r} (here e) m = one {p = p} {q = r} (rw e m)
  reach_path (by t) m = path_link t m

  pub path_reach : {p q r : ℕ} → Linked b p q → Reach b q r → Leads b p r
  path_reach l (here e) = rw (← e) (one l)
  path_reach l (by t) = more l t

-- ---- what is on a path is a part of the board
module _ (b : Board) (ok : WellFormed b) where
  pub path_from : {p q : ℕ} → Leads b p q → p < b.parts
  path_from (one l) = omega (arith, ok.from_in l.link l.here, l.from)
  path_from (more l t) = omega (arith, ok.from_in l.link l.here, l.from)

  pub path_to : {p q : ℕ} → Leads b p q → q < b.parts
  path_to (one l) = omega (arith, ok.to_in l.link l.here, l.to)
  path_to (more l t) = path_to t

  -- so a cone of a part holds parts
  pub reach_to : {p q : ℕ} → p < b.parts → Reach b p q → q < b.parts
  reach_to h (here e) = rw (← e) h
  reach_to h (by t) = path_to t

  pub reach_from : {p q : ℕ} → q < b.parts → Reach b p q → p < b.parts
  reach_from h (here e) = rw e h
  reach_from h (by t) = path_from t

-- the set of p alone holds p
one_is_it : (p q : ℕ) → bit (one_of p) q ≡ 1 → p ≡ q
one_is_it p q h = ⊎_elim (λ e. e) (λ ne. absurd (omega (arith, bit_one_other p q ne))) (eq_or_ne p q)

module _ (b : Board) (ok : WellFormed b) where
  -- ---- along the links
  pub walk : {from a q : ℕ} → Reached (forth_rows b) from a → Leads b a q → Reached (forth_rows b) from q
  walk r (one l) = step r (linked_row b ok _ _ l)
  walk r (more l t) = walk (step r (linked_row b ok _ _ l)) t

  reached_down : {p q : ℕ} → Reached (forth_rows b) (one_of p) q → Reach b p q
  reached_down {p} {q} (start h) = here (one_is_it p q h)
  reached_down (step r h) = by (reach_path b (reached_down r) (row_linked b ok _ _ h))

  -- ---- back
  walk_back : {from p q : ℕ} → Reached (back_rows b) from p → Leads b q p → Reached (back_rows b) from q
  walk_back r (one l) = step r (linked_column b ok _ _ l)
  walk_back r (more l t) = step (walk_back r t) (linked_column b ok _ _ l)

  reached_up : {p q : ℕ} → Reached (back_rows b) (one_of p) q → Reach b q p
  reached_up {p} {q} (start h) = here (sym (one_is_it p q h))
  reached_up (step r h) = by (path_reach b (column_linked b ok _ _ h) (reached_up r))

  module _ (p : ℕ) where
    itself : p < 64 → (rows : List ℕ) → Reached rows (one_of p) p
    itself h rows = start (bit_one_same p h)

    down_reached : (q : ℕ) → q < 64 → Reach b p q → Reached (forth_rows b) (one_of p) q
    down_reached q h (here e) = rw (← e) (itself (omega arith) (forth_rows b))
    down_reached q h (by t) = walk (itself (omega (arith, path_from b ok t, ok.parts_to)) (forth_rows b)) t

    up_reached : (q : ℕ) → q < 64 → Reach b q p → Reached (back_rows b) (one_of p) q
    up_reached q h (here e) = rw e (itself (omega arith) (back_rows b))
    up_reached q h (by t) = walk_back (itself (omega (arith, path_to b ok t, ok.parts_to)) (back_rows b)) t

    -- ---- the computed sets are those that are meant
    pub downstream_is : Downstream b p (downstream_of b p)
    unfolding downstream_of cone_of
    downstream_is =
        let fits = reached_fits (forth_rows b) (one_of p) (forth_fit b) (one_fits p) in
        record {
          fits = fits;
          marked = λ q h. (mark_below _ q fits h, reached_down (reached_marked (forth_rows b) (one_of p) (forth_fit b) (one_fits p) q h));
          all = λ q r. reached_all (forth_rows b) (one_of p) (forth_fit b) (one_fits p) q (down_reached q r.0 r.1);
        }

    pub upstream_is : Upstream b p (upstream_of b p)
    unfolding upstream_of cone_of
    upstream_is =
        let fits = reached_fits (back_rows b) (one_of p) (back_fit b) (one_fits p) in
        record {
          fits = fits;
          marked = λ q h. (mark_below _ q fits h, reached_up (reached_marked (back_rows b) (one_of p) (back_fit b) (one_fits p) q h));
          all = λ q r. reached_all (back_rows b) (one_of p) (back_fit b) (one_fits p) q (up_reached q r.0 r.1);
        }

-- ---- there is one such set, and the two kinds answer each other
module _ (b : Board) (p : ℕ) where
  pub downstream_once : (s t : ℕ) → Downstream b p s → Downstream b p t → s ≡ t
  downstream_once s t = exactly_once (λ q. (q < 64) × Reach b p q) s t

  pub upstream_once : (s t : ℕ) → Upstream b p s → Upstream b p t → s ≡ t
  upstream_once s t = exactly_once (λ q. (q < 64) × Reach b q p) s t

  -- q is downstream of p exactly where p is upstream of q
  pub down_up : p < 64 → (q d u : ℕ) → Downstream b p d → Upstream b q u → bit d q ≡ 1 → bit u p ≡ 1
  down_up few q d u down up h = up.all p (few, (down.marked q h).1)

  pub up_down : (q : ℕ) → q < 64 → (d u : ℕ) → Downstream b p d → Upstream b q u → bit u p ≡ 1 → bit d q ≡ 1
  up_down q few d u down up h = down.all q (few, (up.marked p h).1)

-- ---- `downstream`, `upstream`
module _ (b : Board) (p n r : ℕ) (rows : List ℕ) (cut : n ≡ min b.links 256) (long : length b.link ≡ 256) where
  pub downstream_said : rows ≡ rows_of (take n b.link) → r ≡ cone_of rows p → WellFormed b → Downstream b p r
  unfolding downstream_of
  downstream_said made e ok = rw (e, made, rows_forth b n cut long) (downstream_is b ok p)

  pub upstream_said : rows ≡ columns_of (take n b.link) → r ≡ cone_of rows p → WellFormed b → Upstream b p r
  unfolding upstream_of
  upstream_said made e ok = rw (e, made, columns_back b n cut long) (upstream_is b ok p)
