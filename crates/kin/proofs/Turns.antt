-- The two steps. What a step gathers is the least set that holds what it was given and all that the marked rows lead to; where that is
-- nothing new, both sets are closed, and else the other step goes on with fewer parts unmarked.
-- Assumes nothing.
use mathlib.Core.Path.{◌≡◌, ◌∙◌}
use mathlib.Core.Logic.{⊎_elim}
use mathlib.Core.List.{List}
use Prim.Native.Nat.{ℕ, zero, suc, ◌<◌, ◌^◌}
use native.Mathlib.Omega.{arith}
use mir.Syntax.{w64}
use mir.Val.{Fits}
use lib.ListN.{get_or}
use borrow.Author.Tests.{eq-eqb, ne_eqb}
use Rattle.base.specs.Pick.{pick}
use Rattle.base.proofs.Cases.{eq_or_ne}
use Rattle.marks.specs.Marks.{bit, has_of, union_of}
use Rattle.marks.proofs.Bits.{bit_lt, bit_or_not, bit_union, mark_below}
use Rattle.marks.proofs.Counts.{ones_to}
use Rattle.kin.specs.declared.Rows.{Rows}
use Rattle.kin.specs.declared.Kin.{Kin}
use Rattle.kin.specs.Kin.{Within}
use Rattle.kin.specs.Steps.{joined_of, gathered_up_to, gathered_of, Led, Grown, unmarked}
use Rattle.kin.proofs.SetLaws.{within_more}

-- ---- one row: where k is seen, the set gets what its row marks
joined_elim : (P : ℕ → Type 0) (set seen k row : ℕ) → (bit seen k ≡ 1 → P (union_of set row)) → (bit seen k ≡ 0 → P set) → P (joined_of set seen k row)
unfolding joined_of has_of pick
joined_elim P set seen k row put kept =
    ⊎_elim (λ h. rw (eq-eqb (bit seen k) 1 h) (put h)) (λ h. rw (ne_eqb (bit seen k) 1 (λ e. omega arith)) (kept h)) (bit_or_not seen k)

union_left : (a b : ℕ) → Within a (union_of a b)
union_left a b n h = bit_union a b n ∙ omega (arith, bit_lt b n)

union_right : (a b : ℕ) → Within b (union_of a b)
union_right a b n h = bit_union a b n ∙ omega (arith, bit_lt a n)

union_within : (a b u : ℕ) → Within a u → Within b u → Within (union_of a b) u
union_within a b u left right n h =
    ⊎_elim (λ g. left n g) (λ g. right n (omega (arith, bit_union a b n, bit_lt b n))) (bit_or_not a n)

-- ---- the rows of all that are seen
module _ (rows : List ℕ) (seen set : ℕ) where
  keeps_up_to : (k : ℕ) → Within set (gathered_up_to rows seen set k)
  unfolding gathered_up_to
  keeps_up_to zero n h = h
  keeps_up_to (suc k) n h =
      joined_elim (λ (x : ℕ). bit x n ≡ 1) (gathered_up_to rows seen set k) seen k (get_or rows k 0) (λ s. union_left _ (get_or rows k 0) n (keeps_up_to k n h)) (λ s. keeps_up_to k n h)

  led_up_to : (k r q : ℕ) → r < k → bit seen r ≡ 1 → bit (get_or rows r 0) q ≡ 1 → bit (gathered_up_to rows seen set k) q ≡ 1
  unfolding gathered_up_to
  led_up_to zero r q h s row = absurd (omega arith)
  led_up_to (suc k) r q h s row =
      let before = gathered_up_to rows seen set k in
      ⊎_elim
      (λ new. joined_elim (λ (x : ℕ). bit x q ≡ 1) before seen k (get_or rows k 0) (λ is. union_right before (get_or rows k 0) q (rw (← new) row)) (λ not. absurd (omega (arith, (rw new at s)))))
      (λ ne. let was : bit before q ≡ 1 = led_up_to k r q (omega arith) s row in
      joined_elim (λ (x : ℕ). bit x q ≡ 1) before seen k (get_or rows k 0) (λ is. union_left before (get_or rows k 0) q was) (λ not. was))
      (eq_or_ne r k)

  least_up_to : (s u : ℕ) → Within set u → Within seen s → Led rows s u → (k : ℕ) → Within (gathered_up_to rows seen set k) u
  unfolding gathered_up_to
  least_up_to s u set_in seen-in led zero = set_in
  least_up_to s u set_in seen-in led (suc k) =
      let before = gathered_up_to rows seen set k in
      let was : Within before u = least_up_to s u set_in seen-in led k in
      joined_elim (λ (x : ℕ). Within x u) before seen k (get_or rows k 0) (λ is. union_within before (get_or rows k 0) u was (λ n h. led k n (seen-in k is) h)) (λ not. was)

  module _ (t : ℕ) (is : t ≡ gathered_of rows seen set) where
    pub gathered_keeps : Within set t
    unfolding gathered_of
    gathered_keeps = rw is (keeps_up_to 64)

    pub gathered_led : seen < 2 ^ 64 → Led rows seen t
    unfolding gathered_of
    gathered_led f r q h row = rw is (led_up_to 64 r q (mark_below seen r f h) h row)

    pub gathered_least : (s u : ℕ) → Within set u → Within seen s → Led rows s u → Within t u
    unfolding gathered_of
    gathered_least s u set_in seen-in led = rw is (least_up_to s u set_in seen-in led 64)

-- ---- the child step
module _ (t : Rows) (p c d : ℕ) (fp : Fits w64 p) (fc : Fits w64 c) (fd : d < 2 ^ 64) (is : d ≡ gathered_of t.down p c) where
  pub child_falls : (m : ℕ) → (d ≡ c → ⊥) → unmarked p c ≡ m → unmarked p d < m
  unfolding unmarked
  child_falls m ne e = omega (arith, within_more c d fc.fits fd (gathered_keeps t.down p c d is) ne, ones_to p fp.fits, ones_to d fd)

  pub child_stops : d ≡ c → Led t.up c p → Grown t p c (record { parents = p; children = c })
  child_stops e up = record {
    parents_fit = fp.fits;
    children_fit = fc.fits;
    parents_in = λ n h. h;
    children_in = λ n h. h;
    down = rw e at (gathered_led t.down p c d is fp.fits);
    up = up;
    least_parents = λ s u in-s in-u down back. in-s;
    least_children = λ s u in-s in-u down back. in-u;
  }

  pub child_goes : (k : Kin) → (Led t.down p d → Grown t p d k) → Led t.up c p → Grown t p c k
  child_goes k ih up =
      let g : Grown t p d k = ih (gathered_led t.down p c d is fp.fits) in
      record {
        parents_fit = g.parents_fit;
        children_fit = g.children_fit;
        parents_in = g.parents_in;
        children_in = λ n h. g.children_in n (gathered_keeps t.down p c d is n h);
        down = g.down;
        up = g.up;
        least_parents = λ s u in-s in-u down back. g.least_parents s u in-s (gathered_least t.down p c d is s u in-u in-s down) down back;
        least_children = λ s u in-s in-u down back. g.least_children s u in-s (gathered_least t.down p c d is s u in-u in-s down) down back;
      }

-- ---- the parent step
module _ (t : Rows) (p c q : ℕ) (fp : Fits w64 p) (fc : Fits w64 c) (fq : q < 2 ^ 64) (is : q ≡ gathered_of t.up c p) where
  pub parent_falls : (m : ℕ) → (q ≡ p → ⊥) → unmarked p c ≡ m → unmarked q c < m
  unfolding unmarked
  parent_falls m ne e = omega (arith, within_more p q fp.fits fq (gathered_keeps t.up c p q is) ne, ones_to c fc.fits, ones_to q fq)

  pub parent_stops : q ≡ p → Led t.down p c → Grown t p c (record { parents = p; children = c })
  parent_stops e down = record {
    parents_fit = fp.fits;
    children_fit = fc.fits;
    parents_in = λ n h. h;
    children_in = λ n h. h;
    down = down;
    up = rw e at (gathered_led t.up c p q is fc.fits);
    least_parents = λ s u in-s in-u led back. in-s;
    least_children = λ s u in-s in-u led back. in-u;
  }

  pub parent_goes : (k : Kin) → (Led t.up c q → Grown t q c k) → Led t.down p c → Grown t p c k
  parent_goes k ih down =
      let g : Grown t q c k = ih (gathered_led t.up c p q is fc.fits) in
      record {
        parents_fit = g.parents_fit;
        children_fit = g.children_fit;
        parents_in = λ n h. g.parents_in n (gathered_keeps t.up c p q is n h);
        children_in = g.children_in;
        down = g.down;
        up = g.up;
        least_parents = λ s u in-s in-u led back. g.least_parents s u (gathered_least t.up c p q is u s in-s in-u back) in-u led back;
        least_children = λ s u in-s in-u led back. g.least_children s u (gathered_least t.up c p q is u s in-s in-u back) in-u led back;
      }
